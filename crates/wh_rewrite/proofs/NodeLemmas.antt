-- The meaning, the rules, the numbers and the place of each kind of node.
use Rattle.std.proofs.Common.{◌≡◌, ℕ, ◌+◌, Bool, true, not, ◌&&◌, List, [], ◌∷◌, ◌++◌, map, filter, length, length-append, Contains, refl, sym, ap, subst, ◌∙◌, inl, inr, ◌⊎◌}
use Rattle.std.proofs.lemmas.Bool.{and_parts}
use Rattle.std.proofs.lemmas.List.{length-map}
use Rattle.std.proofs.lemmas.List.Elements.{Contains-append_cases}
use Rattle.wh_base.specs.declared.cond.Cond.{Cond, out-Cond}
use Rattle.wh_base.specs.declared.cond.Cond.TheOpen.{Cond-F}
use Rattle.wh_base.specs.declared.cond.Cond.TheViews.{roll-Cond}
use Rattle.wh_base.specs.declared.cond.Cond.TheFolds as conds
use Rattle.wh_base.specs.declared.cond.Cond.TheBlock as cond_block
use Rattle.wh_base.specs.declared.cond.Cond.TheVariants as cond
use Rattle.wh_base.specs.declared.cond.CondFault.{CondFault}
use Rattle.wh_base.specs.declared.head.Head.{Head}
use Rattle.wh_base.specs.declared.value.Attr.{Attr}
use Rattle.wh_base.specs.declared.value.Value.{Value}
use Rattle.wh_base.specs.Columns.{names_of, others, cut, place_of, value_at}
use Rattle.wh_base.specs.Cond.{IsTyped, holds}
use Rattle.wh_base.specs.RowSet.{has}
use Rattle.wh_base.specs.Tables.{Table, arranged, join, joined, agree, union}
use Rattle.wh_expr.specs.declared.expr.Expr.{Expr, out-Expr}
use Rattle.wh_expr.specs.declared.expr.Expr.TheOpen.{Expr-F}
use Rattle.wh_expr.specs.declared.expr.Expr.TheViews.{roll-Expr}
use Rattle.wh_expr.specs.declared.expr.Expr.TheFolds.{fold-roll-Expr, para-roll-Expr, ind-Expr, map-Expr, claims}
use Rattle.wh_expr.specs.declared.expr.Expr.TheBlock.{the_family, member-Expr}
use Rattle.wh_expr.specs.declared.expr.Expr.TheVariants.{Base, Select, Project, Join, Union, Minus, Rename, rolls-Base, rolls-Select, rolls-Project, rolls-Join, rolls-Union, rolls-Minus, rolls-Rename}
use Rattle.wh_expr.specs.declared.expr.Renaming.{Renaming}
use Rattle.wh_expr.specs.declared.fault.TypeCause.{TypeCause}
use denote.Hole.Holds.{Such}
use Rattle.wh_expr.specs.Meaning.{meaning, meaning_at, tables, uses_only, uses_only_at}
use Rattle.wh_expr.specs.Rename.{new_name}
use Rattle.wh_expr.specs.Typing.{Fault, Typing, IsWellTyped, typing, here, from_part, cause_of, select_causes, project_causes, join_causes, same_head_causes, rename_causes, attrs_named, joined_attrs, renamed_attrs}
use Rattle.wh_expr.proofs.TypingLemmas.{typing-rolled}
use Rattle.wh_expr.proofs.TypedLemmas.{columns-meaning}
use Rattle.wh_laws.proofs.Lists.{filter_from, map_from, flat_from}
use Rattle.wh_laws.proofs.Equality.{has_decides}
use Rattle.wh_rewrite.specs.Nodes.{selection, selection_at}
use Rattle.wh_rewrite.specs.Pushed.{columns_of, is_pushed, is_pushed_at, may_select, may_project}
use Rattle.wh_rewrite.specs.Rewritten.{AreWide}

-- ---- the rules of each node

module _ (heads : List Head) where
  abbrev attrs_of : Expr → List Attr
  attrs_of e = (typing heads e).attrs

  pub columns_are : (e : Expr) → columns_of heads e ≡ names_of (typing heads e).attrs
  columns_are e = columns-meaning heads (λ _. []) e

  pub typing_Select : (c : Cond) (x : Expr) → typing heads (Select c x) ≡ record { attrs = attrs_of x; faults = from_part 0 (typing heads x).faults ++ here (select_causes c (attrs_of x)) }
  typing_Select c x = typing-rolled heads (Select c x) (Expr-F.Select c x) (sym (rolls-Select c x))

  pub typing_Project : (names : List (List ℕ)) (x : Expr) → typing heads (Project names x) ≡ record { attrs = attrs_named (attrs_of x) names; faults = from_part 0 (typing heads x).faults ++ here (project_causes names (attrs_of x)) }
  typing_Project names x = typing-rolled heads (Project names x) (Expr-F.Project names x) (sym (rolls-Project names x))

  pub typing_Join : (x y : Expr) → typing heads (Join x y) ≡ record { attrs = joined_attrs (attrs_of x) (attrs_of y); faults = from_part 0 (typing heads x).faults ++ from_part 1 (typing heads y).faults ++ here (join_causes (attrs_of x) (attrs_of y)) }
  typing_Join x y = typing-rolled heads (Join x y) (Expr-F.Join x y) (sym (rolls-Join x y))

  pub typing_Union : (x y : Expr) → typing heads (Union x y) ≡ record { attrs = attrs_of x; faults = from_part 0 (typing heads x).faults ++ from_part 1 (typing heads y).faults ++ here (same_head_causes (attrs_of x) (attrs_of y)) }
  typing_Union x y = typing-rolled heads (Union x y) (Expr-F.Union x y) (sym (rolls-Union x y))

  pub typing_Minus : (x y : Expr) → typing heads (Minus x y) ≡ record { attrs = attrs_of x; faults = from_part 0 (typing heads x).faults ++ from_part 1 (typing heads y).faults ++ here (same_head_causes (attrs_of x) (attrs_of y)) }
  typing_Minus x y = typing-rolled heads (Minus x y) (Expr-F.Minus x y) (sym (rolls-Minus x y))

  pub typing_Rename : (pairs : List Renaming) (x : Expr) → typing heads (Rename pairs x) ≡ record { attrs = renamed_attrs pairs (attrs_of x); faults = from_part 0 (typing heads x).faults ++ here (rename_causes pairs (attrs_of x)) }
  typing_Rename pairs x = typing-rolled heads (Rename pairs x) (Expr-F.Rename pairs x) (sym (rolls-Rename pairs x))

  -- ---- a node without fault, from parts without fault

  pub well_Select : (c : Cond) (x : Expr) → IsWellTyped heads x → IsTyped c (typing heads x).attrs → IsWellTyped heads (Select c x)
  well_Select c x h k = ap (λ (t : Typing). t.faults) (typing_Select c x) ∙ (λ i. from_part 0 (h i) ++ here (map cause_of (k i)))

  pub well_Project : (names : List (List ℕ)) (x : Expr) → IsWellTyped heads x → project_causes names (typing heads x).attrs ≡ [] → IsWellTyped heads (Project names x)
  well_Project names x h k = ap (λ (t : Typing). t.faults) (typing_Project names x) ∙ (λ i. from_part 0 (h i) ++ here (k i))

  pub well_Join : (x y : Expr) → IsWellTyped heads x → IsWellTyped heads y → join_causes (typing heads x).attrs (typing heads y).attrs ≡ [] → IsWellTyped heads (Join x y)
  well_Join x y h g k = ap (λ (t : Typing). t.faults) (typing_Join x y) ∙ (λ i. from_part 0 (h i) ++ from_part 1 (g i) ++ here (k i))

  pub well_Union : (x y : Expr) → IsWellTyped heads x → IsWellTyped heads y → same_head_causes (typing heads x).attrs (typing heads y).attrs ≡ [] → IsWellTyped heads (Union x y)
  well_Union x y h g k = ap (λ (t : Typing). t.faults) (typing_Union x y) ∙ (λ i. from_part 0 (h i) ++ from_part 1 (g i) ++ here (k i))

  pub well_Minus : (x y : Expr) → IsWellTyped heads x → IsWellTyped heads y → same_head_causes (typing heads x).attrs (typing heads y).attrs ≡ [] → IsWellTyped heads (Minus x y)
  well_Minus x y h g k = ap (λ (t : Typing). t.faults) (typing_Minus x y) ∙ (λ i. from_part 0 (h i) ++ from_part 1 (g i) ++ here (k i))

  pub well_Rename : (pairs : List Renaming) (x : Expr) → IsWellTyped heads x → rename_causes pairs (typing heads x).attrs ≡ [] → IsWellTyped heads (Rename pairs x)
  well_Rename pairs x h k = ap (λ (t : Typing). t.faults) (typing_Rename pairs x) ∙ (λ i. from_part 0 (h i) ++ here (k i))

  -- ---- the parts of a node without fault have none

  no_append : {X : Type 0} (xs ys : List X) → xs ++ ys ≡ [] → (xs ≡ []) × (ys ≡ [])
  no_append [] ys h = (refl, h)
  no_append (x ∷ xs) ys h = absurd (cc)

  no_part : (step : ℕ) (xs : List Fault) → from_part step xs ≡ [] → xs ≡ []
  no_part step [] h = refl
  no_part step (x ∷ xs) h = absurd (cc)

  no_here : (causes : List TypeCause) → here causes ≡ [] → causes ≡ []
  no_here [] h = refl
  no_here (c ∷ causes) h = absurd (cc)

  one_part : (faults : List Fault) (causes : List TypeCause) → from_part 0 faults ++ here causes ≡ [] → (faults ≡ []) × (causes ≡ [])
  one_part faults causes h = let parts = no_append (from_part 0 faults) (here causes) h in (no_part 0 faults parts.0, no_here causes parts.1)

  pub record Sides (x y : Expr) (wrong : List TypeCause) : Type 0 where
    pub left : IsWellTyped heads x
    pub right : IsWellTyped heads y
    pub causes : wrong ≡ []

  two_parts : (x y : Expr) (causes : List TypeCause) → from_part 0 (typing heads x).faults ++ from_part 1 (typing heads y).faults ++ here causes ≡ [] → Sides x y causes
  two_parts x y causes h =
      let all = no_append (from_part 0 (typing heads x).faults ++ from_part 1 (typing heads y).faults) (here causes) h in
      let parts = no_append (from_part 0 (typing heads x).faults) (from_part 1 (typing heads y).faults) all.0 in
      record { left = no_part 0 (typing heads x).faults parts.0; right = no_part 1 (typing heads y).faults parts.1; causes = no_here causes all.1 }

  none_of : (e : Expr) (t : Typing) → IsWellTyped heads e → typing heads e ≡ t → t.faults ≡ []
  none_of e t h is = sym (ap (λ (s : Typing). s.faults) is) ∙ h

  causes_none : (cs : List CondFault) → map cause_of cs ≡ [] → cs ≡ []
  causes_none [] h = refl
  causes_none (c ∷ cs) h = absurd (cc)

  pub parts_Select : (c : Cond) (x : Expr) → IsWellTyped heads (Select c x) → IsWellTyped heads x × IsTyped c (typing heads x).attrs
  parts_Select c x h = let parts = one_part (typing heads x).faults _ (none_of (Select c x) _ h (typing_Select c x)) in (parts.0, causes_none _ parts.1)

  pub parts_Project : (names : List (List ℕ)) (x : Expr) → IsWellTyped heads (Project names x) → IsWellTyped heads x × (project_causes names (typing heads x).attrs ≡ [])
  parts_Project names x h = one_part (typing heads x).faults _ (none_of (Project names x) _ h (typing_Project names x))

  pub parts_Join : (x y : Expr) → IsWellTyped heads (Join x y) → Sides x y (join_causes (typing heads x).attrs (typing heads y).attrs)
  parts_Join x y h = two_parts x y _ (none_of (Join x y) _ h (typing_Join x y))

  pub parts_Union : (x y : Expr) → IsWellTyped heads (Union x y) → Sides x y (same_head_causes (typing heads x).attrs (typing heads y).attrs)
  parts_Union x y h = two_parts x y _ (none_of (Union x y) _ h (typing_Union x y))

  pub parts_Minus : (x y : Expr) → IsWellTyped heads (Minus x y) → Sides x y (same_head_causes (typing heads x).attrs (typing heads y).attrs)
  parts_Minus x y h = two_parts x y _ (none_of (Minus x y) _ h (typing_Minus x y))

  pub parts_Rename : (pairs : List Renaming) (x : Expr) → IsWellTyped heads (Rename pairs x) → IsWellTyped heads x × (rename_causes pairs (typing heads x).attrs ≡ [])
  parts_Rename pairs x h = one_part (typing heads x).faults _ (none_of (Rename pairs x) _ h (typing_Rename pairs x))

  -- ---- the place of each node

  pub pushed_Base : (n : ℕ) → is_pushed heads (Base n) ≡ true
  pushed_Base n = ap (is_pushed heads) (sym (rolls-Base n)) ∙ para-roll-Expr Bool (is_pushed_at heads) (Expr-F.Base n)

  pub pushed_Select : (c : Cond) (x : Expr) → is_pushed heads (Select c x) ≡ (may_select heads c (out-Expr x) && is_pushed heads x)
  pushed_Select c x = ap (is_pushed heads) (sym (rolls-Select c x)) ∙ para-roll-Expr Bool (is_pushed_at heads) (Expr-F.Select c x)

  pub pushed_Project : (names : List (List ℕ)) (x : Expr) → is_pushed heads (Project names x) ≡ (may_project (out-Expr x) && is_pushed heads x)
  pushed_Project names x = ap (is_pushed heads) (sym (rolls-Project names x)) ∙ para-roll-Expr Bool (is_pushed_at heads) (Expr-F.Project names x)

  pub pushed_Join : (x y : Expr) → is_pushed heads (Join x y) ≡ (is_pushed heads x && is_pushed heads y)
  pushed_Join x y = ap (is_pushed heads) (sym (rolls-Join x y)) ∙ para-roll-Expr Bool (is_pushed_at heads) (Expr-F.Join x y)

  pub pushed_Union : (x y : Expr) → is_pushed heads (Union x y) ≡ (is_pushed heads x && is_pushed heads y)
  pushed_Union x y = ap (is_pushed heads) (sym (rolls-Union x y)) ∙ para-roll-Expr Bool (is_pushed_at heads) (Expr-F.Union x y)

  pub pushed_Minus : (x y : Expr) → is_pushed heads (Minus x y) ≡ (is_pushed heads x && is_pushed heads y)
  pushed_Minus x y = ap (is_pushed heads) (sym (rolls-Minus x y)) ∙ para-roll-Expr Bool (is_pushed_at heads) (Expr-F.Minus x y)

  pub pushed_Rename : (pairs : List Renaming) (x : Expr) → is_pushed heads (Rename pairs x) ≡ is_pushed heads x
  pushed_Rename pairs x = ap (is_pushed heads) (sym (rolls-Rename pairs x)) ∙ para-roll-Expr Bool (is_pushed_at heads) (Expr-F.Rename pairs x)

-- ---- the numbers

module _ (held : ℕ → Bool) where
  pub uses_Select : (c : Cond) (x : Expr) → uses_only held (Select c x) ≡ uses_only held x
  uses_Select c x = ap (uses_only held) (sym (rolls-Select c x)) ∙ fold-roll-Expr Bool (uses_only_at held) (Expr-F.Select c x)

  pub uses_Project : (names : List (List ℕ)) (x : Expr) → uses_only held (Project names x) ≡ uses_only held x
  uses_Project names x = ap (uses_only held) (sym (rolls-Project names x)) ∙ fold-roll-Expr Bool (uses_only_at held) (Expr-F.Project names x)

  pub uses_Join : (x y : Expr) → uses_only held (Join x y) ≡ (uses_only held x && uses_only held y)
  uses_Join x y = ap (uses_only held) (sym (rolls-Join x y)) ∙ fold-roll-Expr Bool (uses_only_at held) (Expr-F.Join x y)

  pub uses_Union : (x y : Expr) → uses_only held (Union x y) ≡ (uses_only held x && uses_only held y)
  uses_Union x y = ap (uses_only held) (sym (rolls-Union x y)) ∙ fold-roll-Expr Bool (uses_only_at held) (Expr-F.Union x y)

  pub uses_Minus : (x y : Expr) → uses_only held (Minus x y) ≡ (uses_only held x && uses_only held y)
  uses_Minus x y = ap (uses_only held) (sym (rolls-Minus x y)) ∙ fold-roll-Expr Bool (uses_only_at held) (Expr-F.Minus x y)

  pub uses_Rename : (pairs : List Renaming) (x : Expr) → uses_only held (Rename pairs x) ≡ uses_only held x
  uses_Rename pairs x = ap (uses_only held) (sym (rolls-Rename pairs x)) ∙ fold-roll-Expr Bool (uses_only_at held) (Expr-F.Rename pairs x)

-- ---- nodes that are left out

abbrev Chosen : Cond → Type 0
Chosen c = (e : Expr) → ((c ≡ cond.Always) × (selection c e ≡ e)) ⊎ (selection c e ≡ Select c e)

chosen_out : (c : Cond) (y : Cond-F Cond) (e : Expr) → out-Cond c ≡ y → selection c e ≡ selection_at c e y
chosen_out c y e is = ap (selection_at c e) is

chosen_at : (y : Cond-F (Such cond_block.the_family (conds.claims Chosen) cond_block.member-Cond)) → Chosen (roll-Cond (conds.map-Cond (Such cond_block.the_family (conds.claims Chosen) cond_block.member-Cond) Cond (λ e. e.0) y))
chosen_at Cond-F.Always = subst Chosen (sym cond.rolls-Always) (λ e. inl (refl, chosen_out cond.Always Cond-F.Always e cond.outs-Always))
chosen_at (Cond-F.Cmp a op b) = subst Chosen (sym (cond.rolls-Cmp a op b)) (λ e. inr (chosen_out (cond.Cmp a op b) (Cond-F.Cmp a op b) e (cond.outs-Cmp a op b)))
chosen_at (Cond-F.And p q) = subst Chosen (sym (cond.rolls-And p.0 q.0)) (λ e. inr (chosen_out (cond.And p.0 q.0) (Cond-F.And p.0 q.0) e (cond.outs-And p.0 q.0)))
chosen_at (Cond-F.Or p q) = subst Chosen (sym (cond.rolls-Or p.0 q.0)) (λ e. inr (chosen_out (cond.Or p.0 q.0) (Cond-F.Or p.0 q.0) e (cond.outs-Or p.0 q.0)))
chosen_at (Cond-F.Not p) = subst Chosen (sym (cond.rolls-Not p.0)) (λ e. inr (chosen_out (cond.Not p.0) (Cond-F.Not p.0) e (cond.outs-Not p.0)))

-- a selection by `Always` is its part
pub selection_is : (c : Cond) (e : Expr) → ((c ≡ cond.Always) × (selection c e ≡ e)) ⊎ (selection c e ≡ Select c e)
selection_is = conds.ind-Cond Chosen (λ x y is. subst (λ z. Chosen (roll-Cond z)) is (chosen_at y))

-- ---- rows as wide as their columns

abbrev pub IsWide : Table → Type 0
IsWide t = (x : List Value) → Contains t.rows x → length x ≡ length t.columns

pub wide_map : (columns names : List (List ℕ)) (rows : List (List Value)) (x : List Value) → Contains (map (cut columns names) rows) x → length x ≡ length names
wide_map columns names rows x h =
    let m = map_from (cut columns names) rows x h in
    ap length (sym m.2) ∙ length-map (map (place_of columns) names) (value_at m.0) ∙ length-map names (place_of columns)

module _ (heads : List Head) (held : ℕ → Bool) (rows : ℕ → List (List Value)) (wide : AreWide heads held rows) where
  abbrev g : ℕ → Table
  g = tables heads rows

  abbrev Is : Expr → Type 0
  Is e = uses_only held e ≡ true → IsWide (meaning g e)

  abbrev Part : Type 0
  Part = Such the_family (claims Is) member-Expr

  rolled : (x : Expr-F Expr) → IsWide (meaning_at g (map-Expr Expr Table (meaning g) x)) → IsWide (meaning g (roll-Expr x))
  rolled x h = subst IsWide (sym (fold-roll-Expr Table (meaning_at g) x)) h

  used_of : (x : Expr-F Expr) → uses_only held (roll-Expr x) ≡ true → uses_only_at held (map-Expr Expr Bool (uses_only held) x) ≡ true
  used_of x used = sym (fold-roll-Expr Bool (uses_only_at held) x) ∙ used

  joined_wide : (t u : Table) → IsWide t → IsWide (join t u)
  joined_wide t u h x k =
      let a = flat_from (joined t.columns u.columns u.rows) t.rows x k in
      let b = map_from (λ y. a.0 ++ cut u.columns (others t.columns u.columns) y) (filter (agree t.columns u.columns a.0) u.rows) x a.2 in
      ap length (sym b.2)
      ∙ length-append a.0 (cut u.columns (others t.columns u.columns) b.0)
      ∙ (λ i. h a.0 a.1 i + (length-map (map (place_of u.columns) (others t.columns u.columns)) (value_at b.0) ∙ length-map (others t.columns u.columns) (place_of u.columns)) i)
      ∙ sym (length-append t.columns (others t.columns u.columns))

  united_wide : (t u : Table) → IsWide t → IsWide (union t u)
  united_wide t u h x k = elim (Contains-append_cases t.rows (arranged t u) x k) [ inl l ↦ h x l | inr r ↦ wide_map u.columns t.columns u.rows x r ]

  at : (y : Expr-F Part) → Is (roll-Expr (map-Expr Part Expr (λ e. e.0) y))
  at (Expr-F.Base n) used = rolled (Expr-F.Base n) (λ x h. wide n (used_of (Expr-F.Base n) used) x ((has_decides (rows n) x).1 h))
  at (Expr-F.Select c p) used = rolled (Expr-F.Select c p.0) (λ x h. p.1 (used_of (Expr-F.Select c p.0) used) x (filter_from (holds c (meaning g p.0).columns) (meaning g p.0).rows x h).0)
  at (Expr-F.Project names p) used = rolled (Expr-F.Project names p.0) (λ x h. wide_map (meaning g p.0).columns names (meaning g p.0).rows x h)
  at (Expr-F.Join p q) used =
      let both = and_parts (uses_only held p.0) (uses_only held q.0) (used_of (Expr-F.Join p.0 q.0) used) in
      rolled (Expr-F.Join p.0 q.0) (joined_wide (meaning g p.0) (meaning g q.0) (p.1 both.0))
  at (Expr-F.Union p q) used =
      let both = and_parts (uses_only held p.0) (uses_only held q.0) (used_of (Expr-F.Union p.0 q.0) used) in
      rolled (Expr-F.Union p.0 q.0) (united_wide (meaning g p.0) (meaning g q.0) (p.1 both.0))
  at (Expr-F.Minus p q) used =
      let both = and_parts (uses_only held p.0) (uses_only held q.0) (used_of (Expr-F.Minus p.0 q.0) used) in
      rolled (Expr-F.Minus p.0 q.0) (λ x h. p.1 both.0 x (filter_from (λ r. not (has (arranged (meaning g p.0) (meaning g q.0)) r)) (meaning g p.0).rows x h).0)
  at (Expr-F.Rename pairs p) used =
      rolled (Expr-F.Rename pairs p.0) (λ x h. p.1 (used_of (Expr-F.Rename pairs p.0) used) x h ∙ sym (length-map (meaning g p.0).columns (new_name pairs)))

  pub wide_meaning : (e : Expr) → uses_only held e ≡ true → IsWide (meaning (tables heads rows) e)
  wide_meaning = ind-Expr Is (λ x y is. subst (λ z. Is (roll-Expr z)) is (at y))
