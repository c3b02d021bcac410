-- What holds of an expression whose attributes are known.
use Rattle.std.proofs.Common.{◌≡◌, ℕ, Bool, true, false, not, ◌&&◌, ◌||◌, List, [], ◌∷◌, ◌++◌, Result, Ok, Err, IfOk, IsTrue, map, filter, cond, nat_lt, length, refl, sym, ap, subst, ◌∙◌, true≢false}
use Rattle.std.specs.Cmp.{first_so, second_so}
use Rattle.std.specs.Cmp.Lexicographic.{bytes_decides}
use Rattle.wh_base.specs.declared.head.Head.{Head}
use Rattle.wh_base.specs.declared.value.Attr.{Attr}
use Rattle.wh_base.specs.declared.value.Value.{Value}
use Rattle.wh_base.specs.Columns.{name_eq, is_in, all_in, others, names_of}
use Rattle.wh_base.specs.Tables.{Table}
use Rattle.wh_expr.specs.declared.expr.Renaming.{Renaming}
use Rattle.wh_expr.specs.declared.fault.TypeCause.{TypeCause}
use Rattle.wh_expr.specs.declared.fault.TypeFault.{TypeFault}
use Rattle.wh_expr.specs.declared.expr.Expr.{Expr}
use Rattle.wh_expr.specs.declared.expr.Expr.TheOpen.{Expr-F}
use Rattle.wh_expr.specs.declared.expr.Expr.TheViews.{roll-Expr}
use Rattle.wh_expr.specs.declared.expr.Expr.TheFolds.{fold-roll-Expr, ind-Expr, map-Expr, claims}
use Rattle.wh_expr.specs.declared.expr.Expr.TheBlock.{the_family, member-Expr}
use denote.Hole.Holds.{Such}
use Rattle.wh_expr.specs.Meaning.{meaning, meaning_at, tables, uses_only, uses_only_at, reaches, reaches_at}
use Rattle.wh_expr.specs.Rename.{new_name}
use Rattle.wh_expr.specs.Typing.{Fault, Typing, typing, typing_at, attrs_named, joined_attrs, renamed_attrs, unless, here, from_part, base_causes, project_causes, Answers, IsWellTyped}

-- ---- the names of attributes that are made

names_of-named : (attrs : List Attr) (names : List (List ℕ)) → names_of (attrs_named attrs names) ≡ names
names_of-named attrs [] = refl
names_of-named attrs (n ∷ names) = ap (λ ns. n ∷ ns) (names_of-named attrs names)

names_of-append : (xs ys : List Attr) → names_of (xs ++ ys) ≡ names_of xs ++ names_of ys
names_of-append [] ys = refl
names_of-append (x ∷ xs) ys = ap (λ ns. x.name ∷ ns) (names_of-append xs ys)

names_of-others : (left : List (List ℕ)) (right : List Attr) → names_of (filter (λ a. not (is_in left a.name)) right) ≡ others left (names_of right)
names_of-others left [] = refl
names_of-others left (a ∷ right) = by (is_in left a.name) (names_of-others left right)
  where
    by : (b : Bool) → names_of (filter (λ a. not (is_in left a.name)) right) ≡ others left (names_of right)
        → names_of (cond (not b) (a ∷ filter (λ a. not (is_in left a.name)) right) (filter (λ a. not (is_in left a.name)) right)) ≡ cond (not b) (a.name ∷ others left (names_of right)) (others left (names_of right))
    by true h = h
    by false h = ap (λ ns. a.name ∷ ns) h

names_of-joined : (left right : List Attr) → names_of (joined_attrs left right) ≡ names_of left ++ others (names_of left) (names_of right)
names_of-joined left right =
    names_of-append left (filter (λ a. not (is_in (names_of left) a.name)) right)
    ∙ ap (λ ns. names_of left ++ ns) (names_of-others (names_of left) right)

names_of-renamed : (pairs : List Renaming) (attrs : List Attr) → names_of (renamed_attrs pairs attrs) ≡ map (new_name pairs) (names_of attrs)
names_of-renamed pairs [] = refl
names_of-renamed pairs (a ∷ attrs) = ap (λ ns. new_name pairs a.name ∷ ns) (names_of-renamed pairs attrs)

typing_of : (heads : List Head) (y : Expr-F Expr) → typing heads (roll-Expr y) ≡ typing_at heads (map-Expr Expr Typing (typing heads) y)
typing_of heads y = fold-roll-Expr Typing (typing_at heads) y

-- ---- the columns of the meaning

module _ (heads : List Head) (rows : ℕ → List (List Value)) where
  abbrev Is : Expr → Type 0
  Is e = (meaning (tables heads rows) e).columns ≡ names_of (typing heads e).attrs

  abbrev Part : Type 0
  Part = Such the_family (claims Is) member-Expr

  meaning_of : (y : Expr-F Expr) → meaning (tables heads rows) (roll-Expr y) ≡ meaning_at (tables heads rows) (map-Expr Expr Table (meaning (tables heads rows)) y)
  meaning_of y = fold-roll-Expr Table (meaning_at (tables heads rows)) y

  between : (y : Expr-F Expr) → (meaning_at (tables heads rows) (map-Expr Expr Table (meaning (tables heads rows)) y)).columns ≡ names_of (typing_at heads (map-Expr Expr Typing (typing heads) y)).attrs → Is (roll-Expr y)
  between y h = ap (λ (t : Table). t.columns) (meaning_of y) ∙ h ∙ sym (ap (λ (t : Typing). names_of t.attrs) (typing_of heads y))

  at : (y : Expr-F Part) → Is (roll-Expr (map-Expr Part Expr (λ e. e.0) y))
  at (Expr-F.Base n) = between (Expr-F.Base n) refl
  at (Expr-F.Select c p) = between (Expr-F.Select c p.0) p.1
  at (Expr-F.Project names p) = between (Expr-F.Project names p.0) (sym (names_of-named (typing heads p.0).attrs names))
  at (Expr-F.Join p q) = between (Expr-F.Join p.0 q.0) ((λ i. p.1 i ++ others (p.1 i) (q.1 i)) ∙ sym (names_of-joined (typing heads p.0).attrs (typing heads q.0).attrs))
  at (Expr-F.Union p q) = between (Expr-F.Union p.0 q.0) p.1
  at (Expr-F.Minus p q) = between (Expr-F.Minus p.0 q.0) p.1
  at (Expr-F.Rename pairs p) = between (Expr-F.Rename pairs p.0) (ap (map (new_name pairs)) p.1 ∙ sym (names_of-renamed pairs (typing heads p.0).attrs))

  -- the columns of the meaning are the names of the attributes
  pub columns-meaning : (e : Expr) → (meaning (tables heads rows) e).columns ≡ names_of (typing heads e).attrs
  columns-meaning = ind-Expr Is (λ x y is. subst (λ z. Is (roll-Expr z)) is (at y))

-- ---- where there is no fault

append_none : (xs ys : List Fault) → xs ++ ys ≡ [] → (xs ≡ []) × (ys ≡ [])
append_none [] ys h = (refl, h)
append_none (x ∷ xs) ys h = absurd (cc)

part_none : (step : ℕ) (xs : List Fault) → from_part step xs ≡ [] → xs ≡ []
part_none step [] h = refl
part_none step (x ∷ xs) h = absurd (cc)

here_none : (causes : List TypeCause) → here causes ≡ [] → causes ≡ []
here_none [] h = refl
here_none (c ∷ causes) h = absurd (cc)

causes_none : (xs ys : List TypeCause) → xs ++ ys ≡ [] → xs ≡ []
causes_none [] ys h = refl
causes_none (x ∷ xs) ys h = absurd (cc)

unless_none : (b : Bool) (cause : TypeCause) → unless b cause ≡ [] → b ≡ true
unless_none true cause h = refl
unless_none false cause h = absurd (cc)

one_none : (step : ℕ) (xs ys : List Fault) → from_part step xs ++ ys ≡ [] → xs ≡ []
one_none step xs ys h = part_none step xs (append_none (from_part step xs) ys h).0

two_none : (xs ys zs : List Fault) → from_part 0 xs ++ from_part 1 ys ++ zs ≡ [] → (xs ≡ []) × (ys ≡ [])
two_none xs ys zs h =
    let parts = append_none (from_part 0 xs) (from_part 1 ys) (append_none (from_part 0 xs ++ from_part 1 ys) zs h).0 in
    (part_none 0 xs parts.0, part_none 1 ys parts.1)

and_so : (a b : Bool) → a ≡ true → b ≡ true → (a && b) ≡ true
and_so a b h k = ap (λ c. c && b) h ∙ k

no_faults : (heads : List Head) (y : Expr-F Expr) → IsWellTyped heads (roll-Expr y) → (typing_at heads (map-Expr Expr Typing (typing heads) y)).faults ≡ []
no_faults heads y h = sym (ap (λ (t : Typing). t.faults) (typing_of heads y)) ∙ h

-- ---- the numbers that it names

module _ (heads : List Head) where
  abbrev held : ℕ → Bool
  held n = nat_lt n (length heads)

  abbrev IsUsed : Expr → Type 0
  IsUsed e = IsWellTyped heads e → uses_only held e ≡ true

  abbrev UsedPart : Type 0
  UsedPart = Such the_family (claims IsUsed) member-Expr

  used_of : (y : Expr-F Expr) → uses_only held (roll-Expr y) ≡ uses_only_at held (map-Expr Expr Bool (uses_only held) y)
  used_of y = fold-roll-Expr Bool (uses_only_at held) y

  used_at : (y : Expr-F UsedPart) → IsUsed (roll-Expr (map-Expr UsedPart Expr (λ e. e.0) y))
  used_at (Expr-F.Base n) none = used_of (Expr-F.Base n) ∙ unless_none _ _ (here_none (base_causes n heads) (no_faults heads (Expr-F.Base n) none))
  used_at (Expr-F.Select c p) none = used_of (Expr-F.Select c p.0) ∙ p.1 (one_none 0 _ _ (no_faults heads (Expr-F.Select c p.0) none))
  used_at (Expr-F.Project names p) none = used_of (Expr-F.Project names p.0) ∙ p.1 (one_none 0 _ _ (no_faults heads (Expr-F.Project names p.0) none))
  used_at (Expr-F.Join p q) none =
      let parts = two_none _ _ _ (no_faults heads (Expr-F.Join p.0 q.0) none) in
      used_of (Expr-F.Join p.0 q.0) ∙ and_so _ _ (p.1 parts.0) (q.1 parts.1)
  used_at (Expr-F.Union p q) none =
      let parts = two_none _ _ _ (no_faults heads (Expr-F.Union p.0 q.0) none) in
      used_of (Expr-F.Union p.0 q.0) ∙ and_so _ _ (p.1 parts.0) (q.1 parts.1)
  used_at (Expr-F.Minus p q) none =
      let parts = two_none _ _ _ (no_faults heads (Expr-F.Minus p.0 q.0) none) in
      used_of (Expr-F.Minus p.0 q.0) ∙ and_so _ _ (p.1 parts.0) (q.1 parts.1)
  used_at (Expr-F.Rename pairs p) none = used_of (Expr-F.Rename pairs p.0) ∙ p.1 (one_none 0 _ _ (no_faults heads (Expr-F.Rename pairs p.0) none))

  -- each number is that of a head
  pub uses_only-typed : (e : Expr) → IsWellTyped heads e → uses_only (λ n. nat_lt n (length heads)) e ≡ true
  uses_only-typed = ind-Expr IsUsed (λ x y is. subst (λ z. IsUsed (roll-Expr z)) is (used_at y))

-- ---- where a look-up at its attributes goes

-- a name of a list whose names all stand in another stands there too
is_in-all_in : (columns cols : List (List ℕ)) (n : List ℕ) → is_in cols n ≡ true → all_in columns cols ≡ true → is_in columns n ≡ true
is_in-all_in columns [] n h k = absurd (true≢false (sym h))
is_in-all_in columns (c ∷ cols) n h k = by (name_eq n c) refl (is_in-all_in columns cols n)
  where
    by : (b : Bool) → name_eq n c ≡ b → (is_in cols n ≡ true → all_in columns cols ≡ true → is_in columns n ≡ true) → is_in columns n ≡ true
    by true e rest = ap (is_in columns) ((bytes_decides n c).0 e) ∙ first_so (is_in columns c) (all_in columns cols) k
    by false e rest = rest (sym (ap (λ b. b || is_in cols n) e) ∙ h) (second_so (is_in columns c) (all_in columns cols) k)

all_in-trans : (columns cols names : List (List ℕ)) → all_in columns cols ≡ true → all_in cols names ≡ true → all_in columns names ≡ true
all_in-trans columns cols [] h k = refl
all_in-trans columns cols (n ∷ names) h k =
    and_so (is_in columns n) (all_in columns names) (is_in-all_in columns cols n (first_so (is_in cols n) (all_in cols names) k) h)
    (all_in-trans columns cols names h (second_so (is_in cols n) (all_in cols names) k))

module _ (heads : List Head) (names : List (List ℕ)) where
  abbrev IsReached : Expr → Type 0
  IsReached e = IsWellTyped heads e → all_in (names_of (typing heads e).attrs) names ≡ true → reaches heads names e ≡ true

  abbrev ReachedPart : Type 0
  ReachedPart = Such the_family (claims IsReached) member-Expr

  reached_of : (y : Expr-F Expr) → reaches heads names (roll-Expr y) ≡ reaches_at heads names (map-Expr Expr Bool (reaches heads names) y)
  reached_of y = fold-roll-Expr Bool (reaches_at heads names) y

  attrs_of : (y : Expr-F Expr) → all_in (names_of (typing heads (roll-Expr y)).attrs) names ≡ true → all_in (names_of (typing_at heads (map-Expr Expr Typing (typing heads) y)).attrs) names ≡ true
  attrs_of y all = sym (ap (λ (t : Typing). all_in (names_of t.attrs) names) (typing_of heads y)) ∙ all

  reached_at : (y : Expr-F ReachedPart) → IsReached (roll-Expr (map-Expr ReachedPart Expr (λ e. e.0) y))
  reached_at (Expr-F.Base n) none all = reached_of (Expr-F.Base n) ∙ attrs_of (Expr-F.Base n) all
  reached_at (Expr-F.Select c p) none all = reached_of (Expr-F.Select c p.0) ∙ p.1 (one_none 0 _ _ (no_faults heads (Expr-F.Select c p.0) none)) (attrs_of (Expr-F.Select c p.0) all)
  reached_at (Expr-F.Project cols p) none all =
      let faults = no_faults heads (Expr-F.Project cols p.0) none in
      let causes = here_none (project_causes cols (typing heads p.0).attrs) (append_none (from_part 0 (typing heads p.0).faults) (here (project_causes cols (typing heads p.0).attrs)) faults).1 in
      let known = unless_none (all_in (names_of (typing heads p.0).attrs) cols) _ (causes_none _ _ (causes_none _ _ causes)) in
      let named : all_in cols names ≡ true = sym (ap (λ ns. all_in ns names) (names_of-named (typing heads p.0).attrs cols)) ∙ attrs_of (Expr-F.Project cols p.0) all in
      reached_of (Expr-F.Project cols p.0)
      ∙ and_so (all_in cols names) (reaches heads names p.0) named
      (p.1 (one_none 0 _ _ faults) (all_in-trans (names_of (typing heads p.0).attrs) cols names known named))
  reached_at (Expr-F.Join p q) none all = reached_of (Expr-F.Join p.0 q.0)
  reached_at (Expr-F.Union p q) none all = reached_of (Expr-F.Union p.0 q.0)
  reached_at (Expr-F.Minus p q) none all = reached_of (Expr-F.Minus p.0 q.0)
  reached_at (Expr-F.Rename pairs p) none all = reached_of (Expr-F.Rename pairs p.0)

  -- a well-typed expression is reached at names among its attributes
  pub reaches-typed : (e : Expr) → IsWellTyped heads e → all_in (names_of (typing heads e).attrs) names ≡ true → reaches heads names e ≡ true
  reaches-typed = ind-Expr IsReached (λ x y is. subst (λ z. IsReached (roll-Expr z)) is (reached_at y))

-- ---- what an answer says of the meaning

pub columns-answer : (heads : List Head) (e : Expr) (r : Result (List Attr) TypeFault) → Answers r (typing heads e)
    → IfOk r (λ attrs. (rows : ℕ → List (List Value)) → (meaning (tables heads rows) e).columns ≡ names_of attrs)
columns-answer heads e (Ok attrs) h = λ rows. columns-meaning heads rows e ∙ ap names_of (sym h.1)
columns-answer heads e (Err f) h = tt

pub numbers-answer : (heads : List Head) (e : Expr) (r : Result (List Attr) TypeFault) → Answers r (typing heads e) → IfOk r (λ attrs. IsTrue (uses_only (λ n. nat_lt n (length heads)) e))
numbers-answer heads e (Ok attrs) h = uses_only-typed heads e h.0
numbers-answer heads e (Err f) h = tt
