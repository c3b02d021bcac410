-- The kinds and the spelling of the values of stored tables, by the names of their relations.
use Rattle.std.proofs.Common.{◌≡◌, ℕ, zero, suc, ◌<◌, ◌+◌, ◌==◌, Bool, true, false, List, [], ◌∷◌, map, length, get_or, Some, Contains, refl, sym, ◌∙◌, ap, subst, inl, inr, if◌then◌else◌, arith}
use Rattle.std.specs.Prelude.{unwrap_or}
use Rattle.std.specs.List.{AllByRecursion, IsDistinct, list_all}
use Rattle.std.proofs.lemmas.Bool.{and_parts, cases_Bool, true≢false}
use Rattle.std.proofs.lemmas.List.Elements.{Contains-get_or}
use Rattle.std.proofs.lemmas.Map.Keys.{IsDistinct-head, IsDistinct-tail}
use Rattle.wh_base.specs.declared.value.Attr.{Attr}
use Rattle.wh_base.specs.declared.value.Kind.{Kind}
use Rattle.wh_base.specs.declared.value.Kind.TheVariants as kind
use Rattle.wh_base.specs.declared.value.Value.{Value}
use Rattle.wh_base.specs.Columns.{name_eq, names_of, place_of, value_at, value_of}
use Rattle.wh_base.specs.Cond.{kind_of}
use Rattle.wh_base.specs.Value.{kinds, row_kinds, value_kind}
use Rattle.wh_codec.specs.Body.{IsSpelledValue}
use Rattle.wh_schema.specs.declared.spec.Spec.{Spec}
use Rattle.wh_schema.specs.Heads.{typed_names}
use Rattle.wh_schema.specs.Legality.{WellFormed}
use Rattle.wh_schema.specs.Rules.{joined_attrs, kind_in, same_kind, same_kinds}
use Rattle.wh_schema.specs.Warehouse.{Row, columns_of, numbers, relation_at, view_at}
use Rattle.wh_store.specs.Image.{fit_attrs, fit_stored, fits_stored, stored_count}
use Rattle.wh_laws.proofs.Equality.{Name, is_in_decides, name_eq_decides, when_false}
use Rattle.wh_laws.proofs.Lists.{Contains-nil, Contains-cases, every_from, map_from, map_in, map_map, map_same}
use Rattle.wh_laws.proofs.Pieces.{numbers_in}
use Rattle.wh_fit.specs.Fit.{AreSpelledRows}
use Rattle.wh_fit.proofs.AcceptedKinds.{IsKinded, same_kind_is}
use Rattle.wh_fit.proofs.Each.{each_at, each_from, each_in}
use Rattle.wh_fit.proofs.GivenBack.{HoldsOfTables}
use Rattle.wh_fit.proofs.JoinedKinds.{joined_kind}
use Rattle.wh_fit.proofs.KindLemmas.{fits_from, kind_known}
use Rattle.wh_fit.proofs.PieceValues.{HoldsOfViews}
use Rattle.wh_fit.proofs.StoredKinds.{view_attrs, complement_attrs, others_agree}

-- ---- the kinds of values by name

-- the value of a name in a row whose values have kinds that the names have
named_kind : (g : Name → Kind) (names : List Name) (w : Row) → row_kinds w ≡ map g names → (n : Name) → Contains names n → value_kind (value_of names w n) ≡ g n
named_kind g [] w e n k = absurd (Contains-nil n k)
named_kind g (m ∷ names) [] e n k = absurd cc
named_kind g (m ∷ names) (v ∷ w) e n k =
    let first : value_kind v ≡ g m = cc in
    let rest : row_kinds w ≡ map g names = cc in
    by (name_eq n m) refl first (named_kind g names w rest n)
  where
    by : (b : Bool) → name_eq n m ≡ b → value_kind v ≡ g m → (Contains names n → value_kind (value_of names w n) ≡ g n) → value_kind (value_at (v ∷ w) (if b then 0 else suc (place_of names n))) ≡ g n
    by true is first more = first ∙ ap g (sym ((name_eq_decides n m).0 is))
    by false is first more =
        more (elim (Contains-cases m n names k) [
          | inl same ↦ absurd (true≢false (sym ((name_eq_decides n m).1 (sym same)) ∙ is))
          | inr l ↦ l
        ])

-- the kind of an attribute among attributes whose names differ
own_kind : (attrs : List Attr) → IsDistinct name_eq (names_of attrs) → (a : Attr) → Contains attrs a → kind_in attrs a.name ≡ a.kind
own_kind [] d a k = absurd (Contains-nil a k)
own_kind (b ∷ attrs) d a k =
    elim (Contains-cases b a attrs k) [
      | inl same ↦
          ap (λ c. unwrap_or (if c then Some b.kind else kind_of a.name attrs) kind.Int) ((name_eq_decides a.name b.name).1 (ap (λ (x : Attr). x.name) (sym same)))
          ∙ ap (λ (x : Attr). x.kind) same
      | inr l ↦
          let apart : name_eq b.name a.name ≡ false = each_from (λ m. name_eq b.name m ≡ false) (names_of attrs) (IsDistinct-head name_eq b.name (names_of attrs) d) a.name (map_in (λ (x : Attr). x.name) attrs a l) in
          let differs : name_eq a.name b.name ≡ false = elim (cases_Bool (name_eq a.name b.name)) [
            | inl t ↦ absurd (when_false (name_eq b.name a.name) (name_eq_decides b.name a.name) apart (sym ((name_eq_decides a.name b.name).0 t)))
            | inr f ↦ f
          ] in
          ap (λ c. unwrap_or (if c then Some b.kind else kind_of a.name attrs) kind.Int) differs ∙ own_kind attrs (IsDistinct-tail name_eq b.name (names_of attrs) d) a l
    ]

own_kinds : (attrs : List Attr) → IsDistinct name_eq (names_of attrs) → map (kind_in attrs) (names_of attrs) ≡ kinds attrs
own_kinds attrs d = map_map (kind_in attrs) (λ (a : Attr). a.name) attrs ∙ map_same (λ (a : Attr). kind_in attrs a.name) (λ (a : Attr). a.kind) attrs (own_kind attrs d)

-- columns of the same kinds place by place
pair_kind : (left : List Attr) (from : List Name) (right : List Attr) (to : List Name) → same_kinds left from right to ≡ true → (p : ℕ) → p < length to → kind_in left (get_or from p []) ≡ kind_in right (get_or to p [])
pair_kind left from right [] e p l = absurd (omega (arith, l))
pair_kind left [] right (t ∷ to) e p l = absurd cc
pair_kind left (f ∷ from) right (t ∷ to) e zero l = same_kind_is _ _ (and_parts (same_kind (kind_in left f) (kind_in right t)) (same_kinds left from right to) e).0
pair_kind left (f ∷ from) right (t ∷ to) e (suc p) l = pair_kind left from right to (and_parts (same_kind (kind_in left f) (kind_in right t)) (same_kinds left from right to) e).1 p (omega (arith, l))

module _ (spec : Spec) where
  -- the value has the kind of the name in the relation
  abbrev pub HasKind : ℕ → Name → Value → Type 0
  HasKind r n v = value_kind v ≡ kind_in (relation_at spec r).attrs n

  -- the row has the kinds of the attributes of the relation
  abbrev pub HasKinds : ℕ → Row → Type 0
  HasKinds r x = row_kinds x ≡ kinds (relation_at spec r).attrs

-- ---- tables that fit

module _ (spec : Spec) (wf : WellFormed spec) where
  pub kinds_in_row : (r : ℕ) → r < length spec.relations → (x : Row) → HasKinds spec r x → (n : Name) → Contains (columns_of spec r) n → HasKind spec r n (value_of (columns_of spec r) x n)
  kinds_in_row r l x h n k =
      let attrs = (relation_at spec r).attrs in
      named_kind (kind_in attrs) (names_of attrs) x (h ∙ sym (own_kinds attrs (wf.distinct r l))) n k

  pub kinds_of_row : (r : ℕ) → r < length spec.relations → (f : Name → Value) → ((n : Name) → Contains (columns_of spec r) n → HasKind spec r n (f n)) → HasKinds spec r (map f (columns_of spec r))
  kinds_of_row r l f h =
      let attrs = (relation_at spec r).attrs in
      let columns = columns_of spec r in
      map_map value_kind f columns ∙ map_same (λ n. value_kind (f n)) (kind_in attrs) columns h ∙ own_kinds attrs (wf.distinct r l)

module _ (spec : Spec) (wf : WellFormed spec) (kd : IsKinded spec) (tables : List (List Row)) (fit : fit_stored spec tables ≡ true) where
  pub table_fits : (k : ℕ) → k < stored_count spec → fits_stored spec k (get_or tables k []) ≡ true
  table_fits k l =
      every_from (λ q. fits_stored spec q (get_or tables q [])) (numbers (stored_count spec))
      (and_parts (length tables == stored_count spec) (list_all (λ q. fits_stored spec q (get_or tables q [])) (numbers (stored_count spec))) fit).1 k (numbers_in (stored_count spec) k l)

  view_row : (j : ℕ) → j < length spec.views → (w : Row) → Contains (get_or tables j []) w → row_kinds w ≡ map (kind_in (joined_attrs spec (view_at spec j).relations)) (view_at spec j).head
  view_row j l w h =
      let attrs = joined_attrs spec (view_at spec j).relations in
      let head = (view_at spec j).head in
      let one : fit_attrs (typed_names attrs head) (get_or tables j []) ≡ true = subst (λ a. fit_attrs a (get_or tables j []) ≡ true) (view_attrs spec j l) (table_fits j (omega (arith, l))) in
      fits_from (typed_names attrs head) (get_or tables j []) one w h ∙ map_map (λ (a : Attr). a.kind) (λ n. record { name = n; kind = kind_in attrs n }) head

  pub complement_row : (r : ℕ) → r < length spec.relations → (x : Row) → Contains (get_or tables (length spec.views + r) []) x → HasKinds spec r x
  complement_row r l x h =
      let attrs = (relation_at spec r).attrs in
      let k = length spec.views + r in
      let one : fit_attrs attrs (get_or tables k []) ≡ true = subst (λ a. fit_attrs a (get_or tables k []) ≡ true) (complement_attrs spec r l) (table_fits k (omega (arith, l))) in
      fits_from attrs (get_or tables k []) one x h

  member_kind : (j : ℕ) → j < length spec.views → (r : ℕ) → Contains (view_at spec j).relations r → (n : Name) → Contains (columns_of spec r) n → kind_in (joined_attrs spec (view_at spec j).relations) n ≡ kind_in (relation_at spec r).attrs n
  member_kind j l r m n k =
      let members = (view_at spec j).relations in
      let vf = wf.views (view_at spec j) (Contains-get_or spec.views j _ l) in
      let attrs = (relation_at spec r).attrs in
      let is = kind_known n attrs ((is_in_decides (names_of attrs) n).1 k) in
      let joined : kind_of n (joined_attrs spec members) ≡ Some is.0 = joined_kind n spec members is.0 r m is.1 (others_agree spec kd members vf.members n r is.0 m is.1) in
      ap (λ o. unwrap_or o kind.Int) (joined ∙ sym is.1)

  pub kinds_of_views : HoldsOfViews spec (λ j. get_or tables j []) (HasKind spec)
  kinds_of_views = record {
    views = λ j l w h r m n in_head in_columns.
        named_kind (kind_in (joined_attrs spec (view_at spec j).relations)) (view_at spec j).head w (view_row j l w h) n in_head ∙ member_kind j l r m n in_columns;
    inclusions = λ c h p l v is. is ∙ pair_kind (relation_at spec c.from).attrs c.from_cols (relation_at spec c.to).attrs c.to_cols (kd.sides c h).kinds p l;
  }

  pub kinds_of_tables : HoldsOfTables spec tables (HasKinds spec) (HasKind spec)
  kinds_of_tables = record { parts = kinds_of_views; complements = complement_row; values = kinds_in_row spec wf; rows = kinds_of_row spec wf }

-- ---- tables whose values have a spelling

abbrev pub IsSpelledAt : ℕ → Name → Value → Type 0
IsSpelledAt r n v = IsSpelledValue v

abbrev pub AreSpelledAt : ℕ → Row → Type 0
AreSpelledAt r x = AllByRecursion IsSpelledValue x

pub value_spelled : (w : Row) (p : ℕ) → AllByRecursion IsSpelledValue w → IsSpelledValue (value_at w p)
value_spelled [] p h = record { sfits = omega arith }
value_spelled (v ∷ w) zero h = h.0
value_spelled (v ∷ w) (suc p) h = value_spelled w p h.1

pub row_spelled : (names : List Name) (f : Name → Value) → ((n : Name) → Contains names n → IsSpelledValue (f n)) → AllByRecursion IsSpelledValue (map f names)
row_spelled names f h = each_in IsSpelledValue (map f names) (λ v k. let n = map_from f names v k in subst IsSpelledValue n.2 (h n.0 n.1))

module _ (spec : Spec) (tables : List (List Row)) (spelled : AllByRecursion AreSpelledRows tables) where
  pub values_at : (k : ℕ) (x : Row) → Contains (get_or tables k []) x → AllByRecursion IsSpelledValue x
  values_at k x h = each_from (AllByRecursion IsSpelledValue) (get_or tables k []) (each_at AreSpelledRows [] tt tables spelled k) x h

  pub spelling_of_views : HoldsOfViews spec (λ j. get_or tables j []) IsSpelledAt
  spelling_of_views = record {
    views = λ j l w h r m n in_head in_columns. value_spelled w (place_of (view_at spec j).head n) (values_at j w h);
    inclusions = λ c h p l v is. is;
  }

  pub spelling_of_tables : HoldsOfTables spec tables AreSpelledAt IsSpelledAt
  spelling_of_tables = record {
    parts = spelling_of_views;
    complements = λ r l x h. values_at (length spec.views + r) x h;
    values = λ r l x h n k. value_spelled x (place_of (columns_of spec r) n) h;
    rows = λ r l f h. row_spelled (columns_of spec r) f h;
  }
