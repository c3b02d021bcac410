-- What a line of a change does.
use Rattle.std.proofs.Common.{◌≡◌, ℕ, ◌<◌, Bool, true, false, cond, not, ◌&&◌, ◌||◌, nat_eq, if◌then◌else◌, List, [], ◌∷◌, ◌++◌, filter, length, get_or, refl, sym, ◌∙◌, ap, subst, inl, inr}
use Rattle.std.proofs.lemmas.Bool.{cases_eq, cases_Bool, eq-eqb, eqb-true}
use Rattle.std.proofs.lemmas.List.{get_or-set_same, get_or-set_other}
use Rattle.wh_base.specs.RowSet.{has}
use Rattle.wh_base.specs.Value.{row_eq}
use Rattle.wh_base.specs.ValueLaws.{row_eq-Decides, row_eq_equiv}
use Rattle.wh_base.proofs.RowSets.{has-append, has-filter}
use Rattle.wh_schema.specs.Changes.{Line, apply_line}
use Rattle.wh_schema.specs.Warehouse.{Row, State}

one_more : (h c : Bool) → (h || (c || false)) ≡ (if c then true else h)
one_more true true = refl
one_more true false = refl
one_more false true = refl
one_more false false = refl

one_less : (h c : Bool) → (h && not c) ≡ (if c then false else h)
one_less true true = refl
one_less true false = refl
one_less false true = refl
one_less false false = refl

inserted : (rows : List Row) (r x : Row) (b c : Bool) → has rows r ≡ b → row_eq x r ≡ c → has (cond b rows (rows ++ r ∷ [])) x ≡ (if c then true else has rows x)
inserted rows r x true true e f = ap (has rows) ((row_eq-Decides x r).0 f) ∙ e
inserted rows r x true false e f = refl
inserted rows r x false c e f = has-append rows (r ∷ []) x ∙ ap (λ d. has rows x || (d || false)) f ∙ one_more (has rows x) c

deleted : (rows : List Row) (r x : Row) → has (filter (λ y. not (row_eq r y)) rows) x ≡ (if row_eq x r then false else has rows x)
deleted rows r x = has-filter (λ y. not (row_eq r y)) rows x ∙ ap (λ d. has rows x && not d) (row_eq_equiv.symm r x) ∙ one_less (has rows x) (row_eq x r)

changed : (rows : List Row) (r x : Row) (inserts : Bool) → has (cond inserts (cond (has rows r) rows (rows ++ r ∷ [])) (filter (λ y. not (row_eq r y)) rows)) x ≡ (if row_eq x r then inserts else has rows x)
changed rows r x true = inserted rows r x (has rows r) (row_eq x r) refl refl
changed rows r x false = deleted rows r x

at_number : (b c d h : Bool) → b ≡ true → (if c then d else h) ≡ (if b && c then d else h)
at_number b c d h e = ap (λ a. if a && c then d else h) (sym e)

elsewhere : (b c d h : Bool) → b ≡ false → h ≡ (if b && c then d else h)
elsewhere b c d h e = ap (λ a. if a && c then d else h) (sym e)

pub line_changes : (s : State) (line : Line) (i : ℕ) → i < length s → (x : Row)
    → has (get_or (apply_line s line) i []) x ≡ (if nat_eq i line.relation && row_eq x line.row then line.inserts else has (get_or s i []) x)
line_changes s line i l x =
    let r = line.row in
    let new : List Row → List Row = λ rows. cond line.inserts (cond (has rows r) rows (rows ++ r ∷ [])) (filter (λ y. not (row_eq r y)) rows) in
    elim (cases_eq i line.relation) [
      | inl e ↦
          let P : ℕ → Type 0 = λ n. has (get_or (apply_line s line) n []) x ≡ (if row_eq x r then line.inserts else has (get_or s n []) x) in
          let Q : ℕ → Type 0 = λ n. n < length s in
          let there : P line.relation = ap (λ rows. has rows x) (get_or-set_same s line.relation (new (get_or s line.relation [])) [] (subst Q e l)) ∙ changed (get_or s line.relation []) r x line.inserts in
          subst P (sym e) there ∙ at_number (nat_eq i line.relation) (row_eq x r) line.inserts (has (get_or s i []) x) (eq-eqb i line.relation e)
      | inr n ↦
          let no : nat_eq i line.relation ≡ false = elim (cases_Bool (nat_eq i line.relation)) [ inl e ↦ absurd (n (eqb-true i line.relation e)) | inr e ↦ e ] in
          ap (λ rows. has rows x) (get_or-set_other s line.relation i (new (get_or s line.relation [])) [] n)
          ∙ elsewhere (nat_eq i line.relation) (row_eq x r) line.inserts (has (get_or s i []) x) no
    ]
