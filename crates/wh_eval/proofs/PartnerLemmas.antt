-- A row more at a key.
use Rattle.std.proofs.Common.{◌≡◌, ℕ, Bool, true, false, cond, List, [], ◌∷◌, ◌++◌, Some, unwrap_or, if◌then◌else◌, refl, sym, ap, ◌∙◌, map, filter}
use Rattle.std.specs.List.{flat_map}
use Rattle.std.proofs.lemmas.List.{append-nil}
use Rattle.std.proofs.lemmas.Grind.{flat_map-append}
use Rattle.indexmap.specs.IndexMap.{get}
use Rattle.wh_base.specs.declared.value.Value.{Value}
use Rattle.wh_base.specs.Columns.{picked}
use Rattle.wh_base.specs.Value.{row_eq}
use Rattle.wh_base.specs.ValueLaws.{row_eq-Decides, row_eq_equiv}
use Rattle.wh_eval.specs.Partners.{Partners, partners_of, joined_by}

-- the map gets a longer list at one key, and stays at the others
pub partners-added : (m n : Partners) (key rest : List Value) (before : List (List Value))
    → partners_of m key ≡ before
    → ((q : List Value) → get row_eq n q ≡ cond (row_eq key q) (Some (before ++ rest ∷ [])) (get row_eq m q))
    → (q : List Value) → partners_of n q ≡ partners_of m q ++ (if row_eq q key then rest ∷ [] else [])
partners-added m n key rest before was now q = by (row_eq key q) refl
  where
    by : (b : Bool) → row_eq key q ≡ b → partners_of n q ≡ partners_of m q ++ (if row_eq q key then rest ∷ [] else [])
    by true e =
        ap (λ o. unwrap_or o []) (now q ∙ ap (λ b. cond b (Some (before ++ rest ∷ [])) (get row_eq m q)) e)
        ∙ ap (λ k. k ++ rest ∷ []) (sym was ∙ ap (partners_of m) ((row_eq-Decides key q).0 e))
        ∙ sym (ap (λ b. partners_of m q ++ (if b then rest ∷ [] else [])) (row_eq_equiv.symm q key ∙ e))
    by false e =
        ap (λ o. unwrap_or o []) (now q ∙ ap (λ b. cond b (Some (before ++ rest ∷ [])) (get row_eq m q)) e)
        ∙ sym (append-nil (partners_of m q))
        ∙ sym (ap (λ b. partners_of m q ++ (if b then rest ∷ [] else [])) (row_eq_equiv.symm q key ∙ e))

map_of_map : {A B C : Type 0} (f : B → C) (g : A → B) (xs : List A) → map f (map g xs) ≡ map (λ x. f (g x)) xs
map_of_map f g [] = refl
map_of_map f g (x ∷ xs) = ap (λ r. f (g x) ∷ r) (map_of_map f g xs)

-- one left row more is joined with its partners
pub joined_more : (left_key right_key rest_places : List ℕ) (right done : List (List Value)) (row key : List Value) (rests before after : List (List Value))
    → key ≡ picked left_key row
    → rests ≡ map (picked rest_places) (filter (λ other. row_eq key (picked right_key other)) right)
    → before ≡ flat_map (joined_by left_key right_key rest_places right) done
    → after ≡ before ++ map (λ rest. row ++ rest) rests
    → after ≡ flat_map (joined_by left_key right_key rest_places right) (done ++ row ∷ [])
joined_more left_key right_key rest_places right done row key rests before after keyed found so_far now =
    let f = joined_by left_key right_key rest_places right in
    let one : map (λ (rest : List Value). row ++ rest) rests ≡ f row =
    ap (map (λ (rest : List Value). row ++ rest)) (found ∙ ap (λ k. map (picked rest_places) (filter (λ (other : List Value). row_eq k (picked right_key other)) right)) keyed)
    ∙ map_of_map (λ (rest : List Value). row ++ rest) (picked rest_places) (filter (λ (other : List Value). row_eq (picked left_key row) (picked right_key other)) right) in
    now ∙ (λ j. so_far j ++ one j)
    ∙ ap (λ r. flat_map f done ++ r) (sym (append-nil (f row)))
    ∙ sym (flat_map-append f done (row ∷ []))
