-- The dumps of relations, one after another.
use Rattle.std.proofs.Common.{◌≡◌, ℕ, zero, suc, ◌+◌, ◌<◌, ◌≤◌, List, [], ◌∷◌, ◌++◌, length, get_or, drop, Option, None, Some, Result, Ok, IfSome, inr, sym, ◌∙◌, ap, subst, arith, append-nil, append_assoc}
use Rattle.std.specs.Option.{option_map}
use Rattle.std.proofs.Math.Seq.{drop-cons}
use Rattle.std.proofs.lemmas.List.{drop_all}
use Rattle.wh_io.specs.Files.{Held}
use Rattle.std.specs.List.{IsDistinct}
use Rattle.wh_base.specs.RowSet.{AreDistinct}
use Rattle.wh_load.specs.Load.{HasDistinctRows}
use Rattle.wh_schema.specs.declared.spec.Relation.{Relation}
use Rattle.wh_schema.specs.Warehouse.{Row, State}
use Rattle.wh_command.specs.Inputs.{and_then, dump_file, dump_files, IsDumpOf, AreDumpsOf, IsNextDump}
use Rattle.wh_command.specs.Steps.{Settles}

-- one relation more
rest_is : (relations : List Relation) (i : ℕ) (r : Relation) → i < length relations → r ≡ get_or relations i r → drop i relations ≡ r ∷ drop (i + 1) relations
rest_is relations i r below is =
    let next : suc i ≡ i + 1 = omega arith in
    drop-cons relations i r below ∙ (λ j. sym is j ∷ drop (next j) relations)

module _ (dir : List ℕ) (relations : List Relation) (i : ℕ) (r : Relation) (below : i < length relations) (is : r ≡ get_or relations i r) (rows : List Row) where
  pub found_more : (told now : Option Held) (found after : State) → after ≡ found ++ rows ∷ [] → now ≡ told → Settles (option_map (λ (h : Held). dump_file h dir r) now) (Ok rows)
      → IfSome told (λ (h : Held). dump_files h dir [] relations ≡ dump_files h dir found (drop i relations))
      → IfSome told (λ (h : Held). dump_files h dir [] relations ≡ dump_files h dir after (drop (i + 1) relations))
  found_more None now found after pushed same settles so_far = tt
  found_more (Some h) now found after pushed same settles so_far =
      let read : dump_file h dir r ≡ Ok rows = subst (λ (o : Option Held). Settles (option_map (λ (h : Held). dump_file h dir r) o) (Ok rows)) same settles in
      so_far ∙ ap (dump_files h dir found) (rest_is relations i r below is) ∙ ap (λ (o : Result (List Row) _). and_then o (λ (rs : List Row). dump_files h dir (found ++ rs ∷ []) (drop (i + 1) relations))) read
      ∙ ap (λ (l : State). dump_files h dir l (drop (i + 1) relations)) (sym pushed)

  pub next_more : (told now : Option Held) → now ≡ told → Settles (option_map (λ (h : Held). dump_file h dir r) now) (Ok rows)
      → IfSome told (λ (h : Held). (file : List ℕ) → IsNextDump h dir (drop i relations) file → IsNextDump h dir relations file)
      → IfSome told (λ (h : Held). (file : List ℕ) → IsNextDump h dir (drop (i + 1) relations) file → IsNextDump h dir relations file)
  next_more None now same settles so_far = tt
  next_more (Some h) now same settles so_far =
      let read : dump_file h dir r ≡ Ok rows = subst (λ (o : Option Held). Settles (option_map (λ (h : Held). dump_file h dir r) o) (Ok rows)) same settles in
      λ file more. so_far file (subst (λ (l : List Relation). IsNextDump h dir l file) (sym (rest_is relations i r below is)) (inr (rows, read, more)))

-- each list of rows is distinct, with one more behind them
distinct_behind : (found : State) (rows : List Row) → HasDistinctRows found → AreDistinct rows → HasDistinctRows (found ++ rows ∷ [])
distinct_behind [] rows all one zero = one
distinct_behind [] rows all one (suc i) = all i
distinct_behind (x ∷ found) rows all one zero = all 0
distinct_behind (x ∷ found) rows all one (suc i) = distinct_behind found rows (λ k. all (suc k)) one i

pub distinct_push : (found after : State) (rows : List Row) → after ≡ found ++ rows ∷ [] → HasDistinctRows found → AreDistinct rows → HasDistinctRows after
distinct_push found after rows pushed all one = subst HasDistinctRows (sym pushed) (distinct_behind found rows all one)

nil_distinct : AreDistinct []
unfolding IsDistinct
nil_distinct = tt

pub distinct_none : (found : State) → found ≡ [] → HasDistinctRows found
distinct_none found none = subst HasDistinctRows (sym none) at
  where
    at : HasDistinctRows []
    at zero = nil_distinct
    at (suc i) = nil_distinct

-- at the beginning
pub found_none : (dir : List ℕ) (relations : List Relation) (found : State) → found ≡ [] → (told : Option Held)
    → IfSome told (λ (h : Held). dump_files h dir [] relations ≡ dump_files h dir found relations)
found_none dir relations found none None = tt
found_none dir relations found none (Some h) = ap (λ (s : State). dump_files h dir s relations) (sym none)

pub next_none : (dir : List ℕ) (relations : List Relation) (told : Option Held) → IfSome told (λ (h : Held). (file : List ℕ) → IsNextDump h dir relations file → IsNextDump h dir relations file)
next_none dir relations None = tt
next_none dir relations (Some h) = λ file next. next

-- the dumps that were read are those of the relations so far
pub dumps_none : (relations : List Relation) (found : State) → found ≡ [] → (more : State) → AreDumpsOf relations more → AreDumpsOf relations (found ++ more)
dumps_none relations found none more dumps = subst (λ (s : State). AreDumpsOf relations (s ++ more)) (sym none) dumps

pub dumps_more : (relations : List Relation) (i : ℕ) (r : Relation) → i < length relations → r ≡ get_or relations i r → (rows : List Row) (found after : State) → after ≡ found ++ rows ∷ []
    → ((more : State) → AreDumpsOf (drop i relations) more → AreDumpsOf relations (found ++ more)) → IsDumpOf r rows → (more : State) → AreDumpsOf (drop (i + 1) relations) more → AreDumpsOf relations (after ++ more)
dumps_more relations i r below is rows found after pushed so_far dump more rest =
    let next = subst (λ (l : List Relation). AreDumpsOf l (rows ∷ more)) (sym (rest_is relations i r below is)) (dump, rest) in
    subst (AreDumpsOf relations) (sym (append_assoc found (rows ∷ []) more) ∙ ap (λ (s : State). s ++ more) (sym pushed)) (so_far (rows ∷ more) next)

pub dumps_over : (relations : List Relation) (i : ℕ) (found : State) → length relations ≤ i → ((more : State) → AreDumpsOf (drop i relations) more → AreDumpsOf relations (found ++ more)) → AreDumpsOf relations found
dumps_over relations i found over so_far =
    let none : AreDumpsOf (drop i relations) [] = subst (λ (l : List Relation). AreDumpsOf l []) (sym (drop_all i relations over)) tt in
    subst (AreDumpsOf relations) (append-nil found) (so_far [] none)
