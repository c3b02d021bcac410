-- The tables of a snapshot that is read are in order, whatever numbers it is read from.
use Rattle.std.proofs.Common.{◌≡◌, ℕ, zero, suc, cond, eqb, List, [], ◌∷◌, length, Some, None, subst}
use Rattle.std.specs.Int.{w32, w64}
use Rattle.std.specs.List.{AllByRecursion}
use Rattle.std.proofs.lemmas.Bool.{and_parts}
use Rattle.wh_base.specs.RowSet.{IsAscending}
use Rattle.wh_codec.specs.declared.frame.Frame.{Frame}
use Rattle.wh_codec.specs.declared.frame.Frame.TheVariants.{Snapshot, Change}
use Rattle.wh_codec.specs.Reading.{◌>>=◌, alike, ascends, is_in_form, number_at, spec_at, row_at, many_at, counted_at, table_at, delta_at, snapshot_at, change_at, frame_at, frame_of}
use Rattle.wh_codec.proofs.Fields.{bind_some, some_is}
use Rattle.wh_codec.proofs.Tables.{ascends_is, test_some}
use Rattle.wh_schema.specs.Warehouse.{Row}

table_ascends : (bytes : List ℕ) (found : List Row × List ℕ) → table_at bytes ≡ Some found → IsAscending found.0
unfolding table_at
table_ascends bytes found e =
    let a = bind_some (counted_at row_at bytes) (λ rows. cond (is_in_form rows.0) (Some rows) None) found e in
    let g = test_some (is_in_form a.0.0) a.0 found a.2 in
    subst (λ (y : List Row × List ℕ). IsAscending y.0) g.1 (ascends_is a.0.0 (and_parts (alike a.0.0) (ascends a.0.0) g.0).1)

many_ascend : (n : ℕ) (bytes : List ℕ) (found : List (List Row) × List ℕ) → many_at table_at n bytes ≡ Some found → AllByRecursion IsAscending found.0
unfolding many_at
many_ascend zero bytes found e = subst (λ (y : List (List Row) × List ℕ). AllByRecursion IsAscending y.0) (some_is ([], bytes) found e) tt
many_ascend (suc n) bytes found e =
    let a = bind_some (table_at bytes) (λ first. many_at table_at n first.1 >>= λ others. Some (first.0 ∷ others.0, others.1)) found e in
    let b = bind_some (many_at table_at n a.0.1) (λ others. Some (a.0.0 ∷ others.0, others.1)) found a.2 in
    subst (λ (y : List (List Row) × List ℕ). AllByRecursion IsAscending y.0) (some_is (a.0.0 ∷ b.0.0, b.0.1) found b.2) (table_ascends bytes a.0 a.1, many_ascend n a.0.1 b.0 b.1)

tables_ascend : (bytes : List ℕ) (found : List (List Row) × List ℕ) → counted_at table_at bytes ≡ Some found → AllByRecursion IsAscending found.0
unfolding counted_at
tables_ascend bytes found e =
    let a = bind_some (number_at w32 bytes) (λ n. many_at table_at n.0 n.1) found e in
    many_ascend a.0.0 a.0.1 found a.2

-- the tables of a snapshot are in order
abbrev pub IsInOrder : Frame → Type 0
IsInOrder (Snapshot generation seq spec tables) = AllByRecursion IsAscending tables
IsInOrder (Change seq deltas) = Unit {0}

snapshot_in_order : (bytes : List ℕ) (found : Frame × List ℕ) → snapshot_at bytes ≡ Some found → IsInOrder found.0
unfolding snapshot_at
snapshot_in_order bytes found e =
    let a = bind_some (number_at w64 bytes) (λ generation. number_at w64 generation.1 >>= λ seq. spec_at seq.1 >>= λ spec. counted_at table_at spec.1 >>= λ tables. Some (Snapshot generation.0 seq.0 spec.0 tables.0, tables.1)) found e in
    let b = bind_some (number_at w64 a.0.1) (λ seq. spec_at seq.1 >>= λ spec. counted_at table_at spec.1 >>= λ tables. Some (Snapshot a.0.0 seq.0 spec.0 tables.0, tables.1)) found a.2 in
    let c = bind_some (spec_at b.0.1) (λ spec. counted_at table_at spec.1 >>= λ tables. Some (Snapshot a.0.0 b.0.0 spec.0 tables.0, tables.1)) found b.2 in
    let d = bind_some (counted_at table_at c.0.1) (λ tables. Some (Snapshot a.0.0 b.0.0 c.0.0 tables.0, tables.1)) found c.2 in
    let made : Frame × List ℕ = (Snapshot a.0.0 b.0.0 c.0.0 d.0.0, d.0.1) in
    subst (λ (y : Frame × List ℕ). IsInOrder y.0) (some_is made found d.2) (tables_ascend c.0.1 d.0 d.1)

change_in_order : (bytes : List ℕ) (found : Frame × List ℕ) → change_at bytes ≡ Some found → IsInOrder found.0
unfolding change_at
change_in_order bytes found e =
    let a = bind_some (number_at w64 bytes) (λ seq. counted_at delta_at seq.1 >>= λ deltas. Some (Change seq.0 deltas.0, deltas.1)) found e in
    let b = bind_some (counted_at delta_at a.0.1) (λ deltas. Some (Change a.0.0 deltas.0, deltas.1)) found a.2 in
    let made : Frame × List ℕ = (Change a.0.0 b.0.0, b.0.1) in
    subst (λ (y : Frame × List ℕ). IsInOrder y.0) (some_is made found b.2) tt

front_in_order : (bytes : List ℕ) (found : Frame × List ℕ) → frame_at bytes ≡ Some found → IsInOrder found.0
unfolding frame_at
front_in_order [] found e = absurd cc
front_in_order (zero ∷ bytes) found e = absurd cc
front_in_order (suc zero ∷ bytes) found e = snapshot_in_order bytes found e
front_in_order (suc (suc zero) ∷ bytes) found e = change_in_order bytes found e
front_in_order (suc (suc (suc mark)) ∷ bytes) found e = absurd cc

pub frame_in_order : (body : List ℕ) (frame : Frame) → frame_of body ≡ Some frame → IsInOrder frame
unfolding frame_of
frame_in_order body frame e =
    let a = bind_some (frame_at body) (λ found. cond (eqb (length found.1) 0) (Some found.0) None) frame e in
    let g = test_some (eqb (length a.0.1) 0) a.0.0 frame a.2 in
    subst IsInOrder g.1 (front_in_order body a.0 a.1)
