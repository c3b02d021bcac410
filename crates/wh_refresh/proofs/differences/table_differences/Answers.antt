use Rattle.std.proofs.Common.{◌≡◌, ◌∙◌, ◌+◌, ◌<◌, ◌≤◌, ℕ, zero, suc, List, [], ◌∷◌, ◌++◌, Option, None, Some, length, map, get_or, ap, subst, sym, refl, rules, arith, below_more}
use Rattle.std.specs.List.{AllByRecursion}
use Rattle.std.proofs.lemmas.List.{get_or_append_left, get_or_at, length_push}
use Rattle.wh_base.specs.declared.value.Delta.{Delta}
use Rattle.wh_base.specs.RowSet.{AreDistinct, IsAscending, in_order}
use Rattle.wh_fit.specs.Differences.{difference, differences}
use Rattle.wh_schema.specs.Warehouse.{Row}
use Rattle.wh_store.specs.Image.{no_delta}
use Rattle.wh_store.specs.Warehouse.{no_table, table_at}
use Rattle.wh_store.proofs.StoredLemmas.{item_of}
use Rattle.wh_table.specs.Table.{IndexedRows}
use Rattle.wh_refresh.proofs.Counting.{difference_at, differences_count}
use Rattle.wh_refresh.proofs.OwnImage.{same_items, tables_at}
use Rattle.std.proofs.lemmas.List.{length-map}
use Rattle.wh_refresh.proofs.differences.table_differences.Goals as goal

one_more : (P : ℕ → Delta → Type 0) (deltas after : List Delta) (d : Delta) (n : ℕ) → length deltas ≡ n → after ≡ deltas ++ d ∷ [] → ((j : ℕ) → j < n → P j (get_or deltas j no_delta)) → P n d → (j : ℕ) → j < n + 1 → P j (get_or after j no_delta)
one_more P deltas after d n count is so_far here =
    below_more (λ j. P j (get_or after j no_delta)) n
    (λ j below. subst (P j) (sym (ap (λ (l : List Delta). get_or l j no_delta) is ∙ get_or_append_left deltas (d ∷ []) no_delta j (omega (arith, below, count)))) (so_far j below))
    (subst (P n) (sym (ap (λ (l : List Delta). get_or l n no_delta) is ∙ get_or_at deltas d [] no_delta n count)) here)

told_at : (tables : List IndexedRows) (after : List (List Row)) (k : ℕ) (t : IndexedRows) (rows : List Row) (d : Delta) → t ≡ table_at tables k → rows ≡ get_or after k [] → d ≡ difference (in_order t.rows) rows
    → d ≡ difference (in_order (table_at tables k).rows) (get_or after k [])
told_at tables after k t rows d at there is = is ∙ (λ j. difference (in_order (at j).rows) (there j))

all_told : (tables : List IndexedRows) (after : List (List Row)) (deltas : List Delta) → length deltas ≡ length tables
    → ((j : ℕ) → j < length tables → get_or deltas j no_delta ≡ difference (in_order (table_at tables j).rows) (get_or after j [])) → deltas ≡ differences (map (λ (t : IndexedRows). in_order t.rows) tables) after
all_told tables after deltas count each =
    let before = map (λ (t : IndexedRows). in_order t.rows) tables in
    let long : length before ≡ length tables = length-map tables (λ (t : IndexedRows). in_order t.rows) in
    same_items no_delta deltas (differences before after) (count ∙ sym (differences_count before after ∙ long))
    (λ k below. each k (omega (arith, below, count)) ∙ sym (difference_at before after k (omega (arith, below, count, long)) ∙ ap (λ (rows : List Row). difference rows (get_or after k [])) (tables_at tables k)))

-- an item that is there, whatever stands for one that is not
any_default : {X : Type 0} (xs : List X) (k : ℕ) (d e : X) → k < length xs → get_or xs k d ≡ get_or xs k e
any_default [] k d e below = absurd (omega (arith, below))
any_default (x ∷ xs) zero d e below = refl
any_default (x ∷ xs) (suc k) d e below = any_default xs k d e (omega (arith, below))

item_at : {X : Type 0} (seen xs : List X) (k : ℕ) (x d : X) → x ≡ get_or seen k x → seen ≡ xs → k < length xs → x ≡ get_or xs k d
item_at {X = X} seen xs k x d is same below = is ∙ ap (λ (ys : List X). get_or ys k x) same ∙ any_default xs k x d below

pub table_difference-requires : goal.table_difference-requires
table_difference-requires g c =
    let n = c.loop-k.k in
    let here : n < length c.args.after.now = search rules in
    let is : c.as_slice-in-loop-k.result.now ≡ get_or c.args.after.now n [] = c.as_slice-in-loop-k.ensures ∙ item_at c.as_slice.result.now c.args.after.now n c.index-as_slice-k.result [] c.index-as_slice-k.is c.as_slice.ensures here in
    subst IsAscending (sym is) (item_of IsAscending c.args.after.now [] n c.requires.ascending here)

pub loop-k-preserved : goal.loop-k-preserved
loop-k-preserved g c =
    let tables = c.args.tables.now in
    let n = c.loop-k.k in
    let t : IndexedRows = c.table-item.result in
    let below : n < length tables = search rules in
    let within : n < length c.args.after.now = search rules in
    let at : t ≡ table_at tables n = item_at c.as_slice-table-items.result.now tables n t no_table c.table-item.is c.as_slice-table-items.ensures below in
    let there : c.as_slice-in-loop-k.result.now ≡ get_or c.args.after.now n [] = c.as_slice-in-loop-k.ensures ∙ item_at c.as_slice.result.now c.args.after.now n c.index-as_slice-k.result [] c.index-as_slice-k.is c.as_slice.ensures within in
    let here = told_at tables c.args.after.now n t c.as_slice-in-loop-k.result.now c.in_ok-delta.delta at there c.in_ok-delta.ensures.delta in
    record {
      count = ap length c.in_ok-push.ensures.ok ∙ length_push c.loop-k.deltas c.in_ok-delta.delta ∙ ap (λ (m : ℕ). m + 1) c.loop-k.invariant.count;
      each = one_more (λ j d. d ≡ difference (in_order (table_at tables j).rows) (get_or c.args.after.now j [])) c.loop-k.deltas c.push.new.self c.in_ok-delta.delta n c.loop-k.invariant.count c.in_ok-push.ensures.ok c.loop-k.invariant.each here;
      distinct = below_more (λ j. AreDistinct (table_at tables j).rows) n c.loop-k.invariant.distinct (subst (λ (x : IndexedRows). AreDistinct x.rows) at c.in_ok-delta.ensures.distinct);
      probes = omega (arith, c.loop-k.invariant.probes, c.in_ok-delta.ensures.probes);
      scans = omega (arith, c.loop-k.invariant.scans, c.in_ok-delta.ensures.scans);
    }

pub returns-clause-deltas : goal.returns-clause-deltas
returns-clause-deltas g c =
    let n : c.loop-k.k ≡ length c.args.tables.now = search rules in
    all_told c.args.tables.now c.args.after.now c.loop-k.deltas (c.loop-k.invariant.count ∙ n) (λ j below. c.loop-k.invariant.each j (omega (arith, below, n)))
