-- The operations give the same table from the same tables.
use Rattle.std.proofs.Common.{◌≡◌, ℕ, List, ◌++◌, not, map, filter, refl, ap, ◌∙◌}
use Rattle.std.specs.List.{flat_map, IsDistinct}
use Rattle.wh_base.specs.declared.value.Value.{Value}
use Rattle.wh_base.specs.declared.cond.Cond.{Cond}
use Rattle.wh_base.specs.Columns.{cut}
use Rattle.wh_base.specs.Cond.{holds}
use Rattle.wh_base.specs.RowSet.{has, SameRows, IsSetOf}
use Rattle.wh_base.specs.Value.{row_eq}
use Rattle.wh_base.proofs.RowSets.{SameRows-append, SameRows-filter, SameRows-map, SameRows-flat_map, IsSetOf-filter, IsSetOf-itself}
use Rattle.wh_expr.specs.declared.expr.Renaming.{Renaming}
use Rattle.wh_base.specs.Tables.{Table, select, project, join, union, minus, agree, joined, arranged, matching}
use Rattle.wh_base.specs.Columns.{others}
use Rattle.wh_expr.specs.Rename.{rename, new_name}
use Rattle.wh_expr.specs.SameTable.{SameTable}

pub same_trans : (t u v : Table) → SameTable t u → SameTable u v → SameTable t v
same_trans t u v h k = record { columns = h.columns ∙ k.columns; rows = λ r. h.rows r ∙ k.rows r }

pub SameTable-select : (c : Cond) (t u : Table) → SameTable t u → SameTable (select c t) (select c u)
SameTable-select c t u h = record {
  columns = h.columns;
  rows = SameRows-filter (holds c t.columns) (holds c u.columns) (λ r. ap (λ columns. holds c columns r) h.columns) t.rows u.rows h.rows;
}

pub SameTable-project : (names : List (List ℕ)) (t u : Table) → SameTable t u → SameTable (project names t) (project names u)
SameTable-project names t u h = record {
  columns = refl;
  rows = λ r. SameRows-map (cut t.columns names) t.rows u.rows h.rows r ∙ ap (λ columns. has (map (cut columns names) u.rows) r) h.columns;
}

joined_same : (left right : List (List ℕ)) (ys vs : List (List Value)) → SameRows ys vs → (x : List Value) → SameRows (joined left right ys x) (joined left right vs x)
joined_same left right ys vs h x =
    SameRows-map (λ y. x ++ cut right (others left right) y) (filter (agree left right x) ys) (filter (agree left right x) vs)
    (SameRows-filter (agree left right x) (agree left right x) (λ r. refl) ys vs h)

pub SameTable-join : (t u v w : Table) → SameTable t v → SameTable u w → SameTable (join t u) (join v w)
SameTable-join t u v w h k = record {
  columns = λ i. h.columns i ++ others (h.columns i) (k.columns i);
  rows = λ r.
      SameRows-flat_map (joined t.columns u.columns u.rows) (joined t.columns u.columns w.rows) (joined_same t.columns u.columns u.rows w.rows k.rows) t.rows v.rows h.rows r
      ∙ (λ i. has (flat_map (joined (h.columns i) (k.columns i) w.rows) v.rows) r);
}

arranged_same : (t u v w : Table) → SameTable t v → SameTable u w → SameRows (arranged t u) (arranged v w)
arranged_same t u v w h k r =
    SameRows-map (cut u.columns t.columns) u.rows w.rows k.rows r
    ∙ (λ i. has (map (cut (k.columns i) (h.columns i)) w.rows) r)

pub SameTable-union : (t u v w : Table) → SameTable t v → SameTable u w → SameTable (union t u) (union v w)
SameTable-union t u v w h k = record {
  columns = h.columns;
  rows = SameRows-append t.rows (arranged t u) v.rows (arranged v w) h.rows (arranged_same t u v w h k);
}

pub SameTable-minus : (t u v w : Table) → SameTable t v → SameTable u w → SameTable (minus t u) (minus v w)
SameTable-minus t u v w h k = record {
  columns = h.columns;
  rows = SameRows-filter (λ r. not (has (arranged t u) r)) (λ r. not (has (arranged v w) r)) (λ r. ap not (arranged_same t u v w h k r)) t.rows v.rows h.rows;
}

pub SameTable-rename : (pairs : List Renaming) (t u : Table) → SameTable t u → SameTable (rename pairs t) (rename pairs u)
SameTable-rename pairs t u h = record { columns = ap (map (new_name pairs)) h.columns; rows = h.rows }

-- the matching rows of distinct rows are a set of them, also where the arguments are known by equations alone
pub IsSetOf-matching : (columns names head cols : List (List ℕ)) (values : List Value) (kept rows meant : List (List Value))
    → kept ≡ matching columns names values rows → columns ≡ head → names ≡ cols → rows ≡ meant → IsDistinct row_eq meant → IsSetOf kept (matching head cols values meant)
IsSetOf-matching columns names head cols values kept rows meant is a b e h =
    let test = λ (r : List Value). row_eq (cut head cols r) values in
    IsSetOf-filter test test (λ r. refl) kept meant meant (is ∙ (λ i. matching (a i) (b i) values (e i))) (IsSetOf-itself meant meant refl h)
