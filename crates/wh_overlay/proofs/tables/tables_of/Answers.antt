use Rattle.std.proofs.Common.{◌≡◌, ℕ, ◌+◌, ◌++◌, ◌∷◌, [], get_or, Option, length, true, sym, ap, subst, ◌∙◌}
use Rattle.std.proofs.lemmas.List.{length_push}
use Rattle.wh_base.specs.Heads.{attrs_at}
use Rattle.wh_eval.specs.Stored.{fits}
use Rattle.wh_overlay.specs.Overlay.{FitNumbers, HaveRows}
use Rattle.wh_overlay.proofs.TableLemmas.{fit_push, rows_push, table_fits}
use Rattle.wh_overlay.proofs.tables.tables_of.Goals as goal
use Rattle.wh_table.specs.Table.{IndexedRows}

pub loop-own-preserved : goal.loop-own-preserved
loop-own-preserved c =
    let tables = c.loop-own.tables in
    let yielded = c.loop-own.yielded in
    let own = c.in-Some.own in
    let t = c.in_ok-table_of.field-0 in
    let heads = c.args.heads.now in
    let is = c.in_ok-push.ensures.ok in
    let before = c.loop-own.invariant in
    let wide = c.width_at-width.ensures ∙ ap (λ (n : ℕ). length (attrs_at heads n)) c.len.ensures in
    record {
      count = ap length is ∙ length_push tables t ∙ ap (λ (m : ℕ). m + 1) before.count ∙ sym (length_push yielded own);
      fit = subst (FitNumbers heads) (sym is)
          (fit_push (λ (n : ℕ) (o : Option IndexedRows). fits (attrs_at heads n) o ≡ true) tables t before.fit
          (table_fits (attrs_at heads (length tables)) t c.width_at-width.result wide c.in_ok-table_of.ensures.width c.in_ok-table_of.ensures.indexes));
      rows = subst (HaveRows (λ (n : ℕ). get_or (yielded ++ own ∷ []) n [])) (sym is) (rows_push tables yielded t own before.count before.rows c.in_ok-table_of.ensures.rows);
    }
