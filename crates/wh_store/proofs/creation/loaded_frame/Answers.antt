use Rattle.std.proofs.Common.{[], ◌∙◌, List, length, nat_lt, sym, ap, arith}
use Rattle.std.proofs.lemmas.List.Quantifiers.{position-Some}
use Rattle.wh_base.specs.declared.value.Value.{Value}
use Rattle.wh_store.specs.Image.{first_over, row_limit}
use Rattle.wh_store.proofs.Loaded.{few_tables}
use Rattle.wh_store.proofs.creation.loaded_frame.Goals as goal

pub overflow_cast-result : goal.overflow_cast-result
overflow_cast-result c =
    let at = position-Some (λ (rows : List (List Value)). nat_lt row_limit (length rows)) c.args.rows c.in-Some.table [] (sym (c.in-Some.ensures ∙ ap first_over c.as_slice.ensures)) in
    omega (arith, at.0, few_tables c.args.spec.now c.args.rows c.requires.textual c.requires.tables)
