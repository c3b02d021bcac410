use Rattle.std.proofs.Common.{ℕ, ◌≡◌, ◌+◌, [], ◌∷◌, ◌++◌, ◌∙◌, ap, sym, map, arith}
use Rattle.std.specs.Prelude.{String, string_bytes}
use Rattle.std.specs.declared.alloc.Global.{Global}
use Rattle.std.specs.List.{range_with_len}
use Rattle.std.proofs.lemmas.List.{map-append}
use Rattle.std.proofs.lemmas.List.FromFn.{map-range_with_len_more}
use Rattle.wh_gen.proofs.Numbered.{all_numbered, numbered}
use Rattle.wh_gen.proofs.files.change_names.Goals as goal

pub loop-done-preserved : goal.loop-done-preserved
loop-done-preserved c =
    let bytes = λ (s : String Global). string_bytes s in
    let done = c.loop-done.done in
    let next : 1 + done ≡ done + 1 = omega arith in
    ap (map bytes) c.in_ok-push.ensures.items
    ∙ map-append bytes c.loop-done.names.items (_ ∷ [])
    ∙ (λ j. c.loop-done.invariant j ++ c.in_ok-format.ensures.ok j ∷ [])
    ∙ sym (map-range_with_len_more numbered 1 done (done + 1) next)

pub returns : goal.returns
returns c =
    let last : c.loop-done.done ≡ 10 = omega arith in
    c.loop-done.invariant ∙ ap (λ (n : ℕ). map numbered (range_with_len 1 n)) last ∙ all_numbered
