use Rattle.std.proofs.Common.{◌≡◌, map}
use Rattle.std.specs.Prelude.{String, string_bytes}
use Rattle.std.specs.declared.alloc.Global.{Global}
use Rattle.std.specs.List.{range_with_len}
use Rattle.wh_gen.proofs.Numbered.{numbered}
use Rattle.wh_gen.proofs.files.change_names.Given as goal

abbrev pub invariant-loop-done : goal.invariant-loop-done
invariant-loop-done l = map (λ (s : String Global). string_bytes s) l.names.items ≡ map numbered (range_with_len 1 l.done)
