use Rattle.std.proofs.Common.{◌≡◌, take}
use Rattle.wh_schema.specs.Heads.{typed_names}
use Rattle.wh_schema.proofs.table_heads.typed_names.Given as goal

abbrev pub invariant-loop-name : goal.invariant-loop-name
invariant-loop-name l = l.typed ≡ typed_names l.attrs (take l.name-index l.names)
