use Rattle.std.proofs.Common.{◌<◌, ◌+◌, ◌-◌, length, take, vec_len}
use Rattle.wh_chains.specs.Links.{IsChained, HasRoom}
use Rattle.wh_chains.proofs.links.Links.spread.Given as goal

abbrev pub invariant-loop-key : goal.invariant-loop-key
invariant-loop-key l = record {
  some : 0 < vec_len l.links.heads;
  chained : IsChained l.links (take l.key-index l.keys);
  room : HasRoom l.links ((length l.keys - l.key-index) + l.additional);
}
