use Rattle.std.proofs.Common.{◌≡◌, ◌<◌, ◌≤◌, ◌-◌, ◌%◌, length, get_or}
use Rattle.wh_chains.specs.Chains.{has_key}
use Rattle.wh_chains.specs.Links.{last_link}
use Rattle.wh_chains.proofs.links.sought.Given as goal

abbrev pub invariant-loop-at : goal.invariant-loop-at
invariant-loop-at l = record {
  within : l.at ≤ length l.keys;
  bucket : 0 < l.at → get_or l.keys (l.at - 1) 0 % l.buckets ≡ l.key % l.buckets;
  same : last_link (has_key l.keys l.key) l.at ≡ last_link (has_key l.keys l.key) l.from;
}

abbrev pub decreases-loop-at : goal.decreases-loop-at
decreases-loop-at l = l.at
