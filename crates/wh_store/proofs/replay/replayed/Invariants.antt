use Rattle.std.proofs.Common.{◌≡◌, ◌+◌, ◌<◌, ◌^◌, drop}
use Rattle.wh_journal.specs.File.{span}
use Rattle.wh_journal.specs.Journal.{bodies_of}
use Rattle.wh_store.specs.Image.{replayed}
use Rattle.wh_store.specs.Opening.{image_of, IsSound}
use Rattle.wh_store.proofs.replay.replayed.Given as goal

abbrev pub invariant-loop-body : goal.invariant-loop-body
invariant-loop-body l = record {
  sound : IsSound l.state;
  image : replayed (bodies_of (drop l.body-index l.bodies)) (image_of l.state) ≡ replayed (bodies_of l.bodies) (image_of l.fn.state);
  length : l.state.journal.length ≡ l.fn.state.journal.length;
  end : l.state.journal.end + span (bodies_of (drop l.body-index l.bodies)) < 2 ^ 64;
}
