use Rattle.std.proofs.Common.{ℕ, List, sym, subst}
use Rattle.wh_codec.specs.Body.{IsSpelledSnapshot}
use Rattle.wh_store.proofs.Loaded.{spelled_snapshot}
use Rattle.wh_store.proofs.creation.small_frame.Goals as goal

pub framed_snapshot-requires : goal.framed_snapshot-requires
framed_snapshot-requires c =
    subst (λ (text : List ℕ). IsSpelledSnapshot 1 0 text c.args.rows) (sym c.in_ok-text.ensures.text)
    (spelled_snapshot c.args.spec.now c.args.rows c.requires.textual c.requires.tables c.requires.few c.requires.ascending c.requires.spelled c.in_ok-text.ensures.short)
