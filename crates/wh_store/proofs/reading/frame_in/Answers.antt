use Rattle.std.proofs.Common.{Err, sym, subst, arith}
use Rattle.wh_codec.specs.declared.fault.FrameFault.{FrameFault}
use Rattle.wh_codec.specs.Body.{IsRead}
use Rattle.wh_codec.proofs.Frames.{body_again}
use Rattle.wh_store.proofs.FrameLemmas.{no_frame}
use Rattle.wh_store.proofs.reading.frame_in.Goals as goal

pub returns-in-Ok-clause-frame : goal.returns-in-Ok-clause-frame
returns-in-Ok-clause-frame c = sym (body_again c.args.body.now c.in-Ok.frame c.in-Ok.ensures)

pub returns-in-Err-Bad-clause-frame : goal.returns-in-Err-Bad-clause-frame
returns-in-Err-Bad-clause-frame c = sym (no_frame c.args.body.now (λ i. omega (arith, c.type_inv.body i)) (subst (λ (e : FrameFault). IsRead c.args.body.now (Err e)) c.in-Err-Bad.field-0-is c.in-Err-Bad.ensures))
