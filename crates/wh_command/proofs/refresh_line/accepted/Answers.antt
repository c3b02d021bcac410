use Rattle.wh_command.proofs.RefreshLines.{accepted_text}
use Rattle.wh_command.proofs.refresh_line.accepted.Goals as goal

pub returns-clause-line : goal.returns-clause-line
returns-clause-line c =
    accepted_text c.args.out.bytes _ _ _ _ _ c.into_bytes.result c.args.seq _ _ c.args.net.now.source c.args.net.now.stored c.put.ensures.bytes c.put_count.ensures.bytes c.put_counts.ensures.bytes c.as_slice.ensures c.put_counts-2.ensures.bytes
    c.as_slice-2.ensures c.put-2.ensures.bytes c.into_bytes.ensures
