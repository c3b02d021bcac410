use Rattle.wh_command.proofs.store.open_placed.Goals as goal

pub returns-in-Ok-clause-ready : goal.returns-in-Ok-clause-ready
returns-in-Ok-clause-ready g c = record { form = c.in-Ok.ensures.form; values = c.in-Ok.ensures.values; live = c.in-Ok.ensures.live; file = c.in-Ok.ensures.journal }
