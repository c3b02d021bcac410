use Rattle.std.proofs.Common.{rules, ◌≡◌, ◌∙◌, Bool, true, false, is_some, length, nat_lt, sym, ap}
use Rattle.std.specs.List.{position}
use Rattle.wh_store.specs.Image.{row_limit}
use Rattle.wh_store.specs.Opening.{all_take, ordered_rows}
use Rattle.wh_store.proofs.HeldTables.{can_apply, distinct_tables, next_full, next_made, next_refused, sound_after}
use Rattle.wh_store.proofs.tables.next_tables.Goals as goal
use Rattle.wh_table.specs.Table.{IndexedRows}

-- whether a table has too many rows
abbrev is_full : IndexedRows → Bool
is_full t = nat_lt row_limit (length t.rows)

pub returns-then-not-all_take-clause-tables : goal.returns-then-not-all_take-clause-tables
returns-then-not-all_take-clause-tables c =
    let f : c.all_take.result ≡ false = search rules in
    let fails : all_take c.args.stored.now (ordered_rows c.args.tables) c.args.deltas ≡ false = cc in
    next_refused c.args.plan.now c.args.stored.now c.args.tables c.args.deltas c.requires.stored c.requires.sound fails

pub change_all-requires : goal.change_all-requires
change_all-requires c =
    let all : all_take c.args.stored.now (ordered_rows c.args.tables) c.args.deltas ≡ true = cc in
    record {
      fits = can_apply c.args.stored.now c.args.tables c.args.deltas all c.requires.spelled;
      distinct = distinct_tables c.args.plan.now c.args.stored.now c.args.tables c.requires.sound.form;
    }

pub returns-then-is_some-clause-tables : goal.returns-then-is_some-clause-tables
returns-then-is_some-clause-tables c =
    let all : all_take c.args.stored.now (ordered_rows c.args.tables) c.args.deltas ≡ true = cc in
    let new = c.in_ok-tables.tables in
    let told : c.is_some.result ≡ true = search rules in
    let full : is_some (position is_full new) ≡ true = sym (ap is_some (c.first_full.ensures ∙ ap (position is_full) c.as_slice-3.ensures)) ∙ sym c.is_some.ensures ∙ told in
    next_full c.args.plan.now c.args.stored.now c.args.tables c.args.deltas c.requires.stored c.requires.sound all new c.in_ok-tables.ensures full

pub returns-clause-tables : goal.returns-clause-tables
returns-clause-tables c =
    let all : all_take c.args.stored.now (ordered_rows c.args.tables) c.args.deltas ≡ true = cc in
    let new = c.in_ok-tables.tables in
    let told : c.is_some.result ≡ false = search rules in
    let full : is_some (position is_full new) ≡ false = sym (ap is_some (c.first_full.ensures ∙ ap (position is_full) c.as_slice-3.ensures)) ∙ sym c.is_some.ensures ∙ told in
    next_made c.args.plan.now c.args.stored.now c.args.tables c.args.deltas c.requires.stored c.requires.sound all new c.in_ok-tables.ensures full

pub returns-clause-sound : goal.returns-clause-sound
returns-clause-sound c =
    let all : all_take c.args.stored.now (ordered_rows c.args.tables) c.args.deltas ≡ true = cc in
    let new = c.in_ok-tables.tables in
    let told : c.is_some.result ≡ false = search rules in
    let full : is_some (position is_full new) ≡ false = sym (ap is_some (c.first_full.ensures ∙ ap (position is_full) c.as_slice-3.ensures)) ∙ sym c.is_some.ensures ∙ told in
    sound_after c.args.plan.now c.args.stored.now c.args.tables c.args.deltas c.requires.stored c.requires.sound all new c.in_ok-tables.ensures c.requires.spelled full
