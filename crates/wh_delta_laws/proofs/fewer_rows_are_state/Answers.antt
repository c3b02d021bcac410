use Rattle.std.proofs.Common.{ℕ, ◌<◌, [], get_or, sym, subst}
use Rattle.wh_delta_laws.proofs.Deltas.{among_from, fewer_state}
use Rattle.wh_delta_laws.proofs.fewer_rows_are_state.Goals as goal

pub returns : goal.returns
returns c = λ spec t st i l rows sub.
    let P : ℕ → Type 0 = λ n. i < n in
    fewer_state t i (subst P (sym st.relations) l) rows spec st (among_from rows (get_or t i []) sub)
