-- The shop of the laws of complements: its state fits, and a row with its values in the wrong order does not.
use Rattle.std.specs.Prelude.{◌≡◌, [], ◌∷◌, true, false, pos}
use Rattle.wh_base.specs.declared.cond.Cond.TheVariants.{Always}
use Rattle.wh_base.specs.declared.value.Value.TheVariants.{Int}
use Rattle.wh_fit.specs.Differences.{IsStorable}
use Rattle.wh_laws.specs.Example.{clerks, mary, shop, state, tables}
use Rattle.wh_store.specs.Image.{fit_attrs, fit_stored}

-- the premises of the laws can be met, and fitting tells rows apart
abbrev pub ShopFits : Type 0
ShopFits =
    IsStorable (shop Always) state
    × (fit_stored (shop Always) tables ≡ true)
    × (fit_attrs clerks.attrs ((Int (pos 23) ∷ mary ∷ []) ∷ []) ≡ false)
    × (fit_attrs clerks.attrs ((mary ∷ []) ∷ []) ≡ false)
