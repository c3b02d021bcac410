-- The changed shop, computed. A condition does not compute, so the views are first computed without theirs.
use Rattle.std.proofs.Common.{◌≡◌, ℕ, zero, suc, true, List, [], ◌∷◌, ◌++◌, map, filter, length, get_or, set, refl, ◌∙◌, ap}
use Rattle.std.specs.List.{flat_map}
use Rattle.wh_base.specs.declared.cond.Cond.TheVariants.{Always}
use Rattle.wh_base.specs.Cond.{holds}
use Rattle.wh_base.specs.Tables.{Table, project, join_all, without}
use Rattle.wh_schema.specs.declared.spec.Spec.{Spec}
use Rattle.wh_schema.specs.declared.spec.View.{View}
use Rattle.wh_schema.specs.Warehouse.{Row, State, no_view, numbers, view_at, table_of, view_table, is_usable_view, is_usable_inclusion}
use Rattle.wh_laws.specs.Example.{sold, shop, state, mary, paula}
use Rattle.wh_laws.proofs.Lossless.{always_holds}
use Rattle.wh_delta_laws.specs.Deltas.{new_rows}
use Rattle.wh_delta_laws.specs.KeyValues.{changed_rows, view_key, relation_carries, inclusion_carries, complement_at}
use Rattle.wh_delta_laws.specs.Example.{changed, selling, sellers, one_sale_less, ShopIsMaintained, SellerStays, ShopCarriesKeys}

abbrev Views : Type 0
Views = State → ℕ → Table

-- the view without its condition
abbrev plain : Spec → Views
plain spec s j =
    let v = view_at spec j in
    let t = join_all (map (table_of spec s) v.relations) in
    project v.head (record { columns = t.columns; rows = filter (λ r. true) t.rows })

plain_at : (spec : Spec) → ((j : ℕ) → (view_at spec j).cond ≡ Always) → view_table spec ≡ plain spec
plain_at spec none i s j =
    let v = view_at spec j in
    let t = join_all (map (table_of spec s) v.relations) in
    project v.head (record { columns = t.columns; rows = filter (λ r. (ap (λ c. holds c t.columns r) (none j) ∙ always_holds t.columns r) i) t.rows })

-- the only view has no condition
no_condition : (v : View) (j : ℕ) → v.cond ≡ Always → (get_or (v ∷ []) j no_view).cond ≡ Always
no_condition v zero e = e
no_condition v (suc j) e = refl

-- the definitions, over any views

abbrev candidates_by : Views → Spec → State → State → ℕ → List Row
candidates_by view spec s t j = flat_map (λ i. (view (set t i (new_rows s t i)) j).rows) (view_at spec j).relations

abbrev entering_by : Spec → State → State → Views → List Row
entering_by spec s t view = without (candidates_by view spec s t 0) (view s 0).rows

abbrev leaving_by : Spec → State → State → Views → List Row
leaving_by spec s t view = without (candidates_by view spec t s 0) (view t 0).rows

abbrev carried_by : Spec → State → State → Views → List Row
carried_by spec s t view =
    relation_carries spec s t 0
    ++ flat_map (λ j. map (view_key spec 0 j) (changed_rows (view s j).rows (view t j).rows)) (filter (is_usable_view spec 0) (numbers (length spec.views)))
    ++ flat_map (inclusion_carries spec s t 0) (filter (is_usable_inclusion spec 0) (numbers (length spec.inclusions)))

abbrev complement_by : Spec → State → Row → Views → List Row
complement_by spec s k view = complement_at spec (record { relation = table_of spec s; view = view s }) 0 k

shop_plain : view_table (shop Always) ≡ plain (shop Always)
shop_plain = plain_at (shop Always) (λ j. no_condition (sold Always) j refl)

sellers_plain : view_table sellers ≡ plain sellers
sellers_plain = plain_at sellers (λ j. no_condition selling j refl)

pub shop_maintained : ShopIsMaintained
shop_maintained = (ap (entering_by (shop Always) state changed) shop_plain, ap (leaving_by (shop Always) state changed) shop_plain)

pub seller_stays : SellerStays
seller_stays = (ap (λ view. candidates_by view sellers one_sale_less state 0) sellers_plain, ap (leaving_by sellers state one_sale_less) sellers_plain)

pub shop_carries : ShopCarriesKeys
shop_carries = (
  ap (carried_by (shop Always) state changed) shop_plain,
  ap (complement_by (shop Always) changed (mary ∷ [])) shop_plain,
  ap (complement_by (shop Always) changed (paula ∷ [])) shop_plain,
)
