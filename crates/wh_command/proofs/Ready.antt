-- What a load makes ready, step by step.
use Rattle.std.proofs.Common.{◌≡◌, inl, inr, ℕ, Bool, true, false, List, Option, None, Some, Result, Ok, Err, IfSome, refl, sym, ap, subst}
use Rattle.std.specs.Option.{option_map}
use Rattle.wh_io.specs.Files.{Held}
use Rattle.wh_plan.specs.declared.plan.Plan.{Plan}
use Rattle.wh_schema.specs.declared.spec.Spec.{Spec}
use Rattle.wh_store.specs.Image.{Holding, holding}
use Rattle.wh_command.specs.declared.load.Stock.{Stock}
use Rattle.wh_command.specs.declared.show.Shown.{Shown}
use Rattle.wh_command.specs.declared.stop.Stop.{Stop}
use Rattle.wh_command.specs.declared.stop.Stop.TheVariants.{ReadFault, AlreadyLoaded}
use Rattle.wh_command.specs.Inputs.{and_then, spec_file, IsNextDump}
use Rattle.wh_command.specs.Load.{if_unloaded, gathered_by, gathered, stock_shown, IsReadByLoad}
use Rattle.wh_command.specs.Steps.{Settles, NamesRead, UnlessOutside, is_outside, is_read_fault}
use Rattle.wh_command.proofs.ReadNames.{names_map, stop_none}

pub given_both : (x y : Option (List ℕ)) (E P : List ℕ → List ℕ → Type 0) → IfSome x (λ (a : List ℕ). IfSome y (λ (b : List ℕ). E a b)) → IfSome x (λ (a : List ℕ). IfSome y (λ (b : List ℕ). E a b → P a b)) → IfSome x (λ (a : List ℕ). IfSome y (λ (b : List ℕ). P a b))
given_both None y E P given claim = tt
given_both (Some a) None E P given claim = tt
given_both (Some a) (Some b) E P given claim = claim given

pub unless_map : (outside : Bool) (P Q : Type 0) → (P → Q) → UnlessOutside outside P → UnlessOutside outside Q
unless_map true P Q step claim = tt
unless_map false P Q step claim = step claim

-- ---- the store was looked at

abbrev pub Passes : Option (List ℕ) → Option (List ℕ) → Result (Unit {0}) Stop → Type 0
Passes x y result = IfSome x (λ (a : List ℕ). IfSome y (λ (b : List ℕ). Settles (Some (if_unloaded {T = Unit {0}} (holding a b) (Ok tt))) result))

is_unloaded : (start : Holding) → if_unloaded {T = Unit {0}} start (Ok tt) ≡ Ok tt → start ≡ Ok None
is_unloaded (Ok None) is = refl
is_unloaded (Ok (Some active)) is = absurd (cc (is))
is_unloaded (Err damage) is = absurd (cc (is))

other_next : (start : Holding) (next : Result Shown Stop) (stop : Stop) → if_unloaded {T = Unit {0}} start (Ok tt) ≡ Err stop → if_unloaded start next ≡ Err stop
other_next (Ok None) next stop is = absurd (cc (is))
other_next (Ok (Some active)) next stop is = let same : AlreadyLoaded ≡ stop = cc (is) in ap (λ (s : Stop). Err s) same
other_next (Err damage) next stop is = let same : AlreadyLoaded ≡ stop = cc (is) in ap (λ (s : Stop). Err s) same

module _ (dir : List ℕ) (spec : Spec) where
  abbrev Gathers : Option Held → Option (List ℕ) → Option (List ℕ) → Result Stock Stop → Type 0
  Gathers told x y result = IfSome x (λ (a : List ℕ). IfSome y (λ (b : List ℕ). Settles (option_map (λ (h : Held). if_unloaded (holding a b) (gathered_by h dir spec)) told) (stock_shown result)))

  abbrev NamesNext : Option Held → Option (List ℕ) → Option (List ℕ) → Result Stock Stop → Type 0
  NamesNext told x y result =
      IfSome x (λ (a : List ℕ). IfSome y (λ (b : List ℕ). IfSome told (λ (h : Held). NamesRead (λ (file : List ℕ). (holding a b ≡ Ok None) × IsNextDump h dir spec.relations file) result)))

  pub look_ok : (told : Option Held) (x y : Option (List ℕ)) (result : Result Stock Stop) → Passes x y (Ok tt) → Settles (option_map (λ (h : Held). gathered_by h dir spec) told) (stock_shown result) → Gathers told x y result
  look_ok told None y result passes settles = tt
  look_ok told (Some a) None result passes settles = tt
  look_ok None (Some a) (Some b) result passes settles = tt
  look_ok (Some h) (Some a) (Some b) result passes settles =
      subst (λ (w : Holding). Settles (Some (if_unloaded w (gathered_by h dir spec))) (stock_shown result)) (sym (is_unloaded (holding a b) passes)) settles

  pub look_err : (told : Option Held) (x y : Option (List ℕ)) (stop : Stop) → Passes x y (Err stop) → Gathers told x y (Err stop)
  look_err told None y stop passes = tt
  look_err told (Some a) None stop passes = tt
  look_err None (Some a) (Some b) stop passes = tt
  look_err (Some h) (Some a) (Some b) stop passes = unless_map (is_outside stop) _ _ (other_next (holding a b) (gathered_by h dir spec) stop) passes

  pub look_names : (told : Option Held) (x y : Option (List ℕ)) (result : Result Stock Stop) → Passes x y (Ok tt) → IfSome told (λ (h : Held). NamesRead (IsNextDump h dir spec.relations) result) → NamesNext told x y result
  look_names told None y result passes names = tt
  look_names told (Some a) None result passes names = tt
  look_names None (Some a) (Some b) result passes names = tt
  look_names (Some h) (Some a) (Some b) result passes names =
      names_map (IsNextDump h dir spec.relations) (λ (file : List ℕ). (holding a b ≡ Ok None) × IsNextDump h dir spec.relations file) (λ file next. (is_unloaded (holding a b) passes, next)) result names

  pub look_no_names : (told : Option Held) (x y : Option (List ℕ)) (stop : Stop) → is_read_fault {T = Unit {0}} (Err stop) ≡ false → NamesNext told x y (Err stop)
  look_no_names told None y stop none = tt
  look_no_names told (Some a) None stop none = tt
  look_no_names None (Some a) (Some b) stop none = tt
  look_no_names (Some h) (Some a) (Some b) stop none = stop_none (Unit {0}) Stock (λ (file : List ℕ). (holding a b ≡ Ok None) × IsNextDump h dir spec.relations file) stop none

  -- ---- the specification was read

  module _ (spec_name : List ℕ) where
    abbrev Prepares : Option Held → Option (List ℕ) → Option (List ℕ) → Result Stock Stop → Type 0
    Prepares told x y result = IfSome x (λ (a : List ℕ). IfSome y (λ (b : List ℕ). Settles (option_map (λ (h : Held). gathered h spec_name dir (holding a b)) told) (stock_shown result)))

    abbrev NamesLoad : Option Held → Option (List ℕ) → Option (List ℕ) → Result Stock Stop → Type 0
    NamesLoad told x y result = IfSome x (λ (a : List ℕ). IfSome y (λ (b : List ℕ). IfSome told (λ (h : Held). NamesRead (IsReadByLoad h spec_name dir (holding a b)) result)))

    pub spec_ok : (told now : Option Held) (x y : Option (List ℕ)) (result : Result Stock Stop) → now ≡ told → Settles (option_map (λ (h : Held). spec_file h spec_name) told) (Ok spec) → Gathers now x y result → Prepares told x y result
    spec_ok told now None y result same read gathers = tt
    spec_ok told now (Some a) None result same read gathers = tt
    spec_ok None now (Some a) (Some b) result same read gathers = tt
    spec_ok (Some h) now (Some a) (Some b) result same read gathers =
        let here : Gathers (Some h) (Some a) (Some b) result = subst (λ (o : Option Held). Gathers o (Some a) (Some b) result) same gathers in
        subst (λ (r : Result Spec Stop). Settles (Some (and_then r (λ (s : Spec). if_unloaded (holding a b) (gathered_by h dir s)))) (stock_shown result)) (sym read) here

    pub spec_names : (told now : Option Held) (x y : Option (List ℕ)) (result : Result Stock Stop) → now ≡ told → Settles (option_map (λ (h : Held). spec_file h spec_name) told) (Ok spec) → NamesNext now x y result → NamesLoad told x y result
    spec_names told now None y result same read names = tt
    spec_names told now (Some a) None result same read names = tt
    spec_names None now (Some a) (Some b) result same read names = tt
    spec_names (Some h) now (Some a) (Some b) result same read names =
        let here : NamesNext (Some h) (Some a) (Some b) result = subst (λ (o : Option Held). NamesNext o (Some a) (Some b) result) same names in
        names_map (λ (file : List ℕ). (holding a b ≡ Ok None) × IsNextDump h dir spec.relations file) (IsReadByLoad h spec_name dir (holding a b)) (λ file next. inr (next.0, (spec, read, next.1))) result here

module _ (dir spec_name : List ℕ) where
  pub spec_err : (told : Option Held) (x y : Option (List ℕ)) (stop : Stop) → Settles (option_map (λ (h : Held). spec_file h spec_name) told) (Err stop) → IfSome x (λ (a : List ℕ). IfSome y (λ (b : List ℕ). Settles (option_map (λ (h : Held). gathered h spec_name dir (holding a b)) told) (stock_shown (Err stop))))
  spec_err told None y stop read = tt
  spec_err told (Some a) None stop read = tt
  spec_err None (Some a) (Some b) stop read = tt
  spec_err (Some h) (Some a) (Some b) stop read =
      unless_map (is_outside stop) _ _ (λ (is : spec_file h spec_name ≡ Err stop). ap (λ (r : Result Spec Stop). and_then r (λ (s : Spec). if_unloaded (holding a b) (gathered_by h dir s))) is) read

  pub spec_err_names : (told : Option Held) (x y : Option (List ℕ)) (stop : Stop) → NamesRead {T = Plan} (λ (file : List ℕ). file ≡ spec_name) (Err stop)
      → IfSome x (λ (a : List ℕ). IfSome y (λ (b : List ℕ). IfSome told (λ (h : Held). NamesRead {T = Stock} (IsReadByLoad h spec_name dir (holding a b)) (Err stop))))
  spec_err_names told None y stop names = tt
  spec_err_names told (Some a) None stop names = tt
  spec_err_names None (Some a) (Some b) stop names = tt
  spec_err_names (Some h) (Some a) (Some b) stop names = by stop names
    where
      by : (s : Stop) → NamesRead {T = Plan} (λ (file : List ℕ). file ≡ spec_name) (Err s) → NamesRead {T = Stock} (IsReadByLoad h spec_name dir (holding a b)) (Err s)
      by (ReadFault file) is = inl is
      by other is = tt
