-- A file that is cleared, and then given one frame, at each moment.
use Rattle.std.proofs.Common.{◌≡◌, inl, inr, ℕ, Bool, true, false, cond, List, [], ◌∷◌, Option, Some, None, IfSome, Ok, Err, refl, sym, ap, subst, ◌∙◌, arith}
use Rattle.std.specs.Option.{option_map}
use Rattle.wh_io.specs.Crash.{IsSettled, LeavesOnly}
use Rattle.wh_io.proofs.Moments.{leaves_map, leaves_then}
use Rattle.wh_journal.specs.File.{is_empty, frames_of, walk, judged, span}
use Rattle.wh_journal.specs.Journal.{IsKeptOrEmpty, IsBeforeOrAfter, cleared, with_frame}
use Rattle.wh_journal.proofs.Walks.{some_bodies}
use Rattle.wh_schema.specs.declared.spec.Spec.{Spec}
use Rattle.wh_schema.specs.Warehouse.{Row}
use Rattle.wh_store.specs.Creation.{IsKeptOrAlone}
use Rattle.wh_store.specs.Image.{holding}
use Rattle.wh_store.specs.Store.{are_empty, is_too_large, loaded, IsEmptyOrLoaded}
use Rattle.wh_store.proofs.StoredLemmas.{and_true}

cleared_empty : (file : List ℕ) → is_empty (cleared file) ≡ true
cleared_empty [] = refl
cleared_empty (mark ∷ bytes) = refl

cleared_frames : (file : List ℕ) → frames_of (cleared file) ≡ Ok []
cleared_frames file = ap (λ b. cond b (Ok []) (judged (walk (cleared file)))) (cleared_empty file)

-- no frame, no byte that counts
nothing_there : (image : List ℕ) → frames_of image ≡ Ok [] → is_empty image ≡ true
nothing_there image frames = by (is_empty image) refl
  where
    judged_nil : (closed : Bool) (bodies : List (List ℕ)) → cond closed (Ok bodies) (Err (span bodies)) ≡ Ok [] → (closed ≡ true) × (bodies ≡ [])
    judged_nil true bodies e = (refl, cc)
    judged_nil false bodies e = absurd cc

    full : is_empty image ≡ false → ⊥
    full e =
        let both = judged_nil (walk image).closed (walk image).bodies (sym (ap (λ b. cond b (Ok []) (judged (walk image))) e) ∙ frames) in
        let some = some_bodies image [] (λ i. record { bodies = both.1 i; closed = both.0 i }) e in
        omega (arith, some)

    by : (b : Bool) → is_empty image ≡ b → is_empty image ≡ true
    by true e = e
    by false e = absurd (full e)

then_alone : (file body image : List ℕ) → IsBeforeOrAfter (cleared file) body image → IsKeptOrAlone file body image
then_alone file body image (inl same) = inr (inl (nothing_there image (same ∙ cleared_frames file)))
then_alone file body image (inr more) = inr (inr (more ∙ ap (λ r. with_frame r body) (cleared_frames file)))

first_alone : (file body image : List ℕ) → IsKeptOrEmpty file image → IsKeptOrAlone file body image
first_alone file body image (inl same) = inl same
first_alone file body image (inr empty) = inr (inl empty)

module _ {D : Type 0} (moment : D → ℕ) (images_since : D → ℕ → List ℕ → Type 0) where
  pub alone_leaves : (body : List ℕ) (content middle : Option (List ℕ)) (old mid new : D) → middle ≡ option_map cleared content
      → IfSome content (λ (file : List ℕ). LeavesOnly moment images_since old mid (IsKeptOrEmpty file)) → IfSome middle (λ (file : List ℕ). LeavesOnly moment images_since mid new (IsBeforeOrAfter file body))
      → IfSome content (λ (file : List ℕ). LeavesOnly moment images_since old new (IsKeptOrAlone file body))
  alone_leaves body None middle old mid new is first second = tt
  alone_leaves body (Some file) middle old mid new is first second =
      let later = subst (λ (o : Option (List ℕ)). IfSome o (λ (f : List ℕ). LeavesOnly moment images_since mid new (IsBeforeOrAfter f body))) is second in
      leaves_then moment images_since old mid new (IsKeptOrAlone file body)
      (leaves_map moment images_since old mid (IsKeptOrEmpty file) (IsKeptOrAlone file body) (first_alone file body) first)
      (leaves_map moment images_since mid new (IsBeforeOrAfter (cleared file) body) (IsKeptOrAlone file body) (then_alone file body) later)

  module _ (spec : Spec) (tables : List (List Row)) where
    abbrev Holds : List ℕ → Type 0
    Holds body = (image second : List ℕ) → frames_of image ≡ Ok (body ∷ []) → is_empty second ≡ true → (is_too_large spec tables ≡ false) × (holding image second ≡ Ok (Some (loaded spec tables)))

    loaded_step : (a b body image : List ℕ) → Holds body → is_empty a ≡ true → is_empty b ≡ true → IsKeptOrAlone a body image → IsEmptyOrLoaded spec tables b image
    loaded_step a b body image holds a_empty b_empty (inl same) = inl (ap is_empty same ∙ a_empty)
    loaded_step a b body image holds a_empty b_empty (inr (inl empty)) = inl empty
    loaded_step a b body image holds a_empty b_empty (inr (inr frames)) = inr (holds image b frames b_empty)

    pub created_leaves : (body : List ℕ) (images : List ℕ → Type 0) (content middle beside : Option (List ℕ)) (old mid new : D) → middle ≡ content → IsSettled content images
        → LeavesOnly moment images_since old mid images → IfSome middle (λ (file : List ℕ). LeavesOnly moment images_since mid new (IsKeptOrAlone file body)) → Holds body
        → IfSome content (λ (a : List ℕ). IfSome beside (λ (b : List ℕ). are_empty a b ≡ true → LeavesOnly moment images_since old new (IsEmptyOrLoaded spec tables b)))
    created_leaves body images None middle beside old mid new is settled first second holds = tt
    created_leaves body images (Some a) middle None old mid new is settled first second holds = tt
    created_leaves body images (Some a) middle (Some b) old mid new is settled first second holds = λ empty.
        let both = and_true (is_empty a) (is_empty b) empty in
        let later = subst (λ (o : Option (List ℕ)). IfSome o (λ (f : List ℕ). LeavesOnly moment images_since mid new (IsKeptOrAlone f body))) is second in
        leaves_then moment images_since old mid new (IsEmptyOrLoaded spec tables b)
        (leaves_map moment images_since old mid images (IsEmptyOrLoaded spec tables b) (λ c left. inl (ap is_empty (settled c left) ∙ both.0)) first)
        (leaves_map moment images_since mid new (IsKeptOrAlone a body) (IsEmptyOrLoaded spec tables b) (λ c left. loaded_step a b body c holds both.0 both.1 left) later)
