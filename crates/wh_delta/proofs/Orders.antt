-- What is known of an order once all relations of the view are reached, or some is not.
use Rattle.std.proofs.Common.{◌≡◌, ◌↔◌, ℕ, true, false, List, Some, None, Contains, if◌then◌else◌, refl, ap, subst}
use Rattle.std.specs.List.{list_all}
use Rattle.std.proofs.lemmas.Bool.{false≢true}
use Rattle.wh_schema.specs.declared.spec.Spec.{Spec}
use Rattle.wh_schema.specs.declared.spec.View.{View}
use Rattle.wh_schema.specs.Reconstruction.{is_taken}
use Rattle.wh_delta_laws.specs.Connected.{reached, outward_order, IsOrderFrom, IsConnected}
use Rattle.wh_delta_laws.proofs.Connected.{outward_is_order, outward_is_exact}

module _ (spec : Spec) (v : View) (first : ℕ) (member : Contains v.relations first) (order : List ℕ) (is : order ≡ reached spec v.relations first) where
  found : list_all (is_taken order) v.relations ≡ true → outward_order spec v first ≡ Some order
  found e =
      let P : List ℕ → Type 0 = λ o. (if list_all (is_taken o) v.relations then Some o else None) ≡ Some order in
      subst P is (ap (λ b. if b then Some order else None) e)

  missing : list_all (is_taken order) v.relations ≡ false → outward_order spec v first ≡ None
  missing e =
      let P : List ℕ → Type 0 = λ o. (if list_all (is_taken o) v.relations then Some o else None) ≡ None in
      subst P is (ap (λ b. if b then Some order else None) e)

  pub found_is_order : list_all (is_taken order) v.relations ≡ true → IsOrderFrom spec v first order
  found_is_order e = outward_is_order spec v first member order (found e)

  pub found_is_exact : list_all (is_taken order) v.relations ≡ true → (true ≡ true) ↔ IsConnected spec v
  found_is_exact e = (λ _. (first, order, found_is_order e), λ _. refl)

  pub missing_is_exact : list_all (is_taken order) v.relations ≡ false → (false ≡ true) ↔ IsConnected spec v
  missing_is_exact e = (λ some. absurd (false≢true some), λ connected. absurd ((outward_is_exact spec v first member).1 connected (missing e)))
