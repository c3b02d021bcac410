use Rattle.std.proofs.Common.{◌≡◌, List, sym, ap, ◌∙◌, unwrap_or, [], ◌++◌, ◌∷◌, Some, cond, is_some}
use Rattle.indexmap.specs.IndexMap.{get}
use Rattle.wh_base.specs.declared.value.Value.{Value}
use Rattle.wh_base.specs.Value.{row_eq}
use Rattle.wh_eval.proofs.PartnerLemmas.{partners-added}
use Rattle.wh_eval.proofs.join.add_partner.Goals as goal

pub returns-in_ok-push-in-Some : goal.returns-in_ok-push-in-Some
returns-in_ok-push-in-Some c =
    let m = c.args.partners.now in
    let was : get row_eq m c.args.key ≡ Some c.in-Some.rests.now = sym c.in-Some.ensures.value in
    let writes = c.get_mut.follows.holds c.push.new.self in
    partners-added m (c.get_mut.follows.lender c.push.new.self) c.args.key c.args.rest c.in-Some.rests.now (ap (λ o. unwrap_or o []) was)
    (λ q. (writes.3 (ap is_some was)).0 q ∙ ap (λ v. cond (row_eq c.args.key q) (Some v) (get row_eq m q)) c.in_ok-push-in-Some.ensures.ok)

pub returns-in_ok-insert-in-None : goal.returns-in_ok-insert-in-None
returns-in_ok-insert-in-None c =
    let m = c.args.partners.now in
    let was : get row_eq m c.args.key ≡ _ = sym c.in-None.ensures.value in
    partners-added m c.insert.new.self c.args.key c.args.rest [] (ap (λ o. unwrap_or o []) was)
    (λ q.
    let one = c.in_ok-push-in-None.ensures.ok ∙ ap (λ (k : List (List Value)). k ++ c.args.rest ∷ []) c.new-rests.ensures in
    c.in_ok-insert-in-None.ensures.updates.0 q ∙ (λ j. cond (row_eq c.args.key q) (Some (one j)) (get row_eq (c.get_mut.follows.holds-at-none j) q)))
