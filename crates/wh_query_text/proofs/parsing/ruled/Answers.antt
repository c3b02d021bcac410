use Rattle.std.proofs.Common.{◌≡◌, Err, ap, subst, ◌∙◌}
use Rattle.wh_expr.specs.declared.fault.TypeFault.TheVariants.{At}
use Rattle.wh_expr.specs.Typing.{Answers, limited_typing}
use Rattle.wh_schema.specs.Heads.{heads_of}
use Rattle.wh_query_text.proofs.QueryTextLemmas.{ruled_fault}
use Rattle.wh_query_text.specs.QueryTexts.{place_of_fault, place_below}
use Rattle.wh_query_text.proofs.parsing.ruled.Goals as goal

pub returns-in-Err-At-clause-fault : goal.returns-in-Err-At-clause-fault
returns-in-Err-At-clause-fault c =
    let answers : Answers (Err (At c.in-Err-At.cause c.in-Err-At.path)) (limited_typing c.args.heads.now c.args.expr) =
    subst (λ e. Answers (Err e) (limited_typing c.args.heads.now c.args.expr)) c.in-Err-At.field-0-is c.in-Err-At.ensures.answer in
    let found = ruled_fault c.args.raw.now c.args.expr c.in-Err-At.cause c.in-Err-At.path (limited_typing (heads_of c.args.spec.now) c.args.expr)
    (subst (λ heads. Answers (Err (At c.in-Err-At.cause c.in-Err-At.path)) (limited_typing heads c.args.expr)) c.requires answers) in
    let place : c.place_of_fault.result ≡ place_of_fault c.in-Err-At.cause (place_below c.args.raw.now c.in-Err-At.path) = c.place_of_fault.ensures ∙ ap (λ p. place_of_fault c.in-Err-At.cause (place_below c.args.raw.now p)) c.as_slice.ensures in
    λ known. rw place found
