use Rattle.std.proofs.Common.{◌≡◌, length, rules, ap, ◌∙◌}
use Rattle.wh_schema.specs.Heads.{heads_of}
use Rattle.wh_query_text.specs.QueryTexts.{expr_of, known_names, number_among, number_of}
use Rattle.wh_query_text.proofs.QueryTextLemmas.{query_text_fault, query_is}
use Rattle.wh_query_text.proofs.parsing.parse_query.Goals as goal

pub returns-in_err-raw-clause-fault : goal.returns-in_err-raw-clause-fault
returns-in_err-raw-clause-fault c =
    let h = query_text_fault c.args.spec.now c.args.text.now c.in_err-raw.field-0.0 c.in_err-raw.ensures.fault in
    search rules

pub returns-clause-ok : goal.returns-clause-ok
returns-clause-ok c =
    let spec = c.args.spec.now in
    let raw = c.in_ok-raw.raw in
    let known : c.as_slice.result.now ≡ known_names spec = c.as_slice.ensures ∙ c.in_ok-known.ensures in
    let unknown : c.len.result ≡ length (heads_of spec) = c.len.ensures ∙ ap length c.in_ok-heads.ensures in
    let is : c.in_ok-expr.expr ≡ expr_of (number_of spec) raw =
    c.in_ok-expr.ensures ∙ ap (λ k. expr_of (number_among k c.len.result) raw) known ∙ ap (λ n. expr_of (number_among (known_names spec) n) raw) unknown in
    rw (query_is spec c.args.text.now raw c.in_ok-expr.expr c.in_ok-raw.ensures.ok is) c.ruled.ensures.ok

pub returns-clause-fault : goal.returns-clause-fault
returns-clause-fault c =
    let spec = c.args.spec.now in
    let raw = c.in_ok-raw.raw in
    let known : c.as_slice.result.now ≡ known_names spec = c.as_slice.ensures ∙ c.in_ok-known.ensures in
    let unknown : c.len.result ≡ length (heads_of spec) = c.len.ensures ∙ ap length c.in_ok-heads.ensures in
    let is : c.in_ok-expr.expr ≡ expr_of (number_of spec) raw =
    c.in_ok-expr.ensures ∙ ap (λ k. expr_of (number_among k c.len.result) raw) known ∙ ap (λ n. expr_of (number_among (known_names spec) n) raw) unknown in
    rw (query_is spec c.args.text.now raw c.in_ok-expr.expr c.in_ok-raw.ensures.ok is) c.ruled.ensures.fault
