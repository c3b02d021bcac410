-- The cases of the query of a text.
use Rattle.std.proofs.Common.{◌≡◌, ◌≢◌, ℕ, List, [], ◌∷◌, length, Ok, Err, Some, refl, sym, ap, ◌∙◌}
use Rattle.std.proofs.lemmas.List.{length-map}
use Rattle.wh_base.specs.declared.value.Attr.{Attr}
use Rattle.wh_lex.specs.declared.token.Token.{Token}
use Rattle.wh_expr.specs.declared.expr.Expr.{Expr}
use Rattle.wh_expr.specs.declared.fault.TypeCause.{TypeCause}
use Rattle.wh_expr.specs.declared.fault.TypeFault.TheVariants.{At}
use Rattle.wh_expr.specs.Typing.{Fault, Typing, Answers, first_of}
use Rattle.wh_grammar.specs.declared.fault.TextFault.{TextFault}
use Rattle.wh_grammar.specs.declared.fault.TextFault.TheVariants as text_fault
use Rattle.wh_grammar.specs.Grammar.{Input, Outcome, lexeme, start_of}
use Rattle.wh_grammar.specs.Scanned.{scanned, value_of}
use Rattle.wh_grammar.proofs.ScannedLemmas.{read_text_fault, read_text_read}
use Rattle.wh_schema.specs.declared.spec.Spec.{Spec}
use Rattle.wh_query_text.specs.declared.fault.QueryFault.TheVariants.{Rule, NoMemory}
use Rattle.wh_query_text.specs.declared.raw.RawQuery.{RawQuery}
use Rattle.wh_query_text.specs.Queries.{whole_query, any_query}
use Rattle.wh_query_text.specs.QueryTexts.{raw_of_text, place_of_fault, place_below, ruled, of_text, query_of_expr, query_of_raw, query_of_text, expr_of, number_of}

-- what was read of a text, by the steps of its reading
pub raw_is : (text : List ℕ) (tokens slice : List Token) (depth : ℕ) (i : Input) (o : Outcome RawQuery)
    → scanned text ≡ Ok tokens → slice ≡ tokens → i ≡ start_of text slice → depth ≡ length tokens → whole_query depth i ≡ o → raw_of_text text ≡ value_of o
unfolding raw_of_text
raw_is text tokens slice depth i o read whole start deep e =
    let begun : start_of text tokens ≡ i = ap (start_of text) (sym whole) ∙ sym start in
    let enough : length (start_of text tokens).ahead ≡ depth = length-map tokens (lexeme text) ∙ sym deep in
    read_text_read any_query text tokens o read (ap (λ d. whole_query d (start_of text tokens)) enough ∙ (ap (whole_query depth) begun ∙ e))

pub raw_fault : (text : List ℕ) (e : TextFault) → scanned text ≡ Err e → raw_of_text text ≡ Err e
unfolding raw_of_text
raw_fault text e h = read_text_fault any_query text e h

-- ---- the rules

pub ruled_ok : (raw : RawQuery) (e : Expr) (attrs : List Attr) (t : Typing) → Answers (Ok attrs) t → ruled raw e t.attrs t.faults ≡ Ok (record { expr = e; attrs = attrs })
ruled_ok raw e attrs t h = rw (h.0, h.1) refl

ruled_first : (raw : RawQuery) (e : Expr) (attrs : List Attr) (faults : List Fault) (f : Fault) → first_of faults ≡ Some f → ruled raw e attrs faults ≡ Err (Rule (place_of_fault f.cause (place_below raw f.path)) f.cause)
ruled_first raw e attrs [] f h = absurd cc
ruled_first raw e attrs (g ∷ faults) f h = let same : g ≡ f = cc in rw same refl

pub ruled_fault : (raw : RawQuery) (e : Expr) (cause : TypeCause) (path : List ℕ) (t : Typing) → Answers (Err (At cause path)) t → ruled raw e t.attrs t.faults ≡ Err (Rule (place_of_fault cause (place_below raw path)) cause)
ruled_fault raw e cause path t h = ruled_first raw e t.attrs t.faults (record { cause = cause; path = path }) h

-- ---- the whole

pub query_text_fault : (spec : Spec) (text : List ℕ) (fault : TextFault) → (fault ≢ text_fault.NoMemory → raw_of_text text ≡ Err fault) → of_text fault ≢ NoMemory → query_of_text spec text ≡ Err (of_text fault)
unfolding query_of_text
query_text_fault spec text fault read known = ap (query_of_raw spec) (read (λ none. known (ap of_text none)))

pub query_is : (spec : Spec) (text : List ℕ) (raw : RawQuery) (e : Expr) → raw_of_text text ≡ Ok raw → e ≡ expr_of (number_of spec) raw → query_of_text spec text ≡ query_of_expr spec raw e
unfolding query_of_text
query_is spec text raw e read is = ap (query_of_raw spec) read ∙ ap (query_of_expr spec raw) (sym is)
