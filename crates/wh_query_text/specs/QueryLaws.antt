-- What every query that a text gives obeys.
use Rattle.std.specs.Prelude.{◌≡◌, ◌+◌, ℕ, List, length, nat_lt, Ok, IsTrue}
use Rattle.wh_expr.specs.Meaning.{uses_only}
use Rattle.wh_expr.specs.Typing.{IsWellTyped, typing}
use Rattle.wh_schema.specs.declared.spec.Spec.{Spec}
use Rattle.wh_schema.specs.Heads.{heads_of}
use Rattle.wh_query_text.specs.declared.parsing.Query.{Query}
use Rattle.wh_query_text.specs.Printed.{expr_text}
use Rattle.wh_query_text.specs.QueryTexts.{query_of_text}

-- it names relations and views alone, breaks no rule, and has the attributes of its expression
abbrev pub AnswersAreTyped : Type 0
AnswersAreTyped = (spec : Spec) (text : List ℕ) (q : Query) → query_of_text spec text ≡ Ok q
    → IsTrue (uses_only (λ n. nat_lt n (length spec.relations + length spec.views)) q.expr) × IsWellTyped (heads_of spec) q.expr × (q.attrs ≡ (typing (heads_of spec) q.expr).attrs)

-- it is given by its printed form too
abbrev pub AnswersAreTextual : Type 0
AnswersAreTextual = (spec : Spec) (text : List ℕ) (q : Query) → query_of_text spec text ≡ Ok q → query_of_text spec (expr_text (heads_of spec) q.expr) ≡ Ok q
