-- How deep a reader of conditions may go doesn't matter, where it may go as deep as there are tokens.
use Rattle.std.specs.Prelude.{◌≡◌, ◌≤◌, ℕ, length}
use Rattle.wh_grammar.specs.Grammar.{Input}
use Rattle.wh_grammar.specs.Conditions as g

-- two depths that are enough give the same
abbrev pub IsDepthFree : Type 0
IsDepthFree = (d e : ℕ) (i : Input) → length i.ahead ≤ d → length i.ahead ≤ e → (g.cond d).read i ≡ (g.cond e).read i
