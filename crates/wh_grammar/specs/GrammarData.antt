-- A grammar as data, and its meaning: trees.
use Rattle.std.specs.Prelude.{◌≡◌, ℕ, zero, suc, false, if◌then◌else◌, List, [], ◌∷◌, Option, Some, None, Ok, Err}
use Rattle.wh_lex.specs.declared.token.TokenKind.{TokenKind}
use Rattle.wh_lex.specs.declared.token.TokenKind.TheVariants as kinds
use Rattle.wh_grammar.specs.declared.symbol.Symbol.{Symbol}
use Rattle.wh_grammar.specs.Grammar.{Outcome, Lexeme, Part, ◌>>=◌, pure, fail, refusal, same, next, after, spelling, starts, ◌or◌, each, push}

-- what a grammar reads: nothing, a token, two things in a row, or one of two choices
pub data Tree : Type 0 where
  empty : Tree
  leaf : TokenKind → List ℕ → Tree
  pair : Tree → Tree → Tree
  left : Tree → Tree
  right : Tree → Tree

-- A grammar over rules with names: a token, a sequence, a choice, an optional part, a repeated part, a rule.
pub data Grammar (N : Type 0) : Type 0 where
  one : Symbol → Grammar N
  seq : Grammar N → Grammar N → Grammar N
  alt : Grammar N → Grammar N → Grammar N
  opt : Grammar N → Grammar N
  many : Grammar N → Grammar N
  rule : N → Grammar N

-- a sequence
infixr 8 ◌then◌
abbrev pub ◌then◌ : {N : Type 0} → Grammar N → Grammar N → Grammar N
g then h = seq g h

-- ---- the meaning of a grammar

-- the kind of the first token
abbrev pub kind_of : List Lexeme → TokenKind
kind_of [] = kinds.Mark
kind_of (t ∷ ts) = t.kind

-- a single token fails where another one or the end stands
abbrev pub token_tree : Symbol → Part Tree
token_tree k = record { begins = λ t. same t k; read = λ i. if same (next i) k then Ok (leaf (kind_of i.ahead) (spelling i), after i) else Err (refusal i) }

-- a part whose trees are wrapped
abbrev pub mapped : (Tree → Tree) → Part Tree → Part Tree
mapped f p = starts p (λ x. pure (f x))

-- a part, and then another
abbrev pub sequence : Part Tree → Part Tree → Part Tree
sequence p q = starts p (λ x. q.read >>= (λ y. pure (pair x y)))

-- an optional part is taken exactly where it can begin with the next token
abbrev pub optional : Part Tree → Part Tree
optional p = record { begins = p.begins; read = λ i. if p.begins (next i) then (p.read >>= (λ x. pure (left x))) i else Ok (empty, i) }

-- a repeated part is taken again exactly where it can begin with the next token
abbrev pub repeated : Part Tree → Part Tree
repeated p = record { begins = p.begins; read = each pair p empty }

-- what a grammar reads, by what its rules read; of two choices the one is taken that can begin with the next token
abbrev pub meaning : {N : Type 0} → (N → Part Tree) → Grammar N → Part Tree
meaning rules (one k) = token_tree k
meaning rules (seq g h) = sequence (meaning rules g) (meaning rules h)
meaning rules (alt g h) = mapped left (meaning rules g) or mapped right (meaning rules h)
meaning rules (opt g) = optional (meaning rules g)
meaning rules (many g) = repeated (meaning rules g)
meaning rules (rule n) = rules n

-- a part that fails
abbrev pub nothing : Part Tree
nothing = record { begins = λ _. false; read = fail }

-- the trees of a rule, in which rules stand in one another at most so deep
abbrev pub trees : {N : Type 0} → (N → Grammar N) → ℕ → N → Part Tree
trees grammar zero n = nothing
trees grammar (suc d) n = meaning (trees grammar d) (grammar n)

-- ---- what a tree is

-- any tree
abbrev pub unit_of : Tree → Option (Unit {0})
unit_of _ = Some tt

-- the bytes of a token
abbrev pub name_of : Tree → Option (List ℕ)
name_of (leaf kind bytes) = Some bytes
name_of _ = None

-- both, if both are there
abbrev pub both : {A B C : Type 0} → (A → B → C) → Option A → Option B → Option C
both f (Some x) (Some y) = Some (f x y)
both f _ _ = None

-- what stands behind the first part of a sequence
abbrev pub behind : {A : Type 0} → (Tree → Option A) → Tree → Option A
behind value (pair t x) = value x
behind value _ = None

-- a repeated part, behind the items before it
abbrev pub list_of : {A : Type 0} → (Tree → Option A) → List A → Tree → Option (List A)
list_of value before empty = Some before
list_of value before (pair t x) = both push (list_of value before t) (value x)
list_of value before _ = None

-- one part and then a repeated part, each behind a token
abbrev pub more_of : {A : Type 0} → (Tree → Option A) → Tree → Option A → Option (List A)
more_of value t None = None
more_of value t (Some first) = list_of (behind value) (first ∷ []) t

-- items with a token between each two
abbrev pub separated_of : {A : Type 0} → (Tree → Option A) → Tree → Option (List A)
separated_of value (pair first t) = more_of value t (value first)
separated_of value _ = None

-- a part in parentheses
abbrev pub enclosed_of : {A : Type 0} → (Tree → Option A) → Tree → Option A
enclosed_of value (pair opening (pair found closing)) = value found
enclosed_of value _ = None

-- an optional part that is there
abbrev pub some_of : {A : Type 0} → Option A → Option (Option A)
some_of None = None
some_of (Some x) = Some (Some x)

-- an optional part
abbrev pub maybe_of : {A : Type 0} → (Tree → Option A) → Tree → Option (Option A)
maybe_of value empty = Some None
maybe_of value (left t) = some_of (value t)
maybe_of value _ = None

-- two outcomes agree where the tree is the value, and where both fail at the same place
abbrev pub Agrees : {A : Type 0} → (Tree → Option A) → Outcome Tree → Outcome A → Type 0
Agrees value (Ok p) (Ok q) = (value p.0 ≡ Some q.0) × (p.1 ≡ q.1)
Agrees value (Ok p) (Err e) = ⊥
Agrees value (Err d) (Ok q) = ⊥
Agrees value (Err d) (Err e) = d ≡ e
