-- How a token is printed, and what may follow it.
use Rattle.std.specs.Prelude.{◌≡◌, ◌≢◌, ◌≤◌, ℕ, Bool, true, ◌||◌, if◌then◌else◌, ◌==◌, List, [], ◌∷◌, ◌++◌, length, Contains, Some, Ok, codes, slice_index, IsUtf8, FitsSigned}
use Rattle.std.specs.Fmt.{signed_decimal}
use Rattle.std.specs.Int.{w64}
use Rattle.std.specs.List.{list_all, prefix_len}
use Rattle.wh_lex.specs.declared.front.Class.TheVariants as class
use Rattle.wh_lex.specs.declared.token.TokenKind.{TokenKind}
use Rattle.wh_lex.specs.declared.token.TokenKind.TheVariants.{Word, Int, Text, Mark}
use Rattle.wh_lex.specs.Front.{is_in, begins_word, front}

-- each quote twice
abbrev pub doubled : List ℕ → List ℕ
doubled [] = []
doubled (b ∷ v) = if b == 39 then 39 ∷ 39 ∷ doubled v else b ∷ doubled v

-- a text in quotes
abbrev pub quoted : List ℕ → List ℕ
quoted v = 39 ∷ doubled v ++ 39 ∷ []

-- a letter or `_`, and then letters, digits and `_`
abbrev pub IsWordText : List ℕ → Type 0
IsWordText [] = ⊥
IsWordText (b ∷ w) = (begins_word b ≡ true) × (list_all (is_in class.Word) w ≡ true)

-- the marks
abbrev pub marks : List (List ℕ)
marks = codes "(" ∷ codes ")" ∷ codes "," ∷ codes ";" ∷ codes "=" ∷ codes "<>" ∷ codes "<" ∷ codes "<=" ∷ codes ">" ∷ codes ">=" ∷ []

-- the bytes are the printed form of the token
abbrev pub IsPrinted : TokenKind → List ℕ → Type 0
IsPrinted Word w = IsWordText w
IsPrinted (Int v) w = FitsSigned w64 v × (w ≡ signed_decimal v)
IsPrinted (Text v) w = (length v ≤ 65535) × IsUtf8 v × (w ≡ quoted v)
IsPrinted Mark w = Contains marks w

-- what follows does not go on with the token
abbrev pub Stops : TokenKind → List ℕ → Type 0
Stops Word rest = prefix_len (is_in class.Word) rest ≡ 0
Stops (Int v) rest = prefix_len (is_in class.Digit) rest ≡ 0
Stops (Text v) rest = slice_index rest 0 ≢ 39
Stops Mark rest = (slice_index rest 0 ≢ 61) × (slice_index rest 0 ≢ 62)

-- what is printed is read as the token that was printed
abbrev pub IsReadBack : Type 0
IsReadBack = (at : ℕ) (kind : TokenKind) (w rest : List ℕ) → IsPrinted kind w → Stops kind rest → front at (w ++ rest) ≡ Ok (Some kind, length w)

-- nothing, a blank, or a mark that goes on with no token
abbrev pub ends_tokens : ℕ → Bool
ends_tokens b = b == 0 || b == 10 || b == 32 || b == 40 || b == 41 || b == 44 || b == 59

-- a text that goes on with no token
abbrev pub Follows : List ℕ → Type 0
Follows rest = ends_tokens (slice_index rest 0) ≡ true
