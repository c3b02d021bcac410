-- What is printed is read back.
use Rattle.std.proofs.Common.{◌≡◌, ◌≢◌, ◌<◌, ◌≤◌, ◌^◌, ◌⊎◌, ℕ, zero, suc, ◌+◌, ◌-◌, Bool, true, false, eqb, List, [], ◌∷◌, ◌++◌, length, take, drop, Some, None, Ok, refl, ap, ◌∙◌, append_assoc, arith, inl, inr, get_or, add-one}
use Rattle.std.specs.Prelude.{pos, negsuc, neg_ℤ, slice_index, IsUtf8}
use Rattle.std.specs.Fmt.{decimal}
use Rattle.std.specs.Char.{is_ascii_digit}
use Rattle.std.specs.List.{list_all, prefix_len, AllByRecursion}
use Rattle.std.specs.Str.{is_utf8}
use Rattle.std.specs.Str.Parse.{IsNumeral, AllDigits, digits_value, signed_digits_value}
use Rattle.std.proofs.lemmas.Bool.{ne_eqb, cases_eq, and_parts, le-ltb, lt-ltb}
use Rattle.std.proofs.lemmas.Bool.Decides.{nat_tests}
use Rattle.std.proofs.lemmas.Fmt.{decimal_is_IsNumeral}
use Rattle.std.proofs.lemmas.List.{take_at, length-append, length-drop}
use Rattle.std.proofs.lemmas.List.Elements.{All-contains, All-from_recursion}
use Rattle.std.proofs.lemmas.Str.{is_utf8-from_IsUtf8, IsUtf8-from_ascii, IsUtf8-append, IsUtf8-take, IsUtf8-drop, IsCharBoundary-before_ascii, IsCharBoundary-after_ascii}
use Rattle.std.proofs.lemmas.Str.Parse.{tells_digits}
use Rattle.wh_lex.specs.declared.front.Class.TheVariants as class
use Rattle.wh_lex.specs.declared.token.TokenKind.{TokenKind}
use Rattle.wh_lex.specs.declared.token.TokenKind.TheVariants.{Word, Int, Text, Mark}
use Rattle.wh_lex.specs.Front.{is_in, begins_word, is_blank, front, past, text_at, with_byte, integer, minus, text, mark, integer_value}
use Rattle.wh_lex.specs.Spelling.{marks, doubled, quoted, IsWordText, IsPrinted, Stops, IsReadBack, ends_tokens, Follows}

prefix_all : (p : ℕ → Bool) (w rest : List ℕ) → list_all p w ≡ true → prefix_len p rest ≡ 0 → prefix_len p (w ++ rest) ≡ length w
prefix_all p [] rest h stop = stop
prefix_all p (b ∷ w) rest h stop = let q = and_parts (p b) (list_all p w) h in rw q.0 (omega (arith, prefix_all p w rest q.1 stop))

word_blank : (b : ℕ) → begins_word b ≡ true → is_blank b ≡ false
word_blank b h = grind (arith, nat_tests)

word_in : (b : ℕ) → begins_word b ≡ true → is_in class.Word b ≡ true
word_in b h = grind (arith, nat_tests)

reads_word : (at : ℕ) (w rest : List ℕ) → IsWordText w → prefix_len (is_in class.Word) rest ≡ 0 → front at (w ++ rest) ≡ Ok (Some Word, length w)
unfolding front
reads_word at [] rest is stop = absurd is
reads_word at (b ∷ w) rest is stop =
    let len : past class.Word (b ∷ w ++ rest) 0 ≡ suc (length w) = rw (word_in b is.0) (omega (arith, prefix_all (is_in class.Word) w rest is.1 stop)) in
    rw (word_blank b is.0, is.0, len) refl

digit_is : (c : ℕ) (cs : List ℕ) → AllDigits 10 (c ∷ cs) → is_ascii_digit c ≡ true
digit_is c cs h = let p = (tells_digits.parts c cs h).0 in grind (arith, nat_tests)

digits_all : (ds : List ℕ) → AllDigits 10 ds → list_all (is_in class.Digit) ds ≡ true
digits_all [] h = refl
digits_all (c ∷ cs) h = rw (digit_is c cs h) (digits_all cs h.1)

digit_blank : (c : ℕ) → is_ascii_digit c ≡ true → is_blank c ≡ false
digit_blank c h = grind (arith, nat_tests)

digit_word : (c : ℕ) → is_ascii_digit c ≡ true → begins_word c ≡ false
digit_word c h = grind (arith, nat_tests)

not_sign : (c : ℕ) → is_ascii_digit c ≡ true → (eqb c 45 ≡ false) × (eqb c 43 ≡ false)
not_sign c h = (grind (arith, nat_tests), grind (arith, nat_tests))

plain_value : (n c : ℕ) (cs : List ℕ) → is_ascii_digit c ≡ true → digits_value 10 (c ∷ cs) ≡ n → n < 2 ^ 63 → integer_value (c ∷ cs) ≡ Some (pos n)
plain_value n c cs dc v lt =
    let e : signed_digits_value 10 (c ∷ cs) ≡ pos n = rw ((not_sign c dc).0, (not_sign c dc).1) (ap pos v) in
    rw (e, lt-ltb n (2 ^ 63) lt) refl

minus_value : (n : ℕ) (ds : List ℕ) → digits_value 10 ds ≡ suc n → n < 2 ^ 63 → integer_value (45 ∷ ds) ≡ Some (negsuc n)
minus_value n ds v lt =
    let e : signed_digits_value 10 (45 ∷ ds) ≡ negsuc n = ap (λ m. neg_ℤ (pos m)) v in
    rw (e, lt-ltb n (2 ^ 63) lt) refl

reads_digits : (at n : ℕ) (ds rest : List ℕ) → IsNumeral 10 ds → digits_value 10 ds ≡ n → n < 2 ^ 63 → prefix_len (is_in class.Digit) rest ≡ 0 → front at (ds ++ rest) ≡ Ok (Some (Int (pos n)), length ds)
unfolding front integer
reads_digits at n [] rest h v lt stop = absurd (omega (arith, h.0))
reads_digits at n (c ∷ cs) rest h v lt stop =
    let dc = digit_is c cs h.1 in
    let len : past class.Digit (c ∷ (cs ++ rest)) 0 ≡ suc (length cs) = rw dc (omega (arith, prefix_all (is_in class.Digit) cs rest (digits_all cs h.1.1) stop)) in
    let whole : integer_value (take (suc (length cs)) (c ∷ (cs ++ rest))) ≡ Some (pos n) = rw (take_at cs rest (length cs) refl) (plain_value n c cs dc v lt) in
    rw (digit_blank c dc, digit_word c dc, len, dc, whole) refl

reads_minus : (at n : ℕ) (ds rest : List ℕ) → IsNumeral 10 ds → digits_value 10 ds ≡ suc n → n < 2 ^ 63 → prefix_len (is_in class.Digit) rest ≡ 0 → front at (45 ∷ ds ++ rest) ≡ Ok (Some (Int (negsuc n)), suc (length ds))
unfolding front minus integer
reads_minus at n [] rest h v lt stop = absurd (omega (arith, h.0))
reads_minus at n (c ∷ cs) rest h v lt stop =
    let dc = digit_is c cs h.1 in
    let len : past class.Digit (45 ∷ c ∷ (cs ++ rest)) 1 ≡ suc (suc (length cs)) = rw dc (omega (arith, prefix_all (is_in class.Digit) cs rest (digits_all cs h.1.1) stop)) in
    let whole : integer_value (take (suc (suc (length cs))) (45 ∷ c ∷ (cs ++ rest))) ≡ Some (negsuc n) = rw (take_at cs rest (length cs) refl) (minus_value n (c ∷ cs) v lt) in
    rw ((not_sign c dc).0, len, dc, whole) refl

byte_step : (b : ℕ) (z : List ℕ) → b ≢ 39 → 0 < length z → text_at (b ∷ z) ≡ with_byte b (text_at z)
byte_step b [] ne some = absurd (omega arith)
byte_step b (c ∷ z) ne some = rw (ne_eqb b 39 ne) refl

reads_end : (rest : List ℕ) → slice_index rest 0 ≢ 39 → text_at (39 ∷ rest) ≡ Some ([], rest)
reads_end [] stop = refl
reads_end (c ∷ z) stop = rw (ne_eqb c 39 stop) refl

reads_doubled : (v rest : List ℕ) → slice_index rest 0 ≢ 39 → text_at (doubled v ++ 39 ∷ rest) ≡ Some (v, rest)
reads_doubled [] rest stop = reads_end rest stop
reads_doubled (b ∷ v) rest stop =
    elim (cases_eq b 39) [
      | inl e ↦ rw e (ap (with_byte 39) (reads_doubled v rest stop))
      | inr e ↦
          let some : 0 < length (doubled v ++ 39 ∷ rest) = omega (arith, length-append (doubled v) (39 ∷ rest)) in
          rw (ne_eqb b 39 e) (byte_step b (doubled v ++ 39 ∷ rest) e some ∙ ap (with_byte b) (reads_doubled v rest stop))
    ]

text_is : (at : ℕ) (q rest v : List ℕ) → text_at (drop 1 (q ++ rest)) ≡ Some (v, rest) → length v ≤ 65535 → is_utf8 q ≡ true → text at (q ++ rest) ≡ Ok (Some (Text v), length q)
unfolding text
text_is at q rest v e short utf8 =
    let len : length (q ++ rest) - length rest ≡ length q = omega (arith, length-append q rest) in
    rw (e, le-ltb 65535 (length v) short, len, take_at q rest (length q) refl, utf8) refl

-- a text with its first quote, if it has one
pub split : (v : List ℕ) → (doubled v ≡ v) ⊎ ((i : ℕ) × (i < length v) × (get_or v i 0 ≡ 39) × (doubled v ≡ take i v ++ 39 ∷ 39 ∷ doubled (drop (suc i) v)))
split [] = inl refl
split (b ∷ v) = split_at b v (cases_eq b 39) (split v)
  where
    split_at : (b : ℕ) (v : List ℕ) → (b ≡ 39) ⊎ (b ≡ 39 → ⊥) → (doubled v ≡ v) ⊎ ((i : ℕ) × (i < length v) × (get_or v i 0 ≡ 39) × (doubled v ≡ take i v ++ 39 ∷ 39 ∷ doubled (drop (suc i) v)))
        → (doubled (b ∷ v) ≡ b ∷ v) ⊎ ((i : ℕ) × (i < length (b ∷ v)) × (get_or (b ∷ v) i 0 ≡ 39) × (doubled (b ∷ v) ≡ take i (b ∷ v) ++ 39 ∷ 39 ∷ doubled (drop (suc i) (b ∷ v))))
    split_at b v (inl e) s = inr (0, omega arith, e, rw e refl)
    split_at b v (inr ne) (inl e) = inl (rw (ne_eqb b 39 ne) (ap (λ t. b ∷ t) e))
    split_at b v (inr ne) (inr (i, lt, quote, e)) = inr (suc i, omega arith, quote, rw (ne_eqb b 39 ne) (ap (λ t. b ∷ t) e))

quote_ascii : (i : ℕ) → slice_index (39 ∷ []) i < 128
quote_ascii zero = omega arith
quote_ascii (suc i) = omega arith

quotes_ascii : (i : ℕ) → slice_index (39 ∷ 39 ∷ []) i < 128
quotes_ascii zero = omega arith
quotes_ascii (suc i) = quote_ascii i

two_quotes : IsUtf8 (39 ∷ 39 ∷ [])
two_quotes = IsUtf8-from_ascii (39 ∷ 39 ∷ []) quotes_ascii

doubled_utf8 : (n : ℕ) (v : List ℕ) → length v ≤ n → IsUtf8 v → IsUtf8 (doubled v)
doubled_utf8 zero [] le u = u
doubled_utf8 zero (b ∷ v) le u = absurd (omega arith)
doubled_utf8 (suc n) v le u =
    elim (split v) [
      | inl e ↦ rw e u
      | inr s ↦
          let i = s.0 in
          let ascii : get_or v i 0 < 128 = omega (arith, s.2) in
          let after : IsUtf8 (drop (suc i) v) = rw add-one at (IsUtf8-drop v (i + 1) u (IsCharBoundary-after_ascii v i u s.1 ascii)) in
          let before : IsUtf8 (take i v) = IsUtf8-take v i u (IsCharBoundary-before_ascii v i s.1 ascii) in
          let more = doubled_utf8 n (drop (suc i) v) (omega (arith, length-drop (suc i) v)) after in
          rw s.3 (IsUtf8-append (take i v) (39 ∷ 39 ∷ doubled (drop (suc i) v)) before (IsUtf8-append (39 ∷ 39 ∷ []) (doubled (drop (suc i) v)) two_quotes more))
    ]

pub one_quote : IsUtf8 (39 ∷ [])
one_quote = IsUtf8-from_ascii (39 ∷ []) quote_ascii

quoted_utf8 : (v : List ℕ) → IsUtf8 v → IsUtf8 (quoted v)
quoted_utf8 v u = IsUtf8-append (39 ∷ []) (doubled v ++ 39 ∷ []) one_quote (IsUtf8-append (doubled v) (39 ∷ []) (doubled_utf8 (length v) v (omega arith) u) one_quote)

reads_text : (at : ℕ) (v rest : List ℕ) → length v ≤ 65535 → IsUtf8 (quoted v) → slice_index rest 0 ≢ 39 → front at (quoted v ++ rest) ≡ Ok (Some (Text v), length (quoted v))
unfolding front
reads_text at v rest short utf8 stop =
    text_is at (quoted v) rest v (ap text_at (append_assoc (doubled v) (39 ∷ []) rest) ∙ reads_doubled v rest stop) short (is_utf8-from_IsUtf8 (quoted v) utf8)

reads_less : (at : ℕ) (rest : List ℕ) → slice_index rest 0 ≢ 61 → slice_index rest 0 ≢ 62 → front at (60 ∷ rest) ≡ Ok (Some Mark, 1)
unfolding front mark
reads_less at rest a b = rw (ne_eqb (slice_index rest 0) 61 a, ne_eqb (slice_index rest 0) 62 b) refl

reads_greater : (at : ℕ) (rest : List ℕ) → slice_index rest 0 ≢ 61 → front at (62 ∷ rest) ≡ Ok (Some Mark, 1)
unfolding front mark
reads_greater at rest a = rw (ne_eqb (slice_index rest 0) 61 a) refl

abbrev Reads : ℕ → List ℕ → List ℕ → Type 0
Reads at rest w = front at (w ++ rest) ≡ Ok (Some Mark, length w)

reads_mark : (at : ℕ) (rest : List ℕ) → (slice_index rest 0 ≢ 61) × (slice_index rest 0 ≢ 62) → AllByRecursion (Reads at rest) marks
unfolding front mark
reads_mark at rest stop = (refl, (refl, (refl, (refl, (refl, (refl, (reads_less at rest stop.0 stop.1, (refl, (reads_greater at rest stop.0, (refl, tt))))))))))

pub read_back : IsReadBack
read_back at Word w rest is stop = reads_word at w rest is stop
read_back at (Int (pos n)) w rest is stop =
    let d = decimal_is_IsNumeral n (omega (arith, is.0.sfits)) in
    rw is.1 (reads_digits at n (decimal n) rest d.0 d.1 is.0.sfits stop)
read_back at (Int (negsuc n)) w rest is stop =
    let d = decimal_is_IsNumeral (suc n) (omega (arith, is.0.sfits)) in
    rw is.1 (reads_minus at n (decimal (suc n)) rest d.0 d.1 is.0.sfits stop)
read_back at (Text v) w rest is stop = rw is.2 (reads_text at v rest is.0 (quoted_utf8 v is.1) stop)
read_back at Mark w rest is stop = All-contains (Reads at rest) marks w (All-from_recursion (Reads at rest) marks (reads_mark at rest stop)) is

-- ---- what follows a token

pub reads_space : (at : ℕ) (rest : List ℕ) → front at (32 ∷ rest) ≡ Ok (None, 1)
unfolding front
reads_space at rest = refl

no_word : (b : ℕ) → ends_tokens b ≡ true → is_in class.Word b ≡ false
no_word b h = grind (arith, nat_tests)

no_digit : (b : ℕ) → ends_tokens b ≡ true → is_in class.Digit b ≡ false
no_digit b h = grind (arith, nat_tests)

no_quote : (b : ℕ) → ends_tokens b ≡ true → b ≢ 39
no_quote b h e = absurd (cc (rw e at h))

no_equal : (b : ℕ) → ends_tokens b ≡ true → b ≢ 61
no_equal b h e = absurd (cc (rw e at h))

no_greater : (b : ℕ) → ends_tokens b ≡ true → b ≢ 62
no_greater b h e = absurd (cc (rw e at h))

stops_word : (rest : List ℕ) → Follows rest → prefix_len (is_in class.Word) rest ≡ 0
stops_word [] f = refl
stops_word (b ∷ z) f = rw (no_word b f) refl

stops_digit : (rest : List ℕ) → Follows rest → prefix_len (is_in class.Digit) rest ≡ 0
stops_digit [] f = refl
stops_digit (b ∷ z) f = rw (no_digit b f) refl

pub stops_all : (kind : TokenKind) (rest : List ℕ) → Follows rest → Stops kind rest
stops_all Word rest f = stops_word rest f
stops_all (Int v) rest f = stops_digit rest f
stops_all (Text v) rest f = no_quote (slice_index rest 0) f
stops_all Mark rest f = (no_equal (slice_index rest 0) f, no_greater (slice_index rest 0) f)

-- ---- what is printed is not empty

marks_some : AllByRecursion (λ w. 0 < length w) marks
marks_some = (omega arith, (omega arith, (omega arith, (omega arith, (omega arith, (omega arith, (omega arith, (omega arith, (omega arith, (omega arith, tt))))))))))

pub printed_some : (kind : TokenKind) (w : List ℕ) → IsPrinted kind w → 0 < length w
printed_some Word [] is = absurd is
printed_some Word (b ∷ w) is = omega arith
printed_some (Int (pos n)) w is = rw is.1 (decimal_is_IsNumeral n (omega (arith, is.0.sfits))).0.0
printed_some (Int (negsuc n)) w is = rw is.1 (omega arith)
printed_some (Text v) w is = rw is.2 (omega arith)
printed_some Mark w is = All-contains (λ w. 0 < length w) marks w (All-from_recursion (λ w. 0 < length w) marks marks_some) is

pub reads_open : (at : ℕ) (rest : List ℕ) → front at (40 ∷ rest) ≡ Ok (Some Mark, 1)
unfolding front mark
reads_open at rest = refl

pub reads_close : (at : ℕ) (rest : List ℕ) → front at (41 ∷ rest) ≡ Ok (Some Mark, 1)
unfolding front mark
reads_close at rest = refl

pub reads_semicolon : (at : ℕ) (rest : List ℕ) → front at (59 ∷ rest) ≡ Ok (Some Mark, 1)
unfolding front mark
reads_semicolon at rest = refl

pub reads_line_end : (at : ℕ) (rest : List ℕ) → front at (10 ∷ rest) ≡ Ok (None, 1)
unfolding front
reads_line_end at rest = refl
