-- A field that is read is the field that was written, and what was written is read again.
use Rattle.std.proofs.Common.{◌≡◌, ℕ, zero, suc, ◌+◌, ◌^◌, ◌<◌, ◌≤◌, Bool, true, false, cond, ltb, List, [], ◌∷◌, ◌++◌, length, get_or, take, drop, Option, Some, None, refl, sym, ap, subst, ◌∙◌, append_assoc, arith, inl, inr}
use Rattle.std.specs.Int.{Width, w16, w32, w64, byte_len, from_be_bytes, to_be_bytes}
use Rattle.std.specs.List.{flat_map, AllByRecursion}
use Rattle.std.proofs.lemmas.Bool.{cases_lt, ltb-false, le-ltb}
use Rattle.std.proofs.lemmas.List.{take_at, drop_at, take-append-drop, length-append, length-take, get_or-drop, get_or-take, get_or_past}
use Rattle.std.proofs.lemmas.List.Concat.{flat_map-cons}
use Rattle.std.proofs.lemmas.Nat.{be_bytes_2, be_bytes_4, be_bytes_8, from_be_bytes-to_be_bytes_2, from_be_bytes-to_be_bytes_4, from_be_bytes-to_be_bytes_8}
use Rattle.wh_codec.specs.Body.{counted, text_bytes}
use Rattle.wh_codec.specs.Reading.{◌>>=◌, number_at, front_at, many_at, counted_at, spec_at}

abbrev pub IsBytes : List ℕ → Type 0
IsBytes bytes = (i : ℕ) → get_or bytes i 0 < 256

IsBytes-drop : (n : ℕ) (bytes : List ℕ) → IsBytes bytes → IsBytes (drop n bytes)
IsBytes-drop n bytes h i = rw get_or-drop (h (n + i))

IsBytes-take : (n : ℕ) (bytes : List ℕ) → IsBytes bytes → IsBytes (take n bytes)
IsBytes-take n bytes h i =
    elim (cases_lt i n) [
      | inl lt ↦ rw (get_or-take n bytes i 0 lt) (h i)
      | inr le ↦ rw (get_or_past (take n bytes) i 0 (omega (arith, length-take n bytes))) (omega arith)
    ]

pub IsBytes-rest : (b : ℕ) (bytes : List ℕ) → IsBytes (b ∷ bytes) → IsBytes bytes
IsBytes-rest b bytes h i = h (suc i)

-- the value of a step that did not fail
pub bind_some : {A B : Type 0} (r : Option A) (f : A → Option B) (y : B) → (r >>= f) ≡ Some y → (x : A) × (r ≡ Some x) × (f x ≡ Some y)
bind_some (Some x) f y e = (x, refl, e)
bind_some None f y e = absurd cc

-- a test that did not fail
guard_some : {A : Type 0} (b : Bool) (x y : A) → cond b None (Some x) ≡ Some y → (b ≡ false) × (x ≡ y)
guard_some true x y e = absurd cc
guard_some false x y e = (refl, cc)

abbrev done : {A : Type 0} → A → Option A
done x = Some x

pub some_is : {A : Type 0} (x y : A) → done x ≡ done y → x ≡ y
some_is x y e = cc

-- what a reader took from the front
pub record Takes (bytes text rest : List ℕ) : Type 0 where
  pub parts : bytes ≡ text ++ rest
  pub rest_fits : IsBytes rest

pub Takes-then : (a x b y c : List ℕ) → Takes a x b → Takes b y c → Takes a (x ++ y) c
Takes-then a x b y c p q = record { parts = p.parts ∙ ap (λ (t : List ℕ). x ++ t) q.parts ∙ sym (append_assoc x y c); rest_fits = q.rest_fits }

-- a reader and a spelling belong together
pub record Reads {X : Type 0} (at : List ℕ → Option (X × List ℕ)) (spelling : X → List ℕ) (Fits : X → Type 0) : Type 0 where
  pub takes : (bytes : List ℕ) (x : X) (rest : List ℕ) → IsBytes bytes → at bytes ≡ Some (x, rest) → Takes bytes (spelling x) rest × Fits x
  pub again : (x : X) (rest : List ℕ) → Fits x → at (spelling x ++ rest) ≡ Some (x, rest)

-- ---- numbers

record IsWide (w : Width) (limit : ℕ) : Type 0 where
  len : (n : ℕ) → length (to_be_bytes w n) ≡ byte_len w
  back : (bytes : List ℕ) → length bytes ≡ byte_len w → IsBytes bytes → to_be_bytes w (from_be_bytes w bytes) ≡ bytes
  again : (n : ℕ) → n < limit → from_be_bytes w (to_be_bytes w n) ≡ n
  below : (bytes : List ℕ) → IsBytes bytes → from_be_bytes w bytes < limit

wide16 : IsWide w16 (2 ^ 16)
wide16 = record {
  len = λ n. refl;
  back = λ bytes len fits. be_bytes_2 bytes _ len fits refl;
  again = λ n lt. from_be_bytes-to_be_bytes_2 n lt;
  below = λ bytes fits. omega (arith, fits 0, fits 1);
}

wide32 : IsWide w32 (2 ^ 32)
wide32 = record {
  len = λ n. refl;
  back = λ bytes len fits. be_bytes_4 bytes _ len fits refl;
  again = λ n lt. from_be_bytes-to_be_bytes_4 n lt;
  below = λ bytes fits. omega (arith, fits 0, fits 1, fits 2, fits 3);
}

wide64 : IsWide w64 (2 ^ 64)
wide64 = record {
  len = λ n. refl;
  back = λ bytes len fits. be_bytes_8 bytes _ len fits refl;
  again = λ n lt. from_be_bytes-to_be_bytes_8 n lt;
  below = λ bytes fits. omega (arith, fits 0, fits 1, fits 2, fits 3, fits 4, fits 5, fits 6, fits 7);
}

abbrev IsNumber : Width → ℕ → Type 0
IsNumber w limit = Reads (number_at w) (to_be_bytes w) (λ n. n < limit)

number : (w : Width) (limit : ℕ) → IsWide w limit → IsNumber w limit
number w limit wide = record { takes = takes; again = again }
  where
    takes : (bytes : List ℕ) (n : ℕ) (rest : List ℕ) → IsBytes bytes → number_at w bytes ≡ Some (n, rest) → Takes bytes (to_be_bytes w n) rest × (n < limit)
    takes bytes n rest fits e =
        let g = guard_some (ltb (length bytes) (byte_len w)) (from_be_bytes w (take (byte_len w) bytes), drop (byte_len w) bytes) (n, rest) e in
        let long : byte_len w ≤ length bytes = ltb-false _ _ g.0 in
        let n-is : from_be_bytes w (take (byte_len w) bytes) ≡ n = ap (λ (p : ℕ × List ℕ). p.0) g.1 in
        let rest-is : drop (byte_len w) bytes ≡ rest = ap (λ (p : ℕ × List ℕ). p.1) g.1 in
        let front : to_be_bytes w n ≡ take (byte_len w) bytes = rw (← n-is) (wide.back (take (byte_len w) bytes) (omega (arith, length-take (byte_len w) bytes)) (IsBytes-take (byte_len w) bytes fits)) in
        (record { parts = rw (front, ← rest-is) (sym (take-append-drop (byte_len w) bytes)); rest_fits = rw (← rest-is) (IsBytes-drop (byte_len w) bytes fits) }, rw (← n-is) (wide.below (take (byte_len w) bytes) (IsBytes-take (byte_len w) bytes fits)))

    again : (n : ℕ) (rest : List ℕ) → n < limit → number_at w (to_be_bytes w n ++ rest) ≡ Some (n, rest)
    again n rest lt =
        let len = wide.len n in
        let long : ltb (length (to_be_bytes w n ++ rest)) (byte_len w) ≡ false = le-ltb _ _ (omega (arith, length-append (to_be_bytes w n) rest)) in
        rw (long, take_at (to_be_bytes w n) rest (byte_len w) len, drop_at (to_be_bytes w n) rest (byte_len w) len, wide.again n lt) refl

pub number16 : IsNumber w16 (2 ^ 16)
number16 = number w16 (2 ^ 16) wide16

pub number32 : IsNumber w32 (2 ^ 32)
number32 = number w32 (2 ^ 32) wide32

pub number64 : IsNumber w64 (2 ^ 64)
number64 = number w64 (2 ^ 64) wide64

-- ---- bytes

pub front_takes : (n : ℕ) (bytes text rest : List ℕ) → IsBytes bytes → front_at n bytes ≡ Some (text, rest) → Takes bytes text rest × (length text ≡ n)
front_takes n bytes text rest fits e =
    let g = guard_some (ltb (length bytes) n) (take n bytes, drop n bytes) (text, rest) e in
    let long : n ≤ length bytes = ltb-false _ _ g.0 in
    let len : length (take n bytes) ≡ n = omega (arith, length-take n bytes) in
    let taken : Takes bytes (take n bytes) (drop n bytes) = record { parts = sym (take-append-drop n bytes); rest_fits = IsBytes-drop n bytes fits } in
    subst (λ (p : List ℕ × List ℕ). Takes bytes p.0 p.1 × (length p.0 ≡ n)) g.1 (taken, len)

pub front_again : (text rest : List ℕ) → front_at (length text) (text ++ rest) ≡ Some (text, rest)
front_again text rest =
    let long : ltb (length (text ++ rest)) (length text) ≡ false = le-ltb _ _ (omega (arith, length-append text rest)) in
    rw (long, take_at text rest (length text) refl, drop_at text rest (length text) refl) refl

-- ---- lists

module _ {X : Type 0} {at : List ℕ → Option (X × List ℕ)} {spelling : X → List ℕ} {Fits : X → Type 0} (item : Reads at spelling Fits) where
  pub many_takes : (n : ℕ) (bytes : List ℕ) (x : List X × List ℕ) → IsBytes bytes → many_at at n bytes ≡ Some x → Takes bytes (flat_map spelling x.0) x.1 × (length x.0 ≡ n) × AllByRecursion Fits x.0
  unfolding many_at
  many_takes zero bytes x fits e =
      subst (λ (y : List X × List ℕ). Takes bytes (flat_map spelling y.0) y.1 × (length y.0 ≡ 0) × AllByRecursion Fits y.0) (some_is ([], bytes) x e) (record { parts = refl; rest_fits = fits }, refl, tt)
  many_takes (suc n) bytes x fits e =
      let a = bind_some (at bytes) (λ first. many_at at n first.1 >>= λ others. Some (first.0 ∷ others.0, others.1)) x e in
      let b = bind_some (many_at at n a.0.1) (λ others. Some (a.0.0 ∷ others.0, others.1)) x a.2 in
      let first = item.takes bytes a.0.0 a.0.1 fits a.1 in
      let second = many_takes n a.0.1 b.0 first.0.rest_fits b.1 in
      let both = Takes-then bytes (spelling a.0.0) a.0.1 (flat_map spelling b.0.0) b.0.1 first.0 second.0 in
      let made : List X × List ℕ = (a.0.0 ∷ b.0.0, b.0.1) in
      subst (λ (y : List X × List ℕ). Takes bytes (flat_map spelling y.0) y.1 × (length y.0 ≡ suc n) × AllByRecursion Fits y.0) (some_is made x b.2) (rw flat_map-cons both, ap suc second.1, (first.1, second.2))

  pub many_again : (xs : List X) (rest : List ℕ) → AllByRecursion Fits xs → many_at at (length xs) (flat_map spelling xs ++ rest) ≡ Some (xs, rest)
  unfolding many_at
  many_again [] rest fits = refl
  many_again (x ∷ xs) rest fits =
      let regrouped : flat_map spelling (x ∷ xs) ++ rest ≡ spelling x ++ (flat_map spelling xs ++ rest) = ap (λ (y : List ℕ). y ++ rest) (flat_map-cons spelling x xs) ∙ append_assoc (spelling x) (flat_map spelling xs) rest in
      ap (many_at at (suc (length xs))) regrouped ∙ rw (item.again x (flat_map spelling xs ++ rest) fits.0, many_again xs rest fits.1) refl

  counted_takes : (bytes : List ℕ) (xs : List X) (rest : List ℕ) → IsBytes bytes → counted_at at bytes ≡ Some (xs, rest) → Takes bytes (counted spelling xs) rest × ((length xs < 2 ^ 32) × AllByRecursion Fits xs)
  unfolding counted_at
  counted_takes bytes xs rest fits e =
      let a = bind_some (number_at w32 bytes) (λ n. many_at at n.0 n.1) (xs, rest) e in
      let first = number32.takes bytes a.0.0 a.0.1 fits a.1 in
      let second = many_takes a.0.0 a.0.1 (xs, rest) first.0.rest_fits a.2 in
      let both = Takes-then bytes (to_be_bytes w32 a.0.0) a.0.1 (flat_map spelling xs) rest first.0 second.0 in
      (subst (λ (k : ℕ). Takes bytes (to_be_bytes w32 k ++ flat_map spelling xs) rest) (sym second.1) both, (omega (arith, first.1, second.1), second.2))

  counted_again : (xs : List X) (rest : List ℕ) → (length xs < 2 ^ 32) × AllByRecursion Fits xs → counted_at at (counted spelling xs ++ rest) ≡ Some (xs, rest)
  unfolding counted_at
  counted_again xs rest fits =
      let regrouped : counted spelling xs ++ rest ≡ to_be_bytes w32 (length xs) ++ (flat_map spelling xs ++ rest) = append_assoc (to_be_bytes w32 (length xs)) (flat_map spelling xs) rest in
      ap (counted_at at) regrouped ∙ rw (number32.again (length xs) (flat_map spelling xs ++ rest) fits.0, many_again xs rest fits.1) refl

  pub counted_reads : Reads (counted_at at) (counted spelling) (λ xs. (length xs < 2 ^ 32) × AllByRecursion Fits xs)
  counted_reads = record { takes = counted_takes; again = counted_again }

-- ---- a text of any bytes

spec_takes : (bytes text rest : List ℕ) → IsBytes bytes → spec_at bytes ≡ Some (text, rest) → Takes bytes (text_bytes text) rest × (length text < 2 ^ 32)
unfolding spec_at
spec_takes bytes text rest fits e =
    let a = bind_some (number_at w32 bytes) (λ n. front_at n.0 n.1) (text, rest) e in
    let first = number32.takes bytes a.0.0 a.0.1 fits a.1 in
    let second = front_takes a.0.0 a.0.1 text rest first.0.rest_fits a.2 in
    let both = Takes-then bytes (to_be_bytes w32 a.0.0) a.0.1 text rest first.0 second.0 in
    (subst (λ (k : ℕ). Takes bytes (to_be_bytes w32 k ++ text) rest) (sym second.1) both, omega (arith, first.1, second.1))

spec_again : (text rest : List ℕ) → length text < 2 ^ 32 → spec_at (text_bytes text ++ rest) ≡ Some (text, rest)
unfolding spec_at
spec_again text rest fits =
    let regrouped : text_bytes text ++ rest ≡ to_be_bytes w32 (length text) ++ (text ++ rest) = append_assoc (to_be_bytes w32 (length text)) text rest in
    ap spec_at regrouped ∙ rw (number32.again (length text) (text ++ rest) fits, front_again text rest) refl

pub spec_reads : Reads spec_at text_bytes (λ text. length text < 2 ^ 32)
spec_reads = record { takes = spec_takes; again = spec_again }
