-- The records that a reader has yet to give, one at a time.
use Rattle.std.proofs.Common.{Bor, ◌≡◌, ◌≤◌, ◌<◌, ◌+◌, ℕ, suc, zero, Bool, true, false, cond, ◌&&◌, ◌==◌, not, ◌≢◌, MatchBool, List, [], ◌∷◌, length, Option, Some, None, ◌⊎◌, inl, inr, refl, sym, ap, ◌∙◌, arith, add-one}
use Rattle.csv.specs.Machine.{next_record, Read, ends_at_end, is_end, step, fields_after, field_after}
use Rattle.csv.specs.Reading.{NextIs, ReadRecord, ReadsNext, default_config, has_failed, is_bom, pending_of, records_from, records_next, strip_bom, unread_of}
use Rattle.csv.specs.declared.parser.Config.{Config}
use Rattle.csv.specs.declared.parser.State.{State}
use Rattle.csv.specs.declared.parser.State.TheVariants as st
use Rattle.csv.specs.declared.reader.Reader.{Reader}
use Rattle.wh_csv.specs.Reading.{IsReading, Record, records_from_state, records_in, records_left, records_of}

-- what a read leaves is shorter, or it is the end of the text
shorter : (cfg : Config) (s : State) (fields : List (List ℕ)) (field xs : List ℕ) (p : Read) → next_record cfg s fields field xs ≡ Some p
    → (length p.2 < length xs) ⊎ ((p.1 ≡ st.StartRecord) × (p.2 ≡ []))
unfolding next_record
shorter cfg s fields field [] p e = by (ends_at_end s) refl
  where
    by : (b : Bool) → ends_at_end s ≡ b → (length p.2 < 0) ⊎ ((p.1 ≡ st.StartRecord) × (p.2 ≡ []))
    by true k = let q = rw k at e in inr (cc, cc)
    by false k = let q = rw k at e in absurd cc
shorter cfg s fields field (c ∷ rest) p e = by (is_end (step cfg s c).1) refl (shorter cfg (step cfg s c).0 (fields_after (step cfg s c).1 fields field) (field_after (step cfg s c).1 c field) rest p)
  where
    by : (b : Bool) → is_end (step cfg s c).1 ≡ b
        → (next_record cfg (step cfg s c).0 (fields_after (step cfg s c).1 fields field) (field_after (step cfg s c).1 c field) rest ≡ Some p → (length p.2 < length rest) ⊎ ((p.1 ≡ st.StartRecord) × (p.2 ≡ [])))
        → (length p.2 < length (c ∷ rest)) ⊎ ((p.1 ≡ st.StartRecord) × (p.2 ≡ []))
    by true k more = let q = rw k at e in let same : rest ≡ p.2 = cc in inl (omega (arith, ap length same))
    by false k more = let q = rw k at e in elim (more q) [ inl h ↦ inl (omega (arith, h)) | inr h ↦ inr h ]

-- at the end of the text there is none
ended : (n : ℕ) → records_from default_config n st.StartRecord [] ≡ []
unfolding records_from next_record
ended zero = refl
ended (suc n) = refl

abbrev SameRecords : ℕ → ℕ → State → List ℕ → Type 0
SameRecords n m s xs = records_from default_config n s xs ≡ records_from default_config m s xs

-- records are counted down from any number that is above the text's length
enough : (n m : ℕ) (s : State) (xs : List ℕ) → length xs < n → length xs < m → SameRecords n m s xs
unfolding records_from
enough zero m s xs h k = absurd (omega arith)
enough (suc n) zero s xs h k = absurd (omega arith)
enough (suc n) (suc m) s xs h k = by (next_record default_config s [] [] xs) refl (enough n m)
  where
    by : (o : Option Read) → next_record default_config s [] [] xs ≡ o → ((t : State) (ys : List ℕ) → length ys < n → length ys < m → SameRecords n m t ys) → SameRecords (suc n) (suc m) s xs
    by None e more = rw e refl
    by (Some p) e more =
        let rest : SameRecords n m p.1 p.2 = elim (shorter default_config s [] [] xs p e) [
          | inl less ↦ more p.1 p.2 (omega arith) (omega arith)
          | inr end ↦ rw (end.0, end.1) (ended n ∙ sym (ended m))
        ] in
        rw e (ap (λ (rs : List Record). p.0 ∷ rs) rest)

no_record : (s : State) (xs : List ℕ) → next_record default_config s [] [] xs ≡ None → records_from_state s xs ≡ []
unfolding records_from
no_record s xs e = rw (add-one, e) refl

after_one : (s : State) (xs : List ℕ) (p : Read) → next_record default_config s [] [] xs ≡ Some p → SameRecords (length xs) (length p.2 + 1) p.1 p.2
after_one s xs p e = elim (shorter default_config s [] [] xs p e) [
  | inl less ↦ enough (length xs) (length p.2 + 1) p.1 p.2 less (omega arith)
  | inr end ↦ rw (end.0, end.1) (ended (length xs) ∙ sym (ended (length {A = ℕ} [] + 1)))
]

one_record : (s : State) (xs : List ℕ) (p : Read) → next_record default_config s [] [] xs ≡ Some p → records_from_state s xs ≡ p.0 ∷ records_from_state p.1 p.2
unfolding records_from
one_record s xs p e = let rest = after_one s xs p e in rw (add-one (length xs), e) (ap (λ (rs : List Record). p.0 ∷ rs) rest)

-- a read gives the first of the records that are left
taken : (o : Option Read) (s t : State) (xs ys : List ℕ) (fields : Record) → next_record default_config s [] [] xs ≡ o → NextIs o true fields t ys → records_from_state s xs ≡ fields ∷ records_from_state t ys
taken None s t xs ys fields e n = absurd cc
taken (Some p) s t xs ys fields e n = rw (n.1, n.2, n.3) (one_record s xs p e)

none_taken : (o : Option Read) (s t : State) (xs ys : List ℕ) (fields : Record) → next_record default_config s [] [] xs ≡ o → NextIs o false fields t ys → records_from_state s xs ≡ []
none_taken None s t xs ys fields e n = no_record s xs e
none_taken (Some p) s t xs ys fields e n = absurd cc

abbrev Takes : Bool → State → State → Option (List ℕ) → Option (List ℕ) → Record → Type 0
Takes found s t before after fields = MatchBool found (records_in s before ≡ fields ∷ records_in t after) (records_in s before ≡ [])

takes : (found : Bool) (s t : State) (before after : Option (List ℕ)) (fields : Record) → before ≢ None → ReadsNext default_config s before after found fields t → Takes found s t before after fields
takes found s t None after fields known r = absurd (known refl)
takes found s t (Some xs) None fields known r = absurd r
takes true s t (Some xs) (Some ys) fields known r = taken _ s t xs ys fields refl r
takes false s t (Some xs) (Some ys) fields known r = none_taken _ s t xs ys fields refl r

abbrev text_of : Bor (List ℕ) → Option (List ℕ)
text_of s = Some s.now

-- the bytes that a reader of a text reads from are known
known_bytes : (reader : Reader (Bor (List ℕ))) → unread_of text_of reader ≢ None
known_bytes reader e = by (not reader.bom_checked && (reader.at == 0) && (reader.filled == 0)) refl
  where
    by : (b : Bool) → (not reader.bom_checked && (reader.at == 0) && (reader.filled == 0)) ≡ b → ⊥
    by true k = let none = rw k at e in cc
    by false k = let none = rw k at e in cc

pub record_taken : (old new : Reader (Bor (List ℕ))) (found : Bool) (fields : Record) → IsReading old → (has_failed old ≡ true → found ≡ false) → ReadRecord text_of old new found fields
    → MatchBool found (records_left old ≡ fields ∷ records_left new) (records_left old ≡ [])
record_taken old new found fields reading failed r = by old.failed refl
  where
    by : (b : Bool) → old.failed ≡ b → MatchBool found (records_left old ≡ fields ∷ records_left new) (records_left old ≡ [])
    by true k = rw (failed k, k) refl
    by false k =
        let next = rw (reading.1, k) at r.0 in
        rw (k, r.1) (takes found old.state new.state (unread_of text_of old) (pending_of (text_of new.rdr) new) fields (known_bytes old) next)

-- ---- how many records there are

at_most : (cfg : Config) (n : ℕ) (s : State) (xs : List ℕ) → length (records_from cfg n s xs) ≤ n
unfolding records_from
at_most cfg zero s xs = omega arith
at_most cfg (suc n) s xs = by (next_record cfg s [] [] xs) (at_most cfg n)
  where
    by : (o : Option Read) → ((t : State) (ys : List ℕ) → length (records_from cfg n t ys) ≤ n) → length (records_next (records_from cfg n) o) ≤ suc n
    by None more = omega arith
    by (Some p) more = omega (arith, more p.1 p.2)

stripped : (xs : List ℕ) → length (strip_bom xs) ≤ length xs
unfolding strip_bom
stripped [] = omega arith
stripped (a ∷ []) = omega arith
stripped (a ∷ b ∷ []) = omega arith
stripped (a ∷ b ∷ c ∷ rest) = by (is_bom a b c)
  where
    by : (m : Bool) → length (cond m rest (a ∷ b ∷ c ∷ rest)) ≤ length (a ∷ b ∷ c ∷ rest)
    by true = omega arith
    by false = omega arith

pub few_records : (text : List ℕ) → length (records_of text) ≤ length text + 1
few_records text = omega (arith, at_most default_config (length (strip_bom text) + 1) st.StartRecord (strip_bom text), stripped text)
