-- Walks along the chains of slots.
use Rattle.std.proofs.Common.{◌≡◌, ◌<◌, ◌≤◌, ◌+◌, ℕ, zero, suc, Bool, true, false, cond, List, [], ◌∷◌, ◌++◌, Option, None, Some, length, get_or, take, map, reverse, refl, sym, ap, subst, ◌∙◌, arith, true≢false, append_assoc, ◌&&◌}
use Rattle.std.specs.Prelude.{filter}
use Rattle.std.proofs.lemmas.Bool.{eqb-true, eqb-false}
use Rattle.std.proofs.lemmas.List.{append-nil, take_all, map-append, reverse-append, length-map, get_or-map}
use Rattle.std.proofs.lemmas.List.Elements.{filter_more}
use Rattle.wh_base.specs.declared.value.Value.{Value}
use Rattle.wh_chains.specs.Chains.{last_slot, has_key}
use Rattle.wh_table.specs.declared.slot.Slot.{Slot}
use Rattle.wh_table.specs.Slots.{is_live, is_live_with, rows_of, AreKeyed}

-- how far a walk still goes: one more than its slot, and 0 at its end
abbrev pub past : Option ℕ → ℕ
past None = 0
past (Some s) = suc s

-- a slot to read past the end
pub no_slot : Slot
no_slot = record { row = []; dead = true }

-- what stands before a place, by whether the slot at the place passes
passed_over : (d : Slot) (p : Slot → Bool) (slots : List Slot) (k : ℕ) → k < length slots → p (get_or slots k d) ≡ false → filter p (take (suc k) slots) ≡ filter p (take k slots)
passed_over d p slots k lt h =
    let more : k + 1 ≡ suc k = omega arith in
    ap (λ n. filter p (take n slots)) (sym more)
    ∙ filter_more p slots k d lt
    ∙ ap (λ b. filter p (take k slots) ++ cond b (get_or slots k d ∷ []) []) h
    ∙ append-nil (filter p (take k slots))

taken : (d : Slot) (p : Slot → Bool) (slots : List Slot) (k : ℕ) → k < length slots → p (get_or slots k d) ≡ true → filter p (take (suc k) slots) ≡ filter p (take k slots) ++ get_or slots k d ∷ []
taken d p slots k lt h =
    let more : k + 1 ≡ suc k = omega arith in
    ap (λ n. filter p (take n slots)) (sym more)
    ∙ filter_more p slots k d lt
    ∙ ap (λ b. filter p (take k slots) ++ cond b (get_or slots k d ∷ []) []) h

-- where a walk stands: at a slot with the key, or at its end
pub record Stands (keys : List ℕ) (key n : ℕ) (at : Option ℕ) : Type 0 where
  pub within : past at ≤ n
  pub has : (s : ℕ) → at ≡ Some s → get_or keys s 0 ≡ key

pub stands : (keys : List ℕ) (key n : ℕ) (at : Option ℕ) → at ≡ last_slot (has_key keys key) n → Stands keys key n at
stands keys key zero at e = record { within = subst (λ o. past o ≤ 0) (sym e) (omega arith); has = λ s h. cc }
stands keys key (suc k) at e = by (has_key keys key k) refl e (stands keys key k at)
  where
    by : (b : Bool) → has_key keys key k ≡ b → at ≡ cond b (Some k) (last_slot (has_key keys key) k) → (at ≡ last_slot (has_key keys key) k → Stands keys key k at) → Stands keys key (suc k) at
    by true h e' rest = record {
      within = subst (λ o. past o ≤ suc k) (sym e') (omega arith);
      has = λ s h'. let same : s ≡ k = cc in subst (λ j. get_or keys j 0 ≡ key) (sym same) (eqb-true _ _ h);
    }
    by false h e' rest = let r = rest e' in let low = r.within in record { within = omega (arith, low); has = r.has }

-- the slots that a walk leaves out do not pass
pub skips : (d : Slot) (test : List Value → Bool) (slots : List Slot) (keys : List ℕ) (key n : ℕ) (at : Option ℕ) → AreKeyed test slots keys key → n ≤ length slots → at ≡ last_slot (has_key keys key) n → filter (is_live_with test) (take (past at) slots) ≡ filter (is_live_with test) (take n slots)
skips d test slots keys key zero at keyed le e = ap (λ o. filter (is_live_with test) (take (past o) slots)) e
skips d test slots keys key (suc k) at keyed le e = by (has_key keys key k) refl e (skips d test slots keys key k at keyed (omega arith))
  where
    fails : (b : Bool) → is_live_with test (get_or slots k d) ≡ b → has_key keys key k ≡ false → b ≡ false
    fails true h other = absurd (eqb-false _ _ other (keyed.keyed k d (omega arith) h))
    fails false h other = refl

    by : (b : Bool) → has_key keys key k ≡ b → at ≡ cond b (Some k) (last_slot (has_key keys key) k) → (at ≡ last_slot (has_key keys key) k → filter (is_live_with test) (take (past at) slots) ≡ filter (is_live_with test) (take k slots)) → filter (is_live_with test) (take (past at) slots) ≡ filter (is_live_with test) (take (suc k) slots)
    by true h e' rest = ap (λ o. filter (is_live_with test) (take (past o) slots)) e'
    by false h e' rest = rest e' ∙ sym (passed_over d (is_live_with test) slots k (omega arith) (fails (is_live_with test (get_or slots k d)) refl h))

-- a walk that has passed over all slots behind it
pub record Walks (test : List Value → Bool) (slots : List Slot) (keys : List ℕ) (key : ℕ) (at : Option ℕ) : Type 0 where
  pub standing : Stands keys key (length slots) at
  pub same : filter (is_live_with test) (take (past at) slots) ≡ filter (is_live_with test) slots

all_same : (p : Slot → Bool) (slots : List Slot) → filter p (take (length slots) slots) ≡ filter p slots
all_same p slots = ap (filter p) (take_all (length slots) slots (omega arith))

pub begins : (test : List Value → Bool) (slots : List Slot) (keys : List ℕ) (key : ℕ) (at : Option ℕ) → AreKeyed test slots keys key → at ≡ last_slot (has_key keys key) (length keys) → Walks test slots keys key at
begins test slots keys key at keyed e =
    let e' : at ≡ last_slot (has_key keys key) (length slots) = e ∙ ap (last_slot (has_key keys key)) keyed.long in
    record {
      standing = stands keys key (length slots) at e';
      same = skips no_slot test slots keys key (length slots) at keyed (omega arith) e' ∙ all_same (is_live_with test) slots;
    }

-- a slot at which a walk stands
pub stands_at : (keys : List ℕ) (key n : ℕ) (at : Option ℕ) (s : ℕ) → Stands keys key n at → at ≡ Some s → s < n
stands_at keys key n at s standing e = let low : suc s ≤ n = subst (λ o. past o ≤ n) e standing.within in omega (arith, low)

-- the next slot of a walk
pub next_stands : (keys : List ℕ) (key n s : ℕ) (next : Option ℕ) → s < n → next ≡ last_slot (has_key keys key) s → Stands keys key n next
next_stands keys key n s next lt e = let r = stands keys key s next e in let low = r.within in record { within = omega (arith, lt, low); has = r.has }

pub falls : (keys : List ℕ) (key s : ℕ) (at next : Option ℕ) → at ≡ Some s → next ≡ last_slot (has_key keys key) s → past next < past at
falls keys key s at next e e' = subst (λ o. past next < past o) (sym e) (let low = (stands keys key s next e').within in omega (arith, low))

pub passes_on : (d : Slot) (test : List Value → Bool) (slots : List Slot) (keys : List ℕ) (key s : ℕ) (at next : Option ℕ) → AreKeyed test slots keys key → Walks test slots keys key at → at ≡ Some s → is_live_with test (get_or slots s d) ≡ false → next ≡ last_slot (has_key keys key) s → Walks test slots keys key next
passes_on d test slots keys key s at next keyed walk e fails e' =
    let lt : s < length slots = stands_at keys key (length slots) at s walk.standing e in
    record {
      standing = next_stands keys key (length slots) s next lt e';
      same =
          skips d test slots keys key s next keyed (omega arith) e'
          ∙ sym (passed_over d (is_live_with test) slots s lt fails)
          ∙ sym (ap (λ o. filter (is_live_with test) (take (past o) slots)) e)
          ∙ walk.same;
    }

-- each live slot whose row passes has the key, where the keys are a hash of the rows
pub keyed_by : (hash : List Value → ℕ) (test : List Value → Bool) (slots : List Slot) (keys : List ℕ) (key : ℕ) → keys ≡ map hash (rows_of slots) → ((row : List Value) → test row ≡ true → key ≡ hash row) → AreKeyed test slots keys key
keyed_by hash test slots keys key are same = record {
  long = ap (λ ks. length ks) are ∙ length-map (rows_of slots) hash ∙ length-map slots (λ s. s.row);
  keyed = λ k d lt passes.
      ap (λ ks. get_or ks k 0) are
      ∙ get_or-map hash (rows_of slots) k d.row 0 (let long = length-map slots (λ s. s.row) in omega (arith, long, lt))
      ∙ ap hash (get_or-map (λ s. s.row) slots k d d.row lt)
      ∙ sym (same (get_or slots k d).row (right_and (is_live (get_or slots k d)) (test (get_or slots k d).row) passes));
}
  where
    right_and : (a b : Bool) → (a && b) ≡ true → b ≡ true
    right_and true b h = h
    right_and false b h = absurd (true≢false (sym h))

pub ends : (test : List Value → Bool) (slots : List Slot) (keys : List ℕ) (key : ℕ) (at : Option ℕ) → Walks test slots keys key at → at ≡ None → filter (is_live_with test) slots ≡ []
ends test slots keys key at walk e = sym walk.same ∙ ap (λ o. filter (is_live_with test) (take (past o) slots)) e

-- a walk that has gathered the rows of all slots behind it that pass
pub record Gathers (test : List Value → Bool) (slots : List Slot) (keys : List ℕ) (key : ℕ) (at : Option ℕ) (kept : List (List Value)) : Type 0 where
  pub standing : Stands keys key (length slots) at
  pub whole : kept ++ reverse (rows_of (filter (is_live_with test) (take (past at) slots))) ≡ reverse (rows_of (filter (is_live_with test) slots))

pub gathers_none : (test : List Value → Bool) (slots : List Slot) (keys : List ℕ) (key : ℕ) (at : Option ℕ) (kept : List (List Value)) → kept ≡ [] → Walks test slots keys key at → Gathers test slots keys key at kept
gathers_none test slots keys key at kept none walk = record {
  standing = walk.standing;
  whole = ap (λ ks. ks ++ reverse (rows_of (filter (is_live_with test) (take (past at) slots)))) none ∙ ap (λ ss. reverse (rows_of ss)) walk.same;
}

pub gathers_no : (d : Slot) (test : List Value → Bool) (slots : List Slot) (keys : List ℕ) (key s : ℕ) (at next : Option ℕ) (kept kept' : List (List Value)) → AreKeyed test slots keys key → Gathers test slots keys key at kept → at ≡ Some s → is_live_with test (get_or slots s d) ≡ false → kept' ≡ kept → next ≡ last_slot (has_key keys key) s → Gathers test slots keys key next kept'
gathers_no d test slots keys key s at next kept kept' keyed walk e fails same e' =
    let lt : s < length slots = stands_at keys key (length slots) at s walk.standing e in
    let rest : filter (is_live_with test) (take (past next) slots) ≡ filter (is_live_with test) (take (past at) slots) =
    skips d test slots keys key s next keyed (omega arith) e'
    ∙ sym (passed_over d (is_live_with test) slots s lt fails)
    ∙ sym (ap (λ o. filter (is_live_with test) (take (past o) slots)) e) in
    record {
      standing = next_stands keys key (length slots) s next lt e';
      whole = ap (λ ks. ks ++ reverse (rows_of (filter (is_live_with test) (take (past next) slots)))) same ∙ ap (λ ss. kept ++ reverse (rows_of ss)) rest ∙ walk.whole;
    }

-- rows with one more at their end, the last one first
turned : (slots : List Slot) (x : Slot) → reverse (rows_of (slots ++ x ∷ [])) ≡ x.row ∷ reverse (rows_of slots)
turned slots x = ap reverse (map-append (λ s. s.row) slots (x ∷ [])) ∙ reverse-append (rows_of slots) (x.row ∷ [])

pub gathers_yes : (d : Slot) (test : List Value → Bool) (slots : List Slot) (keys : List ℕ) (key s : ℕ) (at next : Option ℕ) (kept kept' : List (List Value)) → AreKeyed test slots keys key → Gathers test slots keys key at kept → at ≡ Some s → is_live_with test (get_or slots s d) ≡ true → kept' ≡ kept ++ (get_or slots s d).row ∷ [] → next ≡ last_slot (has_key keys key) s → Gathers test slots keys key next kept'
gathers_yes d test slots keys key s at next kept kept' keyed walk e passes more e' =
    let lt : s < length slots = stands_at keys key (length slots) at s walk.standing e in
    let p = is_live_with test in
    let rest : filter p (take (past next) slots) ≡ filter p (take s slots) = skips d test slots keys key s next keyed (omega arith) e' in
    let here : reverse (rows_of (filter p (take (past at) slots))) ≡ (get_or slots s d).row ∷ reverse (rows_of (filter p (take s slots))) =
    ap (λ o. reverse (rows_of (filter p (take (past o) slots)))) e
    ∙ ap (λ ss. reverse (rows_of ss)) (taken d p slots s lt passes)
    ∙ turned (filter p (take s slots)) (get_or slots s d) in
    record {
      standing = next_stands keys key (length slots) s next lt e';
      whole =
          ap (λ ks. ks ++ reverse (rows_of (filter p (take (past next) slots)))) more
          ∙ ap (λ ss. (kept ++ (get_or slots s d).row ∷ []) ++ reverse (rows_of ss)) rest
          ∙ append_assoc kept ((get_or slots s d).row ∷ []) (reverse (rows_of (filter p (take s slots))))
          ∙ sym (ap (λ rs. kept ++ rs) here)
          ∙ walk.whole;
    }

pub gathers_all : (test : List Value → Bool) (slots : List Slot) (keys : List ℕ) (key : ℕ) (at : Option ℕ) (kept : List (List Value)) → Gathers test slots keys key at kept → at ≡ None → kept ≡ reverse (rows_of (filter (is_live_with test) slots))
gathers_all test slots keys key at kept walk e =
    sym (append-nil kept)
    ∙ sym (ap (λ o. kept ++ reverse (rows_of (filter (is_live_with test) (take (past o) slots)))) e)
    ∙ walk.whole
