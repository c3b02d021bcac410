-- What torn writes and cuts make of a file that is cleared.
use Rattle.std.proofs.Common.{◌≡◌, inl, inr, ℕ, max, Bool, true, false, not, cond, List, [], ◌∷◌, length, take, Option, Some, None, IfSome, refl, sym, ap, subst, ◌∙◌, arith}
use Rattle.std.specs.Option.{ForSome, option_map}
use Rattle.std.proofs.lemmas.Bool.{eqb-true}
use Rattle.wh_io.specs.Disk.{written, Torn}
use Rattle.wh_io.specs.Crash.{LeavesOnly}
use Rattle.wh_io.proofs.Moments.{leaves_map}
use Rattle.wh_journal.specs.File.{is_open}
use Rattle.wh_journal.specs.Journal.{IsJournalOf, IsKeptOrEmpty, cleared, is_unshut, shut}
use Rattle.wh_journal.proofs.Told.{at}
use Rattle.wh_journal.proofs.Walks.{end_closed, walk_shut}

-- ---- the first byte

written_shut : (file : List ℕ) → true ≡ is_unshut file → written file 0 (0 ∷ []) ≡ shut file
written_shut [] unshut = refl
written_shut (mark ∷ bytes) unshut = ap (λ (b : Bool). cond b 0 mark ∷ bytes) unshut

kept_shut : (file : List ℕ) → false ≡ is_unshut file → file ≡ shut file
kept_shut [] unshut = absurd cc
kept_shut (mark ∷ bytes) unshut = ap (λ (b : Bool). cond b 0 mark ∷ bytes) unshut

pub shut_told : (content after : Option (List ℕ)) → ForSome content (λ (file : List ℕ). true ≡ is_unshut file) → after ≡ option_map (λ (file : List ℕ). written file 0 (0 ∷ [])) content → after ≡ option_map shut content
shut_told None after unshut is = is
shut_told (Some file) after unshut is = is ∙ ap (λ (l : List ℕ). Some l) (written_shut file (unshut file refl))

pub kept_told : (content : Option (List ℕ)) → ForSome content (λ (file : List ℕ). false ≡ is_unshut file) → content ≡ option_map shut content
kept_told None unshut = refl
kept_told (Some file) unshut = ap (λ (l : List ℕ). Some l) (kept_shut file (unshut file refl))

-- a torn first byte is the open mark that it was, or the file is empty
torn_tail : (mark x y : ℕ) (bytes rest : List ℕ) (b : Bool) → is_open x ≡ b → mark ≡ 1 → y ∷ rest ≡ bytes → IsKeptOrEmpty (mark ∷ bytes) (x ∷ y ∷ rest)
torn_tail mark x y bytes rest true begins one same = inl (let here : x ≡ 1 = eqb-true x 1 begins in cc)
torn_tail mark x y bytes rest false begins one same = inr (ap not begins)

torn_first : (file image : List ℕ) → true ≡ is_unshut file → Torn 0 1 file image → IsKeptOrEmpty file image
torn_first file [] unshut torn = inr refl
torn_first file (x ∷ []) unshut torn = inr refl
torn_first [] (x ∷ y ∷ rest) unshut torn = absurd (omega (arith, torn.no_longer))
torn_first (mark ∷ bytes) (x ∷ y ∷ rest) unshut torn = torn_tail mark x y bytes rest (is_open x) refl (eqb-true mark 1 (sym unshut)) torn.after

-- ---- the rest

record Begun (file : List ℕ) : Type 0 where
  mark : ℕ
  tail : List ℕ
  parts : shut file ≡ mark ∷ tail
  closed : is_open mark ≡ false
  long : length (mark ∷ tail) ≡ max (length file) 1

shut_mark : (mark : ℕ) (b : Bool) → is_open mark ≡ b → is_open (cond b 0 mark) ≡ false
shut_mark mark true begins = refl
shut_mark mark false begins = begins

begun : (file : List ℕ) → Begun file
begun [] = record { mark = 0; tail = []; parts = refl; closed = refl; long = refl }
begun (mark ∷ bytes) = record { mark = cond (is_open mark) 0 mark; tail = bytes; parts = refl; closed = shut_mark mark (is_open mark) refl; long = omega arith }

shut_journal : (file : List ℕ) → IsJournalOf (shut file) (at 0 (max (length file) 1))
shut_journal file =
    let b = begun file in
    subst (λ (l : List ℕ). IsJournalOf l (at 0 (max (length file) 1))) (sym b.parts) (record { end = end_closed (b.mark ∷ b.tail) [] (walk_shut b.mark b.tail b.closed); length = b.long })

cleared_journal : (file : List ℕ) → IsJournalOf (cleared file) (at 0 1)
cleared_journal file =
    let b = begun file in
    subst (λ (l : List ℕ). IsJournalOf (take 1 l) (at 0 1)) (sym b.parts) (record { end = end_closed (b.mark ∷ []) [] (walk_shut b.mark [] b.closed); length = refl })

some_is : (x y : List ℕ) → ◌≡◌ {A = Option (List ℕ)} (Some x) (Some y) → x ≡ y
some_is x y e = cc

none_some : (x : List ℕ) → ◌≡◌ {A = Option (List ℕ)} None (Some x) → ⊥
none_some x e = cc

pub place_shut : (content after : Option (List ℕ)) (len : ℕ) → ForSome content (λ (file : List ℕ). len ≡ length file) → after ≡ option_map shut content → ForSome after (λ (file : List ℕ). IsJournalOf file (at 0 (max len 1)))
place_shut None after len long is file told = absurd (none_some file (sym is ∙ told))
place_shut (Some old) after len long is file told =
    subst (λ (l : List ℕ). IsJournalOf l (at 0 (max len 1))) (some_is (shut old) file (sym is ∙ told))
    (subst (λ (n : ℕ). IsJournalOf (shut old) (at 0 (max n 1))) (sym (long old refl)) (shut_journal old))

pub place_cleared : (content after : Option (List ℕ)) → after ≡ option_map cleared content → ForSome after (λ (file : List ℕ). IsJournalOf file (at 0 1))
place_cleared None after is file told = absurd (none_some file (sym is ∙ told))
place_cleared (Some old) after is file told = subst (λ (l : List ℕ). IsJournalOf l (at 0 1)) (some_is (cleared old) file (sym is ∙ told)) (cleared_journal old)

module _ {D : Type 0} (moment : D → ℕ) (images_since : D → ℕ → List ℕ → Type 0) where
  pub first_leaves : (content : Option (List ℕ)) (old new : D) → ForSome content (λ (file : List ℕ). true ≡ is_unshut file) → IfSome content (λ (file : List ℕ). LeavesOnly moment images_since old new (Torn 0 1 file))
      → IfSome content (λ (file : List ℕ). LeavesOnly moment images_since old new (IsKeptOrEmpty file))
  first_leaves None old new unshut leaves = tt
  first_leaves (Some file) old new unshut leaves = leaves_map moment images_since old new (Torn 0 1 file) (IsKeptOrEmpty file) (λ image torn. torn_first file image (unshut file refl) torn) leaves
