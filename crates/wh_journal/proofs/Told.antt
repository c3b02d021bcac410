-- The same where a content is told, and at each moment.
use Rattle.std.proofs.Common.{◌≡◌, inl, ℕ, ◌+◌, ◌<◌, ◌^◌, List, [], ◌∷◌, ◌++◌, length, take, Option, Some, None, IfSome, Result, Ok, Err, OnOk, refl, sym, ap, subst, ◌∙◌, arith}
use Rattle.std.specs.Option.{ForSome, option_map}
use Rattle.std.proofs.lemmas.List.{length-take, take-take}
use Rattle.wh_io.specs.Disk.{written, Torn, PartlyCut}
use Rattle.wh_io.specs.Crash.{LeavesOnly}
use Rattle.wh_io.proofs.Moments.{leaves_map, leaves_then}
use Rattle.wh_journal.specs.declared.journal.Journal.{Journal}
use Rattle.wh_journal.specs.File.{framed, frames_of}
use Rattle.wh_journal.specs.Journal.{IsBeforeOrAfter, IsJournalOf, appended, with_frame}
use Rattle.wh_journal.proofs.Torn.{cut_frames, end_within, length-appended, open_end, open_frames, same_front, torn_mark, written_behind, written_open}

pub on_ok_map : {T E : Type 0} (r : Result T E) (P Q : Type 0) → (P → Q) → OnOk r P → OnOk r Q
on_ok_map (Ok value) P Q step holds = step holds
on_ok_map (Err fault) P Q step holds = tt

abbrev pub at : ℕ → ℕ → Journal
at end length = record { end = end; length = length }

some_is : (x y : List ℕ) → ◌≡◌ {A = Option (List ℕ)} (Some x) (Some y) → x ≡ y
some_is x y e = cc

none_some : (x : List ℕ) → ◌≡◌ {A = Option (List ℕ)} None (Some x) → ⊥
none_some x e = cc

-- ---- an append: the frame behind the closed mark, and then the mark

module _ (body : List ℕ) (end : ℕ) (fits : length body < 2 ^ 64) where
  abbrev pub IsPlace : Option (List ℕ) → Type 0
  IsPlace content = ForSome content (λ (file : List ℕ). IsJournalOf file (at end (end + 1)))

  abbrev pub Behind : Option (List ℕ) → Option (List ℕ) → Type 0
  Behind content middle = middle ≡ option_map (λ (file : List ℕ). written file (end + 1) (framed body)) content

  abbrev pub Opened : Option (List ℕ) → Option (List ℕ) → Type 0
  Opened middle after = after ≡ option_map (λ (file : List ℕ). written file end (1 ∷ [])) middle

  both_written : (file : List ℕ) → IsJournalOf file (at end (end + 1)) → written (written file (end + 1) (framed body)) end (1 ∷ []) ≡ appended file end body
  both_written file place = ap (λ (l : List ℕ). written l end (1 ∷ [])) (written_behind file (framed body) end place.length) ∙ written_open file body end place.length

  pub file_after : (content middle after : Option (List ℕ)) → IsPlace content → Behind content middle → Opened middle after → after ≡ option_map (λ (file : List ℕ). appended file end body) content
  file_after None middle after place behind open_ = open_ ∙ ap (option_map (λ (file : List ℕ). written file end (1 ∷ []))) behind
  file_after (Some file) middle after place behind open_ =
      open_ ∙ ap (option_map (λ (l : List ℕ). written l end (1 ∷ []))) behind ∙ ap (λ (l : List ℕ). Some l) (both_written file (place file refl))

  pub frames_after : (content after : Option (List ℕ)) → IsPlace content → after ≡ option_map (λ (file : List ℕ). appended file end body) content
      → option_map frames_of after ≡ option_map (λ (file : List ℕ). with_frame (frames_of file) body) content
  frames_after None after place is = ap (option_map frames_of) is
  frames_after (Some file) after place is = ap (option_map frames_of) is ∙ ap (λ r. Some r) (open_frames file body end (place file refl).end fits)

  pub place_after : (content after : Option (List ℕ)) → IsPlace content → after ≡ option_map (λ (file : List ℕ). appended file end body) content
      → ForSome after (λ (file : List ℕ). IsJournalOf file (at (end + (9 + length body)) (end + (9 + length body) + 1)))
  place_after None after place is file told = absurd (none_some file (sym is ∙ told))
  place_after (Some old) after place is file told =
      let same : appended old end body ≡ file = some_is (appended old end body) file (sym is ∙ told) in
      subst (λ (l : List ℕ). IsJournalOf l (at (end + (9 + length body)) (end + (9 + length body) + 1))) same
      (record { end = open_end old body end (place old refl).end fits; length = length-appended old body end (place old refl).length })

  module _ {D : Type 0} (moment : D → ℕ) (images_since : D → ℕ → List ℕ → Type 0) where
    pub behind_leaves : (content : Option (List ℕ)) (n : ℕ) (old new : D) → IsPlace content → IfSome content (λ (file : List ℕ). LeavesOnly moment images_since old new (Torn (end + 1) n file))
        → IfSome content (λ (file : List ℕ). LeavesOnly moment images_since old new (IsBeforeOrAfter file body))
    behind_leaves None n old new place leaves = tt
    behind_leaves (Some file) n old new place leaves =
        leaves_map moment images_since old new (Torn (end + 1) n file) (IsBeforeOrAfter file body)
        (λ image torn. inl (same_front file image end (place file refl).end torn.before).0) leaves

    pub both_leave : (content middle : Option (List ℕ)) (n : ℕ) (old mid new : D) → IsPlace content → Behind content middle
        → IfSome content (λ (file : List ℕ). LeavesOnly moment images_since old mid (Torn (end + 1) n file)) → IfSome middle (λ (file : List ℕ). LeavesOnly moment images_since mid new (Torn end 1 file))
        → IfSome content (λ (file : List ℕ). LeavesOnly moment images_since old new (IsBeforeOrAfter file body))
    both_leave None middle n old mid new place behind first second = tt
    both_leave (Some file) None n old mid new place behind first second = absurd (none_some (written file (end + 1) (framed body)) behind)
    both_leave (Some file) (Some m) n old mid new place behind first second =
        let is : m ≡ file ++ framed body = some_is m (written file (end + 1) (framed body)) behind ∙ written_behind file (framed body) end (place file refl).length in
        leaves_then moment images_since old mid new (IsBeforeOrAfter file body) (behind_leaves (Some file) n old mid place first)
        (leaves_map moment images_since mid new (Torn end 1 m) (IsBeforeOrAfter file body)
        (λ image torn. torn_mark file body end (place file refl).end fits image (place file refl).length (subst (λ (l : List ℕ). Torn end 1 l image) is torn)) second)

-- ---- a cut behind the closed mark

module _ (end : ℕ) where
  module _ (n : ℕ) where
    pub cut_leaves : {D : Type 0} (moment : D → ℕ) (images_since : D → ℕ → List ℕ → Type 0) (content : Option (List ℕ)) (old new : D) → ForSome content (λ (file : List ℕ). IsJournalOf file (at end n))
        → IfSome content (λ (file : List ℕ). LeavesOnly moment images_since old new (PartlyCut (end + 1) file))
        → IfSome content (λ (file : List ℕ). LeavesOnly moment images_since old new (λ (image : List ℕ). frames_of image ≡ frames_of file))
    cut_leaves moment images_since None old new place leaves = tt
    cut_leaves moment images_since (Some file) old new place leaves =
        leaves_map moment images_since old new (PartlyCut (end + 1) file) (λ (image : List ℕ). frames_of image ≡ frames_of file)
        (λ image cut. cut_frames file image end (place file refl).end cut) leaves

    front_same : (file : List ℕ) → take (end + 1) (take (end + 1) file) ≡ take (end + 1) file
    front_same file = take-take (end + 1) (end + 1) file (omega arith)

    pub frames_cut : (content after : Option (List ℕ)) → ForSome content (λ (file : List ℕ). IsJournalOf file (at end n)) → after ≡ option_map (take (end + 1)) content
        → option_map frames_of after ≡ option_map frames_of content
    frames_cut None after place is = ap (option_map frames_of) is
    frames_cut (Some file) after place is =
        ap (option_map frames_of) is ∙ ap (λ r. Some r) (same_front file (take (end + 1) file) end (place file refl).end (front_same file)).0

    pub place_cut : (content after : Option (List ℕ)) → ForSome content (λ (file : List ℕ). IsJournalOf file (at end n)) → after ≡ option_map (take (end + 1)) content
        → ForSome after (λ (file : List ℕ). IsJournalOf file (at end (end + 1)))
    place_cut None after place is file told = absurd (none_some file (sym is ∙ told))
    place_cut (Some old) after place is file told =
        let same : take (end + 1) old ≡ file = some_is (take (end + 1) old) file (sym is ∙ told) in
        subst (λ (l : List ℕ). IsJournalOf l (at end (end + 1))) same (record {
          end = (same_front old (take (end + 1) old) end (place old refl).end (front_same old)).1;
          length = omega (arith, length-take (end + 1) old, end_within old end (place old refl).end);
        })
