-- What torn writes and cuts make of the frames of a file.
use Rattle.std.proofs.Common.{◌≡◌, inl, inr, ℕ, ◌+◌, ◌<◌, ◌^◌, Bool, true, false, List, [], ◌∷◌, ◌++◌, length, get_or, take, drop, Some, Result, Ok, refl, sym, ap, subst, ◌∙◌, append_assoc, arith}
use Rattle.std.specs.Int.{w64, to_be_bytes}
use Rattle.std.proofs.lemmas.Bool.{eqb-true}
use Rattle.std.proofs.lemmas.List.{append-nil, drop_all, drop_at, drop_more, length-append, length-take, take_at, take_all, take-append-drop, take-append-le}
use Rattle.std.proofs.lemmas.Nat.{from_be_bytes-to_be_bytes_8}
use Rattle.wh_io.specs.Disk.{written, Torn, PartlyCut}
use Rattle.wh_journal.specs.File.{end_of, framed, frames_of, is_open, span, walk, walk_on, behind}
use Rattle.wh_journal.specs.Journal.{IsBeforeOrAfter, appended, with_frame}
use Rattle.wh_journal.proofs.Framing.{length-framed}
use Rattle.wh_journal.proofs.Walks.{Closed, Found, ahead, body_found, closed_front, end_closed, ends_at, frames_closed, length-frames, span-push, walk_closed, walk_found, walk_frames, walk_mark, walk_shut, walked}

-- a file up to its closed mark, and what is behind
record Split (file : List ℕ) (end : ℕ) : Type 0 where
  bodies : List (List ℕ)
  is : walk file ≡ walked bodies true
  place : span bodies ≡ end
  found : Found bodies true file
  closed : Closed found.rest
  front_length : length found.front ≡ end
  whole : file ≡ found.front ++ closed.mark ∷ closed.tail
  frames : frames_of file ≡ Ok bodies

split : (file : List ℕ) (end : ℕ) → end_of file ≡ Some end → Split file end
split file end e =
    let ends = ends_at file end e in
    let found = walk_found ends.bodies true file ends.is in
    let closed = closed_front found.rest found.stops in
    record {
      bodies = ends.bodies;
      is = ends.is;
      place = ends.place;
      found = found;
      closed = closed;
      front_length = length-frames ends.bodies found.front found.frames ∙ ends.place;
      whole = found.parts ∙ ap (λ (l : List ℕ). found.front ++ l) closed.parts;
      frames = frames_closed file ends.bodies ends.is;
    }

-- the closed mark is in the file
pub end_within : (file : List ℕ) (end : ℕ) → end_of file ≡ Some end → end < length file
end_within file end e = let s = split file end e in omega (arith, ap length s.whole, length-append s.found.front (s.closed.mark ∷ s.closed.tail), s.front_length)

-- the frames are those up to the closed mark
pub same_front : (file image : List ℕ) (end : ℕ) → end_of file ≡ Some end → take (end + 1) image ≡ take (end + 1) file → (frames_of image ≡ frames_of file) × (end_of image ≡ Some end)
same_front file image end e same =
    let s = split file end e in
    let front = s.found.front in
    let mark = s.closed.mark in
    let begun : take (end + 1) file ≡ front ++ mark ∷ [] =
    ap (take (end + 1)) (s.whole ∙ sym (append_assoc front (mark ∷ []) s.closed.tail)) ∙ take_at (front ++ mark ∷ []) s.closed.tail (end + 1) (omega (arith, length-append front (mark ∷ []), s.front_length)) in
    let rest = drop (end + 1) image in
    let parts : image ≡ front ++ mark ∷ rest = sym (take-append-drop (end + 1) image) ∙ ap (λ (l : List ℕ). l ++ rest) (same ∙ begun) ∙ append_assoc front (mark ∷ []) rest in
    let w : walk image ≡ walked s.bodies true = ap walk parts ∙ walk_closed s.bodies front mark rest s.found.frames s.closed.shut in
    (frames_closed image s.bodies w ∙ sym s.frames, end_closed image s.bodies w ∙ ap (λ (n : ℕ). Some n) s.place)

walk_framed : (body : List ℕ) → length body < 2 ^ 64 → walk (1 ∷ framed body) ≡ walked (body ∷ []) true
walk_framed body fits =
    walk_mark 1 (framed body) ∙ ap (walk_on walk) (body_found (to_be_bytes w64 (length body)) body (0 ∷ []) refl (from_be_bytes-to_be_bytes_8 (length body) fits)) ∙ ap (behind body) (walk_shut 0 [] refl)

-- the mark in front of a whole frame is open, or it is not
module _ (file body : List ℕ) (end : ℕ) (ends : end_of file ≡ Some end) (fits : length body < 2 ^ 64) where
  up_to : (s : Split file end) → take end file ≡ s.found.front
  up_to s = ap (take end) s.found.parts ∙ take_at s.found.front s.found.rest end s.front_length

  walk_open : (s : Split file end) → walk (appended file end body) ≡ walked (s.bodies ++ body ∷ []) true
  walk_open s = ap (λ (l : List ℕ). walk (l ++ 1 ∷ framed body)) (up_to s) ∙ walk_frames s.bodies s.found.front (1 ∷ framed body) s.found.frames ∙ ap (ahead s.bodies) (walk_framed body fits)

  pub open_frames : frames_of (appended file end body) ≡ with_frame (frames_of file) body
  open_frames = let s = split file end ends in frames_closed (appended file end body) (s.bodies ++ body ∷ []) (walk_open s) ∙ ap (λ (r : Result (List (List ℕ)) ℕ). with_frame r body) (sym s.frames)

  pub open_end : end_of (appended file end body) ≡ Some (end + (9 + length body))
  open_end = let s = split file end ends in end_closed (appended file end body) (s.bodies ++ body ∷ []) (walk_open s) ∙ ap (λ (n : ℕ). Some n) (span-push s.bodies body ∙ ap (λ (n : ℕ). n + (9 + length body)) s.place)

  shut_frames : (mark : ℕ) → is_open mark ≡ false → frames_of (take end file ++ mark ∷ framed body) ≡ frames_of file
  shut_frames mark shut =
      let s = split file end ends in
      let w : walk (take end file ++ mark ∷ framed body) ≡ walked s.bodies true = ap (λ (l : List ℕ). walk (l ++ mark ∷ framed body)) (up_to s) ∙ walk_closed s.bodies s.found.front mark (framed body) s.found.frames shut in
      frames_closed (take end file ++ mark ∷ framed body) s.bodies w ∙ sym s.frames

  any_mark : (mark : ℕ) (b : Bool) → is_open mark ≡ b → IsBeforeOrAfter file body (take end file ++ mark ∷ framed body)
  any_mark mark true begins = let one : mark ≡ 1 = eqb-true mark 1 begins in inr (ap (λ (m : ℕ). frames_of (take end file ++ m ∷ framed body)) one ∙ open_frames)
  any_mark mark false begins = inl (shut_frames mark begins)

  -- what a torn write of the mark leaves, where the file with the frame behind its closed mark was
  pub torn_mark : (image : List ℕ) → length file ≡ end + 1 → Torn end 1 (file ++ framed body) image → IsBeforeOrAfter file body image
  torn_mark image long torn =
      let framed_length = length-framed body in
      let both = length-append file (framed body) in
      let mark = get_or image end 0 in
      let before : take end image ≡ take end file = torn.before ∙ take-append-le end file (framed body) (omega arith) in
      let after : drop (end + 1) image ≡ framed body = torn.after ∙ drop_at file (framed body) (end + 1) long in
      let parts : image ≡ take end file ++ mark ∷ framed body =
      sym (take-append-drop end image) ∙ ap (λ (l : List ℕ). l ++ drop end image) before
      ∙ ap (λ (l : List ℕ). take end file ++ l) (drop_more image end 0 (omega (arith, torn.no_shorter)) ∙ ap (λ (l : List ℕ). mark ∷ l) after) in
      subst (IsBeforeOrAfter file body) (sym parts) (any_mark mark (is_open mark) refl)

-- the file with bytes behind its last byte
pub written_behind : (file bytes : List ℕ) (end : ℕ) → length file ≡ end + 1 → written file (end + 1) bytes ≡ file ++ bytes
written_behind file bytes end long =
    ap (λ (l : List ℕ). (l ++ bytes) ++ drop (end + 1 + length bytes) file) (take_all (end + 1) file (omega arith))
    ∙ ap (λ (l : List ℕ). (file ++ bytes) ++ l) (drop_all (end + 1 + length bytes) file (omega arith)) ∙ append-nil (file ++ bytes)

-- then with its mark open
pub written_open : (file body : List ℕ) (end : ℕ) → length file ≡ end + 1 → written (file ++ framed body) end (1 ∷ []) ≡ appended file end body
written_open file body end long =
    ap (λ (l : List ℕ). (l ++ 1 ∷ []) ++ drop (end + 1) (file ++ framed body)) (take-append-le end file (framed body) (omega arith))
    ∙ ap (λ (l : List ℕ). (take end file ++ 1 ∷ []) ++ l) (drop_at file (framed body) (end + 1) long) ∙ append_assoc (take end file) (1 ∷ []) (framed body)

pub length-appended : (file body : List ℕ) (end : ℕ) → length file ≡ end + 1 → length (appended file end body) ≡ end + (9 + length body) + 1
length-appended file body end long = omega (arith, length-append (take end file) (1 ∷ framed body), length-take end file, length-framed body)

-- a cut behind the closed mark
pub cut_frames : (file image : List ℕ) (end : ℕ) → end_of file ≡ Some end → PartlyCut (end + 1) file image → frames_of image ≡ frames_of file
cut_frames file image end ends cut = (same_front file image end ends cut.before).0
