-- What `frames_of` says of the bytes of a file.
use Rattle.std.proofs.Common.{◌≡◌, ℕ, ◌+◌, ◌<◌, Bool, true, false, cond, ltb, List, [], ◌∷◌, ◌++◌, length, take, drop, Option, Some, None, Result, Ok, Err, refl, sym, ap, ◌∙◌, arith}
use Rattle.std.specs.Prelude.{◌↔◌}
use Rattle.std.proofs.lemmas.Bool.{lt-ltb, ltb-true}
use Rattle.std.proofs.lemmas.List.{append-nil}
use Rattle.wh_journal.specs.File.{IsSpelledBy, IsWrong, IsWrongAt, Walk, body_at, frames_of, is_empty, is_open, judged, length_in, span, walk, walk_on}
use Rattle.wh_journal.proofs.Walks.{ahead, closed_front, frames_closed, length-frames, nothing_walks, walk_closed, walk_found, walk_frames, walk_mark, walked}

abbrev Frames : Type 0
Frames = Result (List (List ℕ)) ℕ

ok_is : (x y : List (List ℕ)) → ◌≡◌ {A = Frames} (Ok x) (Ok y) → x ≡ y
ok_is x y e = cc

err_is : (x y : ℕ) → ◌≡◌ {A = Frames} (Err x) (Err y) → x ≡ y
err_is x y e = cc

err_ok : (x : ℕ) (y : List (List ℕ)) → ◌≡◌ {A = Frames} (Err x) (Ok y) → ⊥
err_ok x y e = cc

ok_err : (x : List (List ℕ)) (y : ℕ) → ◌≡◌ {A = Frames} (Ok x) (Err y) → ⊥
ok_err x y e = cc

-- ---- frames

walk_is : (file : List ℕ) (bodies : List (List ℕ)) → 0 < length bodies → frames_of file ≡ Ok bodies → walk file ≡ walked bodies true
walk_is file bodies some e = by (is_empty file) (walk file).closed refl e
  where
    by : (empty closed : Bool) → (walk file).closed ≡ closed → cond empty (Ok []) (cond closed (Ok (walk file).bodies) (Err (span (walk file).bodies))) ≡ Ok bodies → walk file ≡ walked bodies true
    by true closed shut e = absurd (omega (arith, ap length (ok_is [] bodies e)))
    by false true shut e = let same = ok_is (walk file).bodies bodies e in λ i. walked (same i) (shut i)
    by false false shut e = absurd (err_ok (span (walk file).bodies) bodies e)

pub spelled : (file : List ℕ) (bodies : List (List ℕ)) → 0 < length bodies → (frames_of file ≡ Ok bodies) ↔ IsSpelledBy file bodies
spelled file bodies some = (to, from)
  where
    to : frames_of file ≡ Ok bodies → IsSpelledBy file bodies
    to e =
        let found = walk_found bodies true file (walk_is file bodies some e) in
        let closed = closed_front found.rest found.stops in
        record { front = found.front; mark = closed.mark; tail = closed.tail; frames = found.frames; shut = closed.shut; parts = found.parts ∙ ap (λ (l : List ℕ). found.front ++ l) closed.parts }

    from : IsSpelledBy file bodies → frames_of file ≡ Ok bodies
    from is = frames_closed file bodies (ap walk is.parts ∙ walk_closed bodies is.front is.mark is.tail is.frames is.shut)

-- ---- damage

body_wrong : (bytes : List ℕ) → length bytes < 8 + length_in bytes → body_at bytes ≡ None
body_wrong bytes short = ap (λ (b : Bool). cond b None (Some (take (length_in bytes) (drop 8 bytes), drop (8 + length_in bytes) bytes))) (lt-ltb (length bytes) (8 + length_in bytes) short)

wrong_walk : (rest : List ℕ) → IsWrong rest → walk rest ≡ walked [] false
wrong_walk [] wrong = nothing_walks [] (omega arith)
wrong_walk (mark ∷ bytes) wrong =
    walk_mark mark bytes ∙ ap (λ (b : Bool). cond b (walk_on walk (body_at bytes)) (walked [] true)) wrong.0 ∙ ap (walk_on walk) (body_wrong bytes wrong.1)

none_short : {A : Type 0} (found : A) (n m : ℕ) (b : Bool) → ltb n m ≡ b → cond b None (Some found) ≡ None → n < m
none_short found n m true less e = ltb-true _ _ less
none_short found n m false less e = absurd cc

walk_wrong : (rest : List ℕ) → walk rest ≡ walked [] false → IsWrong rest
walk_wrong [] w = tt
walk_wrong (mark ∷ bytes) w = by (is_open mark) refl (sym (walk_mark mark bytes) ∙ w)
  where
    on : (o : Option (List ℕ × List ℕ)) → body_at bytes ≡ o → walk_on walk o ≡ walked [] false → length bytes < 8 + length_in bytes
    on None e w = none_short (take (length_in bytes) (drop 8 bytes), drop (8 + length_in bytes) bytes) (length bytes) (8 + length_in bytes) (ltb (length bytes) (8 + length_in bytes)) refl e
    on (Some found) e w = absurd (omega (arith, ap length (ap (λ (x : Walk). x.bodies) w)))

    by : (b : Bool) → is_open mark ≡ b → cond b (walk_on walk (body_at bytes)) (walked [] true) ≡ walked [] false → IsWrong (mark ∷ bytes)
    by true begins e = (begins, on (body_at bytes) refl e)
    by false begins e = absurd (true_false (ap (λ (x : Walk). x.closed) e))
      where
        true_false : ◌≡◌ {A = Bool} true false → ⊥
        true_false e = cc

record Damage (file : List ℕ) (place : ℕ) : Type 0 where
  full : is_empty file ≡ false
  open_ended : (walk file).closed ≡ false
  at : span (walk file).bodies ≡ place

damage_is : (file : List ℕ) (place : ℕ) → frames_of file ≡ Err place → Damage file place
damage_is file place e = by (is_empty file) (walk file).closed refl refl e
  where
    by : (empty closed : Bool) → is_empty file ≡ empty → (walk file).closed ≡ closed → cond empty (Ok []) (cond closed (Ok (walk file).bodies) (Err (span (walk file).bodies))) ≡ Err place → Damage file place
    by true closed full shut e = absurd (ok_err [] place e)
    by false true full shut e = absurd (ok_err (walk file).bodies place e)
    by false false full shut e = record { full = full; open_ended = shut; at = err_is (span (walk file).bodies) place e }

pub damaged : (file : List ℕ) (place : ℕ) → (frames_of file ≡ Err place) ↔ ((is_empty file ≡ false) × IsWrongAt file place)
damaged file place = (to, from)
  where
    to : frames_of file ≡ Err place → (is_empty file ≡ false) × IsWrongAt file place
    to e =
        let d = damage_is file place e in
        let bodies = (walk file).bodies in
        let found = walk_found bodies false file (λ i. walked bodies (d.open_ended i)) in
        (d.full, record { bodies = bodies; front = found.front; rest = found.rest; frames = found.frames; length = length-frames bodies found.front found.frames ∙ d.at; wrong = walk_wrong found.rest found.stops; parts = found.parts })

    from : (is_empty file ≡ false) × IsWrongAt file place → frames_of file ≡ Err place
    from both =
        let is = both.1 in
        let w : walk file ≡ ahead is.bodies (walked [] false) = ap walk is.parts ∙ walk_frames is.bodies is.front is.rest is.frames ∙ ap (ahead is.bodies) (wrong_walk is.rest is.wrong) in
        ap (λ (b : Bool). cond b (Ok []) (judged (walk file))) both.0 ∙ ap judged w ∙ ap (λ (l : List (List ℕ)). Err (span l)) (append-nil is.bodies)
        ∙ ap (λ (n : ℕ). Err n) (sym (length-frames is.bodies is.front is.frames) ∙ is.length)
