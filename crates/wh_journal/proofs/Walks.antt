-- What a walk through a file finds.
use Rattle.std.proofs.Common.{◌≡◌, ℕ, zero, suc, ◌+◌, ◌≤◌, ◌<◌, Bool, true, false, not, cond, ltb, List, [], ◌∷◌, ◌++◌, length, get_or, take, drop, Option, Some, None, Result, Ok, Err, refl, sym, ap, subst, ◌∙◌, append_assoc, arith}
use Rattle.std.specs.Int.{w64, from_be_bytes}
use Rattle.std.proofs.lemmas.Bool.{eqb-true, ltb-false, le-ltb}
use Rattle.std.proofs.lemmas.List.{append-nil, drop_at, drop-drop, length-append, length-drop, length-take, take_at, take-append-drop}
use Rattle.wh_journal.specs.File.{AreFrames, IsFrame, Walk, behind, body_at, end_of, frames_of, is_empty, is_open, length_in, span, walk, walk_on, walk_within}

-- ---- bodies

guard_some : {A : Type 0} (b : Bool) (x y : A) → cond b None (Some x) ≡ Some y → (b ≡ false) × (x ≡ y)
guard_some true x y e = absurd cc
guard_some false x y e = (refl, cc)

pub body_parts : (bytes body after : List ℕ) → body_at bytes ≡ Some (body, after) → IsFrame body (1 ∷ bytes) after
body_parts bytes body after e =
    let n = length_in bytes in
    let g = guard_some (ltb (length bytes) (8 + n)) (take n (drop 8 bytes), drop (8 + n) bytes) (body, after) e in
    let long : 8 + n ≤ length bytes = ltb-false _ _ g.0 in
    let eight : length (take 8 bytes) ≡ 8 = omega (arith, length-take 8 bytes) in
    let whole : length (take n (drop 8 bytes)) ≡ n = omega (arith, length-take n (drop 8 bytes), length-drop 8 bytes) in
    let rest : take n (drop 8 bytes) ++ drop (8 + n) bytes ≡ drop 8 bytes = rw (← (drop-drop n 8 bytes)) (take-append-drop n (drop 8 bytes)) in
    subst (λ (p : List ℕ × List ℕ). IsFrame p.0 (1 ∷ bytes) p.1) g.1 (record {
      header = take 8 bytes;
      eight = eight;
      says = sym whole;
      parts = ap (λ (l : List ℕ). 1 ∷ l) (sym (ap (λ (l : List ℕ). take 8 bytes ++ l) rest ∙ take-append-drop 8 bytes));
    })

pub body_found : (header body after : List ℕ) → length header ≡ 8 → from_be_bytes w64 header ≡ length body → body_at (header ++ (body ++ after)) ≡ Some (body, after)
body_found header body after eight says =
    let bytes = header ++ (body ++ after) in
    let n : length_in bytes ≡ length body = ap (from_be_bytes w64) (take_at header (body ++ after) 8 eight) ∙ says in
    let long : ltb (length bytes) (8 + length body) ≡ false = le-ltb _ _ (omega (arith, length-append header (body ++ after), length-append body after)) in
    let rest : drop 8 bytes ≡ body ++ after = drop_at header (body ++ after) 8 eight in
    let end : drop (8 + length body) bytes ≡ after = sym (drop-drop (length body) 8 bytes) ∙ ap (drop (length body)) rest ∙ drop_at body after (length body) refl in
    let front : take (length body) (drop 8 bytes) ≡ body = ap (take (length body)) rest ∙ take_at body after (length body) refl in
    rw (n, long, front, end) refl

shorter : (bytes : List ℕ) (found : List ℕ × List ℕ) → body_at bytes ≡ Some found → length found.1 ≤ length bytes
shorter bytes found e =
    let n = length_in bytes in
    let g = guard_some (ltb (length bytes) (8 + n)) (take n (drop 8 bytes), drop (8 + n) bytes) found e in
    let is : drop (8 + n) bytes ≡ found.1 = ap (λ (p : List ℕ × List ℕ). p.1) g.1 in
    omega (arith, length-drop (8 + n) bytes, ap length is)

-- ---- how many frames are allowed does not matter

enough_on : (n m : ℕ) (bytes : List ℕ) → ((rest : List ℕ) → length rest < n → length rest < m → walk_within n rest ≡ walk_within m rest) → length bytes < n → length bytes < m
    → (o : Option (List ℕ × List ℕ)) → body_at bytes ≡ o → walk_on (walk_within n) o ≡ walk_on (walk_within m) o
enough_on n m bytes ih in_n in_m None e = refl
enough_on n m bytes ih in_n in_m (Some found) e =
    let less = shorter bytes found e in
    ap (behind found.0) (ih found.1 (omega arith) (omega arith))

enough : (n m : ℕ) (bytes : List ℕ) → length bytes < n → length bytes < m → walk_within n bytes ≡ walk_within m bytes
unfolding walk_within
enough zero m bytes in_n in_m = absurd (omega arith)
enough (suc n) zero bytes in_n in_m = absurd (omega arith)
enough (suc n) (suc m) [] in_n in_m = refl
enough (suc n) (suc m) (mark ∷ bytes) in_n in_m =
    ap (λ (w : Walk). cond (is_open mark) w (record { bodies = []; closed = true })) (enough_on n m bytes (enough n m) (omega arith) (omega arith) (body_at bytes) refl)

walk_nil : walk [] ≡ record { bodies = []; closed = false }
unfolding walk_within
walk_nil = refl

rest_walks : (bytes : List ℕ) (o : Option (List ℕ × List ℕ)) → body_at bytes ≡ o → walk_on (walk_within (suc (length bytes))) o ≡ walk_on walk o
rest_walks bytes None e = refl
rest_walks bytes (Some found) e =
    let less = shorter bytes found e in
    ap (behind found.0) (enough (suc (length bytes)) (suc (length found.1)) found.1 (omega arith) (omega arith))

pub walk_mark : (mark : ℕ) (bytes : List ℕ) → walk (mark ∷ bytes) ≡ cond (is_open mark) (walk_on walk (body_at bytes)) (record { bodies = []; closed = true })
unfolding walk_within
walk_mark mark bytes = ap (λ (w : Walk). cond (is_open mark) w (record { bodies = []; closed = true })) (rest_walks bytes (body_at bytes) refl)

-- ---- frames, and what stands behind them

abbrev pub ahead : List (List ℕ) → Walk → Walk
ahead bodies walked = record { bodies = bodies ++ walked.bodies; closed = walked.closed }

pub walk_frames : (bodies : List (List ℕ)) (front rest : List ℕ) → AreFrames bodies front → walk (front ++ rest) ≡ ahead bodies (walk rest)
walk_frames [] front rest are = ap (λ (l : List ℕ). walk (l ++ rest)) are
walk_frames (body ∷ bodies) front rest are =
    let more = are.0 in
    let is = are.1 in
    let grouped : front ++ rest ≡ 1 ∷ (is.header ++ (body ++ (more ++ rest))) =
    ap (λ (l : List ℕ). l ++ rest) is.parts ∙ ap (λ (l : List ℕ). 1 ∷ l) (append_assoc is.header (body ++ more) rest ∙ ap (λ (l : List ℕ). is.header ++ l) (append_assoc body more rest)) in
    ap walk grouped ∙ walk_mark 1 (is.header ++ (body ++ (more ++ rest))) ∙ ap (walk_on walk) (body_found is.header body (more ++ rest) is.eight is.says) ∙ ap (behind body) (walk_frames bodies more rest are.2)

pub length-frames : (bodies : List (List ℕ)) (front : List ℕ) → AreFrames bodies front → length front ≡ span bodies
length-frames [] front are = ap length are
length-frames (body ∷ bodies) front are =
    let is = are.1 in
    omega (arith, ap length is.parts, length-append is.header (body ++ are.0), length-append body are.0, is.eight, length-frames bodies are.0 are.2)

-- what a walk found stands in the file
pub record Found (bodies : List (List ℕ)) (closed : Bool) (file : List ℕ) : Type 0 where
  pub front : List ℕ
  pub rest : List ℕ
  pub parts : file ≡ front ++ rest
  pub frames : AreFrames bodies front
  pub stops : walk rest ≡ record { bodies = []; closed = closed }

abbrev pub walked : List (List ℕ) → Bool → Walk
walked bodies closed = record { bodies = bodies; closed = closed }

cons_is : (x y : List ℕ) (xs ys : List (List ℕ)) → x ∷ xs ≡ y ∷ ys → (x ≡ y) × (xs ≡ ys)
cons_is x y xs ys e = (cc, cc)

no_bodies : (body : List ℕ) (bodies : List (List ℕ)) (closed : Bool) (empty : Walk) → empty.bodies ≡ [] → empty ≡ walked (body ∷ bodies) closed → ⊥
no_bodies body bodies closed empty none e = let same = ap (λ (x : Walk). x.bodies) e in nil-cons body bodies (sym none ∙ same)
  where
    nil-cons : (b : List ℕ) (bs : List (List ℕ)) → ◌≡◌ {A = List (List ℕ)} [] (b ∷ bs) → ⊥
    nil-cons b bs e = cc

found_on : (mark : ℕ) (bytes body : List ℕ) (bodies : List (List ℕ)) (closed : Bool) → is_open mark ≡ true → ((after : List ℕ) → walk after ≡ walked bodies closed → Found bodies closed after)
    → (o : Option (List ℕ × List ℕ)) → body_at bytes ≡ o → walk_on walk o ≡ walked (body ∷ bodies) closed → Found (body ∷ bodies) closed (mark ∷ bytes)
found_on mark bytes body bodies closed begins ih None e w = absurd (no_bodies body bodies closed (walked [] false) refl w)
found_on mark bytes body bodies closed begins ih (Some found) e w =
    let both = cons_is found.0 body (walk found.1).bodies bodies (ap (λ (x : Walk). x.bodies) w) in
    let here = both.0 in
    let later = both.1 in
    let rest = ih found.1 (λ i. record { bodies = later i; closed = (ap (λ (x : Walk). x.closed) w) i }) in
    let is = body_parts bytes found.0 found.1 e in
    let one : mark ≡ 1 = eqb-true mark 1 begins in
    let front = 1 ∷ (is.header ++ (body ++ rest.front)) in
    let frame : IsFrame body front rest.front = record { header = is.header; eight = is.eight; says = is.says ∙ ap length here; parts = refl } in
    record {
      front = front;
      rest = rest.rest;
      parts = ap (λ (m : ℕ). m ∷ bytes) one ∙ is.parts ∙ ap (λ (l : List ℕ). 1 ∷ (is.header ++ l))
          ((λ i. here i ++ found.1) ∙ ap (λ (l : List ℕ). body ++ l) rest.parts ∙ sym (append_assoc body rest.front rest.rest))
          ∙ ap (λ (l : List ℕ). 1 ∷ l) (sym (append_assoc is.header (body ++ rest.front) rest.rest));
      frames = (rest.front, frame, rest.frames);
      stops = rest.stops;
    }

pub walk_found : (bodies : List (List ℕ)) (closed : Bool) (file : List ℕ) → walk file ≡ walked bodies closed → Found bodies closed file
walk_found [] closed file w = record { front = []; rest = file; parts = refl; frames = refl; stops = w }
walk_found (body ∷ bodies) closed [] w = absurd (no_bodies body bodies closed (walked [] false) refl (sym walk_nil ∙ w))
walk_found (body ∷ bodies) closed (mark ∷ bytes) w = by (is_open mark) refl (sym (walk_mark mark bytes) ∙ w) (walk_found bodies closed)
  where
    by : (b : Bool) → is_open mark ≡ b → cond b (walk_on walk (body_at bytes)) (walked [] true) ≡ walked (body ∷ bodies) closed
        → ((after : List ℕ) → walk after ≡ walked bodies closed → Found bodies closed after) → Found (body ∷ bodies) closed (mark ∷ bytes)
    by true begins e ih = found_on mark bytes body bodies closed begins ih (body_at bytes) refl e
    by false begins e ih = absurd (no_bodies body bodies closed (walked [] true) refl e)

-- ---- the closed mark

pub record Closed (rest : List ℕ) : Type 0 where
  pub mark : ℕ
  pub tail : List ℕ
  pub parts : rest ≡ mark ∷ tail
  pub shut : is_open mark ≡ false

never : ◌≡◌ {A = Bool} false true → ⊥
never e = cc

false_true : (bodies : List (List ℕ)) (empty : Walk) → empty.closed ≡ false → empty ≡ walked bodies true → ⊥
false_true bodies empty shut e = never (sym shut ∙ ap (λ (x : Walk). x.closed) e)

pub closed_front : (rest : List ℕ) → walk rest ≡ walked [] true → Closed rest
closed_front [] w = absurd (false_true [] (walked [] false) refl (sym walk_nil ∙ w))
closed_front (mark ∷ tail) w = by (is_open mark) refl (sym (walk_mark mark tail) ∙ w)
  where
    on : (o : Option (List ℕ × List ℕ)) → walk_on walk o ≡ walked [] true → ⊥
    on None e = false_true [] (walked [] false) refl e
    on (Some found) e = no_bodies found.0 (walk found.1).bodies true (walked [] true) refl (sym e ∙ (λ i. walked (found.0 ∷ (walk found.1).bodies) (ap (λ (x : Walk). x.closed) e i)))

    by : (b : Bool) → is_open mark ≡ b → cond b (walk_on walk (body_at tail)) (walked [] true) ≡ walked [] true → Closed (mark ∷ tail)
    by true begins e = absurd (on (body_at tail) e)
    by false begins e = record { mark = mark; tail = tail; parts = refl; shut = begins }

pub walk_shut : (mark : ℕ) (tail : List ℕ) → is_open mark ≡ false → walk (mark ∷ tail) ≡ walked [] true
walk_shut mark tail shut = walk_mark mark tail ∙ ap (λ (b : Bool). cond b (walk_on walk (body_at tail)) (walked [] true)) shut

ahead_nil : (bodies : List (List ℕ)) (closed : Bool) → ahead bodies (walked [] closed) ≡ walked bodies closed
ahead_nil bodies closed = ap (λ (l : List (List ℕ)). walked l closed) (append-nil bodies)

-- frames and a closed mark
pub walk_closed : (bodies : List (List ℕ)) (front : List ℕ) (mark : ℕ) (tail : List ℕ) → AreFrames bodies front → is_open mark ≡ false → walk (front ++ mark ∷ tail) ≡ walked bodies true
walk_closed bodies front mark tail are shut = walk_frames bodies front (mark ∷ tail) are ∙ ap (ahead bodies) (walk_shut mark tail shut) ∙ ahead_nil bodies true

-- ---- what a file holds

empty_closed : (file : List ℕ) (bodies : List (List ℕ)) → walk file ≡ walked bodies true → is_empty file ≡ true → bodies ≡ []
empty_closed [] bodies w e = absurd (false_true bodies (walked [] false) refl (sym walk_nil ∙ w))
empty_closed (mark ∷ tail) [] w e = refl
empty_closed (mark ∷ []) (body ∷ bodies) w e =
    let found = walk_found (body ∷ bodies) true (mark ∷ []) w in
    absurd (omega (arith, ap length found.parts, length-append found.front found.rest, length-frames (body ∷ bodies) found.front found.frames))
empty_closed (mark ∷ byte ∷ tail) (body ∷ bodies) w e = by (is_open mark) refl e
  where
    by : (b : Bool) → is_open mark ≡ b → is_empty (mark ∷ byte ∷ tail) ≡ true → body ∷ bodies ≡ []
    by true begins e = absurd (never (sym (ap not begins) ∙ e))
    by false begins e = absurd (no_bodies body bodies true (walked [] true) refl (sym (walk_shut mark (byte ∷ tail) begins) ∙ w))

abbrev judged_by : Bool → Bool → List (List ℕ) → Result (List (List ℕ)) ℕ
judged_by empty closed bodies = cond empty (Ok []) (cond closed (Ok bodies) (Err (span bodies)))

by_emptiness : (empty : Bool) (bodies : List (List ℕ)) → (empty ≡ true → bodies ≡ []) → judged_by empty true bodies ≡ Ok bodies
by_emptiness true bodies none = ap (λ (l : List (List ℕ)). Ok l) (sym (none refl))
by_emptiness false bodies none = refl

pub frames_closed : (file : List ℕ) (bodies : List (List ℕ)) → walk file ≡ walked bodies true → frames_of file ≡ Ok bodies
frames_closed file bodies w = (λ i. judged_by (is_empty file) (w i).closed (w i).bodies) ∙ by_emptiness (is_empty file) bodies (empty_closed file bodies w)

abbrev ended_by : Bool → ℕ → Option ℕ
ended_by closed end = cond closed (Some end) None

pub end_closed : (file : List ℕ) (bodies : List (List ℕ)) → walk file ≡ walked bodies true → end_of file ≡ Some (span bodies)
end_closed file bodies w = (λ i. ended_by (w i).closed (span (w i).bodies))

-- what stands in a file whose frames end at this place
pub record Ends (file : List ℕ) (end : ℕ) : Type 0 where
  pub bodies : List (List ℕ)
  pub is : walk file ≡ walked bodies true
  pub place : span bodies ≡ end

pub ends_at : (file : List ℕ) (end : ℕ) → end_of file ≡ Some end → Ends file end
ends_at file end e = by (walk file).closed refl e
  where
    by : (b : Bool) → (walk file).closed ≡ b → ended_by b (span (walk file).bodies) ≡ Some end → Ends file end
    by true shut e = record { bodies = (walk file).bodies; is = (λ i. walked (walk file).bodies (shut i)); place = cc (e) }
    by false shut e = absurd (none e)
      where
        none : ◌≡◌ {A = Option ℕ} None (Some end) → ⊥
        none e = cc

-- ---- one mark, and then the next

pub nothing_walks : (bytes : List ℕ) → length bytes < 1 → walk bytes ≡ walked [] false
nothing_walks [] short = walk_nil
nothing_walks (mark ∷ bytes) short = absurd (omega arith)

other_mark : (mark : ℕ) (b : Bool) → is_open mark ≡ b → (mark ≡ 1 → ⊥) → is_open mark ≡ false
other_mark mark true begins not_one = absurd (not_one (eqb-true mark 1 begins))
other_mark mark false begins not_one = begins

pub shut_walks : (bytes : List ℕ) → 1 ≤ length bytes → (get_or bytes 0 0 ≡ 1 → ⊥) → walk bytes ≡ walked [] true
shut_walks [] long not_one = absurd (omega arith)
shut_walks (mark ∷ bytes) long not_one = walk_shut mark bytes (other_mark mark (is_open mark) refl not_one)

pub open_walks : (bytes body after : List ℕ) → body_at bytes ≡ Some (body, after) → (walk (1 ∷ bytes) ≡ behind body (walk after)) × (length (1 ∷ bytes) ≡ 9 + length body + length after)
open_walks bytes body after e =
    let is = body_parts bytes body after e in
    (walk_mark 1 bytes ∙ ap (walk_on walk) e, omega (arith, ap length is.parts, length-append is.header (body ++ after), length-append body after, is.eight))

pub wrong_walks : (bytes : List ℕ) → body_at bytes ≡ None → walk (1 ∷ bytes) ≡ walked [] false
wrong_walks bytes e = walk_mark 1 bytes ∙ ap (walk_on walk) e

pub span-push : (bodies : List (List ℕ)) (body : List ℕ) → span (bodies ++ body ∷ []) ≡ span bodies + (9 + length body)
span-push [] body = omega arith
span-push (first ∷ bodies) body = omega (arith, span-push bodies body)

-- what is found in a file that is not empty
pub some_bodies : (file : List ℕ) (bodies : List (List ℕ)) → walk file ≡ walked bodies true → is_empty file ≡ false → 0 < length bodies
some_bodies file (body ∷ bodies) w full = omega arith
some_bodies [] [] w full = absurd (never (sym full))
some_bodies (mark ∷ []) [] w full = absurd (never (sym full))
some_bodies (mark ∷ byte ∷ tail) [] w full =
    let closed = closed_front (mark ∷ byte ∷ tail) w in
    let same : mark ≡ closed.mark = cc (closed.parts) in
    absurd (never (sym full ∙ ap not (ap is_open same ∙ closed.shut)))
