-- The two laws: a frame that is read has this body, and the body of a frame is read as it.
use Rattle.std.proofs.Common.{◌≡◌, ℕ, zero, suc, cond, eqb, List, [], ◌∷◌, ◌++◌, length, Some, None, Result, Ok, Err, refl, sym, ap, subst, ◌∙◌, append_assoc}
use Rattle.std.specs.Int.{w64, to_be_bytes}
use Rattle.std.proofs.lemmas.Bool.{eqb-true}
use Rattle.std.proofs.lemmas.List.{append-nil, nil_from_length}
use Rattle.wh_codec.specs.declared.fault.FrameFault.{FrameFault}
use Rattle.wh_codec.specs.declared.fault.FrameFault.TheVariants as fault
use Rattle.wh_codec.specs.declared.frame.Frame.{Frame}
use Rattle.wh_codec.specs.declared.frame.Frame.TheVariants.{Snapshot, Change}
use Rattle.wh_codec.specs.Body.{IsBodyOf, IsRead, IsSpelled, counted, delta_bytes, frame_bytes, table_bytes, text_bytes}
use Rattle.wh_codec.specs.Reading.{◌>>=◌, Gives, number_at, spec_at, counted_at, table_at, delta_at, snapshot_at, change_at, frame_at, frame_of}
use Rattle.wh_codec.proofs.Fields.{IsBytes, IsBytes-rest, bind_some, some_is, Takes, Takes-then, number64, spec_reads, counted_reads}
use Rattle.wh_codec.proofs.Tables.{test_some, cons_takes, table_reads, delta_reads}

snapshot_takes : (bytes : List ℕ) (frame : Frame) (rest : List ℕ) → IsBytes bytes → snapshot_at bytes ≡ Some (frame, rest) → Takes (1 ∷ bytes) (frame_bytes frame) rest × IsSpelled frame
unfolding snapshot_at
snapshot_takes bytes frame rest fits e =
    let tables = counted_reads table_reads in
    let a = bind_some (number_at w64 bytes) (λ generation. number_at w64 generation.1 >>= λ seq. spec_at seq.1 >>= λ spec. counted_at table_at spec.1 >>= λ tables. Some (Snapshot generation.0 seq.0 spec.0 tables.0, tables.1)) (frame, rest) e in
    let b = bind_some (number_at w64 a.0.1) (λ seq. spec_at seq.1 >>= λ spec. counted_at table_at spec.1 >>= λ tables. Some (Snapshot a.0.0 seq.0 spec.0 tables.0, tables.1)) (frame, rest) a.2 in
    let c = bind_some (spec_at b.0.1) (λ spec. counted_at table_at spec.1 >>= λ tables. Some (Snapshot a.0.0 b.0.0 spec.0 tables.0, tables.1)) (frame, rest) b.2 in
    let d = bind_some (counted_at table_at c.0.1) (λ tables. Some (Snapshot a.0.0 b.0.0 c.0.0 tables.0, tables.1)) (frame, rest) c.2 in
    let t0 = number64.takes bytes a.0.0 a.0.1 fits a.1 in
    let t1 = number64.takes a.0.1 b.0.0 b.0.1 t0.0.rest_fits b.1 in
    let t2 = spec_reads.takes b.0.1 c.0.0 c.0.1 t1.0.rest_fits c.1 in
    let t3 = tables.takes c.0.1 d.0.0 d.0.1 t2.0.rest_fits d.1 in
    let e23 = Takes-then b.0.1 (text_bytes c.0.0) c.0.1 (counted table_bytes d.0.0) d.0.1 t2.0 t3.0 in
    let e13 = Takes-then a.0.1 (to_be_bytes w64 b.0.0) b.0.1 (text_bytes c.0.0 ++ counted table_bytes d.0.0) d.0.1 t1.0 e23 in
    let e03 = Takes-then bytes (to_be_bytes w64 a.0.0) a.0.1 (to_be_bytes w64 b.0.0 ++ (text_bytes c.0.0 ++ counted table_bytes d.0.0)) d.0.1 t0.0 e13 in
    let made : Frame × List ℕ = (Snapshot a.0.0 b.0.0 c.0.0 d.0.0, d.0.1) in
    subst (λ (y : Frame × List ℕ). Takes (1 ∷ bytes) (frame_bytes y.0) y.1 × IsSpelled y.0) (some_is made (frame, rest) d.2) (
      cons_takes 1 bytes (to_be_bytes w64 a.0.0 ++ (to_be_bytes w64 b.0.0 ++ (text_bytes c.0.0 ++ counted table_bytes d.0.0))) d.0.1 e03,
      record { generation = t0.1; seq = t1.1; spec = t2.1; count = t3.1.0; tables = t3.1.1 },
    )

change_takes : (bytes : List ℕ) (frame : Frame) (rest : List ℕ) → IsBytes bytes → change_at bytes ≡ Some (frame, rest) → Takes (2 ∷ bytes) (frame_bytes frame) rest × IsSpelled frame
unfolding change_at
change_takes bytes frame rest fits e =
    let deltas = counted_reads delta_reads in
    let a = bind_some (number_at w64 bytes) (λ seq. counted_at delta_at seq.1 >>= λ deltas. Some (Change seq.0 deltas.0, deltas.1)) (frame, rest) e in
    let b = bind_some (counted_at delta_at a.0.1) (λ deltas. Some (Change a.0.0 deltas.0, deltas.1)) (frame, rest) a.2 in
    let t0 = number64.takes bytes a.0.0 a.0.1 fits a.1 in
    let t1 = deltas.takes a.0.1 b.0.0 b.0.1 t0.0.rest_fits b.1 in
    let both = Takes-then bytes (to_be_bytes w64 a.0.0) a.0.1 (counted delta_bytes b.0.0) b.0.1 t0.0 t1.0 in
    let made : Frame × List ℕ = (Change a.0.0 b.0.0, b.0.1) in
    subst (λ (y : Frame × List ℕ). Takes (2 ∷ bytes) (frame_bytes y.0) y.1 × IsSpelled y.0) (some_is made (frame, rest) b.2)
    (cons_takes 2 bytes (to_be_bytes w64 a.0.0 ++ counted delta_bytes b.0.0) b.0.1 both, record { seq = t0.1; count = t1.1.0; deltas = t1.1.1 })

frame_takes : (bytes : List ℕ) (frame : Frame) (rest : List ℕ) → IsBytes bytes → frame_at bytes ≡ Some (frame, rest) → Takes bytes (frame_bytes frame) rest × IsSpelled frame
unfolding frame_at
frame_takes [] frame rest fits e = absurd cc
frame_takes (zero ∷ bytes) frame rest fits e = absurd cc
frame_takes (suc zero ∷ bytes) frame rest fits e = snapshot_takes bytes frame rest (IsBytes-rest 1 bytes fits) e
frame_takes (suc (suc zero) ∷ bytes) frame rest fits e = change_takes bytes frame rest (IsBytes-rest 2 bytes fits) e
frame_takes (suc (suc (suc mark)) ∷ bytes) frame rest fits e = absurd cc

frame_again : (frame : Frame) (rest : List ℕ) → IsSpelled frame → frame_at (frame_bytes frame ++ rest) ≡ Some (frame, rest)
unfolding frame_at snapshot_at change_at
frame_again (Snapshot generation seq spec tables) rest fits =
    let ts = counted table_bytes tables in
    let regrouped : frame_bytes (Snapshot generation seq spec tables) ++ rest ≡ 1 ∷ (to_be_bytes w64 generation ++ (to_be_bytes w64 seq ++ (text_bytes spec ++ (ts ++ rest)))) =
    ap (λ (x : List ℕ). 1 ∷ x) (append_assoc (to_be_bytes w64 generation) (to_be_bytes w64 seq ++ (text_bytes spec ++ ts)) rest
    ∙ ap (λ (x : List ℕ). to_be_bytes w64 generation ++ x) (append_assoc (to_be_bytes w64 seq) (text_bytes spec ++ ts) rest
    ∙ ap (λ (x : List ℕ). to_be_bytes w64 seq ++ x) (append_assoc (text_bytes spec) ts rest))) in
    ap frame_at regrouped
    ∙ rw (
      number64.again generation (to_be_bytes w64 seq ++ (text_bytes spec ++ (ts ++ rest))) fits.generation,
      number64.again seq (text_bytes spec ++ (ts ++ rest)) fits.seq,
      spec_reads.again spec (ts ++ rest) fits.spec,
      (counted_reads table_reads).again tables rest (fits.count, fits.tables),
    ) refl
frame_again (Change seq deltas) rest fits =
    let ds = counted delta_bytes deltas in
    let regrouped : frame_bytes (Change seq deltas) ++ rest ≡ 2 ∷ (to_be_bytes w64 seq ++ (ds ++ rest)) = ap (λ (x : List ℕ). 2 ∷ x) (append_assoc (to_be_bytes w64 seq) ds rest) in
    ap frame_at regrouped
    ∙ rw (number64.again seq (ds ++ rest) fits.seq, (counted_reads delta_reads).again deltas rest (fits.count, fits.deltas)) refl

pub body_is : (body : List ℕ) (frame : Frame) → IsBytes body → frame_of body ≡ Some frame → IsBodyOf body frame
unfolding frame_of
body_is body frame fits e =
    let a = bind_some (frame_at body) (λ found. cond (eqb (length found.1) 0) (Some found.0) None) frame e in
    let g = test_some (eqb (length a.0.1) 0) a.0.0 frame a.2 in
    let t = frame_takes body a.0.0 a.0.1 fits a.1 in
    let nothing : a.0.1 ≡ [] = nil_from_length a.0.1 (eqb-true _ _ g.0) in
    let whole : body ≡ frame_bytes a.0.0 = t.0.parts ∙ ap (λ (r : List ℕ). frame_bytes a.0.0 ++ r) nothing ∙ append-nil (frame_bytes a.0.0) in
    subst (λ (f : Frame). IsBodyOf body f) g.1 (record { spelled = t.1; bytes = whole })

pub body_again : (body : List ℕ) (frame : Frame) → IsBodyOf body frame → frame_of body ≡ Some frame
unfolding frame_of
body_again body frame is =
    let read : frame_at body ≡ Some (frame, []) = ap frame_at (is.bytes ∙ sym (append-nil (frame_bytes frame))) ∙ frame_again frame [] is.spelled in
    rw read refl

pub is_read : (body : List ℕ) (r : Result Frame FrameFault) → IsBytes body → Gives (λ frame. frame) r (frame_of body) → IsRead body r
is_read body (Ok frame) fits given = body_is body frame fits given
is_read body (Err fault.Bad) fits given = λ frame is. let read = body_again body frame is in absurd cc
is_read body (Err fault.NoMemory) fits given = tt

pub one_frame : (body : List ℕ) (f g : Frame) → IsBodyOf body f → IsBodyOf body g → f ≡ g
one_frame body f g first second = some_is f g (sym (body_again body f first) ∙ body_again body g second)
