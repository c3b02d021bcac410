-- What the first byte of a file tells.
use Rattle.std.proofs.Common.{◌≡◌, ◌≤◌, ◌<◌, ℕ, zero, suc, List, [], ◌∷◌, ◌++◌, true, false, length, drop, take, replicate, refl, ap, sym, ◌∙◌, ◌+◌, ◌-◌, slice_range, arith}
use Rattle.std.specs.Prelude.{not, Option, None, Some, IfSome, Result, Ok, Err, OnOk}
use Rattle.std.specs.Option.{ForSome}
use Rattle.std.proofs.lemmas.Bool.{eqb-true}
use Rattle.std.proofs.lemmas.List.{append-nil, drop_all, length-take-le, take-append-drop, take_all}
use borrow.Rule.Slice.PartMut.{put_mid}
use Rattle.wh_journal.specs.File.{is_open, is_empty}
use Rattle.wh_journal.specs.Journal.{is_unshut}

pub short_is_empty : (file : List ℕ) → length file ≤ 1 → is_empty file ≡ true
short_is_empty [] short = refl
short_is_empty (mark ∷ []) short = refl
short_is_empty (mark ∷ byte ∷ bytes) short = absurd (omega (arith, short))

pub shut_is_empty : (file : List ℕ) → is_unshut file ≡ false → is_empty file ≡ true
shut_is_empty [] shut = absurd cc
shut_is_empty (mark ∷ []) shut = refl
shut_is_empty (mark ∷ byte ∷ bytes) shut = ap not shut

-- a file that begins with an open mark has it as its first byte
pub first_byte : (file : List ℕ) (size : ℕ) → is_unshut file ≡ true → size ≡ length file → 0 < size → take 1 (replicate size 1) ≡ take 1 file
first_byte file zero begins same some = absurd (omega (arith, some))
first_byte [] (suc n) begins same some = absurd (omega (arith, same))
first_byte (mark ∷ bytes) (suc n) begins same some = ap (λ (m : ℕ). m ∷ []) (sym (eqb-true mark 1 begins))

-- what is read behind the first byte is written behind it
pub put_behind : (old file read : List ℕ) (k : ℕ) → suc k ≡ length old → length old ≡ length file → read ≡ slice_range file 1 (1 + length (take k (drop 1 old))) → put_mid 1 k old read ≡ take 1 old ++ drop 1 file
put_behind [] file read k size same is = absurd (omega (arith, size))
put_behind (x ∷ xs) [] read k size same is = absurd (omega (arith, same))
put_behind (x ∷ xs) (y ∷ ys) read k size same is =
    let nothing : drop k xs ≡ [] = drop_all k xs (omega (arith, size)) in
    let many : length (take k xs) ≡ k = length-take-le k xs (omega (arith, size)) in
    let all : take (1 + length (take k xs) - 1) ys ≡ ys = take_all (1 + length (take k xs) - 1) ys (omega (arith, many, size, same)) in
    ap (λ (l : List ℕ). x ∷ l) (ap (λ (l : List ℕ). read ++ l) nothing ∙ append-nil read ∙ is ∙ all)

-- so all of a file stands there, where it is told
pub told_behind : (told : Option (List ℕ)) (old read : List ℕ) (k : ℕ) → suc k ≡ length old → ForSome told (λ file. length old ≡ length file) → ForSome told (λ file. take 1 old ≡ take 1 file) → IfSome told (λ file. read ≡ slice_range file 1 (1 + length (take k (drop 1 old)))) → IfSome told (λ file. put_mid 1 k old read ≡ file)
told_behind None old read k size same first is = tt
told_behind (Some file) old read k size same first is =
    put_behind old file read k size (same file refl) is ∙ ap (λ (l : List ℕ). l ++ drop 1 file) (first file refl) ∙ take-append-drop 1 file

pub on_ok_map : {T E : Type 0} (r : Result T E) (P Q : Type 0) → (P → Q) → OnOk r P → OnOk r Q
on_ok_map (Ok x) P Q f p = f p
on_ok_map (Err e) P Q f p = tt
