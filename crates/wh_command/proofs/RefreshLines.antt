-- The numbers and the line of an accepted change.
use Rattle.std.proofs.Common.{◌≡◌, ℕ, ◌+◌, ◌<◌, ◌≤◌, List, [], ◌∷◌, length, get_or, take, append_assoc, ◌++◌, sym, ◌∙◌, ap}
use Rattle.std.proofs.lemmas.List.{take_all}
use Rattle.std.proofs.lemmas.List.Sums.{sum_by_more}
use Rattle.std.specs.List.{sum_by}
use Rattle.wh_base.specs.declared.value.Delta.{Delta}
use Rattle.std.specs.Prelude.{codes, decimal}
use Rattle.wh_base.specs.Lines.{line}
use Rattle.wh_command.specs.Refresh.{deleted_count, inserted_count}
use Rattle.wh_command.specs.RefreshSteps.{counts_words}

counted_more : (f : Delta → ℕ) (deltas : List Delta) (i : ℕ) (d : Delta) → i < length deltas → d ≡ get_or deltas i d → sum_by f (take (i + 1) deltas) ≡ sum_by f (take i deltas) + f d
counted_more f deltas i d below is = sum_by_more f deltas i d below ∙ ap (λ (x : Delta). sum_by f (take i deltas) + f x) (sym is)

pub deleted_more : (deltas : List Delta) (i : ℕ) (d : Delta) → i < length deltas → d ≡ get_or deltas i d → deleted_count (take (i + 1) deltas) ≡ deleted_count (take i deltas) + length d.deleted
deleted_more = counted_more (λ (d : Delta). length d.deleted)

pub deleted_all : (deltas : List Delta) (i : ℕ) → length deltas ≤ i → deleted_count (take i deltas) ≡ deleted_count deltas
deleted_all deltas i over = ap (λ (l : List Delta). deleted_count l) (take_all i deltas over)

pub inserted_more : (deltas : List Delta) (i : ℕ) (d : Delta) → i < length deltas → d ≡ get_or deltas i d → inserted_count (take (i + 1) deltas) ≡ inserted_count (take i deltas) + length d.inserted
inserted_more = counted_more (λ (d : Delta). length d.inserted)

pub inserted_all : (deltas : List Delta) (i : ℕ) → length deltas ≤ i → inserted_count (take i deltas) ≡ inserted_count deltas
inserted_all deltas i over = ap (λ (l : List Delta). inserted_count l) (take_all i deltas over)

-- ---- the line, piece by piece

pub accepted_text : (out b1 b2 b3 b4 b5 result : List ℕ) (seq : ℕ) (d1 d2 s1 s2 : List Delta) → b1 ≡ out ++ codes "refresh " → b2 ≡ b1 ++ decimal seq → b3 ≡ b2 ++ counts_words (codes ", sources") d1 → d1 ≡ s1
    → b4 ≡ b3 ++ counts_words (codes ", stored") d2 → d2 ≡ s2 → b5 ≡ b4 ++ 10 ∷ [] → result ≡ b5
    → result ≡ line (((out ++ (codes "refresh " ++ decimal seq)) ++ counts_words (codes ", sources") s1) ++ counts_words (codes ", stored") s2)
accepted_text out b1 b2 b3 b4 b5 result seq d1 d2 s1 s2 e1 e2 e3 f1 e4 f2 e5 is =
    is ∙ e5 ∙ ap (λ (l : List ℕ). l ++ 10 ∷ []) (e4 ∙ (λ k. front k ++ counts_words (codes ", stored") (f2 k)))
  where
    head : b2 ≡ out ++ (codes "refresh " ++ decimal seq)
    head = e2 ∙ ap (λ (l : List ℕ). l ++ decimal seq) e1 ∙ append_assoc out (codes "refresh ") (decimal seq)

    front : b3 ≡ (out ++ (codes "refresh " ++ decimal seq)) ++ counts_words (codes ", sources") s1
    front = e3 ∙ (λ k. head k ++ counts_words (codes ", sources") (f1 k))
