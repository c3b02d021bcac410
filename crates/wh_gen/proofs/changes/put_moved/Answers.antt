use Rattle.std.proofs.Common.{ℕ, ◌-◌, ◌*◌, ◌/◌, ◌+◌, ◌≡◌, ◌≤◌, arith}
use Rattle.std.proofs.lemmas.Nat.{mul-le}
use Rattle.wh_gen.proofs.changes.put_moved.Goals as goal

-- nine texts stand before the last one at most
before_last : (c n m : ℕ) → c ≤ 10 → n ≤ 100000 → m ≡ n / 10 + 1 → (c - 1) * m ≤ 9 * 10001
before_last c n m last size is = mul-le (c - 1) m 9 10001 (omega arith) (omega arith)

pub overflow_mul-place : goal.overflow_mul-place
overflow_mul-place c =
    let below = before_last c.args.c c.args.size c.moved_count.result c.requires.last c.requires.size c.moved_count.ensures in
    omega arith

pub overflow_add-place : goal.overflow_add-place
overflow_add-place c =
    let below = before_last c.args.c c.args.size c.moved_count.result c.requires.last c.requires.size c.moved_count.ensures in
    omega arith
