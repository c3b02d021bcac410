use Rattle.std.proofs.Common.{◌+◌, ◌-◌, ◌^◌, arith}
use Rattle.std.proofs.lemmas.Nat.{mul-le}
use Rattle.wh_gen.proofs.rows.dept_of.Goals as goal

pub overflow_mul-product : goal.overflow_mul-product
overflow_mul-product c =
    let below = mul-le c.from.result (c.from-2.result + 1) (2 ^ 32 - 1) (2 ^ 32) (omega arith) (omega arith) in
    omega arith
