use Rattle.std.proofs.Common.{ℕ, ◌%◌, ◌^◌, ◌<◌, ap, ◌∙◌, lt_of_lt_of_le, arith, pow_mono}
use native.Mathlib.Nat.{div-eq_of_lt}
use lib.Bits.{and_mask, mask_lt}
use Rattle.timer.proofs.Bits.{or-none}
use Rattle.timer.proofs.bit.Goals as goal

pub overflow_cast-result : goal.overflow_cast-result
overflow_cast-result c = omega (arith, mask_lt c.unwrap_or.result 1)

pub returns : goal.returns
returns c =
    let a = c.args in
    let l : a.v < 2 ^ 64 = omega arith in
    let shifted = c.unwrap_or.ensures ∙ or-none a.k _ c.checked_shr.ensures (λ h. div-eq_of_lt {n = a.v} {m = 2 ^ a.k} (lt_of_lt_of_le l (pow_mono h))) in
    and_mask c.unwrap_or.result 1 ∙ ap (λ (x : ℕ). x % 2) shifted
