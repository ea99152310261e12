use Rattle.std.proofs.Common.{◌≡◌, ℕ, ◌+◌, ap, ◌∙◌, arith}
use lib.Bits.{bit_and, and_mask, mask_lt}
use lib.Count.{count_trailing_zeros}
use Rattle.timer.specs.Mask.{lowest}
use Rattle.timer.proofs.Masks.{lowest-zeros, lowest-le}
use Rattle.timer.proofs.mask.lowest.Goals as goal

counted : (mask : ℕ) → count_trailing_zeros 32 (bit_and mask 16777215 + 16777216) ≡ lowest mask
counted mask = ap (λ (x : ℕ). count_trailing_zeros 32 (x + 16777216)) (and_mask mask 24) ∙ lowest-zeros mask

pub overflow_add-result : goal.overflow_add-result
overflow_add-result c = omega (arith, mask_lt c.args.mask 24)

pub overflow_cast-result : goal.overflow_cast-result
overflow_cast-result c = omega (arith, counted c.args.mask, lowest-le c.args.mask)

pub returns : goal.returns
returns c = counted c.args.mask
