use Rattle.std.proofs.Common.{◌≡◌, ◌/◌, true, false, sym, ◌∙◌, arith}
use lib.Bits.{bit_and, and_mask, mask_lt}
use Rattle.timer.specs.Mask.{in_mask}
use Rattle.timer.proofs.routed.Goals as goal

pub overflow_cast-x : goal.overflow_cast-x
overflow_cast-x c = omega (arith, mask_lt (c.args.v / 512) 5)

pub returns-then-has : goal.returns-then-has
returns-then-has c =
    let a = c.args in
    let in-mask : in_mask a.mask (bit_and (a.v / 512) 31) ≡ true = sym c.has.ensures ∙ c.if-has.true in
    rw (← (and_mask (a.v / 512) 5)) (rw in-mask)

pub returns-else-has : goal.returns-else-has
returns-else-has c =
    let a = c.args in
    let outside : in_mask a.mask (bit_and (a.v / 512) 31) ≡ false = sym c.has.ensures ∙ c.if-has.false in
    rw (← (and_mask (a.v / 512) 5)) (rw outside)
