use Rattle.std.proofs.Common.{◌≡◌, ℕ, ◌/◌, ◌^◌, ◌<◌, ◌&&◌, eqb, ltb, sym, ap, ◌∙◌, mod-eq_of_lt, arith, le-ltb, lt-ltb}
use native.Mathlib.Decide.{dec_lt}
use lib.Bits.{bit_and, and_mask, mask_lt}
use Rattle.timer.specs.Mask.{in_mask}
use Rattle.timer.proofs.Masks.{beyond}
use Rattle.timer.proofs.mask.has.Goals as goal

-- the shift is by the pin's low five bits, which is the pin where it counts
shifted : (mask pin : ℕ) → mask < 2 ^ 32 → (ltb pin 32 && eqb (bit_and (mask / 2 ^ bit_and pin 31) 1) 1) ≡ in_mask mask pin
unfolding in_mask
shifted mask pin l = go (dec_lt pin 32)
  where
    go : Dec (pin < 32) → (ltb pin 32 && eqb (bit_and (mask / 2 ^ bit_and pin 31) 1) 1) ≡ in_mask mask pin
    go (yes h) =
        let low : bit_and pin 31 ≡ pin = and_mask pin 5 ∙ mod-eq_of_lt {n = pin} {m = 32} h in
        rw (lt-ltb pin 32 h) (ap (λ (k : ℕ). eqb (bit_and (mask / 2 ^ k) 1) 1) low ∙ ap (λ (x : ℕ). eqb x 1) (and_mask (mask / 2 ^ pin) 1))
    go (no n) = rw (le-ltb pin 32 (omega arith)) (sym (beyond mask 32 pin l (omega arith)))

pub overflow_cast-result : goal.overflow_cast-result
overflow_cast-result c = omega (arith, mask_lt c.args.pin 5)

pub overflow_shr-result : goal.overflow_shr-result
overflow_shr-result c = omega (arith, mask_lt c.args.pin 5)

pub returns : goal.returns
returns c =
    let a = c.args in
    let l : a.mask < 2 ^ 32 = omega arith in
    shifted a.mask a.pin l
