-- A route mask and its lowest pin: a mask in range has one, and the trailing zeros of its number tell it.
use Rattle.std.proofs.Common.{◌≡◌, ℕ, zero, suc, ◌+◌, ◌*◌, ◌/◌, ◌%◌, ◌^◌, ◌<◌, ◌≤◌, Bool, true, false, eqb, sym, refl, ap, ◌∙◌, lt_of_lt_of_le, zero-add, arith, lit<, pow_mono, shr-shr}
use native.Mathlib.Nat.{div-eq_of_lt, mod-one}
use native.Mathlib.Decide.{dec_lt}
use lib.Count.{count_trailing_zeros}
use lib.Pow.{mod-pow-add}
use mir.Val.{bool_byte}
use Rattle.pins.specs.Pins.{first, bits_from}
use Rattle.pins.proofs.Bools.{clash}
use Rattle.pins.proofs.Digits.{zeros-first}
use Rattle.pins.proofs.First.{first-le-24, first_found, first-none}
use Rattle.settings.specs.Settings.{mask_ok}
use Rattle.settings.proofs.Ranges.{mask-in}
use Rattle.timer.specs.Mask.{in_mask, lowest}

-- a number has no bit from its width on
pub beyond : (mask n p : ℕ) → mask < 2 ^ n → n ≤ p → in_mask mask p ≡ false
unfolding in_mask
beyond mask n p l h = rw (div-eq_of_lt {n = mask} {m = 2 ^ p} (lt_of_lt_of_le l (pow_mono h)))

-- "each route in its mask": so it is at most 23
pub in-pins : (mask p : ℕ) → mask_ok mask ≡ true → in_mask mask p ≡ true → p < 24
in-pins mask p e h = go (dec_lt p 24)
  where
    go : Dec (p < 24) → p < 24
    go (yes l) = l
    go (no n) = clash (sym h ∙ beyond mask 24 p (mask-in mask e).1 (omega arith))

-- ---- its bits make the number

bit_byte : (x : ℕ) → bool_byte (eqb (x % 2) 1) ≡ x % 2
bit_byte x = go (x % 2) (omega arith)
  where
    go : (r : ℕ) → r < 2 → bool_byte (eqb r 1) ≡ r
    go zero h = refl
    go (suc zero) h = refl
    go (suc (suc r)) h = absurd (omega arith)

number : (mask at n : ℕ) → bits_from (in_mask mask) at n ≡ mask / 2 ^ at % 2 ^ n
unfolding bits_from in_mask
number mask at zero = sym (mod-one (mask / 2 ^ at))
number mask at (suc n) =
    let x = mask / 2 ^ at in
    let more : bits_from (in_mask mask) (suc at) n ≡ x / 2 ^ 1 % 2 ^ n = number mask (suc at) n ∙ ap (λ (y : ℕ). y % 2 ^ n) (ap (λ (k : ℕ). mask / 2 ^ k) (sym (omega arith)) ∙ sym (shr-shr mask at 1)) in
    let whole : x % 2 ^ (n + 1) ≡ (x / 2 ^ 1 % 2 ^ n) * 2 ^ 1 + x % 2 ^ 1 = mod-pow-add x n 1 in
    let here : bool_byte (in_mask mask at) ≡ x % 2 ^ 1 = bit_byte x in
    let two : suc n ≡ n + 1 = omega arith in
    rw two (omega (arith, more, whole, here))

-- ---- the lowest pin

module _ (mask : ℕ) where
  -- as the code counts it
  pub lowest-zeros : count_trailing_zeros 32 (mask % 2 ^ 24 + 2 ^ 24) ≡ lowest mask
  unfolding lowest
  lowest-zeros =
      ap (λ (x : ℕ). count_trailing_zeros 32 (x + 2 ^ 24)) (ap (λ (y : ℕ). y % 2 ^ 24) (sym (omega arith)) ∙ sym (number mask 0 24))
      ∙ sym (zero-add (count_trailing_zeros 32 (bits_from (in_mask mask) 0 24 + 2 ^ 24)))
      ∙ zeros-first (in_mask mask) 0 24 32 (lit< tt)

  pub lowest-le : lowest mask ≤ 24
  unfolding lowest
  lowest-le = first-le-24 (in_mask mask)

-- digits that are all 0
zeros : (p : ℕ → Bool) (at n : ℕ) → ((j : ℕ) → j < at + n → p j ≡ false) → bits_from p at n ≡ 0
unfolding bits_from
zeros p at zero f = refl
zeros p at (suc n) f = rw (zeros p (suc at) n (λ j l. f j (omega arith)), f at (omega arith))

-- "a timer's reset route is its mask's lowest pin": a mask in range has one
pub lowest-in : (mask : ℕ) → mask_ok mask ≡ true → in_mask mask (lowest mask) ≡ true
unfolding lowest
lowest-in mask e = go (dec_lt (first (in_mask mask)) 24)
  where
    go : Dec (first (in_mask mask) < 24) → in_mask mask (first (in_mask mask)) ≡ true
    go (yes l) = (first_found (in_mask mask) (first (in_mask mask)) l refl).here
    go (no n) =
        let none : first (in_mask mask) ≡ 24 = omega (arith, first-le-24 (in_mask mask)) in
        let z = zeros (in_mask mask) 0 24 (λ j l. first-none (in_mask mask) none j (omega arith)) in
        absurd (omega (arith, z, number mask 0 24, mask-in mask e))

-- … and it is the lowest: none below it is in the mask
pub lowest-least : (mask p : ℕ) → p < lowest mask → in_mask mask p ≡ false
unfolding lowest
lowest-least mask p l = go (dec_lt (first (in_mask mask)) 24)
  where
    go : Dec (first (in_mask mask) < 24) → in_mask mask p ≡ false
    go (yes h) = (first_found (in_mask mask) (first (in_mask mask)) h refl).least p l
    go (no n) = first-none (in_mask mask) (omega (arith, first-le-24 (in_mask mask))) p (omega (arith, first-le-24 (in_mask mask)))
