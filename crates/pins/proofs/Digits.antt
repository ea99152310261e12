-- A number whose bits are a predicate's values, built from the lowest up, and the count of its trailing zeros.
use mathlib.Core.Path.{◌≡◌, refl, sym, ap, ap₂, ◌∙◌}
use mathlib.Core.Bool.{Bool, true, false, cond}
use Prim.Native.Nat.{ℕ, zero, suc, ◌+◌, ◌*◌, ◌%◌, ◌^◌, ◌<◌}
use native.Mathlib.Nat.{pow-suc, mod-eq_of_lt, not-suc-le-zero, le_of_suc-le-suc, add-zero, zero-add, add-suc, suc-add, mul_assoc, mul_comm, zero-mul, mul-lt-mul_of_pos_right, lt_of_lt_of_le, le_trans, le_of_eq}
use native.Mathlib.Omega.{arith}
use lib.Dec.{lit<}
use lib.Arith.{digits_div, digits_mod}
use lib.Bits.{bit_or, or_block, or_shifted_r, or_self, or_zero_l, or_zero_r}
use lib.Count.{count_trailing_zeros, under}
use lib.Pow.{pow_mono, pow_pos}
use mir.Val.{bool_byte}
use Rattle.pins.specs.Pins.{bits_from, first_from}
use Rattle.pins.proofs.Bools.{byte-lt}

-- one digit more, below the others
step : (b : Bool) (at t r : ℕ) → suc at + t ≡ r → at + under (bool_byte b) t ≡ cond b at r
step true at t r e = omega arith
step false at t r e = omega arith

module _ (p : ℕ → Bool) where
  pub bits-lt : (at n : ℕ) → bits_from p at n < 2 ^ n
  unfolding bits_from
  bits-lt at zero = lit< tt
  bits-lt at (suc n) = omega (arith, bits-lt (suc at) n, byte-lt (p at), pow-suc 2 n)

  -- n digits on top of m
  bits-join : (at m n : ℕ) → bits_from p (at + m) n * 2 ^ m + bits_from p at m ≡ bits_from p at (m + n)
  unfolding bits_from
  bits-join at zero n =
      let e : bits_from p (at + 0) n ≡ bits_from p at (0 + n) = ap₂ (bits_from p) (add-zero at) (sym (zero-add n)) in
      omega arith
  bits-join at (suc m) n =
      let x = bits_from p (suc at + m) n in
      let e : bits_from p (at + suc m) n ≡ x = ap (λ (k : ℕ). bits_from p k n) (add-suc at m ∙ sym (suc-add at m)) in
      let q : x * 2 ^ suc m ≡ x * 2 ^ m * 2 = ap (λ (t : ℕ). x * t) (pow-suc 2 m) ∙ sym (mul_assoc x (2 ^ m) 2) in
      rw (suc-add m n, e) (omega (arith, q, bits-join (suc at) m n))

  -- a turn of the loop that puts the next digit on top
  pub bits_put : (at i k : ℕ) → i < k → bit_or (bits_from p at i) (bool_byte (p (at + i)) * 2 ^ i % 2 ^ k) ≡ bits_from p at (i + 1)
  unfolding bits_from
  bits_put at i k h =
      let b = bool_byte (p (at + i)) in
      let f : b * 2 ^ i < 2 ^ k = lt_of_lt_of_le (mul-lt-mul_of_pos_right (byte-lt (p (at + i))) (pow_pos i)) (le_trans (le_of_eq (mul_comm 2 (2 ^ i) ∙ sym (pow-suc 2 i))) (pow_mono h)) in
      rw (mod-eq_of_lt f) (or_shifted_r b i (bits_from p at i) (bits-lt at i) ∙ ap (λ (x : ℕ). x * 2 ^ i + bits_from p at i) (sym (zero-add b)) ∙ bits-join at i 1)

  -- two numbers that have n digits in common
  pub bits-over : (at m n k : ℕ) → bit_or (bits_from p at (m + n)) (bits_from p (at + m) (n + k) * 2 ^ m) ≡ bits_from p at (m + (n + k))
  bits-over at m n k =
      let a = bits_from p (at + m) n in
      let b = bits_from p at m in
      let c = bits_from p (at + m) (n + k) in
      let d = bits_from p (at + m + n) k in
      let common : bit_or a c ≡ c =
      ap₂ bit_or (sym (ap (λ (x : ℕ). x + a) (zero-mul (2 ^ n)) ∙ zero-add a)) (sym (bits-join (at + m) n k))
      ∙ or_block n 0 d a a (bits-lt (at + m) n) (bits-lt (at + m) n)
      ∙ ap₂ (λ (x y : ℕ). x * 2 ^ n + y) (or_zero_l d) (or_self a)
      ∙ bits-join (at + m) n k in
      ap₂ bit_or (sym (bits-join at m n)) (sym (add-zero (c * 2 ^ m)))
      ∙ or_block m a c b 0 (bits-lt at m) (pow_pos m)
      ∙ ap₂ (λ (x y : ℕ). x * 2 ^ m + y) common (or_zero_r b)
      ∙ bits-join at m (n + k)

  -- with a digit put on top, the trailing zeros are the first number where p holds, or the number after them
  pub zeros-first : (at n k : ℕ) → n < k → at + count_trailing_zeros k (bits_from p at n + 2 ^ n) ≡ first_from p at n
  unfolding bits_from first_from count_trailing_zeros
  zeros-first at n zero h = absurd (not-suc-le-zero h)
  zeros-first at zero (suc k) h = add-zero at
  zeros-first at (suc n) (suc k) h =
      let x = bits_from p (suc at) n + 2 ^ n in
      let e : bits_from p (suc at) n * 2 + bool_byte (p at) + 2 ^ suc n ≡ x * 2 + bool_byte (p at) = omega (arith, pow-suc 2 n) in
      rw (e, digits_mod x (byte-lt (p at)), digits_div x (byte-lt (p at)))
      (step (p at) at (count_trailing_zeros k x) (first_from p (suc at) n) (zeros-first (suc at) n k (le_of_suc-le-suc h)))

-- the same number for tests that agree on its digits
pub bits-same : (p q : ℕ → Bool) (at n : ℕ) → ((i : ℕ) → i < at + n → p i ≡ q i) → bits_from p at n ≡ bits_from q at n
unfolding bits_from
bits-same p q at zero f = refl
bits-same p q at (suc n) f =
    ap₂ (λ (x : ℕ) (b : Bool). x * 2 + bool_byte b) (bits-same p q (suc at) n (λ i l. f i (rw (add-suc at n) (rw (suc-add at n) at l)))) (f at (omega arith))
