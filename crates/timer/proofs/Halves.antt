-- Numbers in halves.
use Rattle.std.proofs.Common.{◌≡◌, ℕ, ◌+◌, ◌*◌, ◌/◌, ◌%◌, ◌^◌, ◌<◌, ap, ◌∙◌, ap₂, mod-eq_of_lt, arith}
use lib.Bits.{bit_or, bit_and, or_shifted, and_mask}
use Rattle.timer.specs.declared.Half.{Half}
use Rattle.timer.specs.declared.Half.TheVariants as half
use Rattle.timer.specs.Halves.{half_of, replaced}

-- ---- as the code makes them

module _ (x v : ℕ) (lv : v < 2 ^ 32) where
  pub low-code : x < 2 ^ 64 → bit_or (x / 2 ^ 32 * 2 ^ 32 % 2 ^ 64) v ≡ x / 2 ^ 32 * 2 ^ 32 + v
  low-code l = ap (λ (n : ℕ). bit_or n v) (mod-eq_of_lt {n = x / 2 ^ 32 * 2 ^ 32} {m = 2 ^ 64} (omega arith)) ∙ or_shifted (x / 2 ^ 32) 32 v lv

  pub high-code : bit_or (v * 2 ^ 32 % 2 ^ 64) (bit_and x 0xFFFFFFFF) ≡ v * 2 ^ 32 + x % 2 ^ 32
  high-code =
      ap₂ bit_or (mod-eq_of_lt {n = v * 2 ^ 32} {m = 2 ^ 64} (omega arith)) (and_mask x 32)
      ∙ or_shifted v 32 (x % 2 ^ 32) (omega arith)

-- ---- two halves are the whole

abbrev pub other : Half → Half
other half.Low = half.High
other half.High = half.Low

-- a half is below 2^32
pub half_lt : (h : Half) (x : ℕ) → x < 2 ^ 64 → half_of h x < 2 ^ 32
half_lt half.Low x l = omega arith
half_lt half.High x l = omega arith

pub halves-whole : (x : ℕ) → half_of half.High x * 2 ^ 32 + half_of half.Low x ≡ x
halves-whole x = omega arith

-- both halves replaced, whichever comes first
pub replaced-both : (h : Half) (x v : ℕ) → replaced (other h) (replaced h x (half_of h v)) (half_of (other h) v) ≡ v
replaced-both half.Low x v = omega arith
replaced-both half.High x v = omega arith
