-- Laws of one bit of a number, over the bit's place.
use mathlib.Core.Path.{◌≡◌, sym, ap, ◌∙◌}
use Prim.Native.Nat.{ℕ, zero, suc, ◌+◌, ◌-◌, ◌*◌, ◌/◌, ◌%◌, ◌^◌, ◌<◌}
use native.Mathlib.Nat.{mod-lt, add-zero, zero-mul, one-mul}
use native.Mathlib.Omega.{arith}
use lib.Bits.{bit_and, bit_or, and_high, and_block, or_add_and, or_zero_r}
use lib.Pow.{split, pow_pos, pow-add}

-- a mask in two parts: the digits from k up, and the k lowest
pub and_split : (n k hi lo : ℕ) → lo < 2 ^ k → bit_and n (hi * 2 ^ k + lo) ≡ bit_and (n / 2 ^ k) hi * 2 ^ k + bit_and (n % 2 ^ k) lo
and_split n k hi lo h = ap (λ (x : ℕ). bit_and x (hi * 2 ^ k + lo)) (sym (split n k)) ∙ and_block k (n / 2 ^ k) hi (n % 2 ^ k) lo (mod-lt n (pow_pos k)) h

top : (k : ℕ) → 2 ^ (1 + k) - 2 ^ k ≡ 2 ^ k
top k = omega (arith, pow-add 2 1 k)

-- a mask of one bit
pub and-bit : (n k : ℕ) → bit_and n (2 ^ k) ≡ n / 2 ^ k % 2 * 2 ^ k
and-bit n k = ap (bit_and n) (sym (top k)) ∙ and_high n 1 k

-- one bit set
pub or-bit : (n k : ℕ) → bit_or n (2 ^ k) + n / 2 ^ k % 2 * 2 ^ k ≡ n + 2 ^ k
or-bit n k = ap (λ (x : ℕ). bit_or n (2 ^ k) + x) (sym (and-bit n k)) ∙ or_add_and n (2 ^ k)

-- a bit put where there is none
pub put-bit : (x k b : ℕ) → x / 2 ^ k % 2 ≡ 0 → b < 2 → bit_or x (b * 2 ^ k) ≡ x + b * 2 ^ k
put-bit x k zero h l = rw (zero-mul (2 ^ k)) (or_zero_r x ∙ sym (add-zero x))
put-bit x k (suc zero) h l = rw (one-mul (2 ^ k)) (rw (h, zero-mul (2 ^ k), add-zero) at (or-bit x k))
put-bit x k (suc (suc b)) h l = absurd (omega arith)
