-- A configuration put together of its bits.
use Rattle.std.proofs.Common.{◌≡◌, Option, Some, None, ℕ, ◌+◌, ◌-◌, ◌*◌, ◌%◌, ◌^◌, ◌<◌, ◌≤◌, Bool, sym, ap, ◌∙◌, mod-eq_of_lt, mul_assoc, arith, pow-add, shl_exact}
use native.Mathlib.Nat.{mul-mod_left}
use Rattle.std.specs.Option.{SomeIff, unwrap_or}
use lib.Bits.{bit_or, or_shifted, or_shifted_r}
use mir.Val.{bool_byte}
use Rattle.pins.proofs.Bools.{byte-lt}
use Rattle.timer.specs.declared.Timer.{Timer}
use Rattle.timer.specs.State.{flag}
use Rattle.timer.specs.Registers.{placed, configuration_of}

-- a shift by too many bits is one that gives nothing
pub or-none : (k : ℕ) (o : Option ℕ) {x : ℕ} → SomeIff o (k < 64) x → (64 ≤ k → x ≡ 0) → unwrap_or o 0 ≡ x
or-none k (Some y) s z = s.1
or-none k None s z = sym (z (omega arith))

-- a bit in its place
pub placed-exact : (b : Bool) (k : ℕ) → k < 64 → bool_byte b * 2 ^ k % 2 ^ 64 ≡ bool_byte b * 2 ^ k
placed-exact b k l = shl_exact 1 k 64 (byte-lt b) (omega arith)

-- as the code places it
pub placed-is : {r : ℕ} (k f : ℕ) → k < 64 → r ≡ placed k f % 2 ^ 64 → r ≡ placed k f
placed-is k f l e = e ∙ placed-exact (flag f) k l

pub placed-out : (x k : ℕ) → 64 ≤ k → x * 2 ^ k % 2 ^ 64 ≡ 0
placed-out x k l =
    ap (λ (j : ℕ). x * 2 ^ j % 2 ^ 64) (sym above)
    ∙ ap (λ (y : ℕ). x * y % 2 ^ 64) (pow-add 2 (k - 64) 64)
    ∙ ap (λ (y : ℕ). y % 2 ^ 64) (sym (mul_assoc x (2 ^ (k - 64)) (2 ^ 64)))
    ∙ mul-mod_left (x * 2 ^ (k - 64)) (2 ^ 64)
  where
    above : k - 64 + 64 ≡ k
    above = omega arith

abbrev parts : ℕ → ℕ → ℕ → ℕ → ℕ → ℕ → ℕ → ℕ
parts m r n s p i l = bit_or (m * 4294967296 % 2 ^ 64) (bit_or (r * 512 % 2 ^ 64) (bit_or n (bit_or s (bit_or (bit_or p (bit_or i l)) 48))))

-- each part lies above those to its right
together :
    (m r n s p i l : ℕ) → m < 2 ^ 32 → r < 2 ^ 16 → n < 2 → s < 2 → p < 2 → i < 2 → l < 2 →
    parts m r (n * 2 ^ 8) (s * 2 ^ 6) (p * 2 ^ 3) (i * 2 ^ 2) (l * 2 ^ 1)
    ≡ m * 2 ^ 32 + (r * 2 ^ 9 + (n * 2 ^ 8 + (s * 2 ^ 6 + (3 * 2 ^ 4 + (p * 2 ^ 3 + (i * 2 ^ 2 + l * 2 ^ 1))))))
together m r n s p i l hm hr hn hs hp hi hl =
    ap (λ (x : ℕ). bit_or top (bit_or (r * 512 % 2 ^ 64) (bit_or (n * 2 ^ 8) (bit_or (s * 2 ^ 6) (bit_or (bit_or (p * 2 ^ 3) x) 48))))) (or_shifted i 2 (l * 2 ^ 1) (omega arith))
    ∙ ap (λ (x : ℕ). bit_or top (bit_or (r * 512 % 2 ^ 64) (bit_or (n * 2 ^ 8) (bit_or (s * 2 ^ 6) (bit_or x 48))))) (or_shifted p 3 x1 (omega arith))
    ∙ ap (λ (x : ℕ). bit_or top (bit_or (r * 512 % 2 ^ 64) (bit_or (n * 2 ^ 8) (bit_or (s * 2 ^ 6) x)))) (or_shifted_r 3 4 x2 (omega arith))
    ∙ ap (λ (x : ℕ). bit_or top (bit_or (r * 512 % 2 ^ 64) (bit_or (n * 2 ^ 8) x))) (or_shifted s 6 x3 (omega arith))
    ∙ ap (λ (x : ℕ). bit_or top (bit_or (r * 512 % 2 ^ 64) x)) (or_shifted n 8 x4 (omega arith))
    ∙ ap (λ (x : ℕ). bit_or top (bit_or x x5)) (mod-eq_of_lt {n = r * 512} {m = 2 ^ 64} (omega arith))
    ∙ ap (λ (x : ℕ). bit_or top x) (or_shifted r 9 x5 (omega arith))
    ∙ ap (λ (x : ℕ). bit_or x x6) (mod-eq_of_lt {n = m * 4294967296} {m = 2 ^ 64} (omega arith))
    ∙ or_shifted m 32 x6 (omega arith)
  where
    top : ℕ
    top = m * 4294967296 % 2 ^ 64

    x1 : ℕ
    x1 = i * 2 ^ 2 + l * 2 ^ 1

    x2 : ℕ
    x2 = p * 2 ^ 3 + x1

    x3 : ℕ
    x3 = 3 * 2 ^ 4 + x2

    x4 : ℕ
    x4 = s * 2 ^ 6 + x3

    x5 : ℕ
    x5 = n * 2 ^ 8 + x4

    x6 : ℕ
    x6 = r * 2 ^ 9 + x5

bit-lt : (f : ℕ) → bool_byte (flag f) < 2
bit-lt f = byte-lt (flag f)

pub configuration-code :
    (mask : ℕ) (t : Timer) (n s p i l : ℕ) → mask < 2 ^ 32 → t.route < 2 ^ 16 → n ≡ placed 8 t.narrow → s ≡ placed 6 t.set_comparator → p ≡ placed 3 t.periodic →
    i ≡ placed 2 t.interrupt → l ≡ placed 1 t.level_type → parts mask t.route n s p i l ≡ configuration_of mask t
unfolding configuration_of
configuration-code mask t n s p i l hm hr en es ep ei el =
    (λ j. parts mask t.route (en j) (es j) (ep j) (ei j) (el j))
    ∙ together mask t.route (bool_byte (flag t.narrow)) (bool_byte (flag t.set_comparator)) (bool_byte (flag t.periodic)) (bool_byte (flag t.interrupt)) (bool_byte (flag t.level_type))
    hm hr (bit-lt t.narrow) (bit-lt t.set_comparator) (bit-lt t.periodic) (bit-lt t.interrupt) (bit-lt t.level_type)
