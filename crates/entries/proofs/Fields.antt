-- The masks of a low word, as sums of its fields.
use mathlib.Core.Path.{◌≡◌, sym, ap, ap₂, ◌∙◌}
use mathlib.Core.Bool.{false, not, ◌&&◌}
use Prim.Native.Nat.{ℕ, zero, suc, ◌+◌, ◌-◌, ◌*◌, ◌/◌, ◌%◌, ◌^◌, ◌<◌}
use native.Mathlib.Nat.{mod-lt, mod-mod, mod-eq_of_lt, zero-add, div-div-eq-div-mul}
use native.Mathlib.Omega.{arith}
use native.Mathlib.Decide.{ℕ_discrete}
use lib.Dec.{eqb, lit<}
use borrow.Author.Tests.{eq-eqb, ne_eqb}
use lib.Bits.{bit_and, bit_or, and_mask}
use Rattle.pins.proofs.Bit.{and_split, and-bit, put-bit}

-- bits 11:0, 13 and 16:15, put together
fields : (m a b : ℕ) → (b * 8 + a * 2) * 4096 + m ≡ m + a * 8192 + b * 32768
fields m a b = omega arith

no-14 : (m a b : ℕ) → m < 4096 → a < 2 → (m + a * 8192 + b * 32768) / 16384 % 2 ≡ 0
no-14 m a b h l = omega arith

second : (n : ℕ) → n % 8 / 2 % 2 ≡ n / 2 % 2
second n = omega arith

-- the writable bits of a value: 11:0, 13 and 16:15
pub and-writable : (v : ℕ) → bit_and v 0x1afff ≡ v % 4096 + v / 8192 % 2 * 8192 + v / 32768 % 4 * 32768
and-writable v =
    and_split v 12 0x1a 0xfff (lit< tt)
    ∙ ap₂ (λ (x y : ℕ). x * 4096 + y)
    (and_split (v / 4096) 3 3 2 (lit< tt)
    ∙ ap₂ (λ (x y : ℕ). x * 8 + y)
    (and_mask (v / 4096 / 8) 2 ∙ ap (λ (x : ℕ). x % 4) (div-div-eq-div-mul v 4096 8))
    (and-bit (v / 4096 % 8) 1 ∙ ap (λ (x : ℕ). x * 2) (second (v / 4096) ∙ ap (λ (x : ℕ). x % 2) (div-div-eq-div-mul v 4096 2))))
    (and_mask (v % 4096) 12 ∙ mod-mod v 4096)
    ∙ fields (v % 4096) (v / 8192 % 2) (v / 32768 % 4)

-- the writable bits of v, and bit 14 of w
pub or-written : (w v : ℕ) → bit_or (bit_and v 0x1afff) (bit_and w 0x4000) ≡ v % 4096 + v / 8192 % 2 * 8192 + v / 32768 % 4 * 32768 + w / 16384 % 2 * 16384
or-written w v =
    ap₂ bit_or (and-writable v) (and-bit w 14)
    ∙ put-bit (v % 4096 + v / 8192 % 2 * 8192 + v / 32768 % 4 * 32768) 14 (w / 16384 % 2)
    (no-14 (v % 4096) (v / 8192 % 2) (v / 32768 % 4) (mod-lt v (lit< tt)) (mod-lt (v / 8192) (lit< tt)))
    (mod-lt (w / 16384) (lit< tt))

-- ---- the bits that a stored word has not

none_of : (u r s : ℕ) → r < 2 → s < 2 → eqb (u * 131072 + (r * 16384 + s * 4096)) 0 ≡ eqb s 0 && eqb u 0 && not (eqb r 1)
none_of u r s i j = go (ℕ_discrete s 0) (ℕ_discrete u 0) (ℕ_discrete r 1)
  where
    some : (s ≡ 0 → u ≡ 0 → r ≡ 1) → eqb (u * 131072 + (r * 16384 + s * 4096)) 0 ≡ false
    some f = ne_eqb (u * 131072 + (r * 16384 + s * 4096)) 0 (λ q. let a : s ≡ 0 = omega arith in let b : u ≡ 0 = omega arith in let c : r ≡ 1 = f a b in omega arith)

    go : Dec (s ≡ 0) → Dec (u ≡ 0) → Dec (r ≡ 1) → eqb (u * 131072 + (r * 16384 + s * 4096)) 0 ≡ eqb s 0 && eqb u 0 && not (eqb r 1)
    go (no x) y z = some (λ a b. absurd (x a)) ∙ sym (rw (ne_eqb s 0 x))
    go (yes x) (no y) z = some (λ a b. absurd (y b)) ∙ sym (rw (eq-eqb s 0 x, ne_eqb u 0 y))
    go (yes x) (yes y) (yes z) = some (λ a b. z) ∙ sym (rw (eq-eqb s 0 x, eq-eqb u 0 y, eq-eqb r 1 z))
    go (yes x) (yes y) (no z) = eq-eqb (u * 131072 + (r * 16384 + s * 4096)) 0 (let a : r ≡ 0 = omega arith in omega arith) ∙ sym (rw (eq-eqb s 0 x, eq-eqb u 0 y, ne_eqb r 1 z))

module _ (w : ℕ) (fits : w < 2 ^ 32) where
  upper : bit_and (w / 131072) 0x7fff ≡ w / 131072
  upper = and_mask (w / 131072) 15 ∙ mod-eq_of_lt {n = w / 131072} {m = 2 ^ 15} (omega arith)

  status-of : (n : ℕ) → n / 4096 % 2 ≡ w / 4096 % 2 → bit_and n 0x1000 ≡ w / 4096 % 2 * 4096
  status-of n e = and-bit n 12 ∙ ap (λ (x : ℕ). x * 4096) e

  remote-of : bit_and (w % 131072 / 16384) 1 ≡ w / 16384 % 2
  remote-of = and_mask (w % 131072 / 16384) 1 ∙ omega arith

  -- bits 31:17, 14 and 12; without 14
  with-14 : bit_and w 0xfffe5000 ≡ w / 131072 * 131072 + (w / 16384 % 2 * 16384 + w / 4096 % 2 * 4096)
  with-14 =
      and_split w 17 0x7fff 0x5000 (lit< tt)
      ∙ ap₂ (λ (x y : ℕ). x * 131072 + y) upper
      (and_split (w % 131072) 14 1 0x1000 (lit< tt) ∙ ap₂ (λ (x y : ℕ). x * 16384 + y) remote-of (status-of (w % 131072 % 16384) (omega arith)))

  without-14 : bit_and w 0xfffe1000 ≡ w / 131072 * 131072 + (0 * 16384 + w / 4096 % 2 * 4096)
  without-14 =
      and_split w 17 0x7fff 0x1000 (lit< tt)
      ∙ ap₂ (λ (x y : ℕ). x * 131072 + y) upper (status-of (w % 131072) (omega arith) ∙ sym (zero-add (w / 4096 % 2 * 4096)))

  -- bit 15 at 14's place takes 14 out of the mask
  pub stored-bits :
      eqb (bit_and w (0xfffe5000 - bit_and (w / 2) 0x4000)) 0
      ≡ eqb (w / 4096 % 2) 0 && eqb (w / 131072) 0 && not (not (eqb (w / 32768 % 2) 1) && eqb (w / 16384 % 2) 1)
  stored-bits =
      ap (λ (x : ℕ). eqb (bit_and w (0xfffe5000 - x)) 0) (and-bit (w / 2) 14 ∙ ap (λ (x : ℕ). x % 2 * 16384) (div-div-eq-div-mul w 2 16384))
      ∙ go (w / 32768 % 2) (mod-lt (w / 32768) (lit< tt))
    where
      go :
          (l : ℕ) → l < 2 →
          eqb (bit_and w (0xfffe5000 - l * 16384)) 0 ≡ eqb (w / 4096 % 2) 0 && eqb (w / 131072) 0 && not (not (eqb l 1) && eqb (w / 16384 % 2) 1)
      go zero h =
          ap (λ (x : ℕ). eqb x 0) with-14 ∙ none_of (w / 131072) (w / 16384 % 2) (w / 4096 % 2) (mod-lt (w / 16384) (lit< tt)) (mod-lt (w / 4096) (lit< tt))
      go (suc zero) h = ap (λ (x : ℕ). eqb x 0) without-14 ∙ none_of (w / 131072) 0 (w / 4096 % 2) (lit< tt) (mod-lt (w / 4096) (lit< tt))
      go (suc (suc l)) h = absurd (omega arith)
