-- An entry's two words: what a read gives after a write, bit by bit, and what a delivery takes from them.
use mathlib.Core.Path.{◌≡◌, refl, sym, ap, ◌∙◌}
use mathlib.Core.Bool.{Bool, true, false, cond}
use Prim.Native.Nat.{ℕ, zero, suc, ◌+◌, ◌-◌, ◌*◌, ◌/◌, ◌%◌, ◌^◌, ◌<◌}
use native.Mathlib.Omega.{arith}
use native.Mathlib.Nat.{mod-lt, zero-mul, one-mul, div-div-eq-div-mul}
use mir.Val.{bool_byte}
use lib.Dec.{eqb, lit<}
use lib.Seq.{get_or-set_same, get_or-set_other}
use Rattle.answers.specs.declared.Answer.TheVariants as answer
use Rattle.entries.specs.declared.Entries.{Entries}
use Rattle.entries.specs.Word.{level_of, writable, written, shown}
use Rattle.entries.specs.Table.{low_at, destination_at, held_at, destination_of, eligible_at, given, low_shown, high_shown, low_written, high_written, held_after_write}
use Rattle.entries.proofs.Sized.{Sized}
use Rattle.entries.proofs.Written.{fields-12}

-- ---- the bits of a low word as it is shown

shown-below : (w : ℕ) → (w - w / 4096 % 2 * 4096 + 4096) % 4096 ≡ w % 4096
shown-below w = omega arith

shown-above : (w : ℕ) → (w - w / 4096 % 2 * 4096 + 4096) / 8192 ≡ w / 8192
shown-above w = omega arith

pub vector-of : (w : ℕ) → w % 4096 % 256 ≡ w % 256
vector-of w = omega arith

pub logical-of : (w : ℕ) → w % 4096 / 2048 ≡ w / 2048 % 2
logical-of w = omega arith

module _ (w : ℕ) where
  low_bits : (b : Bool) → shown w b % 4096 ≡ w % 4096
  unfolding shown
  low_bits true = shown-below w
  low_bits false = refl

  shown-vector : (b : Bool) → shown w b % 2 ^ 8 ≡ w % 2 ^ 8
  shown-vector b = sym (vector-of (shown w b)) ∙ ap (λ (x : ℕ). x % 256) (low_bits b) ∙ vector-of w

  shown-logical : (b : Bool) → shown w b / 2 ^ 11 % 2 ≡ w / 2 ^ 11 % 2
  shown-logical b = sym (logical-of (shown w b)) ∙ ap (λ (x : ℕ). x / 2048) (low_bits b) ∙ logical-of w

  high_bits : (k : ℕ) (b : Bool) → shown w b / 8192 / k ≡ w / 8192 / k
  unfolding shown
  high_bits k true = ap (λ (x : ℕ). x / k) (shown-above w)
  high_bits k false = refl

  pub shown-remote : (b : Bool) → shown w b / 2 ^ 14 % 2 ≡ w / 2 ^ 14 % 2
  shown-remote b = ap (λ (x : ℕ). x % 2) (sym (div-div-eq-div-mul (shown w b) 8192 2) ∙ high_bits 2 b ∙ div-div-eq-div-mul w 8192 2)

  pub shown-level : (b : Bool) → shown w b / 2 ^ 15 % 2 ≡ w / 2 ^ 15 % 2
  shown-level b = ap (λ (x : ℕ). x % 2) (sym (div-div-eq-div-mul (shown w b) 8192 4) ∙ high_bits 4 b ∙ div-div-eq-div-mul w 8192 4)

-- ---- a written word, field by field

pair : (m : ℕ) → m % 4 ≡ m % 2 + m / 2 % 2 * 2
pair m = omega arith

status-set : (x k : ℕ) → k ≡ 0 → x - k * 4096 + 4096 ≡ x + 1 * 4096
status-set x k h = omega arith

in_place : (m a l k r s : ℕ) → m + a * 8192 + (l + k * 2) * 32768 + r * 16384 + s * 4096 ≡ m + s * 4096 + a * 8192 + r * 16384 + l * 32768 + k * 65536
in_place m a l k r s = omega arith

-- bits 11:0, 13, 15 and 16 of the value, bits 12 and 14 as given
abbrev pub word : ℕ → ℕ → ℕ → ℕ
word v status remote = v % 2 ^ 12 + status * 2 ^ 12 + v / 2 ^ 13 % 2 * 2 ^ 13 + remote * 2 ^ 14 + v / 2 ^ 15 % 2 * 2 ^ 15 + v / 2 ^ 16 % 2 * 2 ^ 16

sum_below : (m s a r l k : ℕ) → (m + s * 4096 + a * 8192 + r * 16384 + l * 32768 + k * 65536) % 4096 ≡ m % 4096
sum_below m s a r l k = omega arith

again : (v : ℕ) → v % 4096 % 4096 ≡ v % 4096
again v = omega arith

module _ (v s r : ℕ) where
  word_below : word v s r % 4096 ≡ v % 4096
  word_below = sum_below (v % 4096) s (v / 8192 % 2) r (v / 32768 % 2) (v / 65536 % 2) ∙ again v

  pub word-vector : word v s r % 2 ^ 8 ≡ v % 2 ^ 8
  word-vector = sym (vector-of (word v s r)) ∙ ap (λ (x : ℕ). x % 256) word_below ∙ vector-of v

  pub word-logical : word v s r / 2 ^ 11 % 2 ≡ v / 2 ^ 11 % 2
  word-logical = sym (logical-of (word v s r)) ∙ ap (λ (x : ℕ). x / 2048) word_below ∙ logical-of v

-- bit 12 where the pin is eligible; bit 14 of the word before if bit 15 of the value is 1, and otherwise 0
shown-written : (w v : ℕ) (b : Bool) → shown (written w v) b ≡ word v (bool_byte b) (v / 2 ^ 15 % 2 * (w / 2 ^ 14 % 2))
unfolding shown written writable level_of
shown-written w v b = ap (λ (y : ℕ). shown (writable v + y * 16384) b) (by_level (v / 32768 % 2) (mod-lt (v / 32768) (lit< tt))) ∙ go b ∙ ap (λ (y : ℕ). m + a * 8192 + y * 32768 + r * 16384 + bool_byte b * 4096) bits ∙ in_place m a (v / 32768 % 2) (v / 65536 % 2) r (bool_byte b)
  where
    m : ℕ
    m = v % 4096

    a : ℕ
    a = v / 8192 % 2

    r : ℕ
    r = v / 32768 % 2 * (w / 16384 % 2)

    x : ℕ
    x = m + a * 8192 + v / 32768 % 4 * 32768 + r * 16384

    by_level : (l : ℕ) → l < 2 → cond (eqb l 1) (w / 16384 % 2) 0 ≡ l * (w / 16384 % 2)
    by_level zero h = sym (zero-mul (w / 16384 % 2))
    by_level (suc zero) h = sym (one-mul (w / 16384 % 2))
    by_level (suc (suc l)) h = absurd (omega arith)

    bits : v / 32768 % 4 ≡ v / 32768 % 2 + v / 65536 % 2 * 2
    bits = pair (v / 32768) ∙ ap (λ (y : ℕ). v / 32768 % 2 + y % 2 * 2) (div-div-eq-div-mul v 32768 2)

    clear : x / 4096 % 2 ≡ 0
    clear = fields-12 m a (v / 32768 % 4) r (mod-lt v (lit< tt))

    go : (b : Bool) → cond b (x - x / 4096 % 2 * 4096 + 4096) x ≡ x + bool_byte b * 4096
    go true = status-set x (x / 4096 % 2) clear
    go false = omega arith

module _ (e : Entries) (z : Sized e) (n : ℕ) (l : n < 24) (v : ℕ) where
  pub low-at : low_at (low_written e n v) n ≡ written (low_at e n) v
  unfolding low_written
  low-at = get_or-set_same e.low n (written (low_at e n) v) 0 (rw z.low l)

  -- a low word after a write to it
  pub low-back : low_shown (low_written e n v) n ≡ word v (bool_byte (eligible_at (low_written e n v) n)) (v / 2 ^ 15 % 2 * (low_shown e n / 2 ^ 14 % 2))
  unfolding low_shown
  low-back =
      ap (λ (w : ℕ). shown w b) low-at
      ∙ shown-written (low_at e n) v b
      ∙ ap (λ (r : ℕ). word v (bool_byte b) (v / 2 ^ 15 % 2 * r)) (sym (shown-remote (low_at e n) (eligible_at e n)))
    where
      b : Bool
      b = eligible_at (low_written e n v) n

  -- a high word after a write to it
  pub high-back : high_shown (high_written e n v) n ≡ destination_of v * 2 ^ 24
  high-back = ap (λ (d : ℕ). d * 2 ^ 24) (get_or-set_same e.destination n (destination_of v) 0 (rw z.destination l))

-- ---- every other word stays

module _ (e : Entries) (n v j : ℕ) where
  pub low-leaves-high : high_shown (low_written e n v) j ≡ high_shown e j
  unfolding low_written
  low-leaves-high = refl

  pub high-leaves-low : low_shown (high_written e n v) j ≡ low_shown e j
  unfolding low_shown
  high-leaves-low = refl

  module _ (d : j ≡ n → ⊥) where
    pub low-leaves-low : low_shown (low_written e n v) j ≡ low_shown e j
    unfolding low_shown low_written
    low-leaves-low =
        rw (
          get_or-set_other e.low n j (written (low_at e n) v) 0 d,
          get_or-set_other e.held n j (held_after_write (written (low_at e n) v) (held_at e n)) 0 d,
        )

    pub high-leaves-high : high_shown (high_written e n v) j ≡ high_shown e j
    high-leaves-high = ap (λ (x : ℕ). x * 2 ^ 24) (get_or-set_other e.destination n j (destination_of v) 0 d)

-- ---- what a delivery gives stands in the two words

cancel : (d : ℕ) → d * 2 ^ 24 / 2 ^ 24 ≡ d
cancel d = omega arith

pub given-shown : (e : Entries) (p : ℕ) → given e p ≡ answer.Interrupt p (low_shown e p % 2 ^ 8) (high_shown e p / 2 ^ 24) (low_shown e p / 2 ^ 11 % 2)
unfolding low_shown
given-shown e p =
    sym
    (λ i. answer.Interrupt p (shown-vector (low_at e p) (eligible_at e p) i) (cancel (destination_at e p) i) (shown-logical (low_at e p) (eligible_at e p) i))
