-- The block's registers: what a read gives after a write to the same offset, and what a write leaves of the others.
use Rattle.std.proofs.Common.{◌≡◌, ℕ, zero, suc, ◌+◌, ◌-◌, ◌*◌, ◌/◌, ◌%◌, ◌^◌, ◌<◌, Bool, true, false, cond, eqb, sym, refl, ap, ◌∙◌, ap₂, mod-lt, mul-zero, mul-one, arith, lit<, eqb-true}
use mir.Val.{bool_byte}
use Rattle.timer.specs.declared.Timer.{Timer}
use Rattle.timer.specs.State.{flag}
use Rattle.timer.specs.Mask.{in_mask}
use Rattle.timer.specs.Registers.{bit, configuration_of, configured_of, compared_of, cleared_of}
use Rattle.timer.proofs.ReadBack.{fields, flag_is, cleared-status, configured-comparator, set-configuration, configured-status, one-shot-back, set_back, period-back}
use Rattle.timer.proofs.ReadBack.{configuration-back as timer-configuration-back}
use Rattle.timers.specs.declared.Timers.{Timers}
use Rattle.timers.specs.State.{at, mask_at, is_enabled, with_counter, with_enabled, with_timers}
use Rattle.timers.specs.Formed.{Formed}
use Rattle.timers.specs.Registers.{status_of, register_of, cleared_by, written_of}
use Rattle.timers.proofs.Settings.{kept-mask, written-kept}
use Rattle.timers.proofs.Three.{at_with, at_same}
use Rattle.timers.proofs.Access.{read-enabled, read-status, read-counter, write-enabled, write-status, write-counter}
use Rattle.timers.proofs.Places.{configuration-read, comparator-read, configuration-write, comparator-write}

module _ (s : Timers) (v : ℕ) where
  -- "0x010: bit 0 enable. Other bits read 0."
  pub enable-back : register_of (written_of s 0x010 v) 0x010 ≡ v % 2
  enable-back =
      ap (λ (x : Timers). register_of x 0x010) (write-enabled s 0x010 v refl)
      ∙ read-enabled (with_enabled s (bit 0 v)) 0x010 refl
      ∙ flag_is (bit 0 v) (mod-lt (v / 2 ^ 0) (lit< tt))
      ∙ ap (λ (x : ℕ). x % 2) (whole v)
    where
      whole : (x : ℕ) → x / 1 ≡ x
      whole x = omega arith

  -- "0x0F0: main counter. A write while enabled is ignored."
  written-counter : (b : Bool) → is_enabled s ≡ b → written_of s 0x0F0 v ≡ cond b s (with_counter s v)
  written-counter b e = write-counter s 0x0F0 v refl ∙ ap (λ (x : Bool). cond x s (with_counter s v)) e

  pub counter-back : register_of s 0x010 ≡ 0 → register_of (written_of s 0x0F0 v) 0x0F0 ≡ v
  counter-back e = go (is_enabled s) refl (sym (read-enabled s 0x010 refl) ∙ e)
    where
      go : (b : Bool) → is_enabled s ≡ b → bool_byte (is_enabled s) ≡ 0 → register_of (written_of s 0x0F0 v) 0x0F0 ≡ v
      go true t q = let one : ◌≡◌ {A = ℕ} 1 0 = sym (ap bool_byte t) ∙ q in absurd (omega arith)
      go false t q = ap (λ (x : Timers). register_of x 0x0F0) (written-counter false t) ∙ read-counter (with_counter s v) 0x0F0 refl

  pub counter-ignored : register_of s 0x010 ≡ 1 → written_of s 0x0F0 v ≡ s
  counter-ignored e = go (is_enabled s) refl (sym (read-enabled s 0x010 refl) ∙ e)
    where
      go : (b : Bool) → is_enabled s ≡ b → bool_byte (is_enabled s) ≡ 1 → written_of s 0x0F0 v ≡ s
      go true t q = written-counter true t
      go false t q = let none : ◌≡◌ {A = ℕ} 0 1 = sym (ap bool_byte t) ∙ q in absurd (omega arith)

-- ---- "0x020: bit n is timer n's status. Writing 1 to it clears it. Other bits read 0."

-- bit k of r, unless it is written 1
abbrev pub left : ℕ → ℕ → ℕ → ℕ
left k r v = r / 2 ^ k % 2 * (1 - v / 2 ^ k % 2)

module _ (a b c : ℕ) (ha : a < 2) (hb : b < 2) (hc : c < 2) where
  bit-0 : (c * 2 ^ 2 + (b * 2 ^ 1 + a * 2 ^ 0)) / 2 ^ 0 % 2 ≡ a
  bit-0 = omega arith

  bit-1 : (c * 2 ^ 2 + (b * 2 ^ 1 + a * 2 ^ 0)) / 2 ^ 1 % 2 ≡ b
  bit-1 = omega arith

  bit-2 : (c * 2 ^ 2 + (b * 2 ^ 1 + a * 2 ^ 0)) / 2 ^ 2 % 2 ≡ c
  bit-2 = omega arith

byte-lt : (b : Bool) → bool_byte b < 2
byte-lt true = omega arith
byte-lt false = omega arith

-- a status bit after a write of x over it
cleared-bit : (t : Timer) (x : ℕ) → x < 2 → bool_byte (flag (cond (flag x) (cleared_of t) t).status) ≡ bool_byte (flag t.status) * (1 - x)
cleared-bit t zero l = sym (mul-one (bool_byte (flag t.status)))
cleared-bit t (suc zero) l = ap (λ (n : ℕ). bool_byte (flag n)) (cleared-status t) ∙ sym (mul-zero (bool_byte (flag t.status)))
cleared-bit t (suc (suc x)) l = absurd (omega arith)

abbrev st : Timers → ℕ → ℕ
st s m = bool_byte (flag (at s m).status)

-- bit m is timer m's status
status-bit : (s : Timers) (m : ℕ) → m < 3 → register_of s 0x020 / 2 ^ m % 2 ≡ st s m
unfolding status_of
status-bit s m l = ap (λ (x : ℕ). x / 2 ^ m % 2) (read-status s 0x020 refl) ∙ go m l
  where
    lt : (m : ℕ) → st s m < 2
    lt m = byte-lt (flag (at s m).status)

    go : (m : ℕ) → m < 3 → (st s 2 * 2 ^ 2 + (st s 1 * 2 ^ 1 + st s 0 * 2 ^ 0)) / 2 ^ m % 2 ≡ st s m
    go zero l = bit-0 (st s 0) (st s 1) (st s 2) (lt 0) (lt 1) (lt 2)
    go (suc zero) l = bit-1 (st s 0) (st s 1) (st s 2) (lt 0) (lt 1) (lt 2)
    go (suc (suc zero)) l = bit-2 (st s 0) (st s 1) (st s 2) (lt 0) (lt 1) (lt 2)
    go (suc (suc (suc m))) l = absurd (omega arith)

module _ (s : Timers) (v : ℕ) where
  -- timer m's bit, by what the register read
  cleared_at : (m : ℕ) → m < 3 → bool_byte (flag (cleared_by v s m).status) ≡ left m (register_of s 0x020) v
  cleared_at m l = cleared-bit (at s m) (bit m v) (mod-lt (v / 2 ^ m) (lit< tt)) ∙ ap (λ (x : ℕ). x * (1 - bit m v)) (sym (status-bit s m l))

  pub status-back :
      register_of (written_of s 0x020 v) 0x020 ≡ left 2 (register_of s 0x020) v * 2 ^ 2 + (left 1 (register_of s 0x020) v * 2 ^ 1 + left 0 (register_of s 0x020) v * 2 ^ 0)
  unfolding status_of
  status-back =
      ap (λ (x : Timers). register_of x 0x020) (write-status s 0x020 v refl)
      ∙ read-status (with_timers s (cleared_by v s)) 0x020 refl
      ∙ (λ k. cleared_at 2 (omega arith) k * 2 ^ 2 + (cleared_at 1 (omega arith) k * 2 ^ 1 + cleared_at 0 (omega arith) k * 2 ^ 0))

-- ---- a timer's two registers

module _ (s : Timers) (z : Formed s) (n : ℕ) (l : n < 3) (v : ℕ) where
  abbrev t : Timer
  t = at s n

  -- what the configuration reads now
  abbrev now : ℕ
  now = register_of s (0x100 + 0x20 * n)

  was : configuration_of (mask_at s n) t ≡ now
  was = sym (configuration-read n l s)

  configured-at : at (written_of s (0x100 + 0x20 * n) v) n ≡ configured_of (mask_at s n) t v
  configured-at = ap (λ (y : Timers). at y n) (configuration-write n l s v) ∙ at_same s n (configured_of (mask_at s n) t v) l

  compared_at : at (written_of s (0x108 + 0x20 * n) v) n ≡ compared_of t v
  compared_at = ap (λ (y : Timers). at y n) (comparator-write n l s v) ∙ at_same s n (compared_of t v) l

  pub configuration-back :
      register_of (written_of s (0x100 + 0x20 * n) v) (0x100 + 0x20 * n)
      ≡ fields (mask_at s n) (cond (in_mask (mask_at s n) (v / 2 ^ 9 % 2 ^ 5)) (v / 2 ^ 9 % 2 ^ 5) (now / 2 ^ 9 % 2 ^ 5)) (bit 8 v) (bit 3 v * bit 6 v) (bit 3 v) (bit 2 v) (bit 1 v)
  configuration-back =
      configuration-read n l (written_of s (0x100 + 0x20 * n) v)
      ∙ ap₂ configuration_of (kept-mask (written-kept s (0x100 + 0x20 * n) v) n) configured-at
      ∙ timer-configuration-back (mask_at s n) t (z.each n l) v
      ∙ ap (λ (x : ℕ). fields (mask_at s n) (cond (in_mask (mask_at s n) (v / 2 ^ 9 % 2 ^ 5)) (v / 2 ^ 9 % 2 ^ 5) (x / 2 ^ 9 % 2 ^ 5)) (bit 8 v) (bit 3 v * bit 6 v) (bit 3 v) (bit 2 v) (bit 1 v)) was

  -- "Writing 32-bit mode reduces comparator and period modulo 2^32."
  pub configuration-reduces :
      register_of (written_of s (0x100 + 0x20 * n) v) (0x108 + 0x20 * n)
      ≡ cond (eqb (bit 8 v) 1) (register_of s (0x108 + 0x20 * n) % 2 ^ 32) (register_of s (0x108 + 0x20 * n))
  configuration-reduces =
      comparator-read n l (written_of s (0x100 + 0x20 * n) v)
      ∙ ap (λ (x : Timer). x.comparator) configured-at
      ∙ configured-comparator (mask_at s n) t (z.each n l) v
      ∙ ap (λ (x : ℕ). cond (eqb (bit 8 v) 1) (x % 2 ^ 32) x) (sym (comparator-read n l s))

  -- "Writing edge type clears the status."
  pub configuration-status :
      (m : ℕ) → m < 3 →
      register_of (written_of s (0x100 + 0x20 * n) v) 0x020 / 2 ^ m % 2
      ≡ cond (eqb m n) (cond (eqb (bit 1 v) 1) (register_of s 0x020 / 2 ^ m % 2) 0) (register_of s 0x020 / 2 ^ m % 2)
  configuration-status m h =
      status-bit (written_of s (0x100 + 0x20 * n) v) m h
      ∙ ap (λ (x : Timers). st x m) (configuration-write n l s v)
      ∙ ap (λ (x : Timer). bool_byte (flag x.status)) (at_with s n (configured_of (mask_at s n) t v) m h)
      ∙ go (eqb m n) refl
      ∙ ap (λ (x : ℕ). cond (eqb m n) (cond (eqb (bit 1 v) 1) x 0) x) (sym (status-bit s m h))
    where
      level : (b : Bool) (x : ℕ) → bool_byte (flag (cond b x 0)) ≡ cond b (bool_byte (flag x)) 0
      level true x = refl
      level false x = refl

      go : (b : Bool) → eqb m n ≡ b → bool_byte (flag (cond b (configured_of (mask_at s n) t v) (at s m)).status) ≡ cond b (cond (eqb (bit 1 v) 1) (st s m) 0) (st s m)
      go true e =
          ap (λ (x : ℕ). bool_byte (flag x)) (configured-status (mask_at s n) t (z.each n l) v)
          ∙ level (eqb (bit 1 v) 1) t.status
          ∙ ap (λ (k : ℕ). cond (eqb (bit 1 v) 1) (st s k) 0) (sym (eqb-true m n e))
      go false e = refl

  compared-read : (x : ℕ) → (compared_of t v).comparator ≡ x → register_of (written_of s (0x108 + 0x20 * n) v) (0x108 + 0x20 * n) ≡ x
  compared-read x e = comparator-read n l (written_of s (0x108 + 0x20 * n) v) ∙ ap (λ (y : Timer). y.comparator) compared_at ∙ e

  taken : cond (eqb (configuration_of (mask_at s n) t / 2 ^ 8 % 2) 1) (v % 2 ^ 32) v ≡ cond (eqb (now / 2 ^ 8 % 2) 1) (v % 2 ^ 32) v
  taken = ap (λ (x : ℕ). cond (eqb (x / 2 ^ 8 % 2) 1) (v % 2 ^ 32) v) was

  -- "One-shot: the write sets it."
  pub comparator-one-shot : now / 2 ^ 3 % 2 ≡ 0 → register_of (written_of s (0x108 + 0x20 * n) v) (0x108 + 0x20 * n) ≡ cond (eqb (now / 2 ^ 8 % 2) 1) (v % 2 ^ 32) v
  comparator-one-shot e = compared-read _ (one-shot-back (mask_at s n) t (z.each n l) v v (ap (λ (x : ℕ). x / 2 ^ 3 % 2) was ∙ e) ∙ taken)

  -- "Periodic: the write sets the period, and also the comparator if bit 6 is 1"
  pub comparator-set : now / 2 ^ 6 % 2 ≡ 1 → register_of (written_of s (0x108 + 0x20 * n) v) (0x108 + 0x20 * n) ≡ cond (eqb (now / 2 ^ 8 % 2) 1) (v % 2 ^ 32) v
  comparator-set e = compared-read _ (set_back (mask_at s n) t (z.each n l) v v (ap (λ (x : ℕ). x / 2 ^ 6 % 2) was ∙ e) ∙ taken)

  pub comparator-kept : now / 2 ^ 3 % 2 ≡ 1 → now / 2 ^ 6 % 2 ≡ 0 → register_of (written_of s (0x108 + 0x20 * n) v) (0x108 + 0x20 * n) ≡ register_of s (0x108 + 0x20 * n)
  comparator-kept e f =
      compared-read _
      (period-back (mask_at s n) t (z.each n l) v v (ap (λ (x : ℕ). x / 2 ^ 3 % 2) was ∙ e) (ap (λ (x : ℕ). x / 2 ^ 6 % 2) was ∙ f) ∙ sym (comparator-read n l s))

  -- "bit 6 then becomes 0", and the other bits of the configuration stay
  pub comparator-unsets : register_of (written_of s (0x108 + 0x20 * n) v) (0x100 + 0x20 * n) + now / 2 ^ 6 % 2 * 2 ^ 6 ≡ now
  comparator-unsets =
      ap₂ (λ (x y : ℕ). x + y / 2 ^ 6 % 2 * 2 ^ 6) (configuration-read n l (written_of s (0x108 + 0x20 * n) v) ∙ ap₂ configuration_of (kept-mask (written-kept s (0x108 + 0x20 * n) v) n) compared_at) (sym was)
      ∙ set-configuration (mask_at s n) t (z.each n l) v v
      ∙ was
