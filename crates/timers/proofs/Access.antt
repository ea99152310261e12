-- Accesses as the code takes them: by the offset, and a call's refusals.
use Rattle.std.proofs.Common.{◌≡◌, ℕ, ◌+◌, ◌*◌, ◌/◌, ◌%◌, ◌^◌, ◌<◌, ◌≤◌, Bool, true, false, cond, ◌&&◌, eqb, [], ◌∷◌, length, sym, refl, ap, ◌∙◌, mod-lt, mod-eq_of_lt, arith, lit<, le-ltb, lt-ltb, eq-eqb, ne_eqb, le-leb}
use native.Mathlib.Decide.{ℕ_discrete}
use lib.Bits.{bit_or, bit_and, and_mask, or_shifted}
use mir.Val.{bool_byte}
use borrow.Author.Tests.{lt-leb}
use Rattle.pins.proofs.Bools.{byte-lt}
use Rattle.answers.specs.declared.Refusal.TheVariants as refusal
use Rattle.answers.specs.declared.Answer.TheVariants as answer
use Rattle.timer.specs.declared.Timer.{Timer}
use Rattle.timer.specs.State.{flag}
use Rattle.timer.specs.Halves.{half_of}
use Rattle.timer.specs.Registers.{bit, placed, configured_of, compared_of, cleared_of}
use Rattle.timers.specs.declared.Timers.{Timers}
use Rattle.timers.specs.State.{at, mask_at, is_enabled, with_counter, with_enabled, with_list, with_timers, with_timer}
use Rattle.timers.specs.Formed.{well_formed}
use Rattle.timers.specs.Registers.{aligned, numbered, capabilities_of, status_of, timer_register, register_of, cleared_by, timer_written, written_of}
use Rattle.timers.specs.Registers.{fits, half_at, whole_at, half_written, shown_of, stored_of}
use Rattle.timers.specs.Inner.{timer_put}
use Rattle.timers.proofs.Three.{three-same, eta}
use Rattle.timers.specs.Call.{turn, refused, reading_of, writing_of, read_of, write_of}

-- ---- the status register

pub status-code : (s : Timers) (x y z : ℕ) → x ≡ placed 2 (at s 2).status → y ≡ placed 1 (at s 1).status → z ≡ placed 0 (at s 0).status → bit_or x (bit_or y z) ≡ status_of s
unfolding status_of
status-code s x y z ex ey ez =
    (λ i. bit_or (ex i) (bit_or (ey i) (ez i)))
    ∙ ap (bit_or (a * 2 ^ 2)) (or_shifted b 1 (c * 2 ^ 0) (omega (arith, byte-lt (flag (at s 0).status))))
    ∙ or_shifted a 2 (b * 2 ^ 1 + c * 2 ^ 0) (omega (arith, byte-lt (flag (at s 0).status), byte-lt (flag (at s 1).status)))
  where
    a : ℕ
    a = bool_byte (flag (at s 2).status)

    b : ℕ
    b = bool_byte (flag (at s 1).status)

    c : ℕ
    c = bool_byte (flag (at s 0).status)

-- ---- by the offset

module _ (s : Timers) (o : ℕ) where
  module _ (n1 : o ≡ 0x010 → ⊥) (n2 : o ≡ 0x020 → ⊥) (n3 : o ≡ 0x0F0 → ⊥) where
    module _ (n0 : o ≡ 0x000 → ⊥) where
      pub read_below : o < 0x100 → register_of s o ≡ 0
      unfolding register_of
      read_below l = rw (ne_eqb o 0 n0, ne_eqb o 0x010 n1, ne_eqb o 0x020 n2, ne_eqb o 0x0F0 n3, lt-leb 0x100 o l)

      pub read_above : 0x160 ≤ o → register_of s o ≡ 0
      unfolding register_of
      read_above l = rw (ne_eqb o 0 n0, ne_eqb o 0x010 n1, ne_eqb o 0x020 n2, ne_eqb o 0x0F0 n3, le-leb 0x100 o (omega arith), le-ltb o 0x160 l)

      pub read-timer : 0x100 ≤ o → o < 0x160 → register_of s o ≡ timer_register (mask_at s (numbered o)) (at s (numbered o)) o
      unfolding register_of
      read-timer l h = rw (ne_eqb o 0 n0, ne_eqb o 0x010 n1, ne_eqb o 0x020 n2, ne_eqb o 0x0F0 n3, le-leb 0x100 o l, lt-ltb o 0x160 h)

    module _ (v : ℕ) where
      pub write-below : o < 0x100 → written_of s o v ≡ s
      unfolding written_of
      write-below l = rw (ne_eqb o 0x010 n1, ne_eqb o 0x020 n2, ne_eqb o 0x0F0 n3, lt-leb 0x100 o l)

      pub write-above : 0x160 ≤ o → written_of s o v ≡ s
      unfolding written_of
      write-above l = rw (ne_eqb o 0x010 n1, ne_eqb o 0x020 n2, ne_eqb o 0x0F0 n3, le-leb 0x100 o (omega arith), le-ltb o 0x160 l)

      pub write-timer : 0x100 ≤ o → o < 0x160 → written_of s o v ≡ timer_written s o v
      unfolding written_of
      write-timer l h = rw (ne_eqb o 0x010 n1, ne_eqb o 0x020 n2, ne_eqb o 0x0F0 n3, le-leb 0x100 o l, lt-ltb o 0x160 h)

  pub read-capabilities : o ≡ 0x000 → register_of s o ≡ capabilities_of s
  unfolding register_of
  read-capabilities e = rw e

  pub read-enabled : o ≡ 0x010 → register_of s o ≡ bool_byte (is_enabled s)
  unfolding register_of
  read-enabled e = rw e

  pub read-status : o ≡ 0x020 → register_of s o ≡ status_of s
  unfolding register_of
  read-status e = rw e

  pub read-counter : o ≡ 0x0F0 → register_of s o ≡ s.counter
  unfolding register_of
  read-counter e = rw e

  module _ (v : ℕ) where
    pub write-enabled : o ≡ 0x010 → written_of s o v ≡ with_enabled s (v / 2 ^ 0 % 2)
    unfolding written_of
    write-enabled e = rw e

    pub write-status : o ≡ 0x020 → written_of s o v ≡ with_timers s (cleared_by v s)
    unfolding written_of
    write-status e = rw e

    pub write-counter : o ≡ 0x0F0 → written_of s o v ≡ cond (is_enabled s) s (with_counter s v)
    unfolding written_of
    write-counter e = rw e

-- ---- which accesses there are

module _ (w o : ℕ) where
  pub aligned-whole : w ≡ 8 → aligned w o ≡ eqb (o % 8) 0
  aligned-whole e = rw e

  pub aligned-half : (w ≡ 8 → ⊥) → aligned w o ≡ (eqb w 4 && eqb (o % 4) 0)
  aligned-half n = go (ℕ_discrete w 4)
    where
      go : Dec (w ≡ 4) → aligned w o ≡ (eqb w 4 && eqb (o % 4) 0)
      go (yes e) = rw e
      go (no d) = rw (ne_eqb w 4 d, ne_eqb w 8 n)

-- ---- refusals

module _ (s : Timers) (w o : ℕ) where
  pub reading-width : aligned w o ≡ false → reading_of s w o ≡ refused s refusal.Width
  unfolding reading_of
  reading-width e = rw e

  pub reading-offset : aligned w o ≡ true → 0x400 ≤ o → reading_of s w o ≡ refused s refusal.Offset
  unfolding reading_of
  reading-offset e l = rw (e, le-ltb o 0x400 l)

  pub reading-done : aligned w o ≡ true → o < 0x400 → reading_of s w o ≡ turn s (answer.Value (shown_of s w o))
  unfolding reading_of
  reading-done e l = rw (e, lt-ltb o 0x400 l)

  pub shown-whole : w ≡ 8 → shown_of s w o ≡ register_of s o
  unfolding shown_of
  shown-whole e = rw (eq-eqb w 8 e)

  pub shown-half : (w ≡ 8 → ⊥) → shown_of s w o ≡ half_of (half_at o) (register_of s (whole_at o))
  unfolding shown_of
  shown-half n = rw (ne_eqb w 8 n)

  pub read-refused : well_formed s ≡ false → read_of s w o ≡ refused s refusal.State
  unfolding read_of
  read-refused e = rw e

  pub read_done : well_formed s ≡ true → read_of s w o ≡ reading_of s w o
  unfolding read_of
  read_done e = rw e

  module _ (v : ℕ) where
    pub writing-width : aligned w o ≡ false → writing_of s w o v ≡ refused s refusal.Width
    unfolding writing_of
    writing-width e = rw e

    pub writing-offset : aligned w o ≡ true → 0x400 ≤ o → writing_of s w o v ≡ refused s refusal.Offset
    unfolding writing_of
    writing-offset e l = rw (e, le-ltb o 0x400 l)

    pub writing-value : aligned w o ≡ true → o < 0x400 → fits w v ≡ false → writing_of s w o v ≡ refused s refusal.Value
    unfolding writing_of
    writing-value e l f = rw (e, lt-ltb o 0x400 l, f)

    pub writing-done : aligned w o ≡ true → o < 0x400 → fits w v ≡ true → writing_of s w o v ≡ turn (stored_of s w o v) answer.Done
    unfolding writing_of
    writing-done e l f = rw (e, lt-ltb o 0x400 l, f)

    pub stored-whole : w ≡ 8 → stored_of s w o v ≡ written_of s o v
    unfolding stored_of
    stored-whole e = rw (eq-eqb w 8 e)

    pub stored-half : (w ≡ 8 → ⊥) → stored_of s w o v ≡ half_written s (half_at o) (whole_at o) v
    unfolding stored_of
    stored-half n = rw (ne_eqb w 8 n)

    pub write-refused : well_formed s ≡ false → write_of s w o v ≡ refused s refusal.State
    unfolding write_of
    write-refused e = rw e

    pub write_done : well_formed s ≡ true → write_of s w o v ≡ writing_of s w o v
    unfolding write_of
    write_done e = rw e

-- ---- a write to the status register

pub cleared-code :
    (s : Timers) (v b0 b1 b2 : ℕ) (x0 x1 x2 : Timer) → b0 ≡ bit 0 v → b1 ≡ bit 1 v → b2 ≡ bit 2 v → x0 ≡ cond (flag b0) (cleared_of (at s 0)) (at s 0) →
    x1 ≡ cond (flag b1) (cleared_of (at s 1)) (at s 1) → x2 ≡ cond (flag b2) (cleared_of (at s 2)) (at s 2) →
    with_list s (x0 ∷ x1 ∷ x2 ∷ []) ≡ with_timers s (cleared_by v s)
cleared-code s v b0 b1 b2 x0 x1 x2 e0 e1 e2 f0 f1 f2 =
    λ i. with_list s ((f0 ∙ ap (by 0) e0) i ∷ (f1 ∙ ap (by 1) e1) i ∷ (f2 ∙ ap (by 2) e2) i ∷ [])
  where
    by : ℕ → ℕ → Timer
    by m b = cond (flag b) (cleared_of (at s m)) (at s m)

-- ---- a write to a timer's registers

module _ (s : Timers) (o v : ℕ) where
  abbrev n : ℕ
  n = numbered o

  -- each timer is asked whether it is the one, or one is sought
  asked : (f : ℕ → Timer → Timer) (i : ℕ) → cond (eqb n i) (f i (at s i)) (at s i) ≡ cond (eqb i n) (f n (at s n)) (at s i)
  asked f i = go (ℕ_discrete i n)
    where
      go : Dec (i ≡ n) → cond (eqb n i) (f i (at s i)) (at s i) ≡ cond (eqb i n) (f n (at s n)) (at s i)
      go (yes q) = rw (eq-eqb n i (sym q), eq-eqb i n q) (ap (λ (k : ℕ). f k (at s k)) q)
      go (no d) = rw (ne_eqb n i (λ e. d (sym e)), ne_eqb i n d)

  -- so the block with one timer changed
  one_each : (f : ℕ → Timer → Timer) → with_timers s (λ i. cond (eqb n i) (f i (at s i)) (at s i)) ≡ with_timer s n (f n (at s n))
  one_each f = ap (with_list s) (three-same (λ i. cond (eqb n i) (f i (at s i)) (at s i)) (λ i. cond (eqb i n) (f n (at s n)) (at s i)) (λ i h. asked f i))

  written-each : length s.timer ≡ 3 → with_timers s (λ i. timer_put (mask_at s i) (at s i) (eqb n i) (o % 0x20) v) ≡ timer_written s o v
  unfolding timer_put timer_written
  written-each l = go (eqb (o % 0x20) 0) (eqb (o % 0x20) 8)
    where
      same : (b : Bool) (t : Timer) → cond b t t ≡ t
      same true t = refl
      same false t = refl

      by : (ℕ → Timer → Timer) → ℕ → Timer
      by f i = cond (eqb n i) (f i (at s i)) (at s i)

      go :
          (x y : Bool) →
          with_timers s (by (λ i t. cond x (configured_of (mask_at s i) t v) (cond y (compared_of t v) t)))
          ≡ cond x (with_timer s n (configured_of (mask_at s n) (at s n) v)) (cond y (with_timer s n (compared_of (at s n) v)) s)
      go true y = one_each (λ i t. configured_of (mask_at s i) t v)
      go false true = one_each (λ i t. compared_of t v)
      go false false = ap (with_list s) (three-same (by (λ i t. t)) (at s) (λ i h. same (eqb n i) (at s i))) ∙ sym (eta s l)

  pub written-code :
      length s.timer ≡ 3 → (x0 x1 x2 : Timer) → x0 ≡ timer_put (mask_at s 0) (at s 0) (eqb n 0) (o % 0x20) v → x1 ≡ timer_put (mask_at s 1) (at s 1) (eqb n 1) (o % 0x20) v →
      x2 ≡ timer_put (mask_at s 2) (at s 2) (eqb n 2) (o % 0x20) v → with_list s (x0 ∷ x1 ∷ x2 ∷ []) ≡ timer_written s o v
  written-code l x0 x1 x2 e0 e1 e2 = (λ i. with_list s (e0 i ∷ e1 i ∷ e2 i ∷ [])) ∙ written-each l

-- ---- the capability register, put together of its parts

pub capabilities-code :
    (s : Timers) → s.tick_period < 2 ^ 32 →
    bit_or (s.tick_period * 4294967296 % 2 ^ 64) (bit_or (bit_and s.vendor 65535 * 65536 % 2 ^ 64) 8705) ≡ capabilities_of s
unfolding capabilities_of
capabilities-code s h =
    let v = s.vendor % 2 ^ 16 in
    let l : v < 2 ^ 16 = mod-lt s.vendor (lit< tt) in
    ap (λ (x : ℕ). bit_or (s.tick_period * 4294967296 % 2 ^ 64) (bit_or (x * 65536 % 2 ^ 64) 8705)) (and_mask s.vendor 16)
    ∙ ap (λ (x : ℕ). bit_or (s.tick_period * 4294967296 % 2 ^ 64) (bit_or x 8705)) (mod-eq_of_lt {n = v * 65536} {m = 2 ^ 64} (omega arith))
    ∙ ap (bit_or (s.tick_period * 4294967296 % 2 ^ 64)) (or_shifted v 16 8705 (lit< tt))
    ∙ ap (λ (x : ℕ). bit_or x (v * 2 ^ 16 + 0x2201)) (mod-eq_of_lt {n = s.tick_period * 4294967296} {m = 2 ^ 64} (omega arith))
    ∙ or_shifted s.tick_period 32 (v * 2 ^ 16 + 0x2201) (omega arith)
