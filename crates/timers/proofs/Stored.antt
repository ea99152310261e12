-- Accesses of both widths as the code takes them: the register at the offset rounded down, and for a write one number for it.
use Rattle.std.proofs.Common.{◌≡◌, ℕ, ◌+◌, ◌*◌, ◌%◌, ◌^◌, ◌<◌, ◌≤◌, Bool, true, false, cond, not, ◌&&◌, ◌||◌, T, eqb, ltb, leb, sym, refl, ap, ◌∙◌, subst, arith, ltb-true, le-ltb, lt-ltb, eq-eqb, ne_eqb, eqb-true, le-leb, leb-true}
use borrow.Author.Tests.{not-true, eqb-false}
use Rattle.pins.proofs.Bools.{and_left}
use Rattle.timer.specs.declared.Half.{Half}
use Rattle.timer.specs.Halves.{replaced}
use Rattle.timer.specs.Registers.{configuration_of, half_compared_of}
use Rattle.timers.specs.declared.Timers.{Timers}
use Rattle.timers.specs.State.{at, mask_at, with_timer}
use Rattle.timers.specs.Registers.{aligned, fits, numbered, of_timer, is_comparator, register_of, written_of, half_at, whole_at, filled, half_written, shown_of, stored_of}
use Rattle.timers.specs.Inner.{beside_of, filled_by}
use Rattle.timers.proofs.Access.{aligned-whole, aligned-half, read-enabled, read-counter, shown-whole, stored-whole, stored-half}
use Rattle.timers.proofs.Places.{Place, capabilities, enable, status, counter, configuration, comparator, unlisted, place, configuration-read, unlisted-write, capabilities-write}

-- at width 8 the register stands at the offset
pub whole_here : (w o : ℕ) → aligned w o ≡ true → w ≡ 8 → whole_at o ≡ o
whole_here w o a e = let z : o % 8 ≡ 0 = eqb-true (o % 8) 0 (sym (aligned-whole w o e) ∙ a) in omega arith

pub shown-here : (s : Timers) (w o : ℕ) → aligned w o ≡ true → w ≡ 8 → register_of s (whole_at o) ≡ shown_of s w o
shown-here s w o a e = ap (register_of s) (whole_here w o a e) ∙ sym (shown-whole s w o e)

-- what fits and is not 8 bytes wide fits in four
pub fits-half : (w o v : ℕ) → aligned w o ≡ true → fits w v ≡ true → (w ≡ 8 → ⊥) → v < 2 ^ 32
fits-half w o v a f n = ltb-true v (2 ^ 32) (sym (ap (λ (b : Bool). not b || ltb v (2 ^ 32)) four) ∙ f)
  where
    four : eqb w 4 ≡ true
    four = and_left (eqb w 4) (eqb (o % 4) 0) (sym (aligned-half w o n) ∙ a)

-- an access that is not 8 bytes wide, and something more
pub not-whole : (w : ℕ) (b : Bool) → (not (eqb w 8) && b) ≡ true → w ≡ 8 → ⊥
not-whole w b e = eqb-false w 8 (not-true (eqb w 8) (and_left (not (eqb w 8)) b e))

-- a timer's registers are from 0x100 on
pub comparator-from : (o : ℕ) → (of_timer o && is_comparator o) ≡ true → 0x100 ≤ o
comparator-from o e = leb-true 0x100 o (and_left (leb 0x100 o) (ltb o 0x160) (and_left (of_timer o) (is_comparator o) e))

pub at-comparator : (n : ℕ) → n < 3 → (of_timer (0x108 + 0x20 * n) && is_comparator (0x108 + 0x20 * n)) ≡ true
at-comparator n l = rw (le-leb 0x100 (0x108 + 0x20 * n) (omega arith), lt-ltb (0x108 + 0x20 * n) 0x160 (omega arith), eq-eqb ((0x108 + 0x20 * n) % 0x20) 8 (omega arith))

-- ---- a half of a comparator, and of another register

module _ (s : Timers) (h : Half) (o v : ℕ) where
  pub half-comparator : (of_timer o && is_comparator o) ≡ true → half_written s h o v ≡ with_timer s (numbered o) (half_compared_of (at s (numbered o)) h v)
  unfolding half_written
  half-comparator e = rw e

  pub half-filled : (of_timer o && is_comparator o) ≡ false → half_written s h o v ≡ written_of s o (filled s h o v)
  unfolding half_written
  half-filled e = rw e

-- ---- what stands beside a half, as the code looks for it

beside-configuration : (s : Timers) (n : ℕ) → n < 3 → beside_of s (0x100 + 0x20 * n) ≡ configuration_of (mask_at s n) (at s n)
unfolding beside_of
beside-configuration s n l =
    rw (ne_eqb (0x100 + 0x20 * n) 0x0F0 (λ q. omega arith), ne_eqb (0x100 + 0x20 * n) 0x010 (λ q. omega arith), le-ltb (0x100 + 0x20 * n) 0x100 (omega arith))
    (ap (λ (m : ℕ). configuration_of (mask_at s m) (at s m)) here)
  where
    here : numbered (0x100 + 0x20 * n) ≡ n
    here = omega arith

module _ (s : Timers) (h : Half) (o v : ℕ) where
  -- no comparator: the number is the same one, or it is ignored
  filled-by : (of_timer o && is_comparator o) ≡ false → written_of s o (filled_by s h o v) ≡ written_of s o (filled s h o v)
  unfolding beside_of
  filled-by c = go (place o)
    where
      by : beside_of s o ≡ register_of s o → written_of s o (filled_by s h o v) ≡ written_of s o (filled s h o v)
      by = ap (λ (x : ℕ). written_of s o (replaced h (cond (eqb o 0x020) 0 x) v))

      at_place : (p : ℕ) → o ≡ p → beside_of s p ≡ register_of s p → beside_of s o ≡ register_of s o
      at_place p e = subst (λ (x : ℕ). beside_of s x ≡ register_of s x) (sym e)

      ignored : ((x : ℕ) → written_of s o x ≡ s) → written_of s o (filled_by s h o v) ≡ written_of s o (filled s h o v)
      ignored i = i _ ∙ sym (i _)

      go : Place o → written_of s o (filled_by s h o v) ≡ written_of s o (filled s h o v)
      go (capabilities e) = ignored (λ x. ap (λ (p : ℕ). written_of s p x) e ∙ capabilities-write s x)
      go (enable e) = by (at_place 0x010 e (sym (read-enabled s 0x010 refl)))
      go (status e) = rw (eq-eqb o 0x020 e)
      go (counter e) = by (at_place 0x0F0 e (sym (read-counter s 0x0F0 refl)))
      go (configuration n l e) = by (at_place (0x100 + 0x20 * n) e (beside-configuration s n l ∙ sym (configuration-read n l s)))
      go (comparator n l e) = absurd (subst T (sym (at-comparator n l) ∙ ap (λ (p : ℕ). of_timer p && is_comparator p) (sym e) ∙ c) tt)
      go (unlisted u) = ignored (unlisted-write s o u)

module _ (s : Timers) (w o v : ℕ) where
  pub stored-comparator :
      (w ≡ 8 → ⊥) → (of_timer (whole_at o) && is_comparator (whole_at o)) ≡ true →
      stored_of s w o v ≡ with_timer s (numbered (whole_at o)) (half_compared_of (at s (numbered (whole_at o))) (half_at o) v)
  stored-comparator n c = stored-half s w o v n ∙ half-comparator s (half_at o) (whole_at o) v c

  -- every other write is one to the whole register
  pub stored-written :
      aligned w o ≡ true → (not (eqb w 8) && (of_timer (whole_at o) && is_comparator (whole_at o))) ≡ false →
      stored_of s w o v ≡ written_of s (whole_at o) (cond (eqb w 8) v (filled_by s (half_at o) (whole_at o) v))
  stored-written a c = go (eqb w 8) refl c
    where
      go :
          (b : Bool) → eqb w 8 ≡ b → (not b && (of_timer (whole_at o) && is_comparator (whole_at o))) ≡ false →
          stored_of s w o v ≡ written_of s (whole_at o) (cond b v (filled_by s (half_at o) (whole_at o) v))
      go true e d = stored-whole s w o v (eqb-true w 8 e) ∙ ap (λ (p : ℕ). written_of s p v) (sym (whole_here w o a (eqb-true w 8 e)))
      go false e d =
          stored-half s w o v (eqb-false w 8 e)
          ∙ half-filled s (half_at o) (whole_at o) v d
          ∙ sym (filled-by s (half_at o) (whole_at o) v d)
