-- The block's registers in halves: each half by the rule for the whole register.
use Rattle.std.proofs.Common.{◌≡◌, ℕ, ◌+◌, ◌*◌, ◌%◌, ◌^◌, ◌<◌, Bool, true, false, cond, ◌&&◌, refl, ap, ◌∙◌, arith, le-ltb, lt-ltb, eq-eqb, ne_eqb, le-leb}
use native.Mathlib.Decide.{dec_lt, ℕ_discrete}
use borrow.Author.Tests.{lt-leb}
use Rattle.answers.specs.declared.Answer.TheVariants as answer
use Rattle.timer.specs.declared.Half.{Half}
use Rattle.timer.specs.declared.Half.TheVariants as half
use Rattle.timer.specs.Halves.{half_of, replaced}
use Rattle.timer.specs.Registers.{half_compared_of}
use Rattle.timers.specs.declared.Timers.{Timers}
use Rattle.timers.specs.State.{at, with_timer}
use Rattle.timers.specs.Registers.{aligned, numbered, of_timer, is_comparator, register_of, written_of, half_at, whole_at, place_of, half_written}
use Rattle.timers.specs.Call.{turn, reading_of, writing_of}
use Rattle.timers.proofs.Access.{reading-done, shown-half, writing-done, stored-half}
use Rattle.timers.proofs.Stored.{at-comparator, half-comparator, half-filled}

-- ---- where the halves of a register lie

half_at_lem : (h : Half) (o : ℕ) → o % 8 ≡ 0 → half_at (place_of h o) ≡ h
half_at_lem half.Low o a = rw (eq-eqb (o % 8) 0 a)
half_at_lem half.High o a = rw (ne_eqb ((o + 4) % 8) 0 (λ q. omega arith))

whole-at : (h : Half) (o : ℕ) → o % 8 ≡ 0 → whole_at (place_of h o) ≡ o
whole-at half.Low o a = omega arith
whole-at half.High o a = omega arith

place-aligned : (h : Half) (o : ℕ) → o % 8 ≡ 0 → aligned 4 (place_of h o) ≡ true
place-aligned half.Low o a = eq-eqb (o % 4) 0 (omega arith)
place-aligned half.High o a = eq-eqb ((o + 4) % 4) 0 (omega arith)

place_inside : (h : Half) (o : ℕ) → o % 8 ≡ 0 → o < 0x400 → place_of h o < 0x400
place_inside half.Low o a l = l
place_inside half.High o a l = omega arith

module _ (h : Half) (o : ℕ) (a : o % 8 ≡ 0) (s : Timers) (l : o < 0x400) where
  -- "A half read gives that half of the 8-byte value."
  pub half-reads : reading_of s 4 (place_of h o) ≡ turn s (answer.Value (half_of h (register_of s o)))
  half-reads =
      reading-done s 4 (place_of h o) (place-aligned h o a) (place_inside h o a l)
      ∙ ap (λ (v : ℕ). turn s (answer.Value v)) (shown-half s 4 (place_of h o) (λ q. omega arith) ∙ (λ i. half_of (half_at_lem h o a i) (register_of s (whole-at h o a i))))

  pub half-writes : (v : ℕ) → v < 2 ^ 32 → writing_of s 4 (place_of h o) v ≡ turn (half_written s h o v) answer.Done
  half-writes v g =
      writing-done s 4 (place_of h o) v (place-aligned h o a) (place_inside h o a l) (lt-ltb v (2 ^ 32) g)
      ∙ ap (λ (r : Timers). turn r answer.Done) (stored-half s 4 (place_of h o) v (λ q. omega arith) ∙ (λ i. half_written s (half_at_lem h o a i) (whole-at h o a i) v))

-- ---- which register it is

no-comparator-at : (o : ℕ) → ((n : ℕ) → n < 3 → o ≡ 0x108 + 0x20 * n → ⊥) → (of_timer o && is_comparator o) ≡ false
no-comparator-at o d = go (dec_lt o 0x100) (dec_lt o 0x160) (ℕ_discrete (o % 0x20) 8)
  where
    go : Dec (o < 0x100) → Dec (o < 0x160) → Dec (o % 0x20 ≡ 8) → (of_timer o && is_comparator o) ≡ false
    go (yes l) y q = rw (lt-leb 0x100 o l)
    go (no g) (no y) q = rw (le-leb 0x100 o (omega arith), le-ltb o 0x160 (omega arith))
    go (no g) (yes y) (no q) = rw (le-leb 0x100 o (omega arith), lt-ltb o 0x160 y, ne_eqb (o % 0x20) 8 q)
    go (no g) (yes y) (yes q) = absurd (d (numbered o) (omega arith) (omega arith))

module _ (s : Timers) (h : Half) (v : ℕ) where
  -- "A half write replaces that half of a counter or configuration and then follows the rule for the whole register"
  pub half-replaces : (o : ℕ) → (o ≡ 0x020 → ⊥) → ((n : ℕ) → n < 3 → o ≡ 0x108 + 0x20 * n → ⊥) → half_written s h o v ≡ written_of s o (replaced h (register_of s o) v)
  half-replaces o d c = half-filled s h o v (no-comparator-at o c) ∙ ap (λ (b : Bool). written_of s o (replaced h (cond b 0 (register_of s o)) v)) (ne_eqb o 0x020 d)

  -- "a status write takes the missing half as zeros"
  pub half-status : half_written s h 0x020 v ≡ written_of s 0x020 (replaced h 0 v)
  half-status = half-filled s h 0x020 v refl

  -- "For a comparator, the half is replaced in whatever the whole write would set"
  pub half-compares : (n : ℕ) → n < 3 → half_written s h (0x108 + 0x20 * n) v ≡ with_timer s n (half_compared_of (at s n) h v)
  half-compares n l = half-comparator s h (0x108 + 0x20 * n) v (at-comparator n l) ∙ ap (λ (m : ℕ). with_timer s m (half_compared_of (at s m) h v)) here
    where
      here : numbered (0x108 + 0x20 * n) ≡ n
      here = omega arith
