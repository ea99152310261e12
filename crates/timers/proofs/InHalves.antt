-- The counter and a comparator, written in halves one after the other: which write of the whole it is.
use Rattle.std.proofs.Common.{◌≡◌, ℕ, ◌+◌, ◌*◌, ◌/◌, ◌%◌, ◌^◌, ◌<◌, Bool, true, false, cond, eqb, sym, refl, ap, ◌∙◌, ap₂, arith, eqb-true}
use Rattle.timer.specs.declared.Timer.{Timer}
use Rattle.timer.specs.declared.Half.{Half}
use Rattle.timer.specs.declared.Half.TheVariants as half
use Rattle.timer.specs.State.{flag, with_period, with_set}
use Rattle.timer.specs.Halves.{half_of, replaced}
use Rattle.timer.specs.Registers.{configuration_of, set_of, compared_of, half_compared_of}
use Rattle.timer.specs.Tick.{driving}
use Rattle.timer.proofs.Wire.{set-driving}
use Rattle.timer.proofs.Halves.{other, replaced-both}
use Rattle.timer.proofs.Compared.{half-once, halves_set, halves-whole-set, narrow-low, narrow_high, narrow-low-first, narrow-high-first}
use Rattle.timer.proofs.Compared.{in_halves as timer_in_halves}
use Rattle.timer.proofs.ReadBack.{set-configuration}
use Rattle.timers.specs.declared.Timers.{Timers}
use Rattle.timers.specs.State.{at, mask_at, is_enabled, with_counter, with_list, with_timer}
use Rattle.timers.specs.Formed.{Formed}
use Rattle.timers.specs.Registers.{register_of, written_of, half_written}
use Rattle.timers.specs.Tick.{drives_of}
use Rattle.timers.proofs.Settings.{kept-mask, half-written-kept}
use Rattle.timers.proofs.Three.{three-same, at_with, at_same}
use Rattle.timers.proofs.Access.{read-counter, write-counter}
use Rattle.timers.proofs.Places.{configuration-read, comparator-read, comparator-write}
use Rattle.timers.proofs.Wires.{drives-alike}
use Rattle.timers.proofs.Halves.{half-replaces, half-compares}

-- a block with one timer written twice
with-with : (s : Timers) (n : ℕ) (x y : Timer) → with_timer (with_timer s n x) n y ≡ with_timer s n y
with-with s n x y = ap (with_list s) (three-same _ _ (λ i l. ap (cond (eqb i n) y) (at_with s n x i l) ∙ go (eqb i n) i))
  where
    go : (b : Bool) (i : ℕ) → cond b y (cond b x (at s i)) ≡ cond b y (at s i)
    go true i = refl
    go false i = refl

-- ---- the 64-bit registers: one half, and then the other

abbrev pub in_halves : Timers → Half → ℕ → ℕ → Timers
in_halves s h o v = half_written (half_written s h o (half_of h v)) (other h) o (half_of (other h) v)

-- a write to a half of the counter, while enabled and while not
half-counts : (s : Timers) (k : Half) (x : ℕ) → half_written s k 0x0F0 x ≡ cond (is_enabled s) s (with_counter s (replaced k s.counter x))
half-counts s k x =
    half-replaces s k x 0x0F0 (λ q. omega arith) (λ n l q. omega arith)
    ∙ write-counter s 0x0F0 _ refl
    ∙ ap (λ (c : ℕ). cond (is_enabled s) s (with_counter s (replaced k c x))) (read-counter s 0x0F0 refl)

module _ (s : Timers) (h : Half) (v : ℕ) where
  pub counter-in-halves : in_halves s h 0x0F0 v ≡ written_of s 0x0F0 v
  counter-in-halves =
      ap (λ (r : Timers). half_written r (other h) 0x0F0 (half_of (other h) v)) (half-counts s h (half_of h v))
      ∙ go (is_enabled s) refl
      ∙ sym (write-counter s 0x0F0 v refl)
    where
      first : Timers
      first = with_counter s (replaced h s.counter (half_of h v))

      go : (b : Bool) → is_enabled s ≡ b → half_written (cond b s first) (other h) 0x0F0 (half_of (other h) v) ≡ cond (is_enabled s) s (with_counter s v)
      go true e = half-counts s (other h) (half_of (other h) v) ∙ on e _ ∙ sym (on e _)
        where
          on : is_enabled s ≡ true → (r : Timers) → cond (is_enabled s) s r ≡ s
          on q r = rw q
      go false e =
          half-counts first (other h) (half_of (other h) v)
          ∙ ap (λ (b : Bool). cond b first (with_counter first (replaced (other h) first.counter (half_of (other h) v)))) e
          ∙ ap (with_counter s) (replaced-both h s.counter v)
          ∙ sym (ap (λ (b : Bool). cond b s (with_counter s v)) e)

  module _ (n : ℕ) (l : n < 3) where
    abbrev o : ℕ
    o = 0x108 + 0x20 * n

    abbrev t : Timer
    t = at s n

    -- two writes to a timer's comparator are two writes to that timer
    twice : (f g : Timer → Timer) (r : Timers) → r ≡ with_timer s n (f t) → with_timer r n (g (at r n)) ≡ with_timer s n (g (f t))
    twice f g r e =
        ap (λ (x : Timers). with_timer x n (g (at x n))) e
        ∙ ap (λ (x : Timer). with_timer (with_timer s n (f t)) n (g x)) (at_same s n (f t) l)
        ∙ with-with s n (f t) (g (f t))

    by-timer : in_halves s h o v ≡ with_timer s n (timer_in_halves t h v)
    by-timer =
        half-compares (half_written s h o (half_of h v)) (other h) (half_of (other h) v) n l
        ∙ twice (λ x. half_compared_of x h (half_of h v)) (λ x. half_compared_of x (other h) (half_of (other h) v)) _ (half-compares s h (half_of h v) n l)

    -- two whole writes
    whole_twice : (x : ℕ) → written_of (written_of s o x) o v ≡ with_timer s n (compared_of (compared_of t x) v)
    whole_twice x = comparator-write n l (written_of s o x) v ∙ twice (λ y. compared_of y x) (λ y. compared_of y v) _ (comparator-write n l s x)

    pub comparator-in-halves : in_halves s h o v ≡ written_of (written_of s o (replaced h (register_of s o) (half_of h v))) o v
    comparator-in-halves =
        by-timer
        ∙ ap (with_timer s n) (halves_set t h v)
        ∙ sym (whole_twice (replaced h t.comparator (half_of h v)))
        ∙ ap (λ (c : ℕ). written_of (written_of s o (replaced h c (half_of h v))) o v) (sym (comparator-read n l s))

    -- without bit 6
    pub comparator-whole : t.set_comparator ≡ 0 → in_halves s h o v ≡ written_of s o v
    comparator-whole e = by-timer ∙ ap (with_timer s n) (halves-whole-set t v h (ap flag e)) ∙ sym (comparator-write n l s v)

-- ---- the comparator in 32-bit mode

module _ (s : Timers) (n : ℕ) (l : n < 3) (w : (at s n).narrow ≡ 1) where
  -- the low half is the whole number
  pub comparator-narrow-low : (v : ℕ) → v < 2 ^ 32 → half_written s half.Low (0x108 + 0x20 * n) v ≡ written_of s (0x108 + 0x20 * n) v
  comparator-narrow-low v g = half-compares s half.Low v n l ∙ ap (with_timer s n) (narrow-low (at s n) w v g) ∙ sym (comparator-write n l s v)

  -- the high half clears bit 6, and that is all
  pub comparator-narrow-high : Formed s → (v : ℕ) → half_written s half.High (0x108 + 0x20 * n) v ≡ with_timer s n (with_set (at s n) 0)
  comparator-narrow-high z v = half-compares s half.High v n l ∙ ap (with_timer s n) (narrow_high (at s n) w (mask_at s n) (z.each n l) v)

  -- low then high is the whole write; high then low, periodic, sets the period only
  pub comparator-narrow-low-first : (v : ℕ) → in_halves s half.Low (0x108 + 0x20 * n) v ≡ written_of s (0x108 + 0x20 * n) v
  comparator-narrow-low-first v = by-timer s half.Low v n l ∙ ap (with_timer s n) (narrow-low-first (at s n) v w) ∙ sym (comparator-write n l s v)

  pub comparator-narrow-high-first :
      Formed s → (at s n).periodic ≡ 1 → (v : ℕ) → in_halves s half.High (0x108 + 0x20 * n) v ≡ with_timer s n (with_set (with_period (at s n) (v % 2 ^ 32)) 0)
  comparator-narrow-high-first z e v = by-timer s half.High v n l ∙ ap (with_timer s n) (narrow-high-first (at s n) v w (mask_at s n) (z.each n l) (ap flag e))

-- ---- one half of a comparator

module _ (s : Timers) (z : Formed s) (h : Half) (v n : ℕ) (l : n < 3) where
  pub half-compared-at : at (half_written s h (0x108 + 0x20 * n) v) n ≡ half_compared_of (at s n) h v
  half-compared-at = ap (λ (x : Timers). at x n) (half-compares s h v n l) ∙ at_same s n (half_compared_of (at s n) h v) l

  -- "Bit 6 clears at the first half"; the other bits of the configuration stay
  pub half-unsets :
      register_of (half_written s h (0x108 + 0x20 * n) v) (0x100 + 0x20 * n) + register_of s (0x100 + 0x20 * n) / 2 ^ 6 % 2 * 2 ^ 6 ≡ register_of s (0x100 + 0x20 * n)
  half-unsets =
      ap₂ (λ (x y : ℕ). x + y / 2 ^ 6 % 2 * 2 ^ 6) (configuration-read n l (half_written s h (0x108 + 0x20 * n) v) ∙ ap₂ configuration_of (kept-mask (half-written-kept s h (0x108 + 0x20 * n) v) n) half-compared-at) (configuration-read n l s)
      ∙ set-configuration (mask_at s n) (at s n) (z.each n l) _ _
      ∙ sym (configuration-read n l s)

  -- one-shot: that half of the comparator
  pub half-one-shot : (at s n).periodic ≡ 0 → half_written s h (0x108 + 0x20 * n) v ≡ written_of s (0x108 + 0x20 * n) (replaced h (register_of s (0x108 + 0x20 * n)) v)
  half-one-shot e =
      half-compares s h v n l
      ∙ ap (with_timer s n) (half-once (at s n) h v (ap flag e))
      ∙ sym (comparator-write n l s _)
      ∙ ap (λ (c : ℕ). written_of s (0x108 + 0x20 * n) (replaced h c v)) (sym (comparator-read n l s))

-- ---- neither of the two moves a wire

module _ (s : Timers) (p : ℕ) where
  pub counter-drives : (x : ℕ) → drives_of (written_of s 0x0F0 x) p ≡ drives_of s p
  counter-drives x = ap (λ (r : Timers). drives_of r p) (write-counter s 0x0F0 x refl) ∙ go (is_enabled s)
    where
      go : (b : Bool) → drives_of (cond b s (with_counter s x)) p ≡ drives_of s p
      go true = refl
      go false = drives-alike s (with_counter s x) p refl (λ j g. refl)

  module _ (n : ℕ) (l : n < 3) where
    set-drives : (c q : ℕ) → drives_of (with_timer s n (set_of (at s n) c q)) p ≡ drives_of s p
    set-drives c q = drives-alike s (with_timer s n (set_of (at s n) c q)) p refl (λ j g. ap (λ (t : Timer). driving t p) (at_with s n (set_of (at s n) c q) j g) ∙ go (eqb j n) j refl)
      where
        go : (b : Bool) (j : ℕ) → eqb j n ≡ b → driving (cond b (set_of (at s n) c q) (at s j)) p ≡ driving (at s j) p
        go true j e = set-driving (at s n) c q p ∙ ap (λ (k : ℕ). driving (at s k) p) (sym (eqb-true j n e))
        go false j e = refl

    pub comparator-drives : (x : ℕ) → drives_of (written_of s (0x108 + 0x20 * n) x) p ≡ drives_of s p
    comparator-drives x = ap (λ (r : Timers). drives_of r p) (comparator-write n l s x) ∙ set-drives x x

    pub half-comparator-drives : (h : Half) (x : ℕ) → drives_of (half_written s h (0x108 + 0x20 * n) x) p ≡ drives_of s p
    half-comparator-drives h x = ap (λ (r : Timers). drives_of r p) (half-compares s h x n l) ∙ set-drives _ _
