-- A comparator that is written in halves: which write of the whole it is.
use Rattle.std.proofs.Common.{◌≡◌, ℕ, ◌%◌, ◌^◌, ◌<◌, Bool, true, false, cond, sym, refl, ap, ◌∙◌, ap₂, mod-eq_of_lt, arith}
use Rattle.timer.specs.declared.Timer.{Timer}
use Rattle.timer.specs.declared.Half.{Half}
use Rattle.timer.specs.declared.Half.TheVariants as half
use Rattle.timer.specs.State.{flag, reduced, narrowed, with_comparator, with_period, with_set}
use Rattle.timer.specs.Formed.{Formed}
use Rattle.timer.specs.Halves.{half_of, replaced}
use Rattle.timer.specs.Registers.{set_of, compared_of, half_compared_of}
use Rattle.timer.proofs.Written.{sets-periodic, sets-once}
use Rattle.timer.proofs.Halves.{other, replaced-both}
use Rattle.timer.proofs.Rewritten.{only-where}

-- ---- at both widths: in 32-bit mode numbers are reduced modulo 2^32

reduced-both : (b : Bool) (h : Half) (x v : ℕ) → reduced b (replaced (other h) (reduced b (replaced h x (half_of h v))) (half_of (other h) v)) ≡ reduced b v
reduced-both false h x v = replaced-both h x v
reduced-both true half.Low x v = omega arith
reduced-both true half.High x v = omega arith

-- "A high half in 32-bit mode stores 0": the low half is kept
reduced-high : (x v : ℕ) → reduced true (replaced half.High x v) ≡ x % 2 ^ 32
reduced-high x v = omega arith

reduced-low : (x v : ℕ) → v < 2 ^ 32 → reduced true (replaced half.Low x v) ≡ v
reduced-low x v l = omega arith

-- what a write to a comparator register leaves, by the timer's mode
module _ (t : Timer) (c p : ℕ) where
  abbrev periodic_set : Timer
  periodic_set = with_set (with_period (with_comparator t (cond (flag t.set_comparator) (reduced (narrowed t) c) t.comparator)) (reduced (narrowed t) p)) 0

  abbrev once_set : Timer
  once_set = with_comparator t (reduced (narrowed t) c)

  periodic-set : flag t.periodic ≡ true → set_of t c p ≡ periodic_set
  periodic-set e = sym (sets-periodic t c p _ _ _ e refl refl refl)

  once-set : flag t.periodic ≡ false → set_of t c p ≡ once_set
  once-set e = sym (sets-once t c p _ e refl)

module _ (t : Timer) (h : Half) (v : ℕ) where
  -- one half, and then the other
  abbrev pub in_halves : Timer
  in_halves = half_compared_of (half_compared_of t h (half_of h v)) (other h) (half_of (other h) v)

  -- what the first half makes of the comparator, and of the period
  abbrev first : ℕ
  first = replaced h t.comparator (half_of h v)

  abbrev first_period : ℕ
  first_period = replaced h t.period (half_of h v)

  -- whichever comes first: as if that half of the comparator were written with its other half as it is, and then the whole number. The second
  -- write finds bit 6 cleared
  pub halves_set : in_halves ≡ compared_of (compared_of t first) v
  halves_set = go (flag t.periodic) refl
    where
      second : ℕ → ℕ
      second x = replaced (other h) (reduced (narrowed t) x) (half_of (other h) v)

      go : (b : Bool) → flag t.periodic ≡ b → in_halves ≡ compared_of (compared_of t first) v
      go true e =
          ap (λ (u : Timer). half_compared_of u (other h) (half_of (other h) v)) (periodic-set t first first_period e)
          ∙ periodic-set (periodic_set t first first_period) _ (second first_period) e
          ∙ ap (with_period (periodic_set t first first)) (reduced-both (narrowed t) h t.period v)
          ∙ sym (periodic-set (periodic_set t first first) v v e)
          ∙ sym (ap (λ (u : Timer). compared_of u v) (periodic-set t first first e))
      go false e =
          ap (λ (u : Timer). half_compared_of u (other h) (half_of (other h) v)) (once-set t first first_period e)
          ∙ once-set (once_set t first first_period) (second first) _ e
          ∙ ap (with_comparator t) (reduced-both (narrowed t) h t.comparator v)
          ∙ sym (once-set (once_set t first first) v v e)
          ∙ sym (ap (λ (u : Timer). compared_of u v) (once-set t first first e))

-- ---- one half by itself

module _ (t : Timer) (h : Half) (v : ℕ) where
  -- one-shot: that half of the comparator
  pub half-once : flag t.periodic ≡ false → half_compared_of t h v ≡ compared_of t (replaced h t.comparator v)
  half-once e = once-set t _ _ e ∙ sym (once-set t _ _ e)

-- ---- in 32-bit mode

-- numbers that are the same once reduced are written the same
set-reduced :
    (t : Timer) (c p c' p' : ℕ) → reduced (narrowed t) c ≡ reduced (narrowed t) c' → reduced (narrowed t) p ≡ reduced (narrowed t) p' → set_of t c p ≡ set_of t c' p'
set-reduced t c p c' p' e f = go (flag t.periodic) refl
  where
    go : (b : Bool) → flag t.periodic ≡ b → set_of t c p ≡ set_of t c' p'
    go true q =
        periodic-set t c p q
        ∙ ap₂ (λ (x y : ℕ). with_set (with_period (with_comparator t (cond (flag t.set_comparator) x t.comparator)) y) 0) e f
        ∙ sym (periodic-set t c' p' q)
    go false q = once-set t c p q ∙ ap (with_comparator t) e ∙ sym (once-set t c' p' q)

module _ (t : Timer) (w : t.narrow ≡ 1) where
  -- the low half is the whole number
  pub narrow-low : (v : ℕ) → v < 2 ^ 32 → half_compared_of t half.Low v ≡ compared_of t v
  narrow-low v l = set-reduced t _ _ v v (to t.comparator) (to t.period)
    where
      to : (x : ℕ) → reduced (narrowed t) (replaced half.Low x v) ≡ reduced (narrowed t) v
      to x = rw w (reduced-low x v l ∙ sym (mod-eq_of_lt {n = v} {m = 2 ^ 32} l))

  -- "A high half in 32-bit mode stores 0": the number is as it was, and bit 6 is cleared
  pub narrow_high : (mask : ℕ) → Formed mask t → (v : ℕ) → half_compared_of t half.High v ≡ with_set t 0
  narrow_high mask z v = go (flag t.periodic) refl
    where
      kept : (x : ℕ) → x < 2 ^ 32 → reduced (narrowed t) (replaced half.High x v) ≡ x
      kept x l = rw w (reduced-high x v ∙ mod-eq_of_lt {n = x} {m = 2 ^ 32} l)

      same : (b : Bool) (x y : ℕ) → x ≡ y → cond b x y ≡ y
      same true x y e = e
      same false x y e = refl

      c : reduced (narrowed t) (replaced half.High t.comparator v) ≡ t.comparator
      c = kept t.comparator (z.comparator-fits w)

      unset : flag t.periodic ≡ false → t.set_comparator ≡ 0
      unset e = sym (only-where t.periodic t.set_comparator z.set-periodic) ∙ ap (λ (b : Bool). cond b t.set_comparator 0) e

      go : (b : Bool) → flag t.periodic ≡ b → half_compared_of t half.High v ≡ with_set t 0
      go true e =
          periodic-set t _ _ e
          ∙ ap₂ (λ (x y : ℕ). with_set (with_period (with_comparator t x) y) 0) (same (flag t.set_comparator) _ t.comparator c) (kept t.period (z.period-fits w))
      go false e = once-set t _ _ e ∙ ap₂ (λ (x y : ℕ). with_set (with_comparator t x) y) c (unset e)

-- ---- in halves: where it is the whole write

module _ (t : Timer) (v : ℕ) where
  -- what a write leaves of the comparator, if the timer is periodic
  abbrev kept : ℕ → ℕ
  kept x = cond (flag t.set_comparator) (reduced (narrowed t) x) t.comparator

  -- a first write that leaves the same comparator is as if it had not been
  set-again : (x : ℕ) → kept x ≡ kept v → compared_of (compared_of t x) v ≡ compared_of t v
  set-again x k = go (flag t.periodic) refl
    where
      go : (b : Bool) → flag t.periodic ≡ b → compared_of (compared_of t x) v ≡ compared_of t v
      go true e =
          ap (λ (u : Timer). compared_of u v) (periodic-set t x x e)
          ∙ periodic-set (periodic_set t x x) v v e
          ∙ ap (λ (y : ℕ). with_set (with_period (with_comparator t y) (reduced (narrowed t) v)) 0) k
          ∙ sym (periodic-set t v v e)
      go false e =
          ap (λ (u : Timer). compared_of u v) (once-set t x x e)
          ∙ once-set (once_set t x x) v v e
          ∙ sym (once-set t v v e)

  -- without bit 6
  pub halves-whole-set : (h : Half) → flag t.set_comparator ≡ false → in_halves t h v ≡ compared_of t v
  halves-whole-set h s = halves_set t h v ∙ set-again (first t h v) (rw s)

  -- ---- in 32-bit mode, with bit 6 and without

  module _ (w : t.narrow ≡ 1) where
    low_half : (x : ℕ) → reduced (narrowed t) (replaced half.Low x (half_of half.Low v)) ≡ v % 2 ^ 32
    low_half x = rw w (reduced-low x (half_of half.Low v) (omega arith))

    -- low then high
    pub narrow-low-first : in_halves t half.Low v ≡ compared_of t v
    narrow-low-first =
        halves_set t half.Low v
        ∙ set-again (first t half.Low v) (ap (λ (y : ℕ). cond (flag t.set_comparator) y t.comparator) (low_half t.comparator ∙ sym (rw w refl)))

    -- high then low, periodic: the period only
    pub narrow-high-first : (mask : ℕ) → Formed mask t → flag t.periodic ≡ true → in_halves t half.High v ≡ with_set (with_period t (v % 2 ^ 32)) 0
    narrow-high-first mask z e =
        ap (λ (u : Timer). half_compared_of u half.Low (half_of half.Low v)) (narrow_high t w mask z (half_of half.High v))
        ∙ periodic-set (with_set t 0) _ _ e
        ∙ ap (λ (y : ℕ). with_set (with_period t y) 0) (low_half t.period)
