-- A configuration that is written in halves: everything writable stands in its low half, and what it reads, written back, changes nothing.
use Rattle.std.proofs.Common.{◌≡◌, ℕ, ◌/◌, ◌%◌, ◌^◌, ◌<◌, Bool, true, false, cond, sym, refl, ap, ◌∙◌, ap₂, mod-eq_of_lt, arith, eq-eqb, eqb-true}
use native.Mathlib.Decide.{ℕ_discrete}
use Rattle.timer.specs.declared.Timer.{Timer}
use Rattle.timer.specs.declared.Half.TheVariants as half
use Rattle.timer.specs.State.{flag, reduced}
use Rattle.timer.specs.Mask.{in_mask}
use Rattle.timer.specs.Formed.{Formed}
use Rattle.timer.specs.Halves.{half_of, replaced}
use Rattle.timer.specs.Registers.{bit, configuration_of, configured_of}
use Rattle.timer.proofs.ReadBack.{Reads, configuration-reads}

-- two numbers with the same writable bits
record Alike (x y : ℕ) : Type 0 where
  level : bit 1 x ≡ bit 1 y
  interrupt : bit 2 x ≡ bit 2 y
  periodic : bit 3 x ≡ bit 3 y
  set : bit 6 x ≡ bit 6 y
  narrow : bit 8 x ≡ bit 8 y
  route : x / 2 ^ 9 % 2 ^ 5 ≡ y / 2 ^ 9 % 2 ^ 5

-- are written alike
configured-alike : (mask : ℕ) (t : Timer) (x y : ℕ) → Alike x y → configured_of mask t x ≡ configured_of mask t y
unfolding configured_of
configured-alike mask t x y a =
    λ i.
    record {
      comparator = reduced (flag (a.narrow i)) t.comparator;
      period = reduced (flag (a.narrow i)) t.period;
      route = cond (in_mask mask (a.route i)) (a.route i) t.route;
      level_type = a.level i;
      interrupt = a.interrupt i;
      periodic = a.periodic i;
      set_comparator = cond (flag (a.periodic i)) (a.set i) 0;
      narrow = a.narrow i;
      status = cond (flag (a.level i)) t.status 0;
    }

-- the low half has them all
low_alike : (x v w : ℕ) → v ≡ half_of half.Low w → Alike (replaced half.Low x v) w
low_alike x v w e = record { level = omega arith; interrupt = omega arith; periodic = omega arith; set = omega arith; narrow = omega arith; route = omega arith }

high-alike : (x v : ℕ) → Alike (replaced half.High x v) x
high-alike x v = record { level = omega arith; interrupt = omega arith; periodic = omega arith; set = omega arith; narrow = omega arith; route = omega arith }

-- what fits in 32 bits is not reduced
fitting : (f x : ℕ) → (f ≡ 1 → x < 2 ^ 32) → reduced (flag f) x ≡ x
fitting f x h = go (flag f) refl
  where
    go : (b : Bool) → flag f ≡ b → reduced b x ≡ x
    go true e = mod-eq_of_lt {n = x} {m = 2 ^ 32} (h (eqb-true f 1 e))
    go false e = refl

-- what is 0 but where a flag is set
pub only-where : (f x : ℕ) → ((x ≡ 0 → ⊥) → f ≡ 1) → cond (flag f) x 0 ≡ x
only-where f x h = go (ℕ_discrete x 0)
  where
    none : (b : Bool) → x ≡ 0 → cond b x 0 ≡ x
    none true e = refl
    none false e = sym e

    go : Dec (x ≡ 0) → cond (flag f) x 0 ≡ x
    go (yes e) = none (flag f) e
    go (no n) = rw (eq-eqb f 1 (h n))

-- a low half is the whole write, whatever stands above it
pub configured-low : (mask : ℕ) (t : Timer) (x v w : ℕ) → v ≡ half_of half.Low w → configured_of mask t (replaced half.Low x v) ≡ configured_of mask t w
configured-low mask t x v w e = configured-alike mask t (replaced half.Low x v) w (low_alike x v w e)

module _ (mask : ℕ) (t : Timer) (z : Formed mask t) where
  -- what the register reads, written back
  configured-same : configured_of mask t (configuration_of mask t) ≡ t
  unfolding configured_of
  configured-same =
      λ i.
      record {
        comparator = (ap (λ (x : ℕ). reduced (flag x) t.comparator) r.narrow ∙ fitting t.narrow t.comparator z.comparator-fits) i;
        period = (ap (λ (x : ℕ). reduced (flag x) t.period) r.narrow ∙ fitting t.narrow t.period z.period-fits) i;
        route = (ap (λ (x : ℕ). cond (in_mask mask x) x t.route) r.route ∙ in-range) i;
        level_type = r.level i;
        interrupt = r.interrupt i;
        periodic = r.periodic i;
        set_comparator = (ap₂ (λ (x y : ℕ). cond (flag x) y 0) r.periodic r.set ∙ only-where t.periodic t.set_comparator z.set-periodic) i;
        narrow = r.narrow i;
        status = (ap (λ (x : ℕ). cond (flag x) t.status 0) r.level ∙ only-where t.level_type t.status z.status-level) i;
      }
    where
      r : Reads (configuration_of mask t) t
      r = configuration-reads mask t z

      in-range : cond (in_mask mask t.route) t.route t.route ≡ t.route
      in-range = rw z.route-in

  -- a high half changes nothing, bit 6 and the status included
  pub configured-high : (v : ℕ) → configured_of mask t (replaced half.High (configuration_of mask t) v) ≡ t
  configured-high v = configured-alike mask t (replaced half.High (configuration_of mask t) v) (configuration_of mask t) (high-alike (configuration_of mask t) v) ∙ configured-same
