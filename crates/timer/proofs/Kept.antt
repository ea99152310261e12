-- What keeps a timer well formed: a firing, and each write to its registers.
use Rattle.std.proofs.Common.{◌≡◌, ℕ, ◌+◌, ◌/◌, ◌%◌, ◌^◌, ◌<◌, ◌≤◌, Bool, true, false, cond, refl, zero-le, mod-lt, arith, lit≤, pow_pos, lt-ltb, eqb-true}
use Rattle.settings.specs.Settings.{mask_ok}
use Rattle.timer.specs.declared.Timer.{Timer}
use Rattle.timer.specs.State.{flag, width, reduced, narrowed, with_comparator, with_period, with_set, reset_timer}
use Rattle.timer.specs.Mask.{in_mask, lowest}
use Rattle.timer.specs.Formed.{timer_formed, flags_fit, narrow_fits, Formed}
use Rattle.timer.specs.Registers.{bit, configured_of, set_of, cleared_of}
use Rattle.timer.specs.Tick.{firing}
use Rattle.timer.proofs.Masks.{in-pins, lowest-in}
use Rattle.timer.proofs.Formed.{formed-in, formed-out}

bit_le : (k v : ℕ) → bit k v ≤ 1
bit_le k v = omega arith

-- in 32-bit mode a reduced number is below 2^32
reduced-lt : (f x : ℕ) → f ≡ 1 → reduced (flag f) x < 2 ^ 32
reduced-lt f x e = rw e (mod-lt x (pow_pos 32))

choose-lt : (b : Bool) (x y m : ℕ) → x < m → y < m → cond b x y < m
choose-lt true x y m h k = h
choose-lt false x y m h k = k

choose-le : (b : Bool) (x y m : ℕ) → x ≤ m → y ≤ m → cond b x y ≤ m
choose-le true x y m h k = h
choose-le false x y m h k = k

-- a choice that is not 0 where the other is 0 was taken
taken : (f x : ℕ) → (cond (flag f) x 0 ≡ 0 → ⊥) → f ≡ 1
taken f x n = go (flag f) refl n
  where
    go : (b : Bool) → flag f ≡ b → (cond b x 0 ≡ 0 → ⊥) → f ≡ 1
    go true e n = eqb-true f 1 e
    go false e n = absurd (n refl)

module _ (mask : ℕ) (t : Timer) (z : Formed mask t) where
  firing-facts : Formed mask (firing t)
  unfolding firing
  firing-facts =
      record {
        set-periodic = z.set-periodic;
        comparator-fits = λ n. choose-lt (flag t.periodic) ((t.comparator + t.period) % 2 ^ width (narrowed t)) t.comparator (2 ^ 32) (rw n (mod-lt (t.comparator + t.period) (pow_pos 32))) (z.comparator-fits n);
        period-fits = z.period-fits;
        route-pin = z.route-pin;
        mask-ok = z.mask-ok;
        route-in = z.route-in;
        status-level = λ n. go (flag t.level_type) refl n;
        level-bit = z.level-bit;
        interrupt-bit = z.interrupt-bit;
        periodic-bit = z.periodic-bit;
        set-bit = z.set-bit;
        narrow-bit = z.narrow-bit;
        status-bit = choose-le (flag t.level_type) 1 t.status 1 (lit≤ tt) z.status-bit;
      }
    where
      go : (b : Bool) → flag t.level_type ≡ b → (cond b 1 t.status ≡ 0 → ⊥) → t.level_type ≡ 1
      go true e n = eqb-true t.level_type 1 e
      go false e n = z.status-level n

  configured-facts : (v : ℕ) → Formed mask (configured_of mask t v)
  unfolding configured_of
  configured-facts v =
      record {
        set-periodic = taken (bit 3 v) (bit 6 v);
        comparator-fits = reduced-lt (bit 8 v) t.comparator;
        period-fits = reduced-lt (bit 8 v) t.period;
        route-pin = in-pins mask (cond (in_mask mask (v / 2 ^ 9 % 2 ^ 5)) (v / 2 ^ 9 % 2 ^ 5) t.route) z.mask-ok in-mask;
        mask-ok = z.mask-ok;
        route-in = in-mask;
        status-level = taken (bit 1 v) t.status;
        level-bit = bit_le 1 v;
        interrupt-bit = bit_le 2 v;
        periodic-bit = bit_le 3 v;
        set-bit = choose-le (flag (bit 3 v)) (bit 6 v) 0 1 (bit_le 6 v) zero-le;
        narrow-bit = bit_le 8 v;
        status-bit = choose-le (flag (bit 1 v)) t.status 0 1 z.status-bit zero-le;
      }
    where
      go : (b : Bool) → in_mask mask (v / 2 ^ 9 % 2 ^ 5) ≡ b → in_mask mask (cond b (v / 2 ^ 9 % 2 ^ 5) t.route) ≡ true
      go true e = e
      go false e = z.route-in

      in-mask : in_mask mask (cond (in_mask mask (v / 2 ^ 9 % 2 ^ 5)) (v / 2 ^ 9 % 2 ^ 5) t.route) ≡ true
      in-mask = go (in_mask mask (v / 2 ^ 9 % 2 ^ 5)) refl

  set-facts : (c p : ℕ) → Formed mask (set_of t c p)
  unfolding set_of
  set-facts c p = go (flag t.periodic)
    where
      x : ℕ
      x = reduced (narrowed t) c

      y : ℕ
      y = reduced (narrowed t) p

      x_lt : t.narrow ≡ 1 → x < 2 ^ 32
      x_lt = reduced-lt t.narrow c

      periodic : Timer
      periodic = with_set (with_period (with_comparator t (cond (flag t.set_comparator) x t.comparator)) y) 0

      go : (b : Bool) → Formed mask (cond b periodic (with_comparator t x))
      go true =
          record {
            set-periodic = λ n. absurd (n refl);
            comparator-fits = λ n. choose-lt (flag t.set_comparator) x t.comparator (2 ^ 32) (x_lt n) (z.comparator-fits n);
            period-fits = reduced-lt t.narrow p;
            route-pin = z.route-pin;
            mask-ok = z.mask-ok;
            route-in = z.route-in;
            status-level = z.status-level;
            level-bit = z.level-bit;
            interrupt-bit = z.interrupt-bit;
            periodic-bit = z.periodic-bit;
            set-bit = zero-le;
            narrow-bit = z.narrow-bit;
            status-bit = z.status-bit;
          }
      go false =
          record {
            set-periodic = z.set-periodic;
            comparator-fits = x_lt;
            period-fits = z.period-fits;
            route-pin = z.route-pin;
            mask-ok = z.mask-ok;
            route-in = z.route-in;
            status-level = z.status-level;
            level-bit = z.level-bit;
            interrupt-bit = z.interrupt-bit;
            periodic-bit = z.periodic-bit;
            set-bit = z.set-bit;
            narrow-bit = z.narrow-bit;
            status-bit = z.status-bit;
          }

  cleared-facts : Formed mask (cleared_of t)
  unfolding cleared_of
  cleared-facts =
      record {
        set-periodic = z.set-periodic;
        comparator-fits = z.comparator-fits;
        period-fits = z.period-fits;
        route-pin = z.route-pin;
        mask-ok = z.mask-ok;
        route-in = z.route-in;
        status-level = λ n. absurd (n refl);
        level-bit = z.level-bit;
        interrupt-bit = z.interrupt-bit;
        periodic-bit = z.periodic-bit;
        set-bit = z.set-bit;
        narrow-bit = z.narrow-bit;
        status-bit = zero-le;
      }

-- ---- the same of the test

module _ (mask : ℕ) (t : Timer) (e : timer_formed mask t ≡ true) where
  pub firing-formed : timer_formed mask (firing t) ≡ true
  firing-formed = formed-out mask (firing t) (firing-facts mask t (formed-in mask t e))

  pub configured-formed : (v : ℕ) → timer_formed mask (configured_of mask t v) ≡ true
  configured-formed v = formed-out mask (configured_of mask t v) (configured-facts mask t (formed-in mask t e) v)

  pub set-formed : (c p : ℕ) → timer_formed mask (set_of t c p) ≡ true
  set-formed c p = formed-out mask (set_of t c p) (set-facts mask t (formed-in mask t e) c p)

  pub cleared-formed : timer_formed mask (cleared_of t) ≡ true
  cleared-formed = formed-out mask (cleared_of t) (cleared-facts mask t (formed-in mask t e))

pub reset-formed : (mask : ℕ) → mask_ok mask ≡ true → timer_formed mask (reset_timer mask) ≡ true
unfolding timer_formed flags_fit narrow_fits reset_timer
reset-formed mask e =
    let h = lowest-in mask e in
    rw (lt-ltb (lowest mask) 24 (in-pins mask (lowest mask) e h), e, h)
