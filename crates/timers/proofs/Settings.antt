-- A block keeps its settings: no write, no tick changes the tick period, the vendor or a mask.
use Rattle.std.proofs.Common.{◌≡◌, ℕ, zero, suc, ◌+◌, ◌*◌, ◌^◌, ◌<◌, Bool, true, false, cond, ◌&&◌, eqb, List, get_or, refl, ap, ◌∙◌, mod-eq_of_lt}
use Rattle.pins.proofs.Bools.{and_left}
use Rattle.settings.specs.declared.Settings.{Settings}
use Rattle.settings.specs.Settings.{mask_of, vendor_ok, period_ok}
use Rattle.timer.specs.State.{blank, reset_timer}
use Rattle.settings.proofs.Ranges.{vendor-in}
use Rattle.answers.specs.declared.Answer.TheVariants as answer
use Rattle.answers.specs.declared.Refusal.TheVariants as refusal
use Rattle.timer.specs.declared.Half.{Half}
use Rattle.timer.specs.Registers.{bit, configured_of, compared_of, half_compared_of}
use Rattle.timers.specs.declared.Timers.{Timers}
use Rattle.timers.specs.declared.Turn.{Turn}
use Rattle.timers.specs.State.{at, mask_at, is_enabled, with_counter, with_enabled, with_timers, with_timer, reset_to}
use Rattle.timers.specs.Registers.{aligned, inside, fits, is_configuration, is_comparator, of_timer, numbered, capabilities_of, cleared_by, timer_written, written_of}
use Rattle.timers.specs.Registers.{half_at, whole_at, filled, half_written, stored_of}
use Rattle.timers.specs.Formed.{settings_fit, well_formed}
use Rattle.timers.specs.Tick.{counted_of, fired_of, turned_of, up_to, tick, ticks}
use Rattle.timers.specs.Call.{turn, refused, writing_of}
use Rattle.timers.proofs.Three.{at-three}
use Rattle.timers.proofs.Each.{by_turn}
use Rattle.timers.proofs.Formed.{settings-fit}

pub record Kept (s r : Timers) : Type 0 where
  pub period : r.tick_period ≡ s.tick_period
  pub vendor : r.vendor ≡ s.vendor
  pub masks : r.masks ≡ s.masks

pub kept_same : (s : Timers) → Kept s s
kept_same s = record { period = refl; vendor = refl; masks = refl }

pub kept_on : {s r u : Timers} → Kept s r → Kept r u → Kept s u
kept_on a b = record { period = b.period ∙ a.period; vendor = b.vendor ∙ a.vendor; masks = b.masks ∙ a.masks }

pub kept-mask : {s r : Timers} → Kept s r → (m : ℕ) → mask_at r m ≡ mask_at s m
kept-mask k m = ap (λ (l : List ℕ). get_or l m 0) k.masks

-- ---- what the registers show of them, in a well-formed block

pub capabilities-fit : (s : Timers) → well_formed s ≡ true → capabilities_of s ≡ s.tick_period * 2 ^ 32 + (s.vendor * 2 ^ 16 + 0x2201)
unfolding capabilities_of settings_fit
capabilities-fit s e =
    ap (λ (x : ℕ). s.tick_period * 2 ^ 32 + (x * 2 ^ 16 + 0x2201))
    (mod-eq_of_lt {n = s.vendor} {m = 2 ^ 16} (vendor-in s.vendor (and_left (vendor_ok s.vendor) (period_ok s.tick_period) (settings-fit s e))))

-- ---- a reset has those that it is given

module _ (z : Settings) where
  pub reset-kept : ((reset_to z).tick_period ≡ z.period) × ((reset_to z).vendor ≡ z.vendor)
  unfolding reset_to
  reset-kept = (refl, refl)

  module _ (m : ℕ) (l : m < 3) where
    pub reset-mask : mask_at (reset_to z) m ≡ mask_of z m
    unfolding reset_to
    reset-mask = at-three (mask_of z) 0 m l

    pub reset-timer : at (reset_to z) m ≡ reset_timer (mask_of z m)
    unfolding reset_to
    reset-timer = at-three (λ i. reset_timer (mask_of z i)) blank m l

-- ---- ticks

module _ (s : Timers) where
  counted-kept : Kept s (counted_of s)
  unfolding counted_of
  counted-kept = record { period = refl; vendor = refl; masks = refl }

  fired-kept : (m : ℕ) → Kept s (fired_of s m)
  unfolding fired_of
  fired-kept m = record { period = refl; vendor = refl; masks = refl }

  turned-kept : (m : ℕ) → Kept s (turned_of s m)
  turned-kept m = by_turn s m (λ u. Kept s u) (λ q. fired-kept m) (λ q. kept_same s)

up_kept : (m : ℕ) (s : Timers) → Kept s (up_to m s)
unfolding up_to
up_kept zero s = counted-kept s
up_kept (suc m) s = kept_on (up_kept m s) (turned-kept (up_to m s) m)

tick-kept : (s : Timers) → Kept s (tick s)
unfolding tick
tick-kept s = go (is_enabled s)
  where
    go : (b : Bool) → Kept s (cond b (up_to 3 s) s)
    go true = up_kept 3 s
    go false = kept_same s

pub ticks-kept : (n : ℕ) (s : Timers) → Kept s (ticks n s)
unfolding ticks
ticks-kept zero s = kept_same s
ticks-kept (suc n) s = kept_on (ticks-kept n s) (tick-kept (ticks n s))

-- ---- writes

module _ (s : Timers) where
  timer-written-kept : (o v : ℕ) → Kept s (timer_written s o v)
  unfolding timer_written
  timer-written-kept o v = go (is_configuration o) (is_comparator o)
    where
      n : ℕ
      n = numbered o

      go : (a b : Bool) → Kept s (cond a (with_timer s n (configured_of (mask_at s n) (at s n) v)) (cond b (with_timer s n (compared_of (at s n) v)) s))
      go true b = record { period = refl; vendor = refl; masks = refl }
      go false true = record { period = refl; vendor = refl; masks = refl }
      go false false = kept_same s

  pub written-kept : (o v : ℕ) → Kept s (written_of s o v)
  unfolding written_of
  written-kept o v = go (eqb o 0x010) (eqb o 0x020) (eqb o 0x0F0) (is_enabled s) (of_timer o)
    where
      go :
          (a b c d e : Bool) →
          Kept s
          (cond a (with_enabled s (bit 0 v))
          (cond b (with_timers s (cleared_by v s))
          (cond c (cond d s (with_counter s v))
          (cond e (timer_written s o v) s))))
      go true b c d e = record { period = refl; vendor = refl; masks = refl }
      go false true c d e = record { period = refl; vendor = refl; masks = refl }
      go false false true true e = kept_same s
      go false false true false e = record { period = refl; vendor = refl; masks = refl }
      go false false false d true = timer-written-kept o v
      go false false false d false = kept_same s

  pub half-written-kept : (h : Half) (o v : ℕ) → Kept s (half_written s h o v)
  unfolding half_written
  half-written-kept h o v = go (of_timer o && is_comparator o)
    where
      n : ℕ
      n = numbered o

      go : (b : Bool) → Kept s (cond b (with_timer s n (half_compared_of (at s n) h v)) (written_of s o (filled s h o v)))
      go true = record { period = refl; vendor = refl; masks = refl }
      go false = written-kept o (filled s h o v)

  stored-kept : (w o v : ℕ) → Kept s (stored_of s w o v)
  unfolding stored_of
  stored-kept w o v = go (eqb w 8)
    where
      go : (b : Bool) → Kept s (cond b (written_of s o v) (half_written s (half_at o) (whole_at o) v))
      go true = written-kept o v
      go false = half-written-kept (half_at o) (whole_at o) v

  pub writing-kept : (w o v : ℕ) → Kept s (writing_of s w o v).timers
  unfolding writing_of
  writing-kept w o v = go (aligned w o) (inside o) (fits w v)
    where
      go :
          (a b c : Bool) →
          Kept s
          (cond {A = Turn} a
          (cond b (cond c (turn (stored_of s w o v) answer.Done) (refused s refusal.Value)) (refused s refusal.Offset))
          (refused s refusal.Width)
          ).timers
      go true true true = stored-kept w o v
      go true true false = kept_same s
      go true false c = kept_same s
      go false b c = kept_same s
