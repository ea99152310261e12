-- "Well formed", the timers' part.
use Rattle.std.specs.Prelude.{◌≡◌, ℕ, ◌<◌, ◌≤◌, Bool, true, ◌&&◌, nat_le}
use Rattle.settings.specs.Settings.{vendor_ok, period_ok}
use Rattle.timer.specs.Formed.{timer_formed, Formed as FormedTimer}
use Rattle.timers.specs.declared.Timers.{Timers}
use Rattle.timers.specs.State.{at, mask_at}

-- the vendor and the tick period are in range
unfoldable pub settings_fit : ℕ → ℕ → Bool
settings_fit vendor period = vendor_ok vendor && period_ok period

-- the enable bit is 0 or 1, the settings are in range, and each timer is well formed with its mask
unfoldable pub well_formed : Timers → Bool
well_formed s =
    nat_le s.enabled 1
    && (settings_fit s.vendor s.tick_period && (timer_formed (mask_at s 0) (at s 0) && (timer_formed (mask_at s 1) (at s 1) && timer_formed (mask_at s 2) (at s 2))))

-- the same as facts by name
pub record Formed (s : Timers) : Type 0 where
  pub enabled-bit : s.enabled ≤ 1
  pub settings-fit : settings_fit s.vendor s.tick_period ≡ true
  pub each : (m : ℕ) → m < 3 → FormedTimer (mask_at s m) (at s m)
