-- "Well formed", one timer's part.
use Rattle.std.specs.Prelude.{◌≡◌, ℕ, ◌^◌, ◌<◌, ◌≤◌, Bool, true, ◌&&◌, ◌||◌, ◌==◌, ◌≢◌, nat_le, nat_lt}
use Rattle.settings.specs.Settings.{mask_ok}
use Rattle.timer.specs.declared.Timer.{Timer}
use Rattle.timer.specs.Mask.{in_mask}

-- its flags are 0 or 1
unfoldable pub flags_fit : Timer → Bool
flags_fit t =
    nat_le t.level_type 1
    && (nat_le t.interrupt 1 && (nat_le t.periodic 1 && (nat_le t.set_comparator 1 && (nat_le t.narrow 1 && nat_le t.status 1))))

-- its comparator and period are below 2^32 in 32-bit mode
unfoldable pub narrow_fits : Timer → Bool
narrow_fits t = t.narrow == 0 || (nat_lt t.comparator (2 ^ 32) && nat_lt t.period (2 ^ 32))

-- its set-comparator bit is 0 unless it is periodic, comparator and period fit, its route is at most 23, its mask is in range and has the route, its
-- status is 0 if it is edge type
unfoldable pub timer_formed : ℕ → Timer → Bool
timer_formed mask t =
    (t.set_comparator == 0 || t.periodic == 1)
    && (narrow_fits t && (nat_lt t.route 24 && ((mask_ok mask && in_mask mask t.route) && ((t.status == 0 || t.level_type == 1) && flags_fit t))))

-- the same as facts by name
pub record Formed (mask : ℕ) (t : Timer) : Type 0 where
  pub set-periodic : (t.set_comparator ≢ 0) → t.periodic ≡ 1
  pub comparator-fits : t.narrow ≡ 1 → t.comparator < 2 ^ 32
  pub period-fits : t.narrow ≡ 1 → t.period < 2 ^ 32
  pub route-pin : t.route < 24
  pub mask-ok : mask_ok mask ≡ true
  pub route-in : in_mask mask t.route ≡ true
  pub status-level : (t.status ≢ 0) → t.level_type ≡ 1
  pub level-bit : t.level_type ≤ 1
  pub interrupt-bit : t.interrupt ≤ 1
  pub periodic-bit : t.periodic ≤ 1
  pub set-bit : t.set_comparator ≤ 1
  pub narrow-bit : t.narrow ≤ 1
  pub status-bit : t.status ≤ 1
