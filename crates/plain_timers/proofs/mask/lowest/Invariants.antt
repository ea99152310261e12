use Rattle.std.proofs.Common.{◌≡◌, ◌-◌}
use Rattle.pins.specs.Pins.{first_from, first}
use Rattle.timer.specs.Mask.{in_mask}
use Rattle.plain_timers.proofs.mask.lowest.Given as goal

abbrev pub invariant-loop-pin : goal.invariant-loop-pin
invariant-loop-pin l = first (in_mask l.mask) ≡ first_from (in_mask l.mask) l.pin (24 - l.pin)
