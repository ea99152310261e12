use mathlib.Core.Path.{◌≡◌}
use Rattle.pins.specs.Pins.{bits_from}
use Rattle.entries.specs.Inner.{eligible_by_key}
use Rattle.entries.proofs.Entries.sixteen_from.Given as goal

abbrev pub invariant-loop-i : goal.invariant-loop-i
invariant-loop-i l = l.mask ≡ bits_from (eligible_by_key l.keys l.level l.held) l.at l.i
