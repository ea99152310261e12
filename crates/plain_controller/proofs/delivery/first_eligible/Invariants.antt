use mathlib.Core.Path.{◌≡◌}
use Prim.Native.Nat.{◌-◌}
use Rattle.pins.specs.Pins.{first_from, first}
use Rattle.entries.specs.Table.{eligible_at}
use Rattle.plain_controller.proofs.delivery.first_eligible.Given as goal

abbrev pub invariant-loop-i : goal.invariant-loop-i
invariant-loop-i l = first (eligible_at l.e) ≡ first_from (eligible_at l.e) l.i (24 - l.i)
