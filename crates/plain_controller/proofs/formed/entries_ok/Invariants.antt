use mathlib.Core.Path.{◌≡◌}
use mathlib.Core.Bool.{true}
use Rattle.pins.specs.Pins.{all_from}
use Rattle.entries.specs.Table.{pin_ok_at}
use Rattle.plain_controller.proofs.formed.entries_ok.Given as goal

abbrev pub invariant-loop-i : goal.invariant-loop-i
invariant-loop-i l = all_from (pin_ok_at l.e) 0 l.i ≡ true
