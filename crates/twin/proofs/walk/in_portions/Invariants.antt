use mathlib.Core.Path.{◌≡◌}
use Prim.Native.Nat.{◌-◌, ◌≤◌}
use Rattle.board.specs.Tick.{ticks as ticks_of, firings}
use Rattle.twin.proofs.walk.in_portions.Given as goal

abbrev pub invariant-loop-done : goal.invariant-loop-done
invariant-loop-done l = (l.done ≤ l.ticks) × (l.board ≡ ticks_of l.done l.initial.board) × (l.fired0 ≡ firings 0 l.done l.initial.board) × (l.fired1 ≡ firings 1 l.done l.initial.board) × (l.fired2 ≡ firings 2 l.done l.initial.board)

abbrev pub decreases-loop-done : goal.decreases-loop-done
decreases-loop-done l = l.ticks - l.done
