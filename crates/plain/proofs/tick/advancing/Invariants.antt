use Rattle.std.proofs.Common.{◌≡◌}
use Rattle.board.specs.Tick.{ticks, firings}
use Rattle.plain.proofs.tick.advancing.Given as goal

abbrev pub invariant-loop-i : goal.invariant-loop-i
invariant-loop-i l = (l.next ≡ ticks l._i l.initial.next) × (l.fired0 ≡ firings 0 l._i l.initial.next) × (l.fired1 ≡ firings 1 l._i l.initial.next) × (l.fired2 ≡ firings 2 l._i l.initial.next)
