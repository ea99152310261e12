-- "One tick", one timer's part: its match, its firing, and what it does to the wire of its pin.
use Rattle.std.specs.Prelude.{ℕ, ◌+◌, ◌%◌, ◌^◌, Bool, cond, not, ◌&&◌, ◌==◌}
use Rattle.timer.specs.declared.Timer.{Timer}
use Rattle.timer.specs.State.{flag, width, reduced, narrowed, with_status, with_comparator}

-- a timer fires if counter and comparator are equal (in 32-bit mode, modulo 2^32)
unfoldable pub meets : ℕ → Timer → Bool
meets counter t = reduced (narrowed t) counter == reduced (narrowed t) t.comparator

-- a firing level timer sets its status, even with its interrupt disabled;
-- a firing periodic timer's comparator goes up by its period, wrapping at its width
unfoldable pub firing : Timer → Timer
firing t =
    with_status
    (with_comparator t (cond (flag t.periodic) ((t.comparator + t.period) % 2 ^ width (narrowed t)) t.comparator))
    (cond (flag t.level_type) 1 t.status)

-- a firing edge timer with its interrupt enabled raises the wire of its pin and drops it again
unfoldable pub pulsing : Timer → Bool
pulsing t = not (flag t.level_type) && flag t.interrupt

-- it is routed to the pin and has level type, interrupt enable and status
unfoldable pub driving : Timer → ℕ → Bool
driving t pin = flag t.level_type && (flag t.interrupt && (flag t.status && t.route == pin))
