-- "One tick" on the board, literally, and many.
use Rattle.std.specs.Prelude.{ℕ, zero, suc, ◌+◌, Bool, cond, ◌&&◌, List, set}
use Rattle.controller.specs.declared.Controller.{Controller}
use Rattle.controller.specs.Steps.{rewired}
use Rattle.timers.specs.declared.Timers.{Timers}
use Rattle.timers.specs.State.{is_enabled}
use Rattle.timers.specs.Tick.{counted_of, matches_of, fired_of, pulses_of, route_of}
use Rattle.board.specs.declared.Board.{Board}
use Rattle.board.specs.State.{board}
use Rattle.board.specs.Wires.{wires_of}

-- the wire of pin p is raised from these levels and dropped again, two steps, with edges after each
abbrev pub pulsed_at : Controller → List ℕ → ℕ → Controller
pulsed_at c levels p = rewired (rewired c (set levels p 1)) levels

-- what the firing of timer m, after which the timers are s', does to the pins: an edge timer with its interrupt enabled
-- makes a pulse; otherwise its status may have moved a wire, one step
unfoldable pub effect : List ℕ → Timers → ℕ → Timers → Controller → Controller
effect o s m s' c = cond (pulses_of s m) (pulsed_at c (wires_of o s') (route_of s m)) (rewired c (wires_of o s'))

abbrev pub fire : ℕ → Board → Board
fire m b = board (effect b.outside b.timers m (fired_of b.timers m) b.controller) (fired_of b.timers m) b.outside

-- timer m's turn: it fires if counter and comparator are equal
unfoldable pub turned : ℕ → Board → Board
turned m b = cond (matches_of b.timers m) (fire m b) b

-- the counter goes up by one, then the timers below m have their turns, 0 first
unfoldable pub up_to : ℕ → Board → Board
up_to zero b = board b.controller (counted_of b.timers) b.outside
up_to (suc m) b = turned m (up_to m b)

-- one tick. Disabled: nothing happens
unfoldable pub tick : Board → Board
tick b = cond (is_enabled b.timers) (up_to 3 b) b

-- timer m fires in the tick: it matches when its turn comes
unfoldable pub fires_in : ℕ → Board → Bool
fires_in m b = is_enabled b.timers && matches_of (up_to m b).timers m

unfoldable pub ticks : ℕ → Board → Board
ticks zero b = b
ticks (suc n) b = tick (ticks n b)

-- how often timer m fires in n ticks: a firing is counted in every case
unfoldable pub firings : ℕ → ℕ → Board → ℕ
firings m zero b = 0
firings m (suc n) b = firings m n b + cond (fires_in m (ticks n b)) 1 0
