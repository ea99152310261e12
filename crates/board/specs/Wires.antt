-- The wires (document 01, "One tick"): "A pin's wire is high if its outside wire is, or if some timer routed there has
-- level type, interrupt enable and status, with the block enabled, or during a pulse."
use Rattle.std.specs.Prelude.{ℕ, Bool, ◌||◌, List, eqb, get_or}
use mir.Val.{bool_byte}
use Rattle.pins.specs.Pins.{pins}
use Rattle.controller.specs.declared.Controller.{Controller}
use Rattle.controller.specs.Steps.{rewired}
use Rattle.timers.specs.declared.Timers.{Timers}
use Rattle.timers.specs.Tick.{drives_of}
use Rattle.board.specs.declared.Board.{Board}
use Rattle.board.specs.State.{board}

unfoldable pub high_at : List ℕ → Timers → ℕ → Bool
high_at o s p = eqb (get_or o p 0) 1 || drives_of s p

-- the level of every pin's wire, outside a pulse
unfoldable pub wires_of : List ℕ → Timers → List ℕ
wires_of o s = pins (λ p. bool_byte (high_at o s p))

-- a step: whatever it did to the timers or the outside wires, the wires before and after are compared once, and edges
-- are held
unfoldable pub joined : Controller → Timers → List ℕ → Board
joined c s o = board (rewired c (wires_of o s)) s o
