-- "Well formed", the board's part: both parts well formed, outside wire levels 0 or 1, each pin level kept is the one
-- the wire rule gives.
use Rattle.std.specs.Prelude.{ℕ, Bool, ◌&&◌, eqb}
use mir.Val.{bool_byte}
use Rattle.pins.specs.Pins.{every}
use Rattle.entries.specs.Table.{level_at, levels_ok}
use Rattle.controller.specs.State.{well_formed as controller_formed}
use Rattle.timers.specs.Formed.{well_formed as timers_formed}
use Rattle.board.specs.declared.Board.{Board}
use Rattle.board.specs.Wires.{high_at}

abbrev pub kept_at : Board → ℕ → Bool
kept_at b p = eqb (level_at b.controller.entries p) (bool_byte (high_at b.outside b.timers p))

unfoldable pub well_formed : Board → Bool
well_formed b = controller_formed b.controller && (timers_formed b.timers && (levels_ok b.outside && every (kept_at b)))
