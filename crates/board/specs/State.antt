-- The board: the controller, the timer block, the outside wires; and what a call gives.
use Rattle.std.specs.Prelude.{ℕ, List, replicate}
use Rattle.answers.specs.declared.Answer.{Answer}
use Rattle.answers.specs.declared.Answer.TheVariants as answer
use Rattle.answers.specs.declared.Refusal.{Refusal}
use Rattle.controller.specs.declared.Controller.{Controller}
use Rattle.controller.specs.State.{with_entries}
use Rattle.controller.specs.State.{reset_to as controller_reset}
use Rattle.entries.specs.Table.{with_low, with_level, with_held}
use Rattle.timers.specs.declared.Timers.{Timers}
use Rattle.timers.specs.State.{reset_to as timers_reset}
use Rattle.settings.specs.declared.Settings.{Settings}
use Rattle.settings.specs.Settings.{standard}
use Rattle.board.specs.declared.Board.{Board}
use Rattle.board.specs.declared.Turn.{Turn}

abbrev pub board : Controller → Timers → List ℕ → Board
board c s o = record { timers = s; controller = c; outside = o }

abbrev pub with_controller : Board → Controller → Board
with_controller b c = board c b.timers b.outside

-- the board with other low words and held edges
abbrev pub with_entry : Board → List ℕ → List ℕ → Board
with_entry b w h = with_controller b (with_entries b.controller (with_held (with_low b.controller.entries w) h))

-- the board with other pin levels, held edges and outside levels
abbrev pub with_wires : Board → List ℕ → List ℕ → List ℕ → Board
with_wires b l h o = board (with_entries b.controller (with_level (with_held b.controller.entries h) l)) b.timers o

-- reset with settings: the controller's, the timers', outside wires low
abbrev pub reset_to : Settings → Board
reset_to z = board (controller_reset z.id) (timers_reset z) (replicate 24 0)

-- without: as in document 01
abbrev pub reset_board : Board
reset_board = reset_to standard

-- the next board and the answer
abbrev pub turn : Board → Answer → Turn
turn b a = record { board = b; answer = a }

-- a refusal gives the board that came in
abbrev pub refused : Board → Refusal → Turn
refused b r = turn b (answer.Refused r)
