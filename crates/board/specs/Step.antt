-- What each call does to a board, and answers. Refusal 5 is tested first; an access then tests 1 for an unknown window,
-- and the window's own tests: 2, 1 for the offset, 4. A wire change tests 3, then 4.
use Rattle.std.specs.Prelude.{ℕ, Bool, true, cond, leb, ltb, eqb, set}
use Rattle.answers.specs.declared.Answer.TheVariants as answer
use Rattle.answers.specs.declared.Refusal.TheVariants as refusal
use Rattle.controller.specs.Window.{reading_of as controller_reading, writing_of as controller_writing}
use Rattle.controller.specs.Steps.{after_end, delivering_of}
use Rattle.controller.specs.declared.Turn.{Turn as ControllerTurn}
use Rattle.timers.specs.declared.Turn.{Turn as TimersTurn}
use Rattle.timers.specs.Call.{reading_of as timers_reading, writing_of as timers_writing}
use Rattle.board.specs.declared.Board.{Board}
use Rattle.board.specs.declared.Call.{Call}
use Rattle.board.specs.declared.Call.TheVariants as call
use Rattle.board.specs.declared.Turn.{Turn}
use Rattle.settings.specs.declared.Settings.{Settings}
use Rattle.settings.specs.Settings.{standard, in_range}
use Rattle.board.specs.State.{with_controller, turn, refused, reset_to}
use Rattle.board.specs.State.{reset_board as reset}
use Rattle.board.specs.Wires.{joined}
use Rattle.board.specs.Tick.{ticks, firings}
use Rattle.board.specs.Formed.{well_formed}

-- the parts' turns as the board's: the controller's calls move no wire; a timer register write is one step
abbrev pub by_controller : Board → ControllerTurn → Turn
by_controller b t = turn (with_controller b t.controller) t.answer

abbrev pub by_timers : Board → TimersTurn → Turn
by_timers b t = turn (joined b.controller t.timers b.outside) t.answer

-- window 0 is the controller, 1 the timers
abbrev pub in_window : Board → ℕ → Turn → Turn → Turn
in_window b window controller timers = cond (eqb window 0) controller (cond (eqb window 1) timers (refused b refusal.Window))

unfoldable pub reading_of : Board → ℕ → ℕ → ℕ → Turn
reading_of b window width offset =
    in_window b window
    (by_controller b (controller_reading b.controller width offset))
    (turn b (timers_reading b.timers width offset).answer)

unfoldable pub writing_of : Board → ℕ → ℕ → ℕ → ℕ → Turn
writing_of b window width offset value =
    in_window b window
    (by_controller b (controller_writing b.controller width offset value))
    (by_timers b (timers_writing b.timers width offset value))

-- the outside wire of a pin changes
unfoldable pub wiring_of : Board → ℕ → ℕ → Turn
wiring_of b pin level =
    cond (ltb pin 24)
    (cond (leb level 1)
    (turn (joined b.controller b.timers (set b.outside pin level)) answer.Done)
    (refused b refusal.Level))
    (refused b refusal.Pin)

unfoldable pub ending_of : Board → ℕ → Turn
ending_of b vector = turn (with_controller b (after_end b.controller vector)) answer.Done

-- the n-fold single tick, with each timer's true number of firings
unfoldable pub advancing_of : Board → ℕ → Turn
advancing_of b n = turn (ticks n b) (answer.Fired (firings 0 n b) (firings 1 n b) (firings 2 n b))

unfoldable pub delivering_on_board : Board → Turn
delivering_on_board b = by_controller b (delivering_of b.controller)

-- a reset tests 10: settings out of range; refused, it hands the board back
unfoldable pub resetting_of : Board → Settings → Turn
resetting_of b z = cond (in_range z) (turn (reset_to z) answer.Done) (refused b refusal.Range)

-- what a call does to a board that it takes
unfoldable pub served_of : Board → Call → Turn
served_of b (call.Read window width offset) = reading_of b window width offset
served_of b (call.Write window width offset value) = writing_of b window width offset value
served_of b (call.Wire pin level) = wiring_of b pin level
served_of b (call.End vector) = ending_of b vector
served_of b (call.Advance n) = advancing_of b n
served_of b call.Deliver = delivering_on_board b
served_of b (call.Reset z) = resetting_of b z

-- a reset takes any state, and never tests 5; for every other call refusal 5 is tested first
abbrev pub takes : Board → Call → Bool
takes b (call.Read window width offset) = well_formed b
takes b (call.Write window width offset value) = well_formed b
takes b (call.Wire pin level) = well_formed b
takes b (call.End vector) = well_formed b
takes b (call.Advance n) = well_formed b
takes b call.Deliver = well_formed b
takes b (call.Reset z) = true

-- the promise of every call
unfoldable pub turn_of : Board → Call → Turn
turn_of b c = cond (takes b c) (served_of b c) (refused b refusal.State)

-- for the rooms above
abbrev pub formed : Board → Bool
formed = well_formed

abbrev pub reset_board : Board
reset_board = reset

-- a reset without settings is as in document 01
abbrev pub plain_reset : Call
plain_reset = call.Reset standard
