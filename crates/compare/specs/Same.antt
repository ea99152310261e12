-- Two turns are the same where their answers are and each field of their boards is. `proofs/Equal.antt` has that this
-- is equality.
use Rattle.std.specs.Prelude.{ℕ, Bool, ◌&&◌, List, eqb, get_or}
use Rattle.pins.specs.Pins.{every}
use Rattle.answers.specs.declared.Answer.{Answer}
use Rattle.entries.specs.declared.Entries.{Entries}
use Rattle.controller.specs.declared.Controller.{Controller}
use Rattle.timer.specs.declared.Timer.{Timer}
use Rattle.timers.specs.declared.Timers.{Timers}
use Rattle.timers.specs.State.{at, mask_at}
use Rattle.board.specs.declared.Board.{Board}
use Rattle.board.specs.declared.Turn.{Turn}
use Rattle.compare.specs.Code.{Code, code_of}

-- ---- answers

abbrev pub same_code : Code → Code → Bool
same_code x y = eqb x.kind y.kind && (eqb x.a y.a && (eqb x.b y.b && (eqb x.c y.c && eqb x.d y.d)))

unfoldable pub same_answer : Answer → Answer → Bool
same_answer x y = same_code (code_of x) (code_of y)

-- ---- boards

-- a number for each pin
abbrev pub same_at : List ℕ → List ℕ → ℕ → Bool
same_at x y i = eqb (get_or x i 0) (get_or y i 0)

unfoldable pub same_pins : List ℕ → List ℕ → Bool
same_pins x y = every (same_at x y)

unfoldable pub same_timer : Timer → Timer → Bool
same_timer x y =
    eqb x.comparator y.comparator
    && (eqb x.period y.period
    && (eqb x.route y.route
    && (eqb x.level_type y.level_type
    && (eqb x.interrupt y.interrupt
    && (eqb x.periodic y.periodic
    && (eqb x.set_comparator y.set_comparator && (eqb x.narrow y.narrow && eqb x.status y.status)))))))

-- the settings that a block keeps
unfoldable pub same_settings : Timers → Timers → Bool
same_settings x y =
    eqb x.tick_period y.tick_period
    && (eqb x.vendor y.vendor
    && (eqb (mask_at x 0) (mask_at y 0) && (eqb (mask_at x 1) (mask_at y 1) && eqb (mask_at x 2) (mask_at y 2))))

unfoldable pub same_timers : Timers → Timers → Bool
same_timers x y =
    eqb x.counter y.counter
    && (same_settings x y && (eqb x.enabled y.enabled && (same_timer (at x 0) (at y 0) && (same_timer (at x 1) (at y 1) && same_timer (at x 2) (at y 2)))))

unfoldable pub same_entries : Entries → Entries → Bool
same_entries x y =
    same_pins x.low y.low
    && (same_pins x.destination y.destination && (same_pins x.level y.level && same_pins x.held y.held))

unfoldable pub same_controller : Controller → Controller → Bool
same_controller x y = eqb x.id y.id && (eqb x.index y.index && same_entries x.entries y.entries)

unfoldable pub same_board : Board → Board → Bool
same_board x y = same_timers x.timers y.timers && (same_controller x.controller y.controller && same_pins x.outside y.outside)

-- ---- both

unfoldable pub same_turn : Turn → Turn → Bool
same_turn x y = same_answer x.answer y.answer && same_board x.board y.board
