-- What each call does to a mill, and answers. Refusal 5 is tested first, by every call but a reset; a telling then
-- tests 3 for a pause pin above 23, then 14 if its entry isn't an edge entry.
use Rattle.std.specs.Prelude.{ℕ, Bool, cond, not, ◌&&◌, ◌||◌, List, ltb, eqb}
use Rattle.answers.specs.declared.Answer.{Answer}
use Rattle.answers.specs.declared.Answer.TheVariants as answer
use Rattle.answers.specs.declared.Refusal.{Refusal}
use Rattle.answers.specs.declared.Refusal.TheVariants as refusal
use Rattle.board.specs.declared.Board.{Board}
use Rattle.board.specs.declared.Call.{Call}
use Rattle.board.specs.declared.Turn.{Turn}
use Rattle.answers.specs.Numbers.{is_done}
use Rattle.settings.specs.declared.Settings.{Settings}
use Rattle.settings.specs.Settings.{standard}
use Rattle.board.specs.State.{reset_to as board_reset}
use Rattle.board.specs.Step.{formed}
use Rattle.board.specs.Step.{turn_of as board_turn}
use Rattle.board.specs.Events.{Event, holds, is_edge, is_reset, event_of}
use Rattle.mill.specs.declared.Screen.{Screen}
use Rattle.mill.specs.declared.Mill.{Mill}
use Rattle.mill.specs.declared.MillCall.{MillCall}
use Rattle.mill.specs.declared.MillCall.TheVariants as millcall
use Rattle.mill.specs.declared.MillTurn.{MillTurn}
use Rattle.mill.specs.Screen.{paused, blank, looked_of, shown_after, fits}

abbrev pub mill : Board → Screen → Mill
mill b s = record { board = b; screen = s }

abbrev pub reset_to : Settings → Mill
reset_to z = mill (board_reset z) blank

-- without settings: as in document 01
abbrev pub reset_mill : Mill
reset_mill = reset_to standard

-- the edges that a board holds, pin by pin
abbrev pub held_of : Board → List ℕ
held_of b = b.controller.entries.held

unfoldable pub well_formed : Mill → Bool
well_formed m = formed m.board && fits m.screen (held_of m.board)

-- the next mill and the answer; a refusal gives the mill that came in
abbrev pub turn : Mill → Answer → MillTurn
turn m a = record { mill = m; answer = a }

abbrev pub refused : Mill → Refusal → MillTurn
refused m r = turn m (answer.Refused r)

-- the board's turn as the mill's: its answer, and the screen after what it did
abbrev pub by_event : Screen → Turn → Event → MillTurn
by_event s t e = turn (mill t.board (shown_after s (held_of t.board) e)) t.answer

abbrev pub by_board : Screen → Call → Turn → MillTurn
by_board s c t = by_event s t (event_of c t.answer)

-- a look at a pin: whether it holds an edge decides between asked and running
abbrev pub looked_at : Mill → ℕ → Mill
looked_at m p = mill m.board (looked_of p (holds m.board p))

-- "Refusals: 3 for a pause pin above 23, then 14 if its entry isn't an edge entry at the telling"
unfoldable pub telling_of : Mill → ℕ → MillTurn
telling_of m p =
    cond (ltb p 24)
    (cond (is_edge m.board p) (turn (looked_at m p) answer.Done) (refused m refusal.NotEdge))
    (refused m refusal.Pin)

-- a resume takes effect in paused alone
abbrev pub is_paused : Mill → Bool
is_paused m = eqb m.screen.word paused

unfoldable pub resuming_of : Mill → MillTurn
resuming_of m = turn (cond (is_paused m) (looked_at m m.screen.pin) m) answer.Done

-- a reset that is refused, which may come to any mill, hands that mill back
abbrev pub rejected : Mill → Call → Turn → MillTurn → MillTurn
rejected m c t done = cond (is_reset c && not (is_done t.answer)) (turn m t.answer) done

-- what a call does to a mill that it takes
unfoldable pub served_of : Mill → MillCall → MillTurn
served_of m (millcall.Board c) = let t = board_turn m.board c in rejected m c t (by_board m.screen c t)
served_of m (millcall.Tell pin) = telling_of m pin
served_of m millcall.Resume = resuming_of m

-- a reset takes any state; for every other call refusal 5 is tested first
abbrev pub takes : Mill → MillCall → Bool
takes m (millcall.Board c) = is_reset c || well_formed m
takes m (millcall.Tell pin) = well_formed m
takes m millcall.Resume = well_formed m

-- the promise of every call
unfoldable pub turn_of : Mill → MillCall → MillTurn
turn_of m c = cond (takes m c) (served_of m c) (refused m refusal.State)
