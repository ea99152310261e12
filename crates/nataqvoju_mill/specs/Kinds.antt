-- A mill's call as numbers: its kind, a log's for a call that a log has, and four numbers, of which those that the kind
-- does not name don't count.
use Rattle.std.specs.Prelude.{ℕ, ◌%◌, ◌^◌, cond, eqb, Result, Ok, Err}
use Rattle.answers.specs.declared.Refusal.{Refusal}
use Rattle.answers.specs.declared.Refusal.TheVariants as refusal
use Rattle.board.specs.declared.Call.{Call}
use Rattle.board.specs.declared.CallNumbers.{CallNumbers}
use Rattle.board.specs.Numbers.{named_by as board_named}
use Rattle.board.specs.declared.Call.TheVariants as call
use Rattle.board.specs.Step.{plain_reset}
use Rattle.mill.specs.declared.Mill.{Mill}
use Rattle.mill.specs.declared.MillCall.{MillCall}
use Rattle.mill.specs.declared.MillCall.TheVariants as millcall
use Rattle.mill.specs.declared.MillTurn.{MillTurn}
use Rattle.mill.specs.Mill.{well_formed, refused, turn_of}

abbrev pub of_board : Result Call Refusal → Result MillCall Refusal
of_board (Ok c) = Ok (millcall.Board c)
of_board (Err e) = Err e

-- the call that the numbers are: the board's, and two more
unfoldable pub named_by : CallNumbers → Result MillCall Refusal
named_by n =
    cond (eqb n.kind 8) (Ok (millcall.Tell n.p))
    (cond (eqb n.kind 9) (Ok millcall.Resume)
    (of_board (board_named n)))

-- refusal 5 is tested first; an unknown kind is 7
abbrev pub unknown_of : Mill → MillTurn
unknown_of m = cond (well_formed m) (refused m refusal.Kind) (refused m refusal.State)

-- a vector has eight bits and ticks 32: of a wider number the lower bits count
unfoldable pub called_of : Mill → ℕ → ℕ → ℕ → ℕ → ℕ → MillTurn
called_of m kind p q r s =
    cond (eqb kind 1) (turn_of m (millcall.Board (call.Read p q r)))
    (cond (eqb kind 2) (turn_of m (millcall.Board (call.Write p q r s)))
    (cond (eqb kind 3) (turn_of m (millcall.Board (call.Wire p q)))
    (cond (eqb kind 4) (turn_of m (millcall.Board (call.End (p % 2 ^ 8))))
    (cond (eqb kind 5) (turn_of m (millcall.Board (call.Advance (p % 2 ^ 32))))
    (cond (eqb kind 6) (turn_of m (millcall.Board call.Deliver))
    (cond (eqb kind 7) (turn_of m (millcall.Board plain_reset))
    (cond (eqb kind 8) (turn_of m (millcall.Tell p))
    (cond (eqb kind 9) (turn_of m millcall.Resume)
    (unknown_of m)))))))))
