-- A board's call as numbers: its kind in a log, and four numbers, of which those that the kind does not name don't
-- count.
use Rattle.std.specs.Prelude.{ℕ, ◌%◌, ◌^◌, cond, eqb}
use Rattle.answers.specs.declared.Refusal.TheVariants as refusal
use Rattle.board.specs.declared.Board.{Board}
use Rattle.board.specs.declared.Call.TheVariants as call
use Rattle.board.specs.declared.Turn.{Turn}
use Rattle.board.specs.Formed.{well_formed}
use Rattle.board.specs.State.{refused}
use Rattle.board.specs.Step.{plain_reset, turn_of}

-- refusal 5 is tested first; an unknown kind is 7
abbrev pub unknown_of : Board → Turn
unknown_of b = cond (well_formed b) (refused b refusal.Kind) (refused b refusal.State)

-- a vector has eight bits and ticks 32: of a wider number the lower bits count
unfoldable pub called_of : Board → ℕ → ℕ → ℕ → ℕ → ℕ → Turn
called_of b kind p q r s =
    cond (eqb kind 1) (turn_of b (call.Read p q r))
    (cond (eqb kind 2) (turn_of b (call.Write p q r s))
    (cond (eqb kind 3) (turn_of b (call.Wire p q))
    (cond (eqb kind 4) (turn_of b (call.End (p % 2 ^ 8)))
    (cond (eqb kind 5) (turn_of b (call.Advance (p % 2 ^ 32)))
    (cond (eqb kind 6) (turn_of b call.Deliver)
    (cond (eqb kind 7) (turn_of b plain_reset)
    (unknown_of b)))))))
