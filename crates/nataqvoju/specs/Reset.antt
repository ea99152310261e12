-- "Settings for each mill": a reset of a lent board by a lent settings record.
use Rattle.std.specs.Prelude.{ℕ, cond, List}
use Rattle.answers.specs.Numbers.{is_done}
use Rattle.settings.specs.declared.Reading.{Reading}
use Rattle.settings.specs.Record.{read_of}
use Rattle.board.specs.declared.Board.{Board}
use Rattle.board.specs.declared.Call.TheVariants as call
use Rattle.board.specs.declared.Turn.{Turn}
use Rattle.board.specs.State.{turn}
use Rattle.board.specs.Step.{turn_of}

-- what the reader gave: its refusal leaves the board, else the board is reset with the settings that it read
abbrev pub reset_with : Board → Reading → Turn
reset_with b r = cond (is_done r.answer) (turn_of b (call.Reset r.settings)) (turn b r.answer)

-- the refusals are the reader's, 8, 6, 9, 10 in this order; then the reset's, 10
unfoldable pub reset_by : Board → List ℕ → Turn
reset_by b s = reset_with b (read_of s)
