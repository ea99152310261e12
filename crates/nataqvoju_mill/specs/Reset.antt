-- "Settings for each mill": a reset of a lent mill by a lent settings record.
use Rattle.std.specs.Prelude.{ℕ, cond, List}
use Rattle.answers.specs.Numbers.{is_done}
use Rattle.settings.specs.declared.Reading.{Reading}
use Rattle.settings.specs.Record.{read_of}
use Rattle.board.specs.declared.Call.TheVariants as call
use Rattle.mill.specs.declared.Mill.{Mill}
use Rattle.mill.specs.declared.MillCall.TheVariants as millcall
use Rattle.mill.specs.declared.MillTurn.{MillTurn}
use Rattle.mill.specs.Mill.{turn, turn_of}

-- what the reader gave: its refusal leaves the mill, else the mill is reset with the settings that it read
abbrev pub reset_with : Mill → Reading → MillTurn
reset_with m r = cond (is_done r.answer) (turn_of m (millcall.Board (call.Reset r.settings))) (turn m r.answer)

-- the refusals are the reader's, 8, 6, 9, 10 in this order; then the reset's, 10
unfoldable pub reset_by : Mill → List ℕ → MillTurn
reset_by m s = reset_with m (read_of s)
