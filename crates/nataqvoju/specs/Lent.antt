-- The board after a call on a lent board, and the numbers that come back.
use Rattle.std.specs.Prelude.{◌≡◌}
use Rattle.answers.specs.declared.Numbers.{Numbers}
use Rattle.answers.specs.Numbers.{numbers_of}
use Rattle.board.specs.declared.Board.{Board}
use Rattle.board.specs.declared.Turn.{Turn}

-- the lent board is left as the turn's, and the numbers are those of its answer
abbrev pub Gives : Turn → Board → Numbers → Type 0
Gives t after numbers = (after ≡ t.board) × (numbers ≡ numbers_of t.answer)
