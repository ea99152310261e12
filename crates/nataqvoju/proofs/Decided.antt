-- The promise of every entry decides its result: any two that it allows, board and numbers, are equal.
use mathlib.Core.Path.{◌≡◌, sym, ◌∙◌}
use Rattle.answers.specs.declared.Numbers.{Numbers}
use Rattle.board.specs.declared.Board.{Board}
use Rattle.board.specs.declared.Turn.{Turn}
use Rattle.nataqvoju.specs.Lent.{Gives}

pub decided : (t : Turn) (after after' : Board) (numbers numbers' : Numbers) → Gives t after numbers → Gives t after' numbers' → (after ≡ after') × (numbers ≡ numbers')
decided t after after' numbers numbers' g g' = (g.0 ∙ sym g'.0, g.1 ∙ sym g'.1)
