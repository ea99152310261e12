-- The promise of the entry decides its result: any two that it allows, board and numbers, are equal.
use mathlib.Core.Path.{◌≡◌, sym, ◌∙◌}
use Prim.Native.Nat.{ℕ}
use Rattle.answers.specs.declared.Answer.TheVariants as answer
use Rattle.answers.specs.declared.Numbers.{Numbers}
use Rattle.board.specs.declared.Board.{Board}
use Rattle.board.specs.declared.Turn.{Turn}
use Rattle.board.specs.State.{turn, reset_board}
use Rattle.board.proofs.Served.{reset-plain}
use Rattle.nataqvoju_plain.specs.Kinds.{called_of}
use Rattle.nataqvoju_plain.specs.Lent.{Gives}

pub decided : (t : Turn) (after after' : Board) (numbers numbers' : Numbers) → Gives t after numbers → Gives t after' numbers' → (after ≡ after') × (numbers ≡ numbers')
decided t after after' numbers numbers' g g' = (g.0 ∙ sym g'.0, g.1 ∙ sym g'.1)

-- kind 7 is document 01's reset, on a board that had other settings too
pub kind-7 : (b : Board) (p q r s : ℕ) → called_of b 7 p q r s ≡ turn reset_board answer.Done
unfolding called_of
kind-7 b p q r s = reset-plain b
