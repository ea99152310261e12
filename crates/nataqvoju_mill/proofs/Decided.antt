-- The promise of the entry decides its result: any two that it allows, mill and numbers, are equal.
use mathlib.Core.Path.{◌≡◌, sym, ◌∙◌}
use Rattle.answers.specs.declared.Numbers.{Numbers}
use Rattle.mill.specs.declared.Mill.{Mill}
use Rattle.mill.specs.declared.MillTurn.{MillTurn}
use Rattle.nataqvoju_mill.specs.Lent.{Gives}

pub decided : (t : MillTurn) (after after' : Mill) (numbers numbers' : Numbers) → Gives t after numbers → Gives t after' numbers' → (after ≡ after') × (numbers ≡ numbers')
decided t after after' numbers numbers' g g' = (g.0 ∙ sym g'.0, g.1 ∙ sym g'.1)
