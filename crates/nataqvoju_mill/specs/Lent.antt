-- The mill after a call on a lent mill, and the numbers that come back.
use Rattle.std.specs.Prelude.{◌≡◌}
use Rattle.answers.specs.declared.Numbers.{Numbers}
use Rattle.answers.specs.Numbers.{numbers_of}
use Rattle.mill.specs.declared.Mill.{Mill}
use Rattle.mill.specs.declared.MillTurn.{MillTurn}

-- the lent mill is left as the turn's, and the numbers are those of its answer
abbrev pub Gives : MillTurn → Mill → Numbers → Type 0
Gives t after numbers = (after ≡ t.mill) × (numbers ≡ numbers_of t.answer)
