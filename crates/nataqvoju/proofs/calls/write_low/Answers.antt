use Rattle.nataqvoju.proofs.Served.{turn-gives}
use Rattle.nataqvoju.proofs.calls.write_low.Goals as goal

pub returns : goal.returns
returns c = λ b. turn-gives _ _ _ _ (c.write_in_place.ensures b) c.from.ensures
