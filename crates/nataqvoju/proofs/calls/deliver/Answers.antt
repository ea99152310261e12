use Rattle.nataqvoju.proofs.Served.{turn-gives}
use Rattle.nataqvoju.proofs.calls.deliver.Goals as goal

pub returns : goal.returns
returns c = turn-gives _ _ _ _ c.deliver_in_place.ensures c.from.ensures
