use Rattle.std.proofs.Common.{◌+◌, ◌-◌, ◌%◌, ◌^◌, arith}
use Rattle.timer.proofs.Ran.{distance-ahead}
use Rattle.timer.proofs.Timer.distance.Goals as goal

pub returns : goal.returns
returns c =
    let a = c.args in
    distance-ahead a.self a.counter ((a.self.comparator + (2 ^ 64 - a.counter)) % 2 ^ 64) _ (omega arith) (omega arith) c.reduced.ensures
