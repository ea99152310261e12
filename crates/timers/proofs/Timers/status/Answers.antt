use Rattle.timers.specs.State.{at}
use Rattle.std.proofs.Common.{lit<}
use Rattle.timer.proofs.Bits.{placed-is}
use Rattle.timers.proofs.Access.{status-code}
use Rattle.timers.proofs.Timers.status.Goals as goal

pub returns : goal.returns
returns c =
    status-code c.args.self _ _ _
    (placed-is 2 (at c.args.self 2).status (lit< tt) c.placed.ensures)
    (placed-is 1 (at c.args.self 1).status (lit< tt) c.placed-2.ensures)
    (placed-is 0 (at c.args.self 0).status (lit< tt) c.placed-3.ensures)
