use Rattle.std.proofs.Common.{◌^◌, ◌<◌, arith}
use Rattle.timers.proofs.Access.{capabilities-code}
use Rattle.timers.proofs.Timers.capabilities.Goals as goal

pub returns : goal.returns
returns c =
    let p : c.args.self.tick_period < 2 ^ 32 = omega arith in
    rw (c.from.ensures, c.from-2.ensures) (capabilities-code c.args.self p)
