use Rattle.std.proofs.Common.{◌^◌, ◌<◌, arith, lit<}
use Rattle.timer.proofs.Bits.{placed-is, configuration-code}
use Rattle.timer.proofs.Timer.configuration.Goals as goal

pub returns : goal.returns
returns c = let k : c.args.self.route < 2 ^ 16 = omega arith in
    let m : c.args.mask < 2 ^ 32 = omega arith in
    rw (c.from.ensures, c.from-2.ensures)
    (configuration-code c.args.mask c.args.self c.placed-4.result c.placed-5.result c.placed.result c.placed-2.result c.placed-3.result m k
    (placed-is 8 c.args.self.narrow (lit< tt) c.placed-4.ensures) (placed-is 6 c.args.self.set_comparator (lit< tt) c.placed-5.ensures) (placed-is 3 c.args.self.periodic (lit< tt) c.placed.ensures) (placed-is 2 c.args.self.interrupt (lit< tt) c.placed-2.ensures) (placed-is 1 c.args.self.level_type (lit< tt) c.placed-3.ensures))
