use lib.ListN.{length-append}
use native.Mathlib.Omega.{arith}
use Rattle.lines.specs.Number.{decimal}
use Rattle.lines.proofs.Puts.{on}
use Rattle.lines.proofs.Numbers.{decimal_most}
use Rattle.lines.proofs.text.put_decimal_line.Goals as goal

pub put_label-p-requires : goal.put_label-p-requires
put_label-p-requires c =
    omega (arith, c.requires, decimal_most c.args.n)

pub put_byte-requires : goal.put_byte-requires
put_byte-requires c =
    omega (arith, c.requires, c.put_label-p.ensures.next, c.put_label-p.auto.out, length-append c.args.s.now (decimal c.args.n), decimal_most c.args.n)

pub returns : goal.returns
returns c =
    let long = length-append c.args.s.now (decimal c.args.n) in
    let few = decimal_most c.args.n in record {
      put = on c.put_label-p.ensures c.put_byte.ensures (omega (arith, c.requires, c.put_label-p.ensures.next, long, few));
      upper_bound = omega (arith, c.put_byte.ensures.next, c.put_label-p.ensures.next, long, few);
    }
