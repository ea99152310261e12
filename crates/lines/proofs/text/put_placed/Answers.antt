use mathlib.Core.Path.{◌≡◌}
use mathlib.Core.List.{◌++◌}
use Prim.Native.Nat.{◌+◌}
use native.Mathlib.Omega.{arith}
use lib.ListN.{length, length-append}
use Rattle.lines.specs.Number.{decimal}
use Rattle.lines.proofs.Puts.{on}
use Rattle.lines.proofs.Numbers.{decimal_most}
use Rattle.lines.proofs.text.put_placed.Goals as goal

pub put_label-p-requires : goal.put_label-p-requires
put_label-p-requires c =
    omega (arith, c.requires, decimal_most c.args.n)

pub put_label-q-requires : goal.put_label-q-requires
put_label-q-requires c =
    let long : length (c.args.s.now ++ decimal c.args.n) ≡ length c.args.s.now + length (decimal c.args.n) = length-append c.args.s.now (decimal c.args.n) in
    omega (arith, c.requires, c.put_label-p.ensures.next, c.put_label-p.auto.out, long, decimal_most c.args.n, decimal_most c.args.place)

pub put_byte-requires : goal.put_byte-requires
put_byte-requires c =
    let long : length (c.args.s.now ++ decimal c.args.n) ≡ length c.args.s.now + length (decimal c.args.n) = length-append c.args.s.now (decimal c.args.n) in
    omega (arith, c.requires, c.put_label-q.ensures.next, c.put_label-q.auto.out, c.put_label-p.ensures.next, c.put_label-p.auto.out, long, decimal_most c.args.n, decimal_most c.args.place)

pub returns : goal.returns
returns c =
    let long : length (c.args.s.now ++ decimal c.args.n) ≡ length c.args.s.now + length (decimal c.args.n) = length-append c.args.s.now (decimal c.args.n) in
    let few = decimal_most c.args.n in
    let low = decimal_most c.args.place in record {
      put = on (on c.put_label-p.ensures c.put_label-q.ensures (omega (arith, c.requires, c.put_label-p.ensures.next, long, few))) c.put_byte.ensures (omega (arith, c.requires, c.put_label-q.ensures.next, c.put_label-p.ensures.next, long, few, low));
      upper_bound = omega (arith, c.put_byte.ensures.next, c.put_label-q.ensures.next, c.put_label-p.ensures.next, long, few, low);
    }
