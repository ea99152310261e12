use native.Mathlib.Omega.{arith}
use Rattle.lines.proofs.Puts.{on}
use Rattle.lines.proofs.Numbers.{length_digits}
use Rattle.lines.proofs.text.put_hex_line.Goals as goal

pub put_byte-requires : goal.put_byte-requires
put_byte-requires c =
    omega (arith, c.requires, c.put_hex-q.ensures.next, c.put_hex-q.auto.out, c.put_bytes-p.ensures.next, c.put_bytes-p.auto.out, length_digits 16 c.args.k c.args.n)

pub returns : goal.returns
returns c =
    let few = length_digits 16 c.args.k c.args.n in record {
      put = on (on c.put_bytes-p.ensures c.put_hex-q.ensures (omega (arith, c.requires, c.put_bytes-p.ensures.next))) c.put_byte.ensures (omega (arith, c.requires, c.put_hex-q.ensures.next, c.put_bytes-p.ensures.next, few));
      upper_bound = omega (arith, c.put_byte.ensures.next, c.put_hex-q.ensures.next, c.put_bytes-p.ensures.next, few);
    }
