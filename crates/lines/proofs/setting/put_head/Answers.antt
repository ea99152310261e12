use native.Mathlib.Omega.{arith}
use Rattle.lines.proofs.Puts.{on}
use Rattle.lines.specs.Listing.{head_of}
use Rattle.lines.proofs.setting.put_head.Goals as goal

pub returns : goal.returns
unfolding head_of
returns c =
    record {
      put = on (on c.put_bytes-p.ensures c.put_hex_line-q.ensures.put (omega (arith, c.requires, c.put_bytes-p.ensures.next))) c.put_decimal_line.ensures.put (omega (arith, c.requires, c.put_hex_line-q.ensures.upper_bound, c.put_bytes-p.ensures.next));
      upper_bound = omega (arith, c.put_decimal_line.ensures.upper_bound, c.put_hex_line-q.ensures.upper_bound, c.put_bytes-p.ensures.next);
    }
