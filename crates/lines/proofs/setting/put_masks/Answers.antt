use native.Mathlib.Omega.{arith}
use Rattle.lines.proofs.Puts.{on}
use Rattle.lines.specs.Listing.{masks_of}
use Rattle.lines.proofs.setting.put_masks.Goals as goal

pub returns : goal.returns
unfolding masks_of
returns c =
    record {
      put = on (on c.put_hex_line-p.ensures.put c.put_hex_line-q.ensures.put (omega (arith, c.requires, c.put_hex_line-p.ensures.upper_bound))) c.put_hex_line.ensures.put (omega (arith, c.requires, c.put_hex_line-q.ensures.upper_bound, c.put_hex_line-p.ensures.upper_bound));
      upper_bound = omega (arith, c.put_hex_line.ensures.upper_bound, c.put_hex_line-q.ensures.upper_bound, c.put_hex_line-p.ensures.upper_bound);
    }
