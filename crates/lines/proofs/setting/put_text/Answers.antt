use native.Mathlib.Omega.{arith}
use Rattle.lines.proofs.Puts.{on}
use Rattle.lines.specs.Listing.{text_of}
use Rattle.lines.proofs.setting.put_text.Goals as goal

pub returns : goal.returns
unfolding text_of
returns c =
    record {
      put = on (on c.put_head-p.ensures.put c.put_masks-q.ensures.put (omega (arith, c.requires, c.put_head-p.ensures.upper_bound))) c.put_decimal_line.ensures.put (omega (arith, c.requires, c.put_masks-q.ensures.upper_bound, c.put_head-p.ensures.upper_bound));
      upper_bound = omega (arith, c.put_decimal_line.ensures.upper_bound, c.put_masks-q.ensures.upper_bound, c.put_head-p.ensures.upper_bound);
    }
