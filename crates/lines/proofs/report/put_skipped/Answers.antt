use native.Mathlib.Omega.{arith}
use Rattle.lines.specs.Line.{skipped_line}
use Rattle.lines.proofs.report.put_skipped.Goals as goal

pub returns : goal.returns
unfolding skipped_line
returns c =
    record {
      put = c.put_placed.ensures.put;
      upper_bound = omega (arith, c.put_placed.ensures.upper_bound);
    }
