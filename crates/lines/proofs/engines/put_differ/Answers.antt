use native.Mathlib.Omega.{arith}
use Rattle.lines.specs.Line.{differ_line}
use Rattle.lines.proofs.engines.put_differ.Goals as goal

pub returns : goal.returns
unfolding differ_line
returns c =
    record {
      put = c.put_placed.ensures.put;
      upper_bound = omega (arith, c.put_placed.ensures.upper_bound);
    }
