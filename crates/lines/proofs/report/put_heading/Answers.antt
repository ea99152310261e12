use native.Mathlib.Omega.{arith}
use Rattle.lines.proofs.report.put_heading.Goals as goal

pub returns : goal.returns
returns c =
    record { put = c.put_bytes.ensures; upper_bound = omega (arith, c.put_bytes.ensures.next) }
