use native.Mathlib.Omega.{arith}
use Rattle.lines.proofs.Puts.{put_then}
use Rattle.lines.proofs.text.put_label.Goals as goal

pub put_decimal-requires : goal.put_decimal-requires
put_decimal-requires c = omega (arith, c.requires, c.put_bytes-p.ensures.next, c.put_bytes-p.auto.out)

pub returns : goal.returns
returns c = put_then c.put_bytes-p.ensures c.put_decimal.ensures (omega (arith, c.requires))
