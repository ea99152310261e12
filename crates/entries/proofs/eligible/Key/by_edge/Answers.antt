use native.Mathlib.Omega.{arith}
use lib.Bits.{and_le_r}
use Rattle.entries.proofs.Keys.{edge-eligible}
use Rattle.entries.proofs.eligible.Key.by_edge.Goals as goal

pub overflow_add-result : goal.overflow_add-result
overflow_add-result c = omega (arith, and_le_r c.args.self.0 0xc380)

pub returns : goal.returns
returns c = edge-eligible c.args.self.0 (omega arith) c.args.held
