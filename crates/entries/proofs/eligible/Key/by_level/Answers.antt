use mathlib.Core.Path.{ap, ◌∙◌}
use Prim.Native.Nat.{ℕ, ◌/◌}
use native.Mathlib.Omega.{arith}
use lib.Bits.{bit_and, bit_xor}
use lib.Dec.{ltb}
use Rattle.entries.proofs.Keys.{level-eligible}
use Rattle.entries.proofs.eligible.Key.by_level.Goals as goal

pub returns : goal.returns
returns c =
    let k = c.args.self.0 in
    ap (λ (x : ℕ). ltb (bit_xor (bit_and k 0xe380) 0x4000) (bit_xor x (bit_and (k / 4096) 1))) c.min.ensures
    ∙ level-eligible k (omega arith) c.args.level
