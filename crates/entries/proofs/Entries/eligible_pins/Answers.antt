use mathlib.Core.Path.{ap₂, ◌∙◌}
use Prim.Native.Nat.{ℕ, ◌*◌, ◌^◌, ◌%◌}
use lib.Bits.{bit_or}
use lib.Dec.{lit≤}
use Rattle.entries.proofs.Keys.{keys-bits, two-sixteens}
use Rattle.entries.proofs.Entries.eligible_pins.Goals as goal

pub returns : goal.returns
returns c =
    let k = c.keys-keys in
    ap₂ (λ (x y : ℕ). bit_or x (y * 2 ^ 8 % 2 ^ 32))
    (c.sixteen_from-first.ensures ∙ keys-bits c.args.self k.result k.ensures 0 16 (lit≤ tt))
    (c.sixteen_from-last.ensures ∙ keys-bits c.args.self k.result k.ensures 8 16 (lit≤ tt))
    ∙ two-sixteens c.args.self
