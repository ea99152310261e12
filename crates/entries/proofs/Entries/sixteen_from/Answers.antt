use mathlib.Core.Path.{◌≡◌, refl, ap, ap₂, ◌∙◌}
use Prim.Native.Nat.{ℕ, ◌*◌, ◌^◌, ◌%◌}
use lib.Bits.{bit_or}
use Rattle.pins.specs.Pins.{bits_from}
use Rattle.pins.proofs.Digits.{bits_put}
use Rattle.entries.specs.Inner.{eligible_by_key}
use native.Mathlib.Omega.{arith}
use Rattle.entries.proofs.Entries.sixteen_from.Goals as goal

pub loop-i-init : goal.loop-i-init
unfolding bits_from
loop-i-init c = refl

pub loop-i-preserved : goal.loop-i-preserved
loop-i-preserved c =
    let p = eligible_by_key c.args.keys c.args.level c.args.held in
    ap₂ (λ (m e : ℕ). bit_or m (e * 2 ^ c.loop-i.i % 2 ^ 16)) c.loop-i.invariant c.eligible.ensures
    ∙ bits_put p c.args.at c.loop-i.i 16 c.loop-i-test.true

pub returns : goal.returns
returns c =
    let full : c.loop-i.i ≡ 16 = omega arith in
    c.loop-i.invariant ∙ ap (bits_from (eligible_by_key c.args.keys c.args.level c.args.held) c.args.at) full
