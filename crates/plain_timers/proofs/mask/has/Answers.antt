use Rattle.std.proofs.Common.{◌≡◌, ℕ, ◌/◌, ◌%◌, ◌^◌, eqb, ap, ◌∙◌, arith, shr-shr}
use Rattle.timer.specs.Mask.{in_mask}
use Rattle.plain_timers.proofs.mask.has.Goals as goal

pub loop-i-init : goal.loop-i-init
loop-i-init c = omega arith

pub loop-i-preserved : goal.loop-i-preserved
loop-i-preserved c = ap (λ (x : ℕ). x / 2) c.loop-i.invariant ∙ shr-shr _ c.loop-i._i 1

pub returns : goal.returns
unfolding in_mask
returns c =
    let there : c.loop-i._i ≡ c.args.pin = omega arith in
    ap (λ (x : ℕ). eqb (x % 2) 1) (c.loop-i.invariant ∙ ap (λ (k : ℕ). c.args.mask / 2 ^ k) there)
