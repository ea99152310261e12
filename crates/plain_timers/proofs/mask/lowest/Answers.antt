use Rattle.std.proofs.Common.{◌≡◌, sym, ◌∙◌, arith}
use Rattle.pins.proofs.Scan.{scan-next, scan-here, scan-end}
use Rattle.timer.specs.Mask.{lowest}
use Rattle.plain_timers.proofs.mask.lowest.Goals as goal

pub returns-then-has-clause-lowest : goal.returns-then-has-clause-lowest
unfolding lowest
returns-then-has-clause-lowest c =
    let there = sym c.has.ensures ∙ c.if-has.true in
    sym (c.loop-pin.invariant ∙ scan-here _ 24 c.loop-pin.pin (omega arith) there)

pub loop-pin-preserved : goal.loop-pin-preserved
loop-pin-preserved c =
    let not_there = sym c.has.ensures ∙ c.if-has.false in
    c.loop-pin.invariant ∙ scan-next _ 24 c.loop-pin.pin (omega arith) not_there

pub returns-clause-lowest : goal.returns-clause-lowest
unfolding lowest
returns-clause-lowest c =
    let full : 24 ≡ c.loop-pin.pin = omega arith in
    full ∙ sym (c.loop-pin.invariant ∙ scan-end _ 24 c.loop-pin.pin (omega arith))
