use mathlib.Core.Path.{◌≡◌, sym, ◌∙◌}
use native.Mathlib.Omega.{arith}
use Rattle.pins.proofs.Scan.{scan-next, scan-here, scan-end}
use Rattle.entries.specs.Table.{first_eligible}
use Rattle.plain_controller.proofs.delivery.first_eligible.Goals as goal

pub returns-then-eligible-clause-lowest : goal.returns-then-eligible-clause-lowest
unfolding first_eligible
returns-then-eligible-clause-lowest c =
    let waits = sym c.eligible.ensures ∙ c.if-eligible.true in
    sym (c.loop-i.invariant ∙ scan-here _ 24 c.loop-i.i (omega arith) waits)

pub loop-i-preserved : goal.loop-i-preserved
loop-i-preserved c =
    let rests = sym c.eligible.ensures ∙ c.if-eligible.false in
    c.loop-i.invariant ∙ scan-next _ 24 c.loop-i.i (omega arith) rests

pub returns-clause-lowest : goal.returns-clause-lowest
unfolding first_eligible
returns-clause-lowest c =
    let full : 24 ≡ c.loop-i.i = omega arith in
    full ∙ sym (c.loop-i.invariant ∙ scan-end _ 24 c.loop-i.i (omega arith))
