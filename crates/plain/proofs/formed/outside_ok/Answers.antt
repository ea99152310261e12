use Rattle.std.proofs.Common.{◌≡◌, get_or, sym, refl, ap, ◌∙◌, arith, le-leb}
use borrow.Author.Tests.{lt-leb}
use Rattle.pins.proofs.Bools.{and_both, clash, not-true-false}
use Rattle.pins.proofs.Every.{every-at}
use Rattle.pins.proofs.Scan.{all_more}
use Rattle.pins.specs.Pins.{all_from, every}
use Rattle.entries.specs.Table.{levels_ok}
use Rattle.plain.proofs.formed.outside_ok.Invariants.{low}
use Rattle.plain.proofs.formed.outside_ok.Goals as goal

pub loop-i-init : goal.loop-i-init
unfolding all_from
loop-i-init c = refl

pub returns-then-outside-i-gt1 : goal.returns-then-outside-i-gt1
unfolding levels_ok
returns-then-outside-i-gt1 c =
    let p = low c.args.outside in
    let bad = lt-leb _ 1 c.if-outside-i-gt1.true in
    sym (not-true-false (every p) (λ e. clash (sym (every-at p e c.loop-i.i (omega arith)) ∙ bad)))

pub loop-i-preserved : goal.loop-i-preserved
loop-i-preserved c =
    sym (all_more _ c.loop-i.i) ∙ and_both c.loop-i.invariant (le-leb (get_or c.args.outside c.loop-i.i 0) 1 (omega (arith, c.if-outside-i-gt1.false)))

pub returns : goal.returns
unfolding levels_ok
returns c =
    let full : 24 ≡ c.loop-i.i = omega arith in
    sym (ap (all_from (low c.args.outside) 0) full ∙ c.loop-i.invariant)
