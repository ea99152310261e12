use mathlib.Core.Path.{sym, ◌∙◌}
use Rattle.pins.proofs.Bools.{and_both}
use Rattle.pins.proofs.Scan.{all_more}
use Rattle.plain_controller.proofs.formed.entries_ok.Goals as goal

pub loop-i-preserved : goal.loop-i-preserved
loop-i-preserved c =
    let fine = sym c.pin_ok.ensures ∙ c.if-not-pin_ok.false in
    sym (all_more _ c.loop-i.i) ∙ and_both c.loop-i.invariant fine
