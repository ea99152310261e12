use Rattle.std.proofs.Common.{sym, ◌∙◌}
use Rattle.timers.proofs.Advance.{advance-refused, advance-done, advancing-ran}
use Rattle.timers.proofs.Timers.advance.Goals as goal

pub returns-then-not-well_formed : goal.returns-then-not-well_formed
returns-then-not-well_formed c = c.refused.ensures ∙ sym (advance-refused _ _ (sym c.well_formed-2.ensures ∙ c.if-not-well_formed.true))

pub returns : goal.returns
returns c = let s = c.args in
    advancing-ran s.self s.ticks _ c.ran-r.ensures
    ∙ sym (advance-done s.self s.ticks (sym c.well_formed-2.ensures ∙ c.if-not-well_formed.false))
