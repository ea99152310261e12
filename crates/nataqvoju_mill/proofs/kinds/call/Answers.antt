use Rattle.std.specs.Prelude.{Err}
use mathlib.Core.Path.{◌≡◌, sym, ap, ◌∙◌}
use Rattle.nataqvoju_mill.proofs.Named.{answered, named-answers}
use Rattle.nataqvoju_mill.proofs.kinds.call.Goals as goal

pub returns-in-Ok : goal.returns-in-Ok
returns-in-Ok c =
    c.step.ensures ∙ ap (answered c.args.m) (sym c.in-Ok.is ∙ c.named.ensures) ∙ named-answers c.args.m c.args.numbers

pub returns-then-well_formed : goal.returns-then-well_formed
returns-then-well_formed c =
    let is : c.refused.result ≡ answered c.args.m (Err c.in-Err.refusal) = rw (sym c.well_formed-in-Err.ensures ∙ c.if-well_formed.true) c.refused.ensures in
    is ∙ ap (answered c.args.m) (sym c.in-Err.is ∙ c.named.ensures)
    ∙ named-answers c.args.m c.args.numbers

pub returns-else-well_formed : goal.returns-else-well_formed
returns-else-well_formed c =
    let is : c.refused-else-well_formed.result ≡ answered c.args.m (Err c.in-Err.refusal) = rw (sym c.well_formed-in-Err.ensures ∙ c.if-well_formed.false) c.refused-else-well_formed.ensures in
    is ∙ ap (answered c.args.m) (sym c.in-Err.is ∙ c.named.ensures)
    ∙ named-answers c.args.m c.args.numbers
