use mathlib.Core.Path.{ap, ◌∙◌}
use Rattle.mill.specs.declared.Mill.{Mill}
use Rattle.mill.specs.declared.MillCall.TheVariants as millcall
use Rattle.mill.specs.Mill.{turn_of}
use Rattle.screen.proofs.told.Goals as goal

pub returns : goal.returns
returns c = c.tell.ensures ∙ ap (λ (m : Mill). turn_of m (millcall.Tell c.args.pin)) c.reset_to.ensures
