use mathlib.Core.Path.{sym, ◌∙◌}
use Rattle.twin.proofs.walk.advanced.Goals as goal

pub in_portions-requires : goal.in_portions-requires
in_portions-requires c = sym c.well_formed-2.ensures ∙ c.if-not-well_formed.false
