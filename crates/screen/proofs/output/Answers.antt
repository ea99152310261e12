use mathlib.Core.Path.{◌∙◌}
use Rattle.screen.proofs.Outputs.{by-standard, standard-ranged}
use Rattle.screen.proofs.output.Goals as goal

pub output_from-requires : goal.output_from-requires
output_from-requires c = standard-ranged c.standard.result c.standard.ensures

pub returns : goal.returns
returns c = c.output_from.ensures ∙ by-standard c.args.pin c.args.log.now c.standard.result c.standard.ensures
