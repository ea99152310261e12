use mathlib.Core.Path.{ap, ◌∙◌}
use Rattle.settings.specs.Settings.{in_range}
use Rattle.settings.proofs.Ranges.{standard-in-range}
use Rattle.replay.proofs.output.Goals as goal

pub output_from-requires : goal.output_from-requires
output_from-requires c = ap in_range c.standard.ensures ∙ standard-in-range
