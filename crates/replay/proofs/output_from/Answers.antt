use mathlib.Core.Path.{ap, ◌∙◌}
use Rattle.board.specs.Formed.{well_formed}
use Rattle.board.proofs.Keeps.{reset-formed}
use Rattle.replay.proofs.output_from.Goals as goal

pub played-requires : goal.played-requires
played-requires c = ap well_formed c.reset_to.ensures ∙ reset-formed c.args.settings c.requires
