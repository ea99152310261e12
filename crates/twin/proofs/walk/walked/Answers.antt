use mathlib.Core.Path.{sym, ap, ◌∙◌}
use Rattle.board.specs.Step.{turn_of}
use Rattle.twin.proofs.walk.walked.Goals as goal

pub returns-in-Advance : goal.returns-in-Advance
returns-in-Advance c = c.advanced.ensures ∙ ap (turn_of c.args.b) (sym c.in-Advance.is)
