use mathlib.Core.Path.{sym}
use Rattle.board.proofs.Served.{reset-plain}
use Rattle.board.specs.State.{turn}
use Rattle.answers.specs.declared.Answer.TheVariants as answer
use Rattle.board.specs.declared.Board.{Board}
use mathlib.Core.Path.{ap, ◌∙◌}
use Rattle.nataqvoju.proofs.Served.{turn-gives}
use Rattle.nataqvoju.proofs.nataqvoju_reset.Goals as goal

pub returns : goal.returns
returns c =
    turn-gives _ _ answer.Done _ (ap (λ (b : Board). turn b answer.Done) c.reset.ensures ∙ sym (reset-plain c.args.b.now)) c.from.ensures
