use mathlib.Core.Path.{sym, ap, ◌∙◌}
use Rattle.board.proofs.Served.{turn-reset}
use Rattle.settings.specs.Record.{reading_of}
use Rattle.nataqvoju.specs.Reset.{reset_with}
use Rattle.nataqvoju.proofs.calls.reset_with.Goals as goal

pub returns-in-Ok : goal.returns-in-Ok
returns-in-Ok c =
    c.resetting.ensures
    ∙ sym (turn-reset c.args.b c.in-Ok.settings)
    ∙ sym (ap (λ x. reset_with c.args.b (reading_of x)) c.in-Ok.is)
