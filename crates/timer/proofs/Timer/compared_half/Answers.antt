use Rattle.std.proofs.Common.{◌∙◌, ap₂}
use Rattle.timer.specs.Registers.{set_of}
use Rattle.timer.proofs.Timer.compared_half.Goals as goal

pub returns : goal.returns
returns c =
    c.set.ensures ∙ ap₂ (set_of c.args.self) c.replaced-comparator.ensures c.replaced-period.ensures
