use Rattle.std.proofs.Common.{sym, ap, ◌∙◌}
use lib.Bits.{and_mask}
use Rattle.timer.specs.declared.Half.{Half}
use Rattle.timer.specs.Halves.{half_of}
use Rattle.timer.proofs.Half.of.Goals as goal

pub returns-in-Low : goal.returns-in-Low
returns-in-Low c = and_mask c.args.x 32 ∙ sym (ap (λ (h : Half). half_of h c.args.x) c.in-Low.is)

pub returns-in-High : goal.returns-in-High
returns-in-High c = sym (ap (λ (h : Half). half_of h c.args.x) c.in-High.is)
