use Rattle.std.proofs.Common.{sym, ap, ◌∙◌, arith}
use Rattle.timer.specs.declared.Half.{Half}
use Rattle.timer.specs.Halves.{replaced}
use Rattle.timer.proofs.Halves.{low-code, high-code}
use Rattle.timer.proofs.Half.replaced.Goals as goal

pub returns-in-Low : goal.returns-in-Low
returns-in-Low c =
    let a = c.args in
    rw c.from-v.ensures (low-code a.x a.value (omega arith) (omega arith)) ∙ sym (ap (λ (h : Half). replaced h a.x a.value) c.in-Low.is)

pub returns-in-High : goal.returns-in-High
returns-in-High c =
    let a = c.args in
    rw c.from-v.ensures (high-code a.x a.value (omega arith)) ∙ sym (ap (λ (h : Half). replaced h a.x a.value) c.in-High.is)
