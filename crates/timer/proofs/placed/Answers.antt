use Rattle.std.proofs.Common.{◌∙◌}
use mir.Val.{bool_byte}
use Rattle.timer.specs.State.{flag}
use Rattle.timer.proofs.Bits.{or-none, placed-out}
use Rattle.timer.proofs.placed.Goals as goal

pub returns : goal.returns
returns c =
    let a = c.args in
    c.unwrap_or.ensures ∙ or-none a.k _ (rw c.from.ensures at c.checked_shl.ensures) (placed-out (bool_byte (flag a.f)) a.k)
