use Rattle.timer.proofs.Formed.{tested-is}
use Rattle.timer.proofs.Timer.well_formed.Goals as goal

pub returns : goal.returns
returns c =
    let a = c.args in
    rw (c.has.ensures, c.narrow_fits.ensures) (tested-is a.mask a.self)
