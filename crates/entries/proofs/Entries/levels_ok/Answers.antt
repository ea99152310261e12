use mathlib.Core.Path.{◌≡◌, refl, ap, ◌∙◌}
use mathlib.Core.Bool.{Bool, ◌&&◌}
use Rattle.pins.specs.Pins.{all_from}
use Rattle.entries.specs.Table.{levels_ok}
use Rattle.pins.proofs.Scan.{all_more}
use native.Mathlib.Omega.{arith}
use Rattle.entries.proofs.Entries.levels_ok.Invariants.{low-enough}
use Rattle.entries.proofs.Entries.levels_ok.Goals as goal

pub loop-level-init : goal.loop-level-init
unfolding all_from
loop-level-init c = refl

pub loop-level-preserved : goal.loop-level-preserved
loop-level-preserved c =
    ap (λ (b : Bool). b && low-enough c.args.levels c.loop-level.level-index) c.loop-level.invariant ∙ all_more (low-enough c.args.levels) c.loop-level.level-index

pub returns : goal.returns
unfolding levels_ok
returns c =
    let full : c.loop-level.level-index ≡ 24 = omega arith in
    c.loop-level.invariant ∙ ap (all_from (low-enough c.args.levels) 0) full
