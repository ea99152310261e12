use mathlib.Core.Path.{◌≡◌, refl, ap, ap₂, ◌∙◌}
use mathlib.Core.Bool.{Bool, not, ◌&&◌}
use lib.Dec.{leb}
use mir.Val.{bool_byte}
use lib.ListN.{get_or}
use Rattle.pins.specs.Pins.{all_from}
use Rattle.pins.proofs.Scan.{all_more}
use Rattle.entries.specs.Inner.{edges_ok}
use native.Mathlib.Omega.{arith}
use Rattle.entries.proofs.Entries.edges_ok.Invariants.{fits}
use Rattle.entries.proofs.Entries.edges_ok.Goals as goal

pub loop-i-init : goal.loop-i-init
unfolding all_from
loop-i-init c = refl

pub loop-i-preserved : goal.loop-i-preserved
loop-i-preserved c =
    let w = c.args.low in
    let h = c.args.held in
    ap₂ (λ (x y : Bool). x && leb (get_or h c.loop-i.i 0) (bool_byte (not y))) c.loop-i.invariant c.is_level.ensures ∙ all_more (fits w h) c.loop-i.i

pub returns : goal.returns
unfolding edges_ok
returns c =
    let full : c.loop-i.i ≡ 24 = omega arith in
    c.loop-i.invariant ∙ ap (all_from (fits c.args.low c.args.held) 0) full
