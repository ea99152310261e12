use Rattle.std.proofs.Common.{ℕ, Bool, ◌&&◌, eqb, List, get_or, ap, ◌∙◌}
use Rattle.pins.specs.Pins.{every}
use Rattle.entries.specs.Table.{level_at, levels_ok}
use Rattle.controller.specs.State.{well_formed as controller_formed}
use Rattle.timers.specs.Formed.{well_formed as timers_formed}
use Rattle.board.specs.Formed.{well_formed}
use Rattle.plain.proofs.Kept.{kept-by-wires}
use Rattle.plain.proofs.formed.well_formed.Goals as goal

pub returns : goal.returns
unfolding well_formed
returns c =
    let b = c.args.b in
    rw (c.well_formed-3.ensures, c.well_formed-2.ensures, c.outside_ok.ensures)
    (ap (λ (x : Bool). controller_formed b.controller && (timers_formed b.timers && (levels_ok b.outside && x)))
    (c.kept.ensures ∙ ap (λ (l : List ℕ). every (λ i. eqb (level_at b.controller.entries i) (get_or l i 0))) c.wires.ensures ∙ kept-by-wires b))
