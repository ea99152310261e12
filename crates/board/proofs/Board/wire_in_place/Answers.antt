use mathlib.Core.Path.{ap, ◌∙◌}
use mathlib.Core.Bool.{◌||◌}
use lib.Dec.{eqb}
use lib.ListN.{set}
use mir.Val.{bool_byte}
use borrow.Author.Tests.{lt-ltb, le-ltb, le-leb, lt-leb}
use Rattle.answers.specs.declared.Answer.TheVariants as answer
use Rattle.controller.specs.Inner.{rewired_at}
use Rattle.board.specs.declared.Board.{Board}
use Rattle.board.specs.State.{board, with_wires, turn}
use Rattle.board.specs.At.{wiring_at}
use Rattle.board.proofs.InPlace.{wire-in-place}
use Rattle.board.proofs.Board.wire_in_place.Goals as goal

pub returns-then-pin-ge-PINS : goal.returns-then-pin-ge-PINS
unfolding wiring_at
returns-then-pin-ge-PINS c = rw (le-ltb _ _ c.if-pin-ge-PINS.true)

pub returns-then-level-gt-LAST_LEVEL : goal.returns-then-level-gt-LAST_LEVEL
unfolding wiring_at
returns-then-level-gt-LAST_LEVEL c = rw (lt-ltb _ _ c.if-pin-ge-PINS.false, lt-leb _ _ c.if-level-gt-LAST_LEVEL.true)

pub returns : goal.returns
unfolding wiring_at
returns c =
    let a = c.args in
    let b = a.self in
    let u = set a.outside.now a.pin a.level in
    rw (lt-ltb a.pin 24 c.if-pin-ge-PINS.false, le-leb a.level 1 c.if-level-gt-LAST_LEVEL.false)
    (ap (λ (x : Board). turn x answer.Done)
    (wire-in-place b a.pin (bool_byte (eqb a.level 1 || c.drives.result)) c.if-pin-ge-PINS.false c.change-d.result a.levels.now a.held.now a.outside.now _ _ u c.change-d.ensures c.apply.ensures)
    ∙ (λ i. turn (board (rewired_at (with_wires b a.levels.now a.held.now a.outside.now).controller a.pin (bool_byte (eqb a.level 1 || c.drives.ensures i))) b.timers u) answer.Done))
