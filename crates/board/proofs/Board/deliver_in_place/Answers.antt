use mathlib.Core.Path.{◌≡◌, refl, sym, ◌∙◌}
use Rattle.std.specs.Prelude.{Some, None}
use Rattle.controller.specs.Inner.{delivery_if}
use Rattle.board.specs.State.{with_entry}
use Rattle.board.proofs.InPlace.{entry-in-place, delivering-some, delivering-none}
use Rattle.board.proofs.Board.deliver_in_place.Goals as goal

pub returns-in_default : goal.returns-in_default
returns-in_default c =
    let a = c.args in
    let none : None ≡ delivery_if a.self.controller a.low.now a.held.now = sym c.in_default.is ∙ c.delivery.ensures in
    sym (delivering-none (with_entry a.self a.low.now a.held.now) none)

pub returns : goal.returns
returns c =
    let a = c.args in
    let d = c.in-Some.d in
    let some : Some d ≡ delivery_if a.self.controller a.low.now a.held.now = sym c.in-Some.is ∙ c.delivery.ensures in
    entry-in-place a.self (λ w h. d) d a.low.now a.held.now _ _ refl c.apply.ensures
    ∙ sym (delivering-some (with_entry a.self a.low.now a.held.now) d some)
