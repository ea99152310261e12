use mathlib.Core.Path.{◌≡◌, sym, ◌∙◌}
use Rattle.std.specs.Prelude.{Some, None}
use Rattle.controller.specs.State.{with_entries, turn}
use Rattle.controller.specs.Inner.{delivery_if}
use Rattle.controller.proofs.InPlace.{delivering-some, delivering-none}
use Rattle.controller.proofs.Controller.delivering.Goals as goal

pub returns-in_default : goal.returns-in_default
returns-in_default c =
    let s = c.args.self in
    let none : None ≡ delivery_if s s.entries.low s.entries.held = sym c.in_default.is ∙ c.delivery.ensures in
    sym (delivering-none s none)

pub returns : goal.returns
returns c =
    let s = c.args.self in
    let d = c.in-Some.d in
    let some : Some d ≡ delivery_if s s.entries.low s.entries.held = sym c.in-Some.is ∙ c.delivery.ensures in
    (λ i. turn (with_entries s (c.renewed-next.ensures i)) d.answer) ∙ sym (delivering-some s d some)
