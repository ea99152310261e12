use mathlib.Core.Path.{◌≡◌, ◌∙◌}
use mathlib.Core.Bool.{true}
use lib.ListN.{length}
use Rattle.board.specs.Formed.{well_formed}
use Rattle.board.proofs.Formed.{Formed, formed-in}
use Rattle.board.specs.State.{with_wires}
use Rattle.board.specs.At.{wiring_at}
use Rattle.board.proofs.At.{wiring-at}
use Rattle.nataqvoju.proofs.Served.{turn-gives}
use borrow.Author.Rules.{rules}
use Rattle.nataqvoju.proofs.calls.wire.Goals as goal

pub returns : goal.returns
returns c =
    let formed : well_formed c.args.b ≡ true → Formed c.args.b = (λ e. let b = c.args.b in
    let low : length b.controller.entries.low ≡ 24 = search rules in
    let destination : length b.controller.entries.destination ≡ 24 = search rules in
    let level : length b.controller.entries.level ≡ 24 = search rules in
    let held : length b.controller.entries.held ≡ 24 = search rules in
    formed-in b e (record { low = low; destination = destination; level = level; held = held })) in
    λ w p q r.
    let long : length c.args.b.outside ≡ 24 = search rules in
    turn-gives _ _ _ _ (c.wire_in_place.ensures ∙ (λ i. wiring_at (with_wires c.args.b (p i) (q i) (r i)) c.args.pin c.args.level) ∙ wiring-at c.args.b (formed w) long c.args.pin c.args.level) c.from.ensures
