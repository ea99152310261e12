use mathlib.Core.Path.{◌≡◌, ◌∙◌}
use lib.ListN.{length}
use Rattle.board.proofs.Formed.{formed-in}
use Rattle.board.proofs.At.{advancing-at}
use borrow.Author.Rules.{rules}
use Rattle.nataqvoju.proofs.calls.advance.Goals as goal

pub returns : goal.returns
returns c = λ w.
    let b = c.args.b in
    let low : length b.controller.entries.low ≡ 24 = search rules in
    let destination : length b.controller.entries.destination ≡ 24 = search rules in
    let level : length b.controller.entries.level ≡ 24 = search rules in
    let held : length b.controller.entries.held ≡ 24 = search rules in
    c.advancing.ensures ∙ advancing-at b (formed-in b w (record { low = low; destination = destination; level = level; held = held })) c.args.ticks
