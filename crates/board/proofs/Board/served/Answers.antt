use mathlib.Core.Path.{◌≡◌, sym, ap, subst, ◌∙◌}
use mathlib.Core.Bool.{true}
use lib.ListN.{length}
use borrow.Author.Rules.{rules}
use Rattle.board.specs.declared.Call.{Call}
use Rattle.board.specs.Formed.{well_formed}
use Rattle.board.specs.Step.{takes, served_of}
use Rattle.board.proofs.Formed.{Formed, formed-in}
use Rattle.board.proofs.At.{wiring-at, advancing-at}
use Rattle.board.proofs.Board.served.Goals as goal

pub returns-in-Read : goal.returns-in-Read
unfolding served_of
returns-in-Read c = c.reading.ensures ∙ ap (served_of c.args.self) (sym c.in-Read.is)

pub returns-in-Write : goal.returns-in-Write
unfolding served_of
returns-in-Write c = c.writing.ensures ∙ ap (served_of c.args.self) (sym c.in-Write.is)

pub returns-in-Wire : goal.returns-in-Wire
unfolding served_of
returns-in-Wire c =
    let b = c.args.self in
    let low : length b.controller.entries.low ≡ 24 = search rules in
    let destination : length b.controller.entries.destination ≡ 24 = search rules in
    let level : length b.controller.entries.level ≡ 24 = search rules in
    let held : length b.controller.entries.held ≡ 24 = search rules in
    let long : length b.outside ≡ 24 = search rules in
    let well : well_formed b ≡ true = subst (λ (x : Call). takes b x ≡ true) c.in-Wire.is c.requires in
    let formed : Formed b = formed-in b well (record { low = low; destination = destination; level = level; held = held }) in
    c.wiring.ensures ∙ wiring-at b formed long _ _ ∙ ap (served_of b) (sym c.in-Wire.is)

pub returns-in-End : goal.returns-in-End
unfolding served_of
returns-in-End c = c.ending.ensures ∙ ap (served_of c.args.self) (sym c.in-End.is)

pub returns-in-Advance : goal.returns-in-Advance
unfolding served_of
returns-in-Advance c =
    let b = c.args.self in
    let low : length b.controller.entries.low ≡ 24 = search rules in
    let destination : length b.controller.entries.destination ≡ 24 = search rules in
    let level : length b.controller.entries.level ≡ 24 = search rules in
    let held : length b.controller.entries.held ≡ 24 = search rules in
    let well : well_formed b ≡ true = subst (λ (x : Call). takes b x ≡ true) c.in-Advance.is c.requires in
    let formed : Formed b = formed-in b well (record { low = low; destination = destination; level = level; held = held }) in
    c.advancing.ensures ∙ advancing-at b formed _ ∙ ap (served_of b) (sym c.in-Advance.is)

pub returns-in-Deliver : goal.returns-in-Deliver
unfolding served_of
returns-in-Deliver c = c.delivering.ensures ∙ ap (served_of c.args.self) (sym c.in-Deliver.is)

pub returns-in-Reset : goal.returns-in-Reset
unfolding served_of
returns-in-Reset c = c.resetting.ensures ∙ ap (served_of c.args.self) (sym c.in-Reset.is)
