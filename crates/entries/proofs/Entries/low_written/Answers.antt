use mathlib.Core.Path.{◌≡◌, ◌∙◌}
use lib.ListN.{length}
use Rattle.entries.proofs.Sized.{Sized}
use Rattle.entries.proofs.Decided.{write-written-any}
use borrow.Author.Rules.{rules}
use Rattle.entries.proofs.Entries.low_written.Goals as goal

pub returns : goal.returns
returns c =
    let sized : Sized c.args.self = let low : length c.args.self.low ≡ 24 = search rules in
    let destination : length c.args.self.destination ≡ 24 = search rules in
    let level : length c.args.self.level ≡ 24 = search rules in
    let held : length c.args.self.held ≡ 24 = search rules in
    record { low = low; destination = destination; level = level; held = held } in
    let a = c.args in
    c.renewed.ensures ∙ rw c.write.ensures (write-written-any a.self a.n (sized) a.value)
