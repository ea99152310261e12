use mathlib.Core.Path.{◌≡◌, sym, ◌∙◌}
use lib.ListN.{length}
use Rattle.entries.proofs.Sized.{low-shown-above}
use Rattle.entries.specs.Table.{low_shown}
use borrow.Author.Rules.{rules}
use Rattle.entries.proofs.Entries.low_shown.Goals as goal

pub returns-then-n-ge-PINS : goal.returns-then-n-ge-PINS
returns-then-n-ge-PINS c =
    let a : length c.args.self.low ≡ 24 = search rules in
    let b : length c.args.self.destination ≡ 24 = search rules in
    let d : length c.args.self.level ≡ 24 = search rules in
    let h : length c.args.self.held ≡ 24 = search rules in
    sym (low-shown-above c.args.self (record { low = a; destination = b; level = d; held = h }) c.args.n c.if-n-ge-PINS.true)

pub returns : goal.returns
unfolding low_shown
returns c = c.shown.ensures ∙ rw c.eligible.ensures
