use mathlib.Core.Path.{◌≡◌, sym}
use lib.ListN.{length}
use Rattle.entries.proofs.Sized.{high-written-above}
use borrow.Author.Rules.{rules}
use Rattle.entries.proofs.Entries.high_written.Goals as goal

pub returns-then-n-ge-PINS : goal.returns-then-n-ge-PINS
returns-then-n-ge-PINS c =
    let a : length c.args.self.low ≡ 24 = search rules in
    let b : length c.args.self.destination ≡ 24 = search rules in
    let d : length c.args.self.level ≡ 24 = search rules in
    let h : length c.args.self.held ≡ 24 = search rules in
    sym (high-written-above c.args.self (record { low = a; destination = b; level = d; held = h }) c.args.n c.if-n-ge-PINS.true c.args.value)
