use mathlib.Core.Path.{◌≡◌, sym, ◌∙◌}
use mathlib.Core.Bool.{true, false}
use native.Mathlib.Nat.{add-zero}
use Rattle.entries.specs.Word.{level_of, written, writable}
use Rattle.entries.proofs.Fields.{and-writable, or-written}
use Rattle.entries.proofs.Low.written.Goals as goal

pub returns-then-not-is_level : goal.returns-then-not-is_level
unfolding written writable
returns-then-not-is_level c =
    let v = c.args.value in
    let edge : level_of v ≡ false = sym c.is_level.ensures ∙ c.if-not-is_level.true in
    rw edge (and-writable v ∙ sym (add-zero (writable v)))

pub returns : goal.returns
unfolding written writable
returns c =
    let w = c.args.self.0 in
    let v = c.args.value in
    let level : level_of v ≡ true = sym c.is_level.ensures ∙ c.if-not-is_level.false in
    rw level (or-written w v)
