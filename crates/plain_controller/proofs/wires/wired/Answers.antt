use mathlib.Core.Path.{ap}
use mathlib.Core.List.{List}
use Prim.Native.Nat.{ℕ}
use borrow.Author.Rules.{rules}
use Rattle.entries.specs.Table.{held_on, with_held, with_level, wired}
use Rattle.entries.proofs.Each.{tabled}
use Rattle.plain_controller.proofs.wires.wired.Goals as goal

pub returns : goal.returns
unfolding wired
returns c =
    let a = c.args in
    ap (λ (h : List ℕ). with_level (with_held a.e h) a.levels)
    (tabled (held_on a.e a.levels) (λ i y q k. (search rules, search rules)) c.from_fn.ensures.items)
