use mathlib.Core.Path.{ap, ap₂, ◌∙◌}
use mathlib.Core.List.{List}
use Prim.Native.Nat.{ℕ}
use lib.ListN.{get_or}
use borrow.Author.Rules.{rules}
use Rattle.pins.specs.Pins.{pins}
use Rattle.entries.specs.Inner.{held_by}
use Rattle.entries.specs.Table.{with_held, with_level, wired}
use Rattle.entries.proofs.Each.{tabled}
use Rattle.entries.proofs.Edges.{wired-by}
use Rattle.entries.proofs.Entries.wired.Goals as goal

-- what a pin holds, by the bytes of all pins
abbrev after : List ℕ → List ℕ → List ℕ → List ℕ → List ℕ → ℕ → ℕ
after g w l l' h i = held_by (get_or g i 0) (get_or w i 0) (get_or l i 0) (get_or l' i 0) (get_or h i 0)

pub returns : goal.returns
unfolding wired
returns c =
    let l = c.args.levels in
    let e = c.args.self in
    ap (λ (h : List ℕ). with_level (with_held e h) l)
    (tabled (after c.edge_pins-edges.result c.active_lows-lows.result e.level l e.held) (λ i y q k. (search rules, search rules)) c.from_fn.ensures.items
    ∙ ap₂ (λ (g w : List ℕ). pins (after g w e.level l e.held)) c.edge_pins-edges.ensures c.active_lows-lows.ensures
    ∙ wired-by e l)
