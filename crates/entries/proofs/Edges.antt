-- A change of the wires, from bytes: what the code that works on all pins at once cites.
use mathlib.Core.Path.{◌≡◌, refl, ap₂, ◌∙◌}
use mathlib.Core.Bool.{Bool, true, false, not, cond, ◌&&◌}
use mathlib.Core.List.{List}
use Prim.Native.Nat.{ℕ, ◌<◌}
use lib.Dec.{eqb}
use lib.ListN.{get_or}
use mir.Val.{bool_byte}
use Rattle.pins.specs.Pins.{pins}
use Rattle.pins.proofs.Bools.{eqb-byte}
use Rattle.pins.proofs.Fill.{get_or-tab}
use Rattle.pins.proofs.Store.{pins-cong}
use Rattle.entries.specs.declared.Entries.{Entries}
use Rattle.entries.specs.Word.{active_low_of, level_of, masked_of}
use Rattle.entries.specs.Pin.{asserted, makes_edge, held_after}
use Rattle.entries.specs.Inner.{takes_edges, held_by}
use Rattle.entries.specs.Table.{low_at, level_at, held_at, held_on}
use Rattle.entries.specs.Inner.{edge_pins, active_lows}

twice : (b : Bool) → b ≡ not (not b)
twice true = refl
twice false = refl

held-by-after : (w before after held : ℕ) → held_by (bool_byte (takes_edges w)) (active_low_of w) before after held ≡ held_after w before after held
unfolding held_by held_after makes_edge asserted takes_edges
held-by-after w before after held =
    ap₂ (λ (x y : Bool). cond (x && y && not (eqb after (active_low_of w))) 1 held)
    (eqb-byte (not (masked_of w) && not (level_of w)))
    (twice (eqb before (active_low_of w)))

module _ (e : Entries) (l : List ℕ) where
  edge_at : (i : ℕ) → i < 24 → get_or (edge_pins e.low) i 0 ≡ bool_byte (takes_edges (low_at e i))
  unfolding edge_pins
  edge_at i h = get_or-tab (λ i. bool_byte (takes_edges (low_at e i))) 24 i 0 h

  low-at : (i : ℕ) → i < 24 → get_or (active_lows e.low) i 0 ≡ active_low_of (low_at e i)
  unfolding active_lows
  low-at i h = get_or-tab (λ i. active_low_of (low_at e i)) 24 i 0 h

  pub wired-by :
      pins (λ i. held_by (get_or (edge_pins e.low) i 0) (get_or (active_lows e.low) i 0) (level_at e i) (get_or l i 0) (held_at e i))
      ≡ pins (held_on e l)
  wired-by =
      pins-cong (λ i. held_by (get_or (edge_pins e.low) i 0) (get_or (active_lows e.low) i 0) (level_at e i) (get_or l i 0) (held_at e i))
      (held_on e l) 0
      (λ i h.
      ap₂ (λ (x y : ℕ). held_by x y (level_at e i) (get_or l i 0) (held_at e i)) (edge_at i h) (low-at i h)
      ∙ held-by-after (low_at e i) (level_at e i) (get_or l i 0) (held_at e i))
