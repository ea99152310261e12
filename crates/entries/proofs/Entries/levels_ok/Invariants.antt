use mathlib.Core.Path.{◌≡◌}
use mathlib.Core.Bool.{Bool}
use mathlib.Core.List.{List}
use Prim.Native.Nat.{ℕ}
use lib.Dec.{leb}
use lib.ListN.{get_or}
use Rattle.pins.specs.Pins.{all_from}
use Rattle.entries.proofs.Entries.levels_ok.Given as goal

abbrev pub low-enough : List ℕ → ℕ → Bool
low-enough l i = leb (get_or l i 0) 1

abbrev pub invariant-loop-level : goal.invariant-loop-level
invariant-loop-level l = l.ok ≡ all_from (low-enough l.level-items) 0 l.level-index
