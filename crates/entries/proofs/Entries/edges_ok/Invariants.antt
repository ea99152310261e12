use mathlib.Core.Path.{◌≡◌}
use mathlib.Core.Bool.{Bool, not}
use mathlib.Core.List.{List}
use Prim.Native.Nat.{ℕ}
use lib.Dec.{leb}
use mir.Val.{bool_byte}
use lib.ListN.{get_or}
use Rattle.pins.specs.Pins.{all_from}
use Rattle.entries.specs.Word.{level_of}
use Rattle.entries.proofs.Entries.edges_ok.Given as goal

abbrev pub fits : List ℕ → List ℕ → ℕ → Bool
fits w h i = leb (get_or h i 0) (bool_byte (not (level_of (get_or w i 0))))

abbrev pub invariant-loop-i : goal.invariant-loop-i
invariant-loop-i l = l.ok ≡ all_from (fits l.low l.held) 0 l.i
