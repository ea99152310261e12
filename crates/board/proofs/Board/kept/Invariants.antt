use mathlib.Core.Path.{◌≡◌}
use mathlib.Core.Bool.{Bool, ◌&&◌, ◌||◌}
use mathlib.Core.List.{List}
use lib.Dec.{eqb, leb}
use lib.ListN.{get_or}
use Prim.Native.Nat.{ℕ}
use mir.Val.{bool_byte}
use Rattle.pins.specs.Pins.{all_from}
use Rattle.board.proofs.Board.kept.Given as goal

abbrev pub kept_in : List ℕ → List ℕ → ℕ → ℕ → ℕ → ℕ → Bool
kept_in l o p q r i = leb (get_or o i 0) 1 && eqb (get_or l i 0) (bool_byte (eqb (get_or o i 0) 1 || (eqb p i || (eqb q i || eqb r i))))

abbrev pub invariant-loop-i : goal.invariant-loop-i
invariant-loop-i l = (l.ok ≡ all_from (kept_in l.level l.outside l.p l.q l.r) 0 l.i) × (l.pin ≡ l.i)
