use mathlib.Core.Path.{◌≡◌}
use mathlib.Core.Bool.{◌||◌}
use mathlib.Core.List.{List, ◌++◌}
use lib.Dec.{eqb}
use lib.ListN.{get_or, drop, replicate}
use Prim.Native.Nat.{ℕ}
use mir.Val.{bool_byte}
use Rattle.pins.specs.Pins.{tab}
use Rattle.board.proofs.wires.wires.Given as goal

abbrev pub rule : List ℕ → ℕ → ℕ → ℕ → ℕ → ℕ
rule o a b c i = bool_byte (eqb (get_or o i 0) 1 || (eqb a i || (eqb b i || eqb c i)))

abbrev pub zeros : List ℕ
zeros = replicate 24 0

abbrev pub invariant-loop-i : goal.invariant-loop-i
invariant-loop-i l = (l.levels ≡ tab (rule l.outside l.a l.b l.c) 0 l.i ++ drop l.i zeros) × (l.pin ≡ l.i)
