use mathlib.Core.Path.{◌≡◌}
use mathlib.Core.List.{List}
use Prim.Native.Nat.{ℕ}
use Rattle.entries.specs.declared.Entries.{Entries}
use Rattle.entries.specs.Strike.{struck}
use Rattle.entries.proofs.Entries.struck.Given as goal

-- the entries with the two arrays that change
abbrev pub with-pins : List ℕ → List ℕ → List ℕ → List ℕ → Entries
with-pins w d l h = record { low = w; destination = d; level = l; held = h }

abbrev pub invariant-loop-strike : goal.invariant-loop-strike
invariant-loop-strike l = with-pins l.low l.self.destination l.level l.held ≡ struck l.strike-index l.strike-items (with-pins l.low l.self.destination l.initial.level l.initial.held)
