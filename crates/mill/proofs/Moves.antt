-- What moves the screen: an edge, and there is none on a pin beyond the list.
use Prim.Native.Nat.{ℕ, zero, suc, ◌≤◌}
use native.Mathlib.Omega.{arith}
use mathlib.Core.Path.{◌≡◌, refl}
use mathlib.Core.Bool.{false}
use mathlib.Core.List.{List, [], ◌∷◌}
use lib.ListN.{length}
use Rattle.mill.specs.Screen.{holds_in}

pub beyond : (held : List ℕ) (p : ℕ) → length held ≤ p → holds_in held p ≡ false
beyond [] p h = refl
beyond (x ∷ held) zero h = absurd (omega arith)
beyond (x ∷ held) (suc p) h = beyond held p (omega arith)
