-- Two texts are the same where they are byte by byte.
use mathlib.Core.Path.{◌≡◌, refl, ap}
use mathlib.Core.List.{List, [], ◌∷◌}
use mathlib.Core.Bool.{Bool, ◌&&◌}
use Prim.Native.Nat.{ℕ}
use lib.Dec.{eqb}
use lib.Pointwise.{pointwise}
use Rattle.program.specs.Argument.{same_text}

pub by_bytes : (a b : List ℕ) → pointwise eqb a b ≡ same_text a b
unfolding same_text
by_bytes [] [] = refl
by_bytes [] (y ∷ b) = refl
by_bytes (x ∷ a) [] = refl
by_bytes (x ∷ a) (y ∷ b) = ap (λ (t : Bool). eqb x y && t) (by_bytes a b)
