-- What an argument is, by the tests in their order.
use mathlib.Core.Path.{◌≡◌, refl}
use mathlib.Core.List.{List, [], ◌∷◌}
use Prim.Native.Nat.{ℕ, ◌<◌, ◌≤◌}
use native.Mathlib.Omega.{arith}
use lib.ListN.{length, get_or}
use borrow.Author.Tests.{eq-eqb, ne_eqb}
use Rattle.program.specs.Argument.{begun_of}
use Rattle.program.specs.declared.arguments.Argument.TheVariants as argument

-- an argument's first byte
pub nothing : (s : List ℕ) → length s < 1 → argument.Empty ≡ begun_of s
unfolding begun_of
nothing [] e = refl
nothing (x ∷ s) e = absurd (omega (arith, e))

pub dashed : (s : List ℕ) → 1 ≤ length s → get_or s 0 0 ≡ 45 → argument.Dashed ≡ begun_of s
unfolding begun_of
dashed [] l e = absurd (omega (arith, l))
dashed (x ∷ s) l e = rw (eq-eqb x 45 e)

pub named : (s : List ℕ) → 1 ≤ length s → (get_or s 0 0 ≡ 45 → ⊥) → argument.Named ≡ begun_of s
unfolding begun_of
named [] l n = absurd (omega (arith, l))
named (x ∷ s) l n = rw (ne_eqb x 45 n)
