-- A text that stands whole at the start of a buffer, as programs write their output.
use mathlib.Core.Path.{◌≡◌, ap, ◌∙◌}
use mathlib.Core.List.{List, ◌++◌}
use Prim.Native.Nat.{ℕ, ◌≤◌}
use native.Mathlib.Nat.{zero-add}
use native.Mathlib.Omega.{arith}
use lib.ListN.{length, drop, length-append}
use Rattle.lines.specs.Put.{over, Put}

abbrev pub Whole : List ℕ → List ℕ → List ℕ → ℕ → Type 0
Whole w o o' n = (n ≡ length w) × (o' ≡ over w o)

module _ (w o o' : List ℕ) (n : ℕ) where
  pub whole_same : (x : List ℕ) → w ≡ x → Whole w o o' n → Whole x o o' n
  whole_same x e k = (k.0 ∙ ap length e, k.1 ∙ ap (λ (t : List ℕ). over t o) e)

  pub put_whole : Put w o 0 o' n → Whole w o o' n
  put_whole p = (omega (arith, p.next), p.holds ∙ ap (λ (k : ℕ). w ++ drop k o) (zero-add (length w)))

  -- what was written lies within the buffer
  pub within : n ≡ length w → o' ≡ over w o → n ≤ length o'
  within e d = omega (arith, e, ap length d, length-append w (drop (length w) o))
