-- A text that stands whole at the start of a buffer is the buffer's first bytes.
use mathlib.Core.Path.{◌≡◌, refl, sym, ap, ◌∙◌}
use mathlib.Core.List.{List, [], ◌++◌}
use Prim.Native.Nat.{ℕ, ◌≤◌}
use native.Mathlib.Omega.{arith}
use lib.ListN.{length, take, drop, length-append}
use lib.Seq.{take-append_seam}

module _ (w rest o : List ℕ) (n : ℕ) (k : (n ≡ length w) × (o ≡ w ++ rest)) where
  pub within : n ≤ length o
  within = omega (arith, k.0, ap length k.1, length-append w rest)

  pub first : take n o ≡ w
  first = ap (λ (m : ℕ). take m o) k.0 ∙ ap (take (length w)) k.1 ∙ take-append_seam w rest

-- two texts of which one stands wherever the other does are the same
pub through : (w x : List ℕ) → ((o o' : List ℕ) (n : ℕ) → (n ≡ length w) × (o' ≡ w ++ drop (length w) o) → (n ≡ length x) × (o' ≡ x ++ drop (length x) o)) → w ≡ x
through w x f =
    let o = w ++ drop (length w) [] in
    sym (first w (drop (length w) []) o (length w) (refl, refl)) ∙ first x (drop (length x) []) o (length w) (f [] o (length w) (refl, refl))
