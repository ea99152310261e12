-- A loop that counts i up to n: what is left of a scan from i on.
use mathlib.Core.Path.{◌≡◌, sym, ap, ◌∙◌}
use mathlib.Core.Bool.{Bool, true, false, ◌&&◌}
use Prim.Native.Nat.{ℕ, zero, suc, ◌+◌, ◌-◌, ◌<◌, ◌≤◌}
use native.Mathlib.Nat.{add-zero, add-suc, suc-add, zero-add}
use native.Mathlib.Numerals.{add-one}
use native.Mathlib.Omega.{arith}
use Rattle.pins.specs.Pins.{first_from, all_from}
use Rattle.pins.proofs.Bools.{and-true, and_assoc}

module _ (p : ℕ → Bool) (n i : ℕ) where
  pub scan-next : i < n → p i ≡ false → first_from p i (n - i) ≡ first_from p (i + 1) (n - (i + 1))
  unfolding first_from
  scan-next h e =
      let s : n - i ≡ suc (n - (i + 1)) = omega arith in
      rw (s, e, add-one)

  pub scan-here : i < n → p i ≡ true → first_from p i (n - i) ≡ i
  unfolding first_from
  scan-here h e =
      let s : n - i ≡ suc (n - (i + 1)) = omega arith in
      rw (s, e)

  pub scan-end : n ≤ i → first_from p i (n - i) ≡ i
  unfolding first_from
  scan-end h =
      let s : n - i ≡ 0 = omega arith in
      rw s

-- a loop that counts i up from 0 and keeps whether all so far held
module _ (p : ℕ → Bool) where
  all-last : (at n : ℕ) → all_from p at (suc n) ≡ all_from p at n && p (at + n)
  unfolding all_from
  all-last at zero = rw add-zero (and-true (p at))
  all-last at (suc n) =
      ap (λ (b : Bool). p at && b) (all-last (suc at) n)
      ∙ rw (suc-add at n, ← (add-suc at n)) (sym (and_assoc (p at) (all_from p (suc at) n) (p (at + suc n))))

  pub all_more : (i : ℕ) → all_from p 0 i && p i ≡ all_from p 0 (i + 1)
  all_more i = rw (add-one) (sym (all-last 0 i ∙ ap (λ (k : ℕ). all_from p 0 i && p k) (zero-add i)))
