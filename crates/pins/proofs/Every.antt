-- What holds at every pin: from the test to each pin, and back.
use mathlib.Core.Path.{◌≡◌, refl, ap, ap₂, ◌∙◌}
use mathlib.Core.Bool.{Bool, true, ◌&&◌}
use Prim.Native.Nat.{ℕ, zero, suc, ◌+◌, ◌<◌, zero-le, suc-le-suc}
use native.Mathlib.Nat.{not-suc-le-zero, le_of_suc-le-suc, add-zero, add-suc, suc-add, zero-add}
use Rattle.pins.specs.Pins.{all_from, every}
use Rattle.pins.proofs.Bools.{and_left, and_right, and_both, and-middle}

module _ (p : ℕ → Bool) where
  all-at : (at n i : ℕ) → all_from p at n ≡ true → i < n → p (at + i) ≡ true
  unfolding all_from
  all-at at zero i e l = absurd (not-suc-le-zero l)
  all-at at (suc n) zero e l = rw add-zero (and_left (p at) (all_from p (suc at) n) e)
  all-at at (suc n) (suc i) e l = rw (add-suc at i, ← (suc-add at i)) (all-at (suc at) n i (and_right (p at) (all_from p (suc at) n) e) (le_of_suc-le-suc l))

  all_of : (at n : ℕ) → ((i : ℕ) → i < n → p (at + i) ≡ true) → all_from p at n ≡ true
  unfolding all_from
  all_of at zero h = refl
  all_of at (suc n) h =
      and_both (rw add-zero at (h 0 (suc-le-suc zero-le)))
      (all_of (suc at) n (λ i l. rw (add-suc at i, ← (suc-add at i)) at (h (suc i) (suc-le-suc l))))

  pub every-at : every p ≡ true → (i : ℕ) → i < 24 → p i ≡ true
  every-at e i l = rw zero-add at (all-at 0 24 i e l)

  pub every_of : ((i : ℕ) → i < 24 → p i ≡ true) → every p ≡ true
  every_of h = all_of 0 24 (λ i l. rw zero-add (h i l))

-- tests that agree at every pin
all-cong : (p q : ℕ → Bool) (at n : ℕ) → ((i : ℕ) → i < n → p (at + i) ≡ q (at + i)) → all_from p at n ≡ all_from q at n
unfolding all_from
all-cong p q at zero h = refl
all-cong p q at (suc n) h =
    ap₂ ◌&&◌ (rw add-zero at (h 0 (suc-le-suc zero-le)))
    (all-cong p q (suc at) n (λ i l. rw (add-suc at i, ← (suc-add at i)) at (h (suc i) (suc-le-suc l))))

pub every-cong : (p q : ℕ → Bool) → ((i : ℕ) → i < 24 → p i ≡ q i) → every p ≡ every q
every-cong p q h = all-cong p q 0 24 (λ i l. rw zero-add (h i l))

-- two tests at every pin are one test after the other
all-and : (p q : ℕ → Bool) (at n : ℕ) → all_from (λ i. p i && q i) at n ≡ (all_from p at n && all_from q at n)
unfolding all_from
all-and p q at zero = refl
all-and p q at (suc n) = ap (λ (b : Bool). (p at && q at) && b) (all-and p q (suc at) n) ∙ and-middle (p at) (q at) (all_from p (suc at) n) (all_from q (suc at) n)

pub every-and : (p q : ℕ → Bool) → every (λ i. p i && q i) ≡ (every p && every q)
every-and p q = all-and p q 0 24
