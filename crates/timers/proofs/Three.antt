-- Lists by the timers' numbers, and a block with another timer.
use Rattle.std.proofs.Common.{◌≡◌, ℕ, zero, suc, ◌<◌, ◌≤◌, cond, eqb, List, [], ◌∷◌, length, get_or, refl, ap, ◌∙◌, arith, eq-eqb, ne_eqb}
use Rattle.timer.specs.declared.Timer.{Timer}
use Rattle.timer.specs.State.{blank}
use Rattle.timers.specs.declared.Timers.{Timers}
use Rattle.timers.specs.State.{three, at, with_list, with_timers, with_timer}

pub at-three : {A : Type 0} (f : ℕ → A) (z : A) (m : ℕ) → m < 3 → get_or (three f) m z ≡ f m
at-three f z zero l = refl
at-three f z (suc zero) l = refl
at-three f z (suc (suc zero)) l = refl
at-three f z (suc (suc (suc m))) l = absurd (omega arith)

pub three-same : {A : Type 0} (f g : ℕ → A) → ((m : ℕ) → m < 3 → f m ≡ g m) → three f ≡ three g
three-same f g e = λ i. e 0 (omega arith) i ∷ e 1 (omega arith) i ∷ e 2 (omega arith) i ∷ []

pub of_three : {A : Type 0} (l : List A) (z : A) → length l ≡ 3 → l ≡ three (λ m. get_or l m z)
of_three [] z e = absurd (omega arith)
of_three (a ∷ []) z e = absurd (omega arith)
of_three (a ∷ b ∷ []) z e = absurd (omega arith)
of_three (a ∷ b ∷ c ∷ []) z e = refl
of_three (a ∷ b ∷ c ∷ d ∷ l) z e = absurd (omega arith)

module _ (s : Timers) (m : ℕ) (x : Timer) where
  pub at_with : (j : ℕ) → j < 3 → at (with_timer s m x) j ≡ cond (eqb j m) x (at s j)
  at_with j l = at-three (λ i. cond (eqb i m) x (at s i)) blank j l

  pub at_same : m < 3 → at (with_timer s m x) m ≡ x
  at_same l = at_with m l ∙ rw (eq-eqb m m refl)

  pub at_other : (j : ℕ) → j < 3 → (j ≡ m → ⊥) → at (with_timer s m x) j ≡ at s j
  at_other j l n = at_with j l ∙ rw (ne_eqb j m n)

-- ---- what the code cites

-- a block is its three timers, and its numbers
pub eta : (s : Timers) → length s.timer ≡ 3 → s ≡ with_timers s (at s)
eta s e = ap (with_list s) (of_three s.timer blank e)

-- past the last there is none
pub beyond : {A : Type 0} (l : List A) (z : A) (m : ℕ) → length l ≡ 3 → 3 ≤ m → get_or l m z ≡ z
beyond {A = A} l z m e h = ap (λ (k : List A). get_or k m z) (of_three l z e) ∙ go m h
  where
    go : (m : ℕ) → 3 ≤ m → get_or (three (λ i. get_or l i z)) m z ≡ z
    go zero h = absurd (omega arith)
    go (suc zero) h = absurd (omega arith)
    go (suc (suc zero)) h = absurd (omega arith)
    go (suc (suc (suc m))) h = refl
