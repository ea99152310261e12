-- The ticks of one timer by itself, one by one.
use Rattle.std.proofs.Common.{◌≡◌, ℕ, suc, ◌+◌, ◌%◌, ◌^◌, cond, eqb, refl, ap, ◌∙◌, arith}
use native.Mathlib.Nat.{mod-add-mod}
use Rattle.timer.specs.declared.Timer.{Timer}
use Rattle.timer.specs.Tick.{meets, firing}
use Rattle.timer.specs.Alone.{after, stepped, alone, count, begun, run, run_of}

module _ (c : ℕ) (t : Timer) where
  pub stepped-is : stepped c t ≡ cond (meets c t) (firing t) t
  unfolding stepped
  stepped-is = refl

  pub alone-zero : alone 0 c t ≡ t
  unfolding alone
  alone-zero = refl

  pub alone-suc : (n : ℕ) → alone (suc n) c t ≡ stepped (after (suc n) c) (alone n c t)
  unfolding alone
  alone-suc n = refl

  pub count-zero : count 0 c t ≡ 0
  unfolding count
  count-zero = refl

  pub count-suc : (n : ℕ) → count (suc n) c t ≡ count n c t + cond (meets (after (suc n) c) (alone n c t)) 1 0
  unfolding count
  count-suc n = refl

  pub begun-zero : begun 0 c t ≡ 0
  unfolding begun
  begun-zero = refl

  pub begun-suc : (n : ℕ) → begun (suc n) c t ≡ cond (eqb (begun n c t) 0) (cond (meets (after (suc n) c) (alone n c t)) (suc n) 0) (begun n c t)
  unfolding begun
  begun-suc n = refl

  pub run_is : (n : ℕ) → run_of t c n ≡ run (alone n c t) (count n c t) (begun n c t)
  unfolding run_of
  run_is n = refl

-- the counter of the next tick
pub after-suc : (n c : ℕ) → (after n c + 1) % 2 ^ 64 ≡ after (suc n) c
after-suc n c = mod-add-mod (c + n) (2 ^ 64) 1 ∙ ap (λ (x : ℕ). x % 2 ^ 64) (omega arith)
