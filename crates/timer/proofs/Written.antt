-- Register writes as the code makes them.
use Rattle.std.proofs.Common.{◌≡◌, ℕ, true, false, cond, ap, ◌∙◌, ap₂}
use Rattle.timer.specs.declared.Timer.{Timer}
use Rattle.timer.specs.State.{flag, reduced, narrowed, with_comparator, with_period, with_set}
use Rattle.timer.specs.Registers.{set_of}

pub sets-periodic :
    (t : Timer) (c p x y k : ℕ) → flag t.periodic ≡ true → x ≡ reduced (narrowed t) c → y ≡ reduced (narrowed t) p →
    k ≡ cond (flag t.set_comparator) x t.comparator → with_set (with_period (with_comparator t k) y) 0 ≡ set_of t c p
unfolding set_of
sets-periodic t c p x y k e ex ey ek = rw e (ap₂ (λ (a b : ℕ). with_set (with_period (with_comparator t a) b) 0) (ek ∙ ap (λ (z : ℕ). cond (flag t.set_comparator) z t.comparator) ex) ey)

pub sets-once : (t : Timer) (c p x : ℕ) → flag t.periodic ≡ false → x ≡ reduced (narrowed t) c → with_comparator t x ≡ set_of t c p
unfolding set_of
sets-once t c p x e ex = rw e (ap (with_comparator t) ex)
