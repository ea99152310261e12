-- Portions: a + b ticks are b ticks after a ticks, and the counts add up.
use Rattle.std.proofs.Common.{◌≡◌, ℕ, zero, suc, ◌+◌, cond, List, [], ◌∷◌, sym, ap, ◌∙◌, ap₂, add-zero, add_assoc, add-suc}
use Rattle.timers.specs.declared.Timers.{Timers}
use Rattle.timers.specs.Tick.{tick, fires_in, ticks, firings}

pub ticks-add : (a b : ℕ) (s : Timers) → ticks (a + b) s ≡ ticks b (ticks a s)
unfolding ticks
ticks-add a zero s = ap (λ (n : ℕ). ticks n s) (add-zero a)
ticks-add a (suc b) s = ap (λ (n : ℕ). ticks n s) (add-suc a b) ∙ ap tick (ticks-add a b s)

pub firings-add : (m a b : ℕ) (s : Timers) → firings m (a + b) s ≡ firings m a s + firings m b (ticks a s)
unfolding firings
firings-add m a zero s = ap (λ (n : ℕ). firings m n s) (add-zero a) ∙ sym (add-zero (firings m a s))
firings-add m a (suc b) s =
    ap (λ (n : ℕ). firings m n s) (add-suc a b)
    ∙ ap₂ (λ (x : ℕ) (z : Timers). x + cond (fires_in z m) 1 0) (firings-add m a b s) (ticks-add a b s)
    ∙ add_assoc (firings m a s) (firings m b (ticks a s)) (cond (fires_in (ticks b (ticks a s)) m) 1 0)

-- ---- any list of portions, zeros too

unfoldable pub total : List ℕ → ℕ
total [] = 0
total (n ∷ ns) = n + total ns
