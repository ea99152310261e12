-- Many ticks: the pins change only at the first firing of each timer, so an advance may go from one of these ticks to
-- the next.
use Prim.Native.Nat.{ℕ, zero, suc, ◌+◌, ◌<◌}
use mathlib.Core.Path.{◌≡◌, refl, sym, ap, ap₂, ◌∙◌}
use mathlib.Core.Bool.{Bool, true, cond}
use mathlib.Core.Logic.{◌⊎◌, inl, inr}
use native.Mathlib.Nat.{add-zero, add-suc, add_assoc}
use Rattle.timers.specs.declared.Timers.{Timers}
use Rattle.timers.specs.Tick.{tick as timers_tick, ticks as timers_ticks, fires_in as timers_fires_in, firings as timers_firings}
use Rattle.timers.specs.Inner.{first}
use Rattle.timers.proofs.Each.{ticks-zero, ticks-suc}
use Rattle.timers.proofs.Turns.{firings-zero, firings-suc, first-zero}
use Rattle.timers.proofs.First.{first-fires}
use Rattle.board.specs.declared.Board.{Board}
use Rattle.board.specs.Tick.{tick, fires_in, ticks, firings}
use Rattle.board.proofs.Formed.{Formed}
use Rattle.board.proofs.Turns.{Still, tick-timers, tick-outside, tick-formed, tick-fires, tick-still}

-- ---- portions: state, and counts

pub ticks-add : (a k : ℕ) (b : Board) → ticks (a + k) b ≡ ticks k (ticks a b)
unfolding ticks
ticks-add a zero b = ap (λ (n : ℕ). ticks n b) (add-zero a)
ticks-add a (suc k) b = ap (λ (n : ℕ). ticks n b) (add-suc a k) ∙ ap tick (ticks-add a k b)

pub firings-add : (m a k : ℕ) (b : Board) → firings m (a + k) b ≡ firings m a b + firings m k (ticks a b)
unfolding firings
firings-add m a zero b = ap (λ (n : ℕ). firings m n b) (add-zero a) ∙ sym (add-zero (firings m a b))
firings-add m a (suc k) b =
    ap (λ (n : ℕ). firings m n b) (add-suc a k)
    ∙ ap₂ (λ (x : ℕ) (y : Board). x + cond (fires_in m y) 1 0) (firings-add m a k b) (ticks-add a k b)
    ∙ add_assoc (firings m a b) (firings m k (ticks a b)) (cond (fires_in m (ticks k (ticks a b))) 1 0)

module _ (b : Board) (z : Formed b) where
  pub ticks-formed : (n : ℕ) → Formed (ticks n b)
  unfolding ticks
  ticks-formed zero = z
  ticks-formed (suc n) = tick-formed (ticks n b) (ticks-formed n)

  pub ticks-timers : (n : ℕ) → (ticks n b).timers ≡ timers_ticks n b.timers
  unfolding ticks
  ticks-timers zero = sym (ticks-zero b.timers)
  ticks-timers (suc n) = tick-timers (ticks n b) (ticks-formed n) ∙ ap timers_tick (ticks-timers n) ∙ sym (ticks-suc b.timers n)

  pub ticks-outside : (n : ℕ) → (ticks n b).outside ≡ b.outside
  unfolding ticks
  ticks-outside zero = refl
  ticks-outside (suc n) = tick-outside (ticks n b) (ticks-formed n) ∙ ticks-outside n

  fires-as : (m n : ℕ) → fires_in m (ticks n b) ≡ timers_fires_in (timers_ticks n b.timers) m
  fires-as m n = tick-fires (ticks n b) (ticks-formed n) m ∙ ap (λ (x : Timers). timers_fires_in x m) (ticks-timers n)

  -- the counts are the timer block's
  pub ticks-firings : (m n : ℕ) → firings m n b ≡ timers_firings m n b.timers
  unfolding firings
  ticks-firings m zero = sym (firings-zero m b.timers)
  ticks-firings m (suc n) = ap₂ (λ (x : ℕ) (f : Bool). x + cond f 1 0) (ticks-firings m n) (fires-as m n) ∙ sym (firings-suc m b.timers n)

  -- timer m has fired in n ticks
  abbrev Begun : ℕ → ℕ → Type 0
  Begun m n = first m n b.timers ≡ 0 → ⊥

  -- a timer that has fired is still
  pub still_after : (m : ℕ) → m < 3 → (n : ℕ) → Begun m n → Still m (ticks n b)
  unfolding ticks
  still_after m l zero f = absurd (f (first-zero m b.timers))
  still_after m l (suc n) f = tick-still (ticks n b) (ticks-formed n) m l (go (still_after m l n) (first-fires m n b.timers f))
    where
      go : (Begun m n → Still m (ticks n b)) → Begun m n ⊎ (timers_fires_in (timers_ticks n b.timers) m ≡ true) → Still m (ticks n b) ⊎ (timers_fires_in (ticks n b).timers m ≡ true)
      go s (inl h) = inl (s h)
      go s (inr h) = inr (ap (λ (x : Timers). timers_fires_in x m) (ticks-timers n) ∙ h)
