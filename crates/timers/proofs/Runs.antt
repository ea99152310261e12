-- Two runs that agree on all but one timer.
use Rattle.std.proofs.Common.{◌≡◌, ℕ, zero, suc, ◌+◌, ◌<◌, Bool, cond, ◌&&◌, sym, refl, ap, ◌∙◌, ap₂}
use Rattle.timer.specs.declared.Timer.{Timer}
use Rattle.timer.specs.State.{flag}
use Rattle.timer.specs.Tick.{meets}
use Rattle.timer.specs.Alone.{stepped}
use Rattle.timers.specs.declared.Timers.{Timers}
use Rattle.timers.specs.State.{at}
use Rattle.timers.specs.Tick.{tick, fires_in, ticks, firings}
use Rattle.timers.proofs.Each.{up, tick-enabled, tick-counter, tick-at, fires-in}

-- they agree on the counter, the enable bit and every timer but m
pub record SameBut (m : ℕ) (s s' : Timers) : Type 0 where
  pub enabled-same : s.enabled ≡ s'.enabled
  pub counter-same : s.counter ≡ s'.counter
  pub others : (i : ℕ) → i < 3 → (i ≡ m → ⊥) → at s i ≡ at s' i

abbrev look : ℕ → ℕ → Timer → Timer
look e c t = cond (flag e) (stepped (up c) t) t

tick-alike : (m : ℕ) (s s' : Timers) → SameBut m s s' → SameBut m (tick s) (tick s')
tick-alike m s s' h =
    record {
      enabled-same = tick-enabled s ∙ h.enabled-same ∙ sym (tick-enabled s');
      counter-same =
          tick-counter s
          ∙ ap₂ (λ (e c : ℕ). cond (flag e) (up c) c) h.enabled-same h.counter-same
          ∙ sym (tick-counter s');
      others = λ i l n.
          tick-at s i l
          ∙ ap₂ (λ (e c : ℕ). look e c (at s i)) h.enabled-same h.counter-same
          ∙ ap (look s'.enabled s'.counter) (h.others i l n)
          ∙ sym (tick-at s' i l);
    }

pub ticks-alike : (m n : ℕ) (s s' : Timers) → SameBut m s s' → SameBut m (ticks n s) (ticks n s')
unfolding ticks
ticks-alike m zero s s' h = h
ticks-alike m (suc n) s s' h = tick-alike m (ticks n s) (ticks n s') (ticks-alike m n s s' h)

fires-alike : (m i : ℕ) (s s' : Timers) → SameBut m s s' → i < 3 → (i ≡ m → ⊥) → fires_in s i ≡ fires_in s' i
fires-alike m i s s' h l n =
    fires-in s i l
    ∙ ap₂ (λ (e c : ℕ). flag e && meets (up c) (at s i)) h.enabled-same h.counter-same
    ∙ ap (λ (t : Timer). flag s'.enabled && meets (up s'.counter) t) (h.others i l n)
    ∙ sym (fires-in s' i l)

pub firings-alike : (m i n : ℕ) (s s' : Timers) → SameBut m s s' → i < 3 → (i ≡ m → ⊥) → firings i n s ≡ firings i n s'
unfolding firings
firings-alike m i zero s s' h l ne = refl
firings-alike m i (suc n) s s' h l ne =
    ap₂ (λ (x : ℕ) (b : Bool). x + cond b 1 0)
    (firings-alike m i n s s' h l ne)
    (fires-alike m i (ticks n s) (ticks n s') (ticks-alike m n s s' h) l ne)
