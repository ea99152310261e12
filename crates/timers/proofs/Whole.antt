-- The block's answer from its timers': what the proof of `Timers::ran` cites.
use Rattle.std.proofs.Common.{◌≡◌, ℕ, ◌^◌, ◌<◌, true, false, List, [], ◌∷◌, length, sym, ◌∙◌}
use Rattle.timer.specs.declared.Timer.{Timer}
use Rattle.timer.specs.declared.Run.{Run}
use Rattle.timer.specs.Alone.{after, alone, count, begun, run_of}
use Rattle.timer.proofs.Alone.{run_is}
use Rattle.timers.specs.declared.Timers.{Timers}
use Rattle.timers.specs.declared.Ran.{Ran}
use Rattle.timers.specs.State.{three, at, is_enabled, with_counter, with_enabled, with_list}
use Rattle.timers.specs.Tick.{ticks, firings}
use Rattle.timers.specs.Inner.{first, ran, ran_of}
use Rattle.timers.proofs.Three.{three-same, eta}
use Rattle.timers.proofs.Settings.{ticks-kept}
use Rattle.timers.proofs.Each.{ticks-off, firings-off, first_off, ticks-enabled, ticks-three, ticks-counter, ticks-at, firings-on, first_on}

-- disabled
pub ran-off : (s : Timers) (n : ℕ) → is_enabled s ≡ false → ran s (λ m. 0) (λ m. 0) ≡ ran_of s n
unfolding ran_of
ran-off s n e =
    λ i. record {
      timers = sym (ticks-off n s e) i;
      fired = three-same (λ m. 0) (λ m. firings m n s) (λ m l. sym (firings-off s e m n)) i;
      first = three-same (λ m. 0) (λ m. first m n s) (λ m l. sym (first_off s e m n)) i;
    }

abbrev block : Timers → ℕ → ℕ → List Timer → Timers
block s c e l = with_counter (with_enabled (with_list s l) e) c

module _ (s : Timers) (n : ℕ) (on : is_enabled s ≡ true) (fits : s.counter < 2 ^ 64) (size : length s.timer ≡ 3) where
  ticks-whole : ticks n s ≡ block s (after n s.counter) s.enabled (three (λ m. alone n s.counter (at s m)))
  ticks-whole =
      eta (ticks n s) (ticks-three n s size)
      ∙ (λ i. record {
        counter = ticks-counter s on fits n i;
        tick_period = (ticks-kept n s).period i;
        vendor = (ticks-kept n s).vendor i;
        masks = (ticks-kept n s).masks i;
        enabled = ticks-enabled n s i;
        timer = three-same (at (ticks n s)) (λ m. alone n s.counter (at s m)) (λ m l. ticks-at s on fits m n l) i;
      })

  -- enabled: each timer by itself
  pub ran_on :
      (c : ℕ) (r0 r1 r2 : Run) → c ≡ after n s.counter → r0 ≡ run_of (at s 0) s.counter n → r1 ≡ run_of (at s 1) s.counter n → r2 ≡ run_of (at s 2) s.counter n →
      record {
        timers = block s c s.enabled (r0.timer ∷ r1.timer ∷ r2.timer ∷ []);
        fired = r0.fired ∷ r1.fired ∷ r2.fired ∷ [];
        first = r0.first ∷ r1.first ∷ r2.first ∷ [];
      }
      ≡ ran_of s n
  unfolding ran_of
  ran_on c r0 r1 r2 ec e0 e1 e2 =
      (λ i. made (ec i) ((e0 ∙ run_is s.counter (at s 0) n) i) ((e1 ∙ run_is s.counter (at s 1) n) i) ((e2 ∙ run_is s.counter (at s 2) n) i))
      ∙ (λ i. record {
        timers = sym ticks-whole i;
        fired = three-same (λ m. count n s.counter (at s m)) (λ m. firings m n s) (λ m l. sym (firings-on s on fits m n l)) i;
        first = three-same (λ m. begun n s.counter (at s m)) (λ m. first m n s) (λ m l. sym (first_on s on fits m n l)) i;
      })
    where
      made : ℕ → Run → Run → Run → Ran
      made k x y z = record { timers = block s k s.enabled (x.timer ∷ y.timer ∷ z.timer ∷ []); fired = x.fired ∷ y.fired ∷ z.fired ∷ []; first = x.first ∷ y.first ∷ z.first ∷ [] }
