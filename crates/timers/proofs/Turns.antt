-- A tick turn by turn, and many ticks one by one: for whoever joins the timers to wires.
use Rattle.std.proofs.Common.{◌≡◌, ℕ, zero, suc, ◌+◌, ◌<◌, ◌≤◌, Bool, true, false, cond, get_or, refl, ◌∙◌, arith}
use Rattle.timers.specs.declared.Timers.{Timers}
use Rattle.timers.specs.State.{three, is_enabled}
use Rattle.timers.specs.Tick.{counted_of, matches_of, fired_of, turned_of, up_to, tick, fires_in, ticks, firings, drives_of, pulses_of, route_of}
use Rattle.timers.specs.Inner.{first, ran_of, raises_of}
use Rattle.timers.proofs.Three.{at-three}
use Rattle.timers.proofs.Each.{by_turn}
use Rattle.timers.proofs.Wires.{risen_of, fired-matches, counted-pulses, counted-raises, counted-route, counted-risen, counted-drives, fired-pulses, fired-raises, fired-route, fired-risen-kept, fired-drives-more}

-- ---- a turn

module _ (s : Timers) (m : ℕ) where
  pub turned-fires : matches_of s m ≡ true → turned_of s m ≡ fired_of s m
  unfolding turned_of
  turned-fires e = rw e

  pub turned-rests : matches_of s m ≡ false → turned_of s m ≡ s
  unfolding turned_of
  turned-rests e = rw e

  module _ (j : ℕ) (l : j < 3) where
    pub turned-matches : (j ≡ m → ⊥) → matches_of (turned_of s m) j ≡ matches_of s j
    turned-matches n = by_turn s m (λ u. matches_of u j ≡ matches_of s j) (λ e. fired-matches s m j l n) (λ e. refl)

    turned-pulses : pulses_of (turned_of s m) j ≡ pulses_of s j
    turned-pulses = by_turn s m (λ u. pulses_of u j ≡ pulses_of s j) (λ e. fired-pulses s m j l) (λ e. refl)

    turned-raises : raises_of (turned_of s m) j ≡ raises_of s j
    turned-raises = by_turn s m (λ u. raises_of u j ≡ raises_of s j) (λ e. fired-raises s m j l) (λ e. refl)

    turned-route : route_of (turned_of s m) j ≡ route_of s j
    turned-route = by_turn s m (λ u. route_of u j ≡ route_of s j) (λ e. fired-route s m j l) (λ e. refl)

    turned-risen : risen_of s j ≡ true → risen_of (turned_of s m) j ≡ true
    turned-risen q = by_turn s m (λ u. risen_of u j ≡ true) (λ e. fired-risen-kept s m j l q) (λ e. q)

  turned-drives : (p : ℕ) → drives_of s p ≡ true → drives_of (turned_of s m) p ≡ true
  turned-drives p q = by_turn s m (λ u. drives_of u p ≡ true) (λ e. fired-drives-more s m p q) (λ e. q)

-- ---- the turns

module _ (s : Timers) where
  pub turns-zero : up_to 0 s ≡ counted_of s
  unfolding up_to
  turns-zero = refl

  pub turns-suc : (m : ℕ) → up_to (suc m) s ≡ turned_of (up_to m s) m
  unfolding up_to
  turns-suc m = refl

  -- a timer whose turn has yet to come matches as it does once the counter has gone up
  pub turns-matches : (j m : ℕ) → j < 3 → m ≤ j → matches_of (up_to m s) j ≡ matches_of (counted_of s) j
  unfolding up_to
  turns-matches j zero l h = refl
  turns-matches j (suc m) l h = turned-matches (up_to m s) m j l (λ e. omega arith) ∙ turns-matches j m l (omega arith)

  pub turns-pulses : (j m : ℕ) → j < 3 → pulses_of (up_to m s) j ≡ pulses_of s j
  unfolding up_to
  turns-pulses j zero l = counted-pulses s j
  turns-pulses j (suc m) l = turned-pulses (up_to m s) m j l ∙ turns-pulses j m l

  pub turns-raises : (j m : ℕ) → j < 3 → raises_of (up_to m s) j ≡ raises_of s j
  unfolding up_to
  turns-raises j zero l = counted-raises s j
  turns-raises j (suc m) l = turned-raises (up_to m s) m j l ∙ turns-raises j m l

  pub turns-route : (j m : ℕ) → j < 3 → route_of (up_to m s) j ≡ route_of s j
  unfolding up_to
  turns-route j zero l = counted-route s j
  turns-route j (suc m) l = turned-route (up_to m s) m j l ∙ turns-route j m l

  pub turns-risen : (j m : ℕ) → j < 3 → risen_of s j ≡ true → risen_of (up_to m s) j ≡ true
  unfolding up_to
  turns-risen j zero l q = counted-risen s j ∙ q
  turns-risen j (suc m) l q = turned-risen (up_to m s) m j l (turns-risen j m l q)

  pub turns-drives : (p m : ℕ) → drives_of s p ≡ true → drives_of (up_to m s) p ≡ true
  unfolding up_to
  turns-drives p zero q = counted-drives s p ∙ q
  turns-drives p (suc m) q = turned-drives (up_to m s) m p (turns-drives p m q)

  -- ---- a tick

  -- either way
  by-tick : (P : Timers → Type 0) → P (up_to 3 s) → P s → P (tick s)
  unfolding tick
  by-tick P f g = go (is_enabled s)
    where
      go : (b : Bool) → P (cond b (up_to 3 s) s)
      go true = f
      go false = g

  -- timer m fires in a tick if it matches once the counter has gone up
  pub fires-on : (m : ℕ) → m < 3 → is_enabled s ≡ true → fires_in s m ≡ matches_of (counted_of s) m
  unfolding fires_in
  fires-on m l e = rw e (turns-matches m m l (omega arith))

  pub fires-when : (m : ℕ) → is_enabled s ≡ true → fires_in s m ≡ matches_of (up_to m s) m
  unfolding fires_in
  fires-when m e = rw e

  pub fires-off : (m : ℕ) → is_enabled s ≡ false → fires_in s m ≡ false
  unfolding fires_in
  fires-off m e = rw e

  module _ (j : ℕ) (l : j < 3) where
    pub tick-pulses : pulses_of (tick s) j ≡ pulses_of s j
    tick-pulses = by-tick (λ u. pulses_of u j ≡ pulses_of s j) (turns-pulses j 3 l) refl

    pub tick-raises : raises_of (tick s) j ≡ raises_of s j
    tick-raises = by-tick (λ u. raises_of u j ≡ raises_of s j) (turns-raises j 3 l) refl

    pub tick-route : route_of (tick s) j ≡ route_of s j
    tick-route = by-tick (λ u. route_of u j ≡ route_of s j) (turns-route j 3 l) refl

    pub tick-risen : risen_of s j ≡ true → risen_of (tick s) j ≡ true
    tick-risen q = by-tick (λ u. risen_of u j ≡ true) (turns-risen j 3 l q) q

  pub tick-drives : (p : ℕ) → drives_of s p ≡ true → drives_of (tick s) p ≡ true
  tick-drives p q = by-tick (λ u. drives_of u p ≡ true) (turns-drives p 3 q) q

-- ---- many ticks

pub ticks-pulses : (j n : ℕ) (s : Timers) → j < 3 → pulses_of (ticks n s) j ≡ pulses_of s j
unfolding ticks
ticks-pulses j zero s l = refl
ticks-pulses j (suc n) s l = tick-pulses (ticks n s) j l ∙ ticks-pulses j n s l

pub ticks-raises : (j n : ℕ) (s : Timers) → j < 3 → raises_of (ticks n s) j ≡ raises_of s j
unfolding ticks
ticks-raises j zero s l = refl
ticks-raises j (suc n) s l = tick-raises (ticks n s) j l ∙ ticks-raises j n s l

pub ticks-route : (j n : ℕ) (s : Timers) → j < 3 → route_of (ticks n s) j ≡ route_of s j
unfolding ticks
ticks-route j zero s l = refl
ticks-route j (suc n) s l = tick-route (ticks n s) j l ∙ ticks-route j n s l

pub ticks-risen : (j n : ℕ) (s : Timers) → j < 3 → risen_of s j ≡ true → risen_of (ticks n s) j ≡ true
unfolding ticks
ticks-risen j zero s l q = q
ticks-risen j (suc n) s l q = tick-risen (ticks n s) j l (ticks-risen j n s l q)

pub ticks-drives : (p n : ℕ) (s : Timers) → drives_of s p ≡ true → drives_of (ticks n s) p ≡ true
unfolding ticks
ticks-drives p zero s q = q
ticks-drives p (suc n) s q = tick-drives (ticks n s) p (ticks-drives p n s q)

module _ (m : ℕ) (s : Timers) where
  pub firings-zero : firings m 0 s ≡ 0
  unfolding firings
  firings-zero = refl

  pub firings-suc : (n : ℕ) → firings m (suc n) s ≡ firings m n s + cond (fires_in (ticks n s) m) 1 0
  unfolding firings
  firings-suc n = refl

  pub first-zero : first m 0 s ≡ 0
  unfolding first
  first-zero = refl

-- ---- what `ran` gives

module _ (s : Timers) (n : ℕ) where
  pub ran-timers : (ran_of s n).timers ≡ ticks n s
  unfolding ran_of
  ran-timers = refl

  pub ran-fired : (m : ℕ) → m < 3 → get_or (ran_of s n).fired m 0 ≡ firings m n s
  unfolding ran_of
  ran-fired m l = at-three (λ j. firings j n s) 0 m l

  pub ran-firsts : (ran_of s n).first ≡ three (λ m. first m n s)
  unfolding ran_of
  ran-firsts = refl
