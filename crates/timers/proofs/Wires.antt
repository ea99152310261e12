-- The timers' part of the wire rule, and what counting and firing do to it.
use Rattle.std.proofs.Common.{◌≡◌, ℕ, zero, suc, ◌<◌, Bool, true, false, cond, ◌&&◌, ◌||◌, eqb, sym, refl, ap, ◌∙◌, ap₂, arith, lit<, ne_eqb, Some, None}
use Rattle.std.specs.Option.{unwrap_or}
use native.Mathlib.Decide.{ℕ_discrete}
use Rattle.timer.specs.declared.Timer.{Timer}
use Rattle.timer.specs.State.{flag}
use Rattle.timer.specs.Tick.{meets, firing, pulsing, driving}
use Rattle.timer.specs.Inner.{raising, holding}
use Rattle.timer.proofs.Wire.{risen, firing-route, firing-pulsing, firing-raising, firing-risen, pulsing-risen, driving-pin, driving-same, driving-fired, driving-more}
use Rattle.timers.specs.declared.Timers.{Timers}
use Rattle.settings.specs.declared.Settings.{Settings}
use Rattle.timers.specs.State.{reset_to, at, is_enabled}
use Rattle.timers.specs.Tick.{counted_of, matches_of, fired_of, drives_of, pulses_of, route_of}
use Rattle.timers.specs.Inner.{driven_pin, driven_of, raises_of}
use Rattle.timers.proofs.Each.{fired-counter, fired-enabled, fired-same, fired-other}

-- timer m is edge type, or has its status set: its firing moves no wire but by a pulse
unfoldable pub risen_of : Timers → ℕ → Bool
risen_of s m = risen (at s m)

pub pulses-risen : (s : Timers) (m : ℕ) → pulses_of s m ≡ true → risen_of s m ≡ true
unfolding pulses_of risen_of
pulses-risen s m e = pulsing-risen (at s m) e

-- ---- two states whose timers drive alike

or-more : (a b c d : Bool) → (a ≡ true → b ≡ true) → (c ≡ true → d ≡ true) → (a || c) ≡ true → (b || d) ≡ true
or-more true b c d f g h = rw (f refl)
or-more false true c d f g h = refl
or-more false false c d f g h = g h

and-more : (o a b : Bool) → (a ≡ true → b ≡ true) → (o && a) ≡ true → (o && b) ≡ true
and-more true a b f h = f h
and-more false a b f h = h

module _ (s s' : Timers) (p : ℕ) (e : s'.enabled ≡ s.enabled) where
  pub drives-alike : ((j : ℕ) → j < 3 → driving (at s' j) p ≡ driving (at s j) p) → drives_of s' p ≡ drives_of s p
  unfolding drives_of
  drives-alike f = λ i. flag (e i) && (f 0 (lit< tt) i || (f 1 (lit< tt) i || f 2 (lit< tt) i))

  drives-more : ((j : ℕ) → j < 3 → driving (at s j) p ≡ true → driving (at s' j) p ≡ true) → drives_of s p ≡ true → drives_of s' p ≡ true
  unfolding drives_of
  drives-more f q =
      ap (λ (x : ℕ). flag x && (driving (at s' 0) p || (driving (at s' 1) p || driving (at s' 2) p))) e
      ∙ and-more (flag s.enabled) (driving (at s 0) p || (driving (at s 1) p || driving (at s 2) p)) (driving (at s' 0) p || (driving (at s' 1) p || driving (at s' 2) p))
      (or-more (driving (at s 0) p) (driving (at s' 0) p) (driving (at s 1) p || driving (at s 2) p) (driving (at s' 1) p || driving (at s' 2) p) (f 0 (lit< tt))
      (or-more (driving (at s 1) p) (driving (at s' 1) p) (driving (at s 2) p) (driving (at s' 2) p) (f 1 (lit< tt)) (f 2 (lit< tt))))
      q

-- a block that was reset drives nothing
pub reset-drives : (z : Settings) (p : ℕ) → drives_of (reset_to z) p ≡ false
unfolding drives_of reset_to
reset-drives z p = refl

-- the pin that timer m drives, as a number
pub driven-number : (s : Timers) (m : ℕ) → unwrap_or (driven_pin s m) 24 ≡ driven_of s m
unfolding driven_pin driven_of
driven-number s m = go (is_enabled s && holding (at s m))
  where
    go : (x : Bool) → unwrap_or (cond x (Some (at s m).route) None) 24 ≡ cond x (at s m).route 24
    go true = refl
    go false = refl

-- of a pin below 24: it is one that a timer drives
pub drives-pin : (s : Timers) (p : ℕ) → p < 24 → drives_of s p ≡ (eqb (driven_of s 0) p || (eqb (driven_of s 1) p || eqb (driven_of s 2) p))
unfolding drives_of driven_of
drives-pin s p h = go (is_enabled s)
  where
    none : false ≡ eqb 24 p
    none = sym (ne_eqb 24 p (λ e. omega arith))

    one : (j : ℕ) → driving (at s j) p ≡ eqb (cond (holding (at s j)) (at s j).route 24) p
    one j = driving-pin (at s j) p ∙ at_pin (holding (at s j))
      where
        at_pin : (x : Bool) → (x && eqb (at s j).route p) ≡ eqb (cond x (at s j).route 24) p
        at_pin true = refl
        at_pin false = none

    go :
        (x : Bool) →
        (x && (driving (at s 0) p || (driving (at s 1) p || driving (at s 2) p)))
        ≡ (eqb (cond (x && holding (at s 0)) (at s 0).route 24) p || (eqb (cond (x && holding (at s 1)) (at s 1).route 24) p || eqb (cond (x && holding (at s 2)) (at s 2).route 24) p))
    go true = λ i. one 0 i || (one 1 i || one 2 i)
    go false = λ i. none i || (none i || none i)

-- ---- counting

module _ (s : Timers) where
  pub counted-drives : (p : ℕ) → drives_of (counted_of s) p ≡ drives_of s p
  unfolding counted_of drives_of
  counted-drives p = refl

  module _ (j : ℕ) where
    pub counted-pulses : pulses_of (counted_of s) j ≡ pulses_of s j
    unfolding counted_of pulses_of
    counted-pulses = refl

    pub counted-raises : raises_of (counted_of s) j ≡ raises_of s j
    unfolding counted_of raises_of
    counted-raises = refl

    pub counted-route : route_of (counted_of s) j ≡ route_of s j
    unfolding counted_of route_of
    counted-route = refl

    pub counted-risen : risen_of (counted_of s) j ≡ risen_of s j
    unfolding counted_of risen_of
    counted-risen = refl

-- ---- the firing of timer m

module _ (s : Timers) (m : ℕ) where
  -- each timer is as it was, or fired
  by-firing : (P : Timer → Type 0) (j : ℕ) → j < 3 → (j ≡ m → P (firing (at s m))) → P (at s j) → P (at (fired_of s m) j)
  by-firing P j l f g = go (ℕ_discrete j m)
    where
      go : Dec (j ≡ m) → P (at (fired_of s m) j)
      go (yes e) = rw e (rw (fired-same s m (rw e at l)) (f e))
      go (no n) = rw (fired-other s m j l n) g

  module _ (j : ℕ) (l : j < 3) where
    pub fired-pulses : pulses_of (fired_of s m) j ≡ pulses_of s j
    unfolding pulses_of
    fired-pulses = by-firing (λ t. pulsing t ≡ pulsing (at s j)) j l (λ e. rw e (firing-pulsing (at s m))) refl

    pub fired-raises : raises_of (fired_of s m) j ≡ raises_of s j
    unfolding raises_of
    fired-raises = by-firing (λ t. raising t ≡ raising (at s j)) j l (λ e. rw e (firing-raising (at s m))) refl

    pub fired-route : route_of (fired_of s m) j ≡ route_of s j
    unfolding route_of
    fired-route = by-firing (λ t. t.route ≡ (at s j).route) j l (λ e. rw e (firing-route (at s m))) refl

    -- a timer that had risen still has
    pub fired-risen-kept : risen_of s j ≡ true → risen_of (fired_of s m) j ≡ true
    unfolding risen_of
    fired-risen-kept q = by-firing (λ t. risen t ≡ true) j l (λ e. firing-risen (at s m)) q

    -- another timer matches as before
    pub fired-matches : (j ≡ m → ⊥) → matches_of (fired_of s m) j ≡ matches_of s j
    unfolding matches_of
    fired-matches n = ap₂ meets (fired-counter s m) (fired-other s m j l n)

  -- timer m has risen after it
  pub fired-risen : m < 3 → risen_of (fired_of s m) m ≡ true
  unfolding risen_of
  fired-risen l = rw (fired-same s m l) (firing-risen (at s m))

  module _ (p : ℕ) where
    -- no wire moves, where timer m had risen
    pub fired-drives-same : risen_of s m ≡ true → drives_of (fired_of s m) p ≡ drives_of s p
    unfolding risen_of
    fired-drives-same q = drives-alike s (fired_of s m) p (fired-enabled s m) (λ j l. by-firing (λ t. driving t p ≡ driving (at s j) p) j l (λ e. rw e (driving-same (at s m) p q)) refl)

    -- of an enabled block, the wires that it drives are those that it drove, and timer m's pin's, where the timer raises it
    pub fired-drives : m < 3 → is_enabled s ≡ true → drives_of (fired_of s m) p ≡ drives_of s p || (raises_of s m && eqb (route_of s m) p)
    unfolding drives_of raises_of route_of
    fired-drives l e =
        ap₂ ◌&&◌ (ap flag (fired-enabled s m) ∙ e) (which m refl l)
        ∙ ap (λ (b : Bool). (b && (d 0 || (d 1 || d 2))) || more) (sym e)
      where
        more : Bool
        more = raising (at s m) && eqb (at s m).route p

        d : ℕ → Bool
        d j = driving (at s j) p

        d' : ℕ → Bool
        d' j = driving (at (fired_of s m) j) p

        hit : (j : ℕ) → j ≡ m → d' j ≡ d j || more
        hit j q = ap d' q ∙ ap (λ (t : Timer). driving t p) (fired-same s m l) ∙ driving-fired (at s m) p ∙ ap (λ (k : ℕ). d k || more) (sym q)

        miss : (j : ℕ) → j < 3 → (j ≡ m → ⊥) → d' j ≡ d j
        miss j h n = ap (λ (t : Timer). driving t p) (fired-other s m j h n)

        first : (a b x : Bool) → ((a || x) || b) ≡ ((a || b) || x)
        first true b x = refl
        first false true true = refl
        first false true false = refl
        first false false true = refl
        first false false false = refl

        later : (a b x : Bool) → (a || (b || x)) ≡ ((a || b) || x)
        later true b x = refl
        later false b x = refl

        which : (k : ℕ) → k ≡ m → k < 3 → (d' 0 || (d' 1 || d' 2)) ≡ ((d 0 || (d 1 || d 2)) || more)
        which zero q h =
            (λ i. hit 0 q i || (miss 1 (lit< tt) (λ r. omega arith) i || miss 2 (lit< tt) (λ r. omega arith) i))
            ∙ first (d 0) (d 1 || d 2) more
        which (suc zero) q h =
            (λ i. miss 0 (lit< tt) (λ r. omega arith) i || (hit 1 q i || miss 2 (lit< tt) (λ r. omega arith) i))
            ∙ ap (◌||◌ (d 0)) (first (d 1) (d 2) more)
            ∙ later (d 0) (d 1 || d 2) more
        which (suc (suc zero)) q h =
            (λ i. miss 0 (lit< tt) (λ r. omega arith) i || (miss 1 (lit< tt) (λ r. omega arith) i || hit 2 q i))
            ∙ ap (◌||◌ (d 0)) (later (d 1) (d 2) more)
            ∙ later (d 0) (d 1 || d 2) more
        which (suc (suc (suc k))) q h = absurd (omega arith)

    -- wires only rise
    pub fired-drives-more : drives_of s p ≡ true → drives_of (fired_of s m) p ≡ true
    fired-drives-more = drives-more s (fired_of s m) p (fired-enabled s m) (λ j l q. by-firing (λ t. driving t p ≡ true) j l (λ e. driving-more (at s m) p (rw e at q)) q)

-- ---- reset: no wire is driven
