-- Each timer goes by itself: a turn, a tick and many ticks at each timer.
use Rattle.std.proofs.Common.{◌≡◌, ℕ, zero, suc, ◌+◌, ◌%◌, ◌^◌, ◌<◌, ◌≤◌, Bool, true, false, cond, ◌&&◌, eqb, length, sym, refl, ap, ◌∙◌, ap₂, add-zero, mod-eq_of_lt, arith}
use native.Mathlib.Decide.{ℕ_discrete}
use Rattle.timer.specs.State.{flag}
use Rattle.timer.specs.Tick.{meets, firing}
use Rattle.timer.specs.Alone.{after, stepped, alone, count, begun}
use Rattle.timer.proofs.Alone.{stepped-is, alone-zero, alone-suc, count-zero, count-suc, begun-zero, begun-suc, after-suc}
use Rattle.timers.specs.declared.Timers.{Timers}
use Rattle.timers.specs.State.{at, is_enabled}
use Rattle.timers.specs.Tick.{counted_of, matches_of, fired_of, turned_of, up_to, tick, fires_in, ticks, firings}
use Rattle.timers.specs.Inner.{first}
use Rattle.timers.proofs.Three.{at_same, at_other}

-- the counter goes up by one
abbrev pub up : ℕ → ℕ
up c = (c + 1) % 2 ^ 64

-- ---- a turn

module _ (s : Timers) (m : ℕ) where
  -- either way
  module _ (P : Timers → Type 0) where
    pub by_turn : (matches_of s m ≡ true → P (fired_of s m)) → (matches_of s m ≡ false → P s) → P (turned_of s m)
    unfolding turned_of
    by_turn f g = go (matches_of s m) refl
      where
        go : (b : Bool) → matches_of s m ≡ b → P (cond b (fired_of s m) s)
        go true e = f e
        go false e = g e

  pub fired-counter : (fired_of s m).counter ≡ s.counter
  unfolding fired_of
  fired-counter = refl

  pub fired-enabled : (fired_of s m).enabled ≡ s.enabled
  unfolding fired_of
  fired-enabled = refl

  pub fired-three : length (fired_of s m).timer ≡ 3
  unfolding fired_of
  fired-three = refl

  pub fired-same : m < 3 → at (fired_of s m) m ≡ firing (at s m)
  unfolding fired_of
  fired-same l = at_same s m (firing (at s m)) l

  pub fired-other : (j : ℕ) → j < 3 → (j ≡ m → ⊥) → at (fired_of s m) j ≡ at s j
  unfolding fired_of
  fired-other j l n = at_other s m (firing (at s m)) j l n

  pub turned-counter : (turned_of s m).counter ≡ s.counter
  turned-counter = by_turn (λ u. u.counter ≡ s.counter) (λ e. fired-counter) (λ e. refl)

  pub turned-enabled : (turned_of s m).enabled ≡ s.enabled
  turned-enabled = by_turn (λ u. u.enabled ≡ s.enabled) (λ e. fired-enabled) (λ e. refl)

  pub turned-three : length s.timer ≡ 3 → length (turned_of s m).timer ≡ 3
  turned-three l = by_turn (λ u. length u.timer ≡ 3) (λ e. fired-three) (λ e. l)

  pub turned_same : m < 3 → at (turned_of s m) m ≡ stepped s.counter (at s m)
  unfolding matches_of
  turned_same l =
      by_turn (λ u. at u m ≡ stepped s.counter (at s m))
      (λ e. fired-same l ∙ sym (stepped-is s.counter (at s m) ∙ rw e))
      (λ e. sym (stepped-is s.counter (at s m) ∙ rw e))

  pub turned-other : (j : ℕ) → j < 3 → (j ≡ m → ⊥) → at (turned_of s m) j ≡ at s j
  turned-other j l n = by_turn (λ u. at u j ≡ at s j) (λ e. fired-other j l n) (λ e. refl)

-- ---- the turns of a tick

module _ (s : Timers) where
  pub turns-counter : (m : ℕ) → (up_to m s).counter ≡ up s.counter
  unfolding up_to counted_of
  turns-counter zero = refl
  turns-counter (suc m) = turned-counter (up_to m s) m ∙ turns-counter m

  pub turns-enabled : (m : ℕ) → (up_to m s).enabled ≡ s.enabled
  unfolding up_to counted_of
  turns-enabled zero = refl
  turns-enabled (suc m) = turned-enabled (up_to m s) m ∙ turns-enabled m

  pub turns-three : (m : ℕ) → length s.timer ≡ 3 → length (up_to m s).timer ≡ 3
  unfolding up_to counted_of
  turns-three zero l = l
  turns-three (suc m) l = turned-three (up_to m s) m (turns-three m l)

  -- a timer whose turn has yet to come is as it was
  pub turns-before : (j m : ℕ) → j < 3 → m ≤ j → at (up_to m s) j ≡ at s j
  unfolding up_to counted_of
  turns-before j zero l h = refl
  turns-before j (suc m) l h = turned-other (up_to m s) m j l (λ e. omega arith) ∙ turns-before j m l (omega arith)

  -- a timer whose turn is over has had it at the new counter
  pub turns-after : (j m : ℕ) → j < 3 → j < m → at (up_to m s) j ≡ stepped (up s.counter) (at s j)
  unfolding up_to
  turns-after j zero l h = absurd (omega arith)
  turns-after j (suc m) l h = go (λ k. turns-after j m l k) (ℕ_discrete j m)
    where
      go : (j < m → at (up_to m s) j ≡ stepped (up s.counter) (at s j)) → Dec (j ≡ m) → at (turned_of (up_to m s) m) j ≡ stepped (up s.counter) (at s j)
      go f (yes e) =
          rw e
          (turned_same (up_to m s) m (rw e at l)
          ∙ ap₂ stepped (turns-counter m) (turns-before m m (rw e at l) (omega arith)))
      go f (no n) = turned-other (up_to m s) m j l n ∙ f (omega arith)

  -- a timer matches in its turn if it does at the new counter
  pub turns-match : (j m : ℕ) → j < 3 → m ≤ j → matches_of (up_to m s) j ≡ meets (up s.counter) (at s j)
  unfolding matches_of
  turns-match j m l h = ap₂ meets (turns-counter m) (turns-before j m l h)

  -- ---- a tick

  abbrev pub while : Bool → Timers
  while b = cond b (up_to 3 s) s

  pub tick-enabled : (tick s).enabled ≡ s.enabled
  unfolding tick
  tick-enabled = go (is_enabled s)
    where
      go : (b : Bool) → (while b).enabled ≡ s.enabled
      go true = turns-enabled 3
      go false = refl

  pub tick-counter : (tick s).counter ≡ cond (is_enabled s) (up s.counter) s.counter
  unfolding tick
  tick-counter = go (is_enabled s)
    where
      go : (b : Bool) → (while b).counter ≡ cond b (up s.counter) s.counter
      go true = turns-counter 3
      go false = refl

  pub tick-three : length s.timer ≡ 3 → length (tick s).timer ≡ 3
  unfolding tick
  tick-three l = go (is_enabled s)
    where
      go : (b : Bool) → length (while b).timer ≡ 3
      go true = turns-three 3 l
      go false = l

  pub tick-at : (j : ℕ) → j < 3 → at (tick s) j ≡ cond (is_enabled s) (stepped (up s.counter) (at s j)) (at s j)
  unfolding tick
  tick-at j l = go (is_enabled s)
    where
      go : (b : Bool) → at (while b) j ≡ cond b (stepped (up s.counter) (at s j)) (at s j)
      go true = turns-after j 3 l l
      go false = refl

  pub tick-off : is_enabled s ≡ false → tick s ≡ s
  unfolding tick
  tick-off e = rw e

  pub tick-on : is_enabled s ≡ true → tick s ≡ up_to 3 s
  unfolding tick
  tick-on e = rw e

  pub fires-in : (m : ℕ) → m < 3 → fires_in s m ≡ (is_enabled s && meets (up s.counter) (at s m))
  unfolding fires_in
  fires-in m l = ap (λ (b : Bool). is_enabled s && b) (turns-match m m l (omega arith))

  -- ---- many ticks

  pub ticks-zero : ticks 0 s ≡ s
  unfolding ticks
  ticks-zero = refl

  pub ticks-suc : (n : ℕ) → ticks (suc n) s ≡ tick (ticks n s)
  unfolding ticks
  ticks-suc n = refl

pub ticks-enabled : (n : ℕ) (s : Timers) → (ticks n s).enabled ≡ s.enabled
unfolding ticks
ticks-enabled zero s = refl
ticks-enabled (suc n) s = tick-enabled (ticks n s) ∙ ticks-enabled n s

pub ticks-three : (n : ℕ) (s : Timers) → length s.timer ≡ 3 → length (ticks n s).timer ≡ 3
unfolding ticks
ticks-three zero s l = l
ticks-three (suc n) s l = tick-three (ticks n s) (ticks-three n s l)

pub ticks-off : (n : ℕ) (s : Timers) → is_enabled s ≡ false → ticks n s ≡ s
unfolding ticks
ticks-off zero s e = refl
ticks-off (suc n) s e = ap tick (ticks-off n s e) ∙ tick-off s e

module _ (s : Timers) (on : is_enabled s ≡ true) (fits : s.counter < 2 ^ 64) where
  still-on : (n : ℕ) → is_enabled (ticks n s) ≡ true
  still-on n = ap flag (ticks-enabled n s) ∙ on

  pub ticks-counter : (n : ℕ) → (ticks n s).counter ≡ after n s.counter
  unfolding ticks
  ticks-counter zero = sym (ap (λ (c : ℕ). c % 2 ^ 64) (add-zero s.counter) ∙ mod-eq_of_lt fits)
  ticks-counter (suc n) =
      tick-counter (ticks n s)
      ∙ rw (still-on n) (ap up (ticks-counter n) ∙ after-suc n s.counter)

  -- the counter of the tick after n
  next-counter : (n : ℕ) → up (ticks n s).counter ≡ after (suc n) s.counter
  next-counter n = ap up (ticks-counter n) ∙ after-suc n s.counter

  pub ticks-at : (j n : ℕ) → j < 3 → at (ticks n s) j ≡ alone n s.counter (at s j)
  unfolding ticks
  ticks-at j zero l = sym (alone-zero s.counter (at s j))
  ticks-at j (suc n) l =
      tick-at (ticks n s) j l
      ∙ rw (still-on n) (ap₂ stepped (next-counter n) (ticks-at j n l) ∙ sym (alone-suc s.counter (at s j) n))

  fires-alone : (m n : ℕ) → m < 3 → fires_in (ticks n s) m ≡ meets (after (suc n) s.counter) (alone n s.counter (at s m))
  fires-alone m n l = fires-in (ticks n s) m l ∙ rw (still-on n) (ap₂ meets (next-counter n) (ticks-at m n l))

  pub firings-on : (m n : ℕ) → m < 3 → firings m n s ≡ count n s.counter (at s m)
  unfolding firings
  firings-on m zero l = sym (count-zero s.counter (at s m))
  firings-on m (suc n) l =
      ap₂ (λ (x : ℕ) (b : Bool). x + cond b 1 0) (firings-on m n l) (fires-alone m n l)
      ∙ sym (count-suc s.counter (at s m) n)

  pub first_on : (m n : ℕ) → m < 3 → first m n s ≡ begun n s.counter (at s m)
  unfolding first
  first_on m zero l = sym (begun-zero s.counter (at s m))
  first_on m (suc n) l =
      ap₂ (λ (x : ℕ) (b : Bool). cond (eqb x 0) (cond b (suc n) 0) x) (first_on m n l) (fires-alone m n l)
      ∙ sym (begun-suc s.counter (at s m) n)

module _ (s : Timers) (off : is_enabled s ≡ false) where
  fires-off : (m n : ℕ) → fires_in (ticks n s) m ≡ false
  unfolding fires_in
  fires-off m n = ap (λ (u : Timers). fires_in u m) (ticks-off n s off) ∙ rw off

  pub firings-off : (m n : ℕ) → firings m n s ≡ 0
  unfolding firings
  firings-off m zero = refl
  firings-off m (suc n) = ap₂ (λ (x : ℕ) (b : Bool). x + cond b 1 0) (firings-off m n) (fires-off m n)

  pub first_off : (m n : ℕ) → first m n s ≡ 0
  unfolding first
  first_off m zero = refl
  first_off m (suc n) = ap₂ (λ (x : ℕ) (b : Bool). cond (eqb x 0) (cond b (suc n) 0) x) (first_off m n) (fires-off m n)
