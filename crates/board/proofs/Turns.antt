-- A turn and a tick: the timers' part is the timer block's, the board stays well formed, and which timers are still.
use Prim.Native.Nat.{ℕ, zero, suc, ◌<◌, ◌≤◌, zero-le}
use mathlib.Core.Path.{◌≡◌, refl, sym, ap, ◌∙◌}
use mathlib.Core.Bool.{Bool, true, false, cond, not, ◌&&◌, ◌||◌}
use mathlib.Core.Logic.{◌⊎◌, inl, inr}
use native.Mathlib.Omega.{arith}
use native.Mathlib.Decide.{ℕ_discrete}
use lib.Dec.{lit≤}
use Rattle.pins.proofs.Bools.{clash, and_left, and_right, and_both}
use Rattle.entries.proofs.Pulse.{settled}
use Rattle.controller.specs.declared.Controller.{Controller}
use Rattle.timers.specs.declared.Timers.{Timers}
use Rattle.timers.specs.State.{is_enabled}
use Rattle.timers.specs.Tick.{counted_of, matches_of, turned_of, pulses_of, route_of, up_to as timers_up_to, tick as timers_tick, fires_in as timers_fires_in}
use Rattle.timers.proofs.Each.{tick-on, tick-off}
use Rattle.timers.proofs.Wires.{risen_of, counted-drives, counted-risen, counted-pulses, counted-route, fired-matches}
use Rattle.timers.proofs.Turns.{turned-fires, turned-rests, turns-zero, turns-suc, turns-matches, fires-on, fires-when, fires-off}
use Rattle.timers.proofs.Formed.{counted-formed}
use Rattle.board.specs.declared.Board.{Board}
use Rattle.board.specs.Tick.{fire, turned, up_to, tick, fires_in}
use Rattle.board.proofs.Rule.{wires-same}
use Rattle.board.proofs.Formed.{Formed}
use Rattle.board.proofs.Fire.{still, fire-formed, fire-quiet, fire-stills, still_kept}

-- ---- a turn

pub turned-timers : (m : ℕ) (b : Board) → (turned m b).timers ≡ turned_of b.timers m
unfolding turned
turned-timers m b = go (matches_of b.timers m) refl
  where
    go : (f : Bool) → matches_of b.timers m ≡ f → (cond f (fire m b) b).timers ≡ turned_of b.timers m
    go true e = sym (turned-fires b.timers m e)
    go false e = sym (turned-rests b.timers m e)

pub turned-outside : (m : ℕ) (b : Board) → (turned m b).outside ≡ b.outside
unfolding turned
turned-outside m b = go (matches_of b.timers m)
  where
    go : (f : Bool) → (cond f (fire m b) b).outside ≡ b.outside
    go true = refl
    go false = refl

-- timer j of the board is still
abbrev pub Still : ℕ → Board → Type 0
Still j b = still b.controller b.timers j ≡ true

-- before timer m's turn: timer j is still, or is about to fire
abbrev Pend : ℕ → ℕ → Board → Type 0
Pend m j b = Still j b ⊎ ((m ≤ j) × (matches_of b.timers j ≡ true))

above : {j m : ℕ} → (j ≡ m → ⊥) → m ≤ j → suc m ≤ j
above n h = omega arith

module _ (b : Board) (z : Formed b) (m : ℕ) (l : m < 3) where
  pub turned-formed : Formed (turned m b)
  unfolding turned
  turned-formed = go (matches_of b.timers m)
    where
      go : (f : Bool) → Formed (cond f (fire m b) b)
      go true = fire-formed b z m l
      go false = z

  pub turned-quiet : (matches_of b.timers m ≡ true → Still m b) → (turned m b).controller ≡ b.controller
  unfolding turned
  turned-quiet q = go (matches_of b.timers m) q
    where
      go : (f : Bool) → (f ≡ true → Still m b) → (cond f (fire m b) b).controller ≡ b.controller
      go true q = fire-quiet b z m l (q refl)
      go false q = refl

  -- a still timer stays still, whichever timer's turn it is
  turned-keep : (j : ℕ) → j < 3 → Still j b → Still j (turned m b)
  unfolding turned
  turned-keep j k q = go (matches_of b.timers m)
    where
      go : (f : Bool) → Still j (cond f (fire m b) b)
      go true = still_kept b z m l j k q
      go false = q

  there : (j : ℕ) → j < 3 → (j ≡ m → ⊥) → Pend m j b → Pend (suc m) j (fire m b)
  there j k n (inl q) = inl (still_kept b z m l j k q)
  there j k n (inr q) = inr (above n q.0, fired-matches b.timers m j k n ∙ q.1)

  turned-pend : (j : ℕ) → j < 3 → Pend m j b → Pend (suc m) j (turned m b)
  unfolding turned
  turned-pend j k p = go (matches_of b.timers m) refl (ℕ_discrete j m) p
    where
      go : (f : Bool) → matches_of b.timers m ≡ f → Dec (j ≡ m) → Pend m j b → Pend (suc m) j (cond f (fire m b) b)
      go true e (yes q) p = inl (rw q (fire-stills b z m l))
      go true e (no n) p = there j k n p
      go false e d (inl q) = inl q
      go false e (yes q) (inr h) = clash (sym h.1 ∙ ap (matches_of b.timers) q ∙ e)
      go false e (no n) (inr h) = inr (above n h.0, h.1)

-- a still timer stays so over whatever keeps its pulses and route, and has risen
still-over :
    (c : Controller) (s s' : Timers) (j : ℕ) → (risen_of s j ≡ true → risen_of s' j ≡ true) → pulses_of s' j ≡ pulses_of s j → route_of s' j ≡ route_of s j →
    still c s j ≡ true → still c s' j ≡ true
unfolding still
still-over c s s' j f g h q =
    and_both (f (and_left (risen_of s j) (not (pulses_of s j) || settled c.entries (route_of s j)) q))
    (rw (g, h) (and_right (risen_of s j) (not (pulses_of s j) || settled c.entries (route_of s j)) q))

-- ---- the turns of a tick, up to timer m's

module _ (b : Board) (z : Formed b) where
  abbrev s : Timers
  s = b.timers

  pub turns-formed : (m : ℕ) → m ≤ 3 → Formed (up_to m b)
  unfolding up_to
  turns-formed zero l =
      record {
        controlled = z.controlled;
        timed = counted-formed s z.timed;
        outer = z.outer;
        wired = z.wired ∙ sym (wires-same b.outside s (counted_of s) (counted-drives s));
        sized = z.sized;
      }
  turns-formed (suc m) l = turned-formed (up_to m b) (turns-formed m (omega arith)) m l

  pub turns-timers : (m : ℕ) → (up_to m b).timers ≡ timers_up_to m s
  unfolding up_to
  turns-timers zero = sym (turns-zero s)
  turns-timers (suc m) = turned-timers m (up_to m b) ∙ ap (λ (x : Timers). turned_of x m) (turns-timers m) ∙ sym (turns-suc s m)

  pub turns-outside : (m : ℕ) → (up_to m b).outside ≡ b.outside
  unfolding up_to
  turns-outside zero = refl
  turns-outside (suc m) = turned-outside m (up_to m b) ∙ turns-outside m

  -- a timer whose turn has yet to come matches as it did when the counter went up
  abbrev due : ℕ → Bool
  due m = matches_of (counted_of s) m

  pub turns-match : (m : ℕ) → m < 3 → matches_of (up_to m b).timers m ≡ due m
  turns-match m l = ap (λ (x : Timers). matches_of x m) (turns-timers m) ∙ turns-matches s m m l (omega arith)

  pub turns-keep : (j : ℕ) → j < 3 → (m : ℕ) → m ≤ 3 → Still j b → Still j (up_to m b)
  unfolding up_to
  turns-keep j k zero l q = still-over b.controller s (counted_of s) j (λ r. counted-risen s j ∙ r) (counted-pulses s j) (counted-route s j) q
  turns-keep j k (suc m) l q = turned-keep (up_to m b) (turns-formed m (omega arith)) m l j k (turns-keep j k m (omega arith) q)

  turns-pend : (j : ℕ) → j < 3 → Pend 0 j (up_to 0 b) → (m : ℕ) → m ≤ 3 → Pend m j (up_to m b)
  unfolding up_to
  turns-pend j k p zero l = p
  turns-pend j k p (suc m) l = turned-pend (up_to m b) (turns-formed m (omega arith)) m l j k (turns-pend j k p m (omega arith))

  turns-still : (j : ℕ) → j < 3 → Still j b ⊎ (due j ≡ true) → Still j (up_to 3 b)
  unfolding up_to
  turns-still j k q = last (turns-pend j k (begin q) 3 (lit≤ tt))
    where
      begin : Still j b ⊎ (due j ≡ true) → Pend 0 j (up_to 0 b)
      begin (inl h) = inl (still-over b.controller s (counted_of s) j (λ r. counted-risen s j ∙ r) (counted-pulses s j) (counted-route s j) h)
      begin (inr h) = inr (zero-le, h)

      last : Pend 3 j (up_to 3 b) → Still j (up_to 3 b)
      last (inl h) = h
      last (inr h) = absurd (omega arith)

  -- ---- a tick

  -- it is a tick of the timer block, and leaves the outside wires
  pub tick-timers : (tick b).timers ≡ timers_tick s
  unfolding tick
  tick-timers = go (is_enabled s) refl
    where
      go : (x : Bool) → is_enabled s ≡ x → (cond x (up_to 3 b) b).timers ≡ timers_tick s
      go true e = turns-timers 3 ∙ sym (tick-on s e)
      go false e = sym (tick-off s e)

  pub tick-outside : (tick b).outside ≡ b.outside
  unfolding tick
  tick-outside = go (is_enabled s)
    where
      go : (x : Bool) → (cond x (up_to 3 b) b).outside ≡ b.outside
      go true = turns-outside 3
      go false = refl

  pub tick-formed : Formed (tick b)
  unfolding tick
  tick-formed = go (is_enabled s)
    where
      go : (x : Bool) → Formed (cond x (up_to 3 b) b)
      go true = turns-formed 3 (lit≤ tt)
      go false = z

  -- a timer fires in it as in the timer block's
  pub tick-fires : (m : ℕ) → fires_in m b ≡ timers_fires_in s m
  unfolding fires_in
  tick-fires m = go (is_enabled s) refl
    where
      go : (x : Bool) → is_enabled s ≡ x → (x && matches_of (up_to m b).timers m) ≡ timers_fires_in s m
      go true e = ap (λ (x : Timers). matches_of x m) (turns-timers m) ∙ sym (fires-when s m e)
      go false e = sym (fires-off s m e)

  -- a timer that fires in it, or was still, is still after it
  pub tick-still : (j : ℕ) → j < 3 → Still j b ⊎ (timers_fires_in s j ≡ true) → Still j (tick b)
  unfolding tick
  tick-still j k q = go (is_enabled s) refl q
    where
      go : (x : Bool) → is_enabled s ≡ x → Still j b ⊎ (timers_fires_in s j ≡ true) → Still j (cond x (up_to 3 b) b)
      go true e (inl h) = turns-still j k (inl h)
      go true e (inr h) = turns-still j k (inr (sym (fires-on s j k e) ∙ h))
      go false e (inl h) = h
      go false e (inr h) = clash (sym h ∙ fires-off s j e)
