-- When a pin gains a held edge: in a step that is no low-word write, exactly if it is an unmasked edge pin that goes
-- from not asserted to asserted. A call is one step, an advance the steps of its ticks: a firing is one step, or the
-- raise and the drop of a pulse.
use Prim.Native.Nat.{ℕ, zero, suc, ◌<◌, ◌≤◌}
use mathlib.Core.Path.{◌≡◌, refl, sym, ap, subst, ◌∙◌}
use mathlib.Core.Bool.{Bool, true, false, cond}
use mathlib.Core.List.{List}
use mathlib.Core.Logic.{◌⊎◌, inl, inr}
use native.Mathlib.Omega.{arith}
use native.Mathlib.Decide.{ℕ_discrete}
use lib.ListN.{set}
use Rattle.pins.proofs.Bools.{and_both, and_left, and_right}
use Rattle.entries.specs.declared.Entries.{Entries}
use Rattle.entries.specs.Table.{held_at, wired}
use Rattle.entries.proofs.Pulse.{wired-keeps}
use Rattle.entries.proofs.Gained.{Rises, Exact, wired-exact}
use Rattle.timers.specs.State.{is_enabled}
use Rattle.timers.specs.Tick.{matches_of, pulses_of, route_of}
use Rattle.board.specs.declared.Board.{Board}
use Rattle.board.specs.declared.Call.{Call}
use Rattle.board.specs.declared.Call.TheVariants as call
use Rattle.board.specs.declared.Turn.{Turn}
use Rattle.board.specs.Tick.{effect, fire, turned, up_to, tick, fires_in, ticks}
use Rattle.board.specs.Step.{advancing_of, served_of, turn_of}
use Rattle.board.proofs.Formed.{Formed, formed-out}
use Rattle.board.proofs.Keeps.{served}
use Rattle.board.proofs.Held.{Held, turned-held, tick-held}
use Rattle.board.proofs.Steps.{entries_of, LowWrite, Advances, advances, wires_after, raised, Fires, once, raise, drop, Steps, whole, fires, Made, call-exact, low-write-none}

-- ---- an advance: the firings of its ticks

-- a step of timer m's firing makes pin p's edge
record Firing (m : ℕ) (b : Board) (p : ℕ) : Type 0 where
  before : Entries
  after : Entries
  step : Fires m b before after
  rises : Rises p before after

module _ (m : ℕ) (b : Board) where
  abbrev e : Entries
  e = entries_of b

  abbrev wires : List ℕ
  wires = wires_after m b

  abbrev up : Entries
  up = raised m b

  -- the steps are the firing
  once_is : pulses_of b.timers m ≡ false → entries_of (fire m b) ≡ wired e wires
  unfolding effect
  once_is t = rw t

  pulse-is : pulses_of b.timers m ≡ true → entries_of (fire m b) ≡ wired up wires
  unfolding effect
  pulse-is t = rw t

  module _ (p : ℕ) (l : p < 24) where
    held : {x y : Entries} → x ≡ y → held_at x p ≡ held_at y p
    held q = ap (λ (x : Entries). held_at x p) q

    raise-exact : Exact p e up
    raise-exact = wired-exact e (set wires (route_of b.timers m) 1) p l

    fire-if : (x y : Entries) → Fires m b x y → Rises p x y → Held p (fire m b)
    fire-if _ _ (once t) r = held (once_is t) ∙ (wired-exact e wires p l).made r
    fire-if _ _ (raise t) r = held (pulse-is t) ∙ wired-keeps up wires p l (raise-exact.made r)
    fire-if _ _ (drop t) r = held (pulse-is t) ∙ (wired-exact up wires p l).made r

    made_by : (x y : Entries) → Fires m b x y → held_at x p ≡ 1 ⊎ Rises p x y → (held_at x p ≡ 1 → Held p b ⊎ Firing m b p) → Held p b ⊎ Firing m b p
    made_by x y s (inl h) before = before h
    made_by x y s (inr r) before = inr (record { before = x; after = y; step = s; rises = r })

    fire-only-if : Held p (fire m b) → Held p b ⊎ Firing m b p
    fire-only-if h = go (pulses_of b.timers m) refl
      where
        go : (x : Bool) → pulses_of b.timers m ≡ x → Held p b ⊎ Firing m b p
        go true t =
            made_by up (wired up wires) (drop t) ((wired-exact up wires p l).gained (held (sym (pulse-is t)) ∙ h))
            (λ x. made_by e up (raise t) (raise-exact.gained x) inl)
        go false t = made_by e (wired e wires) (once t) ((wired-exact e wires p l).gained (held (sym (once_is t)) ∙ h)) inl

module _ (b : Board) (p : ℕ) (l : p < 24) (n : ℕ) where
  abbrev Gained : Type 0
  Gained = Made b (call.Advance n) p

  -- back through the turns of tick i
  module _ (i : ℕ) (k : i < n) (on : is_enabled (ticks i b).timers ≡ true) where
    turns-only-if : (j : ℕ) → j ≤ 3 → Held p (up_to j (ticks i b)) → Held p (ticks i b) ⊎ Gained
    unfolding up_to turned fires_in
    turns-only-if zero u h = inl h
    turns-only-if (suc j) u h = go (turns-only-if j (omega arith)) (matches_of (up_to j (ticks i b)).timers j) refl h
      where
        d : Board
        d = up_to j (ticks i b)

        by-firing : (Held p d → Held p (ticks i b) ⊎ Gained) → matches_of d.timers j ≡ true → Held p d ⊎ Firing j d p → Held p (ticks i b) ⊎ Gained
        by-firing back t (inl x) = back x
        by-firing back t (inr s) =
            inr (record { before = s.before; after = s.after; step = fires n i j s.before s.after k (omega arith) (and_both on t) s.step; rises = s.rises })

        go : (Held p d → Held p (ticks i b) ⊎ Gained) → (x : Bool) → matches_of d.timers j ≡ x → Held p (cond x (fire j d) d) → Held p (ticks i b) ⊎ Gained
        go back true t h = by-firing back t (fire-only-if j d p l h)
        go back false t h = back h

  ticks-only-if : (i : ℕ) → i ≤ n → Held p (ticks i b) → Held p b ⊎ Gained
  unfolding ticks tick
  ticks-only-if zero k h = inl h
  ticks-only-if (suc i) k h = go (is_enabled (ticks i b).timers) refl h (ticks-only-if i (omega arith))
    where
      or-before : Held p (ticks i b) ⊎ Gained → (Held p (ticks i b) → Held p b ⊎ Gained) → Held p b ⊎ Gained
      or-before (inl x) back = back x
      or-before (inr g) back = inr g

      go : (x : Bool) → is_enabled (ticks i b).timers ≡ x → Held p (cond x (up_to 3 (ticks i b)) (ticks i b)) → (Held p (ticks i b) → Held p b ⊎ Gained) → Held p b ⊎ Gained
      go true t h back = or-before (turns-only-if i (omega arith) t 3 (omega arith) h) back
      go false t h back = back h

  -- and on from timer m's turn in tick i
  turns-on : (c : Board) (m : ℕ) → m < 3 → Held p (up_to (suc m) c) → Held p (up_to 3 c)
  unfolding up_to
  turns-on c zero u h = turned-held p l 2 (up_to 2 c) (turned-held p l 1 (up_to 1 c) h)
  turns-on c (suc zero) u h = turned-held p l 2 (up_to 2 c) h
  turns-on c (suc (suc zero)) u h = h
  turns-on c (suc (suc (suc m))) u h = absurd (omega arith)

  ticks-on : (i j : ℕ) → i ≤ j → Held p (ticks i b) → Held p (ticks j b)
  unfolding ticks
  ticks-on i zero u h = subst (λ (x : ℕ). Held p (ticks x b)) (let e : i ≡ 0 = omega arith in e) h
  ticks-on i (suc j) u h = go (ℕ_discrete i (suc j)) (λ v. ticks-on i j v h)
    where
      go : Dec (i ≡ suc j) → (i ≤ j → Held p (ticks j b)) → Held p (tick (ticks j b))
      go (yes q) before = subst (λ (x : ℕ). Held p (ticks x b)) q h
      go (no q) before = tick-held p l (ticks j b) (before (omega arith))

  step-on : (i m : ℕ) → i < n → m < 3 → fires_in m (ticks i b) ≡ true → Held p (fire m (up_to m (ticks i b))) → Held p (ticks n b)
  unfolding fires_in up_to turned tick ticks
  step-on i m k u f h =
      let c = ticks i b in
      let matched = and_right (is_enabled c.timers) (matches_of (up_to m c).timers m) f in
      let on = and_left (is_enabled c.timers) (matches_of (up_to m c).timers m) f in
      let after : Held p (up_to (suc m) c) = ap (λ (x : Bool). held_at (cond x (fire m (up_to m c)) (up_to m c)).controller.entries p) matched ∙ h in
      ticks-on (suc i) n (omega arith)
      (ap (λ (x : Bool). held_at (cond x (up_to 3 c) c).controller.entries p) on ∙ turns-on c m u after)

-- ---- every call

advances? : (k : Call) → Advances k ⊎ (Advances k → ⊥)
advances? (call.Read n w o) = inr (elim [ ])
advances? (call.Write n w o v) = inr (elim [ ])
advances? (call.Wire i x) = inr (elim [ ])
advances? (call.End v) = inr (elim [ ])
advances? (call.Advance n) = inl (advances n)
advances? call.Deliver = inr (elim [ ])
advances? (call.Reset z) = inr (elim [ ])

module _ (b : Board) (z : Formed b) (p : ℕ) (l : p < 24) where
  after-ticks : (n : ℕ) → (turn_of b (call.Advance n)).board ≡ ticks n b
  unfolding served_of advancing_of
  after-ticks n = ap (λ (t : Turn). t.board) (served b (call.Advance n) (formed-out b z))

  -- a pin that held no edge holds one after a call only if some step of the call made it …
  pub gained-only-if : (k : Call) → held_at b.controller.entries p ≡ 0 → held_at (turn_of b k).board.controller.entries p ≡ 1 → Made b k p
  gained-only-if k none h = go k (advances? k) h
    where
      new : {A : Type 0} → Held p b ⊎ A → A
      new (inl x) = absurd (omega (arith, x, none))
      new (inr r) = r

      low : (k : Call) → held_at (turn_of b k).board.controller.entries p ≡ 1 → LowWrite b k → ⊥
      low k h w = absurd (omega (arith, h, low-write-none b z p l k w none))

      go : (k : Call) → Advances k ⊎ (Advances k → ⊥) → held_at (turn_of b k).board.controller.entries p ≡ 1 → Made b k p
      go k (inl (advances n)) h = new (ticks-only-if b p l n n (omega arith) (subst (Held p) (after-ticks n) h))
      go k (inr f) h =
          record {
            before = b.controller.entries;
            after = (turn_of b k).board.controller.entries;
            step = whole k f (low k h);
            rises = new ((call-exact b z p l k f (low k h)).gained h);
          }

  -- … and if one did
  pub gained-if : (k : Call) → Made b k p → held_at (turn_of b k).board.controller.entries p ≡ 1
  gained-if k g = go k g.before g.after g.step g.rises
    where
      go : (k : Call) (e e' : Entries) → Steps b k e e' → Rises p e e' → Held p (turn_of b k).board
      go _ _ _ (whole k f w) r = (call-exact b z p l k f w).made r
      go _ _ _ (fires n i m e e' u v f s) r =
          subst (Held p) (sym (after-ticks n)) (step-on b p l n i m u v f (fire-if m (up_to m (ticks i b)) p l e e' s r))
