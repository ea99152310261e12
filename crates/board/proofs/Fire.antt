-- One firing: the board stays well formed; a timer that has fired is still from then on, and a still timer's firing
-- changes no pin.
use Prim.Native.Nat.{ℕ, ◌<◌}
use mathlib.Core.Path.{◌≡◌, refl, sym, ap, subst, ◌∙◌}
use mathlib.Core.Bool.{Bool, true, false, cond, not, ◌&&◌, ◌||◌}
use mathlib.Core.List.{List}
use Rattle.pins.proofs.Bools.{and_left, and_right, and_both}
use Rattle.entries.specs.declared.Entries.{Entries}
use Rattle.entries.specs.Table.{entries_ok, levels_ok, wired, pulsed}
use Rattle.entries.proofs.Sized.{Sized as EntriesSized, wired-sized}
use Rattle.entries.proofs.Formed.{wired-ok}
use Rattle.entries.proofs.Pulse.{settled, wired-same, wired-level, wired-settled, pulse-rests, pulse-settled, pulsed-settled, pulsed-ok, pulsed-sized, pulsed-level, pulsed-is}
use Rattle.controller.specs.declared.Controller.{Controller}
use Rattle.controller.specs.State.{with_entries, well_formed as controller_formed}
use Rattle.controller.specs.Steps.{rewired}
use Rattle.controller.proofs.Formed.{formed, well-formed}
use Rattle.timers.specs.declared.Timers.{Timers}
use Rattle.timers.specs.Tick.{fired_of, pulses_of, route_of}
use Rattle.timers.proofs.Formed.{route-pin, fired-formed}
use Rattle.timers.proofs.Wires.{risen_of, pulses-risen, fired-pulses, fired-route, fired-risen, fired-risen-kept, fired-drives-same, fired-drives-more}
use Rattle.board.specs.declared.Board.{Board}
use Rattle.board.specs.Wires.{wires_of}
use Rattle.board.specs.Tick.{pulsed_at, effect, fire}
use Rattle.board.proofs.Rule.{wires-long, wires-ok, wire-ok, wires-same, wires-more}
use Rattle.board.proofs.Formed.{Formed}

-- a further firing of timer m changes no pin: its status is set or it is edge type, and it makes no pulse or its pin is
-- settled
unfoldable pub still : Controller → Timers → ℕ → Bool
still c s m = risen_of s m && (not (pulses_of s m) || settled c.entries (route_of s m))

-- the controller with other entries is well formed as before, where they are
entries-formed : (c : Controller) (e : Entries) → controller_formed c ≡ true → entries_ok e ≡ true → controller_formed (with_entries c e) ≡ true
entries-formed c e w ok = well-formed (with_entries c e) (record { id = (formed c w).id; index = (formed c w).index; entries = ok })

module _ (b : Board) (z : Formed b) (m : ℕ) (l : m < 3) where
  abbrev c : Controller
  c = b.controller

  abbrev o : List ℕ
  o = b.outside

  abbrev s : Timers
  s = b.timers

  abbrev s' : Timers
  s' = fired_of s m

  abbrev c' : Controller
  c' = effect o s m s' c

  abbrev p : ℕ
  p = route_of s m

  abbrev levels : List ℕ
  levels = c.entries.level

  p-pin : p < 24
  p-pin = route-pin s z.timed m l

  own-ok : entries_ok c.entries ≡ true
  own-ok = (formed c z.controlled).entries

  levels-ok : levels_ok levels ≡ true
  levels-ok = rw z.wired (wires-ok o s)

  -- the levels stay, where the timer has risen
  kept : risen_of s m ≡ true → wires_of o s' ≡ levels
  kept h = wires-same o s s' (λ q. fired-drives-same s m q h) ∙ sym z.wired

  -- ---- the firing's two cases

  module _ (P : Controller → Type 0) where
    pub by_cases : (pulses_of s m ≡ true → P (with_entries c (pulsed c.entries levels p))) → (pulses_of s m ≡ false → P (rewired c (wires_of o s'))) → P c'
    unfolding effect
    by_cases f g = go (pulses_of s m) refl
      where
        -- a raise and a drop are the entries' pulse
        pulse : pulsed_at c (wires_of o s') p ≡ with_entries c (pulsed c.entries (wires_of o s') p)
        pulse = ap (with_entries c) (sym (pulsed-is c.entries (wires_of o s') p))

        go : (x : Bool) → pulses_of s m ≡ x → P (cond x (pulsed_at c (wires_of o s') p) (rewired c (wires_of o s')))
        go true e = subst P (sym (pulse ∙ ap (λ (l : List ℕ). with_entries c (pulsed c.entries l p)) (kept (pulses-risen s m e)))) (f e)
        go false e = g e

  -- ---- the board after it is well formed

  pub fire-formed : Formed (fire m b)
  fire-formed =
      record {
        controlled =
            by_cases (λ x. controller_formed x ≡ true)
            (λ e. entries-formed c (pulsed c.entries levels p) z.controlled (pulsed-ok c.entries levels p levels-ok own-ok))
            (λ e. entries-formed c (wired c.entries (wires_of o s')) z.controlled (wired-ok c.entries own-ok (wires_of o s') (wires-ok o s')));
        timed = fired-formed s z.timed m l;
        outer = z.outer;
        wired =
            by_cases (λ x. x.entries.level ≡ wires_of o s')
            (λ e. pulsed-level c.entries levels p ∙ sym (kept (pulses-risen s m e)))
            (λ e. wired-level c.entries (wires_of o s'));
        sized =
            by_cases (λ x. EntriesSized x.entries)
            (λ e. pulsed-sized c.entries levels p z.sized z.sized.level)
            (λ e. wired-sized c.entries z.sized (wires_of o s') (wires-long o s'));
      }

  -- ---- a still timer's firing

  pub fire-quiet : still c s m ≡ true → c' ≡ c
  unfolding still
  fire-quiet q =
      by_cases (λ x. x ≡ c)
      (λ e. ap (with_entries c) (pulse-rests c.entries z.sized p p-pin (rw e at (and_right (risen_of s m) (not (pulses_of s m) || settled c.entries p) q))))
      (λ e. ap (λ (x : List ℕ). rewired c x) (kept (and_left (risen_of s m) (not (pulses_of s m) || settled c.entries p) q)) ∙ ap (with_entries c) (wired-same c.entries z.sized))

  -- ---- the timer that fired is still

  pub fire-stills : still c' s' m ≡ true
  unfolding still
  fire-stills =
      and_both (fired-risen s m l)
      (rw (fired-pulses s m m l, fired-route s m m l)
      (by_cases (λ x. (not (pulses_of s m) || settled x.entries p) ≡ true)
      (λ e. rw e (pulse-settled c.entries z.sized p p-pin (rw z.wired (wire-ok o s p p-pin))))
      (λ e. rw e)))

  -- ---- a still timer stays still

  settled-kept : (q : ℕ) → q < 24 → settled c.entries q ≡ true → settled c'.entries q ≡ true
  settled-kept q k h =
      by_cases (λ x. settled x.entries q ≡ true)
      (λ e. pulsed-settled c.entries p q k h)
      (λ e. wired-settled c.entries (wires_of o s') q k (λ u. wires-more o s s' q k (fired-drives-more s m q) (rw z.wired at u)) h)

  pub still_kept : (j : ℕ) → j < 3 → still c s j ≡ true → still c' s' j ≡ true
  unfolding still
  still_kept j k q =
      and_both (fired-risen-kept s m j k (and_left (risen_of s j) (not (pulses_of s j) || settled c.entries (route_of s j)) q))
      (rw (fired-pulses s m j k, fired-route s m j k)
      (go (pulses_of s j) (and_right (risen_of s j) (not (pulses_of s j) || settled c.entries (route_of s j)) q)))
    where
      go : (x : Bool) → (not x || settled c.entries (route_of s j)) ≡ true → (not x || settled c'.entries (route_of s j)) ≡ true
      go true h = settled-kept (route_of s j) (route-pin s z.timed j k) h
      go false h = refl
