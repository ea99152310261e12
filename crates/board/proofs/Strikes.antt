-- A firing strikes its one pin.
use Prim.Native.Nat.{ℕ, ◌%◌, ◌<◌}
use mathlib.Core.Path.{◌≡◌, refl, sym, ap, ◌∙◌}
use mathlib.Core.Bool.{Bool, true, false, ◌&&◌, ◌||◌}
use mathlib.Core.List.{List}
use native.Mathlib.Omega.{arith}
use native.Mathlib.Decide.{ℕ_discrete}
use lib.Dec.{eqb}
use lib.ListN.{get_or, set, length-set}
use lib.Seq.{ext_get_or, get_or-set_same, get_or-set_other}
use mir.Val.{bool_byte}
use borrow.Author.Tests.{eq-eqb, ne_eqb}
use Rattle.entries.specs.declared.Entries.{Entries}
use Rattle.entries.specs.Strike.{pulse, rise, struck_by}
use Rattle.entries.proofs.Pulse.{wired-same}
use Rattle.entries.proofs.Strikes.{strike-none, strike-pulse, strike-rise}
use Rattle.controller.specs.declared.Controller.{Controller}
use Rattle.controller.specs.State.{with_entries}
use Rattle.controller.specs.Steps.{rewired}
use Rattle.timers.specs.declared.Timers.{Timers}
use Rattle.timers.specs.State.{is_enabled}
use Rattle.timers.specs.Tick.{fired_of, drives_of, pulses_of, route_of}
use Rattle.timers.specs.Inner.{raises_of}
use Rattle.timers.proofs.Formed.{route-pin}
use Rattle.timers.proofs.Wires.{fired-drives}
use Rattle.board.specs.declared.Board.{Board}
use Rattle.board.specs.Wires.{high_at, wires_of}
use Rattle.board.specs.Tick.{fire}
use Rattle.board.specs.At.{strike_at}
use Rattle.board.proofs.Rule.{wires-long, wires-at, wires-same}
use Rattle.board.proofs.Formed.{Formed}
use Rattle.board.proofs.Fire.{by_cases}

module _ (b : Board) (z : Formed b) (m : ℕ) (l : m < 3) (on : is_enabled b.timers ≡ true) where
  abbrev s : Timers
  s = b.timers

  abbrev o : List ℕ
  o = b.outside

  abbrev c : Controller
  c = b.controller

  abbrev e : Entries
  e = c.entries

  abbrev p : ℕ
  p = route_of s m

  pin : p < 24
  pin = route-pin s z.timed m l

  -- the wires after it, where it raises its own for good, and where it doesn't
  up : raises_of s m ≡ true → wires_of o (fired_of s m) ≡ set e.level p 1
  unfolding high_at
  up r =
      ext_get_or 0 (wires_of o (fired_of s m)) (set e.level p 1) (wires-long o (fired_of s m) ∙ sym (length-set e.level p 1 ∙ z.sized.level))
      (λ i j. let k : i < 24 = rw (wires-long o (fired_of s m)) at j in wires-at o (fired_of s m) i k ∙ ap (λ (x : Bool). bool_byte (eqb (get_or o i 0) 1 || x)) (fired-drives s m i l on) ∙ go i k (ℕ_discrete i p))
    where
      or-true : (x y : Bool) → bool_byte (x || (y || true)) ≡ 1
      or-true true y = refl
      or-true false true = refl
      or-true false false = refl

      or-false : (y : Bool) → (y || false) ≡ y
      or-false true = refl
      or-false false = refl

      go : (i : ℕ) → i < 24 → Dec (i ≡ p) → bool_byte (eqb (get_or o i 0) 1 || (drives_of s i || (raises_of s m && eqb p i))) ≡ get_or (set e.level p 1) i 0
      go i k (yes q) = rw (r, eq-eqb p i (sym q)) (or-true (eqb (get_or o i 0) 1) (drives_of s i) ∙ sym (ap (λ (x : ℕ). get_or (set e.level p 1) x 0) q ∙ get_or-set_same e.level p 1 0 (rw z.sized.level pin)))
      go i k (no d) =
          rw (r, ne_eqb p i (λ h. d (sym h)), or-false (drives_of s i))
          (sym (wires-at o s i k) ∙ ap (λ (x : List ℕ). get_or x i 0) (sym z.wired) ∙ sym (get_or-set_other e.level p i 1 0 d))

  flat : raises_of s m ≡ false → wires_of o (fired_of s m) ≡ e.level
  flat r = wires-same o s (fired_of s m) (λ q. fired-drives s m q l on ∙ rw r (go (drives_of s q))) ∙ sym z.wired
    where
      go : (y : Bool) → (y || false) ≡ y
      go true = refl
      go false = refl

  pub fire-strikes : (fire m b).controller ≡ with_entries c (struck_by e (strike_at s m))
  unfolding strike_at
  fire-strikes =
      by_cases b z m l (λ x. x ≡ with_entries c (struck_by e (strike_at s m)))
      (λ h. ap (with_entries c) (strike-pulse e z.sized p pin ∙ ap (λ (q : ℕ). struck_by e (pulse q)) (sym small) ∙ rw h))
      (λ h. go (raises_of s m) refl h)
    where
      small : p % 256 ≡ p
      small = omega (arith, pin)

      go : (x : Bool) → raises_of s m ≡ x → pulses_of s m ≡ false → rewired c (wires_of o (fired_of s m)) ≡ with_entries c (struck_by e (strike_at s m))
      go true r h =
          ap (λ (v : List ℕ). rewired c v) (up r)
          ∙ ap (with_entries c) (strike-rise e z.sized p pin ∙ ap (λ (q : ℕ). struck_by e (rise q)) (sym small) ∙ rw (h, r))
      go false r h =
          ap (λ (v : List ℕ). rewired c v) (flat r)
          ∙ ap (with_entries c) (wired-same e z.sized ∙ sym (strike-none e) ∙ rw (h, r))

-- it is told by the pulses, the raising and the route, which stay
pub strike-same : (s s' : Timers) (m : ℕ) → pulses_of s' m ≡ pulses_of s m → raises_of s' m ≡ raises_of s m → route_of s' m ≡ route_of s m → strike_at s' m ≡ strike_at s m
unfolding strike_at
strike-same s s' m p r q = rw (p, r, q)
