-- The wire rule's levels: 24 of them, each 0 or 1; they are the same where the timers drive the same, and rise where
-- these drive more.
use Prim.Native.Nat.{ℕ, ◌<◌}
use mathlib.Core.Path.{◌≡◌, refl, sym, ap, ◌∙◌}
use mathlib.Core.Bool.{Bool, true, false, ◌||◌}
use mathlib.Core.List.{List}
use native.Mathlib.Omega.{arith}
use lib.Dec.{eqb, leb}
use lib.ListN.{get_or, length}
use mir.Val.{bool_byte}
use Rattle.std.specs.Prelude.{Option}
use Rattle.std.specs.Option.{unwrap_or}
use Rattle.pins.specs.Pins.{pins}
use Rattle.pins.proofs.Fill.{get_or-tab, length-tab}
use Rattle.entries.specs.Table.{levels_ok}
use Rattle.entries.proofs.Formed.{levels-of}
use Rattle.timers.specs.declared.Timers.{Timers}
use Rattle.timers.specs.Tick.{drives_of}
use Rattle.timers.specs.Inner.{driven_pin, driven_of}
use Rattle.timers.proofs.Wires.{driven-number, drives-pin}
use Rattle.board.specs.Wires.{high_at, wires_of}

abbrev rule : List ℕ → Timers → ℕ → ℕ
rule o s p = bool_byte (high_at o s p)

-- the pin that timer m drives, as the code has it in a number
pub driven-by : (s : Timers) (m a : ℕ) (d : Option ℕ) → a ≡ unwrap_or d 24 → d ≡ driven_pin s m → a ≡ driven_of s m
driven-by s m a d e f = e ∙ ap (λ (x : Option ℕ). unwrap_or x 24) f ∙ driven-number s m

-- a wire by the pins that the timers drive, as the code finds it
pub high-by :
    (o : List ℕ) (s : Timers) (a b c : ℕ) → a ≡ driven_of s 0 → b ≡ driven_of s 1 → c ≡ driven_of s 2 → (p : ℕ) → p < 24 →
    (eqb (get_or o p 0) 1 || (eqb a p || (eqb b p || eqb c p))) ≡ high_at o s p
unfolding high_at
high-by o s a b c e f g p h =
    (λ i. eqb (get_or o p 0) 1 || (eqb (e i) p || (eqb (f i) p || eqb (g i) p)))
    ∙ ap (λ (x : Bool). eqb (get_or o p 0) 1 || x) (sym (drives-pin s p h))

module _ (o : List ℕ) (s : Timers) where
  pub wires-long : length (wires_of o s) ≡ 24
  unfolding wires_of
  wires-long = length-tab (rule o s) 0 24

  pub wires-at : (p : ℕ) → p < 24 → get_or (wires_of o s) p 0 ≡ bool_byte (high_at o s p)
  unfolding wires_of
  wires-at p l = get_or-tab (rule o s) 24 p 0 l

  bit_ok : (b : Bool) → leb (bool_byte b) 1 ≡ true
  bit_ok true = refl
  bit_ok false = refl

  pub wire-ok : (p : ℕ) → p < 24 → leb (get_or (wires_of o s) p 0) 1 ≡ true
  wire-ok p l = rw (wires-at p l) (bit_ok (high_at o s p))

  pub wires-ok : levels_ok (wires_of o s) ≡ true
  wires-ok = levels-of (wires_of o s) wire-ok

is_true : (b : Bool) → bool_byte b ≡ 1 → b ≡ true
is_true true q = refl
is_true false q = absurd (omega arith)

or-more : (a b c : Bool) → (b ≡ true → c ≡ true) → (a || b) ≡ true → (a || c) ≡ true
or-more true b c f h = refl
or-more false b c f h = f h

module _ (o : List ℕ) (s s' : Timers) where
  pub wires-same : ((p : ℕ) → drives_of s' p ≡ drives_of s p) → wires_of o s' ≡ wires_of o s
  unfolding wires_of high_at
  wires-same f = λ i. pins (λ p. bool_byte (eqb (get_or o p 0) 1 || f p i))

  pub wires-more : (p : ℕ) → p < 24 → (drives_of s p ≡ true → drives_of s' p ≡ true) → get_or (wires_of o s) p 0 ≡ 1 → get_or (wires_of o s') p 0 ≡ 1
  unfolding high_at
  wires-more p l f h =
      wires-at o s' p l
      ∙ ap bool_byte (or-more (eqb (get_or o p 0) 1) (drives_of s p) (drives_of s' p) f (is_true (high_at o s p) (sym (wires-at o s p l) ∙ h)))
