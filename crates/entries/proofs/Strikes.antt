-- Laws of strikes: each is a change of the wires, or two, and works at one pin.
use mathlib.Core.Path.{◌≡◌, refl, ap, ◌∙◌}
use mathlib.Core.List.{List}
use Prim.Native.Nat.{ℕ, zero, suc, ◌<◌, ◌≤◌}
use lib.ListN.{get_or, set}
use Rattle.std.specs.Prelude.{Option, Some, None}
use Rattle.entries.specs.declared.Entries.{Entries}
use Rattle.entries.specs.declared.strike.Strike.{Strike}
use Rattle.entries.specs.declared.strike.Strike.TheVariants.{Pulse, Rise}
use Rattle.entries.specs.Table.{low_at, level_at, held_at, with_held, with_level, wired, pulsed}
use Rattle.entries.specs.Inner.{wired_at}
use Rattle.entries.specs.Strike.{pulse, rise, struck_by, struck, pin_of, is_pulse, struck_level, struck_held}
use Rattle.entries.proofs.Sized.{Sized, wired-at-above}
use Rattle.entries.proofs.Pulse.{wired-one}
use Rattle.entries.proofs.One.{wired-at-sized, pulsed-one, pulsed-parts}

pub struck-three :
    (e : Entries) (k : List (Option Strike)) →
    struck 3 k e ≡ struck_by (struck_by (struck_by e (get_or k 0 None)) (get_or k 1 None)) (get_or k 2 None)
unfolding struck
struck-three e k = refl

pub strike-none : (e : Entries) → struck_by e None ≡ e
unfolding struck_by
strike-none e = refl

module _ (e : Entries) (z : Sized e) where
  strike-sized : (k : Option Strike) → Sized (struck_by e k)
  unfolding struck_by
  strike-sized (Some (Pulse p)) = wired-at-sized (wired_at e p 1) (wired-at-sized e z p 1) p (level_at e p)
  strike-sized (Some (Rise p)) = wired-at-sized e z p 1
  strike-sized None = z

  -- there is no pin above 23
  pub strike-rests : (k : Strike) → 24 ≤ pin_of k → struck_by e (Some k) ≡ e
  unfolding struck_by pin_of
  strike-rests (Pulse p) h =
      ap (λ (d : Entries). wired_at d p (level_at e p)) (wired-at-above e z p h 1) ∙ wired-at-above e z p h (level_at e p)
  strike-rests (Rise p) h = wired-at-above e z p h 1

  -- at its pin, in the two arrays that change
  pub strike-parts :
      (k : Strike) → pin_of k < 24 →
      struck_by e (Some k)
      ≡ with_level
      (with_held e
      (set e.held (pin_of k) (struck_held (low_at e (pin_of k)) (is_pulse k) (level_at e (pin_of k)) (held_at e (pin_of k)))))
      (set e.level (pin_of k) (struck_level (is_pulse k) (level_at e (pin_of k))))
  unfolding struck_by pin_of is_pulse struck_held struck_level wired_at
  strike-parts (Pulse p) l = pulsed-parts e z p l
  strike-parts (Rise p) l = refl

  -- what it does to the wires
  module _ (p : ℕ) (l : p < 24) where
    pub strike-pulse : pulsed e e.level p ≡ struck_by e (pulse p)
    unfolding struck_by
    strike-pulse = pulsed-one e z p l

    pub strike-rise : wired e (set e.level p 1) ≡ struck_by e (rise p)
    unfolding struck_by
    strike-rise = wired-one e z p l 1

-- the lists stay as long as they are
pub struck-sized : (e : Entries) → Sized e → (n : ℕ) (k : List (Option Strike)) → Sized (struck n k e)
unfolding struck
struck-sized e z zero k = z
struck-sized e z (suc n) k = strike-sized (struck n k e) (struck-sized e z n k) (get_or k n None)
