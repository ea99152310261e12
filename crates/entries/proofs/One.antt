-- A change of one wire, and a pulse, at their one pin.
use mathlib.Core.Path.{◌≡◌, sym, ap, ap₂, ◌∙◌}
use mathlib.Core.List.{List}
use Prim.Native.Nat.{ℕ, ◌<◌}
use lib.ListN.{set, length-set}
use lib.Seq.{get_or-set_same, set-get_or, set-set}
use Rattle.entries.specs.declared.Entries.{Entries}
use Rattle.entries.specs.Pin.{held_after}
use Rattle.entries.specs.Table.{low_at, level_at, held_at, with_held, with_level, wired, pulsed}
use Rattle.entries.specs.Inner.{wired_at}
use Rattle.entries.specs.Strike.{pulsed_at}
use Rattle.entries.proofs.Sized.{Sized}
use Rattle.entries.proofs.Pulse.{wired-one, pulsed-is}

pub wired-at-sized : (e : Entries) → Sized e → (p x : ℕ) → Sized (wired_at e p x)
unfolding wired_at
wired-at-sized e z p x =
    record {
      low = z.low;
      destination = z.destination;
      level = length-set e.level p x ∙ z.level;
      held = length-set e.held p (held_after (low_at e p) (level_at e p) x (held_at e p)) ∙ z.held;
    }

module _ (e : Entries) (z : Sized e) (p : ℕ) (l : p < 24) where
  -- the wires pulse as the pin does
  pub pulsed-one : pulsed e e.level p ≡ pulsed_at e p
  unfolding wired_at
  pulsed-one =
      pulsed-is e e.level p
      ∙ ap (λ (x : Entries). wired x e.level) (wired-one e z p l 1)
      ∙ ap (wired (wired_at e p 1)) (sym back)
      ∙ wired-one (wired_at e p 1) (wired-at-sized e z p 1) p l (level_at e p)
    where
      back : set (wired_at e p 1).level p (level_at e p) ≡ e.level
      back = set-set e.level p 1 (level_at e p) ∙ set-get_or e.level p 0

  abbrev up : ℕ
  up = held_after (low_at e p) (level_at e p) 1 (held_at e p)

  abbrev dropped : ℕ → ℕ → Entries
  dropped level held = with_level (with_held e (set (set e.held p up) p (held_after (low_at e p) level (level_at e p) held))) (set (set e.level p 1) p (level_at e p))

  -- in its two arrays
  pub pulsed-parts : pulsed_at e p ≡ with_level (with_held e (set e.held p (held_after (low_at e p) 1 (level_at e p) up))) (set e.level p (level_at e p))
  unfolding wired_at
  pulsed-parts =
      ap₂ dropped (get_or-set_same e.level p 1 0 (rw z.level l)) (get_or-set_same e.held p up 0 (rw z.held l))
      ∙ ap₂ (λ (h v : List ℕ). with_level (with_held e h) v) (set-set e.held p up (held_after (low_at e p) 1 (level_at e p) up)) (set-set e.level p 1 (level_at e p))
