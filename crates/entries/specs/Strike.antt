-- Strikes, for whoever's timers fire: only inner functions cite these.
-- `proofs/Strikes.antt` has that a strike is a change of the wires, or two.
use Rattle.std.specs.Prelude.{ℕ, zero, suc, Bool, true, false, cond, List, get_or, Option, Some, None}
use Rattle.entries.specs.declared.Entries.{Entries}
use Rattle.entries.specs.declared.strike.Strike.{Strike}
use Rattle.entries.specs.declared.strike.Strike.TheVariants.{Pulse, Rise}
use Rattle.entries.specs.Pin.{held_after}
use Rattle.entries.specs.Table.{level_at}
use Rattle.entries.specs.Inner.{wired_at}

-- pin p's wire raised, and dropped to where it was
abbrev pub pulsed_at : Entries → ℕ → Entries
pulsed_at e p = wired_at (wired_at e p 1) p (level_at e p)

-- a pulse of pin p's wire, and a wire that rises
abbrev pub pulse : ℕ → Option Strike
pulse p = Some (Pulse p)

abbrev pub rise : ℕ → Option Strike
rise p = Some (Rise p)

unfoldable pub struck_by : Entries → Option Strike → Entries
struck_by e (Some (Pulse p)) = pulsed_at e p
struck_by e (Some (Rise p)) = wired_at e p 1
struck_by e None = e

-- the strikes below the n-th, one after the other
unfoldable pub struck : ℕ → List (Option Strike) → Entries → Entries
struck zero k e = e
struck (suc n) k e = struck_by (struck n k e) (get_or k n None)

unfoldable pub pin_of : Strike → ℕ
pin_of (Pulse p) = p
pin_of (Rise p) = p

unfoldable pub is_pulse : Strike → Bool
is_pulse (Pulse p) = true
is_pulse (Rise p) = false

-- ---- the struck pin's level and held edge

unfoldable pub struck_level : Bool → ℕ → ℕ
struck_level pulse before = cond pulse before 1

unfoldable pub struck_held : ℕ → Bool → ℕ → ℕ → ℕ
struck_held w pulse before held = cond pulse (held_after w 1 before (held_after w before 1 held)) (held_after w before 1 held)
