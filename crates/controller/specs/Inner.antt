-- The same meanings as the code works them out: only inner functions cite these.
use Rattle.std.specs.Prelude.{ℕ, ◌-◌, ◌/◌, ◌%◌, ◌^◌, not, cond, ◌||◌, List, Option, Some, None, eqb, leb, ltb}
use Rattle.std.specs.declared.result.Result.{Result}
use Rattle.std.specs.declared.result.Result.TheVariants.{Ok, Err}
use Rattle.answers.specs.declared.Refusal.{Refusal}
use Rattle.answers.specs.declared.Refusal.TheVariants as refusal
use Rattle.entries.specs.declared.EntryDecision.{EntryDecision}
use Rattle.entries.specs.declared.strike.Strike.{Strike}
use Rattle.entries.specs.Table.{with_low, with_held, first_eligible}
use Rattle.entries.specs.Decision.{delivery_at}
use Rattle.entries.specs.Inner.{wired_at}
use Rattle.entries.specs.Strike.{struck}
use Rattle.controller.specs.declared.Controller.{Controller}
use Rattle.controller.specs.declared.window.Place.{Place}
use Rattle.controller.specs.declared.window.Place.TheVariants as place
use Rattle.controller.specs.declared.window.Register.{Register}
use Rattle.controller.specs.declared.window.Register.TheVariants as register
use Rattle.controller.specs.State.{with_entries}

-- only pin p's wire changes
abbrev pub rewired_at : Controller → ℕ → ℕ → Controller
rewired_at c p x = with_entries c (wired_at c.entries p x)

-- three strikes, one after the other
abbrev pub struck_of : Controller → List (Option Strike) → Controller
struck_of c k = with_entries c (struck 3 k c.entries)

-- the delivery step decided, of the controller with the low words w and the held edges h
abbrev pub delivery_of : Controller → List ℕ → List ℕ → EntryDecision
delivery_of c w h = delivery_at (first_eligible (with_held (with_low c.entries w) h)) c.entries.destination w h

-- … if any pin is eligible
abbrev pub delivery_if : Controller → List ℕ → List ℕ → Option EntryDecision
delivery_if c w h = cond (ltb (first_eligible (with_held (with_low c.entries w) h)) 24) (Some (delivery_of c w h)) None

-- the window's place that an access means: it tests 2, then 1
unfoldable pub place_at : ℕ → ℕ → Result Place Refusal
place_at width offset =
    cond (eqb width 4)
    (cond (eqb offset 0) (Ok place.Index)
    (cond (eqb offset 0x10) (Ok place.Data)
    (Err refusal.Offset)))
    (Err refusal.Width)

-- the register that an index names: 0x10 + 2n is entry n's low word, 0x11 + 2n its high word
unfoldable pub register_of : ℕ → Register
register_of k =
    cond (eqb k 0) register.Id
    (cond (eqb k 1) register.Version
    (cond (eqb k 2) register.Arbitration
    (cond (ltb k 0x10) register.Unused
    (cond (leb 0x40 k) register.Unused
    (cond (eqb ((k - 0x10) % 2) 0) (register.Low ((k - 0x10) / 2)) (register.High ((k - 0x10) / 2)))))))

-- the pin whose low word a write goes to; 24 if it is refused or goes elsewhere: index 0x10 + 2n is entry n's low word
unfoldable pub low_pin : ℕ → ℕ → ℕ → ℕ → ℕ
low_pin index width offset value =
    cond (not (eqb width 4) || not (eqb offset 0x10) || leb (2 ^ 32) value) 24
    (cond (ltb index 0x10 || leb 0x40 index || eqb (index % 2) 1) 24
    ((index - 0x10) / 2))
