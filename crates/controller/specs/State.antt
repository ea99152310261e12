-- The 82093AA's state: id, index, entries (document 01, "Controller registers"), and what a call gives.
use Rattle.std.specs.Prelude.{ℕ, Bool, cond, ◌&&◌, leb}
use Rattle.answers.specs.declared.Answer.{Answer}
use Rattle.answers.specs.declared.Answer.TheVariants as answer
use Rattle.answers.specs.declared.Refusal.{Refusal}
use Rattle.answers.specs.declared.Refusal.TheVariants as refusal
use Rattle.entries.specs.declared.Entries.{Entries}
use Rattle.entries.specs.Table.{reset_entries, entries_ok}
use Rattle.controller.specs.declared.Controller.{Controller}
use Rattle.controller.specs.declared.Turn.{Turn}

-- with settings: the id register starts at their id; index 0
abbrev pub reset_to : ℕ → Controller
reset_to id = record { id = id; index = 0; entries = reset_entries }

-- without: id 0
abbrev pub reset_controller : Controller
reset_controller = reset_to 0

-- the state with another part
abbrev pub with_id : Controller → ℕ → Controller
with_id c n = record { id = n; index = c.index; entries = c.entries }

abbrev pub with_index : Controller → ℕ → Controller
with_index c n = record { id = c.id; index = n; entries = c.entries }

abbrev pub with_entries : Controller → Entries → Controller
with_entries c e = record { id = c.id; index = c.index; entries = e }

-- controller id at most 15, index at most 255, entries well formed
unfoldable pub well_formed : Controller → Bool
well_formed c = leb c.id 15 && leb c.index 255 && entries_ok c.entries

-- the next state and the answer
abbrev pub turn : Controller → Answer → Turn
turn c a = record { controller = c; answer = a }

-- a refusal gives the state that came in
abbrev pub refused : Controller → Refusal → Turn
refused c r = turn c (answer.Refused r)

-- refusal 5 is tested first
abbrev pub tested : Controller → Turn → Turn
tested c t = cond (well_formed c) t (refused c refusal.State)
