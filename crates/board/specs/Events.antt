-- What the rooms above see of a board: what a call did, and of a pin whether it holds an edge and whether its entry is
-- an edge entry.
use Rattle.std.specs.Prelude.{ℕ, Bool, true, false, cond, not, eqb}
use Rattle.answers.specs.declared.Answer.{Answer}
use Rattle.answers.specs.declared.Answer.TheVariants as answer
use Rattle.answers.specs.Numbers.{is_done}
use Rattle.entries.specs.Word.{level_of}
use Rattle.entries.specs.Table.{low_at, held_at}
use Rattle.board.specs.declared.Board.{Board}
use Rattle.board.specs.declared.Call.{Call}
use Rattle.board.specs.declared.Call.TheVariants as call

-- ---- a pin

-- it holds an edge, masked or not
abbrev pub holds : Board → ℕ → Bool
holds b p = eqb (held_at b.controller.entries p) 1

-- its entry is an edge entry, masked or not
abbrev pub is_edge : Board → ℕ → Bool
is_edge b p = not (level_of (low_at b.controller.entries p))

-- ---- a call

-- what a statement over a sequence of calls names: a reset, a delivery of a pin with its vector, an end of interrupt
-- with a vector
pub data Event : Type 0 where
  reset : Event
  delivery : ℕ → ℕ → Event
  end : ℕ → Event
  other : Event

-- a delivery step gives a pin and its vector, or none
abbrev pub delivery_of : Answer → Event
delivery_of (answer.Interrupt pin vector destination logical) = delivery pin vector
delivery_of answer.Done = other
delivery_of (answer.Value v) = other
delivery_of (answer.Fired x y z) = other
delivery_of answer.Nothing = other
delivery_of (answer.Refused r) = other

-- what a call did, which got this answer: a refused call did nothing
abbrev pub event_of : Call → Answer → Event
event_of (call.Read window width offset) a = other
event_of (call.Write window width offset value) a = other
event_of (call.Wire pin level) a = other
event_of (call.End vector) a = cond (is_done a) (end vector) other
event_of (call.Advance n) a = other
event_of call.Deliver a = delivery_of a
event_of (call.Reset z) a = cond (is_done a) reset other

-- a reset takes any state
abbrev pub is_reset : Call → Bool
is_reset (call.Read window width offset) = false
is_reset (call.Write window width offset value) = false
is_reset (call.Wire pin level) = false
is_reset (call.End vector) = false
is_reset (call.Advance n) = false
is_reset call.Deliver = false
is_reset (call.Reset z) = true
