-- An access to window 0 is the controller's, one to window 1 the timers': what a call gives at each place of the two.
use mathlib.Core.Path.{◌≡◌, refl, sym, ap, ◌∙◌}
use mathlib.Core.List.{List}
use Prim.Native.Nat.{ℕ, ◌%◌, ◌^◌, ◌<◌}
use borrow.Author.Tests.{eq-eqb}
use Rattle.answers.specs.declared.Answer.{Answer}
use Rattle.answers.specs.declared.Answer.TheVariants as answer
use Rattle.answers.specs.Sheet.{ok, value}
use Rattle.entries.specs.declared.Entries.{Entries}
use Rattle.entries.proofs.Pulse.{wired-same}
use Rattle.controller.specs.declared.Controller.{Controller}
use Rattle.controller.specs.State.{with_index, with_entries}
use Rattle.controller.specs.Steps.{rewired}
use Rattle.controller.specs.Window.{data_read, data_written, reading_of as controller_reading, writing_of as controller_writing}
use Rattle.controller.proofs.ReadBack.{reads-index, reads-data}
use Rattle.controller.proofs.ReadBack.{selects as controller-selects, puts as controller-puts}
use Rattle.timers.specs.declared.Timers.{Timers}
use Rattle.timers.specs.Registers.{register_of, written_of}
use Rattle.timers.specs.Tick.{drives_of}
use Rattle.timers.specs.Call.{reading_of as timers_reading, writing_of as timers_writing, turn as timers_turn}
use Rattle.timers.proofs.Access.{reading-done, writing-done, shown-whole, stored-whole}
use Rattle.board.specs.declared.Board.{Board}
use Rattle.board.specs.declared.Call.TheVariants as call
use Rattle.board.specs.State.{board, with_controller, turn}
use Rattle.board.specs.Wires.{joined}
use Rattle.board.specs.Step.{by_controller, by_timers, reading_of, writing_of, turn_of}
use Rattle.board.specs.Accesses.{select, index, put, get, set, show}
use Rattle.board.proofs.Formed.{Formed, formed-out}
use Rattle.board.proofs.Rule.{wires-same}
use Rattle.board.proofs.Keeps.{served}
use Rattle.board.proofs.Served.{served-read, served-write}

-- a read's answer has one value
abbrev value_of : Answer → ℕ
value_of answer.Done = 0
value_of (answer.Value v) = v
value_of (answer.Fired x y z) = 0
value_of (answer.Interrupt p v d l) = 0
value_of answer.Nothing = 0
value_of (answer.Refused r) = 0

pub same-value : (x y : ℕ) → value x ≡ value y → x ≡ y
same-value x y = ap value_of

-- joined with a block that drives the same pins, the controller is the same
pub joined-still :
    (b : Board) → Formed b → (s : Timers) → ((p : ℕ) → drives_of s p ≡ drives_of b.timers p) → joined b.controller s b.outside ≡ board b.controller s b.outside
unfolding joined
joined-still b z s still =
    ap (λ (w : List ℕ). board (rewired b.controller w) s b.outside) (wires-same b.outside b.timers s still ∙ sym z.wired)
    ∙ ap (λ (e : Entries). board (with_entries b.controller e) s b.outside) (wired-same b.controller.entries z.sized)

-- joined again, the same parts are the same board
pub joined_same : (b : Board) → Formed b → joined b.controller b.timers b.outside ≡ b
joined_same b z = joined-still b z b.timers (λ p. refl)

pub joined-timers : (c : Controller) (s : Timers) (o : List ℕ) → (joined c s o).timers ≡ s
unfolding joined
joined-timers c s o = refl

module _ (b : Board) (z : Formed b) (w o : ℕ) where
  controller-reads : turn_of b (call.Read 0 w o) ≡ by_controller b (controller_reading b.controller w o)
  unfolding reading_of
  controller-reads = served b (call.Read 0 w o) (formed-out b z) ∙ served-read b 0 w o

  pub timers-reads : turn_of b (call.Read 1 w o) ≡ turn b (timers_reading b.timers w o).answer
  unfolding reading_of
  timers-reads = served b (call.Read 1 w o) (formed-out b z) ∙ served-read b 1 w o

  module _ (v : ℕ) where
    pub controller-writes : turn_of b (call.Write 0 w o v) ≡ by_controller b (controller_writing b.controller w o v)
    unfolding writing_of
    controller-writes = served b (call.Write 0 w o v) (formed-out b z) ∙ served-write b 0 w o v

    pub timers-writes : turn_of b (call.Write 1 w o v) ≡ by_timers b (timers_writing b.timers w o v)
    unfolding writing_of
    timers-writes = served b (call.Write 1 w o v) (formed-out b z) ∙ served-write b 1 w o v

module _ (b : Board) (z : Formed b) where
  abbrev c : Controller
  c = b.controller

  pub indexes : turn_of b index ≡ turn b (value c.index)
  indexes = controller-reads b z 4 0x00 ∙ ap (by_controller b) (reads-index c)

  pub gets : turn_of b get ≡ turn b (value (data_read c))
  gets = controller-reads b z 4 0x10 ∙ ap (by_controller b) (reads-data c)

  module _ (v : ℕ) (l : v < 2 ^ 32) where
    pub selects : turn_of b (select v) ≡ turn (with_controller b (with_index c (v % 2 ^ 8))) ok
    selects = controller-writes b z 4 0x00 v ∙ ap (by_controller b) (controller-selects c v l)

    pub puts : turn_of b (put v) ≡ turn (with_controller b (data_written c v)) ok
    puts = controller-writes b z 4 0x10 v ∙ ap (by_controller b) (controller-puts c v l)

  -- the timers' registers stand at multiples of 8 below 0x400
  module _ (o : ℕ) (a : o % 8 ≡ 0) (l : o < 0x400) where
    pub shows : turn_of b (show o) ≡ turn b (value (register_of b.timers o))
    shows = timers-reads b z 8 o ∙ ap (λ t. turn b t.answer) (reading-done b.timers 8 o (eq-eqb (o % 8) 0 a) l ∙ ap (λ (v : ℕ). timers_turn b.timers (value v)) (shown-whole b.timers 8 o refl))

    pub sets : (v : ℕ) → turn_of b (set o v) ≡ turn (joined b.controller (written_of b.timers o v) b.outside) ok
    sets v = timers-writes b z 8 o v ∙ ap (by_timers b) (writing-done b.timers 8 o v (eq-eqb (o % 8) 0 a) l refl ∙ ap (λ (x : Timers). timers_turn x ok) (stored-whole b.timers 8 o v refl))
