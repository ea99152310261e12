-- A held edge on the board is lost only by its delivery, by a low-word write that leaves the pin level, or by a reset;
-- and bit 12.
use Prim.Native.Nat.{ℕ, ◌+◌, ◌*◌, ◌/◌, ◌%◌, ◌<◌}
use mathlib.Core.Path.{◌≡◌, refl, sym, ap, ◌∙◌}
use mathlib.Core.List.{List}
use lib.ListN.{get_or-replicate}
use mir.Val.{bool_byte}
use Rattle.answers.specs.Numbers.{numbers_of}
use Rattle.entries.specs.Table.{held_at, eligible_at}
use Rattle.entries.proofs.Pulse.{wired-keeps}
use Rattle.controller.specs.declared.Controller.{Controller}
use Rattle.controller.specs.declared.Turn.{Turn as ControllerTurn}
use Rattle.controller.specs.Window.{reading_of as controller_reading}
use Rattle.controller.specs.Calls.{write as write_call, deliver as deliver_call}
use Rattle.controller.proofs.Demands.{read-served, write-served, deliver-served, deliver-is, status-read as controller-status-read}
use Rattle.controller.proofs.Lasts.{Level, delivered as controller-delivered, rewritten as controller-rewritten}
use Rattle.controller.proofs.Held.{HeldOn, held-lasts, held-lost as controller-held-lost}
use Rattle.board.specs.declared.Board.{Board}
use Rattle.board.specs.declared.Call.{Call}
use Rattle.board.specs.declared.Call.TheVariants as call
use Rattle.board.specs.declared.Turn.{Turn}
use Rattle.board.specs.Tick.{turned, tick}
use Rattle.board.specs.Step.{reading_of, writing_of, delivering_on_board, served_of, turn_of}
use Rattle.board.specs.Runs.{run}
use Rattle.board.proofs.Formed.{Formed, formed-out}
use Rattle.board.proofs.Keeps.{served}
use Rattle.board.proofs.Wired.{turned-keeps, tick-keeps}
use Rattle.board.proofs.Served.{reset-done}
use Rattle.board.proofs.Lasts.{Breaks, delivered, rewritten, reset, NoneBreaks, kept, along}

-- pin p's edge is held
abbrev pub Held : ℕ → Board → Type 0
Held p b = HeldOn p b.controller.entries

-- ---- no wire change drops a held edge: not a step, not a pulse, not a tick (and so not any number: Wired.antt)

module _ (p : ℕ) (l : p < 24) where
  pub turned-held : (m : ℕ) (b : Board) → Held p b → Held p (turned m b)
  turned-held = turned-keeps (HeldOn p) (λ e w. wired-keeps e w p l)

  pub tick-held : (b : Board) → Held p b → Held p (tick b)
  tick-held = tick-keeps (HeldOn p) (λ e w. wired-keeps e w p l)

-- ---- "If it leaves the pin level, a held edge is dropped; otherwise the held edge stays, masked or not"; "An edge pin
-- loses its held edge"

-- what loses pin p's held edge: its delivery, a low-word write that leaves the pin level (a refused call loses
-- nothing), or a reset that is done
abbrev pub Loses : Board → ℕ → Call → Type 0
Loses = Breaks Unit Level Unit

abbrev pub NoneLoses : Board → ℕ → List Call → Type 0
NoneLoses = NoneBreaks Unit Level Unit

module _ (p : ℕ) (l : p < 24) where
  module _ (b : Board) (z : Formed b) (h : Held p b) where
    abbrev c : Controller
    c = b.controller

    -- any call keeps a held edge, unless it is one of the three that lose it
    pub held_kept : (k : Call) → (Loses b p k → ⊥) → held_at (turn_of b k).board.controller.entries p ≡ 1
    held_kept = kept (held-lasts p l) (λ f. absurd (f tt)) l b z h

    -- … and each of the three loses it
    pub held-lost : (k : Call) → Loses b p k → held_at (turn_of b k).board.controller.entries p ≡ 0
    unfolding served_of writing_of delivering_on_board
    held-lost _ (delivered _ e) =
        let s = served b call.Deliver (formed-out b z) in
        let d = deliver-served c z.controlled in
        ap (λ (t : Turn). held_at t.board.controller.entries p) s
        ∙ ap (λ (t : ControllerTurn). held_at t.controller.entries p) (sym (deliver-is c ∙ d))
        ∙ controller-held-lost c z.sized p l h z.controlled deliver_call
        (controller-delivered tt (ap (λ (t : ControllerTurn). t.answer) d ∙ sym (ap (λ (t : Turn). t.answer) s) ∙ e))
    held-lost _ (rewritten v i u t) =
        ap (λ (t : Turn). held_at t.board.controller.entries p) (served b (call.Write 0 4 0x10 v) (formed-out b z))
        ∙ ap (λ (t : ControllerTurn). held_at t.controller.entries p) (sym (write-served c z.controlled 4 0x10 v))
        ∙ controller-held-lost c z.sized p l h z.controlled (write_call 4 0x10 v) (controller-rewritten 4 0x10 v refl refl i u t)
    held-lost _ (reset a e _) = ap (λ (t : Turn). held_at t.board.controller.entries p) (reset-done b a e) ∙ get_or-replicate 24 p 0 0 l

  -- any sequence of calls of which none loses it keeps it too
  pub held-along : (ks : List Call) (b : Board) → Formed b → Held p b → NoneLoses b p ks → held_at (run b ks).controller.entries p ≡ 1
  held-along = along (held-lasts p l) (λ f. absurd (f tt)) l

-- ---- "Bit 12 reads 1 exactly for an eligible pin"

module _ (b : Board) (z : Formed b) (i : ℕ) (l : i < 24) (at : b.controller.index ≡ 0x10 + 2 * i) where
  low_read : (turn_of b (call.Read 0 4 0x10)).answer ≡ (controller_reading b.controller 4 0x10).answer
  unfolding served_of reading_of
  low_read = ap (λ (t : Turn). t.answer) (served b (call.Read 0 4 0x10) (formed-out b z))

  pub status-read : (numbers_of (turn_of b (call.Read 0 4 0x10)).answer).value / 4096 % 2 ≡ bool_byte (eligible_at b.controller.entries i)
  status-read =
      ap (λ a. (numbers_of a).value / 4096 % 2) (low_read ∙ ap (λ (t : ControllerTurn). t.answer) (sym (read-served b.controller z.controlled 4 0x10)))
      ∙ controller-status-read b.controller z.controlled i l at
