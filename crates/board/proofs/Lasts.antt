-- What lasts on a pin (the controller's Lasts.antt) lasts on the board too: over its calls, and over any sequence of
-- them.
use Prim.Native.Nat.{ℕ, ◌+◌, ◌*◌, ◌^◌, ◌<◌}
use mathlib.Core.Path.{◌≡◌, refl, sym, ap, subst, ◌∙◌}
use mathlib.Core.Bool.{Bool, true, false, cond}
use mathlib.Core.List.{List, [], ◌∷◌}
use lib.Dec.{eqb}
use borrow.Author.Tests.{eqb-true}
use Rattle.answers.specs.declared.Answer.TheVariants as answer
use Rattle.answers.specs.declared.Refusal.TheVariants as refusal
use Rattle.settings.specs.declared.Settings.{Settings}
use Rattle.settings.specs.Settings.{in_range}
use Rattle.entries.specs.declared.Entries.{Entries}
use Rattle.entries.specs.Table.{reset_entries, given}
use Rattle.controller.specs.declared.Controller.{Controller}
use Rattle.controller.specs.declared.Turn.{Turn as ControllerTurn}
use Rattle.controller.specs.Window.{reading_of as controller_reading, writing_of as controller_writing}
use Rattle.controller.specs.Calls.{write as write_call, deliver as deliver_call}
use Rattle.controller.proofs.Formed.{reading-same}
use Rattle.controller.proofs.Demands.{write-served, deliver-served, deliver-is}
use Rattle.controller.proofs.Lasts.{Lasts, kept as controller-kept, Breaks as ControllerBreaks, delivered as controller-delivered, rewritten as controller-rewritten}
use Rattle.timers.specs.Call.{reading_of as timers_reading, writing_of as timers_writing}
use Rattle.board.specs.declared.Board.{Board}
use Rattle.board.specs.declared.Call.{Call}
use Rattle.board.specs.declared.Call.TheVariants as call
use Rattle.board.specs.declared.Turn.{Turn}
use Rattle.board.specs.State.{turn, refused, reset_to}
use Rattle.board.specs.Step.{by_controller, by_timers, reading_of, writing_of, ending_of, advancing_of, delivering_on_board, resetting_of, served_of, turn_of}
use Rattle.board.specs.Runs.{run}
use Rattle.board.proofs.Formed.{Formed, formed-out}
use Rattle.board.proofs.Keeps.{served, keeps}
use Rattle.board.proofs.Wired.{joined_keeps, ticks-keep, wiring-keeps}

-- what may break it: the pin's delivery where D says so, a low-word write of a value v to its entry where W v does (a
-- refused call breaks nothing), a reset that is done where R does
pub data Breaks (D : Type 0) (W : ℕ → Type 0) (R : Type 0) (b : Board) (p : ℕ) : Call → Type 0 where
  delivered : D → (turn_of b call.Deliver).answer ≡ given b.controller.entries p → Breaks D W R b p call.Deliver
  rewritten : (v : ℕ) → b.controller.index ≡ 0x10 + 2 * p → v < 2 ^ 32 → W v → Breaks D W R b p (call.Write 0 4 0x10 v)
  reset : (z : Settings) → in_range z ≡ true → R → Breaks D W R b p (call.Reset z)

-- none of the calls does
unfoldable pub NoneBreaks : Type 0 → (ℕ → Type 0) → Type 0 → Board → ℕ → List Call → Type 0
NoneBreaks D W R b p [] = Unit
NoneBreaks D W R b p (k ∷ ks) = (Breaks D W R b p k → ⊥) × NoneBreaks D W R (turn_of b k).board p ks

module _ {D : Type 0} {W : ℕ → Type 0} {R : Type 0} {p : ℕ} {P : Entries → Type 0} (s : Lasts D W p P) (anew : (R → ⊥) → P reset_entries) (l : p < 24) where
  module _ (b : Board) (z : Formed b) (h : P b.controller.entries) where
    abbrev c : Controller
    c = b.controller

    -- it holds of a board's entries
    abbrev On : Board → Type 0
    On d = P d.controller.entries

    -- the controller's two, on the board
    write-breaks : (w o v : ℕ) → ControllerBreaks D W c p (write_call w o v) → Breaks D W R b p (call.Write 0 w o v)
    write-breaks w o v (controller-rewritten _ _ _ x y i u t) = rw (x, y) (rewritten v i u t)

    deliver-breaks : ControllerBreaks D W c p deliver_call → Breaks D W R b p call.Deliver
    unfolding served_of delivering_on_board
    deliver-breaks (controller-delivered d e) =
        delivered d
        (ap (λ (t : Turn). t.answer) (served b call.Deliver (formed-out b z))
        ∙ ap (λ (t : ControllerTurn). t.answer) (sym (deliver-served c z.controlled)) ∙ e)

    reading-keeps : (n w o : ℕ) → On (reading_of b n w o).board
    unfolding reading_of
    reading-keeps n w o = go (eqb n 0) (eqb n 1)
      where
        go : (x y : Bool) → On (cond x (by_controller b (controller_reading c w o)) (cond y (turn b (timers_reading b.timers w o).answer) (refused b refusal.Window))).board
        go true y = subst (λ (d : Controller). P d.entries) (sym (reading-same c w o)) h
        go false true = h
        go false false = h

    writing-keeps : (n w o v : ℕ) → (Breaks D W R b p (call.Write n w o v) → ⊥) → On (writing_of b n w o v).board
    unfolding writing_of
    writing-keeps n w o v f = go (eqb n 0) refl (eqb n 1)
      where
        go :
            (x : Bool) → eqb n 0 ≡ x → (y : Bool) →
            On (cond x (by_controller b (controller_writing c w o v)) (cond y (by_timers b (timers_writing b.timers w o v)) (refused b refusal.Window))).board
        go true e y =
            subst (λ (t : ControllerTurn). P t.controller.entries) (write-served c z.controlled w o v)
            (controller-kept s l c z.sized h (write_call w o v) (λ k. f (rw (eqb-true n 0 e) (write-breaks w o v k))))
        go false e true = joined_keeps P s.wires c (timers_writing b.timers w o v).timers b.outside h
        go false e false = h

    resetting-keeps : (a : Settings) → (Breaks D W R b p (call.Reset a) → ⊥) → On (resetting_of b a).board
    unfolding resetting_of
    resetting-keeps a f = go (in_range a) refl
      where
        go : (x : Bool) → in_range a ≡ x → On (cond x (turn (reset_to a) answer.Done) (refused b refusal.Range)).board
        go true e = anew (λ r. f (reset a e r))
        go false e = h

    served-keeps : (k : Call) → (Breaks D W R b p k → ⊥) → On (served_of b k).board
    unfolding served_of ending_of advancing_of delivering_on_board
    served-keeps (call.Read n w o) f = reading-keeps n w o
    served-keeps (call.Write n w o v) f = writing-keeps n w o v f
    served-keeps (call.Wire i x) f = wiring-keeps P s.wires b i x h
    served-keeps (call.End v) f = s.ends c.entries v h
    served-keeps (call.Advance n) f = ticks-keep P s.wires n b h
    served-keeps call.Deliver f =
        subst (λ (t : ControllerTurn). P t.controller.entries) (deliver-is c ∙ deliver-served c z.controlled)
        (controller-kept s l c z.sized h deliver_call (λ k. f (deliver-breaks k)))
    served-keeps (call.Reset a) f = resetting-keeps a f

    -- every call keeps it, unless it is one that may break it
    pub kept : (k : Call) → (Breaks D W R b p k → ⊥) → On (turn_of b k).board
    kept k f = subst (λ (t : Turn). On t.board) (sym (served b k (formed-out b z))) (served-keeps k f)

  -- … and so does any sequence of calls of which none may break it
  pub along : (ks : List Call) (b : Board) → Formed b → P b.controller.entries → NoneBreaks D W R b p ks → P (run b ks).controller.entries
  unfolding run NoneBreaks
  along [] b z h f = h
  along (k ∷ ks) b z h f = along ks (turn_of b k).board (keeps b z k) (kept b z h k f.0) f.1
