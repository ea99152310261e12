-- Every call turns a well-formed board into one.
use Prim.Native.Nat.{ℕ}
use mathlib.Core.Path.{◌≡◌, refl, sym, subst, ◌∙◌}
use mathlib.Core.Bool.{Bool, true, false, cond, ◌||◌}
use lib.Dec.{leb, ltb, eqb}
use lib.ListN.{set, get_or, replicate, get_or-replicate}
use lib.Seq.{ext_get_or}
use mir.Val.{bool_byte}
use Rattle.answers.specs.declared.Answer.TheVariants as answer
use Rattle.answers.specs.declared.Refusal.TheVariants as refusal
use Rattle.entries.specs.Table.{reset_entries}
use Rattle.entries.proofs.Formed.{reset-ok, own-levels-ok}
use Rattle.entries.proofs.Pulse.{set-ok}
use Rattle.entries.proofs.Delivery.{ended-level}
use Rattle.controller.specs.declared.Controller.{Controller}
use Rattle.controller.specs.declared.Turn.{Turn as ControllerTurn}
use Rattle.controller.specs.Window.{reading_of as controller_reading, writing_of as controller_writing}
use Rattle.controller.specs.Steps.{delivering_of}
use Rattle.controller.proofs.Formed.{reset-formed as controller-reset}
use Rattle.controller.proofs.Formed.{Keeps, reading-same, writing-keeps, writing-levels, ended-keeps, delivering-keeps, delivering-levels}
use Rattle.timers.specs.Call.{reading_of as timers_reading, writing_of as timers_writing}
use Rattle.settings.specs.declared.Settings.{Settings}
use Rattle.settings.specs.Settings.{standard, in_range}
use Rattle.settings.proofs.Ranges.{standard-in-range, id-of, id-in}
use Rattle.timers.specs.State.{reset_to as timers_reset}
use Rattle.timers.proofs.Formed.{writing-formed, reset-formed as timers-reset}
use Rattle.timers.proofs.Wires.{reset-drives}
use Rattle.board.specs.declared.Board.{Board}
use Rattle.board.specs.declared.Call.{Call}
use Rattle.board.specs.declared.Call.TheVariants as call
use Rattle.board.specs.declared.Turn.{Turn}
use Rattle.board.specs.State.{reset_to, reset_board, with_controller, turn, refused}
use Rattle.board.specs.Wires.{high_at, wires_of, joined}
use Rattle.board.specs.Formed.{well_formed}
use Rattle.board.specs.Step.{by_controller, by_timers, reading_of, writing_of, wiring_of, ending_of, advancing_of, delivering_on_board, resetting_of, served_of, turn_of}
use Rattle.board.proofs.Formed.{Sized, Formed, formed-in, formed-out, joined-formed}
use Rattle.board.proofs.Rule.{wires-long, wires-at}
use Rattle.board.proofs.Ticks.{ticks-formed}
use Rattle.board.proofs.Served.{formed-taken, turn-served}

-- ---- reset, with settings in range

-- every wire is low
low-wires : (z : Settings) → replicate 24 0 ≡ wires_of (replicate 24 0) (timers_reset z)
unfolding high_at
low-wires z =
    ext_get_or 0 (replicate 24 0) (wires_of (replicate 24 0) (timers_reset z)) (sym (wires-long (replicate 24 0) (timers_reset z)))
    (λ i l.
    let low : get_or {A = ℕ} (replicate 24 0) i 0 ≡ 0 = get_or-replicate 24 i 0 0 l in
    low ∙ sym (wires-at (replicate 24 0) (timers_reset z) i l ∙ (λ j. bool_byte (eqb (low j) 1 || reset-drives z i j))))

pub reset-sized : (z : Settings) → Sized (reset_to z)
reset-sized z = record { low = refl; destination = refl; level = refl; held = refl }

module _ (z : Settings) (e : in_range z ≡ true) where
  pub reset : Formed (reset_to z)
  reset =
      record {
        controlled = controller-reset z.id (id-in z.id (id-of z e));
        timed = timers-reset z e;
        outer = own-levels-ok reset_entries reset-ok;
        wired = low-wires z;
        sized = reset-sized z;
      }

  pub reset-formed : well_formed (reset_to z) ≡ true
  reset-formed = formed-out (reset_to z) reset

pub plain-formed : well_formed reset_board ≡ true
plain-formed = reset-formed standard standard-in-range

module _ (b : Board) (z : Formed b) where
  -- a controller that a call left well formed, with the levels that it had
  with-controller : (t : ControllerTurn) → Keeps t → t.controller.entries.level ≡ b.controller.entries.level → Formed (with_controller b t.controller)
  with-controller t k e = record { controlled = k.formed; timed = z.timed; outer = z.outer; wired = e ∙ z.wired; sized = k.sized }

  reading-keeps : (n w o : ℕ) → Formed (reading_of b n w o).board
  unfolding reading_of
  reading-keeps n w o = go (eqb n 0) (eqb n 1)
    where
      go : (x y : Bool) → Formed (cond x (by_controller b (controller_reading b.controller w o)) (cond y (turn b (timers_reading b.timers w o).answer) (refused b refusal.Window))).board
      go true y = subst (λ (c : Controller). Formed (with_controller b c)) (sym (reading-same b.controller w o)) z
      go false true = z
      go false false = z

  writing-board : (n w o v : ℕ) → Formed (writing_of b n w o v).board
  unfolding writing_of
  writing-board n w o v = go (eqb n 0) (eqb n 1)
    where
      go :
          (x y : Bool) →
          Formed (cond x (by_controller b (controller_writing b.controller w o v)) (cond y (by_timers b (timers_writing b.timers w o v)) (refused b refusal.Window))).board
      go true y = with-controller (controller_writing b.controller w o v) (writing-keeps b.controller z.controlled z.sized w o v) (writing-levels b.controller w o v)
      go false true =
          joined-formed b.controller (timers_writing b.timers w o v).timers b.outside z.controlled z.sized (writing-formed b.timers w o z.timed v) z.outer
      go false false = z

  wiring-keeps : (p l : ℕ) → Formed (wiring_of b p l).board
  unfolding wiring_of
  wiring-keeps p l = go (ltb p 24) (leb l 1) refl
    where
      go :
          (x y : Bool) → leb l 1 ≡ y →
          Formed (cond x (cond y (turn (joined b.controller b.timers (set b.outside p l)) answer.Done) (refused b refusal.Level)) (refused b refusal.Pin)).board
      go true true e = joined-formed b.controller b.timers (set b.outside p l) z.controlled z.sized z.timed (set-ok b.outside p l e z.outer)
      go true false e = z
      go false y e = z

  resetting-keeps : (s : Settings) → Formed (resetting_of b s).board
  unfolding resetting_of
  resetting-keeps s = go (in_range s) refl
    where
      go : (x : Bool) → in_range s ≡ x → Formed (cond x (turn (reset_to s) answer.Done) (refused b refusal.Range)).board
      go true e = reset s e
      go false e = z

  served-keeps : (c : Call) → Formed (served_of b c).board
  unfolding served_of ending_of advancing_of delivering_on_board
  served-keeps (call.Read n w o) = reading-keeps n w o
  served-keeps (call.Write n w o v) = writing-board n w o v
  served-keeps (call.Wire p l) = wiring-keeps p l
  served-keeps (call.End v) =
      let k = ended-keeps b.controller z.controlled z.sized v in
      record { controlled = k.formed; timed = z.timed; outer = z.outer; wired = ended-level b.controller.entries v ∙ z.wired; sized = k.sized }
  served-keeps (call.Advance n) = ticks-formed b z n
  served-keeps call.Deliver = with-controller (delivering_of b.controller) (delivering-keeps b.controller z.controlled z.sized) (delivering-levels b.controller)
  served-keeps (call.Reset s) = resetting-keeps s

pub served : (b : Board) (c : Call) → well_formed b ≡ true → turn_of b c ≡ served_of b c
served b c e = turn-served b c (formed-taken b c e)

pub keeps : (b : Board) → Formed b → (c : Call) → Formed (turn_of b c).board
keeps b z c = subst (λ (t : Turn). Formed t.board) (sym (served b c (formed-out b z))) (served-keeps b z c)

pub step-formed : (b : Board) (c : Call) → Sized b → well_formed b ≡ true → well_formed (turn_of b c).board ≡ true
step-formed b c s e = formed-out (turn_of b c).board (keeps b (formed-in b e s) c)
