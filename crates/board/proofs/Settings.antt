-- "Settings for each mill" (document 02, K6), on the board: what a reset with settings shows in its registers, what
-- stays of them, and routes in their masks.
use Prim.Native.Nat.{ℕ, ◌+◌, ◌*◌, ◌/◌, ◌%◌, ◌^◌, ◌<◌}
use mathlib.Core.Path.{◌≡◌, refl, sym, ap, ap₂, subst, ◌∙◌}
use mathlib.Core.Bool.{Bool, true, false, cond}
use mathlib.Core.List.{List, [], ◌∷◌}
use native.Mathlib.Omega.{arith}
use lib.Dec.{eqb, leb, ltb}
use lib.ListN.{set}
use Rattle.answers.specs.declared.Answer.TheVariants as answer
use Rattle.answers.specs.declared.Refusal.TheVariants as refusal
use Rattle.answers.specs.Sheet.{value}
use Rattle.settings.specs.declared.Settings.{Settings}
use Rattle.settings.specs.Settings.{mask_of, in_range}
use Rattle.settings.proofs.Ranges.{id-of, id-in}
use Rattle.controller.proofs.ReadBack.{id-shown}
use native.Mathlib.Nat.{mod-eq_of_lt}
use Rattle.timer.specs.Mask.{in_mask, lowest}
use Rattle.timer.specs.Registers.{configuration_of}
use Rattle.timer.proofs.ReadBack.{configuration-reads, configuration-mask, reset-configuration}
use Rattle.timers.specs.declared.Timers.{Timers}
use Rattle.timers.specs.State.{at, mask_at}
use Rattle.timers.specs.Call.{reading_of as timers_reading, writing_of as timers_writing}
use Rattle.timers.proofs.Formed.{formed-in}
use Rattle.timers.proofs.Access.{read-capabilities}
use Rattle.timers.proofs.Places.{configuration-read}
use Rattle.timers.proofs.Settings.{Kept, kept_same, kept_on, capabilities-fit, ticks-kept, writing-kept, reset-mask, reset-timer, reset-kept}
use Rattle.controller.specs.Window.{reading_of as controller_reading, writing_of as controller_writing}
use Rattle.board.specs.declared.Board.{Board}
use Rattle.board.specs.declared.Call.{Call}
use Rattle.board.specs.declared.Call.TheVariants as call
use Rattle.board.specs.declared.Turn.{Turn}
use Rattle.board.specs.State.{reset_to, turn, refused}
use Rattle.board.specs.Wires.{joined}
use Rattle.board.specs.Step.{by_controller, by_timers, reading_of, writing_of, wiring_of, ending_of, advancing_of, delivering_on_board, resetting_of, served_of, turn_of}
use Rattle.board.specs.Runs.{run}
use Rattle.board.specs.Accesses.{configuration}
use Rattle.board.proofs.Formed.{Formed, formed-out}
use Rattle.board.proofs.Keeps.{served, keeps, reset}
use Rattle.board.proofs.Ticks.{ticks-timers}
use Rattle.board.proofs.Windows.{joined-timers}
use Rattle.board.proofs.TimersMap.{register, shown, shown-is}
use Rattle.board.proofs.ControllerMap.{reads, arbitration-is-id}
use Rattle.board.proofs.ControllerMap as Controls
use Rattle.board.proofs.Demands.{every-run-keeps}

-- ---- "A board reset with settings shows them in its registers"

module _ (z : Settings) (e : in_range z ≡ true) where
  abbrev b : Board
  b = reset_to z

  -- the tick period in bits 63:32 of the capability register, the vendor in bits 31:16
  pub shows-capabilities : register b 0x000 ≡ value (z.period * 2 ^ 32 + (z.vendor * 2 ^ 16 + 0x2201))
  shows-capabilities =
      shown b (reset z e) 0x000 refl (omega arith)
      ∙ ap value (read-capabilities b.timers 0x000 refl ∙ capabilities-fit b.timers (reset z e).timed ∙ ap₂ (λ (x y : ℕ). x * 2 ^ 32 + (y * 2 ^ 16 + 0x2201)) (reset-kept z).0 (reset-kept z).1)

  -- each timer's mask in bits 63:32 of its configuration, and in bits 13:9 its route: "a timer's reset route is its
  -- mask's lowest pin"
  pub shows-mask : (n : ℕ) → n < 3 → register b (configuration n) ≡ value (mask_of z n * 2 ^ 32 + (lowest (mask_of z n) * 2 ^ 9 + 0x30))
  shows-mask n l =
      shown b (reset z e) (configuration n) (omega arith) (omega arith)
      ∙ ap value (configuration-read n l b.timers ∙ ap₂ configuration_of (reset-mask z n l) (reset-timer z n l) ∙ reset-configuration (mask_of z n))

  -- the id in bits 27:24 of the controller's id register, and of index 2
  pub shows-id : reads b 0x00 ≡ value (z.id * 2 ^ 24)
  shows-id =
      Controls.shown b (reset z e) 0x00 (omega arith)
      ∙ ap value (id-shown b.controller ∙ ap (λ (x : ℕ). x * 2 ^ 24) (mod-eq_of_lt {n = z.id} {m = 16} (omega (arith, id-in z.id (id-of z e)))))

  pub shows-arbitration : reads b 0x02 ≡ value (z.id * 2 ^ 24)
  shows-arbitration = arbitration-is-id b (reset z e) ∙ shows-id

-- ---- "each route in its mask"

module _ (b : Board) (f : Formed b) (n k : ℕ) (l : n < 3) (e : register b (configuration n) ≡ value k) where
  was : configuration_of (mask_at b.timers n) (at b.timers n) ≡ k
  was = sym (configuration-read n l b.timers) ∙ shown-is b f (configuration n) (omega arith) (omega arith) k e

  -- bits 63:32 of what a timer's configuration reads are its mask, bits 13:9 its route
  pub mask-read : k / 2 ^ 32 ≡ mask_at b.timers n
  mask-read = ap (λ (x : ℕ). x / 2 ^ 32) (sym was) ∙ configuration-mask (mask_at b.timers n) (at b.timers n) ((formed-in b.timers f.timed).each n l)

  -- a route that is read is in the mask that is read
  pub route-in-mask : in_mask (k / 2 ^ 32) (k / 2 ^ 9 % 2 ^ 5) ≡ true
  route-in-mask =
      let t = (formed-in b.timers f.timed).each n l in
      ap₂ in_mask mask-read (ap (λ (x : ℕ). x / 2 ^ 9 % 2 ^ 5) (sym was) ∙ (configuration-reads (mask_at b.timers n) (at b.timers n) t).route) ∙ t.route-in

-- … after any calls from a reset with settings
pub always-in-mask :
    (z : Settings) → in_range z ≡ true → (cs : List Call) (n k : ℕ) → n < 3 → register (run (reset_to z) cs) (configuration n) ≡ value k → in_mask (k / 2 ^ 32) (k / 2 ^ 9 % 2 ^ 5) ≡ true
always-in-mask z e cs n k l = route-in-mask (run (reset_to z) cs) (every-run-keeps cs (reset_to z) (reset z e)) n k l

-- ---- the settings never change but by a reset

-- a reset that is done
pub data Resets : Call → Type 0 where
  resets : (z : Settings) → in_range z ≡ true → Resets (call.Reset z)

module _ (b : Board) (f : Formed b) where
  abbrev s : Timers
  s = b.timers

  writing-same : (n w o v : ℕ) → Kept s (writing_of b n w o v).board.timers
  unfolding writing_of
  writing-same n w o v = go (eqb n 0) (eqb n 1)
    where
      go : (x y : Bool) → Kept s (cond {A = Turn} x (by_controller b (controller_writing b.controller w o v)) (cond y (by_timers b (timers_writing s w o v)) (refused b refusal.Window))).board.timers
      go true y = kept_same s
      go false true = subst (Kept s) (sym (joined-timers b.controller (timers_writing s w o v).timers b.outside)) (writing-kept s w o v)
      go false false = kept_same s

  reading-same : (n w o : ℕ) → Kept s (reading_of b n w o).board.timers
  unfolding reading_of
  reading-same n w o = go (eqb n 0) (eqb n 1)
    where
      go : (x y : Bool) → Kept s (cond {A = Turn} x (by_controller b (controller_reading b.controller w o)) (cond y (turn b (timers_reading s w o).answer) (refused b refusal.Window))).board.timers
      go true y = kept_same s
      go false true = kept_same s
      go false false = kept_same s

  wiring-same : (p l : ℕ) → Kept s (wiring_of b p l).board.timers
  unfolding wiring_of
  wiring-same p l = go (ltb p 24) (leb l 1)
    where
      go : (x y : Bool) → Kept s (cond {A = Turn} x (cond y (turn (joined b.controller s (set b.outside p l)) answer.Done) (refused b refusal.Level)) (refused b refusal.Pin)).board.timers
      go true true = subst (Kept s) (sym (joined-timers b.controller s (set b.outside p l))) (kept_same s)
      go true false = kept_same s
      go false y = kept_same s

  resetting-same : (z : Settings) → (Resets (call.Reset z) → ⊥) → Kept s (resetting_of b z).board.timers
  unfolding resetting_of
  resetting-same z r = go (in_range z) refl
    where
      go : (x : Bool) → in_range z ≡ x → Kept s (cond {A = Turn} x (turn (reset_to z) answer.Done) (refused b refusal.Range)).board.timers
      go true e = absurd (r (resets z e))
      go false e = kept_same s

  served-same : (c : Call) → (Resets c → ⊥) → Kept s (served_of b c).board.timers
  unfolding served_of ending_of advancing_of delivering_on_board
  served-same (call.Read n w o) r = reading-same n w o
  served-same (call.Write n w o v) r = writing-same n w o v
  served-same (call.Wire p l) r = wiring-same p l
  served-same (call.End v) r = kept_same s
  served-same (call.Advance n) r = subst (Kept s) (sym (ticks-timers b f n)) (ticks-kept n s)
  served-same call.Deliver r = kept_same s
  served-same (call.Reset z) r = resetting-same z r

  pub call_same : (c : Call) → (Resets c → ⊥) → Kept s (turn_of b c).board.timers
  call_same c r = subst (λ (t : Turn). Kept s t.board.timers) (sym (served b c (formed-out b f))) (served-same c r)

-- none of the calls is a reset that is done
unfoldable pub NoneResets : List Call → Type 0
NoneResets [] = Unit
NoneResets (c ∷ cs) = (Resets c → ⊥) × NoneResets cs

pub run-same : (cs : List Call) (b : Board) → Formed b → NoneResets cs → Kept b.timers (run b cs).timers
unfolding run NoneResets
run-same [] b f r = kept_same b.timers
run-same (c ∷ cs) b f r = kept_on (call_same b f c r.0) (run-same cs (turn_of b c).board (keeps b f c) r.1)
