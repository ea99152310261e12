-- The steps of a call: an advance has those of its ticks, where a firing is one step, or the raise and the drop of a
-- pulse; any other call is one step. In it a pin gains an edge exactly if the pin rises, unless it is a low-word write.
use Prim.Native.Nat.{ℕ, ◌+◌, ◌*◌, ◌^◌, ◌<◌}
use mathlib.Core.Path.{◌≡◌, refl, sym, ap, subst, ◌∙◌}
use mathlib.Core.Bool.{Bool, true, false, cond}
use mathlib.Core.List.{List}
use lib.Dec.{leb, ltb, eqb}
use lib.ListN.{set}
use borrow.Author.Tests.{eqb-true}
use Rattle.answers.specs.declared.Answer.TheVariants as answer
use Rattle.answers.specs.declared.Refusal.TheVariants as refusal
use Rattle.entries.specs.declared.Entries.{Entries}
use Rattle.entries.specs.Table.{held_at, wired}
use Rattle.entries.proofs.Gained.{Rises, Exact, wired-exact, quiet-exact, reset-exact, ended-exact}
use Rattle.controller.specs.declared.Controller.{Controller}
use Rattle.controller.specs.Window.{reading_of as controller_reading, writing_of as controller_writing}
use Rattle.controller.specs.Calls.{write as write_call}
use Rattle.controller.proofs.Formed.{reading-same}
use Rattle.controller.proofs.Gained.{LowWrite as ControllerLowWrite, low-write as controller-low-write, writing-exact as controller-writing-exact, delivering-exact, low-writing-none}
use Rattle.timers.specs.Tick.{fired_of, pulses_of, route_of}
use Rattle.timers.specs.Call.{reading_of as timers_reading, writing_of as timers_writing}
use Rattle.board.specs.declared.Board.{Board}
use Rattle.board.specs.declared.Call.{Call}
use Rattle.board.specs.declared.Call.TheVariants as call
use Rattle.board.specs.declared.Turn.{Turn}
use Rattle.settings.specs.declared.Settings.{Settings}
use Rattle.settings.specs.Settings.{in_range}
use Rattle.board.specs.State.{turn, refused, reset_to}
use Rattle.board.specs.Wires.{wires_of, joined}
use Rattle.board.specs.Tick.{up_to, fires_in, ticks}
use Rattle.board.specs.Step.{by_controller, by_timers, reading_of, writing_of, wiring_of, ending_of, delivering_on_board, resetting_of, served_of, turn_of}
use Rattle.board.proofs.Formed.{Formed, formed-out}
use Rattle.board.proofs.Keeps.{served}

abbrev pub entries_of : Board → Entries
entries_of b = b.controller.entries

-- ---- the steps of a call

-- a write to some entry's low word, which isn't refused
pub data LowWrite (b : Board) : Call → Type 0 where
  low-write : (v n : ℕ) → v < 2 ^ 32 → n < 24 → b.controller.index ≡ 0x10 + 2 * n → LowWrite b (call.Write 0 4 0x10 v)

pub data Advances : Call → Type 0 where
  advances : (n : ℕ) → Advances (call.Advance n)

-- the wires after timer m's firing, and the entries while its pulse is high
abbrev pub wires_after : ℕ → Board → List ℕ
wires_after m b = wires_of b.outside (fired_of b.timers m)

abbrev pub raised : ℕ → Board → Entries
raised m b = wired (entries_of b) (set (wires_after m b) (route_of b.timers m) 1)

-- the steps of timer m's firing: the entries before and after each
pub data Fires (m : ℕ) (b : Board) : Entries → Entries → Type 0 where
  once : pulses_of b.timers m ≡ false → Fires m b (entries_of b) (wired (entries_of b) (wires_after m b))
  raise : pulses_of b.timers m ≡ true → Fires m b (entries_of b) (raised m b)
  drop : pulses_of b.timers m ≡ true → Fires m b (raised m b) (wired (raised m b) (wires_after m b))

-- those steps of a call that are no low-word write
pub data Steps (b : Board) : Call → Entries → Entries → Type 0 where
  whole : (k : Call) → (Advances k → ⊥) → (LowWrite b k → ⊥) → Steps b k (entries_of b) (entries_of (turn_of b k).board)
  fires : (n i m : ℕ) (e e' : Entries) → i < n → m < 3 → fires_in m (ticks i b) ≡ true → Fires m (up_to m (ticks i b)) e e' → Steps b (call.Advance n) e e'

-- some step of the call makes pin p's edge
pub record Made (b : Board) (k : Call) (p : ℕ) : Type 0 where
  pub before : Entries
  pub after : Entries
  pub step : Steps b k before after
  pub rises : Rises p before after

-- ---- a call that is one step

module _ (b : Board) (z : Formed b) (p : ℕ) (l : p < 24) where
  abbrev c : Controller
  c = b.controller

  abbrev e : Entries
  e = c.entries

  same : Exact p e e
  same = quiet-exact p e e (λ h. h) refl refl

  reading-exact : (n w o : ℕ) → Exact p e (entries_of (reading_of b n w o).board)
  unfolding reading_of
  reading-exact n w o = go (eqb n 0) (eqb n 1)
    where
      go : (x y : Bool) → Exact p e (entries_of (cond x (by_controller b (controller_reading c w o)) (cond y (turn b (timers_reading b.timers w o).answer) (refused b refusal.Window))).board)
      go true y = subst (λ (d : Controller). Exact p e d.entries) (sym (reading-same c w o)) same
      go false true = same
      go false false = same

  write_low : (w o v : ℕ) → ControllerLowWrite c (write_call w o v) → LowWrite b (call.Write 0 w o v)
  write_low w o v (controller-low-write _ _ _ n x y u i t) = rw (x, y) (low-write v n u i t)

  writing-exact : (n w o v : ℕ) → (LowWrite b (call.Write n w o v) → ⊥) → Exact p e (entries_of (writing_of b n w o v).board)
  unfolding writing_of joined
  writing-exact n w o v f = go (eqb n 0) refl (eqb n 1)
    where
      go :
          (x : Bool) → eqb n 0 ≡ x → (y : Bool) →
          Exact p e (entries_of (cond x (by_controller b (controller_writing c w o v)) (cond y (by_timers b (timers_writing b.timers w o v)) (refused b refusal.Window))).board)
      go true q y = controller-writing-exact c z.sized p l w o v (λ k. f (rw (eqb-true n 0 q) (write_low w o v k)))
      go false q true = wired-exact e (wires_of b.outside (timers_writing b.timers w o v).timers) p l
      go false q false = same

  wiring-exact : (i x : ℕ) → Exact p e (entries_of (wiring_of b i x).board)
  unfolding wiring_of joined
  wiring-exact i x = go (ltb i 24) (leb x 1)
    where
      go : (a d : Bool) → Exact p e (entries_of (cond a (cond d (turn (joined c b.timers (set b.outside i x)) answer.Done) (refused b refusal.Level)) (refused b refusal.Pin)).board)
      go true true = wired-exact e (wires_of (set b.outside i x) b.timers) p l
      go true false = same
      go false d = same

  resetting-exact : (s : Settings) → Exact p e (entries_of (resetting_of b s).board)
  unfolding resetting_of
  resetting-exact s = go (in_range s)
    where
      go : (x : Bool) → Exact p e (entries_of (cond x (turn (reset_to s) answer.Done) (refused b refusal.Range)).board)
      go true = reset-exact e p l
      go false = same

  served-exact : (k : Call) → (Advances k → ⊥) → (LowWrite b k → ⊥) → Exact p e (entries_of (served_of b k).board)
  unfolding served_of ending_of delivering_on_board
  served-exact (call.Read n w o) a f = reading-exact n w o
  served-exact (call.Write n w o v) a f = writing-exact n w o v f
  served-exact (call.Wire i x) a f = wiring-exact i x
  served-exact (call.End v) a f = ended-exact e p v l
  served-exact (call.Advance n) a f = absurd (a (advances n))
  served-exact call.Deliver a f = delivering-exact c z.sized p l
  served-exact (call.Reset s) a f = resetting-exact s

  pub call-exact : (k : Call) → (Advances k → ⊥) → (LowWrite b k → ⊥) → Exact p e (entries_of (turn_of b k).board)
  call-exact k a f = subst (λ (t : Turn). Exact p e (entries_of t.board)) (sym (served b k (formed-out b z))) (served-exact k a f)

  -- "A low-word write never makes an edge."
  pub low-write-none : (k : Call) → LowWrite b k → held_at e p ≡ 0 → held_at (entries_of (turn_of b k).board) p ≡ 0
  unfolding served_of writing_of
  low-write-none _ (low-write v n u i t) h =
      ap (λ (t : Turn). held_at (entries_of t.board) p) (served b (call.Write 0 4 0x10 v) (formed-out b z))
      ∙ low-writing-none c z.sized p l 4 0x10 v (controller-low-write 4 0x10 v n refl refl u i t) h
