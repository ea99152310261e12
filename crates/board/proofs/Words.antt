-- A delivery's vector, destination and bit 11 are bits of the two words written to its entry, the high one right after
-- the low one, whatever calls came since that write nothing at the data window and don't reset.
use Prim.Native.Nat.{ℕ, ◌/◌, ◌%◌, ◌^◌, ◌<◌}
use mathlib.Core.Path.{◌≡◌, sym, subst, ◌∙◌}
use mathlib.Core.Bool.{false}
use mathlib.Core.List.{List, [], ◌∷◌}
use Rattle.answers.specs.declared.Answer.TheVariants as answer
use Rattle.entries.specs.declared.Entries.{Entries}
use Rattle.entries.specs.Table.{wired}
use Rattle.entries.proofs.Stays.{Stays, stays-given, stays_same, stays_then, wired-stays, ended-stays}
use Rattle.controller.specs.Steps.{delivering_of}
use Rattle.controller.proofs.ReadBack.{given-words, delivered-words}
use Rattle.controller.proofs.Stays.{index-leaves, delivering-stays}
use Rattle.timers.specs.Call.{writing_of as timers_writing}
use Rattle.board.specs.declared.Board.{Board}
use Rattle.board.specs.declared.Call.{Call}
use Rattle.board.specs.declared.Call.TheVariants as call
use Rattle.board.specs.declared.Turn.{Turn}
use Rattle.board.specs.Step.{ending_of, advancing_of, delivering_on_board, turn_of}
use Rattle.board.specs.Runs.{run}
use Rattle.board.proofs.Formed.{Formed, formed-out}
use Rattle.board.proofs.Keeps.{keeps, served}
use Rattle.board.proofs.Served.{reset-refused, served-wire, served-end, served-advance, served-deliver}
use Rattle.board.proofs.Wired.{joined_keeps, ticks-keep, wiring-keeps}
use Rattle.board.proofs.Leaves.{read-leaves}
use Rattle.settings.specs.declared.Settings.{Settings}
use Rattle.settings.specs.Settings.{in_range}
use Rattle.board.specs.Accesses.{low_word, high_word}
use Rattle.board.proofs.Windows.{controller-writes, timers-writes}
use Rattle.board.proofs.Demands.{every-run-keeps}
use Rattle.board.proofs.ControllerMap.{stored, by-controller, both-formed, written-delivery}

-- every call but a write at the data window and a reset that is done
pub data Leaves : Call → Type 0 where
  reads : (window width offset : ℕ) → Leaves (call.Read window width offset)
  selects : (width value : ℕ) → Leaves (call.Write 0 width 0x00 value)
  sets : (width offset value : ℕ) → Leaves (call.Write 1 width offset value)
  wires : (pin level : ℕ) → Leaves (call.Wire pin level)
  ends : (vector : ℕ) → Leaves (call.End vector)
  advances : (n : ℕ) → Leaves (call.Advance n)
  delivers : Leaves call.Deliver
  rejects : (z : Settings) → in_range z ≡ false → Leaves (call.Reset z)

pub data AllLeave : List Call → Type 0 where
  none : AllLeave []
  next : (c : Call) (cs : List Call) → Leaves c → AllLeave cs → AllLeave (c ∷ cs)

module _ (n : ℕ) (l : n < 24) where
  -- entry n's fields are the same on both boards
  abbrev Same : Board → Board → Type 0
  Same b d = Stays n b.controller.entries d.controller.entries

  module _ (b : Board) (z : Formed b) where
    abbrev e : Entries
    e = b.controller.entries

    -- as on this board
    abbrev As : Entries → Type 0
    As = Stays n e

    -- the wires leave an entry's words
    wires-leave : (d : Entries) (w : List ℕ) → As d → As (wired d w)
    wires-leave d w h = stays_then n e d (wired d w) h (wired-stays n d w)

    -- the board after a call, by another name of it
    by : (c : Call) (t : Turn) → turn_of b c ≡ t → Same b t.board → Same b (turn_of b c).board
    by c t e = subst (λ (u : Turn). Same b u.board) (sym e)

    call_same : (c : Call) → Leaves c → Same b (turn_of b c).board
    unfolding ending_of advancing_of delivering_on_board
    call_same c (reads w x o) = subst (Same b) (sym (read-leaves b w x o)) (stays_same n b.controller.entries)
    call_same c (selects w v) = by c _ (controller-writes b z w 0x00 v) (subst As (sym (index-leaves b.controller w v)) (stays_same n e))
    call_same c (sets w o v) =
        by c _ (timers-writes b z w o v) (joined_keeps As wires-leave b.controller (timers_writing b.timers w o v).timers b.outside (stays_same n e))
    call_same c (wires p x) = by c _ (served b (call.Wire p x) (formed-out b z) ∙ served-wire b p x) (wiring-keeps As wires-leave b p x (stays_same n e))
    call_same c (ends v) = by c _ (served b (call.End v) (formed-out b z) ∙ served-end b v) (ended-stays n l e z.sized v)
    call_same c (advances k) = by c _ (served b (call.Advance k) (formed-out b z) ∙ served-advance b k) (ticks-keep As wires-leave k b (stays_same n e))
    call_same c (rejects a e) = by c _ (reset-refused b a e) (stays_same n b.controller.entries)
    call_same c delivers = by c _ (served b call.Deliver (formed-out b z) ∙ served-deliver b) (delivering-stays b.controller n l z.sized)

  run-same : (cs : List Call) (b : Board) → Formed b → AllLeave cs → Same b (run b cs)
  unfolding run
  run-same cs b z none = stays_same n b.controller.entries
  run-same cs b z (next c ks h hs) =
      stays_then n b.controller.entries (turn_of b c).board.controller.entries (run (turn_of b c).board ks).controller.entries (call_same b z c h) (run-same ks (turn_of b c).board (keeps b z c) hs)

-- the low word v and the high word u are written to entry n, and then any calls come that write no word and don't reset
pub delivered-written :
    (b : Board) → Formed b → (n v u : ℕ) → n < 24 → v < 2 ^ 32 → u < 2 ^ 32 → (cs : List Call) → AllLeave cs → (x d g : ℕ) →
    (turn_of (run (stored (stored b (low_word n) v) (high_word n) u) cs) call.Deliver).answer ≡ answer.Interrupt n x d g →
    (turn_of (run (stored (stored b (low_word n) v) (high_word n) u) cs) call.Deliver).answer ≡ answer.Interrupt n (v % 2 ^ 8) (u / 2 ^ 24) (v / 2 ^ 11 % 2)
delivered-written b z n v u h l m cs a x d g e =
    delivers
    ∙ (delivered-words last.controller n x d g (sym delivers ∙ e)).1
    ∙ sym (given-words last.controller n h)
    ∙ stays-given n both.controller.entries last.controller.entries (run-same n h cs both y a)
    ∙ given-words both.controller n h
    ∙ written-delivery b z n v u h l m
  where
    both : Board
    both = stored (stored b (low_word n) v) (high_word n) u

    y : Formed both
    y = both-formed b z n v u h l m

    last : Board
    last = run both cs

    delivers : (turn_of last call.Deliver).answer ≡ (delivering_of last.controller).answer
    delivers = by-controller last (every-run-keeps cs both y)
