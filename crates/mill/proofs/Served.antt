-- The promise of a mill's call in its two cases, and of a call of the board by what the board promises.
use Prim.Native.Nat.{ℕ}
use mathlib.Core.Path.{◌≡◌, refl, sym, ap, ◌∙◌}
use mathlib.Core.Bool.{Bool, true, false, cond, ◌||◌}
use Rattle.answers.specs.declared.Answer.TheVariants as answer
use Rattle.answers.specs.declared.Refusal.TheVariants as refusal
use Rattle.pins.proofs.Bools.{and_left, and_right}
use Rattle.board.specs.declared.Board.{Board}
use Rattle.board.specs.declared.Call.{Call}
use Rattle.board.specs.declared.Call.TheVariants as call
use Rattle.board.specs.declared.Turn.{Turn}
use Rattle.board.specs.Step.{formed}
use Rattle.board.specs.Step.{turn_of as board_turn, served_of as board_served}
use Rattle.board.specs.Events.{Event, other, is_reset, event_of}
use Rattle.board.proofs.Keeps.{served}
use Rattle.board.proofs.Leaves.{read-leaves}
use Rattle.settings.specs.declared.Settings.{Settings}
use Rattle.settings.specs.Settings.{in_range}
use Rattle.board.proofs.Served.{reset-done, reset-refused, served-read, served-write, served-wire, served-end, served-advance, served-deliver, ending-done}
use Rattle.board.proofs.Formed.{formed-in}
use Rattle.board.proofs.At.{wiring-at, advancing-at}
use Rattle.mill.specs.declared.Screen.{Screen}
use Rattle.mill.specs.declared.Mill.{Mill}
use Rattle.mill.specs.declared.MillCall.{MillCall}
use Rattle.mill.specs.declared.MillCall.TheVariants as millcall
use Rattle.mill.specs.Screen.{fits, shown_after}
use Rattle.mill.specs.Mill.{mill, reset_to, held_of, well_formed, turn, refused, by_event, by_board, rejected, telling_of, resuming_of, served_of, takes, turn_of}
use Rattle.mill.proofs.Fits.{fits_in}
use Rattle.mill.proofs.Rests.{fitting-rests}

module _ (m : Mill) where
  pub board-formed : well_formed m ≡ true → formed m.board ≡ true
  unfolding well_formed
  board-formed e = and_left (formed m.board) (fits m.screen (held_of m.board)) e

  pub screen-fits : well_formed m ≡ true → fits m.screen (held_of m.board) ≡ true
  unfolding well_formed
  screen-fits e = and_right (formed m.board) (fits m.screen (held_of m.board)) e

  -- every call takes a well-formed mill
  pub formed-taken : (c : MillCall) → well_formed m ≡ true → takes m c ≡ true
  formed-taken (millcall.Board c) e = go (is_reset c)
    where
      go : (x : Bool) → x || well_formed m ≡ true
      go true = refl
      go false = e
  formed-taken (millcall.Tell pin) e = e
  formed-taken millcall.Resume e = e

  pub turn-served : (c : MillCall) → takes m c ≡ true → turn_of m c ≡ served_of m c
  unfolding turn_of
  turn-served c e = ap (λ (x : Bool). cond x (served_of m c) (refused m refusal.State)) e

  pub turn-refused : (c : MillCall) → takes m c ≡ false → turn_of m c ≡ refused m refusal.State
  unfolding turn_of
  turn-refused c e = ap (λ (x : Bool). cond x (served_of m c) (refused m refusal.State)) e

  pub well-served : (c : MillCall) → well_formed m ≡ true → turn_of m c ≡ served_of m c
  well-served c e = turn-served c (formed-taken c e)

  -- a call of the board on a well-formed mill is the board's own, and the screen after it
  pub by-board : (c : Call) → well_formed m ≡ true → turn_of m (millcall.Board c) ≡ by_board m.screen c (board_turn m.board c)
  unfolding served_of
  by-board (call.Read window width offset) e = well-served (millcall.Board (call.Read window width offset)) e
  by-board (call.Write window width offset value) e = well-served (millcall.Board (call.Write window width offset value)) e
  by-board (call.Wire pin level) e = well-served (millcall.Board (call.Wire pin level)) e
  by-board (call.End vector) e = well-served (millcall.Board (call.End vector)) e
  by-board (call.Advance n) e = well-served (millcall.Board (call.Advance n)) e
  by-board call.Deliver e = well-served (millcall.Board call.Deliver) e
  by-board (call.Reset z) e = well-served (millcall.Board (call.Reset z)) e ∙ go (in_range z) refl
    where
      t : Turn
      t = board_turn m.board (call.Reset z)

      -- a reset that is refused leaves a fitting screen by the rule for the board's calls too
      go : (x : Bool) → in_range z ≡ x → rejected m (call.Reset z) t (by_board m.screen (call.Reset z) t) ≡ by_board m.screen (call.Reset z) t
      go true q =
          let is = reset-done m.board z q in
          ap (λ (u : Turn). rejected m (call.Reset z) u (by_board m.screen (call.Reset z) u)) is ∙ ap (by_board m.screen (call.Reset z)) (sym is)
      go false q =
          let is = reset-refused m.board z q in
          ap (λ (u : Turn). rejected m (call.Reset z) u (by_board m.screen (call.Reset z) u)) is
          ∙ ap (λ (s : Screen). turn (mill m.board s) (answer.Refused refusal.Range)) (sym (fitting-rests (held_of m.board) m.screen (fits_in (held_of m.board) m.screen (screen-fits e))))
          ∙ ap (by_board m.screen (call.Reset z)) (sym is)

  -- what the code gives: the board's turn by what its call does, and the event that the call is
  pub by-served : (c : Call) (t : Turn) (e : Event) → well_formed m ≡ true → t ≡ board_served m.board c → e ≡ event_of c t.answer → by_event m.screen t e ≡ turn_of m (millcall.Board c)
  by-served c t e w is event =
      ap (by_event m.screen t) event
      ∙ ap (by_board m.screen c) (is ∙ sym (served m.board c (board-formed w)))
      ∙ sym (by-board c w)

  -- a read leaves the board, and a fitting screen then rests
  pub read-served :
      (window width offset : ℕ) (t : Turn) → well_formed m ≡ true → t ≡ board_served m.board (call.Read window width offset) →
      turn m t.answer ≡ turn_of m (millcall.Board (call.Read window width offset))
  read-served window width offset t w is =
      ap (λ (u : Turn). turn m u.answer) (is ∙ sym (served m.board c (board-formed w)))
      ∙ ap (λ (x : Mill). turn x after.answer) (sym rested)
      ∙ sym (by-board c w)
    where
      c : Call
      c = call.Read window width offset

      after : Turn
      after = board_turn m.board c

      rested : mill after.board (shown_after m.screen (held_of after.board) other) ≡ m
      rested =
          ap (λ (b : Board). mill b (shown_after m.screen (held_of b) other)) (read-leaves m.board window width offset)
          ∙ ap (mill m.board) (fitting-rests (held_of m.board) m.screen (fits_in (held_of m.board) m.screen (screen-fits w)))

  pub tell-served : (p : ℕ) → well_formed m ≡ true → turn_of m (millcall.Tell p) ≡ telling_of m p
  unfolding served_of
  tell-served p e = well-served (millcall.Tell p) e

  pub resume-served : well_formed m ≡ true → turn_of m millcall.Resume ≡ resuming_of m
  unfolding served_of
  resume-served e = well-served millcall.Resume e

  -- a reset, whatever the mill was
  module _ (z : Settings) where
    pub reset-served : in_range z ≡ true → turn_of m (millcall.Board (call.Reset z)) ≡ turn (reset_to z) answer.Done
    unfolding turn_of served_of shown_after
    reset-served e = ap (λ (u : Turn). rejected m (call.Reset z) u (by_board m.screen (call.Reset z) u)) (reset-done m.board z e)

    -- "refused, it hands that state back"
    pub reset-rejected : in_range z ≡ false → turn_of m (millcall.Board (call.Reset z)) ≡ refused m refusal.Range
    unfolding turn_of served_of
    reset-rejected e = ap (λ (u : Turn). rejected m (call.Reset z) u (by_board m.screen (call.Reset z) u)) (reset-refused m.board z e)

-- a reset, in range and out of it
pub ruleset resets = (reset-served, reset-rejected)

-- what the code of each call of the board gives
pub ruleset board_calls = (by-served, read-served, board-formed, served-read, served-write, served-wire, served-end, served-advance, served-deliver, ending-done, formed-in, wiring-at, advancing-at)
