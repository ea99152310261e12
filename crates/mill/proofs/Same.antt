-- The screen changes nothing: the board in a well-formed mill is the board of the same calls without the screen, and
-- the answers are the same.
use mathlib.Core.Path.{◌≡◌, refl, sym, ap, ◌∙◌}
use mathlib.Core.List.{List, [], ◌∷◌}
use mathlib.Core.Bool.{Bool, true, false, cond}
use lib.Dec.{ltb}
use Prim.Native.Nat.{ℕ}
use Rattle.answers.specs.declared.Answer.{Answer}
use Rattle.answers.specs.declared.Answer.TheVariants as answer
use Rattle.answers.specs.declared.Refusal.TheVariants as refusal
use Rattle.board.specs.declared.Board.{Board}
use Rattle.board.specs.declared.Call.{Call}
use Rattle.board.specs.declared.Call.TheVariants as call
use Rattle.board.specs.Step.{turn_of as board_turn}
use Rattle.board.specs.Runs.{run as board_run, answers as board_answers}
use Rattle.board.specs.Events.{other, is_edge}
use Rattle.board.proofs.Leaves.{read-leaves}
use Rattle.board.proofs.Runs.{run-nil, run-cons, answers-nil, answers-cons}
use Rattle.mill.specs.declared.Mill.{Mill}
use Rattle.mill.specs.declared.MillCall.{MillCall}
use Rattle.mill.specs.declared.MillCall.TheVariants as millcall
use Rattle.mill.specs.declared.MillTurn.{MillTurn}
use Rattle.mill.specs.Screen.{shown_after}
use Rattle.mill.specs.Mill.{mill, held_of, turn, refused, looked_at, telling_of, is_paused, resuming_of, turn_of}
use Rattle.mill.specs.Runs.{run, board_calls, board_answers_of}
use Rattle.mill.proofs.Served.{by-board, tell-served, resume-served}
use Rattle.mill.proofs.Keeps.{Good, good-out, good-keeps}
use Rattle.mill.proofs.Steps.{shown-rests}

module _ (m : Mill) (g : Good m) where
  -- a call of the board
  pub board-same : (c : Call) → (turn_of m (millcall.Board c)).mill.board ≡ (board_turn m.board c).board
  board-same c = ap (λ (t : MillTurn). t.mill.board) (by-board m c (good-out m g))

  pub answer-same : (c : Call) → (turn_of m (millcall.Board c)).answer ≡ (board_turn m.board c).answer
  answer-same c = ap (λ (t : MillTurn). t.answer) (by-board m c (good-out m g))

  -- a read leaves the whole mill
  pub read_same : (window width offset : ℕ) → (turn_of m (millcall.Board (call.Read window width offset))).mill ≡ m
  read_same window width offset =
      let c = call.Read window width offset in
      ap (λ (t : MillTurn). t.mill) (by-board m c (good-out m g))
      ∙ ap (λ (b : Board). mill b (shown_after m.screen (held_of b) other)) (read-leaves m.board window width offset)
      ∙ ap (mill m.board) (shown-rests m g)

  -- a telling and a resume leave the board
  pub tell-leaves : (p : ℕ) → (turn_of m (millcall.Tell p)).mill.board ≡ m.board
  unfolding telling_of
  tell-leaves p = ap (λ (t : MillTurn). t.mill.board) (tell-served m p (good-out m g)) ∙ go (ltb p 24) (is_edge m.board p)
    where
      go : (x y : Bool) → (cond x (cond y (turn (looked_at m p) answer.Done) (refused m refusal.NotEdge)) (refused m refusal.Pin)).mill.board ≡ m.board
      go true true = refl
      go true false = refl
      go false y = refl

  pub resume-leaves : (turn_of m millcall.Resume).mill.board ≡ m.board
  unfolding resuming_of
  resume-leaves = ap (λ (t : MillTurn). t.mill.board) (resume-served m (good-out m g)) ∙ go (is_paused m)
    where
      go : (x : Bool) → (cond x (looked_at m m.screen.pin) m).board ≡ m.board
      go true = refl
      go false = refl

-- any sequence of calls: the board, and the answers to the board's calls
pub run-same : (cs : List MillCall) (m : Mill) → Good m → (run m cs).board ≡ board_run m.board (board_calls cs)
unfolding run board_calls
run-same [] m g = sym (run-nil m.board)
run-same (millcall.Board c ∷ cs) m g =
    run-same cs (turn_of m (millcall.Board c)).mill (good-keeps m g (millcall.Board c))
    ∙ ap (λ (b : Board). board_run b (board_calls cs)) (board-same m g c) ∙ sym (run-cons m.board c (board_calls cs))
run-same (millcall.Tell p ∷ cs) m g =
    run-same cs (turn_of m (millcall.Tell p)).mill (good-keeps m g (millcall.Tell p)) ∙ ap (λ (b : Board). board_run b (board_calls cs)) (tell-leaves m g p)
run-same (millcall.Resume ∷ cs) m g =
    run-same cs (turn_of m millcall.Resume).mill (good-keeps m g millcall.Resume) ∙ ap (λ (b : Board). board_run b (board_calls cs)) (resume-leaves m g)

pub answers-same : (cs : List MillCall) (m : Mill) → Good m → board_answers_of m cs ≡ board_answers m.board (board_calls cs)
unfolding board_answers_of board_calls
answers-same [] m g = sym (answers-nil m.board)
answers-same (millcall.Board c ∷ cs) m g =
    ap (λ (l : List Answer). (turn_of m (millcall.Board c)).answer ∷ l)
    (answers-same cs (turn_of m (millcall.Board c)).mill (good-keeps m g (millcall.Board c)) ∙ ap (λ (b : Board). board_answers b (board_calls cs)) (board-same m g c))
    ∙ ap (λ (a : Answer). a ∷ board_answers (board_turn m.board c).board (board_calls cs)) (answer-same m g c)
    ∙ sym (answers-cons m.board c (board_calls cs))
answers-same (millcall.Tell p ∷ cs) m g =
    answers-same cs (turn_of m (millcall.Tell p)).mill (good-keeps m g (millcall.Tell p)) ∙ ap (λ (b : Board). board_answers b (board_calls cs)) (tell-leaves m g p)
answers-same (millcall.Resume ∷ cs) m g =
    answers-same cs (turn_of m millcall.Resume).mill (good-keeps m g millcall.Resume) ∙ ap (λ (b : Board). board_answers b (board_calls cs)) (resume-leaves m g)
