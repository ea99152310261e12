-- "Prove it equal to the first: answers, refusals and state, for every call and so for every log." (document 02, K3)
--
-- First of the two functions, by their own contracts: whatever board they are given, and whatever call, they make the
-- same turn. Then of any sequence of calls and of any log.
use Prim.Native.Nat.{ℕ, ◌+◌}
use mathlib.Core.Path.{◌≡◌, sym, ap, ap₂, ◌∙◌}
use mathlib.Core.List.{List, [], ◌∷◌, ◌++◌}
use lib.ListN.{length}
use Rattle.answers.specs.declared.Answer.{Answer}
use Rattle.board.specs.declared.Board.{Board}
use Rattle.board.specs.declared.Call.{Call}
use Rattle.board.specs.declared.Turn.{Turn}
use Rattle.board.specs.Step.{turn_of}
use Rattle.board.specs.Runs.{run, answers}
use Rattle.board.proofs.Runs.{run-nil, run-cons, answers-nil, answers-cons}
use Rattle.event_log.specs.Calls.{Log, log_of, lines_from, last_line, ending_of}
use Rattle.event_log.specs.Replay.{Run, run_of}
use Rattle.event_log.proofs.Composed.{composed}
use Rattle.board.proofs.Board.step.Reads as first_step
use Rattle.plain.proofs.step.Reads as plain_step
use Rattle.compare.specs.Engines.{Engine, Keeps, run_on, answers_on, replay_on}

-- ---- in the words of the two functions. `first_step` is the contract of `Board::step` (crates/board/src/step.rt) and
-- `plain_step` that of `plain::step` (crates/plain/src/calls.rt), as the source has them: what a caller learns of a
-- board, a call and the turn.

abbrev pub FirstGives : Board → Call → Turn → Type 0
FirstGives b c r = first_step.Learnt tt (b, (c, tt)) r (b, (c, tt))

abbrev pub PlainGives : Board → Call → Turn → Type 0
PlainGives b c r = plain_step.Learnt tt (b, (c, tt)) r (b, (c, tt))

-- every call, on any board: the answer, refusals among them, and the board
pub same_turn : (b : Board) (c : Call) (r s : Turn) → FirstGives b c r → PlainGives b c s → r ≡ s
same_turn b c r s p q = p ∙ sym q

-- an engine whose turns are what `Board::step` gives, or `plain::step`, keeps the promise: what follows holds of both
pub first-keeps : (f : Engine) → ((b : Board) (c : Call) → FirstGives b c (f b c)) → Keeps f
first-keeps f g = g

pub plain-keeps : (f : Engine) → ((b : Board) (c : Call) → PlainGives b c (f b c)) → Keeps f
plain-keeps f g = g

module _ (f : Engine) (kept : Keeps f) where
  runs : (cs : List Call) (b : Board) → run_on f b cs ≡ run b cs
  unfolding run_on
  runs [] b = sym (run-nil b)
  runs (c ∷ cs) b = ap (λ (t : Turn). run_on f t.board cs) (kept b c) ∙ runs cs (turn_of b c).board ∙ sym (run-cons b c cs)

  answered : (cs : List Call) (b : Board) → answers_on f b cs ≡ answers b cs
  unfolding answers_on
  answered [] b = sym (answers-nil b)
  answered (c ∷ cs) b =
      ap (λ (t : Turn). t.answer ∷ answers_on f t.board cs) (kept b c)
      ∙ ap (λ (more : List Answer). (turn_of b c).answer ∷ more) (answered cs (turn_of b c).board)
      ∙ sym (answers-cons b c cs)

  -- an engine's replay of a log is the replay
  pub replays : (s : List ℕ) (at : ℕ) (b : Board) → replay_on f s at b ≡ run_of s at b
  replays s at b =
      let l = log_of s at in
      ap₂ (λ (said : List Answer) (e : Board). made l said e) (answered l.calls b) (runs l.calls b) ∙ sym (composed s at b)
    where
      made : Log → List Answer → Board → Run
      made l said e =
          record {
            text = lines_from 0 said ++ last_line (0 + length l.calls) l.place l.last;
            end = record { board = e; place = l.place; records = 0 + length l.calls; ending = ending_of l.last };
          }

module _ (first plain : Engine) (kept : Keeps first) (also : Keeps plain) where
  -- every call: the answer, refusals among them, and the board
  pub every_call : (b : Board) (c : Call) → first b c ≡ plain b c
  every_call b c = kept b c ∙ sym (also b c)

  -- any sequence of calls
  pub every-board : (cs : List Call) (b : Board) → run_on first b cs ≡ run_on plain b cs
  every-board cs b = runs first kept cs b ∙ sym (runs plain also cs b)

  pub every-answer : (cs : List Call) (b : Board) → answers_on first b cs ≡ answers_on plain b cs
  every-answer cs b = answered first kept cs b ∙ sym (answered plain also cs b)

  -- every log, from any place of it and on any board: the text, the place, the board, the records and the ending
  pub every-log : (s : List ℕ) (at : ℕ) (b : Board) → replay_on first s at b ≡ replay_on plain s at b
  every-log s at b = replays first kept s at b ∙ sym (replays plain also s at b)
