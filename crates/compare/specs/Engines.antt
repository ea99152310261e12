-- Two engines (document 02, K3): what each makes of a call, of any sequence of calls, and of a log.
use Rattle.std.specs.Prelude.{ℕ, ◌+◌, ◌≡◌, List, [], ◌∷◌, ◌++◌, length}
use Rattle.answers.specs.declared.Answer.{Answer}
use Rattle.board.specs.declared.Board.{Board}
use Rattle.board.specs.declared.Call.{Call}
use Rattle.board.specs.declared.Turn.{Turn}
use Rattle.board.specs.Step.{turn_of}
use Rattle.event_log.specs.Calls.{Log, log_of, lines_from, last_line, ending_of}
use Rattle.event_log.specs.Replay.{Run}

-- an engine makes a turn of a board and a call
abbrev pub Engine : Type 0
Engine = Board → Call → Turn

-- it keeps the promise that `Board::step` and `plain::step` make, each by its own proof
abbrev pub Keeps : Engine → Type 0
Keeps f = (b : Board) (c : Call) → f b c ≡ turn_of b c

-- the board after calls, one after another, and what the engine answered
unfoldable pub run_on : Engine → Board → List Call → Board
run_on f b [] = b
run_on f b (c ∷ cs) = run_on f (f b c).board cs

unfoldable pub answers_on : Engine → Board → List Call → List Answer
answers_on f b [] = []
answers_on f b (c ∷ cs) = (f b c).answer ∷ answers_on f (f b c).board cs

-- a log's calls made on an engine: the text, and at its end the board, the place, the count of records and why no more
-- came
abbrev pub played_on : Engine → Board → Log → Run
played_on f b l =
    record {
      text = lines_from 0 (answers_on f b l.calls) ++ last_line (0 + length l.calls) l.place l.last;
      end = record { board = run_on f b l.calls; place = l.place; records = 0 + length l.calls; ending = ending_of l.last };
    }

abbrev pub replay_on : Engine → List ℕ → ℕ → Board → Run
replay_on f s at b = played_on f b (log_of s at)
