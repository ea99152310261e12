-- Sequences of a mill's calls, and the tests of each call in the paper's order.
use Rattle.std.specs.Prelude.{cond, not, List, [], ◌∷◌, ◌++◌, ltb}
use Rattle.answers.specs.declared.Answer.{Answer}
use Rattle.answers.specs.Order.{Test, test}
use Rattle.board.specs.declared.Call.{Call}
use Rattle.board.specs.Runs.{tests_of as board_tests}
use Rattle.board.specs.Events.{is_edge, is_reset}
use Rattle.mill.specs.declared.Mill.{Mill}
use Rattle.mill.specs.declared.MillCall.{MillCall}
use Rattle.mill.specs.declared.MillCall.TheVariants as millcall
use Rattle.mill.specs.Mill.{well_formed, turn_of}

-- the mill after calls, one after another
unfoldable pub run : Mill → List MillCall → Mill
run m [] = m
run m (c ∷ cs) = run (turn_of m c).mill cs

-- of a mill's calls those of its board, and what it answered to them
unfoldable pub board_calls : List MillCall → List Call
board_calls [] = []
board_calls (millcall.Board c ∷ cs) = c ∷ board_calls cs
board_calls (millcall.Tell pin ∷ cs) = board_calls cs
board_calls (millcall.Resume ∷ cs) = board_calls cs

unfoldable pub board_answers_of : Mill → List MillCall → List Answer
board_answers_of m [] = []
board_answers_of m (millcall.Board c ∷ cs) = (turn_of m (millcall.Board c)).answer ∷ board_answers_of (turn_of m (millcall.Board c)).mill cs
board_answers_of m (millcall.Tell pin ∷ cs) = board_answers_of (turn_of m (millcall.Tell pin)).mill cs
board_answers_of m (millcall.Resume ∷ cs) = board_answers_of (turn_of m millcall.Resume).mill cs

-- ---- the tests

abbrev formed_test : Mill → Test
formed_test m = test 5 (not (well_formed m))

-- refusal 5 first; a call of the board then tests what the board does; a telling tests 3, then 14; a reset tests what
-- the board's does, 10
unfoldable pub tests_of : Mill → MillCall → List Test
tests_of m (millcall.Board c) = cond (is_reset c) [] (formed_test m ∷ []) ++ board_tests m.board c
tests_of m (millcall.Tell pin) = formed_test m ∷ test 3 (not (ltb pin 24)) ∷ test 14 (not (is_edge m.board pin)) ∷ []
tests_of m millcall.Resume = formed_test m ∷ []
