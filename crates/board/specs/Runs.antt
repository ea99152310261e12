-- Sequences of calls, for the statements over any sequence; and the tests of each call in the paper's order.
use Rattle.std.specs.Prelude.{ℕ, not, cond, ◌||◌, List, [], ◌∷◌, eqb}
use Rattle.answers.specs.declared.Answer.{Answer}
use Rattle.answers.specs.Order.{Test, test}
use Rattle.controller.specs.Calls.{wire_tests, read_tests as controller_read_tests, write_tests as controller_write_tests}
use Rattle.timers.specs.Calls.{read_tests as timers_read_tests, write_tests as timers_write_tests}
use Rattle.settings.specs.Settings.{in_range}
use Rattle.board.specs.declared.Board.{Board}
use Rattle.board.specs.declared.Call.{Call}
use Rattle.board.specs.declared.Call.TheVariants as call
use Rattle.board.specs.Formed.{well_formed}
use Rattle.board.specs.Step.{turn_of}

-- the board after calls, one after another, and what it answered
unfoldable pub run : Board → List Call → Board
run b [] = b
run b (c ∷ cs) = run (turn_of b c).board cs

unfoldable pub answers : Board → List Call → List Answer
answers b [] = []
answers b (c ∷ cs) = (turn_of b c).answer ∷ answers (turn_of b c).board cs

-- ---- the tests

abbrev formed_test : Board → Test
formed_test b = test 5 (not (well_formed b))

-- 1 for an unknown window, then the window's own tests
abbrev access_tests : ℕ → List Test → List Test → List Test
access_tests window controller timers = test 1 (not (eqb window 0 || eqb window 1)) ∷ cond (eqb window 0) controller timers

-- refusal 5 first; an access then tests 1 for an unknown window, 2, 1 for the offset, 4; a wire change tests 3, then 4;
-- a reset tests only 10
unfoldable pub tests_of : Board → Call → List Test
tests_of b (call.Read window width offset) =
    formed_test b ∷ access_tests window (controller_read_tests width offset) (timers_read_tests width offset)
tests_of b (call.Write window width offset value) =
    formed_test b ∷ access_tests window (controller_write_tests width offset value) (timers_write_tests width offset value)
tests_of b (call.Wire pin level) = formed_test b ∷ wire_tests pin level
tests_of b (call.End vector) = formed_test b ∷ []
tests_of b (call.Advance n) = formed_test b ∷ []
tests_of b call.Deliver = formed_test b ∷ []
tests_of b (call.Reset z) = test 10 (not (in_range z)) ∷ []
