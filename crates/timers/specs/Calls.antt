-- Everything that can be done to the timer block, as one list of calls, and the tests of each in the paper's order.
use Rattle.std.specs.Prelude.{ℕ, not, List, [], ◌∷◌, ◌++◌}
use Rattle.answers.specs.Order.{Test, test}
use Rattle.timers.specs.declared.Timers.{Timers}
use Rattle.timers.specs.declared.Turn.{Turn}
use Rattle.timers.specs.Formed.{well_formed}
use Rattle.timers.specs.Registers.{aligned, inside, fits}
use Rattle.timers.specs.Call.{read_of, write_of, advance_of}

pub data Call : Type 0 where
  read : (width offset : ℕ) → Call
  write : (width offset value : ℕ) → Call
  advance : (ticks : ℕ) → Call

unfoldable pub turn_of : Timers → Call → Turn
turn_of s (read width offset) = read_of s width offset
turn_of s (write width offset value) = write_of s width offset value
turn_of s (advance n) = advance_of s n

-- an access tests 2, 1 for the offset, 4
abbrev pub read_tests : ℕ → ℕ → List Test
read_tests width offset = test 2 (not (aligned width offset)) ∷ test 1 (not (inside offset)) ∷ []

abbrev pub write_tests : ℕ → ℕ → ℕ → List Test
write_tests width offset value = read_tests width offset ++ test 4 (not (fits width value)) ∷ []

-- refusal 5 first
unfoldable pub tests_of : Timers → Call → List Test
tests_of s (read width offset) = test 5 (not (well_formed s)) ∷ read_tests width offset
tests_of s (write width offset value) = test 5 (not (well_formed s)) ∷ write_tests width offset value
tests_of s (advance n) = test 5 (not (well_formed s)) ∷ []
