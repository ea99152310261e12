-- Everything that can be done to a controller, as one list of calls, and the tests of each in the paper's order.
use Rattle.std.specs.Prelude.{ℕ, ◌^◌, not, ◌||◌, List, [], ◌∷◌, ◌++◌, leb, ltb, eqb}
use Rattle.answers.specs.Order.{Test, test}
use Rattle.controller.specs.declared.Controller.{Controller}
use Rattle.controller.specs.declared.Turn.{Turn}
use Rattle.controller.specs.State.{well_formed}
use Rattle.controller.specs.Window.{read_of, write_of}
use Rattle.controller.specs.Steps.{wire_of, end_of, deliver_of}

pub data Call : Type 0 where
  read : (width offset : ℕ) → Call
  write : (width offset value : ℕ) → Call
  wire : (pin level : ℕ) → Call
  end : (vector : ℕ) → Call
  deliver : Call

unfoldable pub turn_of : Controller → Call → Turn
turn_of c (read width offset) = read_of c width offset
turn_of c (write width offset value) = write_of c width offset value
turn_of c (wire pin level) = wire_of c pin level
turn_of c (end vector) = end_of c vector
turn_of c deliver = deliver_of c

-- an access tests 2, 1 for the offset, 4
abbrev pub read_tests : ℕ → ℕ → List Test
read_tests width offset = test 2 (not (eqb width 4)) ∷ test 1 (not (eqb offset 0 || eqb offset 0x10)) ∷ []

abbrev pub write_tests : ℕ → ℕ → ℕ → List Test
write_tests width offset value = read_tests width offset ++ test 4 (not (ltb value (2 ^ 32))) ∷ []

-- a wire change tests 3, then 4
abbrev pub wire_tests : ℕ → ℕ → List Test
wire_tests pin level = test 3 (not (ltb pin 24)) ∷ test 4 (not (leb level 1)) ∷ []

abbrev formed : Controller → Test
formed c = test 5 (not (well_formed c))

-- refusal 5 first
unfoldable pub tests_of : Controller → Call → List Test
tests_of c (read width offset) = formed c ∷ read_tests width offset
tests_of c (write width offset value) = formed c ∷ write_tests width offset value
tests_of c (wire pin level) = formed c ∷ wire_tests pin level
tests_of c (end vector) = formed c ∷ []
tests_of c deliver = formed c ∷ []
