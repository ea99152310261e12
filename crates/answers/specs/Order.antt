-- Which refusal is given: the tests of a call in the paper's order, each with its number; the first that holds decides,
-- and 0 is done.
use Rattle.std.specs.Prelude.{ℕ, Bool, true, false, cond, ◌≡◌, List, [], ◌∷◌}

pub record Test : Type 0 where
  pub holds : Bool
  pub number : ℕ

abbrev pub test : ℕ → Bool → Test
test n b = record { holds = b; number = n }

unfoldable pub first_number : List Test → ℕ
first_number [] = 0
first_number (t ∷ ts) = cond t.holds t.number (first_number ts)

-- a number is given exactly when its test holds and none before it does; 0, when none holds
pub data Given : List Test → ℕ → Type 0 where
  done : Given [] 0
  here : (t : Test) (ts : List Test) → t.holds ≡ true → Given (t ∷ ts) t.number
  later : (t : Test) (ts : List Test) (n : ℕ) → t.holds ≡ false → Given ts n → Given (t ∷ ts) n
