-- What an argument is, by its bytes.
use Rattle.std.specs.Prelude.{ℕ, Bool, true, false, cond, ◌&&◌, List, [], ◌∷◌, eqb}
use Rattle.program.specs.declared.arguments.Argument.{Argument}
use Rattle.program.specs.declared.arguments.Argument.TheVariants as argument

unfoldable pub same_text : List ℕ → List ℕ → Bool
same_text [] [] = true
same_text [] (y ∷ ys) = false
same_text (x ∷ xs) [] = false
same_text (x ∷ xs) (y ∷ ys) = eqb x y && same_text xs ys

-- `-`, `-h`, `--help`
abbrev pub dash : List ℕ
dash = 45 ∷ []

abbrev pub short : List ℕ
short = 45 ∷ 104 ∷ []

abbrev pub long : List ℕ
long = 45 ∷ 45 ∷ 104 ∷ 101 ∷ 108 ∷ 112 ∷ []

-- what begins with a dash is an option, and no file's name
unfoldable pub begun_of : List ℕ → Argument
begun_of [] = argument.Empty
begun_of (x ∷ xs) = cond (eqb x 45) argument.Dashed argument.Named

unfoldable pub kind_of : List ℕ → Argument
kind_of s = cond (same_text s short) argument.Help (cond (same_text s long) argument.Help (cond (same_text s dash) argument.Standard (begun_of s)))
