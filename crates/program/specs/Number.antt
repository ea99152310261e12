-- A number, decimal or hexadecimal, as an argument's bytes say it.
use Rattle.std.specs.Prelude.{ℕ, ◌+◌, ◌-◌, ◌*◌, Bool, true, false, cond, ◌&&◌, ◌||◌, List, [], ◌∷◌, eqb, leb, ltb, drop, Option, Some, None}

-- `0` to `9`, `a` to `f`, `A` to `F`; 16 stands for what is no digit
unfoldable pub digit_of : ℕ → ℕ
digit_of x = cond (leb 48 x && leb x 57) (x - 48) (cond (leb 97 x && leb x 102) (x - 87) (cond (leb 65 x && leb x 70) (x - 55) 16))

-- a digit of base b
abbrev pub is_digit : ℕ → ℕ → Bool
is_digit b x = ltb (digit_of x) b

-- what a digit says, decimal or hexadecimal
abbrev pub digit : ℕ → Option ℕ
digit x = cond (is_digit 16 x) (Some (digit_of x)) None

unfoldable pub all_digits : ℕ → List ℕ → Bool
all_digits b [] = true
all_digits b (x ∷ xs) = is_digit b x && all_digits b xs

-- digits alone, and at least one: zeros in front are fine, a sign isn't
unfoldable pub is_number : ℕ → List ℕ → Bool
is_number b [] = false
is_number b (x ∷ xs) = all_digits b (x ∷ xs)

-- the number that digits say, after those that said n
unfoldable pub said_after : ℕ → ℕ → List ℕ → ℕ
said_after b n [] = n
said_after b n (x ∷ xs) = said_after b (n * b + digit_of x) xs

-- the number that a text of digits says, however long it is
abbrev pub said_in : ℕ → List ℕ → ℕ
said_in b s = said_after b 0 s

-- the greatest number of 64 bits, which stands for each one above it
abbrev pub most : ℕ
most = 18446744073709551615

abbrev pub capped : ℕ → ℕ
capped n = cond (leb n most) n most

unfoldable pub number_in : ℕ → List ℕ → Option ℕ
number_in b s = cond (is_number b s) (Some (capped (said_in b s))) None

-- a decimal number
abbrev pub said_by : List ℕ → ℕ
said_by s = said_in 10 s

unfoldable pub number_of : List ℕ → Option ℕ
number_of s = number_in 10 s

-- what begins with `0x` or `0X` is hexadecimal
unfoldable pub is_hex : List ℕ → Bool
is_hex [] = false
is_hex (x ∷ []) = false
is_hex (x ∷ y ∷ s) = eqb x 48 && (eqb y 120 || eqb y 88)

-- a number that is decimal or hexadecimal
unfoldable pub either_of : List ℕ → Option ℕ
either_of s = cond (is_hex s) (number_in 16 (drop 2 s)) (number_of s)
