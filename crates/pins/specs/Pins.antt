-- Functions of the 24 pins, by their numbers: tables, the first pin where a test holds, the test at every pin, the pins
-- as one number.
use Rattle.std.specs.Prelude.{ℕ, zero, suc, ◌+◌, ◌*◌, Bool, true, cond, ◌&&◌, List, [], ◌∷◌, ltb, Option, Some, None}
use mir.Val.{bool_byte}

-- the values of f at `at` and the n - 1 numbers after it
unfoldable pub tab {ℓ} : {A : Type ℓ} → (ℕ → A) → ℕ → ℕ → List A
tab f at zero = []
tab f at (suc n) = f at ∷ tab f (suc at) n

-- the first of the n numbers from `at` on where p holds, or the number after them
unfoldable pub first_from : (ℕ → Bool) → ℕ → ℕ → ℕ
first_from p at zero = at
first_from p at (suc n) = cond (p at) at (first_from p (suc at) n)

-- whether p holds at all of the n numbers from `at` on
unfoldable pub all_from : (ℕ → Bool) → ℕ → ℕ → Bool
all_from p at zero = true
all_from p at (suc n) = p at && all_from p (suc at) n

-- the n numbers from `at` on as the bits of one number, the first the lowest: 1 where p holds
unfoldable pub bits_from : (ℕ → Bool) → ℕ → ℕ → ℕ
bits_from p at zero = 0
bits_from p at (suc n) = bits_from p (suc at) n * 2 + bool_byte (p at)

-- at each pin
abbrev pub pins {ℓ} : {A : Type ℓ} → (ℕ → A) → List A
pins f = tab f 0 24

abbrev pub first : (ℕ → Bool) → ℕ
first p = first_from p 0 24

abbrev pub every : (ℕ → Bool) → Bool
every p = all_from p 0 24

abbrev pub bits_of : (ℕ → Bool) → ℕ
bits_of p = bits_from p 0 24

-- a pin, or none, by its number; 24 and any greater number is none
abbrev pub pin_at : ℕ → Option ℕ
pin_at n = cond (ltb n 24) (Some n) None
