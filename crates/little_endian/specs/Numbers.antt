-- Numbers of two, four and eight bytes, little-endian: the one that stands at a place of a list of bytes, and the bytes
-- of one.
use Rattle.std.specs.Prelude.{ℕ, ◌+◌, ◌*◌, ◌/◌, ◌%◌, List, [], ◌∷◌, get_or}

unfoldable pub u16_at : List ℕ → ℕ → ℕ
u16_at s p = get_or s p 0 + 256 * get_or s (p + 1) 0

unfoldable pub u32_at : List ℕ → ℕ → ℕ
u32_at s p = get_or s p 0 + 256 * get_or s (p + 1) 0 + 65536 * get_or s (p + 2) 0 + 16777216 * get_or s (p + 3) 0

unfoldable pub u64_at : List ℕ → ℕ → ℕ
u64_at s p = u32_at s p + 4294967296 * u32_at s (p + 4)

-- ---- the bytes of a number

unfoldable pub bytes16 : ℕ → List ℕ
bytes16 x = x % 256 ∷ x / 256 % 256 ∷ []

unfoldable pub bytes32 : ℕ → List ℕ
bytes32 x = x % 256 ∷ x / 256 % 256 ∷ x / 65536 % 256 ∷ x / 16777216 % 256 ∷ []
