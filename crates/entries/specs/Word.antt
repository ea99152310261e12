-- The fields of an entry's low word, by bit position (document 01, "Controller registers"):
-- 7:0 vector, 10:8 delivery mode, 11 logical destination, 12 delivery status (read only), 13 active low, 14 remote IRR
-- (read only), 15 level, 16 mask.
use Rattle.std.specs.Prelude.{ℕ, ◌+◌, ◌-◌, ◌*◌, ◌/◌, ◌%◌, ◌^◌, Bool, not, cond, ◌&&◌, eqb}

abbrev pub vector_of : ℕ → ℕ
vector_of w = w % 2 ^ 8

unfoldable pub mode_of : ℕ → ℕ
mode_of w = w / 2 ^ 8 % 2 ^ 3

abbrev pub logical_of : ℕ → ℕ
logical_of w = w / 2 ^ 11 % 2

abbrev pub active_low_of : ℕ → ℕ
active_low_of w = w / 2 ^ 13 % 2

unfoldable pub remote_of : ℕ → Bool
remote_of w = eqb (w / 2 ^ 14 % 2) 1

unfoldable pub level_of : ℕ → Bool
level_of w = eqb (w / 2 ^ 15 % 2) 1

unfoldable pub masked_of : ℕ → Bool
masked_of w = eqb (w / 2 ^ 16 % 2) 1

-- remote IRR 1, and 0
unfoldable pub with_remote : ℕ → ℕ
with_remote w = w - w / 2 ^ 14 % 2 * 2 ^ 14 + 2 ^ 14

unfoldable pub without_remote : ℕ → ℕ
without_remote w = w - w / 2 ^ 14 % 2 * 2 ^ 14

-- the writable bits of a value: 11:0, 13 and 16:15
unfoldable pub writable : ℕ → ℕ
writable v = v % 2 ^ 12 + v / 2 ^ 13 % 2 * 2 ^ 13 + v / 2 ^ 15 % 2 ^ 2 * 2 ^ 15

-- a write takes the writable bits; one that leaves the entry edge sets remote IRR to 0; one that leaves it level keeps
-- the bit
unfoldable pub written : ℕ → ℕ → ℕ
written w v = writable v + cond (level_of v) (w / 2 ^ 14 % 2) 0 * 2 ^ 14

-- what is read: bit 12 is 1 exactly for an eligible pin
unfoldable pub shown : ℕ → Bool → ℕ
shown w eligible = cond eligible (w - w / 2 ^ 12 % 2 * 2 ^ 12 + 2 ^ 12) w

-- a stored word contains writable bits only, beside remote IRR: bits 12 and 31:17 are 0; an edge entry's remote IRR is
-- 0
unfoldable pub word_ok : ℕ → Bool
word_ok w = eqb (w / 2 ^ 12 % 2) 0 && eqb (w / 2 ^ 17) 0 && not (not (level_of w) && remote_of w)
