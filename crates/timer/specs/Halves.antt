-- "Timer registers in halves": a register is 64 bits, and its two halves are 32 each.
use Rattle.std.specs.Prelude.{ℕ, ◌+◌, ◌*◌, ◌/◌, ◌%◌, ◌^◌}
use Rattle.timer.specs.declared.Half.{Half}
use Rattle.timer.specs.declared.Half.TheVariants as half

-- that half of a number
abbrev pub half_of : Half → ℕ → ℕ
half_of half.Low x = x % 2 ^ 32
half_of half.High x = x / 2 ^ 32

-- a number with that half replaced
abbrev pub replaced : Half → ℕ → ℕ → ℕ
replaced half.Low x v = x / 2 ^ 32 * 2 ^ 32 + v
replaced half.High x v = v * 2 ^ 32 + x % 2 ^ 32
