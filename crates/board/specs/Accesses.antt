-- The accesses of a bench line or of a theorem, as calls.
use Rattle.std.specs.Prelude.{ℕ, ◌+◌, ◌*◌}
use Rattle.timer.specs.declared.Half.{Half}
use Rattle.timers.specs.Registers.{place_of}
use Rattle.board.specs.declared.Call.{Call}
use Rattle.board.specs.declared.Call.TheVariants as call

-- ---- the controller's window: the index, and the register that it names

abbrev pub select : ℕ → Call
select i = call.Write 0 4 0x00 i

abbrev pub index : Call
index = call.Read 0 4 0x00

abbrev pub put : ℕ → Call
put v = call.Write 0 4 0x10 v

abbrev pub get : Call
get = call.Read 0 4 0x10

-- entry n's two words
abbrev pub low_word : ℕ → ℕ
low_word n = 0x10 + 2 * n

abbrev pub high_word : ℕ → ℕ
high_word n = 0x11 + 2 * n

-- ---- the timers' window

abbrev pub set : ℕ → ℕ → Call
set offset v = call.Write 1 8 offset v

abbrev pub show : ℕ → Call
show offset = call.Read 1 8 offset

-- the same for a half of the register at an offset
abbrev pub set_half : Half → ℕ → ℕ → Call
set_half h offset v = call.Write 1 4 (place_of h offset) v

abbrev pub show_half : Half → ℕ → Call
show_half h offset = call.Read 1 4 (place_of h offset)

-- timer n's two registers
abbrev pub configuration : ℕ → ℕ
configuration n = 0x100 + 0x20 * n

abbrev pub comparator : ℕ → ℕ
comparator n = 0x108 + 0x20 * n
