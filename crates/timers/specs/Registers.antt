-- "Timer registers": what each offset reads, and what a write to it does.
use Rattle.std.specs.Prelude.{ℕ, ◌+◌, ◌-◌, ◌*◌, ◌/◌, ◌%◌, ◌^◌, Bool, cond, not, ◌&&◌, ◌||◌, ◌==◌, nat_le, nat_lt}
use mir.Val.{bool_byte}
use Rattle.timer.specs.declared.Timer.{Timer}
use Rattle.timer.specs.declared.Half.{Half}
use Rattle.timer.specs.declared.Half.TheVariants as half
use Rattle.timer.specs.State.{flag}
use Rattle.timer.specs.Halves.{half_of, replaced}
use Rattle.timer.specs.Registers.{bit, placed, configuration_of, configured_of, compared_of, half_compared_of, cleared_of}
use Rattle.timers.specs.declared.Timers.{Timers}
use Rattle.timers.specs.State.{at, mask_at, is_enabled, with_counter, with_enabled, with_timers, with_timer}

-- ---- which accesses there are

-- width 4 or 8, offset a multiple of the width
abbrev pub aligned : ℕ → ℕ → Bool
aligned width offset = (width == 4 || width == 8) && offset % width == 0

-- below 0x400
abbrev pub inside : ℕ → Bool
inside offset = nat_lt offset 0x400

-- a 4-byte write takes a value of at most 4,294,967,295
abbrev pub fits : ℕ → ℕ → Bool
fits width value = not (width == 4) || nat_lt value (2 ^ 32)

-- ---- the timers' registers

-- 0x100 + 0x20n on: timer n, below 3
abbrev pub numbered : ℕ → ℕ
numbered offset = (offset - 0x100) / 0x20

abbrev pub of_timer : ℕ → Bool
of_timer offset = nat_le 0x100 offset && nat_lt offset 0x160

-- 0x100 + 0x20n its configuration, 0x108 + 0x20n its comparator
abbrev pub is_configuration : ℕ → Bool
is_configuration offset = offset % 0x20 == 0

abbrev pub is_comparator : ℕ → Bool
is_comparator offset = offset % 0x20 == 8

-- ---- reading

-- 0x000: the tick period in bits 63:32, the vendor in bits 31:16; below them 64-bit counter, three timers, revision 1
unfoldable pub capabilities_of : Timers → ℕ
capabilities_of s = s.tick_period * 2 ^ 32 + (s.vendor % 2 ^ 16 * 2 ^ 16 + 0x2201)

-- 0x020: bit n is timer n's status. Other bits read 0
unfoldable pub status_of : Timers → ℕ
status_of s = placed 2 (at s 2).status + (placed 1 (at s 1).status + placed 0 (at s 0).status)

unfoldable pub timer_register : ℕ → Timer → ℕ → ℕ
timer_register mask t offset = cond (is_configuration offset) (configuration_of mask t) (cond (is_comparator offset) t.comparator 0)

-- offsets not listed read 0
unfoldable pub register_of : Timers → ℕ → ℕ
register_of s offset =
    cond (offset == 0x000) (capabilities_of s)
    (cond (offset == 0x010) (bool_byte (is_enabled s))
    (cond (offset == 0x020) (status_of s)
    (cond (offset == 0x0F0) s.counter
    (cond (of_timer offset) (timer_register (mask_at s (numbered offset)) (at s (numbered offset)) offset) 0))))

-- ---- writing a whole register

-- 0x020: writing 1 to a timer's status clears it
abbrev pub cleared_by : ℕ → Timers → ℕ → Timer
cleared_by v s m = cond (flag (bit m v)) (cleared_of (at s m)) (at s m)

unfoldable pub timer_written : Timers → ℕ → ℕ → Timers
timer_written s offset v =
    let n = numbered offset in
    cond (is_configuration offset) (with_timer s n (configured_of (mask_at s n) (at s n) v)) (cond (is_comparator offset) (with_timer s n (compared_of (at s n) v)) s)

-- 0x010: bit 0 enable; 0x0F0: a write while enabled is ignored; offsets not listed ignore writes
unfoldable pub written_of : Timers → ℕ → ℕ → Timers
written_of s offset v =
    cond (offset == 0x010) (with_enabled s (bit 0 v))
    (cond (offset == 0x020) (with_timers s (cleared_by v s))
    (cond (offset == 0x0F0) (cond (is_enabled s) s (with_counter s v))
    (cond (of_timer offset) (timer_written s offset v) s)))

-- ---- halves

-- a 4-byte access names the low half at a multiple of 8, the high half 4 above, of the register that stands at the multiple of 8
abbrev pub half_at : ℕ → Half
half_at offset = cond (offset % 8 == 0) half.Low half.High

abbrev pub whole_at : ℕ → ℕ
whole_at offset = offset - offset % 8

-- and where a half of a register is accessed
abbrev pub place_of : Half → ℕ → ℕ
place_of half.Low offset = offset
place_of half.High offset = offset + 4

-- a half write replaces that half of a counter or configuration and then follows the rule for the whole register; a status write takes the
-- missing half as zeros
abbrev pub filled : Timers → Half → ℕ → ℕ → ℕ
filled s h offset v = replaced h (cond (offset == 0x020) 0 (register_of s offset)) v

-- for a comparator, the half is replaced in whatever the whole write would set
unfoldable pub half_written : Timers → Half → ℕ → ℕ → Timers
half_written s h offset v =
    let n = numbered offset in
    cond (of_timer offset && is_comparator offset) (with_timer s n (half_compared_of (at s n) h v)) (written_of s offset (filled s h offset v))

-- ---- an access of either width

-- a half read gives that half of the 8-byte value
unfoldable pub shown_of : Timers → ℕ → ℕ → ℕ
shown_of s width offset = cond (width == 8) (register_of s offset) (half_of (half_at offset) (register_of s (whole_at offset)))

unfoldable pub stored_of : Timers → ℕ → ℕ → ℕ → Timers
stored_of s width offset v = cond (width == 8) (written_of s offset v) (half_written s (half_at offset) (whole_at offset) v)
