-- "Timer registers in halves" (document 02, K1), from reset: one table, one statement. Each line is worked by hand from
-- the request's words.
use Rattle.std.specs.Prelude.{ℕ, ◌^◌, ◌≡◌, refl, List, [], ◌∷◌, ◌++◌, map}
use Rattle.answers.specs.declared.Refusal.TheVariants as refusal
use Rattle.answers.specs.Sheet.{none}
use Rattle.pins.specs.Pins.{tab, first_from, all_from}
use Rattle.entries.specs.Word.{mode_of, remote_of, level_of, masked_of, with_remote, without_remote, writable, written, shown, word_ok}
use Rattle.entries.specs.Pin.{asserted, makes_edge, held_after, eligible, ended_word, pin_ok}
use Rattle.entries.specs.Table.{entries_ok, levels_ok, first_eligible, wired, ended, taken, low_shown, low_written}
use Rattle.controller.specs.State.{well_formed as controller_formed}
use Rattle.controller.specs.Window.{data_read, data_written, reading_of as controller_reading, writing_of as controller_writing}
use Rattle.controller.specs.Steps.{delivering_of}
use Rattle.settings.specs.Settings.{vendor_ok, period_ok, mask_ok}
use Rattle.timer.specs.Mask.{in_mask, lowest}
use Rattle.timer.specs.State.{reset_timer}
use Rattle.timer.specs.Registers.{configuration_of, configured_of, set_of, cleared_of}
use Rattle.timer.specs.Tick.{meets, firing, pulsing, driving}
use Rattle.timer.specs.Formed.{flags_fit, narrow_fits, timer_formed}
use Rattle.timers.specs.State.{reset_to as timers_reset}
use Rattle.timers.specs.Formed.{settings_fit, well_formed as timers_formed}
use Rattle.timers.specs.Registers.{capabilities_of, status_of, timer_register, register_of, timer_written, written_of, half_written, shown_of, stored_of}
use Rattle.timers.specs.Tick.{counted_of, matches_of, fired_of, drives_of, pulses_of, route_of}
use Rattle.timers.specs.Call.{reading_of as timers_reading, writing_of as timers_writing}
use Rattle.board.specs.declared.Call.TheVariants as call
use Rattle.board.specs.State.{reset_board}
use Rattle.board.specs.Wires.{high_at, wires_of, joined}
use Rattle.board.specs.Tick.{effect, turned, up_to, tick, fires_in, ticks, firings}
use Rattle.board.specs.Formed.{well_formed}
use Rattle.board.specs.Step.{reading_of, writing_of, wiring_of, ending_of, advancing_of, delivering_on_board, served_of, turn_of}
use Rattle.board.specs.Runs.{answers}
use Rattle.board.specs.Accesses.{set, show}
use Rattle.board.specs.Said.{Said, done, reads, pin, gives, refuses, ticked, entry, enabled, ones, digits}

-- four bytes at an offset, written and read
abbrev four : ℕ → ℕ → Said
four offset v = done (call.Write 1 4 offset v)

abbrev half : ℕ → ℕ → Said
half offset v = reads (call.Read 1 4 offset) v

-- eight bytes
abbrev eight : ℕ → ℕ → Said
eight offset v = done (set offset v)

abbrev whole : ℕ → ℕ → Said
whole offset v = reads (show offset) v

-- one more than four bytes hold
abbrev over : ℕ
over = 2 ^ 32

pub sheet : List (List Said)
sheet =
    -- ---- "A half read gives that half of the 8-byte value."

    -- H1 the capabilities, a timer's two registers at reset, the counter
    (half 0x000 0x80862201 ∷ half 0x004 0x05F5E100 ∷ half 0x100 0x30 ∷ half 0x104 0x00FFFFFF ∷ half 0x108 0xFFFFFFFF ∷ half 0x10C 0xFFFFFFFF
    ∷ eight 0x0F0 digits ∷ half 0x0F0 0x76543210 ∷ half 0x0F4 0xFEDCBA98 ∷ [])
    -- H2 offsets not listed
    ∷ (half 0x008 0 ∷ half 0x00C 0 ∷ half 0x0F8 0 ∷ half 0x134 0 ∷ half 0x160 0 ∷ half 0x3FC 0 ∷ four 0x3FC 7 ∷ four 0x000 7 ∷ four 0x004 7 ∷ whole 0x000 0x05F5E10080862201 ∷ [])
    -- ---- "A half write replaces that half of a counter or configuration and then follows the rule for the whole
    -- register"

    -- H3 the counter; while enabled both halves are ignored
    ∷ (eight 0x0F0 digits ∷ four 0x0F0 1 ∷ whole 0x0F0 0xFEDCBA9800000001 ∷ four 0x0F4 2 ∷ whole 0x0F0 0x0000000200000001
    ∷ enabled ∷ four 0x0F0 5 ∷ four 0x0F4 6 ∷ whole 0x0F0 0x0000000200000001 ∷ [])
    -- H4 the enable bit is in the low half
    ∷ (four 0x010 1 ∷ whole 0x010 1 ∷ four 0x014 0 ∷ whole 0x010 1 ∷ four 0x014 0xFFFFFFFF ∷ whole 0x010 1 ∷ half 0x014 0 ∷ four 0x010 0xFFFFFFFE ∷ whole 0x010 0 ∷ [])
    -- H5 a timer's configuration: all that is writable is in its low half; the high half leaves bit 6 as it is
    ∷ (four 0x100 0x4E ∷ whole 0x100 0x00FFFFFF0000007E ∷ four 0x104 0 ∷ whole 0x100 0x00FFFFFF0000007E ∷ four 0x104 0xFFFFFFFF ∷ whole 0x100 0x00FFFFFF0000007E
    ∷ four 0x100 0x40 ∷ whole 0x100 0x00FFFFFF00000030 ∷ [])
    -- H6 … and the status; edge type in the low half clears it
    ∷ (eight 0x100 2 ∷ eight 0x108 1 ∷ enabled ∷ ticked 1 1 0 0 ∷ whole 0x020 1 ∷ four 0x104 0 ∷ whole 0x020 1 ∷ four 0x100 0 ∷ whole 0x020 0 ∷ [])
    -- H7 32-bit mode in the low half reduces the comparator
    ∷ (eight 0x128 digits ∷ four 0x120 0x100 ∷ whole 0x128 0x76543210 ∷ [])
    -- ---- "a status write takes the missing half as zeros"

    -- H8 so 0x024 clears nothing
    ∷ (eight 0x100 2 ∷ eight 0x120 2 ∷ eight 0x140 2 ∷ eight 0x108 1 ∷ eight 0x128 1 ∷ eight 0x148 1 ∷ enabled ∷ ticked 1 1 1 1 ∷ whole 0x020 7 ∷ four 0x108 5 ∷ four 0x12C 0 ∷ whole 0x020 7
    ∷ four 0x024 7 ∷ whole 0x020 7 ∷ half 0x020 7 ∷ half 0x024 0 ∷ four 0x020 2 ∷ whole 0x020 5 ∷ four 0x024 0xFFFFFFFF ∷ whole 0x020 5 ∷ four 0x020 5 ∷ whole 0x020 0 ∷ [])
    -- ---- "For a comparator, the half is replaced in whatever the whole write would set: comparator, period or both."

    -- H9 one-shot, in both orders
    ∷ (four 0x108 5 ∷ whole 0x108 0xFFFFFFFF00000005 ∷ four 0x10C 0 ∷ whole 0x108 5 ∷ four 0x12C 1 ∷ whole 0x128 0x00000001FFFFFFFF ∷ four 0x128 7
    ∷ whole 0x128 0x0000000100000007 ∷ enabled ∷ ticked 5 1 0 0 ∷ [])
    -- H10 periodic with bit 6, low half first: both get it, and "Bit 6 clears at the first half"; the high half goes to
    -- the period only, which is 10
    ∷ (eight 0x100 0x48 ∷ four 0x108 10 ∷ whole 0x108 0xFFFFFFFF0000000A ∷ whole 0x100 0x00FFFFFF00000038 ∷ four 0x10C 0 ∷ whole 0x108 0xFFFFFFFF0000000A
    ∷ eight 0x0F0 0xFFFFFFFF00000009 ∷ enabled ∷ ticked 1 1 0 0 ∷ whole 0x108 0xFFFFFFFF00000014 ∷ [])
    -- H11 … high half first: the comparator's high half, then the period's low one, which is 4
    ∷ (eight 0x100 0x48 ∷ four 0x10C 0 ∷ whole 0x108 0x00000000FFFFFFFF ∷ whole 0x100 0x00FFFFFF00000038 ∷ four 0x108 4 ∷ whole 0x108 0x00000000FFFFFFFF
    ∷ eight 0x0F0 0xFFFFFFFE ∷ enabled ∷ ticked 1 1 0 0 ∷ whole 0x108 0x0000000100000003 ∷ [])
    -- H12 each keeps its own other half: comparator 0x50000000A, period 0x70000000A
    ∷ (eight 0x100 0x48 ∷ eight 0x108 0x500000003 ∷ eight 0x108 0x700000000 ∷ eight 0x100 0x48 ∷ four 0x108 10 ∷ whole 0x108 0x50000000A
    ∷ eight 0x0F0 0x500000009 ∷ enabled ∷ ticked 1 1 0 0 ∷ whole 0x108 0xC00000014 ∷ [])
    -- H13 periodic without bit 6: the period alone, in halves 0x100000002
    ∷ (eight 0x100 0x08 ∷ four 0x10C 1 ∷ four 0x108 2 ∷ whole 0x108 ones ∷ eight 0x100 0 ∷ eight 0x108 3 ∷ eight 0x100 0x08 ∷ enabled ∷ ticked 3 1 0 0
    ∷ whole 0x108 0x100000005 ∷ [])
    -- ---- "A high half in 32-bit mode stores 0."

    -- H14 one-shot: the low half is kept
    ∷ (eight 0x100 0x100 ∷ four 0x108 0x12345678 ∷ four 0x10C 0xFFFFFFFF ∷ whole 0x108 0x12345678 ∷ half 0x10C 0 ∷ [])
    -- H15 with bit 6, low half first: comparator and period 7
    ∷ (eight 0x100 0x148 ∷ four 0x108 7 ∷ whole 0x108 7 ∷ whole 0x100 0x00FFFFFF00000138 ∷ four 0x10C 9 ∷ whole 0x108 7 ∷ enabled ∷ ticked 7 1 0 0 ∷ whole 0x108 14 ∷ [])
    -- H16 … high half first: it clears bit 6 and keeps the low half, so that the low half is the period's
    ∷ (eight 0x100 0x148 ∷ four 0x10C 9 ∷ whole 0x108 0xFFFFFFFF ∷ whole 0x100 0x00FFFFFF00000138 ∷ four 0x108 7 ∷ whole 0x108 0xFFFFFFFF
    ∷ eight 0x0F0 0xFFFFFFFE ∷ enabled ∷ ticked 1 1 0 0 ∷ whole 0x108 6 ∷ [])
    -- ---- a write is one step

    -- H17 half writes that move a wire make edges: interrupt enable, block off and on; high halves move none
    ∷ (entry 2 0x42 ++ eight 0x100 0x402 ∷ eight 0x108 1 ∷ enabled ∷ ticked 1 1 0 0 ∷ gives none ∷ four 0x100 0x406 ∷ gives (pin 2 0x42 0 0) ∷ four 0x104 0
    ∷ gives none ∷ four 0x010 0 ∷ gives none ∷ four 0x014 1 ∷ gives none ∷ four 0x010 1 ∷ gives (pin 2 0x42 0 0) ∷ four 0x024 1 ∷ gives none ∷ whole 0x020 1 ∷ four 0x020 1
    ∷ whole 0x020 0 ∷ gives none ∷ [])
    -- ---- refusals: 2, 1 for the offset, 4

    -- H18 "for any width but 4 and 8, or an offset that isn't a multiple of the width"; then 1
    ∷ (refuses (call.Read 1 0 0) refusal.Width ∷ refuses (call.Read 1 1 0) refusal.Width ∷ refuses (call.Read 1 2 0) refusal.Width ∷ refuses (call.Read 1 3 0) refusal.Width
    ∷ refuses (call.Read 1 5 0) refusal.Width ∷ refuses (call.Read 1 12 0) refusal.Width ∷ refuses (call.Read 1 16 0) refusal.Width
    ∷ refuses (call.Read 1 4 0x002) refusal.Width ∷ refuses (call.Read 1 4 0x006) refusal.Width ∷ refuses (call.Read 1 8 0x004) refusal.Width ∷ refuses (call.Read 1 4 0x402) refusal.Width
    ∷ refuses (call.Read 1 8 0x404) refusal.Width ∷ refuses (call.Read 1 4 0x400) refusal.Offset ∷ refuses (call.Read 1 4 0x404) refusal.Offset ∷ [])
    -- H19 4 comes last, at every offset below 0x400, and for 4 bytes only; a refused write changes nothing
    ∷ (refuses (call.Write 1 2 0x000 over) refusal.Width ∷ refuses (call.Write 1 4 0x402 over) refusal.Width ∷ refuses (call.Write 1 4 0x400 over) refusal.Offset
    ∷ refuses (call.Write 1 4 0x404 over) refusal.Offset ∷ refuses (call.Write 1 4 0x3FC over) refusal.Value ∷ refuses (call.Write 1 4 0x000 over) refusal.Value
    ∷ refuses (call.Write 1 4 0x004 over) refusal.Value ∷ refuses (call.Write 1 4 0x024 over) refusal.Value
    ∷ refuses (call.Write 1 4 0x008 over) refusal.Value ∷ refuses (call.Write 1 4 0x0F0 over) refusal.Value ∷ refuses (call.Write 1 4 0x10C ones) refusal.Value
    ∷ whole 0x0F0 0 ∷ whole 0x108 ones ∷ four 0x0F4 0xFFFFFFFF ∷ whole 0x0F0 0xFFFFFFFF00000000 ∷ eight 0x0F0 over ∷ whole 0x0F0 over ∷ [])
    -- ---- what a program can do

    -- H20 bit 6 written again before the second half: both numbers get both halves, 10
    ∷ (eight 0x100 0x48 ∷ four 0x108 10 ∷ four 0x100 0x48 ∷ four 0x10C 0 ∷ whole 0x108 10 ∷ whole 0x100 0x00FFFFFF00000038 ∷ enabled ∷ ticked 10 1 0 0 ∷ whole 0x108 20 ∷ [])
    ∷ []

-- the statement computes, so it opens every definition down to the ground
pub computed : map (λ (l : List Said). answers reset_board (map (λ (s : Said). s.call) l)) sheet ≡ map (map (λ (s : Said). s.answer)) sheet
unfolding sheet answers tab first_from all_from mode_of remote_of level_of masked_of with_remote without_remote writable written shown word_ok asserted makes_edge held_after eligible ended_word pin_ok entries_ok levels_ok first_eligible wired ended taken low_shown low_written controller_formed data_read data_written controller_reading controller_writing delivering_of reset_timer configuration_of configured_of set_of cleared_of meets firing pulsing driving flags_fit narrow_fits timer_formed lowest in_mask vendor_ok period_ok mask_ok timers_reset settings_fit timers_formed capabilities_of status_of timer_register register_of timer_written written_of half_written shown_of stored_of counted_of matches_of fired_of drives_of pulses_of route_of timers_reading timers_writing high_at wires_of joined effect turned up_to tick fires_in ticks firings well_formed reading_of writing_of wiring_of ending_of advancing_of delivering_on_board served_of turn_of
computed = refl
