-- The register map and the rules beside the bench sheet, from reset: one table, one statement. Each line is worked by
-- hand from document 01.
use Rattle.std.specs.Prelude.{◌^◌, ◌≡◌, refl, List, [], ◌∷◌, ◌++◌, map}
use Rattle.answers.specs.declared.Refusal.TheVariants as refusal
use Rattle.answers.specs.Sheet.{none}
use Rattle.pins.specs.Pins.{tab, first_from, all_from}
use Rattle.entries.specs.Word.{mode_of, remote_of, level_of, masked_of, with_remote, without_remote, writable, written, shown, word_ok}
use Rattle.entries.specs.Pin.{asserted, makes_edge, held_after, eligible, ended_word, pin_ok}
use Rattle.entries.specs.Table.{entries_ok, levels_ok, first_eligible, wired, ended, taken, low_shown, low_written}
use Rattle.controller.specs.State.{well_formed as controller_formed}
use Rattle.controller.specs.Window.{data_read, data_written, reading_of as controller_reading, writing_of as controller_writing}
use Rattle.controller.specs.Steps.{delivering_of}
use Rattle.settings.specs.Settings.{vendor_ok, period_ok, mask_ok}
use Rattle.timer.specs.Mask.{in_mask, lowest}
use Rattle.timer.specs.State.{reset_timer}
use Rattle.timer.specs.Registers.{configuration_of, configured_of, set_of, cleared_of}
use Rattle.timer.specs.Tick.{meets, firing, pulsing, driving}
use Rattle.timer.specs.Formed.{flags_fit, narrow_fits, timer_formed}
use Rattle.timers.specs.State.{reset_to as timers_reset}
use Rattle.timers.specs.Formed.{settings_fit, well_formed as timers_formed}
use Rattle.timers.specs.Registers.{capabilities_of, status_of, timer_register, register_of, timer_written, written_of, shown_of, stored_of}
use Rattle.timers.specs.Tick.{counted_of, matches_of, fired_of, drives_of, pulses_of, route_of}
use Rattle.timers.specs.Call.{reading_of as timers_reading, writing_of as timers_writing}
use Rattle.board.specs.declared.Call.TheVariants as call
use Rattle.board.specs.State.{reset_board}
use Rattle.board.specs.Wires.{high_at, wires_of, joined}
use Rattle.board.specs.Tick.{effect, turned, up_to, tick, fires_in, ticks, firings}
use Rattle.board.specs.Formed.{well_formed}
use Rattle.board.specs.Step.{reading_of, writing_of, wiring_of, ending_of, advancing_of, delivering_on_board, served_of, turn_of}
use Rattle.board.specs.Runs.{answers}
use Rattle.board.specs.Accesses.{select, index, put, get, high_word, set, show}
use Rattle.board.specs.Said.{Said, done, reads, pin, gives, refuses, ticked, at, to, entry, keeps, sets, enabled, disabled, wire, end, ones, digits}

pub sheet : List (List Said)
sheet =
    -- ---- the controller's window

    -- M1 the index keeps bits 7:0
    (reads index 0 ∷ done (select 0x12345678) ∷ reads index 0x78 ∷ [])
    -- M2 the id is bits 27:24 of index 0, and index 2 shows it, read only
    ∷ (at 0 0 ++ keeps 0xFFFFFFFF 0x0F000000 ++ keeps 0x35ABCDEF 0x05000000 ++ at 2 0x05000000 ++ keeps 0xFFFFFFFF 0x05000000 ++ at 0 0x05000000)
    -- M3 index 1 is read only
    ∷ (to 1 0xFFFFFFFF ++ reads get 0x00170011 ∷ at 0 0)
    -- M4 other indexes read 0, and writes to them change nothing
    ∷ (to 0x03 0xFFFFFFFF ++ reads get 0 ∷ to 0x0F 0xFFFFFFFF ++ reads get 0 ∷ to 0x40 0xFFFFFFFF ++ reads get 0 ∷ to 0xFF 0xFFFFFFFF
    ++ reads get 0 ∷ at 0x3E 0x00010000 ++ at 0x3F 0 ++ at 0 0)
    -- M5 reset: low words 0x00010000, high 0
    ∷ (at 0x10 0x00010000 ++ at 0x11 0 ++ at 0x3E 0x00010000 ++ at 0x3F 0)
    -- M6 a low word, bit by bit: 11:0, 13, 15 and 16 are writable, 12 and 14 and the bits above 16 are not. The wire is
    -- low
    ∷ (done (select 0x18) ∷ keeps 0xA5 0xA5 ++ keeps 0x100 0x100 ++ keeps 0x200 0x200 ++ keeps 0x400 0x400 ++ keeps 0x800 0x800
    ++ keeps 0x1000 0 ++ keeps 0x2000 0x2000 ++ keeps 0x4000 0 ++ keeps 0x8000 0x8000 ++ keeps 0x10000 0x10000 ++ keeps 0xFFFE0000 0)
    -- M7 a high word keeps bits 31:24
    ∷ (done (select 0x3F) ∷ keeps 0xFFFFFFFF 0xFF000000 ++ keeps 0x00FFFFFF 0 ++ keeps 0xA53C0F81 0xA5000000 ++ at 0x3E 0x00010000 ++ at 0x3D 0)
    -- M8 each entry has words of its own
    ∷ (entry 5 0x10055 ++ to (high_word 5) 0x5A000000 ++ entry 6 0x10066 ++ to (high_word 6) 0x6B000000
    ++ at 0x1A 0x10055 ++ at 0x1B 0x5A000000 ++ at 0x1C 0x10066 ++ at 0x1D 0x6B000000 ++ at 0x18 0x10000 ++ at 0x19 0 ++ at 0x1E 0x10000 ++ at 0x1F 0)
    -- ---- deliveries

    -- M9 vector, destination and bit 11 are those bits of the two words
    ∷ (to (high_word 20) 0x96FFFFFF ++ entry 20 0x8C3 ++ wire 20 1 ∷ reads get 0x18C3 ∷ gives (pin 20 0xC3 0x96 1) ∷ reads get 0x8C3
    ∷ to (high_word 21) 0x69000000 ++ entry 21 0xC4 ++ wire 21 1 ∷ gives (pin 21 0xC4 0x69 0) ∷ gives none ∷ [])
    -- M10 another delivery mode holds the edge and is not eligible, nor is a level pin; bit 11 is no part of the mode
    ∷ (entry 1 0x131 ++ wire 1 1 ∷ reads get 0x131 ∷ gives none ∷ done (put 0x231) ∷ gives none ∷ done (put 0x431) ∷ gives none
    ∷ keeps 0x831 0x1831 ++ gives (pin 1 0x31 0 1) ∷ entry 2 0x8132 ++ wire 2 1 ∷ reads get 0x8132 ∷ gives none ∷ keeps 0x8032 0x9032 ++ gives (pin 2 0x32 0 0) ∷ [])
    -- M11 an active-low edge pin: the write makes no edge, nor does the next step; the fall does
    ∷ (entry 8 0x2038 ++ gives none ∷ wire 9 1 ∷ gives none ∷ wire 8 1 ∷ gives none ∷ wire 8 0 ∷ gives (pin 8 0x38 0 0) ∷ gives none ∷ [])
    -- M12 an active-low level pin is asserted while its wire is low
    ∷ (wire 9 1 ∷ entry 9 0xA029 ++ reads get 0xA029 ∷ gives none ∷ wire 9 0 ∷ reads get 0xB029 ∷ gives (pin 9 0x29 0 0) ∷ [])
    -- M13 a level pin holds no edge; remote IRR goes by the vector and not by the pin's number
    ∷ (entry 10 0x8041 ++ wire 10 1 ∷ wire 10 0 ∷ gives none ∷ wire 10 1 ∷ gives (pin 10 0x41 0 0) ∷ reads get 0xC041
    ∷ end 10 ∷ reads get 0xC041 ∷ gives none ∷ end 0x41 ∷ reads get 0x9041 ∷ gives (pin 10 0x41 0 0) ∷ [])
    -- M14 an end frees every level entry with the vector, and no other
    ∷ (entry 3 0x8050 ++ entry 11 0x8050 ++ entry 12 0x8051 ++ wire 3 1 ∷ wire 11 1 ∷ wire 12 1 ∷ gives (pin 3 0x50 0 0)
    ∷ gives (pin 11 0x50 0 0) ∷ gives (pin 12 0x51 0 0) ∷ gives none ∷ end 0x50 ∷ gives (pin 3 0x50 0 0) ∷ gives (pin 11 0x50 0 0) ∷ gives none ∷ [])
    -- M15 an edge entry has no remote IRR: the write that leaves it edge sets it to 0, a delivery leaves it 0, and it
    -- is 0 when the entry is level again
    ∷ (entry 3 0x8050 ++ wire 3 1 ∷ gives (pin 3 0x50 0 0) ∷ reads get 0xC050 ∷ keeps 0x0050 0x0050 ++ end 0x50 ∷ reads get 0x0050
    ∷ wire 3 0 ∷ wire 3 1 ∷ reads get 0x1050 ∷ gives (pin 3 0x50 0 0) ∷ reads get 0x0050
    ∷ keeps 0x8050 0x9050 ++ gives (pin 3 0x50 0 0) ∷ reads get 0xC050 ∷ gives none ∷ [])
    -- M16 remote IRR survives a level write and a fall of the wire; the present vector frees it, masked or not,
    -- asserted or not
    ∷ (entry 15 0x8061 ++ wire 15 1 ∷ gives (pin 15 0x61 0 0) ∷ keeps 0x8062 0xC062 ++ end 0x61 ∷ gives none ∷ end 0x62
    ∷ gives (pin 15 0x62 0 0) ∷ wire 15 0 ∷ reads get 0xC062 ∷ wire 15 1 ∷ gives none
    ∷ wire 15 0 ∷ keeps 0x18062 0x1C062 ++ end 0x62 ∷ reads get 0x18062 ∷ keeps 0x8062 0x8062 ++ wire 15 1 ∷ gives (pin 15 0x62 0 0) ∷ [])
    -- M17 a masked level pin waits
    ∷ (entry 13 0x18033 ++ wire 13 1 ∷ reads get 0x18033 ∷ gives none ∷ keeps 0x8033 0x9033 ++ gives (pin 13 0x33 0 0) ∷ [])
    -- M18 a held edge stays over masking
    ∷ (entry 14 0x2E ++ wire 14 1 ∷ keeps 0x1002E 0x1002E ++ gives none ∷ keeps 0x2E 0x102E ++ gives (pin 14 0x2E 0 0) ∷ gives none ∷ [])
    -- M19 a write that leaves the pin level drops it
    ∷ (entry 14 0x2E ++ wire 14 1 ∷ wire 14 0 ∷ keeps 0x802E 0x802E ++ keeps 0x2E 0x2E ++ gives none ∷ [])
    -- M20 edges on several pins: the lowest first
    ∷ (entry 23 0x73 ++ entry 0 0x70 ++ wire 23 1 ∷ wire 0 1 ∷ gives (pin 0 0x70 0 0) ∷ gives (pin 23 0x73 0 0) ∷ gives none ∷ [])
    -- ---- the timers' window

    -- M21 0x000 is read only
    ∷ (reads (show 0x000) 0x05F5E10080862201 ∷ sets 0x000 digits 0x05F5E10080862201)
    -- M22 0x010 is bit 0
    ∷ (reads (show 0x010) 0 ∷ sets 0x010 digits 0 ++ sets 0x010 ones 1 ++ sets 0x010 2 0)
    -- M23 the counter: written while disabled, counted and not written while enabled
    ∷ (reads (show 0x0F0) 0 ∷ sets 0x0F0 digits digits ++ enabled ∷ sets 0x0F0 5 digits ++ ticked 3 0 0 0 ∷ reads (show 0x0F0) 0xFEDCBA9876543213
    ∷ disabled ∷ ticked 7 0 0 0 ∷ reads (show 0x0F0) 0xFEDCBA9876543213 ∷ sets 0x0F0 9 9)
    -- M24 reset: configurations and the status 0, comparators 2^64 - 1
    ∷ (reads (show 0x100) 0x00FFFFFF00000030 ∷ reads (show 0x120) 0x00FFFFFF00000030 ∷ reads (show 0x140) 0x00FFFFFF00000030
    ∷ reads (show 0x108) ones ∷ reads (show 0x128) ones ∷ reads (show 0x148) ones ∷ reads (show 0x020) 0 ∷ [])
    -- M25 a configuration, bit by bit: 1, 2, 3, 8 and a route up to 23; 6 with 3 only
    ∷ (sets 0x140 0x01 0x00FFFFFF00000030 ++ sets 0x140 0x02 0x00FFFFFF00000032 ++ sets 0x140 0x04 0x00FFFFFF00000034
    ++ sets 0x140 0x08 0x00FFFFFF00000038 ++ sets 0x140 0x40 0x00FFFFFF00000030 ++ sets 0x140 0x48 0x00FFFFFF00000078 ++ sets 0x140 0x80 0x00FFFFFF00000030
    ++ sets 0x140 0x100 0x00FFFFFF00000130
    ++ sets 0x140 0x200 0x00FFFFFF00000230 ++ sets 0x140 0xFFFFFFFFFFFFC000 0x00FFFFFF00000030 ++ sets 0x140 0x2E00 0x00FFFFFF00002E30)
    -- M26 a route above 23 keeps the old one; the other bits are taken, in this timer alone
    ∷ (done (set 0x120 0x2E00) ∷ sets 0x120 0x3004 0x00FFFFFF00002E34 ++ sets 0x120 ones 0x00FFFFFF00002F7E
    ++ reads (show 0x100) 0x00FFFFFF00000030 ∷ reads (show 0x140) 0x00FFFFFF00000030
    ∷ reads (show 0x108) ones ∷ reads (show 0x128) 0xFFFFFFFF ∷ reads (show 0x148) ones ∷ [])
    -- M27 one-shot comparators, each its own
    ∷ (sets 0x108 digits digits ++ sets 0x128 0x0123456789ABCDEF 0x0123456789ABCDEF ++ sets 0x148 7 7 ++ reads (show 0x108) digits
    ∷ reads (show 0x128) 0x0123456789ABCDEF ∷ [])
    -- M28 32-bit mode reduces what is written, and what is there; it stays reduced
    ∷ (done (set 0x100 0x100) ∷ sets 0x108 digits 0x76543210 ++ done (set 0x128 digits) ∷ done (set 0x120 0x100)
    ∷ reads (show 0x128) 0x76543210 ∷ done (set 0x120 0) ∷ reads (show 0x128) 0x76543210 ∷ [])
    -- M29 … the period too
    ∷ (done (set 0x100 0x48) ∷ done (set 0x108 0x100000002) ∷ done (set 0x100 0x108) ∷ done (set 0x100 0x008) ∷ reads (show 0x108) 2
    ∷ done (set 0x120 0x148) ∷ done (set 0x128 0x100000003) ∷ enabled ∷ ticked 2 1 0 0 ∷ reads (show 0x108) 4 ∷ ticked 1 0 1 0 ∷ reads (show 0x128) 6 ∷ [])
    -- M30 periodic, bit 6: the first write sets comparator and period and clears bit 6, the second the period
    ∷ (sets 0x100 0x48 0x00FFFFFF00000078 ++ sets 0x108 7 7 ++ reads (show 0x100) 0x00FFFFFF00000038 ∷ sets 0x108 3 7 ++ enabled
    ∷ ticked 7 1 0 0 ∷ reads (show 0x108) 10 ∷ [])
    -- M31 periodic without bit 6: the period alone; a one-shot write leaves the period
    ∷ (done (set 0x140 0x48) ∷ done (set 0x140 0x08) ∷ sets 0x148 5 ones ++ done (set 0x140 0) ∷ sets 0x148 1 1 ++ done (set 0x140 0x08)
    ∷ enabled ∷ ticked 1 0 0 1 ∷ reads (show 0x148) 6 ∷ [])
    -- M32 a firing level timer sets its status bit, whatever its interrupt enable; writing 1 clears it
    ∷ (done (set 0x100 2) ∷ done (set 0x120 2) ∷ done (set 0x140 2) ∷ done (set 0x108 1) ∷ done (set 0x128 2) ∷ done (set 0x148 1) ∷ enabled
    ∷ ticked 1 1 0 1 ∷ reads (show 0x020) 5 ∷ sets 0x020 1 4 ++ sets 0x020 0xFFFFFFFFFFFFFFFB 4 ++ sets 0x020 4 0 ++ ticked 1 0 1 0 ∷ reads (show 0x020) 2 ∷ sets 0x020 2 0)
    -- M33 writing edge type clears it; an edge timer sets none
    ∷ (done (set 0x120 2) ∷ done (set 0x128 1) ∷ done (set 0x148 1) ∷ enabled ∷ ticked 1 0 1 1 ∷ reads (show 0x020) 2 ∷ done (set 0x120 6)
    ∷ reads (show 0x020) 2 ∷ done (set 0x120 4) ∷ reads (show 0x020) 0 ∷ done (set 0x120 6) ∷ reads (show 0x020) 0 ∷ [])
    -- M34 offsets not listed read 0 and ignore writes
    ∷ (sets 0x008 digits 0 ++ sets 0x018 digits 0 ++ sets 0x028 digits 0 ++ sets 0x0E8 digits 0 ++ sets 0x0F8 digits 0
    ++ sets 0x110 digits 0 ++ sets 0x118 digits 0 ++ sets 0x138 digits 0 ++ sets 0x160 digits 0
    ++ sets 0x168 digits 0 ++ sets 0x3F8 digits 0 ++ reads (show 0x010) 0 ∷ reads (show 0x0F0) 0 ∷ reads (show 0x100) 0x00FFFFFF00000030
    ∷ reads (show 0x108) ones ∷ [])
    -- ---- firings and pins

    -- M35 equality decides: a comparator behind the counter, or equal to it when it is written, isn't met
    ∷ (done (set 0x0F0 10) ∷ done (set 0x108 5) ∷ done (set 0x128 10) ∷ done (set 0x148 12) ∷ enabled ∷ ticked 20 0 0 1 ∷ reads (show 0x0F0) 30 ∷ [])
    -- M36 in 32-bit mode modulo 2^32, and only there
    ∷ (done (set 0x100 0x100) ∷ done (set 0x108 5) ∷ done (set 0x128 5) ∷ done (set 0x0F0 0x100000004) ∷ enabled ∷ ticked 1 1 0 0 ∷ [])
    -- M37 register writes that move a wire make edges: interrupt enable, block off and on, route
    ∷ (entry 2 0x42 ++ entry 3 0x43 ++ done (set 0x100 0x402) ∷ done (set 0x108 1) ∷ enabled ∷ ticked 1 1 0 0 ∷ gives none
    ∷ done (set 0x100 0x406) ∷ gives (pin 2 0x42 0 0)
    ∷ disabled ∷ gives none ∷ enabled ∷ gives (pin 2 0x42 0 0) ∷ done (set 0x100 0x606) ∷ gives (pin 3 0x43 0 0) ∷ done (set 0x020 1)
    ∷ gives none ∷ [])
    -- M38 a level timer on an active-low edge pin: no edge at the rise, an edge when the status is cleared; an edge
    -- timer's pulse there: one at its drop
    ∷ (entry 4 0x2044 ++ done (set 0x120 0x806) ∷ done (set 0x128 1) ∷ enabled ∷ ticked 1 0 1 0 ∷ gives none ∷ done (set 0x020 2)
    ∷ gives (pin 4 0x44 0 0)
    ∷ done (set 0x120 0x804) ∷ done (set 0x128 2) ∷ ticked 1 0 1 0 ∷ gives (pin 4 0x44 0 0) ∷ gives none ∷ [])
    -- M39 a pulse needs the interrupt enable, and a wire that is not high already
    ∷ (entry 6 0x46 ++ done (set 0x140 0xC00) ∷ done (set 0x148 1) ∷ enabled ∷ ticked 1 0 0 1 ∷ gives none ∷ done (set 0x140 0xC04)
    ∷ done (set 0x148 2) ∷ ticked 1 0 0 1 ∷ gives (pin 6 0x46 0 0)
    ∷ wire 6 1 ∷ gives (pin 6 0x46 0 0) ∷ done (set 0x148 3) ∷ ticked 1 0 0 1 ∷ gives none ∷ [])
    -- M40 timers in turn on one active-low edge pin: a pulse before the level rise is seen, …
    ∷ (entry 7 0x2047 ++ done (set 0x100 0xE04) ∷ done (set 0x120 0xE06) ∷ done (set 0x108 1) ∷ done (set 0x128 1) ∷ enabled
    ∷ ticked 1 1 1 0 ∷ gives (pin 7 0x47 0 0) ∷ gives none ∷ [])
    -- M41 … after it, hidden
    ∷ (entry 7 0x2047 ++ done (set 0x100 0xE06) ∷ done (set 0x120 0xE04) ∷ done (set 0x108 1) ∷ done (set 0x128 1) ∷ enabled
    ∷ ticked 1 1 1 0 ∷ gives none ∷ [])
    -- M42 the outside wire and a level timer hold one pin together
    ∷ (entry 5 0x8055 ++ done (set 0x100 0xA06) ∷ done (set 0x108 1) ∷ enabled ∷ ticked 1 1 0 0 ∷ wire 5 1 ∷ wire 5 0
    ∷ gives (pin 5 0x55 0 0) ∷ end 0x55 ∷ gives (pin 5 0x55 0 0) ∷ done (set 0x020 1) ∷ end 0x55 ∷ gives none ∷ [])
    -- ---- refusals, in their order

    -- M43 an access: 1 for the window, 2, 1 for the offset, 4; a refused one changes nothing
    ∷ (refuses (call.Read 2 3 0) refusal.Window ∷ refuses (call.Write 2 3 0 0) refusal.Window ∷ refuses (call.Read 0 8 0x04) refusal.Width
    ∷ refuses (call.Read 0 4 0x04) refusal.Offset
    ∷ refuses (call.Write 0 8 0x10 (2 ^ 32)) refusal.Width ∷ refuses (call.Write 0 4 0x04 (2 ^ 32)) refusal.Offset
    ∷ refuses (select (2 ^ 32)) refusal.Value ∷ refuses (put (2 ^ 32)) refusal.Value
    ∷ refuses (call.Read 1 2 0x000) refusal.Width ∷ refuses (call.Read 1 8 0x004) refusal.Width
    ∷ refuses (call.Read 1 8 0x401) refusal.Width ∷ refuses (call.Read 1 8 0x400) refusal.Offset
    ∷ refuses (call.Write 1 2 0x0F0 7) refusal.Width ∷ refuses (call.Write 1 8 0x400 7) refusal.Offset ∷ reads index 0 ∷ reads get 0
    ∷ reads (show 0x0F0) 0 ∷ [])
    -- M44 a wire change: 3, then 4
    ∷ (refuses (call.Wire 24 2) refusal.Pin ∷ refuses (call.Wire 24 0) refusal.Pin ∷ refuses (call.Wire 23 2) refusal.Level ∷ wire 23 1 ∷ [])
    ∷ []

-- the statement computes, so it opens every definition down to the ground
pub computed : map (λ (l : List Said). answers reset_board (map (λ (s : Said). s.call) l)) sheet ≡ map (map (λ (s : Said). s.answer)) sheet
unfolding sheet answers tab first_from all_from mode_of remote_of level_of masked_of with_remote without_remote writable written shown word_ok asserted makes_edge held_after eligible ended_word pin_ok entries_ok levels_ok first_eligible wired ended taken low_shown low_written controller_formed data_read data_written controller_reading controller_writing delivering_of reset_timer configuration_of configured_of set_of cleared_of meets firing pulsing driving flags_fit narrow_fits timer_formed lowest in_mask vendor_ok period_ok mask_ok timers_reset settings_fit timers_formed capabilities_of status_of timer_register register_of timer_written written_of shown_of stored_of counted_of matches_of fired_of drives_of pulses_of route_of timers_reading timers_writing high_at wires_of joined effect turned up_to tick fires_in ticks firings well_formed reading_of writing_of wiring_of ending_of advancing_of delivering_on_board served_of turn_of
computed = refl
