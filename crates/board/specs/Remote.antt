-- "Remote IRR stuck at one" (document 02, K4), from reset: one table, one statement. Each line is worked by hand from
-- the request's words.
use Rattle.std.specs.Prelude.{◌≡◌, refl, List, [], ◌∷◌, ◌++◌, map}
use Rattle.answers.specs.declared.Refusal.TheVariants as refusal
use Rattle.answers.specs.Sheet.{none}
use Rattle.pins.specs.Pins.{tab, first_from, all_from}
use Rattle.entries.specs.Word.{mode_of, remote_of, level_of, masked_of, with_remote, without_remote, writable, written, shown, word_ok}
use Rattle.entries.specs.Pin.{asserted, makes_edge, held_after, eligible, ended_word, pin_ok}
use Rattle.entries.specs.Table.{entries_ok, levels_ok, first_eligible, wired, ended, taken, low_shown, low_written}
use Rattle.controller.specs.State.{well_formed as controller_formed}
use Rattle.controller.specs.Window.{data_read, data_written, reading_of as controller_reading, writing_of as controller_writing}
use Rattle.controller.specs.Steps.{delivering_of}
use Rattle.settings.specs.Settings.{vendor_ok, period_ok, mask_ok}
use Rattle.timer.specs.Mask.{in_mask, lowest}
use Rattle.timer.specs.State.{reset_timer}
use Rattle.timer.specs.Registers.{configuration_of, configured_of, set_of, cleared_of}
use Rattle.timer.specs.Tick.{meets, firing, pulsing, driving}
use Rattle.timer.specs.Formed.{flags_fit, narrow_fits, timer_formed}
use Rattle.timers.specs.State.{reset_to as timers_reset}
use Rattle.timers.specs.Formed.{settings_fit, well_formed as timers_formed}
use Rattle.timers.specs.Registers.{capabilities_of, status_of, timer_register, register_of, timer_written, written_of, shown_of, stored_of}
use Rattle.timers.specs.Tick.{counted_of, matches_of, fired_of, drives_of, pulses_of, route_of}
use Rattle.timers.specs.Call.{reading_of as timers_reading, writing_of as timers_writing}
use Rattle.board.specs.declared.Call.TheVariants as call
use Rattle.board.specs.State.{reset_board}
use Rattle.board.specs.Wires.{high_at, wires_of, joined}
use Rattle.board.specs.Tick.{effect, turned, up_to, tick, fires_in, ticks, firings}
use Rattle.board.specs.Formed.{well_formed}
use Rattle.board.specs.Step.{reading_of, writing_of, wiring_of, ending_of, advancing_of, delivering_on_board, served_of, turn_of}
use Rattle.board.specs.Runs.{answers}
use Rattle.board.specs.Accesses.{put, get, high_word}
use Rattle.board.specs.Said.{Said, reads, pin, gives, refuses, at, to, entry, keeps, wire, end}

pub sheet : List (List Said)
sheet =
    -- ---- "a low-word write that leaves the entry edge sets remote IRR to 0"

    -- R1 edge and back: the pin is asserted still, so it is delivered again, without an end of interrupt
    (entry 3 0x8050 ++ wire 3 1 ∷ gives (pin 3 0x50 0 0) ∷ reads get 0xC050 ∷ gives none ∷ keeps 0x0050 0x0050 ++ gives none
    ∷ keeps 0x8050 0x9050 ++ gives (pin 3 0x50 0 0) ∷ reads get 0xC050 ∷ gives none ∷ [])
    -- R2 masked, and unmasked only once the entry is level again
    ∷ (entry 3 0x8050 ++ wire 3 1 ∷ gives (pin 3 0x50 0 0) ∷ keeps 0x18050 0x1C050 ++ keeps 0x10050 0x10050 ++ keeps 0x18050 0x18050
    ++ keeps 0x8050 0x9050 ++ gives (pin 3 0x50 0 0) ∷ [])
    -- R3 whatever the vector, the mode and the polarity written are
    ∷ (entry 3 0x8050 ++ wire 3 1 ∷ gives (pin 3 0x50 0 0) ∷ keeps 0x0000 0x0000 ++ keeps 0x8050 0x9050 ++ gives (pin 3 0x50 0 0)
    ∷ keeps 0x0750 0x0750 ++ keeps 0x8050 0x9050 ++ gives (pin 3 0x50 0 0) ∷ keeps 0x2850 0x2850 ++ keeps 0x8050 0x9050 ++ gives (pin 3 0x50 0 0) ∷ [])
    -- R4 bit 14 of the value is not written, with bit 15 or without; nor are bits 31:17
    ∷ (entry 3 0x8050 ++ keeps 0xC050 0x8050 ++ wire 3 1 ∷ gives (pin 3 0x50 0 0) ∷ keeps 0x6741 0x2741 ++ keeps 0xC050 0x9050 ++ gives (pin 3 0x50 0 0)
    ∷ keeps 0xFFFF7FFF 0x12FFF ++ keeps 0xFFFFFFFF 0x1AFFF ++ keeps 0x8042 0x9042 ++ gives (pin 3 0x42 0 0) ∷ [])
    -- R5 an edge delivery sets no remote IRR
    ∷ (entry 3 0x0050 ++ wire 3 1 ∷ reads get 0x1050 ∷ gives (pin 3 0x50 0 0) ∷ reads get 0x0050 ∷ keeps 0x8050 0x9050 ++ gives (pin 3 0x50 0 0) ∷ [])
    -- R6 of its own entry alone
    ∷ (entry 3 0x8050 ++ entry 4 0x8050 ++ wire 3 1 ∷ wire 4 1 ∷ gives (pin 3 0x50 0 0) ∷ gives (pin 4 0x50 0 0) ∷ gives none
    ∷ keeps 0x0050 0x0050 ++ at 0x16 0xC050 ++ gives none ∷ end 0x50 ∷ reads get 0x9050 ∷ at 0x18 0x0050)
    -- ---- "one that leaves it level keeps the bit"

    -- R7 masked, of another mode, of the other polarity, of another vector: the present vector's end clears it
    ∷ (entry 3 0x8050 ++ wire 3 1 ∷ gives (pin 3 0x50 0 0) ∷ keeps 0x18050 0x1C050 ++ keeps 0x8150 0xC150 ++ keeps 0xA050 0xE050 ++ keeps 0x8051 0xC051
    ++ gives none ∷ end 0x50 ∷ reads get 0xC051 ∷ end 0x51 ∷ reads get 0x9051 ∷ gives (pin 3 0x51 0 0) ∷ [])
    -- R8 a bit that is 0 stays 0
    ∷ (entry 3 0x8050 ++ keeps 0x8051 0x8051 ++ wire 3 1 ∷ keeps 0x8052 0x9052)
    -- R9 no other write clears it, and no refused one
    ∷ (entry 3 0x8050 ++ wire 3 1 ∷ gives (pin 3 0x50 0 0) ∷ refuses (put 0x100000050) refusal.Value ∷ refuses (call.Write 0 8 0x10 0x50) refusal.Width
    ∷ refuses (call.Write 0 4 0x04 0x50) refusal.Offset ∷ reads get 0xC050 ∷ to (high_word 3) 0xAB123456 ++ at 0x16 0xC050 ++ entry 4 0x0050 ++ entry 2 0x10050
    ++ at 0x16 0xC050 ++ gives none ∷ keeps 0x0050 0x0050 ++ keeps 0x8050 0x9050 ++ gives (pin 3 0x50 0xAB 0) ∷ [])
    -- ---- "exactly while it is asserted, until its next delivery"

    -- R10 not asserted after edge and back: the wire's rise makes the pin eligible, and its fall leaves nothing held
    ∷ (entry 3 0x8050 ++ wire 3 1 ∷ gives (pin 3 0x50 0 0) ∷ wire 3 0 ∷ keeps 0x0050 0x0050 ++ keeps 0x8050 0x8050 ++ gives none ∷ wire 3 1
    ∷ reads get 0x9050 ∷ wire 3 0 ∷ reads get 0x8050 ∷ gives none ∷ end 0x50 ∷ reads get 0x8050 ∷ wire 3 1 ∷ gives (pin 3 0x50 0 0) ∷ gives none ∷ [])
    -- R11 active low
    ∷ (wire 3 1 ∷ entry 3 0xA050 ++ wire 3 0 ∷ gives (pin 3 0x50 0 0) ∷ reads get 0xE050 ∷ keeps 0x2050 0x2050 ++ keeps 0xA050 0xB050 ++ wire 3 1
    ∷ reads get 0xA050 ∷ gives none ∷ wire 3 0 ∷ gives (pin 3 0x50 0 0) ∷ [])
    -- R12 an edge that came between is dropped by the level write; one that was delivered between changes nothing
    ∷ (entry 3 0x8050 ++ wire 3 1 ∷ gives (pin 3 0x50 0 0) ∷ keeps 0x0050 0x0050 ++ wire 3 0 ∷ wire 3 1 ∷ reads get 0x1050 ∷ wire 3 0
    ∷ keeps 0x8050 0x8050 ++ gives none ∷ keeps 0x0050 0x0050 ++ wire 3 1 ∷ gives (pin 3 0x50 0 0) ∷ keeps 0x8050 0x9050 ++ gives (pin 3 0x50 0 0) ∷ [])
    ∷ []

-- the statement computes, so it opens every definition down to the ground
pub computed : map (λ (l : List Said). answers reset_board (map (λ (s : Said). s.call) l)) sheet ≡ map (map (λ (s : Said). s.answer)) sheet
unfolding sheet answers tab first_from all_from mode_of remote_of level_of masked_of with_remote without_remote writable written shown word_ok asserted makes_edge held_after eligible ended_word pin_ok entries_ok levels_ok first_eligible wired ended taken low_shown low_written controller_formed data_read data_written controller_reading controller_writing delivering_of reset_timer configuration_of configured_of set_of cleared_of meets firing pulsing driving flags_fit narrow_fits timer_formed lowest in_mask vendor_ok period_ok mask_ok timers_reset settings_fit timers_formed capabilities_of status_of timer_register register_of timer_written written_of shown_of stored_of counted_of matches_of fired_of drives_of pulses_of route_of timers_reading timers_writing high_at wires_of joined effect turned up_to tick fires_in ticks firings well_formed reading_of writing_of wiring_of ending_of advancing_of delivering_on_board served_of turn_of
computed = refl
