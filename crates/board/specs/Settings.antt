-- "Settings for each mill" (document 02, K6), from reset: one table, one statement. Each line is worked by hand from the request's words.
use Rattle.std.specs.Prelude.{ℕ, ◌≡◌, refl, List, [], ◌∷◌, ◌++◌, map}
use Rattle.answers.specs.declared.Refusal.TheVariants as refusal
use Rattle.answers.specs.Sheet.{none}
use Rattle.pins.specs.Pins.{tab, first_from, all_from}
use Rattle.entries.specs.Word.{mode_of, remote_of, level_of, masked_of, with_remote, without_remote, writable, written, shown, word_ok}
use Rattle.entries.specs.Pin.{asserted, makes_edge, held_after, eligible, ended_word, pin_ok}
use Rattle.entries.specs.Table.{entries_ok, levels_ok, first_eligible, wired, ended, taken, low_shown, low_written}
use Rattle.controller.specs.State.{well_formed as controller_formed}
use Rattle.controller.specs.Window.{data_read, data_written, reading_of as controller_reading, writing_of as controller_writing}
use Rattle.controller.specs.Steps.{delivering_of}
use Rattle.settings.specs.declared.Settings.{Settings}
use Rattle.settings.specs.Settings.{vendor_ok, period_ok, mask_ok, id_ok, in_range}
use Rattle.timer.specs.Mask.{in_mask, lowest}
use Rattle.timer.specs.State.{reset_timer}
use Rattle.timer.specs.Registers.{configuration_of, configured_of, set_of, cleared_of}
use Rattle.timer.specs.Tick.{meets, firing, pulsing, driving}
use Rattle.timer.specs.Formed.{flags_fit, narrow_fits, timer_formed}
use Rattle.timers.specs.State.{reset_to as timers_reset}
use Rattle.timers.specs.Formed.{settings_fit, well_formed as timers_formed}
use Rattle.timers.specs.Registers.{capabilities_of, status_of, timer_register, register_of, timer_written, written_of, half_written, shown_of, stored_of}
use Rattle.timers.specs.Tick.{counted_of, matches_of, fired_of, drives_of, pulses_of, route_of}
use Rattle.timers.specs.Call.{reading_of as timers_reading, writing_of as timers_writing}
use Rattle.board.specs.declared.Call.TheVariants as call
use Rattle.board.specs.State.{reset_board}
use Rattle.board.specs.Wires.{high_at, wires_of, joined}
use Rattle.board.specs.Tick.{effect, turned, up_to, tick, fires_in, ticks, firings}
use Rattle.board.specs.Formed.{well_formed}
use Rattle.board.specs.Step.{reading_of, writing_of, wiring_of, ending_of, advancing_of, delivering_on_board, resetting_of, served_of, plain_reset, turn_of}
use Rattle.board.specs.Runs.{answers}
use Rattle.board.specs.Accesses.{set, show}
use Rattle.board.specs.Said.{Said, done, reads, pin, gives, refuses, ticked, at, to, sets, entry, wire, enabled}

-- vendor, tick period, a route mask for each timer, controller id
abbrev mill : ℕ → ℕ → ℕ → ℕ → ℕ → ℕ → Settings
mill vendor period mask0 mask1 mask2 id = record { vendor = vendor; period = period; mask0 = mask0; mask1 = mask1; mask2 = mask2; id = id }

-- timer 0 reaches pins 20 to 23, timer 1 pins 2, 6 and 11, timer 2 pins 0 and 23
abbrev ours : Settings
ours = mill 0x1234 69841279 0x00F00000 0x00000844 0x00800001 5

abbrev reset : Settings → Said
reset z = done (call.Reset z)

abbrev refused : Settings → Said
refused z = refuses (call.Reset z) refusal.Range

pub sheet : List (List Said)
sheet =
    -- ---- "A board reset with settings shows them in its registers; a timer's reset route is its mask's lowest pin"

    -- S1 period and vendor, each timer's mask and route, the id; everything else as in document 01
    (reset ours ∷ reads (show 0x000) 0x0429B17F12342201 ∷ reads (show 0x100) 0x00F0000000002830 ∷ reads (show 0x120) 0x0000084400000430
    ∷ reads (show 0x140) 0x0080000100000030 ∷ at 0x00 0x05000000 ++ at 0x02 0x05000000 ++ at 0x01 0x00170011 ++ at 0x10 0x00010000
    ++ reads (show 0x010) 0 ∷ reads (show 0x020) 0 ∷ reads (show 0x0F0) 0 ∷ reads (show 0x108) 0xFFFFFFFFFFFFFFFF ∷ [])
    -- S2 in halves
    ∷ (reset ours ∷ reads (call.Read 1 4 0x000) 0x12342201 ∷ reads (call.Read 1 4 0x004) 0x0429B17F ∷ reads (call.Read 1 4 0x124) 0x844 ∷ reads (call.Read 1 4 0x120) 0x430
    ∷ done (call.Write 1 4 0x124 0xFFFFFFFF) ∷ reads (show 0x120) 0x0000084400000430 ∷ done (call.Write 1 4 0x120 0xC00) ∷ reads (show 0x120) 0x0000084400000C30 ∷ [])
    -- S3 least and greatest
    ∷ (reset (mill 0xFFFF 1 0x00000001 0x00800000 0x00FFFFFF 15) ∷ reads (show 0x000) 0x00000001FFFF2201 ∷ reads (show 0x100) 0x0000000100000030
    ∷ reads (show 0x120) 0x0080000000002E30 ∷ reads (show 0x140) 0x00FFFFFF00000030 ∷ at 0x00 0x0F000000 ++ reset (mill 0 100000000 0x00000800 1 1 0)
    ∷ reads (show 0x000) 0x05F5E10000002201 ∷ reads (show 0x100) 0x0000080000001630 ∷ [])
    -- ---- "a written route outside the mask keeps the old one"

    -- S4 in the mask; outside it, below 24 and above; the other bits are taken; bits 63:32 are not written
    ∷ (reset ours ∷ sets 0x120 0x1600 0x0000084400001630 ++ sets 0x120 0x0B04 0x0000084400001734 ++ sets 0x120 0x3E08 0x0000084400001638
    ++ sets 0x120 0x0C00 0x0000084400000C30 ++ sets 0x120 0xFFFFFFFF00000400 0x0000084400000430 ++ sets 0x100 0x1600 0x00F0000000002830
    ++ sets 0x140 0x1600 0x0080000100000030 ++ sets 0x140 0x2E00 0x0080000100002E30 ++ sets 0x140 0x2C00 0x0080000100002E30)
    -- S5 a pulse at the reset route, which no write named
    ∷ (reset ours ∷ entry 20 0x54 ++ sets 0x100 0x04 0x00F0000000002834 ++ done (set 0x108 3) ∷ enabled ∷ ticked 3 1 0 0 ∷ gives (pin 20 0x54 0 0) ∷ gives none ∷ [])
    -- S6 a level at the route that was kept
    ∷ (reset ours ∷ entry 23 0x8055 ++ sets 0x140 0x2E00 0x0080000100002E30 ++ sets 0x140 0x0206 0x0080000100002E36 ++ done (set 0x148 1) ∷ enabled ∷ ticked 1 0 0 1
    ∷ gives (pin 23 0x55 0 0) ∷ [])
    -- ---- "A reset takes any state and tests only 10 …; refused, it hands that state back"

    -- S7 each number out of range, and what was before stays
    ∷ (reset ours ∷ sets 0x120 0x1600 0x0000084400001630 ++ refused (mill 0x1234 0 1 1 1 0) ∷ refused (mill 0x1234 100000001 1 1 1 0) ∷ refused (mill 0x1234 1 0 1 1 0)
    ∷ refused (mill 0x1234 1 1 0 1 0) ∷ refused (mill 0x1234 1 1 1 0 0) ∷ refused (mill 0x1234 1 0x01000000 1 1 0) ∷ refused (mill 0x1234 1 1 0x01000000 1 0)
    ∷ refused (mill 0x1234 1 1 1 0x01000000 0) ∷ refused (mill 0x1234 1 1 1 1 16) ∷ reads (show 0x000) 0x0429B17F12342201 ∷ reads (show 0x120) 0x0000084400001630 ∷ [])
    -- ---- "Reset without settings is as in 01"

    -- S8 on a board that had others
    ∷ (reset ours ∷ done plain_reset ∷ reads (show 0x000) 0x05F5E10080862201 ∷ reads (show 0x100) 0x00FFFFFF00000030 ∷ reads (show 0x120) 0x00FFFFFF00000030
    ∷ reads (show 0x140) 0x00FFFFFF00000030 ∷ at 0x00 0)
    -- S9 the id register starts at the settings' id; a write changes the register, and the next reset starts there again
    ∷ (reset ours ∷ to 0x00 0x0A000000 ++ at 0x00 0x0A000000 ++ at 0x02 0x0A000000 ++ reset ours ∷ at 0x00 0x05000000)
    -- S10 everything else is reset: held edges, wires, the enable bit, the counter
    ∷ (entry 3 0x50 ++ wire 3 1 ∷ done (set 0x0F0 7) ∷ enabled ∷ reset ours ∷ reads (show 0x010) 0 ∷ reads (show 0x0F0) 0 ∷ entry 3 0x50 ++ gives none ∷ entry 3 0x8050 ++ gives none ∷ [])
    ∷ []

-- the statement computes, so it opens every definition down to the ground
pub computed : map (λ (l : List Said). answers reset_board (map (λ (s : Said). s.call) l)) sheet ≡ map (map (λ (s : Said). s.answer)) sheet
unfolding sheet answers tab first_from all_from mode_of remote_of level_of masked_of with_remote without_remote writable written shown word_ok asserted makes_edge held_after eligible ended_word pin_ok entries_ok levels_ok first_eligible wired ended taken low_shown low_written controller_formed data_read data_written controller_reading controller_writing delivering_of reset_timer configuration_of configured_of set_of cleared_of meets firing pulsing driving flags_fit narrow_fits timer_formed lowest in_mask vendor_ok period_ok mask_ok timers_reset settings_fit timers_formed capabilities_of status_of timer_register register_of timer_written written_of half_written shown_of stored_of counted_of matches_of fired_of drives_of pulses_of route_of timers_reading timers_writing high_at wires_of joined effect turned up_to tick fires_in ticks firings well_formed reading_of writing_of wiring_of ending_of advancing_of delivering_on_board in_range id_ok resetting_of served_of turn_of
computed = refl
