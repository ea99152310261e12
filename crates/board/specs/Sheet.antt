-- The bench sheet, B1 to B12, from reset: one table, one statement.
use Rattle.std.specs.Prelude.{ℕ, ◌-◌, ◌^◌, ◌≡◌, refl, true, List, [], ◌∷◌, ◌++◌, map, replicate}
use Rattle.answers.specs.declared.Answer.{Answer}
use Rattle.answers.specs.declared.Refusal.TheVariants as refusal
use Rattle.answers.specs.Numbers.{number_of}
use Rattle.answers.specs.Sheet.{ok, value, pin, none, fired, refused}
use Rattle.pins.specs.Pins.{tab, first_from, all_from}
use Rattle.entries.specs.Word.{mode_of, remote_of, level_of, masked_of, with_remote, without_remote, writable, written, shown, word_ok}
use Rattle.entries.specs.Pin.{asserted, makes_edge, held_after, eligible, ended_word, pin_ok}
use Rattle.entries.specs.Table.{entries_ok, levels_ok, first_eligible, wired, pulsed, ended, taken, low_shown, low_written}
use Rattle.controller.specs.State.{well_formed as controller_formed}
use Rattle.controller.specs.Window.{data_read, data_written, reading_of as controller_reading, writing_of as controller_writing}
use Rattle.controller.specs.Steps.{delivering_of}
use Rattle.settings.specs.Settings.{vendor_ok, period_ok, mask_ok}
use Rattle.timer.specs.Mask.{in_mask, lowest}
use Rattle.timer.specs.State.{reset_timer}
use Rattle.timer.specs.Registers.{configuration_of, configured_of, set_of, cleared_of}
use Rattle.timer.specs.Tick.{meets, firing, pulsing, driving}
use Rattle.timer.specs.Formed.{flags_fit, narrow_fits, timer_formed}
use Rattle.timers.specs.State.{reset_to as timers_reset}
use Rattle.timers.specs.Formed.{settings_fit, well_formed as timers_formed}
use Rattle.timers.specs.Registers.{capabilities_of, status_of, timer_register, register_of, timer_written, written_of, shown_of, stored_of}
use Rattle.timers.specs.Tick.{counted_of, matches_of, fired_of, drives_of, pulses_of, route_of}
use Rattle.timers.specs.Call.{reading_of as timers_reading, writing_of as timers_writing}
use Rattle.timer.specs.declared.Timer.{Timer}
use Rattle.settings.specs.declared.Settings.{Settings}
use Rattle.board.specs.declared.Board.{Board}
use Rattle.board.specs.declared.Call.{Call}
use Rattle.board.specs.declared.Call.TheVariants as call
use Rattle.board.specs.State.{reset_to, reset_board}
use Rattle.board.specs.Wires.{high_at, wires_of, joined}
use Rattle.board.specs.Tick.{effect, turned, up_to, tick, fires_in, ticks, firings}
use Rattle.board.specs.Formed.{well_formed}
use Rattle.board.specs.Step.{reading_of, writing_of, wiring_of, ending_of, advancing_of, delivering_on_board, served_of, turn_of}
use Rattle.board.specs.Runs.{answers}
use Rattle.board.specs.Accesses.{select, put, get, low_word, set, show}

pub record Line : Type 0 where
  pub calls : List Call
  pub answered : List Answer

abbrev line : List Call → List Answer → Line
line c a = record { calls = c; answered = a }

-- the index is selected, and entry n's low word written
abbrev entry : ℕ → ℕ → List Call
entry n v = select (low_word n) ∷ put v ∷ []

abbrev enable : Call
enable = set 0x010 1

pub sheet : List Line
unfolding number_of
sheet =
    -- B1 index 1 reads 0x00170011
    line (select 1 ∷ get ∷ []) (ok ∷ value 0x00170011 ∷ [])
    -- B2 writing 0xFFFFFFFF to a low word reads back 0x0001AFFF
    ∷ line (entry 0 0xFFFFFFFF ++ get ∷ []) (ok ∷ ok ∷ value 0x0001AFFF ∷ [])
    -- B3 entry 9 low 0x0000A029, wire low: reads 0x0000B029; delivery gives 9, vector 0x29; reads 0x0000E029; next step none;
    -- end 0x28 changes nothing; after end 0x29 it delivers again
    ∷ line
    (entry 9 0xA029 ++ get ∷ call.Deliver ∷ get ∷ call.Deliver ∷ call.End 0x28 ∷ get ∷ call.Deliver ∷ call.End 0x29 ∷ call.Deliver ∷ [])
    (ok ∷ ok ∷ value 0xB029 ∷ pin 9 0x29 ∷ value 0xE029 ∷ none ∷ ok ∷ value 0xE029 ∷ none ∷ ok ∷ pin 9 0x29 ∷ [])
    -- B4 entry 14 low 0x2E, wire 1, 0, 1: one delivery, then none
    ∷ line
    (entry 14 0x2E ++ call.Wire 14 1 ∷ call.Wire 14 0 ∷ call.Wire 14 1 ∷ call.Deliver ∷ call.Deliver ∷ [])
    (ok ∷ ok ∷ ok ∷ ok ∷ ok ∷ pin 14 0x2E ∷ none ∷ [])
    -- B5 masked edge pin 3, wire 1, then unmasked: none
    ∷ line (call.Wire 3 1 ∷ entry 3 0 ++ call.Deliver ∷ []) (ok ∷ ok ∷ ok ∷ none ∷ [])
    -- B6 level pins 5 and 2 asserted: 2, then 5, with no end between
    ∷ line
    (entry 5 0x8035 ++ entry 2 0x8032 ++ call.Wire 5 1 ∷ call.Wire 2 1 ∷ call.Deliver ∷ call.Deliver ∷ call.Deliver ∷ [])
    (ok ∷ ok ∷ ok ∷ ok ∷ ok ∷ ok ∷ pin 2 0x32 ∷ pin 5 0x35 ∷ none ∷ [])
    -- B7 comparator 5, advance 4: no firing; advance 1 more: one
    ∷ line (set 0x108 5 ∷ enable ∷ call.Advance 4 ∷ call.Advance 1 ∷ []) (ok ∷ ok ∷ fired 0 0 0 ∷ fired 1 0 0 ∷ [])
    -- B8 periodic, bit 6, write 10, write 4, advance 20 from 0: three firings, comparator 22
    ∷ line
    (set 0x100 0x48 ∷ set 0x108 10 ∷ set 0x108 4 ∷ enable ∷ call.Advance 20 ∷ show 0x108 ∷ [])
    (ok ∷ ok ∷ ok ∷ ok ∷ fired 3 0 0 ∷ value 22 ∷ [])
    -- B9 counter 2^64 - 2, comparator 1, advance 3: one firing, counter 1; timers 1 and 2, untouched since reset, fire once each
    ∷ line
    (set 0x0F0 (2 ^ 64 - 2) ∷ set 0x108 1 ∷ enable ∷ call.Advance 3 ∷ show 0x0F0 ∷ [])
    (ok ∷ ok ∷ ok ∷ fired 1 1 1 ∷ value 1 ∷ [])
    -- B10 32-bit periodic, comparator 0xFFFFFFFF, period 2, counter 0xFFFFFFFE: advance 1 fires, comparator 1; advance 2 fires again, comparator 3
    ∷ line
    (set 0x100 0x148 ∷ set 0x108 0xFFFFFFFF ∷ set 0x108 2 ∷ set 0x0F0 0xFFFFFFFE ∷ enable ∷ call.Advance 1 ∷ show 0x108 ∷ call.Advance 2 ∷ show 0x108 ∷ [])
    (ok ∷ ok ∷ ok ∷ ok ∷ ok ∷ fired 1 0 0 ∷ value 1 ∷ fired 1 0 0 ∷ value 3 ∷ [])
    -- B11 comparator and period 1, advance 7: seven firings, comparator 8
    ∷ line (set 0x100 0x48 ∷ set 0x108 1 ∷ enable ∷ call.Advance 7 ∷ show 0x108 ∷ []) (ok ∷ ok ∷ ok ∷ fired 7 0 0 ∷ value 8 ∷ [])
    -- B12 controller read, width 8 at 0x04: 2; width 4: 1
    ∷ line (call.Read 0 8 4 ∷ call.Read 0 4 4 ∷ []) (refused 2 refusal.Width refl ∷ refused 1 refusal.Offset refl ∷ [])
    ∷ []

-- the statement computes, so it opens every definition down to the ground
pub bench : map (λ (l : Line). answers reset_board l.calls) sheet ≡ map (λ (l : Line). l.answered) sheet
unfolding sheet answers tab first_from all_from mode_of remote_of level_of masked_of with_remote without_remote writable written shown word_ok asserted makes_edge held_after eligible ended_word pin_ok entries_ok levels_ok first_eligible wired pulsed ended taken low_shown low_written controller_formed data_read data_written controller_reading controller_writing delivering_of reset_timer configuration_of configured_of set_of cleared_of meets firing pulsing driving flags_fit narrow_fits timer_formed lowest in_mask vendor_ok period_ok mask_ok timers_reset settings_fit timers_formed capabilities_of status_of timer_register register_of timer_written written_of shown_of stored_of counted_of matches_of fired_of drives_of pulses_of route_of timers_reading timers_writing high_at wires_of joined effect turned up_to tick fires_in ticks firings well_formed reading_of writing_of wiring_of ending_of advancing_of delivering_on_board served_of turn_of
bench = refl

pub reset-formed : well_formed reset_board ≡ true
unfolding tab all_from remote_of level_of word_ok pin_ok entries_ok levels_ok controller_formed reset_timer driving flags_fit narrow_fits timer_formed lowest in_mask vendor_ok period_ok mask_ok timers_reset settings_fit timers_formed drives_of high_at well_formed first_from
reset-formed = refl

-- the board after a reset without settings, number by number, as document 01 has it
abbrev timer_of01 : Timer
timer_of01 = record { comparator = 2 ^ 64 - 1; period = 0; route = 0; level_type = 0; interrupt = 0; periodic = 0; set_comparator = 0; narrow = 0; status = 0 }

abbrev board_of01 : Board
board_of01 =
    record {
      timers =
          record {
            counter = 0;
            tick_period = 100000000;
            vendor = 0x8086;
            masks = 0x00FFFFFF ∷ 0x00FFFFFF ∷ 0x00FFFFFF ∷ [];
            enabled = 0;
            timer = timer_of01 ∷ timer_of01 ∷ timer_of01 ∷ [];
          };
      controller =
          record {
            id = 0;
            index = 0;
            entries = record { low = replicate 24 0x10000; destination = replicate 24 0; level = replicate 24 0; held = replicate 24 0 };
          };
      outside = replicate 24 0;
    }

pub reset-is : reset_board ≡ board_of01
unfolding timers_reset reset_timer lowest in_mask first_from
reset-is = refl

-- ---- the board after a reset with any settings, number by number: what they say, and everything else as document 01
-- has it

abbrev timer_after : ℕ → Timer
timer_after route = record { comparator = 2 ^ 64 - 1; period = 0; route = route; level_type = 0; interrupt = 0; periodic = 0; set_comparator = 0; narrow = 0; status = 0 }

-- with the settings, and a route for each timer
abbrev board_after : Settings → ℕ → ℕ → ℕ → Board
board_after z p q r =
    record {
      timers =
          record {
            counter = 0;
            tick_period = z.period;
            vendor = z.vendor;
            masks = z.mask0 ∷ z.mask1 ∷ z.mask2 ∷ [];
            enabled = 0;
            timer = timer_after p ∷ timer_after q ∷ timer_after r ∷ [];
          };
      controller =
          record {
            id = z.id;
            index = 0;
            entries = record { low = replicate 24 0x10000; destination = replicate 24 0; level = replicate 24 0; held = replicate 24 0 };
          };
      outside = replicate 24 0;
    }

pub reset-with-is : (z : Settings) → reset_to z ≡ board_after z (lowest z.mask0) (lowest z.mask1) (lowest z.mask2)
unfolding timers_reset reset_timer
reset-with-is z = refl
