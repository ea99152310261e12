-- The pause screen by example, from reset: each call beside its answer and the word after it. One table, one statement.
use Rattle.std.specs.Prelude.{ℕ, ◌≡◌, refl, List, [], ◌∷◌, ◌++◌, map}
use Rattle.answers.specs.declared.Answer.{Answer}
use Rattle.answers.specs.declared.Refusal.TheVariants as refusal
use Rattle.answers.specs.Numbers.{number_of}
use Rattle.answers.specs.Sheet.{ok, pin, none, fired, refused}
use Rattle.pins.specs.Pins.{tab, first_from, all_from}
use Rattle.entries.specs.Word.{mode_of, remote_of, level_of, masked_of, with_remote, without_remote, writable, written, shown, word_ok}
use Rattle.entries.specs.Pin.{asserted, makes_edge, held_after, eligible, ended_word, pin_ok}
use Rattle.entries.specs.Table.{entries_ok, levels_ok, first_eligible, wired, pulsed, ended, taken as taken_from, low_shown, low_written}
use Rattle.controller.specs.State.{well_formed as controller_formed}
use Rattle.controller.specs.Window.{data_read, data_written, reading_of as controller_reading, writing_of as controller_writing}
use Rattle.controller.specs.Steps.{delivering_of}
use Rattle.settings.specs.declared.Settings.{Settings}
use Rattle.settings.specs.Settings.{vendor_ok, period_ok, mask_ok, id_ok, in_range}
use Rattle.timer.specs.Mask.{in_mask, lowest}
use Rattle.timer.specs.State.{reset_timer}
use Rattle.timer.specs.Registers.{configuration_of, configured_of, set_of, cleared_of}
use Rattle.timer.specs.Tick.{meets, firing, pulsing, driving}
use Rattle.timer.specs.Formed.{flags_fit, narrow_fits, timer_formed}
use Rattle.timers.specs.State.{reset_to as timers_reset}
use Rattle.timers.specs.Formed.{settings_fit, well_formed as timers_formed}
use Rattle.timers.specs.Registers.{capabilities_of, status_of, timer_register, register_of, timer_written, written_of, shown_of, stored_of}
use Rattle.timers.specs.Tick.{counted_of, matches_of, fired_of, drives_of, pulses_of, route_of}
use Rattle.timers.specs.Call.{reading_of as timers_reading, writing_of as timers_writing}
use Rattle.board.specs.declared.Call.{Call}
use Rattle.board.specs.declared.Call.TheVariants as call
use Rattle.board.specs.Wires.{high_at, wires_of, joined}
use Rattle.board.specs.Tick.{effect, turned, up_to, tick, fires_in, ticks, firings}
use Rattle.board.specs.Formed.{well_formed as board_formed}
use Rattle.board.specs.Step.{plain_reset, reading_of, writing_of, wiring_of, ending_of, advancing_of, delivering_on_board, resetting_of, served_of as board_served, turn_of as board_turn}
use Rattle.board.specs.Accesses.{select, put, low_word, set}
use Rattle.mill.specs.declared.Mill.{Mill}
use Rattle.mill.specs.declared.MillCall.{MillCall}
use Rattle.mill.specs.declared.MillCall.TheVariants as millcall
use Rattle.mill.specs.Screen.{running, asked, taken, paused, looked_of, moved_of, shown_after, fits}
use Rattle.mill.specs.Mill.{reset_mill, well_formed, telling_of, resuming_of, served_of, turn_of}

-- what a call answered, and the word that the screen says after it
pub record Shown : Type 0 where
  pub answer : Answer
  pub word : ℕ

unfoldable pub shown_along : Mill → List MillCall → List Shown
shown_along m [] = []
shown_along m (c ∷ cs) = record { answer = (turn_of m c).answer; word = (turn_of m c).mill.screen.word } ∷ shown_along (turn_of m c).mill cs

pub record Said : Type 0 where
  pub call : MillCall
  pub shown : Shown

abbrev says : MillCall → Answer → ℕ → Said
says c a w = record { call = c; shown = record { answer = a; word = w } }

-- ---- how a line is written

-- a call of the board that is done, and the word after it
abbrev does : Call → ℕ → Said
does c w = says (millcall.Board c) ok w

-- entry n's low word is written: the index is selected first; the word is the same after both
abbrev entry : ℕ → ℕ → ℕ → List Said
entry n v w = does (select (low_word n)) w ∷ does (put v) w ∷ []

abbrev wire : ℕ → ℕ → ℕ → Said
wire p level w = does (call.Wire p level) w

abbrev gives : ℕ → ℕ → ℕ → Said
gives p v w = says (millcall.Board call.Deliver) (pin p v) w

abbrev gives_none : ℕ → Said
gives_none w = says (millcall.Board call.Deliver) none w

abbrev ends : ℕ → ℕ → Said
ends v w = does (call.End v) w

abbrev told : ℕ → ℕ → Said
told p w = says (millcall.Tell p) ok w

abbrev resumed : ℕ → Said
resumed w = says millcall.Resume ok w

-- a tick of no length
abbrev unfit : Settings
unfit = record { vendor = 0x8086; period = 0; mask0 = 1; mask1 = 1; mask2 = 1; id = 0 }

pub sheet : List (List Said)
unfolding number_of
sheet =
    -- P1 told, pressed, delivered, ended, resumed
    (told 1 running ∷ entry 1 0x21 running ++ wire 1 1 asked ∷ gives 1 0x21 taken ∷ ends 0x21 paused ∷ resumed running ∷ [])
    -- P2 a pin above 23 is 3, a level entry 14, masked or not; an edge entry of another delivery mode may be told; the
    -- old pin stays
    ∷ (told 1 running
    ∷ says (millcall.Tell 24) (refused 3 refusal.Pin refl) running
    ∷ entry 5 0x18035 running ++ says (millcall.Tell 5) (refused 14 refusal.NotEdge refl) running
    ∷ entry 6 0x8036 running ++ says (millcall.Tell 6) (refused 14 refusal.NotEdge refl) running
    ∷ entry 7 0x737 running ++ told 7 running
    ∷ told 1 running
    ∷ entry 1 0x21 running ++ wire 5 1 running ∷ wire 1 1 asked ∷ says (millcall.Tell 5) (refused 14 refusal.NotEdge refl) asked ∷ [])
    -- P3 the key while another pin waits for its end: that pin is delivered first, and an end with its vector pauses
    -- nothing
    ∷ (told 5 running
    ∷ entry 2 0x32 running ++ entry 5 0x35 running ++ wire 5 1 asked ∷ wire 2 1 asked ∷ gives 2 0x32 asked ∷ gives 5 0x35 taken ∷ ends 0x32 taken ∷ ends 0x35 paused
    ∷ gives_none paused ∷ [])
    -- P4 the entry is rewritten before the end: the delivered vector is remembered
    ∷ (told 1 running ∷ entry 1 0x21 running ++ wire 1 1 asked ∷ gives 1 0x21 taken ∷ entry 1 0x22 taken ++ ends 0x22 taken ∷ ends 0x21 paused ∷ [])
    -- P5 masked and unmasked: the edge stays held, and a telling sees it
    ∷ (entry 1 0x21 running ++ wire 1 1 running ∷ entry 1 0x10021 running ++ told 1 asked ∷ gives_none asked ∷ entry 1 0x21 asked ++ gives 1 0x21 taken ∷ [])
    -- P6 two presses: a second delivery while taken leaves the first one's vector; a press while taken is asked after
    -- the resume
    ∷ (told 1 running
    ∷ entry 1 0x21 running ++ wire 1 1 asked ∷ gives 1 0x21 taken ∷ wire 1 0 taken ∷ wire 1 1 taken ∷ entry 1 0x22 taken ++ gives 1 0x22 taken ∷ ends 0x22 taken
    ∷ wire 1 0 taken ∷ wire 1 1 taken ∷ ends 0x21 paused ∷ wire 1 0 paused ∷ resumed asked ∷ [])
    -- P7 the held edge is dropped by a write that makes the entry level: still asked, and its level delivery is taken
    ∷ (told 1 running ∷ entry 1 0x21 running ++ wire 1 1 asked ∷ entry 1 0x8021 asked ++ gives 1 0x21 taken ∷ ends 0x21 paused ∷ [])
    -- P8 a resume in another word changes nothing; an end before the delivery is none of it
    ∷ (resumed running
    ∷ told 1 running ∷ resumed running ∷ entry 1 0x21 running ++ wire 1 1 asked ∷ resumed asked ∷ ends 0x21 asked ∷ gives 1 0x21 taken ∷ resumed taken ∷ [])
    -- P9 after a board reset there is no pin
    ∷ (told 1 running ∷ entry 1 0x21 running ++ wire 1 1 asked ∷ does plain_reset running ∷ entry 1 0x21 running ++ wire 1 1 running ∷ gives 1 0x21 running ∷ [])
    -- … and after one that is refused, all is as it was
    ∷ (told 1 running ∷ entry 1 0x21 running ++ wire 1 1 asked ∷ says (millcall.Board (call.Reset unfit)) (refused 10 refusal.Range refl) asked ∷ gives 1 0x21 taken ∷ ends 0x21 paused
    ∷ says (millcall.Board (call.Reset unfit)) (refused 10 refusal.Range refl) paused ∷ resumed running ∷ [])
    -- P10 telling again, in any word: the other pin, and its own edge
    ∷ (entry 3 0x33 running ++ wire 3 1 running ∷ entry 1 0x21 running ++ told 1 running ∷ wire 1 1 asked ∷ gives 1 0x21 taken ∷ told 3 asked ∷ ends 0x21 asked ∷ gives 3 0x33 taken
    ∷ ends 0x33 paused ∷ told 1 running ∷ [])
    -- P11 a timer's pulse is an edge too: the word after an advance
    ∷ (told 1 running
    ∷ entry 1 0x21 running ++ does (set 0x100 0x204) running ∷ does (set 0x108 3) running ∷ does (set 0x010 1) running
    ∷ says (millcall.Board (call.Advance 2)) (fired 0 0 0) running ∷ says (millcall.Board (call.Advance 1)) (fired 1 0 0) asked ∷ [])
    -- P12 the entry is written edge and then back as level: remote IRR is 0, but that is no end of interrupt
    ∷ (told 1 running
    ∷ entry 1 0x21 running ++ wire 1 1 asked ∷ entry 1 0x8021 asked ++ gives 1 0x21 taken ∷ gives_none taken ∷ entry 1 0x21 taken ++ entry 1 0x8021 taken ++ gives 1 0x21 taken
    ∷ ends 0x21 paused ∷ [])
    ∷ []

-- the statement computes, so it opens every definition down to the ground
pub shows : map (λ (l : List Said). shown_along reset_mill (map (λ (s : Said). s.call) l)) sheet ≡ map (λ (l : List Said). map (λ (s : Said). s.shown) l) sheet
unfolding sheet shown_along tab first_from all_from mode_of remote_of level_of masked_of with_remote without_remote writable written shown word_ok asserted makes_edge held_after eligible ended_word pin_ok entries_ok levels_ok first_eligible wired pulsed ended taken_from low_shown low_written controller_formed data_read data_written controller_reading controller_writing delivering_of reset_timer configuration_of configured_of set_of cleared_of meets firing pulsing driving flags_fit narrow_fits timer_formed lowest in_mask vendor_ok period_ok mask_ok in_range id_ok timers_reset settings_fit timers_formed capabilities_of status_of timer_register register_of timer_written written_of shown_of stored_of counted_of matches_of fired_of drives_of pulses_of route_of timers_reading timers_writing high_at wires_of joined effect turned up_to tick fires_in ticks firings board_formed reading_of writing_of wiring_of ending_of advancing_of delivering_on_board resetting_of board_served board_turn looked_of moved_of shown_after fits well_formed telling_of resuming_of served_of turn_of
shows = refl
