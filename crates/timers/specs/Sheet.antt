-- The bench sheet's lines of the timers, B7 to B11, from reset, as one table with one statement.
use Rattle.std.specs.Prelude.{◌≡◌, ℕ, ◌-◌, ◌^◌, List, [], ◌∷◌, map, refl}
use Rattle.answers.specs.declared.Answer.{Answer}
use Rattle.answers.specs.Sheet.{ok, value, fired}
use Rattle.pins.specs.Pins.{first_from}
use Rattle.settings.specs.Settings.{vendor_ok, period_ok, mask_ok}
use Rattle.timer.specs.Mask.{in_mask, lowest}
use Rattle.timer.specs.State.{reset_timer}
use Rattle.timer.specs.Formed.{flags_fit, narrow_fits, timer_formed}
use Rattle.timer.specs.Registers.{configuration_of, configured_of, set_of, cleared_of}
use Rattle.timer.specs.Tick.{meets, firing}
use Rattle.timers.specs.declared.Timers.{Timers}
use Rattle.timers.specs.State.{reset_to, reset_timers}
use Rattle.timers.specs.Formed.{settings_fit, well_formed}
use Rattle.timers.specs.Registers.{capabilities_of, status_of, timer_register, register_of, timer_written, written_of, shown_of, stored_of}
use Rattle.timers.specs.Tick.{counted_of, matches_of, fired_of, turned_of, up_to, tick, fires_in, ticks, firings}
use Rattle.timers.specs.Call.{reading_of, writing_of, advancing_of, read_of, write_of, advance_of}
use Rattle.timers.specs.Calls.{Call, read, write, advance, turn_of}

-- what the calls answer, one after another
unfoldable pub run : Timers → List Call → List Answer
run s [] = []
run s (k ∷ ks) = (turn_of s k).answer ∷ run (turn_of s k).timers ks

pub record Line : Type 0 where
  pub calls : List Call
  pub answers : List Answer

abbrev line : List Call → List Answer → Line
line c a = record { calls = c; answers = a }

-- ---- timer 0's registers

abbrev put : ℕ → ℕ → Call
put offset v = write 8 offset v

abbrev enable : Call
enable = put 0x010 1

abbrev set_counter : ℕ → Call
set_counter v = put 0x0F0 v

-- 0x48: periodic, bit 6; 0x148: in 32-bit mode too
abbrev configure : ℕ → Call
configure v = put 0x100 v

abbrev compare : ℕ → Call
compare v = put 0x108 v

abbrev comparator : Call
comparator = read 8 0x108

abbrev counter : Call
counter = read 8 0x0F0

pub sheet : List Line
sheet =
    -- B7 comparator 5, advance 4: no firing; advance 1 more: one
    line (compare 5 ∷ enable ∷ advance 4 ∷ advance 1 ∷ []) (ok ∷ ok ∷ fired 0 0 0 ∷ fired 1 0 0 ∷ [])
    -- B8 periodic, bit 6, write 10, write 4, advance 20 from 0: three firings, comparator 22
    ∷ line (configure 0x48 ∷ compare 10 ∷ compare 4 ∷ enable ∷ advance 20 ∷ comparator ∷ []) (ok ∷ ok ∷ ok ∷ ok ∷ fired 3 0 0 ∷ value 22 ∷ [])
    -- B9 counter 2^64 - 2, comparator 1, advance 3: one firing, counter 1; timers 1 and 2, untouched since reset, fire once each
    ∷ line (set_counter (2 ^ 64 - 2) ∷ compare 1 ∷ enable ∷ advance 3 ∷ counter ∷ []) (ok ∷ ok ∷ ok ∷ fired 1 1 1 ∷ value 1 ∷ [])
    -- B10 32-bit periodic, comparator 0xFFFFFFFF, period 2, counter 0xFFFFFFFE: advance 1 fires, comparator 1; advance 2 fires again,
    -- comparator 3
    ∷ line
    (configure 0x148 ∷ compare 0xFFFFFFFF ∷ compare 2 ∷ set_counter 0xFFFFFFFE ∷ enable ∷ advance 1 ∷ comparator ∷ advance 2 ∷ comparator ∷ [])
    (ok ∷ ok ∷ ok ∷ ok ∷ ok ∷ fired 1 0 0 ∷ value 1 ∷ fired 1 0 0 ∷ value 3 ∷ [])
    -- B11 comparator and period 1, advance 7: seven firings, comparator 8
    ∷ line (configure 0x48 ∷ compare 1 ∷ enable ∷ advance 7 ∷ comparator ∷ []) (ok ∷ ok ∷ ok ∷ fired 7 0 0 ∷ value 8 ∷ [])
    ∷ []

pub bench : map (λ (l : Line). run reset_timers l.calls) sheet ≡ map (λ (l : Line). l.answers) sheet
unfolding run sheet turn_of reset_timer flags_fit narrow_fits timer_formed configuration_of configured_of set_of cleared_of meets firing lowest in_mask first_from mask_ok vendor_ok period_ok reset_to settings_fit well_formed capabilities_of status_of timer_register register_of timer_written written_of shown_of stored_of counted_of matches_of fired_of turned_of up_to tick fires_in ticks firings reading_of writing_of advancing_of read_of write_of advance_of
bench = refl
