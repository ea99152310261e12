-- The bench sheet's lines of the controller, B1 to B6 and B12, from reset, as one table with one statement.
use Rattle.std.specs.Prelude.{ℕ, ◌+◌, ◌*◌, ◌≡◌, refl, List, [], ◌∷◌, ◌++◌, map}
use Rattle.answers.specs.declared.Answer.{Answer}
use Rattle.answers.specs.declared.Refusal.TheVariants as refusal
use Rattle.answers.specs.Numbers.{number_of}
use Rattle.answers.specs.Sheet.{ok, value, pin, none, refused}
use Rattle.pins.specs.Pins.{tab, first_from, all_from}
use Rattle.entries.specs.Word.{mode_of, remote_of, level_of, masked_of, with_remote, without_remote, writable, written, shown, word_ok}
use Rattle.entries.specs.Pin.{asserted, makes_edge, held_after, eligible, ended_word, pin_ok}
use Rattle.entries.specs.Table.{entries_ok, levels_ok, first_eligible, wired, ended, taken, low_shown, low_written}
use Rattle.controller.specs.declared.Controller.{Controller}
use Rattle.controller.specs.State.{reset_controller, well_formed}
use Rattle.controller.specs.Window.{data_read, data_written, reading_of, writing_of, read_of, write_of}
use Rattle.controller.specs.Steps.{wire_of, end_of, delivering_of, deliver_of}
use Rattle.controller.specs.Calls.{Call, read, write, wire, end, deliver, turn_of}

-- what the calls answer, one after another
unfoldable pub run : Controller → List Call → List Answer
run c [] = []
run c (k ∷ ks) = (turn_of c k).answer ∷ run (turn_of c k).controller ks

pub record Line : Type 0 where
  pub calls : List Call
  pub answers : List Answer

abbrev line : List Call → List Answer → Line
line c a = record { calls = c; answers = a }

abbrev select : ℕ → Call
select i = write 4 0 i

abbrev put : ℕ → Call
put v = write 4 0x10 v

abbrev get : Call
get = read 4 0x10

-- entry n's low word is selected, and written
abbrev entry : ℕ → ℕ → List Call
entry n v = select (0x10 + 2 * n) ∷ put v ∷ []

pub sheet : List Line
unfolding number_of
sheet =
    -- B1 index 1 reads 0x00170011
    line (select 1 ∷ get ∷ []) (ok ∷ value 0x00170011 ∷ [])
    -- B2 writing 0xFFFFFFFF to a low word reads back 0x0001AFFF
    ∷ line (entry 0 0xFFFFFFFF ++ get ∷ []) (ok ∷ ok ∷ value 0x0001AFFF ∷ [])
    -- B3 entry 9 low 0x0000A029, wire low: reads 0x0000B029; delivery gives 9, vector 0x29; reads 0x0000E029; next step
    -- none; end 0x28 changes nothing; after end 0x29 it delivers again
    ∷ line
    (entry 9 0xA029 ++ get ∷ deliver ∷ get ∷ deliver ∷ end 0x28 ∷ get ∷ deliver ∷ end 0x29 ∷ deliver ∷ [])
    (ok ∷ ok ∷ value 0xB029 ∷ pin 9 0x29 ∷ value 0xE029 ∷ none ∷ ok ∷ value 0xE029 ∷ none ∷ ok ∷ pin 9 0x29 ∷ [])
    -- B4 entry 14 low 0x2E, wire 1, 0, 1: one delivery, then none
    ∷ line (entry 14 0x2E ++ wire 14 1 ∷ wire 14 0 ∷ wire 14 1 ∷ deliver ∷ deliver ∷ []) (ok ∷ ok ∷ ok ∷ ok ∷ ok ∷ pin 14 0x2E ∷ none ∷ [])
    -- B5 masked edge pin 3, wire 1, then unmasked: none
    ∷ line (wire 3 1 ∷ entry 3 0 ++ deliver ∷ []) (ok ∷ ok ∷ ok ∷ none ∷ [])
    -- B6 level pins 5 and 2 asserted: 2, then 5, with no end between
    ∷ line
    (entry 5 0x8035 ++ entry 2 0x8032 ++ wire 5 1 ∷ wire 2 1 ∷ deliver ∷ deliver ∷ deliver ∷ [])
    (ok ∷ ok ∷ ok ∷ ok ∷ ok ∷ ok ∷ pin 2 0x32 ∷ pin 5 0x35 ∷ none ∷ [])
    -- B12 controller read, width 8 at 0x04: 2; width 4: 1
    ∷ line (read 8 4 ∷ read 4 4 ∷ []) (refused 2 refusal.Width refl ∷ refused 1 refusal.Offset refl ∷ [])
    ∷ []

pub bench : map (λ (l : Line). run reset_controller l.calls) sheet ≡ map (λ (l : Line). l.answers) sheet
unfolding run sheet turn_of tab first_from all_from mode_of remote_of level_of masked_of with_remote without_remote writable written shown word_ok asserted makes_edge held_after eligible ended_word pin_ok entries_ok levels_ok first_eligible wired ended taken low_shown low_written well_formed data_read data_written reading_of writing_of read_of write_of wire_of end_of delivering_of deliver_of
bench = refl
