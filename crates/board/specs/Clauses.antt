-- "Well formed", clause by clause: boards that break one clause and no other, and boards that go as far as the clauses
-- let them.
use Rattle.std.specs.Prelude.{ℕ, ◌-◌, ◌^◌, ◌≡◌, refl, true, false, List, [], ◌∷◌, map, replicate, set}
use Rattle.pins.specs.Pins.{tab, first_from, all_from}
use Rattle.entries.specs.Word.{remote_of, level_of, word_ok}
use Rattle.entries.specs.Pin.{pin_ok}
use Rattle.entries.specs.Table.{reset_entries, with_low, with_level, with_held, entries_ok, levels_ok}
use Rattle.controller.specs.declared.Controller.{Controller}
use Rattle.controller.specs.State.{reset_controller, with_id, with_index, with_entries, well_formed as controller_formed}
use Rattle.timer.specs.declared.Timer.{Timer}
use Rattle.settings.specs.Settings.{vendor_ok, period_ok, mask_ok}
use Rattle.timer.specs.Mask.{in_mask, lowest}
use Rattle.timer.specs.State.{with_status, with_comparator, with_period, with_route, with_set, with_modes, reset_timer}
use Rattle.timer.specs.Formed.{flags_fit, narrow_fits, timer_formed}
use Rattle.timer.specs.Tick.{driving}
use Rattle.timers.specs.declared.Timers.{Timers}
use Rattle.timers.specs.State.{with_enabled, with_timer, with_settings, reset_timers}
use Rattle.timers.specs.State.{reset_to as timers_reset}
use Rattle.timers.specs.Formed.{settings_fit, well_formed as timers_formed}
use Rattle.timers.specs.Tick.{drives_of}
use Rattle.board.specs.declared.Board.{Board}
use Rattle.board.specs.State.{board}
use Rattle.board.specs.Wires.{high_at}
use Rattle.board.specs.Formed.{well_formed}

-- ---- the reset board with another part; a pin's number is 7, a timer's 2

-- 24 numbers, of which pin 7's differs
abbrev pins : ℕ → ℕ → List ℕ
pins n x = set (replicate 24 n) 7 x

abbrev controlled : Controller → Board
controlled c = board c reset_timers (replicate 24 0)

abbrev wired : ℕ → ℕ → Board
wired outside level = board (with_entries reset_controller (with_level reset_entries (pins 0 level))) reset_timers (pins 0 outside)

-- pin 7's low word and held edge
abbrev pin : ℕ → ℕ → Board
pin w held = controlled (with_entries reset_controller (with_held (with_low reset_entries (pins 0x10000 w)) (pins 0 held)))

abbrev timed : Timers → Board
timed s = board reset_controller s (replicate 24 0)

-- a timer at a reset without settings
abbrev plain : Timer
plain = reset_timer 0x00FFFFFF

-- other settings: tick period, vendor, timer 2's mask; and timer 2's route
abbrev settings : ℕ → ℕ → ℕ → ℕ → Board
settings period vendor mask route = timed (with_timer (with_settings reset_timers period vendor (0x00FFFFFF ∷ 0x00FFFFFF ∷ mask ∷ [])) 2 (with_route plain route))

abbrev timer : Timer → Board
timer t = timed (with_timer reset_timers 2 t)

-- level type, interrupt enable, periodic and 32-bit mode, with comparator and period
abbrev modes : ℕ → ℕ → ℕ → ℕ → ℕ → ℕ → Timer
modes level interrupt periodic narrow comparator period =
    with_period (with_comparator (with_modes plain level interrupt periodic narrow) comparator) period

pub broken : List Board
broken =
    -- "controller id at most 15, index at most 255"
    controlled (with_id reset_controller 16)
    ∷ controlled (with_index reset_controller 256)
    -- "no edge held on a level pin"
    ∷ pin 0x18000 1
    -- "stored entry words contain writable bits only, beside remote IRR"
    ∷ pin 0x11000 0
    ∷ pin 0x30000 0
    ∷ pin 0x80010000 0
    -- "An edge entry now always reads bit 14 as 0, and a state where it doesn't is not well formed" (document 02, K4)
    ∷ pin 0x4000 0
    ∷ pin 0x4000 1
    ∷ pin 0x14000 0
    -- "each timer's set-comparator bit is 0 unless it is periodic"
    ∷ timer (with_set plain 1)
    -- "its comparator and period are below 2^32 in 32-bit mode"
    ∷ timer (modes 0 0 0 1 (2 ^ 32) 0)
    ∷ timer (modes 0 0 0 1 0 (2 ^ 32))
    -- "its route is at most 23"
    ∷ timer (with_route plain 24)
    -- "its status is 0 if it is edge type"
    ∷ timer (with_status plain 1)
    -- "outside wire levels are 0 or 1, and a pin level kept on the board is the one the wire rule gives"
    ∷ wired 2 0
    ∷ wired 1 0
    ∷ wired 0 1
    -- "any other kept number fits its register or setting"
    ∷ pin 0x10000 2
    ∷ timed (with_enabled reset_timers 2)
    ∷ timer (modes 2 0 0 0 0 0)
    ∷ timer (modes 0 2 0 0 0 0)
    ∷ timer (modes 0 0 2 0 0 0)
    ∷ timer (modes 0 0 0 2 0 0)
    ∷ timer (with_set (modes 0 0 1 0 0 0) 2)
    ∷ timer (with_status (modes 1 0 0 0 0 0) 2)
    -- "A well-formed state has settings in range and each route in its mask" (document 02, K6)
    ∷ settings 0 0x8086 0x00FFFFFF 0
    ∷ settings 100000001 0x8086 0x00FFFFFF 0
    ∷ settings 100000000 0x10000 0x00FFFFFF 0
    ∷ settings 100000000 0x8086 0 0
    ∷ settings 100000000 0x8086 0x01000001 0
    ∷ settings 100000000 0x8086 0x00FFFFFE 0
    ∷ settings 100000000 0x8086 0x00000001 1
    ∷ []

pub whole : List Board
whole =
    controlled (with_index (with_id reset_controller 15) 255)
    -- every writable bit and remote IRR; an edge held on a masked pin; remote IRR on a level pin
    ∷ pin 0x1EFFF 0
    ∷ pin 0x10000 1
    ∷ pin 0xC000 0
    ∷ timer (with_set (modes 0 1 1 1 (2 ^ 32 - 1) (2 ^ 32 - 1)) 1)
    ∷ timer (modes 0 0 0 0 (2 ^ 64 - 1) (2 ^ 64 - 1))
    ∷ timer (with_route plain 23)
    ∷ timer (with_status (modes 1 1 0 0 0 0) 1)
    ∷ timed (with_enabled reset_timers 1)
    ∷ settings 1 0xFFFF 0x00800001 23
    ∷ settings 100000000 0 0x00000001 0
    ∷ wired 1 1
    ∷ []

pub broken-refused : map well_formed broken ≡ map (λ (b : Board). false) broken
unfolding broken tab all_from remote_of level_of word_ok pin_ok entries_ok levels_ok controller_formed reset_timer driving flags_fit narrow_fits timer_formed lowest in_mask vendor_ok period_ok mask_ok timers_reset settings_fit timers_formed drives_of high_at well_formed first_from
broken-refused = refl

pub whole-taken : map well_formed whole ≡ map (λ (b : Board). true) whole
unfolding whole tab all_from remote_of level_of word_ok pin_ok entries_ok levels_ok controller_formed reset_timer driving flags_fit narrow_fits timer_formed lowest in_mask vendor_ok period_ok mask_ok timers_reset settings_fit timers_formed drives_of high_at well_formed first_from
whole-taken = refl
