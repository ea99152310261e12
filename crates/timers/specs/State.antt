-- The block's numbers: its settings, its three timers by their numbers, and a block with another of its numbers.
use Rattle.std.specs.Prelude.{ℕ, Bool, cond, List, [], ◌∷◌, get_or, ◌==◌}
use Rattle.settings.specs.declared.Settings.{Settings}
use Rattle.settings.specs.Settings.{mask_of, standard}
use Rattle.timer.specs.declared.Timer.{Timer}
use Rattle.timer.specs.State.{flag, blank, reset_timer}
use Rattle.timers.specs.declared.Timers.{Timers}

-- a list by the timers' numbers
abbrev pub three {ℓ} : {A : Type ℓ} → (ℕ → A) → List A
three f = f 0 ∷ f 1 ∷ f 2 ∷ []

-- timer m; past the last, a timer that is all 0
abbrev pub at : Timers → ℕ → Timer
at s m = get_or s.timer m blank

-- timer m's route mask
abbrev pub mask_at : Timers → ℕ → ℕ
mask_at s m = get_or s.masks m 0

-- bit 0 of 0x010
abbrev pub is_enabled : Timers → Bool
is_enabled s = flag s.enabled

-- ---- a block with another number

abbrev pub with_counter : Timers → ℕ → Timers
with_counter s x =
    record { counter = x; tick_period = s.tick_period; vendor = s.vendor; masks = s.masks; enabled = s.enabled; timer = s.timer }

abbrev pub with_enabled : Timers → ℕ → Timers
with_enabled s x =
    record { counter = s.counter; tick_period = s.tick_period; vendor = s.vendor; masks = s.masks; enabled = x; timer = s.timer }

abbrev pub with_list : Timers → List Timer → Timers
with_list s l =
    record { counter = s.counter; tick_period = s.tick_period; vendor = s.vendor; masks = s.masks; enabled = s.enabled; timer = l }

abbrev pub with_timers : Timers → (ℕ → Timer) → Timers
with_timers s f = with_list s (three f)

abbrev pub with_timer : Timers → ℕ → Timer → Timers
with_timer s m x = with_timers s (λ i. cond (i == m) x (at s i))

abbrev pub with_settings : Timers → ℕ → ℕ → List ℕ → Timers
with_settings s period vendor masks =
    record { counter = s.counter; tick_period = period; vendor = vendor; masks = masks; enabled = s.enabled; timer = s.timer }

-- ---- reset: everything writable 0, except comparators, which are 2^64 - 1, and routes

abbrev all_zero : Timers
all_zero = record { counter = 0; tick_period = 0; vendor = 0; masks = []; enabled = 0; timer = [] }

-- with settings: a timer's reset route is its mask's lowest pin
unfoldable pub reset_to : Settings → Timers
reset_to z = with_timers (with_settings all_zero z.period z.vendor (three (mask_of z))) (λ m. reset_timer (mask_of z m))

-- without: as in document 01
abbrev pub reset_timers : Timers
reset_timers = reset_to standard
