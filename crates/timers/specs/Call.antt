-- What each call answers, refusals in the paper's order: 5, 2, 1, 4.
use Rattle.std.specs.Prelude.{ℕ, cond}
use Rattle.answers.specs.declared.Refusal.{Refusal}
use Rattle.answers.specs.declared.Refusal.TheVariants as refusal
use Rattle.answers.specs.declared.Answer.{Answer}
use Rattle.answers.specs.declared.Answer.TheVariants as answer
use Rattle.timers.specs.declared.Timers.{Timers}
use Rattle.timers.specs.declared.Turn.{Turn}
use Rattle.timers.specs.Formed.{well_formed}
use Rattle.timers.specs.Registers.{aligned, inside, fits, shown_of, stored_of}
use Rattle.timers.specs.Tick.{ticks, firings}

abbrev pub turn : Timers → Answer → Turn
turn s a = record { timers = s; answer = a }

-- a refusal leaves the state as it was
abbrev pub refused : Timers → Refusal → Turn
refused s r = turn s (answer.Refused r)

-- 2: width or alignment isn't allowed; 1: the offset doesn't exist
abbrev pub accessed : Timers → ℕ → ℕ → Turn → Turn
accessed s width offset done = cond (aligned width offset) (cond (inside offset) done (refused s refusal.Offset)) (refused s refusal.Width)

-- ---- of a state that is well formed

unfoldable pub reading_of : Timers → ℕ → ℕ → Turn
reading_of s width offset = accessed s width offset (turn s (answer.Value (shown_of s width offset)))

-- 4: a 4-byte write with a value above 4,294,967,295
unfoldable pub writing_of : Timers → ℕ → ℕ → ℕ → Turn
writing_of s width offset value =
    accessed s width offset (cond (fits width value) (turn (stored_of s width offset value) answer.Done) (refused s refusal.Value))

unfoldable pub advancing_of : Timers → ℕ → Turn
advancing_of s n = turn (ticks n s) (answer.Fired (firings 0 n s) (firings 1 n s) (firings 2 n s))

-- ---- of any state. 5: state not well formed, tested first

unfoldable pub read_of : Timers → ℕ → ℕ → Turn
read_of s width offset = cond (well_formed s) (reading_of s width offset) (refused s refusal.State)

unfoldable pub write_of : Timers → ℕ → ℕ → ℕ → Turn
write_of s width offset value = cond (well_formed s) (writing_of s width offset value) (refused s refusal.State)

unfoldable pub advance_of : Timers → ℕ → Turn
advance_of s n = cond (well_formed s) (advancing_of s n) (refused s refusal.State)
