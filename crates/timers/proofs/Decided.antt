-- What the tests decide of each call, in the paper's order.
use Rattle.std.proofs.Common.{◌≡◌, ℕ, Bool, true, cond, not, List, [], ◌∷◌, ◌++◌, refl}
use Rattle.answers.specs.declared.Answer.TheVariants as answer
use Rattle.answers.specs.declared.Refusal.{Refusal}
use Rattle.answers.specs.declared.Refusal.TheVariants as refusal
use Rattle.answers.specs.Numbers.{number_of, numbers_of}
use Rattle.answers.specs.Order.{Test, test}
use Rattle.answers.proofs.Order.{Decided, done_decided, refused-decided, then-decided}
use Rattle.timers.specs.declared.Timers.{Timers}
use Rattle.timers.specs.declared.Turn.{Turn}
use Rattle.timers.specs.Formed.{well_formed}
use Rattle.timers.specs.Registers.{aligned, inside, fits, shown_of, stored_of}
use Rattle.timers.specs.Tick.{ticks, firings}
use Rattle.timers.specs.Call.{refused, accessed, reading_of, writing_of, advancing_of, read_of, write_of, advance_of}
use Rattle.timers.specs.Calls.{Call, read, write, advance, turn_of, read_tests, write_tests, tests_of}

abbrev pub DecidedTurn : Timers → List Test → Turn → Type 0
DecidedTurn s ts t = Decided Timers ts s t.timers t.answer

module _ (s : Timers) where
  -- a test with its refusal, and what comes after it
  then : (n : ℕ) (ts : List Test) (r : Refusal) (t : Turn) (f : Bool) → number_of r ≡ n → DecidedTurn s ts t → DecidedTurn s (test n (not f) ∷ ts) (cond f t (refused s r))
  then n ts r t f e =
      then-decided (λ (x : Turn). x.timers) (λ (x : Turn). x.answer) s n ts t (refused s r) f (refused-decided s (test n true) ts r refl e)

  accessed-decided : (w o : ℕ) (ts : List Test) (t : Turn) → DecidedTurn s ts t → DecidedTurn s (read_tests w o ++ ts) (accessed s w o t)
  unfolding number_of
  accessed-decided w o ts t d = then 2 _ refusal.Width _ (aligned w o) refl (then 1 ts refusal.Offset t (inside o) refl d)

  pub reading-decided : (w o : ℕ) → DecidedTurn s (read_tests w o) (reading_of s w o)
  unfolding reading_of numbers_of
  reading-decided w o = accessed-decided w o [] _ (done_decided s s (answer.Value (shown_of s w o)) refl)

  pub writing-decided : (w o v : ℕ) → DecidedTurn s (write_tests w o v) (writing_of s w o v)
  unfolding writing_of numbers_of number_of
  writing-decided w o v =
      accessed-decided w o (test 4 (not (fits w v)) ∷ []) _
      (then 4 [] refusal.Value _ (fits w v) refl (done_decided s (stored_of s w o v) answer.Done refl))

  advancing-decided : (n : ℕ) → DecidedTurn s [] (advancing_of s n)
  unfolding advancing_of numbers_of
  advancing-decided n = done_decided s (ticks n s) (answer.Fired (firings 0 n s) (firings 1 n s) (firings 2 n s)) refl

  -- refusal 5 is tested first
  pub decided : (k : Call) → DecidedTurn s (tests_of s k) (turn_of s k)
  unfolding turn_of tests_of read_of write_of advance_of number_of
  decided (read w o) = then 5 (read_tests w o) refusal.State (reading_of s w o) (well_formed s) refl (reading-decided w o)
  decided (write w o v) = then 5 (write_tests w o v) refusal.State (writing_of s w o v) (well_formed s) refl (writing-decided w o v)
  decided (advance n) = then 5 [] refusal.State (advancing_of s n) (well_formed s) refl (advancing-decided n)
