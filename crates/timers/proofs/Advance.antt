-- What an advance answers: the block after its ticks, and each timer's count.
use Rattle.std.proofs.Common.{◌≡◌, ℕ, ◌<◌, true, false, get_or, ap, ◌∙◌}
use Rattle.answers.specs.declared.Refusal.TheVariants as refusal
use Rattle.answers.specs.declared.Answer.TheVariants as answer
use Rattle.answers.specs.Numbers.{numbers_of}
use Rattle.answers.proofs.Refused.{answer_fired}
use Rattle.timers.specs.declared.Timers.{Timers}
use Rattle.timers.specs.declared.Turn.{Turn}
use Rattle.timers.specs.declared.Ran.{Ran}
use Rattle.timers.specs.Formed.{well_formed}
use Rattle.timers.specs.Tick.{ticks, firings}
use Rattle.timers.specs.Inner.{ran_of}
use Rattle.timers.specs.Call.{turn, refused, advancing_of, advance_of}
use Rattle.timers.proofs.Three.{at-three}

module _ (s : Timers) (n : ℕ) where
  pub advance-refused : well_formed s ≡ false → advance_of s n ≡ refused s refusal.State
  unfolding advance_of
  advance-refused e = rw e

  pub advance-done : well_formed s ≡ true → advance_of s n ≡ advancing_of s n
  unfolding advance_of
  advance-done e = rw e

  -- that many single ticks, with their firings
  pub advance-ticked : well_formed s ≡ true → advance_of s n ≡ turn (ticks n s) (answer.Fired (firings 0 n s) (firings 1 n s) (firings 2 n s))
  unfolding advancing_of
  advance-ticked = advance-done

  pub advance-timers : well_formed s ≡ true → (advance_of s n).timers ≡ ticks n s
  advance-timers e = ap (λ (r : Turn). r.timers) (advance-ticked e)

  pub advance-fired : (m : ℕ) → m < 3 → well_formed s ≡ true → answer_fired m (advance_of s n).answer ≡ firings m n s
  unfolding numbers_of
  advance-fired m l e = ap (λ (r : Turn). answer_fired m r.answer) (advance-ticked e) ∙ at-three (λ j. firings j n s) 0 m l

  -- by what `ran` gives
  pub advancing-ran : (r : Ran) → r ≡ ran_of s n → turn r.timers (answer.Fired (get_or r.fired 0 0) (get_or r.fired 1 0) (get_or r.fired 2 0)) ≡ advancing_of s n
  unfolding ran_of advancing_of
  advancing-ran r e = ap (λ (x : Ran). turn x.timers (answer.Fired (get_or x.fired 0 0) (get_or x.fired 1 0) (get_or x.fired 2 0))) e
