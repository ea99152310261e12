-- A reset by a lent settings record, in its two cases: refused by the reader, or done.
use mathlib.Core.Path.{◌≡◌, sym, ap, ◌∙◌}
use mathlib.Core.Bool.{Bool, true, false, cond}
use mathlib.Core.List.{List}
use Prim.Native.Nat.{ℕ}
use Rattle.answers.proofs.Done.{NotRefused, is-done}
use Rattle.answers.specs.declared.Answer.{Answer}
use Rattle.answers.specs.declared.Answer.TheVariants as answer
use Rattle.answers.specs.declared.Numbers.{Numbers}
use Rattle.answers.specs.Numbers.{is_done, bare, numbers_of}
use Rattle.settings.specs.declared.Settings.{Settings}
use Rattle.settings.specs.declared.Reading.{Reading}
use Rattle.settings.specs.Settings.{standard, in_range}
use Rattle.settings.specs.Record.{record_of, read_of}
use Rattle.settings.proofs.Ranges.{standard-in-range, read-in-range}
use Rattle.settings.proofs.RoundTrip.{read-record}
use Rattle.board.specs.declared.Call.TheVariants as call
use Rattle.mill.specs.declared.Mill.{Mill}
use Rattle.mill.specs.declared.MillCall.TheVariants as millcall
use Rattle.mill.specs.declared.MillTurn.{MillTurn}
use Rattle.mill.specs.Mill.{turn, reset_to, reset_mill, turn_of}
use Rattle.mill.proofs.Served.{reset-served}
use Rattle.nataqvoju_mill.specs.Kinds.{called_of}
use Rattle.nataqvoju_mill.specs.Lent.{Gives}
use Rattle.nataqvoju_mill.specs.Reset.{reset_with, reset_by}
use Rattle.nataqvoju_mill.proofs.Decided.{decided}

-- ---- by what the reader gave

module _ (m : Mill) (r : Reading) where
  -- the two arms of the test, with the test's outcome
  abbrev either : Bool → Answer → MillTurn
  either d a = cond d (turn_of m (millcall.Board (call.Reset r.settings))) (turn m a)

  pub with-other :
      NotRefused r.answer →
      turn_of m (millcall.Board (call.Reset r.settings)) ≡ reset_with m r
  with-other k = sym (ap (λ (d : Bool). either d r.answer) (is-done r.answer k))

-- ---- by the record

module _ (m : Mill) (s : List ℕ) where
  -- the mill is handed back, and the answer is the reader's
  pub by-refused : is_done (read_of s).answer ≡ false → reset_by m s ≡ turn m (read_of s).answer
  unfolding reset_by
  by-refused e = ap (λ (d : Bool). either m (read_of s) d (read_of s).answer) e

  -- what the reader accepts is in range: the reset's own refusal never comes after it
  pub by-accepted : is_done (read_of s).answer ≡ true → reset_by m s ≡ turn (reset_to (read_of s).settings) answer.Done
  unfolding reset_by
  by-accepted e =
      ap (λ (d : Bool). either m (read_of s) d (read_of s).answer) e
      ∙ reset-served m (read_of s).settings (read-in-range s)

  module _ (after : Mill) (numbers : Numbers) (g : Gives (reset_by m s) after numbers) where
    -- a refused record leaves every byte of the lent mill, and the numbers are the reader's
    pub refused-leaves : is_done (read_of s).answer ≡ false → (after ≡ m) × (numbers ≡ numbers_of (read_of s).answer)
    refused-leaves e = (
      g.0 ∙ ap (λ (t : MillTurn). t.mill) (by-refused e),
      g.1 ∙ ap (λ (t : MillTurn). numbers_of t.answer) (by-refused e),
    )

    pub accepted-resets : is_done (read_of s).answer ≡ true → (after ≡ reset_to (read_of s).settings) × (numbers ≡ bare 0)
    unfolding numbers_of
    accepted-resets e = (
      g.0 ∙ ap (λ (t : MillTurn). t.mill) (by-accepted e),
      g.1 ∙ ap (λ (t : MillTurn). numbers_of t.answer) (by-accepted e),
    )

  -- any two results that the promise allows, mill and numbers, are equal
  pub reset-decided :
      (after after' : Mill) (numbers numbers' : Numbers) → Gives (reset_by m s) after numbers →
      Gives (reset_by m s) after' numbers' → (after ≡ after') × (numbers ≡ numbers')
  reset-decided = decided (reset_by m s)

-- the record of settings in range resets the mill with them
pub by-record :
    (m : Mill) (z : Settings) → in_range z ≡ true →
    reset_by m (record_of z) ≡ turn (reset_to z) answer.Done
unfolding reset_by
by-record m z e = ap (reset_with m) (read-record z e) ∙ reset-served m z e

-- kind 7 is document 01's reset, on a mill that had other settings too
pub kind-7 : (m : Mill) (p q r s : ℕ) → called_of m 7 p q r s ≡ turn reset_mill answer.Done
unfolding called_of
kind-7 m p q r s = reset-served m standard standard-in-range
