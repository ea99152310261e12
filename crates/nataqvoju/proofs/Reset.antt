-- A reset by a lent settings record, in its two cases: refused by the reader, or done.
use mathlib.Core.Path.{◌≡◌, sym, ap, ◌∙◌}
use mathlib.Core.Bool.{Bool, true, false, cond}
use mathlib.Core.List.{List}
use Prim.Native.Nat.{ℕ}
use Rattle.answers.proofs.Done.{NotRefused, is-done}
use Rattle.answers.specs.declared.Answer.{Answer}
use Rattle.answers.specs.declared.Answer.TheVariants as answer
use Rattle.answers.specs.declared.Numbers.{Numbers}
use Rattle.answers.specs.Numbers.{is_done, bare, numbers_of}
use Rattle.settings.specs.declared.Settings.{Settings}
use Rattle.settings.specs.declared.Reading.{Reading}
use Rattle.settings.specs.Settings.{in_range}
use Rattle.settings.specs.Record.{record_of, read_of}
use Rattle.settings.proofs.Ranges.{read-in-range}
use Rattle.settings.proofs.RoundTrip.{read-record}
use Rattle.board.specs.declared.Board.{Board}
use Rattle.board.specs.declared.Call.TheVariants as call
use Rattle.board.specs.declared.Turn.{Turn}
use Rattle.board.specs.State.{turn, reset_to}
use Rattle.board.specs.Step.{resetting_of, turn_of}
use Rattle.board.proofs.Served.{turn-reset, reset-done}
use Rattle.nataqvoju.specs.Lent.{Gives}
use Rattle.nataqvoju.specs.Reset.{reset_with, reset_by}
use Rattle.nataqvoju.proofs.Decided.{decided}

-- ---- by what the reader gave

module _ (b : Board) (r : Reading) where
  -- the two arms of the test, with the test's outcome
  abbrev either : Bool → Answer → Turn
  either d a = cond d (turn_of b (call.Reset r.settings)) (turn b a)

  pub with-other :
      NotRefused r.answer →
      resetting_of b r.settings ≡ reset_with b r
  with-other k = sym (ap (λ (d : Bool). either d r.answer) (is-done r.answer k) ∙ turn-reset b r.settings)

-- ---- by the record

module _ (b : Board) (s : List ℕ) where
  -- the board is handed back, and the answer is the reader's
  pub by-refused : is_done (read_of s).answer ≡ false → reset_by b s ≡ turn b (read_of s).answer
  unfolding reset_by
  by-refused e = ap (λ (d : Bool). either b (read_of s) d (read_of s).answer) e

  -- what the reader accepts is in range: the reset's own refusal never comes after it
  pub by-accepted : is_done (read_of s).answer ≡ true → reset_by b s ≡ turn (reset_to (read_of s).settings) answer.Done
  unfolding reset_by
  by-accepted e =
      ap (λ (d : Bool). either b (read_of s) d (read_of s).answer) e
      ∙ reset-done b (read_of s).settings (read-in-range s)

  module _ (after : Board) (numbers : Numbers) (g : Gives (reset_by b s) after numbers) where
    -- a refused record leaves every byte of the lent board, and the numbers are the reader's
    pub refused-leaves : is_done (read_of s).answer ≡ false → (after ≡ b) × (numbers ≡ numbers_of (read_of s).answer)
    refused-leaves e = (
      g.0 ∙ ap (λ (t : Turn). t.board) (by-refused e),
      g.1 ∙ ap (λ (t : Turn). numbers_of t.answer) (by-refused e),
    )

    pub accepted-resets : is_done (read_of s).answer ≡ true → (after ≡ reset_to (read_of s).settings) × (numbers ≡ bare 0)
    unfolding numbers_of
    accepted-resets e = (
      g.0 ∙ ap (λ (t : Turn). t.board) (by-accepted e),
      g.1 ∙ ap (λ (t : Turn). numbers_of t.answer) (by-accepted e),
    )

  -- any two results that the promise allows, board and numbers, are equal
  pub reset-decided :
      (after after' : Board) (numbers numbers' : Numbers) → Gives (reset_by b s) after numbers →
      Gives (reset_by b s) after' numbers' → (after ≡ after') × (numbers ≡ numbers')
  reset-decided = decided (reset_by b s)

-- the record of settings in range resets the board with them
pub by-record :
    (b : Board) (z : Settings) → in_range z ≡ true →
    reset_by b (record_of z) ≡ turn (reset_to z) answer.Done
unfolding reset_by
by-record b z e = ap (reset_with b) (read-record z e) ∙ reset-done b z e
