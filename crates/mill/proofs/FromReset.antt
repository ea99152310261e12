-- A telling from reset, with settings in range: every entry is an edge entry then, so that its one refusal is 3, for a
-- pin above 23.
use Prim.Native.Nat.{ℕ, ◌<◌, ◌≤◌}
use native.Mathlib.Decide.{dec_lt}
use native.Mathlib.Omega.{arith}
use mathlib.Core.Path.{◌≡◌, sym, ap, ◌∙◌}
use mathlib.Core.Bool.{true, not}
use borrow.Author.Tests.{lt-ltb, le-ltb}
use Rattle.answers.specs.declared.Answer.TheVariants as answer
use Rattle.answers.specs.declared.Refusal.{Refusal}
use Rattle.answers.specs.declared.Refusal.TheVariants as refusal
use Rattle.entries.proofs.Formed.{reset-level}
use Rattle.settings.specs.declared.Settings.{Settings}
use Rattle.settings.specs.Settings.{in_range}
use Rattle.board.specs.State.{reset_to as board_reset}
use Rattle.board.specs.Events.{is_edge}
use Rattle.board.proofs.Keeps.{reset as board-reset}
use Rattle.mill.specs.declared.MillCall.TheVariants as millcall
use Rattle.mill.specs.declared.MillTurn.{MillTurn}
use Rattle.mill.specs.Mill.{reset_to, well_formed, turn, refused, looked_at, telling_of, turn_of}
use Rattle.mill.proofs.Fits.{untold}
use Rattle.mill.proofs.Served.{tell-served}
use Rattle.mill.proofs.Keeps.{Good, good-out, good-keeps}

pub good-reset-to : (z : Settings) → in_range z ≡ true → Good (reset_to z)
good-reset-to z e = record { boarded = board-reset z e; screened = untold }

module _ (z : Settings) (e : in_range z ≡ true) (p : ℕ) where
  telling : turn_of (reset_to z) (millcall.Tell p) ≡ telling_of (reset_to z) p
  telling = tell-served (reset_to z) p (good-out (reset_to z) (good-reset-to z e))

  -- whatever the answer
  pub told-formed : well_formed (turn_of (reset_to z) (millcall.Tell p)).mill ≡ true
  told-formed = good-out (turn_of (reset_to z) (millcall.Tell p)).mill (good-keeps (reset_to z) (good-reset-to z e) (millcall.Tell p))

  edge : p < 24 → is_edge (board_reset z) p ≡ true
  edge h = ap not (reset-level p h)

  pub told-done : p < 24 → turn_of (reset_to z) (millcall.Tell p) ≡ turn (looked_at (reset_to z) p) answer.Done
  unfolding telling_of
  told-done h = telling ∙ rw (lt-ltb p 24 h, edge h)

  pub told-refused : 24 ≤ p → turn_of (reset_to z) (millcall.Tell p) ≡ refused (reset_to z) refusal.Pin
  unfolding telling_of
  told-refused h = telling ∙ rw (le-ltb p 24 h)

  pub only-pin : (r : Refusal) → (turn_of (reset_to z) (millcall.Tell p)).answer ≡ answer.Refused r → r ≡ refusal.Pin
  only-pin r a = by-test (dec_lt p 24)
    where
      by-test : Dec (p < 24) → r ≡ refusal.Pin
      by-test (yes h) =
          let done : answer.Done ≡ answer.Refused r = sym (ap (λ (t : MillTurn). t.answer) (told-done h)) ∙ a in
          let z : ◌≡◌ {A = ℕ} 0 1 = cc in
          absurd (omega arith)
      by-test (no h) =
          let pin : answer.Refused refusal.Pin ≡ answer.Refused r = sym (ap (λ (t : MillTurn). t.answer) (told-refused (omega arith))) ∙ a in
          let same : refusal.Pin ≡ r = cc pin in
          sym same
