-- The promise of a call in its two cases: on a board that it takes it is what the call does, on another the refusal 5.
use mathlib.Core.Path.{◌≡◌, refl, ap}
use mathlib.Core.Bool.{Bool, true, false, cond}
use Prim.Native.Nat.{ℕ}
use Rattle.answers.specs.declared.Answer.TheVariants as answer
use Rattle.answers.specs.declared.Refusal.TheVariants as refusal
use Rattle.board.specs.declared.Board.{Board}
use Rattle.board.specs.declared.Call.{Call}
use Rattle.board.specs.declared.Call.TheVariants as call
use Rattle.settings.specs.declared.Settings.{Settings}
use Rattle.settings.specs.Settings.{standard, in_range}
use Rattle.settings.proofs.Ranges.{standard-in-range}
use Rattle.board.specs.State.{reset_to, reset_board, turn, refused}
use Rattle.board.specs.Formed.{well_formed}
use Rattle.board.specs.Step.{reading_of, writing_of, wiring_of, ending_of, advancing_of, delivering_on_board, resetting_of, served_of, takes, plain_reset, turn_of}

module _ (b : Board) where
  -- every call takes a well-formed board
  pub formed-taken : (c : Call) → well_formed b ≡ true → takes b c ≡ true
  formed-taken (call.Read window width offset) e = e
  formed-taken (call.Write window width offset value) e = e
  formed-taken (call.Wire pin level) e = e
  formed-taken (call.End vector) e = e
  formed-taken (call.Advance n) e = e
  formed-taken call.Deliver e = e
  formed-taken (call.Reset z) e = refl

  pub turn-served : (c : Call) → takes b c ≡ true → turn_of b c ≡ served_of b c
  unfolding turn_of
  turn-served c e = ap (λ (x : Bool). cond x (served_of b c) (refused b refusal.State)) e

  pub turn-refused : (c : Call) → takes b c ≡ false → turn_of b c ≡ refused b refusal.State
  unfolding turn_of
  turn-refused c e = ap (λ (x : Bool). cond x (served_of b c) (refused b refusal.State)) e

  -- what each call does

  pub served-read : (window width offset : ℕ) → served_of b (call.Read window width offset) ≡ reading_of b window width offset
  unfolding served_of
  served-read window width offset = refl

  pub served-write : (window width offset value : ℕ) → served_of b (call.Write window width offset value) ≡ writing_of b window width offset value
  unfolding served_of
  served-write window width offset value = refl

  pub served-wire : (pin level : ℕ) → served_of b (call.Wire pin level) ≡ wiring_of b pin level
  unfolding served_of
  served-wire pin level = refl

  pub served-end : (vector : ℕ) → served_of b (call.End vector) ≡ ending_of b vector
  unfolding served_of
  served-end vector = refl

  pub served-advance : (n : ℕ) → served_of b (call.Advance n) ≡ advancing_of b n
  unfolding served_of
  served-advance n = refl

  pub served-deliver : served_of b call.Deliver ≡ delivering_on_board b
  unfolding served_of
  served-deliver = refl

  -- an end of interrupt is done
  pub ending-done : (vector : ℕ) → (ending_of b vector).answer ≡ answer.Done
  unfolding ending_of
  ending-done vector = refl

  -- a reset, whatever the board was
  pub turn-reset : (z : Settings) → turn_of b (call.Reset z) ≡ resetting_of b z
  unfolding turn_of served_of
  turn-reset z = refl

  -- with settings in range it is done, with others it is 10, and hands the board back
  pub reset-done : (z : Settings) → in_range z ≡ true → turn_of b (call.Reset z) ≡ turn (reset_to z) answer.Done
  unfolding turn_of served_of resetting_of
  reset-done z e = rw e

  pub reset-refused : (z : Settings) → in_range z ≡ false → turn_of b (call.Reset z) ≡ refused b refusal.Range
  unfolding turn_of served_of resetting_of
  reset-refused z e = rw e

  -- without settings it is as in document 01
  pub reset-plain : turn_of b plain_reset ≡ turn reset_board answer.Done
  reset-plain = reset-done standard standard-in-range
