-- What a call did: a delivery gives a vector of eight bits.
use Prim.Native.Nat.{ℕ, ◌^◌, ◌<◌}
use mathlib.Core.Path.{◌≡◌, sym, ap, subst, ◌∙◌}
use mathlib.Core.Bool.{Bool, true, false, cond}
use native.Mathlib.Omega.{arith}
use Rattle.answers.specs.declared.Answer.{Answer}
use Rattle.answers.specs.declared.Answer.TheVariants as answer
use Rattle.answers.specs.Numbers.{numbers_of, is_done}
use Rattle.controller.proofs.Demands.{delivering-vector}
use Rattle.board.specs.declared.Board.{Board}
use Rattle.board.specs.declared.Call.{Call}
use Rattle.board.specs.declared.Call.TheVariants as call
use Rattle.board.specs.declared.Turn.{Turn}
use Rattle.board.specs.Formed.{well_formed}
use Rattle.board.specs.Step.{delivering_on_board, turn_of}
use Rattle.board.specs.Events.{reset, delivery, end, other, delivery_of, event_of}
use Rattle.board.proofs.Keeps.{served}
use Rattle.board.proofs.Served.{served-deliver}

delivery-vector : (a : Answer) (p v : ℕ) → delivery_of a ≡ delivery p v → (numbers_of a).vector ≡ v
unfolding numbers_of
delivery-vector (answer.Interrupt q w d l) p v e = cc e
delivery-vector answer.Done p v e = let z : ◌≡◌ {A = ℕ} 0 1 = cc in absurd (omega arith)
delivery-vector (answer.Value x) p v e = let z : ◌≡◌ {A = ℕ} 0 1 = cc in absurd (omega arith)
delivery-vector (answer.Fired x y z) p v e = let z : ◌≡◌ {A = ℕ} 0 1 = cc in absurd (omega arith)
delivery-vector answer.Nothing p v e = let z : ◌≡◌ {A = ℕ} 0 1 = cc in absurd (omega arith)
delivery-vector (answer.Refused r) p v e = let z : ◌≡◌ {A = ℕ} 0 1 = cc in absurd (omega arith)

delivered-vector : (b : Board) (p v : ℕ) → well_formed b ≡ true → delivery_of (turn_of b call.Deliver).answer ≡ delivery p v → v < 2 ^ 8
unfolding delivering_on_board
delivered-vector b p v w e =
    subst (λ (n : ℕ). n < 2 ^ 8)
    (ap (λ (t : Turn). (numbers_of t.answer).vector) (sym (served b call.Deliver w ∙ served-deliver b)) ∙ delivery-vector (turn_of b call.Deliver).answer p v e)
    (delivering-vector b.controller)

-- an end of interrupt, a reset and what is neither are no delivery
end-other : {A : Type 0} (x : Bool) (w p v : ℕ) → cond x (end w) other ≡ delivery p v → A
end-other true w p v e = let z : ◌≡◌ {A = ℕ} 0 1 = cc in absurd (omega arith)
end-other false w p v e = let z : ◌≡◌ {A = ℕ} 0 1 = cc in absurd (omega arith)

reset-other : {A : Type 0} (x : Bool) (p v : ℕ) → cond x reset other ≡ delivery p v → A
reset-other true p v e = let z : ◌≡◌ {A = ℕ} 0 1 = cc in absurd (omega arith)
reset-other false p v e = let z : ◌≡◌ {A = ℕ} 0 1 = cc in absurd (omega arith)

-- a delivery step alone delivers, with a vector of eight bits
pub event-vector : (b : Board) (c : Call) (p v : ℕ) → well_formed b ≡ true → event_of c (turn_of b c).answer ≡ delivery p v → v < 2 ^ 8
event-vector b (call.Read window width offset) p v w e = reset-other false p v e
event-vector b (call.Write window width offset value) p v w e = reset-other false p v e
event-vector b (call.Wire pin level) p v w e = reset-other false p v e
event-vector b (call.End vector) p v w e = end-other (is_done (turn_of b (call.End vector)).answer) vector p v e
event-vector b (call.Advance n) p v w e = reset-other false p v e
event-vector b call.Deliver p v w e = delivered-vector b p v w e
event-vector b (call.Reset z) p v w e = reset-other (is_done (turn_of b (call.Reset z)).answer) p v e
