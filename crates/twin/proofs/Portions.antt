-- An advance in portions, as the loop makes it (demand 3).
use Prim.Native.Nat.{ℕ, zero, suc, ◌+◌, ◌<◌}
use mathlib.Core.Path.{◌≡◌, refl, sym, ap, ◌∙◌}
use native.Mathlib.Omega.{arith}
use Rattle.answers.specs.declared.Answer.TheVariants as answer
use Rattle.answers.specs.Numbers.{numbers_of}
use Rattle.board.specs.declared.Board.{Board}
use Rattle.board.specs.declared.Turn.{Turn}
use Rattle.board.specs.declared.Call.TheVariants as call
use Rattle.board.specs.State.{turn}
use Rattle.board.specs.Tick.{ticks, firings}
use Rattle.board.specs.Step.{turn_of}
use Rattle.board.proofs.Formed.{Formed, formed-out}
use Rattle.board.proofs.Ticks.{ticks-add, firings-add, ticks-formed}
use Rattle.board.proofs.Demands.{advance-is-ticks, fired}

-- what n ticks make of a board, as an advance's turn
abbrev pub ticked : ℕ → Board → Turn
ticked n b = turn (ticks n b) (answer.Fired (firings 0 n b) (firings 1 n b) (firings 2 n b))

-- timer m's count in it
fired-ticked : (n : ℕ) (b : Board) (m : ℕ) → m < 3 → fired m (ticked n b).answer ≡ firings m n b
unfolding numbers_of
fired-ticked n b zero l = refl
fired-ticked n b (suc zero) l = refl
fired-ticked n b (suc (suc zero)) l = refl
fired-ticked n b (suc (suc (suc m))) l = absurd (omega arith)

module _ (b : Board) (z : Formed b) where
  pub whole : (n : ℕ) → ticked n b ≡ turn_of b (call.Advance n)
  whole n = sym (advance-is-ticks b n (formed-out b z))

  -- a portion of p ticks after d, on the board x that these left
  module _ (d p : ℕ) (x : Board) (t : Turn) (here : x ≡ ticks d b) (made : t ≡ turn_of x (call.Advance p)) where
    so : t ≡ ticked p (ticks d b)
    so = made ∙ ap (λ (y : Board). turn_of y (call.Advance p)) here ∙ advance-is-ticks (ticks d b) p (formed-out (ticks d b) (ticks-formed b z d))

    pub board-on : t.board ≡ ticks (d + p) b
    board-on = ap (λ (u : Turn). u.board) so ∙ sym (ticks-add d p b)

    pub fired-on : (m : ℕ) → m < 3 → (f : ℕ) → f ≡ firings m d b → f + fired m t.answer ≡ firings m (d + p) b
    fired-on m l f e =
        ap (λ (k : ℕ). k + fired m t.answer) e
        ∙ ap (λ (u : Turn). firings m d b + fired m u.answer) so
        ∙ ap (λ (k : ℕ). firings m d b + k) (fired-ticked p (ticks d b) m l)
        ∙ sym (firings-add m d p b)
