-- A call by its numbers is the call that they name, or the refusal of an unknown kind.
use mathlib.Core.Path.{◌≡◌, refl, sym, ap}
use mathlib.Core.Bool.{Bool, true, false, cond}
use Prim.Native.Nat.{ℕ}
use lib.Dec.{eqb}
use borrow.Author.Tests.{eqb-true}
use Rattle.std.specs.Prelude.{Result, Ok, Err}
use Rattle.answers.specs.declared.Refusal.{Refusal}
use Rattle.answers.specs.declared.Refusal.TheVariants as refusal
use Rattle.board.specs.declared.CallNumbers.{CallNumbers}
use Rattle.board.specs.Numbers.{named_by as board_named}
use Rattle.board.proofs.ByKind.{named-by-kind}
use Rattle.mill.specs.declared.Mill.{Mill}
use Rattle.mill.specs.declared.MillCall.{MillCall}
use Rattle.mill.specs.declared.MillCall.TheVariants as millcall
use Rattle.mill.specs.declared.MillTurn.{MillTurn}
use Rattle.mill.specs.Mill.{well_formed, refused, turn_of}
use Rattle.nataqvoju_mill.specs.Kinds.{of_board, named_by, called_of}

module _ (m : Mill) where
  abbrev pub answered : Result MillCall Refusal → MillTurn
  answered (Ok c) = turn_of m c
  answered (Err e) = cond (well_formed m) (refused m e) (refused m refusal.State)

  module _ (n : CallNumbers) where
    abbrev called : ℕ → MillTurn
    called kind = called_of m kind n.p n.q n.r n.s

    -- by the kinds 8 and 9, which come first in the one and last in the other
    pub named-answers : answered (named_by n) ≡ called_of m n.kind n.p n.q n.r n.s
    unfolding named_by called_of
    named-answers = go (eqb n.kind 8) (eqb n.kind 9) refl refl
      where
        go :
            (x y : Bool) → eqb n.kind 8 ≡ x → eqb n.kind 9 ≡ y →
            answered (cond x (Ok (millcall.Tell n.p)) (cond y (Ok millcall.Resume) (of_board (board_named n)))) ≡ called n.kind
        go true y e f = sym (ap called (eqb-true n.kind 8 e))
        go false true e f = sym (ap called (eqb-true n.kind 9 f))
        go false false e f = rw (e, f) (named-by-kind (λ r. answered (of_board r)) n)
