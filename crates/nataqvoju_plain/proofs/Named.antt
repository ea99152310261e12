-- A call by its numbers is the call that they name, or the refusal of an unknown kind.
use mathlib.Core.Path.{◌≡◌}
use mathlib.Core.Bool.{cond}
use Rattle.std.specs.Prelude.{Result, Ok, Err}
use Rattle.answers.specs.declared.Refusal.{Refusal}
use Rattle.answers.specs.declared.Refusal.TheVariants as refusal
use Rattle.board.specs.declared.Board.{Board}
use Rattle.board.specs.declared.Call.{Call}
use Rattle.board.specs.declared.CallNumbers.{CallNumbers}
use Rattle.board.specs.declared.Turn.{Turn}
use Rattle.board.specs.Formed.{well_formed}
use Rattle.board.specs.Numbers.{named_by}
use Rattle.board.specs.State.{refused}
use Rattle.board.specs.Step.{turn_of}
use Rattle.board.proofs.ByKind.{named-by-kind}
use Rattle.nataqvoju_plain.specs.Kinds.{called_of}

module _ (b : Board) where
  abbrev pub answered : Result Call Refusal → Turn
  answered (Ok c) = turn_of b c
  answered (Err e) = cond (well_formed b) (refused b e) (refused b refusal.State)

  pub named-answers : (n : CallNumbers) → answered (named_by n) ≡ called_of b n.kind n.p n.q n.r n.s
  unfolding called_of
  named-answers n = named-by-kind answered n
