-- Sequences of calls, call by call.
use mathlib.Core.Path.{◌≡◌, refl}
use mathlib.Core.List.{List, [], ◌∷◌}
use Rattle.board.specs.declared.Board.{Board}
use Rattle.board.specs.declared.Call.{Call}
use Rattle.board.specs.Step.{turn_of}
use Rattle.board.specs.Runs.{run, answers}

module _ (b : Board) where
  pub run-nil : run b [] ≡ b
  unfolding run
  run-nil = refl

  pub answers-nil : answers b [] ≡ []
  unfolding answers
  answers-nil = refl

  module _ (c : Call) (cs : List Call) where
    pub run-cons : run b (c ∷ cs) ≡ run (turn_of b c).board cs
    unfolding run
    run-cons = refl

    pub answers-cons : answers b (c ∷ cs) ≡ (turn_of b c).answer ∷ answers (turn_of b c).board cs
    unfolding answers
    answers-cons = refl
