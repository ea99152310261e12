-- Sequences of calls, taken apart.
use mathlib.Core.Path.{◌≡◌, refl}
use mathlib.Core.Bool.{Bool, false}
use mathlib.Core.List.{List, [], ◌∷◌, ◌++◌}
use Rattle.board.specs.declared.Call.{Call}
use Rattle.mill.specs.declared.Mill.{Mill}
use Rattle.mill.specs.declared.MillCall.{MillCall}
use Rattle.mill.specs.declared.MillCall.TheVariants as millcall
use Rattle.mill.specs.Runs.{run, board_calls}
use Rattle.mill.specs.Story.{next, None}

pub run-nil : (m : Mill) → run m [] ≡ m
unfolding run
run-nil m = refl

pub run-append : (cs ds : List MillCall) (m : Mill) → run m (cs ++ ds) ≡ run (run m cs) ds
unfolding run
run-append [] ds m = refl
run-append (c ∷ cs) ds m = run-append cs ds (next m c)

pub run-cons : (c : MillCall) (cs : List MillCall) (m : Mill) → run m (c ∷ cs) ≡ run (next m c) cs
unfolding run
run-cons c cs m = refl

module _ (such : Mill → MillCall → Bool) where
  pub none_before : (cs ds : List MillCall) (m : Mill) → None such m (cs ++ ds) → None such m cs
  unfolding None
  none_before [] ds m n = tt
  none_before (c ∷ cs) ds m n = (n.0, none_before cs ds (next m c) n.1)

  pub none_after : (cs ds : List MillCall) (m : Mill) → None such m (cs ++ ds) → None such (run m cs) ds
  unfolding None run
  none_after [] ds m n = n
  none_after (c ∷ cs) ds m n = none_after cs ds (next m c) n.1

  pub none_first : (c : MillCall) (cs : List MillCall) (m : Mill) → None such m (c ∷ cs) → (such m c ≡ false) × None such (next m c) cs
  unfolding None
  none_first c cs m n = n

  pub none_more : (cs : List MillCall) (c : MillCall) (m : Mill) → None such m cs → such (run m cs) c ≡ false → None such m (cs ++ c ∷ [])
  unfolding None run
  none_more [] c m n e = (e, tt)
  none_more (a ∷ cs) c m n e = (n.0, none_more cs c (next m a) n.1 e)

  pub none-nil : (m : Mill) → None such m []
  unfolding None
  none-nil m = tt

-- the board's among them
pub calls-nil : board_calls [] ≡ []
unfolding board_calls
calls-nil = refl

pub calls-board : (c : Call) (cs : List MillCall) → board_calls (millcall.Board c ∷ cs) ≡ c ∷ board_calls cs
unfolding board_calls
calls-board c cs = refl
