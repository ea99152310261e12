-- A register read leaves the board as it is, well formed or not.
use Prim.Native.Nat.{ℕ}
use mathlib.Core.Path.{◌≡◌, refl, ap}
use mathlib.Core.Bool.{Bool, true, false, cond}
use lib.Dec.{eqb}
use Rattle.answers.specs.declared.Refusal.TheVariants as refusal
use Rattle.controller.specs.Window.{reading_of as controller_reading}
use Rattle.controller.proofs.Formed.{reading-same}
use Rattle.timers.specs.Call.{reading_of as timers_reading}
use Rattle.board.specs.declared.Board.{Board}
use Rattle.board.specs.declared.Call.TheVariants as call
use Rattle.board.specs.State.{with_controller, turn, refused}
use Rattle.board.specs.Formed.{well_formed}
use Rattle.board.specs.Step.{by_controller, reading_of, served_of, turn_of}

reading-leaves : (b : Board) (n w o : ℕ) → (reading_of b n w o).board ≡ b
unfolding reading_of
reading-leaves b n w o = go (eqb n 0) (eqb n 1)
  where
    go : (x y : Bool) → (cond x (by_controller b (controller_reading b.controller w o)) (cond y (turn b (timers_reading b.timers w o).answer) (refused b refusal.Window))).board ≡ b
    go true y = ap (with_controller b) (reading-same b.controller w o)
    go false true = refl
    go false false = refl

pub read-leaves : (b : Board) (n w o : ℕ) → (turn_of b (call.Read n w o)).board ≡ b
unfolding turn_of served_of
read-leaves b n w o = go (well_formed b)
  where
    go : (x : Bool) → (cond x (reading_of b n w o) (refused b refusal.State)).board ≡ b
    go true = reading-leaves b n w o
    go false = refl
