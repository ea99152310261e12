-- A fitting screen rests while nothing happens.
use Prim.Native.Nat.{ℕ}
use mathlib.Core.Path.{◌≡◌, refl, sym, ap}
use mathlib.Core.Bool.{Bool, true, false, cond}
use mathlib.Core.List.{List}
use Rattle.pins.proofs.Bools.{clash}
use Rattle.board.specs.Events.{other}
use Rattle.mill.specs.declared.Screen.{Screen}
use Rattle.mill.specs.Screen.{running, asked, is_told, holds_in, moved_of, shown_after}
use Rattle.mill.proofs.Fits.{screen, Fits, untold, runs, asks, takes, pauses}

pub rests : (held : List ℕ) (s : Screen) → Fits held s → is_told s ≡ true → s ≡ moved_of s (holds_in held s.pin) other
unfolding moved_of
rests held _ untold t = clash (sym t)
rests held _ (runs p l h) t = ap (λ (x : Bool). cond x (screen p asked 0) (screen p running 0)) (sym h)
rests held _ (asks p l) t = refl
rests held _ (takes p v l b) t = refl
rests held _ (pauses p v l b) t = refl

-- told or not
pub fitting-rests : (held : List ℕ) (s : Screen) → Fits held s → shown_after s held other ≡ s
unfolding shown_after
fitting-rests held s f = go (is_told s) refl
  where
    go : (x : Bool) → is_told s ≡ x → cond x (moved_of s (holds_in held s.pin) other) s ≡ s
    go true e = sym (rests held s f e)
    go false e = refl
