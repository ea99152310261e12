-- What every wire change keeps of the entries, all that only moves wires keeps: a join, a firing, any number of ticks,
-- a wire call.
use Prim.Native.Nat.{ℕ, zero, suc}
use mathlib.Core.Bool.{Bool, true, false, cond}
use mathlib.Core.List.{List}
use lib.Dec.{leb, ltb}
use lib.ListN.{set}
use Rattle.answers.specs.declared.Answer.TheVariants as answer
use Rattle.answers.specs.declared.Refusal.TheVariants as refusal
use Rattle.entries.specs.declared.Entries.{Entries}
use Rattle.entries.specs.Table.{wired}
use Rattle.controller.specs.declared.Controller.{Controller}
use Rattle.controller.specs.Steps.{rewired}
use Rattle.timers.specs.declared.Timers.{Timers}
use Rattle.timers.specs.State.{is_enabled}
use Rattle.timers.specs.Tick.{matches_of, fired_of, pulses_of, route_of}
use Rattle.board.specs.declared.Board.{Board}
use Rattle.board.specs.State.{turn, refused}
use Rattle.board.specs.Wires.{wires_of, joined}
use Rattle.board.specs.Tick.{pulsed_at, effect, fire, turned, up_to, tick, ticks}
use Rattle.board.specs.Step.{wiring_of}

module _ (P : Entries → Type 0) (keep : (e : Entries) (l : List ℕ) → P e → P (wired e l)) where
  -- it holds of a board's entries
  abbrev On : Board → Type 0
  On b = P b.controller.entries

  pub joined_keeps : (c : Controller) (s : Timers) (o : List ℕ) → P c.entries → On (joined c s o)
  unfolding joined
  joined_keeps c s o = keep c.entries (wires_of o s)

  fire-keeps : (m : ℕ) (b : Board) → On b → On (fire m b)
  unfolding effect
  fire-keeps m b h = go (pulses_of b.timers m)
    where
      w : List ℕ
      w = wires_of b.outside (fired_of b.timers m)

      up : Controller
      up = rewired b.controller (set w (route_of b.timers m) 1)

      go : (x : Bool) → P (cond x (pulsed_at b.controller w (route_of b.timers m)) (rewired b.controller w)).entries
      go true = keep up.entries w (keep b.controller.entries (set w (route_of b.timers m) 1) h)
      go false = keep b.controller.entries w h

  pub turned-keeps : (m : ℕ) (b : Board) → On b → On (turned m b)
  unfolding turned
  turned-keeps m b h = go (matches_of b.timers m)
    where
      go : (x : Bool) → On (cond x (fire m b) b)
      go true = fire-keeps m b h
      go false = h

  turns-keep : (m : ℕ) (b : Board) → On b → On (up_to m b)
  unfolding up_to
  turns-keep zero b h = h
  turns-keep (suc m) b h = turned-keeps m (up_to m b) (turns-keep m b h)

  pub tick-keeps : (b : Board) → On b → On (tick b)
  unfolding tick
  tick-keeps b h = go (is_enabled b.timers)
    where
      go : (x : Bool) → On (cond x (up_to 3 b) b)
      go true = turns-keep 3 b h
      go false = h

  pub ticks-keep : (n : ℕ) (b : Board) → On b → On (ticks n b)
  unfolding ticks
  ticks-keep zero b h = h
  ticks-keep (suc n) b h = tick-keeps (ticks n b) (ticks-keep n b h)

  pub wiring-keeps : (b : Board) (i x : ℕ) → On b → On (wiring_of b i x).board
  unfolding wiring_of
  wiring-keeps b i x h = go (ltb i 24) (leb x 1)
    where
      go :
          (a d : Bool) →
          On (cond a (cond d (turn (joined b.controller b.timers (set b.outside i x)) answer.Done) (refused b refusal.Level)) (refused b refusal.Pin)).board
      go true true = joined_keeps b.controller b.timers (set b.outside i x) h
      go true false = h
      go false d = h
