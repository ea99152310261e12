-- A well-formed board as facts by name, and the laws between these and the test.
use Prim.Native.Nat.{ℕ, ◌<◌}
use mathlib.Core.Path.{◌≡◌, sym, ap, ◌∙◌}
use mathlib.Core.Bool.{Bool, true, ◌&&◌}
use mathlib.Core.List.{List}
use lib.ListN.{get_or}
use lib.Seq.{ext_get_or}
use mir.Val.{bool_byte}
use borrow.Author.Tests.{eq-eqb, eqb-true}
use Rattle.pins.specs.Pins.{every}
use Rattle.pins.proofs.Bools.{and_left, and_right, and_both}
use Rattle.pins.proofs.Every.{every-at, every_of}
use Rattle.entries.specs.Table.{level_at, levels_ok}
use Rattle.entries.proofs.Sized.{Sized as EntriesSized}
use Rattle.entries.proofs.Pulse.{wired-level}
use Rattle.controller.specs.declared.Controller.{Controller}
use Rattle.controller.specs.State.{well_formed as controller_formed}
use Rattle.controller.proofs.Formed.{rewired-keeps}
use Rattle.timers.specs.declared.Timers.{Timers}
use Rattle.timers.specs.Formed.{well_formed as timers_formed}
use Rattle.board.specs.declared.Board.{Board}
use Rattle.board.specs.Wires.{high_at, wires_of, joined}
use Rattle.board.specs.Formed.{kept_at, well_formed}
use Rattle.board.proofs.Rule.{wires-long, wires-at, wires-ok}

-- the lists of a board are as long as the code's arrays
abbrev pub Sized : Board → Type 0
Sized b = EntriesSized b.controller.entries

pub record Formed (b : Board) : Type 0 where
  pub controlled : controller_formed b.controller ≡ true
  pub timed : timers_formed b.timers ≡ true
  pub outer : levels_ok b.outside ≡ true
  pub wired : b.controller.entries.level ≡ wires_of b.outside b.timers
  pub sized : Sized b

module _ (b : Board) where
  abbrev t1 : Bool
  t1 = levels_ok b.outside && every (kept_at b)

  abbrev t2 : Bool
  t2 = timers_formed b.timers && t1

  pub formed-in : well_formed b ≡ true → Sized b → Formed b
  unfolding well_formed
  formed-in e z =
      record {
        controlled = and_left (controller_formed b.controller) t2 e;
        timed = and_left (timers_formed b.timers) t1 e2;
        outer = and_left (levels_ok b.outside) (every (kept_at b)) e1;
        wired =
            ext_get_or 0 b.controller.entries.level (wires_of b.outside b.timers) (z.level ∙ sym (wires-long b.outside b.timers))
            (λ i l.
            let k : i < 24 = rw z.level at l in
            eqb-true (level_at b.controller.entries i) (bool_byte (high_at b.outside b.timers i)) (every-at (kept_at b) (and_right (levels_ok b.outside) (every (kept_at b)) e1) i k)
            ∙ sym (wires-at b.outside b.timers i k));
        sized = z;
      }
    where
      e2 : t2 ≡ true
      e2 = and_right (controller_formed b.controller) t2 e

      e1 : t1 ≡ true
      e1 = and_right (timers_formed b.timers) t1 e2

  pub formed-out : Formed b → well_formed b ≡ true
  unfolding well_formed
  formed-out f =
      and_both f.controlled
      (and_both f.timed
      (and_both f.outer
      (every_of (kept_at b)
      (λ i l.
      eq-eqb (level_at b.controller.entries i) (bool_byte (high_at b.outside b.timers i))
      (ap (λ (x : List ℕ). get_or x i 0) f.wired ∙ wires-at b.outside b.timers i l)))))

-- whatever a call did to the three, once they are joined the board is well formed
pub joined-formed : (c : Controller) (s : Timers) (o : List ℕ) → controller_formed c ≡ true → EntriesSized c.entries → timers_formed s ≡ true → levels_ok o ≡ true → Formed (joined c s o)
unfolding joined
joined-formed c s o w z t l =
    let k = rewired-keeps c w z (wires_of o s) (wires-ok o s) (wires-long o s) in
    record { controlled = k.formed; timed = t; outer = l; wired = wired-level c.entries (wires_of o s); sized = k.sized }
