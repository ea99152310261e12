use mathlib.Core.Path.{◌≡◌, refl, sym, ap, subst, ◌∙◌}
use Prim.Native.Nat.{ℕ, ◌<◌, ◌≤◌}
use native.Mathlib.Omega.{arith}
use native.Mathlib.Numerals.{add-one}
use lib.ListN.{get_or, length}
use borrow.Author.Rules.{rules}
use Rattle.std.specs.Prelude.{None}
use Rattle.entries.specs.declared.Entries.{Entries}
use Rattle.entries.specs.Strike.{struck_by, struck, pin_of}
use Rattle.entries.proofs.Sized.{Sized}
use Rattle.entries.proofs.Strikes.{struck-sized, strike-parts, strike-rests}
use Rattle.entries.proofs.Entries.struck.Invariants.{with-pins}
use Rattle.entries.proofs.Entries.struck.Goals as goal
use Rattle.entries.proofs.Entries.struck.Goals.{then-p-lt-PINS, else-p-lt-PINS}

pub loop-strike-init : goal.loop-strike-init
unfolding struck
loop-strike-init c = refl

-- a strike that is none
pub loop-strike-preserved-in_default : goal.loop-strike-preserved-in_default
unfolding struck struck_by
loop-strike-preserved-in_default c =
    rw add-one (c.loop-strike.invariant ∙ sym (ap (struck_by (struck c.loop-strike.strike-index c.args.strikes c.args.self)) c.in_default.is))

pub loop-strike-preserved : goal.loop-strike-preserved
unfolding struck
loop-strike-preserved c =
    let sized : Sized c.args.self =
    (let low : length c.args.self.low ≡ 24 = search rules in
    let destination : length c.args.self.destination ≡ 24 = search rules in
    let level : length c.args.self.level ≡ 24 = search rules in
    let held : length c.args.self.held ≡ 24 = search rules in
    record { low = low; destination = destination; level = level; held = held }) in
    let i = c.loop-strike.strike-index in
    let k = c.in-Some.strike in
    let x = with-pins c.args.self.low c.args.self.destination c.loop-strike.level c.loop-strike.held in
    let z : Sized x = subst Sized (sym c.loop-strike.invariant) (struck-sized c.args.self sized i c.args.strikes) in
    rw add-one
    ((elim c.if-p-lt-PINS.branch [
      | then-p-lt-PINS w ↦
          let pin : pin_of k < 24 = subst (λ (p : ℕ). p < 24) c.pin-p.ensures w.if-p-lt-PINS.true in
          rw (w.level-is, w.held-is, w.struck_held.ensures, w.struck_level.ensures, w.is_pulse-pulse.ensures, c.pin-p.ensures) (sym (strike-parts x z k pin))
      | else-p-lt-PINS w ↦
          let above : 24 ≤ pin_of k = subst (λ (p : ℕ). 24 ≤ p) c.pin-p.ensures w.if-p-lt-PINS.false in
          rw (w.level-is, w.held-is) (sym (strike-rests x z k above))
    ])
    ∙ ap (struck_by x) (sym c.in-Some.is)
    ∙ ap (λ (d : Entries). struck_by d (get_or c.args.strikes i None)) c.loop-strike.invariant)

pub returns : goal.returns
returns c =
    let full : c.loop-strike.strike-index ≡ 3 = omega arith in
    c.loop-strike.invariant ∙ ap (λ (n : ℕ). struck n c.args.strikes c.args.self) full
