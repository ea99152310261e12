use mathlib.Core.Path.{◌≡◌, refl, sym, ap, ap₂, ◌∙◌}
use mathlib.Core.Bool.{Bool, ◌&&◌, ◌||◌}
use lib.Dec.{eqb, leb}
use lib.ListN.{get_or}
use Prim.Native.Nat.{ℕ}
use mir.Val.{bool_byte}
use native.Mathlib.Omega.{arith}
use Rattle.board.specs.Wires.{high_at}
use Rattle.board.proofs.Rule.{driven-by, high-by}
use Rattle.pins.specs.Pins.{all_from, every}
use Rattle.pins.proofs.Scan.{all_more}
use Rattle.pins.proofs.Every.{every-and, every-cong}
use Rattle.entries.proofs.Apart.{levels-each}
use Rattle.board.proofs.Board.kept.Invariants.{kept_in}
use Rattle.board.proofs.Board.kept.Goals as goal

pub loop-i-init : goal.loop-i-init
unfolding all_from
loop-i-init c = (refl, refl)

pub loop-i-preserved : goal.loop-i-preserved
loop-i-preserved c =
    let l = c.args.self.controller.entries.level in
    let o = c.args.self.outside in
    let i = c.loop-i.i in
    let k = kept_in l o c.unwrap_or-p.result c.unwrap_or-q.result c.unwrap_or-r.result in (
      ap₂ (λ (x y : Bool). x && (leb (get_or o i 0) 1 && eqb (get_or l i 0) (bool_byte (eqb (get_or o i 0) 1 || y))))
          c.loop-i.invariant.0
          (c.reached.ensures ∙ ap (λ (j : ℕ). eqb c.unwrap_or-p.result j || (eqb c.unwrap_or-q.result j || eqb c.unwrap_or-r.result j)) c.loop-i.invariant.1)
          ∙ all_more k i,
      omega (arith, c.loop-i.invariant.1),
    )

pub returns : goal.returns
returns c =
    let l = c.args.self.controller.entries.level in
    let o = c.args.self.outside in
    let k = kept_in l o c.unwrap_or-p.result c.unwrap_or-q.result c.unwrap_or-r.result in
    let fits : ℕ → Bool = λ i. leb (get_or o i 0) 1 in
    let same : ℕ → Bool = λ i. eqb (get_or l i 0) (bool_byte (high_at o c.args.self.timers i)) in
    let full : c.loop-i.i ≡ 24 = omega arith in
    c.loop-i.invariant.0
    ∙ ap (all_from k 0) full
    ∙ every-cong k (λ i. fits i && same i)
    (λ i h. ap (λ (x : Bool). fits i && eqb (get_or l i 0) (bool_byte x)) (high-by o c.args.self.timers _ _ _ (driven-by c.args.self.timers 0 _ _ c.unwrap_or-p.ensures c.driven.ensures) (driven-by c.args.self.timers 1 _ _ c.unwrap_or-q.ensures c.driven-2.ensures) (driven-by c.args.self.timers 2 _ _ c.unwrap_or-r.ensures c.driven-3.ensures) i h))
    ∙ every-and fits same
    ∙ ap (λ (x : Bool). x && every same) (sym (levels-each o))
