use Rattle.std.proofs.Common.{ℕ, Bool, cond, not, ◌&&◌, eqb, sym, ap, ◌∙◌, arith}
use Rattle.pins.proofs.Bools.{and_right}
use Rattle.timer.specs.declared.Half.{Half}
use Rattle.timer.specs.Registers.{half_compared_of}
use Rattle.timers.specs.declared.Timers.{Timers}
use Rattle.timers.specs.State.{at, with_timer}
use Rattle.timers.specs.Registers.{numbered, of_timer, is_comparator, written_of}
use Rattle.timers.specs.Inner.{filled_by}
use Rattle.timers.proofs.Stored.{fits-half, not-whole, comparator-from, stored-comparator, stored-written}
use Rattle.timers.proofs.Timers.stored.Goals as goal

-- a half of a comparator
abbrev one : Timers → ℕ → Half → ℕ → Timers
one s o h v = with_timer s (numbered o) (half_compared_of (at s (numbered o)) h v)

pub overflow_cast-value : goal.overflow_cast-value
overflow_cast-value c = omega (arith, fits-half c.args.width c.args.offset c.args.value c.requires.is_aligned c.requires.is_fitting (not-whole c.args.width _ c.if-width-is_comparator.true))

pub half_compared-requires : goal.half_compared-requires
half_compared-requires c = let w = c.args.width in
    comparator-from _ (sym c.is_comparator.ensures ∙ and_right (not (eqb w 8)) _ c.if-width-is_comparator.true)

pub returns-then-width-is_comparator : goal.returns-then-width-is_comparator
returns-then-width-is_comparator c = let a = c.args in
    let is = sym c.is_comparator.ensures ∙ and_right (not (eqb a.width 8)) _ c.if-width-is_comparator.true in
    c.half_compared.ensures
    ∙ (λ i. one a.self (c.whole_at-whole.ensures i) (c.half_at-half.ensures i) a.value)
    ∙ sym (stored-comparator a.self a.width a.offset a.value (not-whole a.width _ c.if-width-is_comparator.true) (ap (λ (p : ℕ). of_timer p && is_comparator p) (sym c.whole_at-whole.ensures) ∙ is))

pub given-requires : goal.given-requires
given-requires c = fits-half c.args.width c.args.offset c.args.value c.requires.is_aligned c.requires.is_fitting

pub returns : goal.returns
returns c = let a = c.args in
    let no = ap (λ (b : Bool). not (eqb a.width 8) && b) (ap (λ (p : ℕ). of_timer p && is_comparator p) (sym c.whole_at-whole.ensures) ∙ sym c.is_comparator.ensures) ∙ c.if-width-is_comparator.false in
    c.written.ensures
    ∙ ap (written_of a.self _) c.given.ensures
    ∙ (λ i. written_of a.self (c.whole_at-whole.ensures i) (cond (eqb a.width 8) a.value (filled_by a.self (c.half_at-half.ensures i) (c.whole_at-whole.ensures i) a.value)))
    ∙ sym (stored-written a.self a.width a.offset a.value c.requires.is_aligned no)
