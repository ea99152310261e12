use mathlib.Core.Path.{◌≡◌, sym, ap, subst, ◌∙◌}
use Prim.Native.Nat.{ℕ, ◌<◌, ◌≤◌}
use borrow.Author.Tests.{lt-ltb, le-ltb}
use lib.Bits.{bit_or}
use lib.Count.{count_trailing_zeros}
use Rattle.std.specs.Prelude.{Some}
use Rattle.entries.specs.Table.{first_eligible}
use Rattle.entries.proofs.Keys.{lowest-zeros}
use Rattle.entries.proofs.Entries.first_eligible.Goals as goal

-- the number that is counted, as a law of it speaks of it
counted : (p : ℕ) (r : ℕ) → p ≡ r → count_trailing_zeros 32 (bit_or p 16777216) ≡ count_trailing_zeros 32 (bit_or r 16777216)
counted p r = ap (λ (x : ℕ). count_trailing_zeros 32 (bit_or x 16777216))

pub returns-then-pin-lt-PINS : goal.returns-then-pin-lt-PINS
returns-then-pin-lt-PINS c =
    let e = c.args.self in
    let lowest = counted _ _ c.eligible_pins.ensures ∙ lowest-zeros e in
    ap Some lowest ∙ sym (rw (lt-ltb (first_eligible e) 24 (subst (λ (x : ℕ). x < 24) lowest c.if-pin-lt-PINS.true)))

pub returns-else-pin-lt-PINS : goal.returns-else-pin-lt-PINS
returns-else-pin-lt-PINS c =
    let e = c.args.self in
    let lowest = counted _ _ c.eligible_pins.ensures ∙ lowest-zeros e in
    sym (rw (le-ltb (first_eligible e) 24 (subst (λ (x : ℕ). 24 ≤ x) lowest c.if-pin-lt-PINS.false)))
