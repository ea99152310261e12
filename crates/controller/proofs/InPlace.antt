-- What a low-word write and a delivery come to at their pin, for a state that is changed in place.
use mathlib.Core.Path.{◌≡◌, refl, sym, ap, ◌∙◌}
use mathlib.Core.Bool.{Bool, true, false, not, cond, ◌||◌}
use Prim.Native.Nat.{ℕ, ◌+◌, ◌-◌, ◌*◌, ◌/◌, ◌%◌, ◌^◌, ◌<◌, ◌≤◌}
use native.Mathlib.Omega.{arith}
use native.Mathlib.Decide.{dec_lt}
use lib.Dec.{eqb, leb, ltb}
use borrow.Author.Tests.{not-false, eqb-true, eqb-false, ltb-false, leb-false, lt-ltb, le-ltb, lt-leb, ne_eqb}
use Rattle.std.specs.Prelude.{Option, Some, None}
use Rattle.pins.proofs.Bools.{clash}
use Rattle.answers.specs.declared.Answer.TheVariants as answer
use Rattle.entries.specs.Table.{first_eligible, low_written}
use Rattle.entries.specs.declared.EntryDecision.{EntryDecision}
use Rattle.entries.specs.Decision.{renewed}
use Rattle.entries.proofs.Decided.{delivery-taken, delivery-given, delivery-rests, delivery-none}
use Rattle.controller.specs.declared.Controller.{Controller}
use Rattle.controller.specs.State.{with_entries, turn}
use Rattle.controller.specs.Window.{data_written, writing_of}
use Rattle.controller.specs.Steps.{delivering_of}
use Rattle.controller.specs.Inner.{delivery_of, delivery_if, low_pin}

-- ---- a low-word write

pub none_of : (a b d : Bool) → a || b || d ≡ false → (a ≡ false) × (b ≡ false) × (d ≡ false)
none_of true b d e = clash e
none_of false true d e = clash e
none_of false false true e = clash e
none_of false false false e = (refl, refl, refl)

below : (x : Bool) (n : ℕ) → cond x 24 n < 24 → (x ≡ false) × (n < 24)
below true n l = absurd (omega (arith, l))
below false n l = (refl, l)

module _ (index width offset value : ℕ) where
  abbrev refused : Bool
  refused = not (eqb width 4) || not (eqb offset 0x10) || leb (2 ^ 32) value

  abbrev elsewhere : Bool
  elsewhere = ltb index 0x10 || leb 0x40 index || eqb (index % 2) 1

  module _ (l : low_pin index width offset value < 24) where
    neither : (refused ≡ false) × (elsewhere ≡ false)
    unfolding low_pin
    neither = let x = below refused (cond elsewhere 24 ((index - 0x10) / 2)) l in (x.0, (below elsewhere ((index - 0x10) / 2) x.1).0)

    taken : (not (eqb width 4) ≡ false) × (not (eqb offset 0x10) ≡ false) × (leb (2 ^ 32) value ≡ false)
    taken = none_of (not (eqb width 4)) (not (eqb offset 0x10)) (leb (2 ^ 32) value) neither.0

    here : (ltb index 0x10 ≡ false) × (leb 0x40 index ≡ false) × (eqb (index % 2) 1 ≡ false)
    here = none_of (ltb index 0x10) (leb 0x40 index) (eqb (index % 2) 1) neither.1

    pub low-pin-value : value < 2 ^ 32
    low-pin-value = leb-false (2 ^ 32) value taken.2

module _ (c : Controller) (width offset value : ℕ) (l : low_pin c.index width offset value < 24) where
  pub low-pin-writes : writing_of c width offset value ≡ turn (with_entries c (low_written c.entries (low_pin c.index width offset value) value)) answer.Done
  unfolding writing_of data_written low_pin
  low-pin-writes =
      let i = c.index in
      let t = taken i width offset value l in
      let h = here i width offset value l in
      let from : 0x10 ≤ i = ltb-false i 0x10 h.0 in
      let odd : i % 2 ≡ 1 → ⊥ = eqb-false (i % 2) 1 h.2 in
      let even : (i - 0x10) % 2 ≡ 0 = omega arith in
      rw (
        eqb-true width 4 (not-false (eqb width 4) t.0),
        eqb-true offset 0x10 (not-false (eqb offset 0x10) t.1),
        lt-ltb value (2 ^ 32) (low-pin-value i width offset value l),
        t.2,
        h.0,
        h.1,
        h.2,
        ne_eqb i 0 (λ z. omega arith),
        even,
      )

-- and every write of an entry's low word that is done is one
pub low-pin-entry : (n value : ℕ) → n < 24 → value < 2 ^ 32 → low_pin (0x10 + 2 * n) 4 0x10 value ≡ n
unfolding low_pin
low-pin-entry n value l v =
    let from : 0x10 ≤ 0x10 + 2 * n = omega arith in
    let below : 0x10 + 2 * n < 0x40 = omega (arith, l) in
    let even : (0x10 + 2 * n) % 2 ≡ 1 → ⊥ = λ e. omega (arith, e) in
    let half : (0x10 + 2 * n - 0x10) / 2 ≡ n = omega arith in
    rw (lt-leb (2 ^ 32) value v, le-ltb (0x10 + 2 * n) 0x10 from, lt-leb 0x40 (0x10 + 2 * n) below, ne_eqb ((0x10 + 2 * n) % 2) 1 even) half

-- ---- a delivery

is_some : {A : Type 0} → Option A → Bool
is_some (Some x) = true
is_some None = false

the : {A : Type 0} → A → Option A → A
the y (Some x) = x
the y None = y

pub some-if : {A : Type 0} (b : Bool) (x y : A) → Some y ≡ cond b (Some x) None → y ≡ x
unfolding is_some the
some-if true x y e = ap (the x) e
some-if false x y e = clash (ap is_some e)

pub none-if : {A : Type 0} (b : Bool) (x : A) → None ≡ cond b (Some x) None → b ≡ false
unfolding is_some
none-if true x e = clash (sym (ap is_some e))
none-if false x e = refl

module _ (c : Controller) where
  pub delivering-decided :
      delivering_of c
      ≡ turn (with_entries c (renewed c.entries (delivery_of c c.entries.low c.entries.held))) (delivery_of c c.entries.low c.entries.held).answer
  unfolding delivering_of
  delivering-decided = go (dec_lt (first_eligible c.entries) 24)
    where
      go :
          Dec (first_eligible c.entries < 24) →
          delivering_of c
          ≡ turn (with_entries c (renewed c.entries (delivery_of c c.entries.low c.entries.held))) (delivery_of c c.entries.low c.entries.held).answer
      go (yes l) =
          rw (lt-ltb (first_eligible c.entries) 24 l)
          (λ i. turn (with_entries c (sym (delivery-taken c.entries (first_eligible c.entries) l) i)) (sym (delivery-given c.entries (first_eligible c.entries) l) i))
      go (no q) =
          let above : 24 ≤ first_eligible c.entries = omega arith in
          rw (le-ltb (first_eligible c.entries) 24 above)
          (λ i. turn (with_entries c (sym (delivery-rests c.entries (first_eligible c.entries) above) i)) (sym (delivery-none c.entries (first_eligible c.entries) above) i))

  -- as the code decides it: a pin's, or none
  pub delivering-some : (d : EntryDecision) → Some d ≡ delivery_if c c.entries.low c.entries.held → delivering_of c ≡ turn (with_entries c (renewed c.entries d)) d.answer
  delivering-some d e =
      delivering-decided
      ∙ ap (λ (x : EntryDecision). turn (with_entries c (renewed c.entries x)) x.answer)
      (sym (some-if (ltb (first_eligible c.entries) 24) (delivery_of c c.entries.low c.entries.held) d e))

  pub delivering-none : None ≡ delivery_if c c.entries.low c.entries.held → delivering_of c ≡ turn c answer.Nothing
  unfolding delivering_of
  delivering-none e = rw (none-if (ltb (first_eligible c.entries) 24) (delivery_of c c.entries.low c.entries.held) e)
