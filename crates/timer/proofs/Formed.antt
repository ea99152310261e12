-- Well-formedness of one timer: from the test to the facts and back, and what keeps it.
use Rattle.std.proofs.Common.{◌≡◌, ℕ, ◌%◌, ◌^◌, ◌<◌, ◌≤◌, Bool, true, false, ◌&&◌, ◌||◌, eqb, ltb, leb, sym, refl, ap, ◌∙◌, subst, arith, ltb-true, lt-ltb, eq-eqb, ne_eqb, eqb-true, le-leb, leb-true}
use native.Mathlib.Nat.{zero-div}
use native.Mathlib.Decide.{ℕ_discrete}
use borrow.Author.Tests.{eqb-false}
use Rattle.pins.proofs.Bools.{and_left, and_right, and_both, clash}
use Rattle.settings.proofs.Ranges.{mask-in, mask-out}
use Rattle.settings.specs.Settings.{mask_ok}
use Rattle.timer.specs.declared.Timer.{Timer}
use Rattle.timer.specs.Mask.{in_mask}
use Rattle.timer.specs.Formed.{flags_fit, narrow_fits, timer_formed, Formed}
use Rattle.timer.proofs.Masks.{in-pins}

-- ---- one clause: x is 0, or else y holds

unless-in : (x : ℕ) (b : Bool) → (eqb x 0 || b) ≡ true → (x ≡ 0 → ⊥) → b ≡ true
unless-in x b e n = subst (λ (a : Bool). (a || b) ≡ true) (ne_eqb x 0 n) e

unless-out : (x : ℕ) (b : Bool) → ((x ≡ 0 → ⊥) → b ≡ true) → (eqb x 0 || b) ≡ true
unless-out x b f = go (eqb x 0) refl
  where
    go : (a : Bool) → eqb x 0 ≡ a → (a || b) ≡ true
    go true e = refl
    go false e = f (eqb-false x 0 e)

-- ---- the test and the facts

module _ (mask : ℕ) (t : Timer) where
  formed-parts :
      timer_formed mask t ≡ true →
      ((eqb t.set_comparator 0 || eqb t.periodic 1) ≡ true) × (narrow_fits t ≡ true) × (ltb t.route 24 ≡ true) × ((eqb t.status 0 || eqb t.level_type 1) ≡ true) × (flags_fit t ≡ true)
      × (mask_ok mask ≡ true) × (in_mask mask t.route ≡ true)
  unfolding timer_formed
  formed-parts e =
      let set = eqb t.set_comparator 0 || eqb t.periodic 1 in
      let routed = mask_ok mask && in_mask mask t.route in
      let shown = eqb t.status 0 || eqb t.level_type 1 in
      let e1 = and_right set (narrow_fits t && (ltb t.route 24 && (routed && (shown && flags_fit t)))) e in
      let e2 = and_right (narrow_fits t) (ltb t.route 24 && (routed && (shown && flags_fit t))) e1 in
      let e3 = and_right (ltb t.route 24) (routed && (shown && flags_fit t)) e2 in
      let e4 = and_right routed (shown && flags_fit t) e3 in
      let f3 = and_left routed (shown && flags_fit t) e3 in (
        and_left set (narrow_fits t && (ltb t.route 24 && (routed && (shown && flags_fit t)))) e,
        and_left (narrow_fits t) (ltb t.route 24 && (routed && (shown && flags_fit t))) e1,
        and_left (ltb t.route 24) (routed && (shown && flags_fit t)) e2,
        and_left shown (flags_fit t) e4,
        and_right shown (flags_fit t) e4,
        and_left (mask_ok mask) (in_mask mask t.route) f3,
        and_right (mask_ok mask) (in_mask mask t.route) f3,
      )

  flags-in : flags_fit t ≡ true → (t.level_type ≤ 1) × (t.interrupt ≤ 1) × (t.periodic ≤ 1) × (t.set_comparator ≤ 1) × (t.narrow ≤ 1) × (t.status ≤ 1)
  unfolding flags_fit
  flags-in e =
      let e1 = and_right (leb t.level_type 1) (leb t.interrupt 1 && (leb t.periodic 1 && (leb t.set_comparator 1 && (leb t.narrow 1 && leb t.status 1)))) e in
      let e2 = and_right (leb t.interrupt 1) (leb t.periodic 1 && (leb t.set_comparator 1 && (leb t.narrow 1 && leb t.status 1))) e1 in
      let e3 = and_right (leb t.periodic 1) (leb t.set_comparator 1 && (leb t.narrow 1 && leb t.status 1)) e2 in
      let e4 = and_right (leb t.set_comparator 1) (leb t.narrow 1 && leb t.status 1) e3 in (
        leb-true t.level_type 1 (and_left (leb t.level_type 1) (leb t.interrupt 1 && (leb t.periodic 1 && (leb t.set_comparator 1 && (leb t.narrow 1 && leb t.status 1)))) e),
        leb-true t.interrupt 1 (and_left (leb t.interrupt 1) (leb t.periodic 1 && (leb t.set_comparator 1 && (leb t.narrow 1 && leb t.status 1))) e1),
        leb-true t.periodic 1 (and_left (leb t.periodic 1) (leb t.set_comparator 1 && (leb t.narrow 1 && leb t.status 1)) e2),
        leb-true t.set_comparator 1 (and_left (leb t.set_comparator 1) (leb t.narrow 1 && leb t.status 1) e3),
        leb-true t.narrow 1 (and_left (leb t.narrow 1) (leb t.status 1) e4),
        leb-true t.status 1 (and_right (leb t.narrow 1) (leb t.status 1) e4),
      )

  narrow-in : narrow_fits t ≡ true → t.narrow ≡ 1 → (t.comparator < 2 ^ 32) × (t.period < 2 ^ 32)
  unfolding narrow_fits
  narrow-in e n =
      let b = unless-in t.narrow (ltb t.comparator (2 ^ 32) && ltb t.period (2 ^ 32)) e (λ z. omega arith) in (
        ltb-true t.comparator (2 ^ 32) (and_left (ltb t.comparator (2 ^ 32)) (ltb t.period (2 ^ 32)) b),
        ltb-true t.period (2 ^ 32) (and_right (ltb t.comparator (2 ^ 32)) (ltb t.period (2 ^ 32)) b),
      )

  pub formed-in : timer_formed mask t ≡ true → Formed mask t
  formed-in e =
      let p = formed-parts e in
      let f = flags-in p.4 in
      record {
        set-periodic = λ n. eqb-true t.periodic 1 (unless-in t.set_comparator (eqb t.periodic 1) p.0 n);
        comparator-fits = λ n. (narrow-in p.1 n).0;
        period-fits = λ n. (narrow-in p.1 n).1;
        route-pin = ltb-true t.route 24 p.2;
        mask-ok = p.5;
        route-in = p.6;
        status-level = λ n. eqb-true t.level_type 1 (unless-in t.status (eqb t.level_type 1) p.3 n);
        level-bit = f.0;
        interrupt-bit = f.1;
        periodic-bit = f.2;
        set-bit = f.3;
        narrow-bit = f.4;
        status-bit = f.5;
      }

  pub formed-out : Formed mask t → timer_formed mask t ≡ true
  unfolding timer_formed narrow_fits flags_fit
  formed-out z =
      and_both (unless-out t.set_comparator (eqb t.periodic 1) (λ n. eq-eqb t.periodic 1 (z.set-periodic n)))
      (and_both
      (unless-out t.narrow (ltb t.comparator (2 ^ 32) && ltb t.period (2 ^ 32))
      (λ n.
      let one : t.narrow ≡ 1 = bit-one t.narrow z.narrow-bit n in
      and_both (lt-ltb t.comparator (2 ^ 32) (z.comparator-fits one)) (lt-ltb t.period (2 ^ 32) (z.period-fits one))))
      (and_both (lt-ltb t.route 24 z.route-pin)
      (and_both (and_both z.mask-ok z.route-in)
      (and_both (unless-out t.status (eqb t.level_type 1) (λ n. eq-eqb t.level_type 1 (z.status-level n)))
      (and_both (le-leb t.level_type 1 z.level-bit)
      (and_both (le-leb t.interrupt 1 z.interrupt-bit)
      (and_both (le-leb t.periodic 1 z.periodic-bit)
      (and_both (le-leb t.set_comparator 1 z.set-bit) (and_both (le-leb t.narrow 1 z.narrow-bit) (le-leb t.status 1 z.status-bit))))))))))
    where
      bit-one : (x : ℕ) → x ≤ 1 → (x ≡ 0 → ⊥) → x ≡ 1
      bit-one x l n = omega arith

-- ---- as the code tests it

-- a bit that is 1 only beside another is at most that
beside : (x y : ℕ) → x ≤ 1 → ((x ≡ 0 → ⊥) → y ≡ 1) → x ≤ y
beside x y l f = go (ℕ_discrete x 0)
  where
    go : Dec (x ≡ 0) → x ≤ y
    go (yes e) = omega arith
    go (no n) = omega (arith, f n)

-- a mask that has a pin isn't 0
has-ok : (mask p : ℕ) → mask < 2 ^ 24 → in_mask mask p ≡ true → mask_ok mask ≡ true
unfolding in_mask
has-ok mask p l h = mask-out mask (some (ℕ_discrete mask 0)) l
  where
    some : Dec (mask ≡ 0) → 1 ≤ mask
    some (yes e) = clash (sym h ∙ rw e (ap (λ (x : ℕ). eqb (x % 2) 1) (zero-div (2 ^ p))))
    some (no n) = omega arith

abbrev pub tested : ℕ → Timer → Bool
tested mask t =
    (leb t.set_comparator t.periodic && leb t.status t.level_type)
    && (narrow_fits t
    && ((ltb mask (2 ^ 24) && in_mask mask t.route)
    && (leb t.level_type 1 && (leb t.interrupt 1 && (leb t.periodic 1 && leb t.narrow 1)))))

module _ (mask : ℕ) (t : Timer) where
  tested-so : tested mask t ≡ true → Formed mask t
  tested-so e =
      let paired = leb t.set_comparator t.periodic && leb t.status t.level_type in
      let routed = ltb mask (2 ^ 24) && in_mask mask t.route in
      let flags = leb t.level_type 1 && (leb t.interrupt 1 && (leb t.periodic 1 && leb t.narrow 1)) in
      let p = and_left paired (narrow_fits t && (routed && flags)) e in
      let e1 = and_right paired (narrow_fits t && (routed && flags)) e in
      let n = and_left (narrow_fits t) (routed && flags) e1 in
      let e2 = and_right (narrow_fits t) (routed && flags) e1 in
      let r = and_left routed flags e2 in
      let f = and_right routed flags e2 in
      let f1 = and_right (leb t.level_type 1) (leb t.interrupt 1 && (leb t.periodic 1 && leb t.narrow 1)) f in
      let f2 = and_right (leb t.interrupt 1) (leb t.periodic 1 && leb t.narrow 1) f1 in
      let level = leb-true t.level_type 1 (and_left (leb t.level_type 1) (leb t.interrupt 1 && (leb t.periodic 1 && leb t.narrow 1)) f) in
      let periodic = leb-true t.periodic 1 (and_left (leb t.periodic 1) (leb t.narrow 1) f2) in
      let set = leb-true t.set_comparator t.periodic (and_left (leb t.set_comparator t.periodic) (leb t.status t.level_type) p) in
      let status = leb-true t.status t.level_type (and_right (leb t.set_comparator t.periodic) (leb t.status t.level_type) p) in
      let small = ltb-true mask (2 ^ 24) (and_left (ltb mask (2 ^ 24)) (in_mask mask t.route) r) in
      let has = and_right (ltb mask (2 ^ 24)) (in_mask mask t.route) r in
      let ok = has-ok mask t.route small has in
      record {
        set-periodic = λ z. one t.set_comparator t.periodic z set periodic;
        comparator-fits = λ z. (narrow-in mask t n z).0;
        period-fits = λ z. (narrow-in mask t n z).1;
        route-pin = in-pins mask t.route ok has;
        mask-ok = ok;
        route-in = has;
        status-level = λ z. one t.status t.level_type z status level;
        level-bit = level;
        interrupt-bit = leb-true t.interrupt 1 (and_left (leb t.interrupt 1) (leb t.periodic 1 && leb t.narrow 1) f1);
        periodic-bit = periodic;
        set-bit = omega (arith, set, periodic);
        narrow-bit = leb-true t.narrow 1 (and_right (leb t.periodic 1) (leb t.narrow 1) f2);
        status-bit = omega (arith, status, level);
      }
    where
      one : (x y : ℕ) → (x ≡ 0 → ⊥) → x ≤ y → y ≤ 1 → y ≡ 1
      one x y n l k = go (ℕ_discrete x 0)
        where
          go : Dec (x ≡ 0) → y ≡ 1
          go (yes e) = absurd (n e)
          go (no m) = omega arith

  so-tested : timer_formed mask t ≡ true → tested mask t ≡ true
  so-tested e =
      let z = formed-in mask t e in
      and_both
      (and_both (le-leb t.set_comparator t.periodic (beside t.set_comparator t.periodic z.set-bit z.set-periodic))
      (le-leb t.status t.level_type (beside t.status t.level_type z.status-bit z.status-level)))
      (and_both (formed-parts mask t e).1
      (and_both (and_both (lt-ltb mask (2 ^ 24) (mask-in mask z.mask-ok).1) z.route-in)
      (and_both (le-leb t.level_type 1 z.level-bit)
      (and_both (le-leb t.interrupt 1 z.interrupt-bit) (and_both (le-leb t.periodic 1 z.periodic-bit) (le-leb t.narrow 1 z.narrow-bit))))))

  pub tested-is : tested mask t ≡ timer_formed mask t
  tested-is = both_ways (tested mask t) (timer_formed mask t) (λ e. formed-out mask t (tested-so e)) so-tested
    where
      both_ways : (a b : Bool) → (a ≡ true → b ≡ true) → (b ≡ true → a ≡ true) → a ≡ b
      both_ways true b f g = sym (f refl)
      both_ways false true f g = g refl
      both_ways false false f g = refl
