-- The range of each number, as facts and as the test. Document 01's settings, and whatever a reader gives, are in
-- range.
use mathlib.Core.Path.{◌≡◌, refl}
use mathlib.Core.Bool.{true}
use mathlib.Core.List.{List}
use Prim.Native.Nat.{ℕ, zero, suc, ◌<◌, ◌≤◌}
use native.Mathlib.Omega.{arith}
use Rattle.std.proofs.lemmas.Bool.Decides.{nat_tests}
use Rattle.settings.specs.declared.Settings.{Settings}
use Rattle.settings.specs.Settings.{mask_of, standard, vendor_ok, period_ok, mask_ok, id_ok, in_range}
use Rattle.settings.specs.Record.{read_of}

-- ---- each number

module _ (n : ℕ) where
  pub vendor-in : vendor_ok n ≡ true → n < 65536
  unfolding vendor_ok
  vendor-in e = grind (arith, nat_tests)

  pub vendor-out : n < 65536 → vendor_ok n ≡ true
  unfolding vendor_ok
  vendor-out h = grind (arith, nat_tests)

  pub period-in : period_ok n ≡ true → (1 ≤ n) × (n ≤ 100000000)
  unfolding period_ok
  period-in e = grind (arith, nat_tests)

  pub period-out : 1 ≤ n → n ≤ 100000000 → period_ok n ≡ true
  unfolding period_ok
  period-out l h = grind (arith, nat_tests)

  pub mask-in : mask_ok n ≡ true → (1 ≤ n) × (n < 16777216)
  unfolding mask_ok
  mask-in e = grind (arith, nat_tests)

  pub mask-out : 1 ≤ n → n < 16777216 → mask_ok n ≡ true
  unfolding mask_ok
  mask-out l h = grind (arith, nat_tests)

  pub id-in : id_ok n ≡ true → n ≤ 15
  unfolding id_ok
  id-in e = grind (arith, nat_tests)

  pub id-out : n ≤ 15 → id_ok n ≡ true
  unfolding id_ok
  id-out h = grind (arith, nat_tests)

-- ---- all of them

-- "The period is 1 to 100,000,000, each mask is nonzero and below 2^24, the id is at most 15." The vendor is any number of 16 bits
pub record Ranged (x : Settings) : Type 0 where
  pub vendor : x.vendor < 65536
  pub period : (1 ≤ x.period) × (x.period ≤ 100000000)
  pub mask0 : (1 ≤ x.mask0) × (x.mask0 < 16777216)
  pub mask1 : (1 ≤ x.mask1) × (x.mask1 < 16777216)
  pub mask2 : (1 ≤ x.mask2) × (x.mask2 < 16777216)
  pub id : x.id ≤ 15

module _ (x : Settings) where
  module _ (e : in_range x ≡ true) where
    pub vendor-of : vendor_ok x.vendor ≡ true
    unfolding in_range
    vendor-of = grind (arith, nat_tests)

    pub period-of : period_ok x.period ≡ true
    unfolding in_range
    period-of = grind (arith, nat_tests)

    pub mask-of : (m : ℕ) → mask_ok (mask_of x m) ≡ true
    unfolding in_range
    mask-of zero = grind (arith, nat_tests)
    mask-of (suc zero) = grind (arith, nat_tests)
    mask-of (suc (suc m)) = grind (arith, nat_tests)

    pub id-of : id_ok x.id ≡ true
    unfolding in_range
    id-of = grind (arith, nat_tests)

    pub ranged-in : Ranged x
    ranged-in =
        record {
          vendor = vendor-in x.vendor vendor-of;
          period = period-in x.period period-of;
          mask0 = mask-in x.mask0 (mask-of 0);
          mask1 = mask-in x.mask1 (mask-of 1);
          mask2 = mask-in x.mask2 (mask-of 2);
          id = id-in x.id id-of;
        }

  pub ranged-out : Ranged x → in_range x ≡ true
  unfolding in_range
  ranged-out r = grind (arith, vendor-out, period-out, mask-out, id-out)

-- ---- what is always in range

pub standard-in-range : in_range standard ≡ true
unfolding in_range vendor_ok period_ok mask_ok id_ok
standard-in-range = refl

-- the settings that a reader gives, be the record accepted or refused
pub read-in-range : (s : List ℕ) → in_range (read_of s).settings ≡ true
unfolding read_of
read-in-range s = grind (arith, nat_tests, standard-in-range)
