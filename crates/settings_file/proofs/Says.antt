-- What that says: a made file shows what was printed of it; `refused 10` stands exactly where a number is too large for
-- its field or out of range; a number of more than 64 bits is such a one; and of a longer file 23 bytes are enough.
use mathlib.Core.Path.{◌≡◌, refl, sym, ap, ◌∙◌}
use mathlib.Core.List.{List, []}
use mathlib.Core.Bool.{Bool, true, false}
use Prim.Native.Nat.{ℕ, ◌<◌, ◌≤◌}
use native.Mathlib.Decide.{dec_le}
use native.Mathlib.Omega.{arith}
use lib.ListN.{length, take}
use lib.Seq.{length-take-le, take_all}
use Rattle.pins.proofs.Bools.{and_both}
use Rattle.answers.specs.declared.Refusal.TheVariants as refusal
use Rattle.lines.specs.Line.{refused_of}
use Rattle.lines.specs.Listing.{text_of}
use Rattle.lines.proofs.Listings.{no-refusal}
use Rattle.program.specs.Number.{capped, most}
use Rattle.program.proofs.Numbers.{capped_small, capped-great}
use Rattle.settings.specs.declared.Reading.{Reading}
use Rattle.settings.specs.Record.{record_of}
use Rattle.settings.proofs.Told.{bad-length}
use Rattle.settings.proofs.Ranges.{Ranged, ranged-in, ranged-out}
use Rattle.settings.proofs.RoundTrip.{read-record}
use Rattle.settings_file.specs.declared.Asked.{Asked}
use Rattle.settings_file.specs.Output.{said_of, shown_of, settings_of, takes, made_of, file_of}
use Rattle.settings_file.proofs.Outputs.{Fits, fits-so, so-fits, taken-fits, taken-ranged, long-record}

-- each number fits its field and is in its range
pub record Sound (a : Asked) : Type 0 where
  pub vendor : a.vendor < 65536
  pub period : (1 ≤ a.period) × (a.period ≤ 100000000)
  pub mask0 : (1 ≤ a.mask0) × (a.mask0 < 16777216)
  pub mask1 : (1 ≤ a.mask1) × (a.mask1 < 16777216)
  pub mask2 : (1 ≤ a.mask2) × (a.mask2 < 16777216)
  pub id : a.id ≤ 15

module _ (a : Asked) where
  ranged : Sound a → Ranged (settings_of a)
  ranged s = record { vendor = s.vendor; period = s.period; mask0 = s.mask0; mask1 = s.mask1; mask2 = s.mask2; id = s.id }

  pub taken-if : Sound a → takes a ≡ true
  unfolding takes
  taken-if s =
      let f : Fits a = record {
        vendor = s.vendor;
        period = omega (arith, s.period);
        mask0 = omega (arith, s.mask0);
        mask1 = omega (arith, s.mask1);
        mask2 = omega (arith, s.mask2);
        id = omega (arith, s.id);
      } in
      and_both (so-fits a f) (ranged-out (settings_of a) (ranged s))

  pub taken-only-if : takes a ≡ true → Sound a
  taken-only-if e =
      let f = fits-so a (taken-fits a e) in
      let r = ranged-in (settings_of a) (taken-ranged a e) in
      record { vendor = f.vendor; period = r.period; mask0 = r.mask0; mask1 = r.mask1; mask2 = r.mask2; id = r.id }

  refused-so : takes a ≡ false → (made_of a ≡ refused_of refusal.Range) × (file_of a ≡ [])
  unfolding made_of file_of
  refused-so e = (rw e, rw e)

  -- ---- `refused 10` and no file

  pub refused-10 : (Sound a → ⊥) → (made_of a ≡ refused_of refusal.Range) × (file_of a ≡ [])
  refused-10 n = by-test (takes a) refl
    where
      by-test : (b : Bool) → takes a ≡ b → (made_of a ≡ refused_of refusal.Range) × (file_of a ≡ [])
      by-test true e = absurd (n (taken-only-if e))
      by-test false e = refused-so e

  -- ---- or the text and the record

  pub made : Sound a → (made_of a ≡ text_of (settings_of a)) × (file_of a ≡ record_of (settings_of a)) × (length (file_of a) ≡ 22)
  unfolding made_of file_of
  made s = let e = taken-if s in (rw e, rw e, rw e (long-record a e))

  -- show says the same numbers
  pub shown-again : Sound a → shown_of (file_of a) ≡ made_of a
  unfolding shown_of said_of
  shown-again s =
      ap shown_of (made s).1
      ∙ ap (λ (r : Reading). said_of r.settings r.answer) (read-record (settings_of a) (ranged-out (settings_of a) (ranged s)))
      ∙ sym (made s).0

pub only-refused-10 : (a : Asked) → made_of a ≡ refused_of refusal.Range → Sound a → ⊥
only-refused-10 a e s = no-refusal (settings_of a) refusal.Range (sym (made a s).0 ∙ e)

-- ---- an argument's number is capped at 64 bits, which changes nothing

abbrev pub capped_of : Asked → Asked
capped_of a = record { vendor = capped a.vendor; period = capped a.period; mask0 = capped a.mask0; mask1 = capped a.mask1; mask2 = capped a.mask2; id = capped a.id }

uncapped : (n k : ℕ) → capped n ≤ k → k < most → capped n ≡ n
uncapped n k h l = by-test (dec_le n most)
  where
    by-test : Dec (n ≤ most) → capped n ≡ n
    by-test (yes j) = capped_small n j
    by-test (no j) = absurd (omega (arith, h, l, capped-great n (omega arith)))

module _ (a : Asked) where
  same_if : Sound (capped_of a) → capped_of a ≡ a
  same_if s =
      let v = uncapped a.vendor 65535 (omega (arith, s.vendor)) (omega arith) in
      let p = uncapped a.period 100000000 s.period.1 (omega arith) in
      let x = uncapped a.mask0 16777215 (omega (arith, s.mask0)) (omega arith) in
      let y = uncapped a.mask1 16777215 (omega (arith, s.mask1)) (omega arith) in
      let z = uncapped a.mask2 16777215 (omega (arith, s.mask2)) (omega arith) in
      let d = uncapped a.id 15 s.id (omega arith) in
      λ i. record { vendor = v i; period = p i; mask0 = x i; mask1 = y i; mask2 = z i; id = d i }

  small : Sound a → capped_of a ≡ a
  small s =
      let v = capped_small a.vendor (omega (arith, s.vendor)) in
      let p = capped_small a.period (omega (arith, s.period)) in
      let x = capped_small a.mask0 (omega (arith, s.mask0)) in
      let y = capped_small a.mask1 (omega (arith, s.mask1)) in
      let z = capped_small a.mask2 (omega (arith, s.mask2)) in
      let d = capped_small a.id (omega (arith, s.id)) in
      λ i. record { vendor = v i; period = p i; mask0 = x i; mask1 = y i; mask2 = z i; id = d i }

  pub any-numbers : (made_of (capped_of a) ≡ made_of a) × (file_of (capped_of a) ≡ file_of a)
  any-numbers = by_tests (takes (capped_of a)) (takes a) refl refl
    where
      both : capped_of a ≡ a → (made_of (capped_of a) ≡ made_of a) × (file_of (capped_of a) ≡ file_of a)
      both e = (ap made_of e, ap file_of e)

      by_tests : (b c : Bool) → takes (capped_of a) ≡ b → takes a ≡ c → (made_of (capped_of a) ≡ made_of a) × (file_of (capped_of a) ≡ file_of a)
      by_tests true c e f = both (same_if (taken-only-if (capped_of a) e))
      by_tests false true e f = both (small (taken-only-if a f))
      by_tests false false e f = ((refused-so (capped_of a) e).0 ∙ sym (refused-so a f).0, (refused-so (capped_of a) e).1 ∙ sym (refused-so a f).1)

-- ---- a file of another length

module _ (s : List ℕ) where
  pub other_length : (length s ≡ 22 → ⊥) → shown_of s ≡ refused_of refusal.Length
  unfolding shown_of said_of
  other_length n = ap (λ (r : Reading). said_of r.settings r.answer) (bad-length s n)

-- of a longer one 23 bytes are read, which are enough
pub cut_off : (s : List ℕ) → shown_of (take 23 s) ≡ shown_of s
cut_off s = by-test (dec_le (length s) 23)
  where
    by-test : Dec (length s ≤ 23) → shown_of (take 23 s) ≡ shown_of s
    by-test (yes l) = ap shown_of (take_all 23 s l)
    by-test (no l) =
        let some : length (take 23 s) ≡ 23 = length-take-le 23 s (omega arith) in
        other_length (take 23 s) (λ e. absurd (omega (arith, some, e))) ∙ sym (other_length s (λ e. absurd (omega (arith, l, e))))
