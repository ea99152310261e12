-- "Reading what was written gives the same settings, and every accepted record is written back byte for byte."
-- `Bytes`: a list of bytes is all that the code can have.
use mathlib.Core.Path.{◌≡◌, refl, sym, ap, ◌∙◌}
use mathlib.Core.Bool.{true}
use mathlib.Core.List.{List, [], ◌∷◌, ◌++◌}
use Prim.Native.Nat.{ℕ, ◌+◌, ◌<◌}
use native.Mathlib.Omega.{arith}
use lib.ListN.{length, get_or}
use lib.Seq.{ext_get_or}
use Rattle.std.proofs.lemmas.Bool.Decides.{nat_tests}
use Rattle.answers.specs.declared.Answer.TheVariants as answer
use Rattle.pins.specs.Pins.{tab}
use Rattle.pins.proofs.Fill.{get_or-tab, length-tab}
use Rattle.little_endian.specs.Numbers.{u16_at, u32_at, bytes16, bytes32}
use Rattle.little_endian.proofs.Bytes.{joined16, joined32, bytes-of-u16, bytes-of-u32}
use Rattle.settings.specs.declared.Settings.{Settings}
use Rattle.settings.specs.declared.Reading.{Reading}
use Rattle.settings.specs.Settings.{in_range}
use Rattle.settings.specs.Record.{record_of, marked, form_at, settings_at, reading, read_of, write_of, buffer_after}
use Rattle.settings.proofs.Ranges.{Ranged, ranged-in, read-in-range}
use Rattle.settings.proofs.Told.{Accepted, accepted-if, accepted-only-if, written, written-only-if}

abbrev pub Bytes : List ℕ → Type 0
Bytes s = (i : ℕ) → get_or s i 0 < 256

-- ---- reading what was written

module _ (x : Settings) where
  record-long : length (record_of x) ≡ 22
  unfolding record_of bytes16 bytes32
  record-long = refl

  record-marked : marked (record_of x) ≡ true
  unfolding record_of marked bytes16 bytes32
  record-marked = refl

  record-form : form_at (record_of x) ≡ 1
  unfolding record_of bytes16 bytes32
  record-form = refl

  module _ (r : Ranged x) where
    record-numbers : settings_at (record_of x) ≡ x
    unfolding settings_at record_of u16_at u32_at bytes16 bytes32
    record-numbers =
        let p = joined32 x.period (omega arith) in
        let a = joined32 x.mask0 (omega arith) in
        let b = joined32 x.mask1 (omega arith) in
        let c = joined32 x.mask2 (omega arith) in
        grind (arith, joined16)

pub read-record : (x : Settings) → in_range x ≡ true → read_of (record_of x) ≡ reading x answer.Done
read-record x n =
    let same = record-numbers x (ranged-in x n) in
    accepted-if (record_of x) (record { long = record-long x; mark = record-marked x; form = record-form x; ranged = ap in_range same ∙ n })
    ∙ ap (λ (y : Settings). reading y answer.Done) same

pub read-written : (x : Settings) (o : List ℕ) → write_of x o ≡ answer.Done → read_of (buffer_after x o) ≡ reading x answer.Done
read-written x o h =
    let w = written-only-if x o h in
    ap read_of (written x o w.0 w.1).1 ∙ read-record x w.0

-- ---- writing what was read

-- a list of 22 bytes, byte by byte
bytes_of : (s : List ℕ) → length s ≡ 22 → s ≡ tab (λ i. get_or s i 0) 0 22
bytes_of s e =
    ext_get_or 0 s (tab (λ i. get_or s i 0) 0 22) (e ∙ sym (length-tab (λ i. get_or s i 0) 0 22))
    (λ i l. sym (get_or-tab (λ i. get_or s i 0) 22 i 0 (omega arith)))

module _ (s : List ℕ) (b : Bytes s) where
  word_at : (p : ℕ) → bytes32 (u32_at s p) ≡ get_or s p 0 ∷ get_or s (p + 1) 0 ∷ get_or s (p + 2) 0 ∷ get_or s (p + 3) 0 ∷ []
  word_at p = bytes-of-u32 s p (b p) (b (p + 1)) (b (p + 2)) (b (p + 3))

  pub record-back : Accepted s → record_of (settings_at s) ≡ s
  unfolding record_of settings_at marked tab
  record-back a =
      let m0 : get_or s 0 0 ≡ 0x5A = grind (arith, nat_tests) in
      let m1 : get_or s 1 0 ≡ 0xC3 = grind (arith, nat_tests) in
      let v = bytes-of-u16 s 3 (b 3) (b 4) in
      (λ i. (sym m0 i ∷ sym m1 i ∷ []) ++ (sym a.form i ∷ []) ++ v i ++ word_at 5 i ++ word_at 9 i ++ word_at 13 i ++ word_at 17 i ++ (get_or s 21 0 ∷ [])) ∙ sym (bytes_of s a.long)

  pub written_back : (read_of s).answer ≡ answer.Done → record_of (read_of s).settings ≡ s
  written_back h =
      let a = accepted-only-if s h in
      ap (λ (r : Reading). record_of r.settings) (accepted-if s a) ∙ record-back a

  -- the same, by the writer into a buffer of 22 bytes
  pub write_read : (o : List ℕ) → (read_of s).answer ≡ answer.Done → length o ≡ 22 → (write_of (read_of s).settings o ≡ answer.Done) × (buffer_after (read_of s).settings o ≡ s)
  write_read o h e =
      let w = written (read_of s).settings o (read-in-range s) e in
      (w.0, w.1 ∙ written_back h)
