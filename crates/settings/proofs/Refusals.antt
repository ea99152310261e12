-- The refusals of the reader and of the writer, each exactly when K6 says so, in its order.
use mathlib.Core.Path.{◌≡◌, refl, sym, ap, ◌∙◌}
use mathlib.Core.Bool.{Bool, true, false, cond, not}
use mathlib.Core.List.{List, [], ◌∷◌}
use Prim.Native.Nat.{ℕ}
use native.Mathlib.Omega.{arith}
use lib.Dec.{eqb}
use lib.ListN.{length}
use Rattle.std.proofs.lemmas.Bool.Decides.{nat_tests}
use Rattle.answers.specs.declared.Refusal.{Refusal}
use Rattle.answers.specs.declared.Refusal.TheVariants as refusal
use Rattle.answers.specs.declared.Answer.{Answer}
use Rattle.answers.specs.declared.Answer.TheVariants as answer
use Rattle.answers.specs.Numbers.{number_of, numbers_of}
use Rattle.answers.specs.Order.{Test, test, first_number, Given}
use Rattle.answers.proofs.Order.{only_if, if, Decided, done_decided, refused-decided, later-decided}
use Rattle.answers.proofs.Refused.{answer_number, one-result}
use Rattle.settings.specs.declared.Settings.{Settings}
use Rattle.settings.specs.declared.Reading.{Reading}
use Rattle.settings.specs.Settings.{standard, in_range}
use Rattle.settings.specs.Record.{record_of, marked, form_at, settings_at, reading, unread, read_of, read_tests, write_of, buffer_after, write_tests}
use Rattle.settings.proofs.Told.{Accepted, accepted-if, bad-length, bad-mark, bad-form, bad-number, unwritten, no_place, written}

-- ---- the reader: "Refusals, in order: 8 for any length but 22, 6 for the mark, 9 for an unknown form, 10 for a number
-- out of range; the reader then gives 01's settings."

abbrev DecidedReading : List Test → Reading → Type 0
DecidedReading ts r = Decided Settings ts standard r.settings r.answer

-- a test that fails refuses; one that holds leaves it to those after it
read-then : (n : ℕ) (ts : List Test) (r : Refusal) (t : Reading) (f : Bool) → number_of r ≡ n → DecidedReading ts t → DecidedReading (test n (not f) ∷ ts) (cond (not f) (unread r) t)
read-then n ts r t true e d = later-decided standard (test n false) ts t.settings t.answer refl d
read-then n ts r t false e d = refused-decided standard (test n true) ts r refl e

module _ (s : List ℕ) where
  read-decided : DecidedReading (read_tests s) (read_of s)
  unfolding read_of number_of numbers_of
  read-decided =
      read-then 8 _ refusal.Length _ (eqb (length s) 22) refl
      (read-then 6 _ refusal.Mark _ (marked s) refl
      (read-then 9 _ refusal.Form _ (eqb (form_at s) 1) refl
      (read-then 10 [] refusal.Range (reading (settings_at s) answer.Done) (in_range (settings_at s)) refl (done_decided standard (settings_at s) answer.Done refl))))

  -- a number is answered if and only if its test holds and none before it does
  pub read-number-only-if : (n : ℕ) → answer_number (read_of s).answer ≡ n → Given (read_tests s) n
  read-number-only-if = only_if (read_tests s) (answer_number (read_of s).answer) read-decided.number

  pub read-number-if : (n : ℕ) → Given (read_tests s) n → answer_number (read_of s).answer ≡ n
  read-number-if = if (read_tests s) (answer_number (read_of s).answer) read-decided.number

  pub refused-standard : (answer_number (read_of s).answer ≡ 0 → ⊥) → (read_of s).settings ≡ standard
  refused-standard = read-decided.same

-- ---- the writer: "Writing tests 10, then 8 for a lent buffer of another length, which stays as it came."

module _ (x : Settings) (o : List ℕ) where
  abbrev DecidedWriting : List Test → List ℕ → Answer → Type 0
  DecidedWriting ts b a = Decided (List ℕ) ts o b a

  write_then : (n : ℕ) (ts : List Test) (r : Refusal) (b : List ℕ) (a : Answer) (f : Bool) → number_of r ≡ n → DecidedWriting ts b a → DecidedWriting (test n (not f) ∷ ts) (cond (not f) o b) (cond (not f) (answer.Refused r) a)
  write_then n ts r b a true e d = later-decided o (test n false) ts b a refl d
  write_then n ts r b a false e d = refused-decided o (test n true) ts r refl e

  write-decided : DecidedWriting (write_tests x o) (buffer_after x o) (write_of x o)
  unfolding write_of buffer_after number_of numbers_of
  write-decided =
      write_then 10 _ refusal.Range _ _ (in_range x) refl
      (write_then 8 [] refusal.Length (record_of x) answer.Done (eqb (length o) 22) refl (done_decided o (record_of x) answer.Done refl))

  pub write-number-only-if : (n : ℕ) → answer_number (write_of x o) ≡ n → Given (write_tests x o) n
  write-number-only-if = only_if (write_tests x o) (answer_number (write_of x o)) write-decided.number

  pub write-number-if : (n : ℕ) → Given (write_tests x o) n → answer_number (write_of x o) ≡ n
  write-number-if = if (write_tests x o) (answer_number (write_of x o)) write-decided.number

  pub refused-kept : (answer_number (write_of x o) ≡ 0 → ⊥) → buffer_after x o ≡ o
  refused-kept = write-decided.same

-- ---- each promise decides its call: any two results that it allows are equal

pub one-reading : (s : List ℕ) (r t : Reading) → r ≡ read_of s → t ≡ read_of s → r ≡ t
one-reading s r t = one-result

module _ (x : Settings) (o : List ℕ) where
  abbrev Allowed : Answer → List ℕ → Type 0
  Allowed a b = (a ≡ write_of x o) × (b ≡ buffer_after x o)

  pub one-writing : (a c : Answer) (b d : List ℕ) → Allowed a b → Allowed c d → (a ≡ c) × (b ≡ d)
  one-writing a c b d e f = (one-result e.0 f.0, one-result e.1 f.1)

-- ---- the same in plain words, one refusal at a time

module _ (s : List ℕ) where
  abbrev said : ℕ
  said = answer_number (read_of s).answer

  -- which test gave a number
  first-test : (n : ℕ) → said ≡ n → first_number (read_tests s) ≡ n
  first-test n h = sym (read-decided s).number ∙ h

  -- 8: any length but 22
  pub eight-if : (length s ≡ 22 → ⊥) → read_of s ≡ unread refusal.Length
  eight-if = bad-length s

  pub eight-only-if : said ≡ 8 → length s ≡ 22 → ⊥
  unfolding first_number
  eight-only-if h e = let k = first-test 8 h in grind (arith, nat_tests)

  -- 6: the length is right, and the mark isn't there
  pub six-if : length s ≡ 22 → marked s ≡ false → read_of s ≡ unread refusal.Mark
  six-if = bad-mark s

  pub six-only-if : said ≡ 6 → (length s ≡ 22) × (marked s ≡ false)
  unfolding first_number
  six-only-if h = let k = first-test 6 h in grind (arith, nat_tests)

  -- 9: length and mark are right, and the form isn't 1
  pub nine-if : length s ≡ 22 → marked s ≡ true → (form_at s ≡ 1 → ⊥) → read_of s ≡ unread refusal.Form
  nine-if = bad-form s

  pub nine-only-if : said ≡ 9 → (length s ≡ 22) × (marked s ≡ true) × (form_at s ≡ 1 → ⊥)
  unfolding first_number
  nine-only-if h = let k = first-test 9 h in grind (arith, nat_tests)

  -- 10: all of these are right, and a number is out of range
  pub ten-if : length s ≡ 22 → marked s ≡ true → form_at s ≡ 1 → in_range (settings_at s) ≡ false → read_of s ≡ unread refusal.Range
  ten-if = bad-number s

  pub ten-only-if : said ≡ 10 → (length s ≡ 22) × (marked s ≡ true) × (form_at s ≡ 1) × (in_range (settings_at s) ≡ false)
  unfolding first_number
  ten-only-if h = let k = first-test 10 h in grind (arith, nat_tests)

  -- else the answer is done, and nothing beside it
  pub read_done : said ≡ 0 → (read_of s).answer ≡ answer.Done
  unfolding first_number
  read_done h =
      let k = first-test 0 h in
      let a : Accepted s = grind (arith, nat_tests) in
      ap (λ (r : Reading). r.answer) (accepted-if s a)

module _ (x : Settings) (o : List ℕ) where
  abbrev wrote : ℕ
  wrote = answer_number (write_of x o)

  first-write-test : (n : ℕ) → wrote ≡ n → first_number (write_tests x o) ≡ n
  first-write-test n h = sym (write-decided x o).number ∙ h

  -- 10: a number is out of range
  pub write-ten-if : in_range x ≡ false → (write_of x o ≡ answer.Refused refusal.Range) × (buffer_after x o ≡ o)
  write-ten-if = unwritten x o

  pub write-ten-only-if : wrote ≡ 10 → in_range x ≡ false
  unfolding first_number
  write-ten-only-if h = let k = first-write-test 10 h in grind (arith, nat_tests)

  -- 8: all are in range, and the buffer has another length
  pub write-eight-if : in_range x ≡ true → (length o ≡ 22 → ⊥) → (write_of x o ≡ answer.Refused refusal.Length) × (buffer_after x o ≡ o)
  write-eight-if = no_place x o

  pub write-eight-only-if : wrote ≡ 8 → (in_range x ≡ true) × (length o ≡ 22 → ⊥)
  unfolding first_number
  write-eight-only-if h = let k = first-write-test 8 h in grind (arith, nat_tests)

  pub write_done : wrote ≡ 0 → write_of x o ≡ answer.Done
  unfolding first_number
  write_done h =
      let k = first-write-test 0 h in
      (written x o (grind (arith, nat_tests)) (grind (arith, nat_tests))).0
