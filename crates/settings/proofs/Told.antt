-- What the reader and the writer say at each of their tests.
use mathlib.Core.Path.{◌≡◌}
use mathlib.Core.Bool.{true, false}
use mathlib.Core.List.{List}
use Prim.Native.Nat.{ℕ}
use native.Mathlib.Omega.{arith}
use lib.ListN.{length}
use borrow.Author.Tests.{eq-eqb, ne_eqb}
use Rattle.std.proofs.lemmas.Bool.Decides.{nat_tests}
use Rattle.answers.specs.declared.Refusal.TheVariants as refusal
use Rattle.answers.specs.declared.Answer.TheVariants as answer
use Rattle.settings.specs.declared.Settings.{Settings}
use Rattle.settings.specs.Settings.{in_range}
use Rattle.settings.specs.Record.{record_of, marked, form_at, settings_at, reading, unread, read_of, write_of, buffer_after}

module _ (s : List ℕ) where
  pub bad-length : (length s ≡ 22 → ⊥) → read_of s ≡ unread refusal.Length
  unfolding read_of
  bad-length h = rw (ne_eqb (length s) 22 h)

  pub bad-mark : length s ≡ 22 → marked s ≡ false → read_of s ≡ unread refusal.Mark
  unfolding read_of
  bad-mark h m = rw (eq-eqb (length s) 22 h, m)

  pub bad-form : length s ≡ 22 → marked s ≡ true → (form_at s ≡ 1 → ⊥) → read_of s ≡ unread refusal.Form
  unfolding read_of
  bad-form h m f = rw (eq-eqb (length s) 22 h, m, ne_eqb (form_at s) 1 f)

  pub bad-number : length s ≡ 22 → marked s ≡ true → form_at s ≡ 1 → in_range (settings_at s) ≡ false → read_of s ≡ unread refusal.Range
  unfolding read_of
  bad-number h m f n = rw (eq-eqb (length s) 22 h, m, eq-eqb (form_at s) 1 f, n)

  pub good : length s ≡ 22 → marked s ≡ true → form_at s ≡ 1 → in_range (settings_at s) ≡ true → read_of s ≡ reading (settings_at s) answer.Done
  unfolding read_of
  good h m f n = rw (eq-eqb (length s) 22 h, m, eq-eqb (form_at s) 1 f, n)

-- a record is accepted exactly when all of this holds of it
pub record Accepted (s : List ℕ) : Type 0 where
  pub long : length s ≡ 22
  pub mark : marked s ≡ true
  pub form : form_at s ≡ 1
  pub ranged : in_range (settings_at s) ≡ true

pub accepted-if : (s : List ℕ) → Accepted s → read_of s ≡ reading (settings_at s) answer.Done
accepted-if s a = good s a.long a.mark a.form a.ranged

pub accepted-only-if : (s : List ℕ) → (read_of s).answer ≡ answer.Done → Accepted s
unfolding read_of
accepted-only-if s h = grind (arith, nat_tests)

module _ (x : Settings) (o : List ℕ) where
  pub unwritten : in_range x ≡ false → (write_of x o ≡ answer.Refused refusal.Range) × (buffer_after x o ≡ o)
  unfolding write_of buffer_after
  unwritten n = (rw n, rw n)

  pub no_place : in_range x ≡ true → (length o ≡ 22 → ⊥) → (write_of x o ≡ answer.Refused refusal.Length) × (buffer_after x o ≡ o)
  unfolding write_of buffer_after
  no_place n h = (rw (n, ne_eqb (length o) 22 h), rw (n, ne_eqb (length o) 22 h))

  pub written : in_range x ≡ true → length o ≡ 22 → (write_of x o ≡ answer.Done) × (buffer_after x o ≡ record_of x)
  unfolding write_of buffer_after
  written n h = (rw (n, eq-eqb (length o) 22 h), rw (n, eq-eqb (length o) 22 h))

-- what is written is in range, and the buffer has its length
pub written-only-if : (x : Settings) (o : List ℕ) → write_of x o ≡ answer.Done → (in_range x ≡ true) × (length o ≡ 22)
unfolding write_of
written-only-if x o h = grind (arith, nat_tests)
