-- The output, by the reading of the record, the telling's answer and the length of the log.
use mathlib.Core.Path.{◌≡◌, refl, sym, ap, ◌∙◌}
use mathlib.Core.List.{List, []}
use mathlib.Core.Bool.{true, false, ◌&&◌}
use Prim.Native.Nat.{ℕ, ◌<◌, ◌≤◌}
use native.Mathlib.Decide.{dec_lt}
use native.Mathlib.Omega.{arith}
use lib.ListN.{length, take}
use lib.Seq.{length-take-le}
use borrow.Author.Tests.{lt-ltb, le-ltb}
use Rattle.pins.proofs.Bools.{clash}
use Rattle.std.specs.Prelude.{Result, Ok, Err}
use Rattle.answers.specs.declared.Answer.{Answer}
use Rattle.answers.specs.declared.Answer.TheVariants as answer
use Rattle.answers.specs.declared.Refusal.{Refusal}
use Rattle.answers.specs.declared.Refusal.TheVariants as refusal
use Rattle.answers.specs.Numbers.{is_done}
use Rattle.lines.specs.Put.{Put}
use Rattle.lines.specs.Line.{too_long, refused_of}
use Rattle.lines.specs.Listing.{settings_refused_of}
use Rattle.lines.proofs.Whole.{Whole, whole_same, put_whole}
use Rattle.mill.specs.declared.Mill.{Mill}
use Rattle.mill.specs.declared.MillTurn.{MillTurn}
use Rattle.mill.specs.Mill.{reset_to, reset_mill, well_formed, looked_at}
use Rattle.mill.proofs.FromReset.{told-formed, told-done, told-refused}
use Rattle.program.specs.Number.{capped, most}
use Rattle.program.proofs.Numbers.{capped_small, capped-great}
use Rattle.settings.specs.declared.Settings.{Settings}
use Rattle.settings.specs.declared.Reading.{Reading}
use Rattle.settings.specs.Settings.{standard, in_range}
use Rattle.settings.specs.Record.{record_of, marked, form_at, settings_at, reading, reading_of, read_of}
use Rattle.settings.specs.Record.{unread as refusing}
use Rattle.settings.proofs.Ranges.{standard-in-range, read-in-range}
use Rattle.settings.proofs.Told.{Accepted, accepted-if, bad-length, bad-mark, bad-form, bad-number}
use Rattle.settings.proofs.RoundTrip.{read-record}
use Rattle.watch.specs.declared.Watched.{Watched}
use Rattle.watch.specs.Watch.{text_of, watched_of, watched_out}
use Rattle.watch.proofs.Room.{done}
use Rattle.screen.specs.Output.{told_from, played_of, after_telling, output_from, output_of, after_reading, output_with, takes_from, takes_with}

-- ---- a log on a mill

module _ (s : List ℕ) (m : Mill) where
  pub longer : 65536 < length s → (o o' : List ℕ) (n : ℕ) → Put too_long o 0 o' n → Whole (played_of s m) o o' n
  unfolding played_of
  longer h o o' n p = rw (lt-ltb 65536 (length s) h) (put_whole too_long o o' n p)

  taken : length s ≤ 65536 → text_of s m ≡ played_of s m
  unfolding played_of
  taken h = rw (le-ltb 65536 (length s) h)

  -- a buffer of 1,747,680 bytes has room
  pub text :
      length s ≤ 65536 → well_formed m ≡ true → (o o' : List ℕ) → 1747680 ≤ length o → (r : Watched) → r ≡ watched_of s m o → o' ≡ watched_out s m o →
      Whole (played_of s m) o o' r.written
  text h ok o o' room r e d =
      let fits = done s m o ok (omega arith) in
      whole_same (text_of s m) o o' r.written (played_of s m) (taken h) (ap (λ (x : Watched). x.written) (e ∙ sym fits.0), d ∙ sym fits.1)

-- ---- after the telling

-- every answer but a refusal
not-refused : (s : List ℕ) (m : Mill) (a : Answer) → ((x : Refusal) → a ≡ answer.Refused x → ⊥) → after_telling s m a ≡ played_of s m
unfolding after_telling
not-refused s m answer.Done k = refl
not-refused s m (answer.Value v) k = refl
not-refused s m (answer.Fired x y z) k = refl
not-refused s m (answer.Interrupt p v d l) k = refl
not-refused s m answer.Nothing k = refl
not-refused s m (answer.Refused r) k = absurd (k r refl)

pub is-done : (a : Answer) → ((x : Refusal) → a ≡ answer.Refused x → ⊥) → true ≡ is_done a
is-done answer.Done k = refl
is-done (answer.Value v) k = refl
is-done (answer.Fired x y z) k = refl
is-done (answer.Interrupt p v d l) k = refl
is-done answer.Nothing k = refl
is-done (answer.Refused r) k = absurd (k r refl)

module _ (z : Settings) (pin : ℕ) (s : List ℕ) where
  pub told-well : in_range z ≡ true → (t : MillTurn) → t ≡ told_from z pin → well_formed t.mill ≡ true
  told-well h t e = ap (λ (x : MillTurn). well_formed x.mill) e ∙ told-formed z h pin

  by_turn : (t : MillTurn) → t ≡ told_from z pin → after_telling s t.mill t.answer ≡ output_from z pin s
  unfolding output_from
  by_turn t e = ap (λ (x : MillTurn). after_telling s x.mill x.answer) e

  pub turned_down : (t : MillTurn) → t ≡ told_from z pin → (r : Refusal) → t.answer ≡ answer.Refused r → (o o' : List ℕ) (n : ℕ) → Put (refused_of r) o 0 o' n → Whole (output_from z pin s) o o' n
  unfolding after_telling
  turned_down t e r a o o' n p = whole_same (refused_of r) o o' n (output_from z pin s) (sym (ap (after_telling s t.mill) a) ∙ by_turn t e) (put_whole (refused_of r) o o' n p)

  pub accepted : (t : MillTurn) → t ≡ told_from z pin → ((x : Refusal) → t.answer ≡ answer.Refused x → ⊥) → played_of s t.mill ≡ output_from z pin s
  accepted t e k = sym (not-refused s t.mill t.answer k) ∙ by_turn t e

-- document 01's settings
pub by-standard : (pin : ℕ) (s : List ℕ) (z : Settings) → z ≡ standard → output_from z pin s ≡ output_of pin s
by-standard pin s z e = ap (λ (x : Settings). output_from x pin s) e

pub standard-ranged : (z : Settings) → z ≡ standard → in_range z ≡ true
standard-ranged z e = ap in_range e ∙ standard-in-range

-- ---- after the reading

module _ (r : List ℕ) (x : Result Settings Refusal) (e : reading_of x ≡ read_of r) (pin : ℕ) where
  module _ (z : Settings) (is : x ≡ Ok z) where
    found : reading z answer.Done ≡ read_of r
    found = sym (ap reading_of is) ∙ e

    pub read-ranged : in_range z ≡ true
    read-ranged = ap (λ (t : Reading). in_range t.settings) found ∙ read-in-range r

    pub settled : (s : List ℕ) → output_from z pin s ≡ output_with r pin s
    unfolding output_with after_reading
    settled s = ap (λ (t : Reading). after_reading pin s t.settings t.answer) found

    pub by-pin : takes_from z pin ≡ takes_with r pin
    by-pin = ap (λ (t : Reading). is_done t.answer && takes_from t.settings pin) found

  module _ (f : Refusal) (is : x ≡ Err f) where
    refusing-so : refusing f ≡ read_of r
    refusing-so = sym (ap reading_of is) ∙ e

    pub rejected : (s : List ℕ) → settings_refused_of f ≡ output_with r pin s
    unfolding output_with after_reading
    rejected s = ap (λ (t : Reading). after_reading pin s t.settings t.answer) refusing-so

    pub untaken : false ≡ takes_with r pin
    untaken = ap (λ (t : Reading). is_done t.answer && takes_from t.settings pin) refusing-so

-- ---- what that says: any pin above 23 prints `refused 3`, whatever the log; any other prints `too long`, or the text

module _ (z : Settings) (e : in_range z ≡ true) (pin : ℕ) (s : List ℕ) where
  pub above_from : 24 ≤ pin → output_from z pin s ≡ refused_of refusal.Pin
  unfolding output_from after_telling
  above_from h = ap (λ (t : MillTurn). after_telling s t.mill t.answer) (told-refused z e pin h)

  pub at-most-from : pin < 24 → output_from z pin s ≡ played_of s (looked_at (reset_to z) pin)
  unfolding output_from after_telling
  at-most-from h = ap (λ (t : MillTurn). after_telling s t.mill t.answer) (told-done z e pin h)

-- a pin that is not taken needs no log
unread-from : (z : Settings) (pin : ℕ) (s : List ℕ) → takes_from z pin ≡ false → output_from z pin s ≡ output_from z pin []
unfolding output_from after_telling
unread-from z pin s e = by_answer (told_from z pin).mill (told_from z pin).answer e
  where
    by_answer : (m : Mill) (a : Answer) → is_done a ≡ false → after_telling s m a ≡ after_telling [] m a
    by_answer m answer.Done d = clash d
    by_answer m (answer.Value v) d = clash d
    by_answer m (answer.Fired x y w) d = clash d
    by_answer m (answer.Interrupt p v q l) d = clash d
    by_answer m answer.Nothing d = clash d
    by_answer m (answer.Refused r) d = refl

-- a number of more than 64 bits prints what the greatest of 64 bits does, which stands for it
any-number-from : (z : Settings) → in_range z ≡ true → (pin : ℕ) (s : List ℕ) → output_from z (capped pin) s ≡ output_from z pin s
any-number-from z e pin s = by-test (dec_lt pin most)
  where
    by-test : Dec (pin < most) → output_from z (capped pin) s ≡ output_from z pin s
    by-test (yes h) = ap (λ (x : ℕ). output_from z x s) (capped_small pin (omega arith))
    by-test (no h) = ap (λ (x : ℕ). output_from z x s) (capped-great pin (omega arith)) ∙ above_from z e most s (omega arith) ∙ sym (above_from z e pin s (omega arith))

-- ---- without a record

module _ (pin : ℕ) (s : List ℕ) where
  pub above : 24 ≤ pin → output_of pin s ≡ refused_of refusal.Pin
  above = above_from standard standard-in-range pin s

  pub at_most : pin < 24 → output_of pin s ≡ played_of s (looked_at reset_mill pin)
  at_most = at-most-from standard standard-in-range pin s

  pub unread : takes_from standard pin ≡ false → output_of pin s ≡ output_of pin []
  unread = unread-from standard pin s

  pub any-number : output_of (capped pin) s ≡ output_of pin s
  any-number = any-number-from standard standard-in-range pin s

-- ---- with a record: one that is refused prints `settings refused R`, whatever the pin and the log; with any other it is
-- the same with the settings that stand in it

module _ (r : List ℕ) (pin : ℕ) (s : List ℕ) where
  by_read : (t : Reading) → read_of r ≡ t → output_with r pin s ≡ after_reading pin s t.settings t.answer
  unfolding output_with
  by_read t e = ap (λ (x : Reading). after_reading pin s x.settings x.answer) e

  refused-record : (x : Refusal) → read_of r ≡ refusing x → output_with r pin s ≡ settings_refused_of x
  unfolding after_reading
  refused-record x e = by_read (refusing x) e

  pub other_length : (length r ≡ 22 → ⊥) → output_with r pin s ≡ settings_refused_of refusal.Length
  other_length l = refused-record refusal.Length (bad-length r l)

  pub other-mark : length r ≡ 22 → marked r ≡ false → output_with r pin s ≡ settings_refused_of refusal.Mark
  other-mark l m = refused-record refusal.Mark (bad-mark r l m)

  pub other-form : length r ≡ 22 → marked r ≡ true → (form_at r ≡ 1 → ⊥) → output_with r pin s ≡ settings_refused_of refusal.Form
  other-form l m f = refused-record refusal.Form (bad-form r l m f)

  pub out_of_range : length r ≡ 22 → marked r ≡ true → form_at r ≡ 1 → in_range (settings_at r) ≡ false → output_with r pin s ≡ settings_refused_of refusal.Range
  out_of_range l m f n = refused-record refusal.Range (bad-number r l m f n)

  module _ (a : Accepted r) where
    pub accepted-with : output_with r pin s ≡ output_from (settings_at r) pin s
    unfolding after_reading
    accepted-with = by_read _ (accepted-if r a)

    pub above-with : 24 ≤ pin → output_with r pin s ≡ refused_of refusal.Pin
    above-with h = accepted-with ∙ above_from (settings_at r) a.ranged pin s h

    pub at-most-with : pin < 24 → output_with r pin s ≡ played_of s (looked_at (reset_to (settings_at r)) pin)
    at-most-with h = accepted-with ∙ at-most-from (settings_at r) a.ranged pin s h

  -- a record or a pin that is not taken needs no log
  pub unread-with : takes_with r pin ≡ false → output_with r pin s ≡ output_with r pin []
  unfolding output_with after_reading
  unread-with e = by_answer (read_of r).settings (read_of r).answer e
    where
      by_answer : (z : Settings) (a : Answer) → is_done a && takes_from z pin ≡ false → after_reading pin s z a ≡ after_reading pin [] z a
      by_answer z answer.Done d = unread-from z pin s d
      by_answer z (answer.Value v) d = unread-from z pin s d
      by_answer z (answer.Fired x y w) d = unread-from z pin s d
      by_answer z (answer.Interrupt p v q l) d = unread-from z pin s d
      by_answer z answer.Nothing d = unread-from z pin s d
      by_answer z (answer.Refused x) d = refl

  pub any-number-with : output_with r (capped pin) s ≡ output_with r pin s
  unfolding output_with after_reading
  any-number-with = by_answer (read_of r).settings (read-in-range r) (read_of r).answer
    where
      by_answer : (z : Settings) → in_range z ≡ true → (a : Answer) → after_reading (capped pin) s z a ≡ after_reading pin s z a
      by_answer z e answer.Done = any-number-from z e pin s
      by_answer z e (answer.Value v) = any-number-from z e pin s
      by_answer z e (answer.Fired x y w) = any-number-from z e pin s
      by_answer z e (answer.Interrupt p v q l) = any-number-from z e pin s
      by_answer z e answer.Nothing = any-number-from z e pin s
      by_answer z e (answer.Refused x) = refl

-- of a longer record 23 bytes are read, which say as much
pub longer-record : (r : List ℕ) (pin : ℕ) (s : List ℕ) → 22 < length r → output_with (take 23 r) pin s ≡ output_with r pin s
longer-record r pin s h =
    let few : length (take 23 r) ≡ 23 = length-take-le 23 r (omega arith) in
    other_length (take 23 r) pin s (λ e. omega (arith, few, e)) ∙ sym (other_length r pin s (λ e. omega (arith, h, e)))

-- settings in range print what their record does, and document 01's what no record does
module _ (pin : ℕ) (s : List ℕ) where
  pub by-record : (z : Settings) → in_range z ≡ true → output_with (record_of z) pin s ≡ output_from z pin s
  unfolding after_reading
  by-record z e = by_read (record_of z) pin s _ (read-record z e)

  pub as-without : output_with (record_of standard) pin s ≡ output_of pin s
  as-without = by-record standard standard-in-range
