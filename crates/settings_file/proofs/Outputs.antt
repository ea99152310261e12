-- What is shown and what is made, by the answers and by the tests of the numbers.
use mathlib.Core.Path.{◌≡◌, refl, sym, ap, subst, ◌∙◌}
use mathlib.Core.List.{List}
use mathlib.Core.Bool.{Bool, true, false, ◌&&◌}
use Prim.Native.Nat.{ℕ, ◌<◌, ◌^◌}
use lib.Dec.{ltb}
use lib.ListN.{length}
use borrow.Author.Tests.{ltb-true, lt-ltb}
use Rattle.std.specs.Prelude.{Option, Some, None, Result, Ok, Err, is_some, OkIff, SomeIff}
use Rattle.std.specs.Option.{unwrap_or}
use Rattle.std.specs.Result.{result_ok}
use Rattle.pins.proofs.Bools.{clash, and_left, and_right, and_both}
use Rattle.answers.specs.declared.Refusal.{Refusal}
use Rattle.answers.specs.declared.Refusal.TheVariants as refusal
use Rattle.lines.specs.Put.{over, Put}
use Rattle.lines.specs.Line.{refused_of}
use Rattle.lines.specs.Listing.{text_of}
use Rattle.lines.proofs.Whole.{whole_same, put_whole}
use Rattle.settings.specs.declared.Settings.{Settings}
use Rattle.settings.specs.declared.Reading.{Reading}
use Rattle.settings.specs.Settings.{in_range}
use Rattle.settings.specs.Record.{record_of, reading_of, read_of, buffer_after}
use Rattle.settings.proofs.Told.{accepted-only-if, written}
use Rattle.settings.proofs.RoundTrip.{read-record}
use Rattle.settings_file.specs.declared.Asked.{Asked}
use Rattle.settings_file.specs.Output.{said_of, shown_of, fits, settings_of, takes, made_of, file_of}

-- ---- what is said of a record, by what is read of it

module _ (s : List ℕ) (x : Result Settings Refusal) (e : reading_of x ≡ read_of s) where
  pub text-shown : (z : Settings) → x ≡ Ok z → text_of z ≡ shown_of s
  unfolding shown_of said_of
  text-shown z is = ap (λ (r : Reading). said_of r.settings r.answer) (sym (ap reading_of is) ∙ e)

  pub refusal-shown : (f : Refusal) → x ≡ Err f → refused_of f ≡ shown_of s
  unfolding shown_of said_of
  refusal-shown f is = ap (λ (r : Reading). said_of r.settings r.answer) (sym (ap reading_of is) ∙ e)

-- ---- the fields

-- each number fits its field
pub record Fits (a : Asked) : Type 0 where
  pub vendor : a.vendor < 65536
  pub period : a.period < 4294967296
  pub mask0 : a.mask0 < 4294967296
  pub mask1 : a.mask1 < 4294967296
  pub mask2 : a.mask2 < 4294967296
  pub id : a.id < 256

pub fits-so : (a : Asked) → fits a ≡ true → Fits a
unfolding fits
fits-so a e =
    let v = ltb a.vendor (2 ^ 16) in
    let p = ltb a.period (2 ^ 32) in
    let x = ltb a.mask0 (2 ^ 32) in
    let y = ltb a.mask1 (2 ^ 32) in
    let z = ltb a.mask2 (2 ^ 32) in
    let i = ltb a.id (2 ^ 8) in
    let e1 = and_right v (p && (x && (y && (z && i)))) e in
    let e2 = and_right p (x && (y && (z && i))) e1 in
    let e3 = and_right x (y && (z && i)) e2 in
    let e4 = and_right y (z && i) e3 in
    record {
      vendor = ltb-true a.vendor (2 ^ 16) (and_left v (p && (x && (y && (z && i)))) e);
      period = ltb-true a.period (2 ^ 32) (and_left p (x && (y && (z && i))) e1);
      mask0 = ltb-true a.mask0 (2 ^ 32) (and_left x (y && (z && i)) e2);
      mask1 = ltb-true a.mask1 (2 ^ 32) (and_left y (z && i) e3);
      mask2 = ltb-true a.mask2 (2 ^ 32) (and_left z i e4);
      id = ltb-true a.id (2 ^ 8) (and_right z i e4);
    }

pub so-fits : (a : Asked) → Fits a → fits a ≡ true
unfolding fits
so-fits a f =
    and_both (lt-ltb a.vendor (2 ^ 16) f.vendor)
    (and_both (lt-ltb a.period (2 ^ 32) f.period)
    (and_both (lt-ltb a.mask0 (2 ^ 32) f.mask0)
    (and_both (lt-ltb a.mask1 (2 ^ 32) f.mask1)
    (and_both (lt-ltb a.mask2 (2 ^ 32) f.mask2) (lt-ltb a.id (2 ^ 8) f.id)))))

-- what a conversion makes of a number that doesn't fit, and of one that fits
pub unfit : {T E : Type 0} (r : Result T E) (P : Type 0) (v : T) (o : Option T) → o ≡ result_ok r → OkIff r P v → o ≡ None → P → ⊥
unfit (Ok x) P v o s k n p = clash (ap is_some (sym s ∙ n))
unfit (Err f) P v o s k n p = k p

pub fit : {T E : Type 0} (r : Result T E) (P : Type 0) (v x : T) (o : Option T) → o ≡ result_ok r → OkIff r P v → o ≡ Some x → P × (x ≡ v)
fit (Ok y) P v x o s k e = (k.0, ap (λ q. unwrap_or q v) (sym e ∙ s) ∙ k.1)
fit (Err f) P v x o s k e = clash (ap is_some (sym e ∙ s))

-- and of no settings
pub none-so : {T : Type 0} (o : Option T) (P : Type 0) (v : T) → o ≡ None → (P → ⊥) → SomeIff o P v
none-so o P v e n = rw e n

pub some-of : {T : Type 0} (o : Option T) (P : Type 0) (v x : T) → SomeIff o P v → o ≡ Some x → P × (x ≡ v)
some-of o P v x k e = subst (λ q. SomeIff q P v) e k

pub none-of : {T : Type 0} (o : Option T) (P : Type 0) (v : T) → SomeIff o P v → o ≡ None → P → ⊥
none-of o P v k e = subst (λ q. SomeIff q P v) e k

pub not-true : (b : Bool) → (b ≡ true → ⊥) → b ≡ false
not-true true n = absurd (n refl)
not-true false n = refl

-- ---- what is taken

module _ (a : Asked) where
  pub by-range : fits a ≡ true → in_range (settings_of a) ≡ takes a
  unfolding takes
  by-range e = rw e

  pub taken-fits : takes a ≡ true → fits a ≡ true
  unfolding takes
  taken-fits e = and_left (fits a) (in_range (settings_of a)) e

  pub taken-ranged : takes a ≡ true → in_range (settings_of a) ≡ true
  unfolding takes
  taken-ranged e = and_right (fits a) (in_range (settings_of a)) e

-- ---- what is made

-- a record that can be read back has 22 bytes
pub long-record : (a : Asked) → takes a ≡ true → length (record_of (settings_of a)) ≡ 22
long-record a e =
    let x = settings_of a in
    (accepted-only-if (record_of x) (ap (λ (r : Reading). r.answer) (read-record x (taken-ranged a e)))).long

module _ (a : Asked) (f o o' : List ℕ) (n : ℕ) where
  pub turned_down : takes a ≡ false → Put (refused_of refusal.Range) o 0 o' n → ((n ≡ length (made_of a)) × (o' ≡ over (made_of a) o)) × ((false ≡ takes a) × (0 ≡ length (file_of a)) × (f ≡ over (file_of a) f))
  unfolding made_of file_of
  turned_down e p =
      let w = put_whole (refused_of refusal.Range) o o' n p in
      ((rw e w.0, rw e w.1), (sym e, rw e, rw e))

  module _ (x : Settings) (s : x ≡ settings_of a) (e : takes a ≡ true) (long : length f ≡ 22) where
    filed : file_of a ≡ record_of x
    unfolding file_of
    filed = rw e (ap record_of (sym s))

    pub whole-made : (f' : List ℕ) → f' ≡ buffer_after x f → Put (text_of x) o 0 o' n → ((n ≡ length (made_of a)) × (o' ≡ over (made_of a) o)) × ((true ≡ takes a) × (f' ≡ file_of a))
    unfolding made_of
    whole-made f' d p =
        let w = whole_same (text_of x) o o' n (made_of a) (rw e (ap text_of s)) (put_whole (text_of x) o o' n p) in
        let r : in_range x ≡ true = ap in_range s ∙ taken-ranged a e in
        (w, (sym e, d ∙ (written x f r long).1 ∙ sym filed))
