-- A screen that fits its board, as facts by name, and the laws between these and the test.
use Prim.Native.Nat.{ℕ, zero, suc, ◌≤◌}
use native.Mathlib.Omega.{arith}
use mathlib.Core.Path.{◌≡◌, refl, sym, subst}
use mathlib.Core.Bool.{Bool, true, false, cond, not, ◌&&◌, ◌||◌}
use mathlib.Core.List.{List}
use lib.Dec.{eqb, leb}
use borrow.Author.Tests.{eqb-true, le-leb, leb-true}
use Rattle.pins.proofs.Bools.{and_left, and_right, not-both}
use Rattle.mill.specs.declared.Screen.{Screen}
use Rattle.mill.specs.Screen.{running, asked, taken, paused, blank, holds_in, fits_blank, fits_told, fits}

-- a screen with pin p, in a word, with a vector
abbrev pub screen : ℕ → ℕ → ℕ → Screen
screen p w v = record { told = 1; pin = p; word = w; vector = v }

-- how a screen fits a board that holds these edges: it is blank, or in one of the four words
pub data Fits (held : List ℕ) : Screen → Type 0 where
  untold : Fits held blank
  runs : (p : ℕ) → p ≤ 23 → holds_in held p ≡ false → Fits held (screen p running 0)
  asks : (p : ℕ) → p ≤ 23 → Fits held (screen p asked 0)
  takes : (p v : ℕ) → p ≤ 23 → v ≤ 255 → Fits held (screen p taken v)
  pauses : (p v : ℕ) → p ≤ 23 → v ≤ 255 → Fits held (screen p paused v)

module _ (held : List ℕ) where
  pub fits_out : (s : Screen) → Fits held s → fits s held ≡ true
  unfolding fits
  fits_out _ untold = refl
  fits_out _ (runs p l h) = rw (le-leb p 23 l, h)
  fits_out _ (asks p l) = rw (le-leb p 23 l)
  fits_out _ (takes p v l k) = rw (le-leb p 23 l, le-leb v 255 k)
  fits_out _ (pauses p v l k) = rw (le-leb p 23 l, le-leb v 255 k)

-- ---- back from the test

pub data Word : ℕ → Type 0 where
  is-running : Word running
  is-asked : Word asked
  is-taken : Word taken
  is-paused : Word paused

word_of : (w : ℕ) → w ≤ paused → Word w
word_of zero l = is-running
word_of (suc zero) l = is-asked
word_of (suc (suc zero)) l = is-taken
word_of (suc (suc (suc zero))) l = is-paused
word_of (suc (suc (suc (suc n)))) l = absurd (omega arith)

module _ (held : List ℕ) (p w v : ℕ) where
  abbrev known : Bool
  known = leb p 23 && (leb w paused && leb v 255)

  abbrev rest : Bool
  rest = (leb taken w || eqb v 0) && not (eqb w running && holds_in held p)

  -- a screen with a pin
  fits_word : Word w → known ≡ true → rest ≡ true → Fits held (screen p w v)
  fits_word x k r = go x (leb-true p 23 (and_left (leb p 23) (leb w paused && leb v 255) k)) (leb-true v 255 (and_right (leb w paused) (leb v 255) (and_right (leb p 23) (leb w paused && leb v 255) k))) (and_left (leb taken w || eqb v 0) (not (eqb w running && holds_in held p)) r) (and_right (leb taken w || eqb v 0) (not (eqb w running && holds_in held p)) r)
    where
      go : {u : ℕ} → Word u → p ≤ 23 → v ≤ 255 → leb taken u || eqb v 0 ≡ true → not (eqb u running && holds_in held p) ≡ true → Fits held (screen p u v)
      go is-running l b n h = subst (λ (y : ℕ). Fits held (screen p running y)) (sym (eqb-true v 0 n)) (runs p l (not-both true (holds_in held p) h refl))
      go is-asked l b n h = subst (λ (y : ℕ). Fits held (screen p asked y)) (sym (eqb-true v 0 n)) (asks p l)
      go is-taken l b n h = takes p v l b
      go is-paused l b n h = pauses p v l b

module _ (held : List ℕ) (s : Screen) where
  fits-blank : eqb s.told 0 ≡ true → fits_blank s ≡ true → Fits held s
  fits-blank t e =
      let words = and_right (eqb s.pin 0) (eqb s.word running && eqb s.vector 0) e in
      let told_is = eqb-true s.told 0 t in
      let pin-is = eqb-true s.pin 0 (and_left (eqb s.pin 0) (eqb s.word running && eqb s.vector 0) e) in
      let word-is = eqb-true s.word running (and_left (eqb s.word running) (eqb s.vector 0) words) in
      let vector-is = eqb-true s.vector 0 (and_right (eqb s.word running) (eqb s.vector 0) words) in
      let same : s ≡ blank = λ i. record { told = told_is i; pin = pin-is i; word = word-is i; vector = vector-is i } in
      subst (Fits held) (sym same) untold

  abbrev numbered : Bool
  numbered = leb s.pin 23 && (leb s.word paused && leb s.vector 255)

  abbrev fitting : Bool
  fitting = (leb taken s.word || eqb s.vector 0) && not (eqb s.word running && holds_in held s.pin)

  fits_told_lem : fits_told s held ≡ true → Fits held s
  fits_told_lem e =
      let all = and_left (eqb s.told 1 && numbered) fitting e in
      let told_is = eqb-true s.told 1 (and_left (eqb s.told 1) numbered all) in
      let k = and_right (eqb s.told 1) numbered all in
      let few = leb-true s.word paused (and_left (leb s.word paused) (leb s.vector 255) (and_right (leb s.pin 23) (leb s.word paused && leb s.vector 255) k)) in
      let same : s ≡ screen s.pin s.word s.vector = λ i. record { told = told_is i; pin = s.pin; word = s.word; vector = s.vector } in
      subst (Fits held) (sym same)
      (fits_word held s.pin s.word s.vector (word_of s.word few) k (and_right (eqb s.told 1 && numbered) fitting e))

  pub fits_in : fits s held ≡ true → Fits held s
  unfolding fits
  fits_in e = go (eqb s.told 0) refl e
    where
      go : (x : Bool) → eqb s.told 0 ≡ x → cond x (fits_blank s) (fits_told s held) ≡ true → Fits held s
      go true t e = fits-blank t e
      go false t e = fits_told_lem e
