-- A loop that fills a list from the front by the values of a function: after i turns it is `tab f 0 i ++ drop i d`.
use mathlib.Core.Path.{◌≡◌, refl, sym, ap, ◌∙◌}
use mathlib.Core.List.{List, [], ◌∷◌, ◌++◌, append-nil}
use Prim.Native.Nat.{ℕ, zero, suc, ◌+◌, ◌<◌}
use native.Mathlib.Nat.{not-suc-le-zero, le_of_suc-le-suc, add-zero, add-suc, suc-add, zero-add, le_of_eq}
use native.Mathlib.Numerals.{add-one}
use lib.ListN.{length, set, drop, get_or, drop_of_length-le}
use Rattle.pins.specs.Pins.{tab}

module _ {A : Type 0} (f : ℕ → A) where
  fill-from : (at n : ℕ) (d : List A) → n < length d → set (tab f at n ++ drop n d) n (f (at + n)) ≡ tab f at (suc n) ++ drop (suc n) d
  unfolding tab
  fill-from at n [] l = absurd (not-suc-le-zero l)
  fill-from at zero (x ∷ d) l = ap (λ (k : ℕ). f k ∷ d) (add-zero at)
  fill-from at (suc n) (x ∷ d) l =
      ap (λ (t : List A). f at ∷ t)
      (ap (λ (k : ℕ). set (tab f (suc at) n ++ drop n d) n (f k)) (add-suc at n ∙ sym (suc-add at n)) ∙ fill-from (suc at) n d (le_of_suc-le-suc l))

  -- a store of f's value at i makes one more
  pub fill_more : (i : ℕ) (d : List A) → i < length d → set (tab f 0 i ++ drop i d) i (f i) ≡ tab f 0 (i + 1) ++ drop (i + 1) d
  fill_more i d l = rw add-one (ap (λ (k : ℕ). set (tab f 0 i ++ drop i d) i (f k)) (sym (zero-add i)) ∙ fill-from 0 i d l)

  here-from : (at n : ℕ) (d : List A) (z : A) → n < length d → get_or (tab f at n ++ drop n d) n z ≡ get_or d n z
  unfolding tab
  here-from at n [] z l = absurd (not-suc-le-zero l)
  here-from at zero (x ∷ d) z l = refl
  here-from at (suc n) (x ∷ d) z l = here-from (suc at) n d z (le_of_suc-le-suc l)

  -- what is there before it is the list's own
  pub fill_here : (i : ℕ) (d : List A) (z : A) → i < length d → get_or (tab f 0 i ++ drop i d) i z ≡ get_or d i z
  fill_here i d z l = here-from 0 i d z l

  -- at the list's length all are f's
  pub fill-all : (n : ℕ) (d : List A) → length d ≡ n → tab f 0 n ++ drop n d ≡ tab f 0 n
  fill-all n d e = ap (λ (t : List A). tab f 0 n ++ t) (drop_of_length-le d (le_of_eq e)) ∙ append-nil (tab f 0 n)

  pub length-tab : (at n : ℕ) → length (tab f at n) ≡ n
  unfolding tab
  length-tab at zero = refl
  length-tab at (suc n) = ap suc (length-tab (suc at) n)

  get_or-from : (at n i : ℕ) (z : A) → i < n → get_or (tab f at n) i z ≡ f (at + i)
  unfolding tab
  get_or-from at zero i z l = absurd (not-suc-le-zero l)
  get_or-from at (suc n) zero z l = ap f (sym (add-zero at))
  get_or-from at (suc n) (suc i) z l = get_or-from (suc at) n i z (le_of_suc-le-suc l) ∙ ap f (suc-add at i ∙ sym (add-suc at i))

  pub get_or-tab : (n i : ℕ) (z : A) → i < n → get_or (tab f 0 n) i z ≡ f i
  get_or-tab n i z l = get_or-from 0 n i z l ∙ ap f (zero-add i)
