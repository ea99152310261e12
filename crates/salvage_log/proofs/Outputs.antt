-- The output, by the length of the log: a longer one is turned down, and for each other one there is room.
use mathlib.Core.Path.{◌≡◌, refl, sym, ap, subst, ◌∙◌}
use mathlib.Core.List.{List}
use mathlib.Core.Bool.{Bool, true, false}
use Prim.Native.Nat.{ℕ, ◌+◌, ◌*◌, ◌<◌, ◌≤◌}
use native.Mathlib.Omega.{arith}
use lib.Dec.{T}
use lib.ListN.{length, drop, length-append}
use borrow.Author.Tests.{lt-ltb, le-ltb}
use Rattle.std.specs.Prelude.{Result, Ok, Err}
use Rattle.answers.specs.declared.Refusal.{Refusal}
use Rattle.lines.specs.Put.{over, Put}
use Rattle.lines.specs.Line.{too_long}
use Rattle.salvage.specs.declared.Kept.{Kept}
use Rattle.salvage.specs.Salvage.{kept_of, records_of, skipped_of, list_of, counts, salvaged_of, kept_after, list_after}
use Rattle.salvage.proofs.Bounds.{kept-most, stretches-most, list_length, skipped-within}
use Rattle.salvage.proofs.Fits.{fits-if}
use Rattle.salvage_log.specs.Output.{takes, report_of, output_of, file_of, list_report}
use Rattle.salvage_log.proofs.Reports.{same-report, report-short}

-- all that the function promises, of the buffers as they came and as they are left
abbrev pub Promised : (s k k' o o' : List ℕ) → Bool → ℕ → ℕ → Type 0
Promised s k k' o o' makes kept text = ((text ≡ length (output_of s)) × (o' ≡ over (output_of s) o)) × ((makes ≡ takes s) × (kept ≡ length (file_of s)) × (k' ≡ over (file_of s) k))

-- ---- at most 262,144 bytes are taken, and of a longer log it prints only `too long` and makes no file

module _ (s : List ℕ) where
  pub too-long : 262144 < length s → (output_of s ≡ too_long) × (takes s ≡ false)
  unfolding output_of
  too-long h = let e = lt-ltb 262144 (length s) h in (rw e, rw e)

  pub turned_down : 262144 < length s → (k o o' : List ℕ) (n : ℕ) → Put too_long o 0 o' n → Promised s k k o o' false 0 n
  unfolding output_of file_of
  turned_down h k o o' n put = let e = lt-ltb 262144 (length s) h in ((rw e put.next, rw e put.holds), (rw e refl, rw e refl, rw e refl))

  module _ (h : length s ≤ 262144) where
    pub taken : output_of s ≡ report_of (skipped_of s) (records_of s)
    unfolding output_of
    taken = rw (le-ltb 262144 (length s) h)

    pub filed : file_of s ≡ kept_of s
    unfolding file_of
    filed = rw (le-ltb 262144 (length s) h)

    pub makes : true ≡ takes s
    makes = rw (le-ltb 262144 (length s) h)

-- ---- what the salvage answered

is_kept : Result Kept Refusal → Bool
is_kept (Ok x) = true
is_kept (Err r) = false

kept_in : Result Kept Refusal → Kept
kept_in (Ok x) = x
kept_in (Err r) = counts 0 0 0

module _ (s k l : List ℕ) (h : length s ≤ 262144) (roomy : 262144 ≤ length k) (wide : 131072 ≤ length l) where
  few : length (skipped_of s) ≤ 65536
  few = omega (arith, stretches-most s)

  fits : (salvaged_of s k l ≡ Ok (counts (records_of s) (length (kept_of s)) (length (skipped_of s)))) × (kept_after s k l ≡ over (kept_of s) k) × (list_after s k l ≡ over (list_of s) l)
  fits = fits-if s k l (omega (arith, kept-most s)) (omega (arith, list_length s, few))

  module _ (r : Result Kept Refusal) (k' l' : List ℕ) (e : r ≡ salvaged_of s k l) (d : k' ≡ kept_after s k l) (f : l' ≡ list_after s k l) where
    -- the salvage is never refused
    pub never : (x : Refusal) → r ≡ Err x → ⊥
    unfolding is_kept
    never x g = subst T (ap is_kept (sym fits.0 ∙ sym e ∙ g)) tt

    module _ (x : Kept) (g : r ≡ Ok x) where
      all : x ≡ counts (records_of s) (length (kept_of s)) (length (skipped_of s))
      unfolding kept_in
      all = ap kept_in (sym g ∙ e ∙ fits.0)

      stretches : x.stretches ≡ length (skipped_of s)
      stretches = ap (λ (y : Kept). y.stretches) all

      listed : l' ≡ over (list_of s) l
      listed = f ∙ fits.2

      report : list_report l' x.stretches x.records ≡ report_of (skipped_of s) (records_of s)
      report =
          ap (λ (n : ℕ). list_report l' n x.records) stretches
          ∙ ap (list_report l' (length (skipped_of s))) (ap (λ (y : Kept). y.records) all)
          ∙ same-report (skipped_of s) l' (drop (length (list_of s)) l) (records_of s) listed

      pub inside : 2 * x.stretches ≤ length l'
      inside = omega (arith, stretches, list_length s, ap length listed, length-append (list_of s) (drop (length (list_of s)) l))

      pub room : (o : List ℕ) → 2162816 ≤ length o → length (list_report l' x.stretches x.records) + 64 ≤ length o
      room o long = omega (arith, few, ap length report, report-short (length s) (omega arith) (skipped_of s) (records_of s) (skipped-within s))

      pub whole : (o o' : List ℕ) (n : ℕ) → (n ≡ length (list_report l' x.stretches x.records)) × (o' ≡ over (list_report l' x.stretches x.records) o) → Promised s k k' o o' true x.bytes n
      whole o o' n told =
          let text : list_report l' x.stretches x.records ≡ output_of s = report ∙ sym (taken s h) in (
            (told.0 ∙ ap length text, told.1 ∙ ap (λ (t : List ℕ). over t o) text),
            (makes s h, ap (λ (y : Kept). y.bytes) all ∙ sym (ap length (filed s h)), d ∙ fits.1 ∙ sym (ap (λ (t : List ℕ). over t k) (filed s h))),
          )
