-- The report by the list's numbers is the report by the stretches, and how long it is.
use mathlib.Core.Path.{◌≡◌, refl, sym, ap, ◌∙◌}
use mathlib.Core.List.{List, [], ◌∷◌, ◌++◌}
use Prim.Native.Nat.{ℕ, ◌+◌, ◌*◌, ◌<◌, ◌≤◌}
use native.Mathlib.Nat.{add-zero}
use native.Mathlib.Omega.{arith}
use lib.ListN.{length, drop, get_or, length-append}
use lib.Seq.{drop-drop, get_or-drop}
use Rattle.lines.specs.Line.{heading_line, skipped_line, kept_line}
use Rattle.lines.proofs.Numbers.{skipped-short, kept-short}
use Rattle.salvage.specs.Salvage.{Stretch, numbers}
use Rattle.salvage.proofs.Bounds.{AllWithin}
use Rattle.salvage.proofs.Lists.{numbers-cons}
use Rattle.salvage_log.specs.Output.{skipped_lines, report_of, list_lines, list_report}

from_list : (ts : List Stretch) (l rest : List ℕ) (i : ℕ) → drop (2 * i) l ≡ numbers ts ++ rest → list_lines l i (length ts) ≡ skipped_lines ts
unfolding list_lines skipped_lines
from_list [] l rest i e = refl
from_list (t ∷ more) l rest i e =
    let here : drop (2 * i) l ≡ t.offset ∷ t.size ∷ (numbers more ++ rest) = e ∙ ap (λ (x : List ℕ). x ++ rest) (numbers-cons t more) in
    let first : get_or l (2 * i) 0 ≡ t.offset = ap (λ (k : ℕ). get_or l k 0) (sym (add-zero (2 * i))) ∙ sym (get_or-drop (2 * i) l 0 0) ∙ ap (λ (x : List ℕ). get_or x 0 0) here in
    let second : get_or l (2 * i + 1) 0 ≡ t.size = sym (get_or-drop (2 * i) l 1 0) ∙ ap (λ (x : List ℕ). get_or x 1 0) here in
    let on : 2 * (i + 1) ≡ 2 * i + 2 = omega arith in
    let later : drop (2 * (i + 1)) l ≡ numbers more ++ rest = ap (λ (k : ℕ). drop k l) on ∙ sym (drop-drop 2 (2 * i) l) ∙ ap (drop 2) here in
    λ j. skipped_line (second j) (first j) ++ from_list more l rest (i + 1) later j

pub same-report : (ts : List Stretch) (l rest : List ℕ) (n : ℕ) → l ≡ numbers ts ++ rest → list_report l (length ts) n ≡ report_of ts n
unfolding list_report report_of
same-report ts l rest n e = ap (λ (x : List ℕ). (heading_line ++ x) ++ kept_line n) (from_list ts l rest 0 e)

-- 33 bytes for each stretch of a log of less than 2^32 bytes
lines-short : (m : ℕ) → m < 4294967296 → (ts : List Stretch) → AllWithin m ts → length (skipped_lines ts) ≤ 33 * length ts
unfolding skipped_lines
lines-short m h [] w = omega arith
lines-short m h (t ∷ more) w = omega (arith, length-append (skipped_line t.size t.offset) (skipped_lines more), skipped-short t.size t.offset (omega (arith, w.0)) (omega (arith, w.0)), lines-short m h more w.1)

pub report-short : (m : ℕ) → m < 4294967296 → (ts : List Stretch) (n : ℕ) → AllWithin m ts → length (report_of ts n) ≤ 33 * length ts + 58
unfolding report_of
report-short m h ts n w = simp length-append (omega (arith, lines-short m h ts w, kept-short n))
