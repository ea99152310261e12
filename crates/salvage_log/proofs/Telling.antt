-- The report being written, line by line.
use mathlib.Core.Path.{◌≡◌, sym, ap, ◌∙◌}
use mathlib.Core.List.{List, ◌++◌, append_assoc, append-nil}
use Prim.Native.Nat.{ℕ, zero, suc, ◌+◌, ◌-◌, ◌*◌, ◌<◌, ◌≤◌}
use native.Mathlib.Nat.{zero-add, add-zero, suc-add}
use native.Mathlib.Omega.{arith}
use lib.ListN.{length, drop, get_or, length-append}
use Rattle.lines.specs.Put.{over, Put}
use Rattle.lines.specs.Line.{heading_line, skipped_line, kept_line}
use Rattle.lines.proofs.Puts.{nothing, put_same, on, long}
use Rattle.salvage_log.specs.Output.{list_lines, list_report}

module _ (l : List ℕ) where
  abbrev pub line_at : ℕ → List ℕ
  line_at i = skipped_line (get_or l (2 * i + 1) 0) (get_or l (2 * i) 0)

  -- the lines of some stretches, and then of more
  split : (a i m : ℕ) → list_lines l a (i + m) ≡ list_lines l a i ++ list_lines l (a + i) m
  unfolding list_lines
  split a zero m = rw (zero-add m, add-zero a)
  split a (suc i) m =
      let on : a + 1 + i ≡ a + suc i = omega arith in
      rw (suc-add i m)
      (ap (λ (x : List ℕ). line_at a ++ x) (split (a + 1) i m ∙ ap (λ (b : ℕ). list_lines l (a + 1) i ++ list_lines l b m) on)
      ∙ sym (append_assoc (line_at a) (list_lines l (a + 1) i) (list_lines l (a + suc i) m)))

  one : (a : ℕ) → list_lines l a 1 ≡ line_at a
  unfolding list_lines
  one a = append-nil (line_at a)

  one_more : (i : ℕ) → list_lines l 0 i ++ line_at i ≡ list_lines l 0 (i + 1)
  one_more i = sym (split 0 i 1 ∙ ap (λ (x : List ℕ). list_lines l 0 i ++ x) (ap (λ (b : ℕ). list_lines l b 1) (zero-add i) ∙ one i))

  no_longer : (i k : ℕ) → i ≤ k → length (list_lines l 0 i) ≤ length (list_lines l 0 k)
  no_longer i k h =
      let all : i + (k - i) ≡ k = omega arith in
      omega (arith, ap length (ap (list_lines l 0) (sym all) ∙ split 0 i (k - i)), length-append (list_lines l 0 i) (list_lines l (0 + i) (k - i)))

  -- the lines of i stretches of k are written after the heading, and there is room for all
  pub record Telling (k n : ℕ) (o₀ : List ℕ) (at₀ : ℕ) (o : List ℕ) (i at : ℕ) : Type 0 where
    pub few : i ≤ k
    pub fits : at₀ + length (list_lines l 0 k) + length (kept_line n) + 64 ≤ length o₀
    pub put : Put (list_lines l 0 i) o₀ at₀ o at

  module _ (k n : ℕ) (o : List ℕ) (fits : length (list_report l k n) + 64 ≤ length o) (o₀ : List ℕ) (at₀ : ℕ) (headed : Put heading_line o 0 o₀ at₀) where
    pub same : length o₀ ≡ length o
    unfolding list_report
    same = long headed (omega (arith, length-append (heading_line ++ list_lines l 0 k) (kept_line n), length-append heading_line (list_lines l 0 k)))

    pub start : Telling k n o₀ at₀ o₀ 0 at₀
    unfolding list_report list_lines
    start = record {
      few = omega arith;
      fits = omega (arith, headed.next, same, length-append (heading_line ++ list_lines l 0 k) (kept_line n), length-append heading_line (list_lines l 0 k));
      put = nothing o₀ at₀;
    }

  module _ (k n : ℕ) (o₀ : List ℕ) (at₀ : ℕ) (o : List ℕ) (i at : ℕ) (g : Telling k n o₀ at₀ o i at) where
    pub alike : length o ≡ length o₀
    alike = long g.put (omega (arith, g.fits, no_longer i k g.few))

    -- the next line finds the 64 bytes that it wants
    pub room : at + 64 ≤ length o
    room = omega (arith, alike, g.fits, g.put.next, no_longer i k g.few)

    pub turn : i < k → (o' : List ℕ) (r : ℕ) → Put (line_at i) o at o' r → Telling k n o₀ at₀ o' (i + 1) r
    turn h o' r put = record {
      few = omega arith;
      fits = g.fits;
      put = put_same (one_more i) (on g.put put (omega (arith, room, alike)));
    }

    pub finish : k ≤ i → (o' : List ℕ) (r : ℕ) → Put (kept_line n) o at o' r → (o'' : List ℕ) → Put heading_line o'' 0 o₀ at₀ → length o₀ ≡ length o'' → (r ≡ length (list_report l k n)) × (o' ≡ over (list_report l k n) o'')
    unfolding list_report
    finish h o' r put o'' headed e =
        let all : i ≡ k = omega (arith, g.few) in
        let lines = put_same (ap (list_lines l 0) all) g.put in
        let whole = on (on headed lines (omega (arith, e, g.fits))) put (omega (arith, e, alike, room)) in
        (whole.next ∙ zero-add (length (list_report l k n)), whole.holds ∙ ap (λ (m : ℕ). list_report l k n ++ drop m o'') (zero-add (length (list_report l k n))))
