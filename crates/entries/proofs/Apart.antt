-- The test of the entries, one kind of part after the other, as the code makes it.
use mathlib.Core.Path.{◌≡◌, refl, sym, ap, ◌∙◌}
use mathlib.Core.Bool.{Bool, true, false, not, ◌&&◌}
use Prim.Native.Nat.{ℕ, zero, suc}
use mir.Val.{bool_byte}
use mathlib.Core.List.{List}
use lib.Dec.{eqb, leb}
use native.Mathlib.Omega.{arith}
use lib.ListN.{get_or}
use borrow.Author.Tests.{lt-leb}
use Rattle.pins.specs.Pins.{every}
use Rattle.pins.proofs.Bools.{and-true, and-false}
use Rattle.pins.proofs.Every.{every-and, every-cong}
use Rattle.entries.specs.declared.Entries.{Entries}
use Rattle.entries.specs.Word.{level_of, word_ok}
use Rattle.entries.specs.Pin.{pin_ok}
use Rattle.entries.specs.Table.{low_at, level_at, held_at, entries_ok, levels_ok}
use Rattle.entries.specs.Inner.{words_ok, edges_ok}

-- the levels of a list, one by one
pub levels-each : (l : List ℕ) → levels_ok l ≡ every (λ i. leb (get_or l i 0) 1)
unfolding levels_ok
levels-each l = refl

-- what is held: no edge on a level pin, and at most 1; both at once
held_fits : (l : Bool) (h : ℕ) → not (l && eqb h 1) && leb h 1 ≡ leb h (bool_byte (not l))
held_fits true zero = refl
held_fits true (suc zero) = refl
held_fits true (suc (suc h)) = rw (lt-leb (suc (suc h)) 1 (omega arith), lt-leb (suc (suc h)) 0 (omega arith)) (and-false (not (eqb (suc (suc h)) 1)))
held_fits false h = refl

pub ok-apart : (e : Entries) → entries_ok e ≡ words_ok e.low && (edges_ok e.low e.held && levels_ok e.level)
unfolding entries_ok pin_ok words_ok edges_ok levels_ok
ok-apart e =
    every-cong (λ i. word i && edge i && level i && held i) (λ i. word i && (both i && level i)) (λ i l. in_order (word i) (edge i) (level i) (held i) ∙ ap (λ (b : Bool). word i && (b && level i)) (held_fits (level_of (low_at e i)) (held_at e i)))
    ∙ every-and word (λ i. both i && level i)
    ∙ ap (λ (b : Bool). every word && b) (every-and both level)
  where
    word : ℕ → Bool
    word i = word_ok (low_at e i)

    edge : ℕ → Bool
    edge i = not (level_of (low_at e i) && eqb (held_at e i) 1)

    level : ℕ → Bool
    level i = leb (level_at e i) 1

    held : ℕ → Bool
    held i = leb (held_at e i) 1

    both : ℕ → Bool
    both i = leb (held_at e i) (bool_byte (not (level_of (low_at e i))))

    in_order : (a b c d : Bool) → a && b && c && d ≡ a && (b && d && c)
    in_order true true true d = sym (and-true d)
    in_order true true false d = sym (and-false d)
    in_order true false c d = refl
    in_order false b c d = refl
