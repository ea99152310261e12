-- What steps other than its own writes leave of an entry: bits 11:0 of its low word, and its destination.
use mathlib.Core.Path.{◌≡◌, refl, sym, ap, ◌∙◌}
use mathlib.Core.Bool.{Bool, true, false, cond, ◌&&◌}
use mathlib.Core.List.{List}
use Prim.Native.Nat.{ℕ, ◌+◌, ◌-◌, ◌*◌, ◌/◌, ◌%◌, ◌^◌, ◌<◌}
use native.Mathlib.Omega.{arith}
use native.Mathlib.Decide.{ℕ_discrete}
use lib.Dec.{eqb}
use lib.ListN.{set}
use lib.Seq.{get_or-set_same, get_or-set_other}
use Rattle.pins.proofs.Fill.{get_or-tab}
use Rattle.answers.specs.declared.Answer.TheVariants as answer
use Rattle.entries.specs.declared.Entries.{Entries}
use Rattle.entries.specs.Word.{vector_of, level_of, with_remote, without_remote}
use Rattle.entries.specs.Pin.{ended_word}
use Rattle.entries.specs.Table.{low_at, destination_at, given, with_low, with_held, wired, ended, taken}
use Rattle.entries.proofs.Sized.{Sized}
use Rattle.entries.proofs.ReadBack.{vector-of, logical-of}

pub record Stays (n : ℕ) (before after : Entries) : Type 0 where
  pub low : low_at after n % 2 ^ 12 ≡ low_at before n % 2 ^ 12
  pub destination : destination_at after n ≡ destination_at before n

without-below : (w : ℕ) → (w - w / 16384 % 2 * 16384) % 4096 ≡ w % 4096
without-below w = omega arith

with-below : (w : ℕ) → (w - w / 16384 % 2 * 16384 + 16384) % 4096 ≡ w % 4096
with-below w = omega arith

module _ (n : ℕ) where
  pub stays_same : (e : Entries) → Stays n e e
  stays_same e = record { low = refl; destination = refl }

  pub stays_then : (d e f : Entries) → Stays n d e → Stays n e f → Stays n d f
  stays_then d e f p q = record { low = q.low ∙ p.low; destination = q.destination ∙ p.destination }

  pub wired-stays : (e : Entries) (l : List ℕ) → Stays n e (wired e l)
  unfolding wired
  wired-stays e l = record { low = refl; destination = refl }

  -- what a delivery of it gives stays
  pub stays-given : (e f : Entries) → Stays n e f → given f n ≡ given e n
  stays-given e f s =
      λ i.
      answer.Interrupt n ((sym (vector-of (low_at f n)) ∙ ap (λ (x : ℕ). x % 2 ^ 8) s.low ∙ vector-of (low_at e n)) i) (s.destination i)
      ((sym (logical-of (low_at f n)) ∙ ap (λ (x : ℕ). x / 2 ^ 11) s.low ∙ logical-of (low_at e n)) i)

  module _ (h : n < 24) (e : Entries) (z : Sized e) where
    pub ended-stays : (v : ℕ) → Stays n e (ended e v)
    unfolding ended ended_word without_remote
    ended-stays v = record { low = ap (λ (x : ℕ). x % 2 ^ 12) (get_or-tab (λ i. ended_word (low_at e i) v) 24 n 0 h) ∙ go (level_of (low_at e n) && eqb (vector_of (low_at e n)) v); destination = refl }
      where
        go : (b : Bool) → cond b (without_remote (low_at e n)) (low_at e n) % 2 ^ 12 ≡ low_at e n % 2 ^ 12
        go true = without-below (low_at e n)
        go false = refl

    pub taken-stays : (i : ℕ) → Stays n e (taken e i)
    unfolding taken with_remote
    taken-stays i = go (level_of (low_at e i)) (ℕ_discrete n i)
      where
        go : (b : Bool) → Dec (n ≡ i) → Stays n e (cond b (with_low e (set e.low i (with_remote (low_at e i)))) (with_held e (set e.held i 0)))
        go true (yes q) = record { low = rw (← q) (ap (λ (x : ℕ). x % 2 ^ 12) (get_or-set_same e.low n (with_remote (low_at e n)) 0 (rw z.low h)) ∙ with-below (low_at e n)); destination = refl }
        go true (no d) = record { low = ap (λ (x : ℕ). x % 2 ^ 12) (get_or-set_other e.low i n (with_remote (low_at e i)) 0 d); destination = refl }
        go false q = record { low = refl; destination = refl }
