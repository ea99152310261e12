-- Remote IRR (document 02, K4): an edge entry's is 0, and so its bit 14 reads 0; an entry that has it at 0 keeps its
-- word until its delivery or a low-word write to it; if it is level, unmasked and of mode 000, it is eligible exactly
-- while it is asserted.
use mathlib.Core.Path.{◌≡◌, refl, sym, ap, ◌∙◌}
use mathlib.Core.Bool.{Bool, true, false, not, cond, ◌&&◌}
use mathlib.Core.List.{List}
use Prim.Native.Nat.{ℕ, ◌-◌, ◌*◌, ◌/◌, ◌%◌, ◌^◌, ◌<◌}
use native.Mathlib.Omega.{arith}
use native.Mathlib.Decide.{ℕ_discrete}
use lib.Dec.{eqb}
use lib.ListN.{get_or, set}
use lib.Seq.{get_or-set_same, get_or-set_other}
use borrow.Author.Tests.{eqb-false}
use Rattle.pins.proofs.Bools.{and-true}
use Rattle.pins.proofs.Fill.{get_or-tab}
use Rattle.entries.specs.declared.Entries.{Entries}
use Rattle.entries.specs.Word.{vector_of, mode_of, remote_of, level_of, masked_of, with_remote, without_remote, written}
use Rattle.entries.specs.Pin.{asserted, eligible, ended_word}
use Rattle.entries.specs.Table.{low_at, eligible_at, entries_ok, with_low, with_held, wired, ended, taken, low_shown, low_written}
use Rattle.entries.proofs.Sized.{Sized}
use Rattle.entries.proofs.Pulse.{wired-low}
use Rattle.entries.proofs.Written.{level-written, mode-written, active-low-written, masked-written, remote-kept}
use Rattle.entries.proofs.Formed.{pins-good, level-with, level-without}
use Rattle.entries.proofs.ReadBack.{shown-remote, shown-level, low-at}

-- ---- "An edge entry now always reads bit 14 as 0"

is-0 : (w : ℕ) → remote_of w ≡ false → w / 2 ^ 14 % 2 ≡ 0
unfolding remote_of
is-0 w r = let other : w / 16384 % 2 ≡ 1 → ⊥ = eqb-false (w / 16384 % 2) 1 r in omega arith

pub by-bit-15 : (w : ℕ) → w / 2 ^ 15 % 2 ≡ 0 → level_of w ≡ false
unfolding level_of
by-bit-15 w e = ap (λ (x : ℕ). eqb x 1) e

module _ (e : Entries) (ok : entries_ok e ≡ true) (n : ℕ) (l : n < 24) where
  pub edge-remote : level_of (low_at e n) ≡ false → remote_of (low_at e n) ≡ false
  edge-remote = (pins-good e ok n l).remote

  pub edge-reads-0 : low_shown e n / 2 ^ 15 % 2 ≡ 0 → low_shown e n / 2 ^ 14 % 2 ≡ 0
  unfolding low_shown
  edge-reads-0 q =
      let edge : level_of (low_at e n) ≡ false = by-bit-15 (low_at e n) (sym (shown-level (low_at e n) (eligible_at e n)) ∙ q) in
      shown-remote (low_at e n) (eligible_at e n) ∙ is-0 (low_at e n) (edge-remote edge)

-- ---- an entry's trigger, over every step

module _ (p : ℕ) (l : p < 24) where
  pub wired-trigger : (e : Entries) (w : List ℕ) → level_of (low_at (wired e w) p) ≡ level_of (low_at e p)
  wired-trigger e w = ap (λ (x : List ℕ). level_of (get_or x p 0)) (wired-low e w)

  pub ended-trigger : (e : Entries) (v : ℕ) → level_of (low_at (ended e v) p) ≡ level_of (low_at e p)
  unfolding ended ended_word
  ended-trigger e v = ap level_of (get_or-tab (λ i. ended_word (low_at e i) v) 24 p 0 l) ∙ go (level_of (low_at e p) && eqb (vector_of (low_at e p)) v)
    where
      go : (b : Bool) → level_of (cond b (without_remote (low_at e p)) (low_at e p)) ≡ level_of (low_at e p)
      go true = level-without (low_at e p)
      go false = refl

  pub taken-trigger : (e : Entries) → Sized e → (i : ℕ) → level_of (low_at (taken e i) p) ≡ level_of (low_at e p)
  unfolding taken
  taken-trigger e z i = go (level_of (low_at e i)) (ℕ_discrete p i)
    where
      go : (b : Bool) → Dec (p ≡ i) → level_of (low_at (cond b (with_low e (set e.low i (with_remote (low_at e i)))) (with_held e (set e.held i 0))) p) ≡ level_of (low_at e p)
      go true (yes q) = rw (← q) (ap level_of (get_or-set_same e.low p (with_remote (low_at e p)) 0 (rw z.low l)) ∙ level-with (low_at e p))
      go true (no d) = ap level_of (get_or-set_other e.low i p (with_remote (low_at e i)) 0 d)
      go false q = refl

  pub written-trigger : (e : Entries) → Sized e → (v : ℕ) → level_of (low_at (low_written e p v) p) ≡ level_of v
  written-trigger e z v = ap level_of (low-at e z p l v) ∙ level-written (low_at e p) v

-- ---- an entry's word, over the steps that leave it

module _ (e : Entries) (p : ℕ) where
  pub ended-word : p < 24 → (v : ℕ) → remote_of (low_at e p) ≡ false → low_at (ended e v) p ≡ low_at e p
  unfolding ended ended_word without_remote
  ended-word l v r = get_or-tab (λ i. ended_word (low_at e i) v) 24 p 0 l ∙ go (level_of (low_at e p) && eqb (vector_of (low_at e p)) v)
    where
      clear : low_at e p / 16384 % 2 ≡ 0
      clear = is-0 (low_at e p) r

      same : (w : ℕ) → w / 16384 % 2 ≡ 0 → w - w / 16384 % 2 * 16384 ≡ w
      same w q = omega arith

      go : (b : Bool) → cond b (without_remote (low_at e p)) (low_at e p) ≡ low_at e p
      go true = same (low_at e p) clear
      go false = refl

  module _ (i : ℕ) (d : p ≡ i → ⊥) where
    pub taken_word : low_at (taken e i) p ≡ low_at e p
    unfolding taken
    taken_word = go (level_of (low_at e i))
      where
        go : (b : Bool) → low_at (cond b (with_low e (set e.low i (with_remote (low_at e i)))) (with_held e (set e.held i 0))) p ≡ low_at e p
        go true = get_or-set_other e.low i p (with_remote (low_at e i)) 0 d
        go false = refl

    pub written-word : (v : ℕ) → low_at (low_written e i v) p ≡ low_at e p
    unfolding low_written
    written-word v = get_or-set_other e.low i p (written (low_at e i) v) 0 d

-- ---- a level write to an entry with remote IRR 0

-- a value that leaves an entry level, unmasked, with delivery mode 000
pub record Opens (v : ℕ) : Type 0 where
  pub level : v / 2 ^ 15 % 2 ≡ 1
  pub unmasked : v / 2 ^ 16 % 2 ≡ 0
  pub fixed : v / 2 ^ 8 % 2 ^ 3 ≡ 0

module _ (w v : ℕ) (r : remote_of w ≡ false) (o : Opens v) where
  is-level : level_of v ≡ true
  unfolding level_of
  is-level = ap (λ (x : ℕ). eqb x 1) o.level

  not-masked : masked_of v ≡ false
  unfolding masked_of
  not-masked = ap (λ (x : ℕ). eqb x 1) o.unmasked

  in-mode : mode_of v ≡ 0
  unfolding mode_of
  in-mode = o.fixed

  pub opened-remote : remote_of (written w v) ≡ false
  opened-remote = remote-kept w v is-level ∙ r

  -- "level, asserted, remote IRR 0": while the wire differs from bit 13
  pub opened-eligible : (level held : ℕ) → eligible (written w v) level held ≡ not (eqb level (v / 2 ^ 13 % 2))
  unfolding eligible asserted
  opened-eligible level held =
      rw (masked-written w v ∙ not-masked, mode-written w v ∙ in-mode, level-written w v ∙ is-level, opened-remote, active-low-written w v)
      (and-true (not (eqb level (v / 8192 % 2))))
