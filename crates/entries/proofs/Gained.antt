-- When a pin gains a held edge: "After every step other than a low-word write, each unmasked edge pin that went from
-- not asserted to asserted holds an edge." A step is seen as the entries before and after it.
use mathlib.Core.Path.{◌≡◌, refl, sym, ap, ap₂, ◌∙◌}
use mathlib.Core.Bool.{Bool, true, false, not, cond, ◌&&◌}
use mathlib.Core.List.{List}
use mathlib.Core.Logic.{◌⊎◌, inl, inr}
use Prim.Native.Nat.{ℕ, ◌+◌, ◌-◌, ◌*◌, ◌/◌, ◌%◌, ◌<◌}
use native.Mathlib.Omega.{arith}
use native.Mathlib.Decide.{ℕ_discrete}
use lib.Dec.{eqb}
use lib.ListN.{get_or, set, get_or-replicate}
use lib.Seq.{get_or-set_same, get_or-set_other}
use borrow.Author.Tests.{not-true}
use Rattle.pins.proofs.Bools.{clash, and_left, and_right}
use Rattle.pins.proofs.Fill.{get_or-tab}
use Rattle.entries.specs.declared.Entries.{Entries}
use Rattle.entries.specs.Word.{vector_of, level_of, masked_of, active_low_of, with_remote, without_remote, written}
use Rattle.entries.specs.Pin.{asserted, makes_edge, held_after, ended_word}
use Rattle.entries.specs.Table.{reset_entries, low_at, level_at, held_at, with_low, with_held, wired, ended, taken, low_written}
use Rattle.entries.proofs.Sized.{Sized}
use Rattle.entries.proofs.Pulse.{wired-held}

-- an unmasked edge pin that goes from not asserted to asserted
pub record Rises (p : ℕ) (e e' : Entries) : Type 0 where
  pub unmasked : masked_of (low_at e p) ≡ false
  pub edge : level_of (low_at e p) ≡ false
  pub before : asserted (low_at e p) (level_at e p) ≡ false
  pub after : asserted (low_at e' p) (level_at e' p) ≡ true

-- the pin holds an edge that it didn't hold exactly if it rises
pub record Exact (p : ℕ) (e e' : Entries) : Type 0 where
  pub gained : held_at e' p ≡ 1 → (held_at e p ≡ 1) ⊎ Rises p e e'
  pub made : Rises p e e' → held_at e' p ≡ 1

-- ---- a wire change

module _ (e : Entries) (l : List ℕ) (p : ℕ) (k : p < 24) where
  abbrev w : ℕ
  w = low_at e p

  abbrev x : ℕ
  x = level_at e p

  abbrev y : ℕ
  y = get_or l p 0

  rises : makes_edge w x y ≡ true → Rises p e (wired e l)
  unfolding makes_edge wired
  rises t =
      let a = and_left (not (masked_of w) && not (level_of w) && not (asserted w x)) (asserted w y) t in
      let b = and_left (not (masked_of w) && not (level_of w)) (not (asserted w x)) a in
      record {
        unmasked = not-true (masked_of w) (and_left (not (masked_of w)) (not (level_of w)) b);
        edge = not-true (level_of w) (and_right (not (masked_of w)) (not (level_of w)) b);
        before = not-true (asserted w x) (and_right (not (masked_of w) && not (level_of w)) (not (asserted w x)) a);
        after = and_right (not (masked_of w) && not (level_of w) && not (asserted w x)) (asserted w y) t;
      }

  makes : Rises p e (wired e l) → makes_edge w x y ≡ true
  unfolding makes_edge wired
  makes r = rw (r.unmasked, r.edge, r.before) r.after

  pub wired-exact : Exact p e (wired e l)
  unfolding held_after
  wired-exact = record { gained = λ h. go (makes_edge w x y) refl (sym (wired-held e l p k) ∙ h); made = λ r. wired-held e l p k ∙ ap (λ (b : Bool). cond b 1 (held_at e p)) (makes r) }
    where
      go : (b : Bool) → makes_edge w x y ≡ b → cond b 1 (held_at e p) ≡ 1 → (held_at e p ≡ 1) ⊎ Rises p e (wired e l)
      go true t h = inr (rises t)
      go false t h = inl h

-- ---- any other step moves no wire and no active-low bit, and makes no edge; but a low-word write may move the bit

pub quiet-exact :
    (p : ℕ) (e e' : Entries) → (held_at e' p ≡ 1 → held_at e p ≡ 1) → level_at e' p ≡ level_at e p → active_low_of (low_at e' p) ≡ active_low_of (low_at e p) → Exact p e e'
unfolding asserted
quiet-exact p e e' h l a =
    record {
      gained = λ x. inl (h x);
      made = λ r. clash (sym r.after ∙ ap₂ (λ (x y : ℕ). not (eqb x y)) l a ∙ r.before);
    }

without-13 : (w : ℕ) → (w - w / 16384 % 2 * 16384) / 8192 % 2 ≡ w / 8192 % 2
without-13 w = omega arith

with-13 : (w : ℕ) → (w - w / 16384 % 2 * 16384 + 16384) / 8192 % 2 ≡ w / 8192 % 2
with-13 w = omega arith

ended-low : (w v : ℕ) → active_low_of (ended_word w v) ≡ active_low_of w
unfolding ended_word without_remote
ended-low w v = go (level_of w && eqb (vector_of w) v)
  where
    go : (b : Bool) → active_low_of (cond b (w - w / 16384 % 2 * 16384) w) ≡ active_low_of w
    go true = without-13 w
    go false = refl

pub ended-exact : (e : Entries) (p v : ℕ) → p < 24 → Exact p e (ended e v)
unfolding ended
ended-exact e p v k =
    quiet-exact p e (ended e v) (λ h. h) refl (ap active_low_of (get_or-tab (λ i. ended_word (low_at e i) v) 24 p 0 k) ∙ ended-low (low_at e p) v)

module _ (e : Entries) (z : Sized e) (i : ℕ) (l : i < 24) (p : ℕ) where
  pub taken-exact : Exact p e (taken e i)
  unfolding taken with_remote
  taken-exact = go (level_of (low_at e i)) (ℕ_discrete p i)
    where
      go : (b : Bool) → Dec (p ≡ i) → Exact p e (cond b (with_low e (set e.low i (with_remote (low_at e i)))) (with_held e (set e.held i 0)))
      go true (yes q) =
          quiet-exact p e _ (λ h. h) refl
          (rw q (ap active_low_of (get_or-set_same e.low i (with_remote (low_at e i)) 0 (rw z.low l)) ∙ with-13 (low_at e i)))
      go true (no n) = quiet-exact p e _ (λ h. h) refl (ap active_low_of (get_or-set_other e.low i p (with_remote (low_at e i)) 0 n))
      go false (yes q) = quiet-exact p e _ (λ h. absurd (omega (arith, rw q at h, get_or-set_same e.held i 0 0 (rw z.held l)))) refl refl
      go false (no n) = quiet-exact p e _ (λ h. sym (get_or-set_other e.held i p 0 0 n) ∙ h) refl refl

  -- "A low-word write never makes an edge"
  pub low-written-none : (v : ℕ) → held_at e p ≡ 0 → held_at (low_written e i v) p ≡ 0
  unfolding low_written
  low-written-none v h = go (ℕ_discrete p i) (level_of (written (low_at e i) v))
    where
      go : Dec (p ≡ i) → (b : Bool) → get_or (set e.held i (cond b 0 (held_at e i))) p 0 ≡ 0
      go (yes q) true = rw q (get_or-set_same e.held i 0 0 (rw z.held l))
      go (yes q) false = rw q (get_or-set_same e.held i (held_at e i) 0 (rw z.held l) ∙ ap (held_at e) (sym q) ∙ h)
      go (no n) b = get_or-set_other e.held i p (cond b 0 (held_at e i)) 0 n ∙ h

-- a reset leaves no pin asserted, and no edge held
pub reset-exact : (e : Entries) (p : ℕ) → p < 24 → Exact p e reset_entries
unfolding asserted
reset-exact e p k =
    record {
      gained = λ h. absurd (omega (arith, h, get_or-replicate {A = ℕ} 24 p 0 0 k));
      made = λ r. clash (sym r.after ∙ ap₂ asserted (get_or-replicate {A = ℕ} 24 p 0x10000 0 k) (get_or-replicate {A = ℕ} 24 p 0 0 k));
    }
