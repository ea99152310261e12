-- What a delivery, a read and each step do to eligibility and to held edges.
use mathlib.Core.Path.{◌≡◌, refl, sym, ap, ◌∙◌}
use mathlib.Core.Bool.{Bool, true, false, not, cond, ◌&&◌}
use Prim.Native.Nat.{ℕ, ◌+◌, ◌-◌, ◌*◌, ◌/◌, ◌%◌, ◌<◌, ◌≤◌}
use native.Mathlib.Omega.{arith}
use native.Mathlib.Decide.{ℕ_discrete}
use mir.Val.{bool_byte}
use lib.Dec.{eqb}
use lib.ListN.{set}
use lib.Seq.{get_or-set_same, get_or-set_other}
use borrow.Author.Tests.{eq-eqb, ne_eqb}
use Rattle.pins.proofs.Bools.{clash, and-false, and-true}
use Rattle.pins.proofs.First.{First, first-le-24, first_found, first_of, first-none, first-none-of}
use Rattle.entries.specs.declared.Entries.{Entries}
use Rattle.entries.specs.Word.{level_of, remote_of, masked_of, mode_of, with_remote, written, shown}
use Rattle.entries.specs.Pin.{asserted, eligible}
use Rattle.entries.specs.Table.{low_at, level_at, held_at, with_low, with_held, eligible_at, entries_ok, first_eligible, ended, taken, low_shown, low_written}
use Rattle.entries.proofs.Sized.{Sized}
use Rattle.entries.proofs.Written.{level-written}
use Rattle.entries.proofs.Formed.{level-with, pins-good}

-- ---- the lowest-numbered eligible pin

abbrev pub Lowest : Entries → ℕ → Type 0
Lowest e i = First (eligible_at e) i

module _ (e : Entries) where
  pub first-eligible-le : first_eligible e ≤ 24
  unfolding first_eligible
  first-eligible-le = first-le-24 (eligible_at e)

  pub lowest-found : (i : ℕ) → i < 24 → first_eligible e ≡ i → Lowest e i
  unfolding first_eligible
  lowest-found = first_found (eligible_at e)

  pub lowest-of : (i : ℕ) → i < 24 → Lowest e i → first_eligible e ≡ i
  unfolding first_eligible
  lowest-of = first_of (eligible_at e)

  pub none-eligible : first_eligible e ≡ 24 → (j : ℕ) → j < 24 → eligible_at e j ≡ false
  unfolding first_eligible
  none-eligible = first-none (eligible_at e)

  pub none-eligible-of : ((j : ℕ) → j < 24 → eligible_at e j ≡ false) → first_eligible e ≡ 24
  unfolding first_eligible
  none-eligible-of = first-none-of (eligible_at e)

-- ---- a delivery takes its pin out of the eligible ones and leaves the others as they are

set-14 : (w : ℕ) → (w - w / 16384 % 2 * 16384 + 16384) / 16384 % 2 ≡ 1
set-14 w = omega arith

remote-with : (w : ℕ) → remote_of (with_remote w) ≡ true
unfolding remote_of with_remote
remote-with w = rw (set-14 w)

level_out : (w level held : ℕ) → level_of w ≡ true → eligible (with_remote w) level held ≡ false
unfolding eligible
level_out w level held l =
    rw (level-with w ∙ l, remote-with w, and-false (asserted (with_remote w) level)) (and-false (not (masked_of (with_remote w)) && eqb (mode_of (with_remote w)) 0))

edge-out : (w level : ℕ) → level_of w ≡ false → eligible w level 0 ≡ false
unfolding eligible
edge-out w level l = rw l (and-false (not (masked_of w) && eqb (mode_of w) 0))

module _ (e : Entries) (z : Sized e) (i : ℕ) (l : i < 24) where
  pub taken-eligible : (j : ℕ) → eligible_at (taken e i) j ≡ eligible_at e j && not (eqb j i)
  unfolding taken
  taken-eligible j = go (level_of (low_at e i)) refl (ℕ_discrete j i)
    where
      go : (b : Bool) → level_of (low_at e i) ≡ b → Dec (j ≡ i) → eligible_at (cond b (with_low e (set e.low i (with_remote (low_at e i)))) (with_held e (set e.held i 0))) j ≡ eligible_at e j && not (eqb j i)
      go true t (yes q) = rw (eq-eqb j i q, q, get_or-set_same e.low i (with_remote (low_at e i)) 0 (rw z.low l), level_out (low_at e i) (level_at e i) (held_at e i) t) (sym (and-false (eligible_at e i)))
      go true t (no n) = rw (ne_eqb j i n, get_or-set_other e.low i j (with_remote (low_at e i)) 0 n) (sym (and-true (eligible_at e j)))
      go false t (yes q) = rw (eq-eqb j i q, q, get_or-set_same e.held i 0 0 (rw z.held l), edge-out (low_at e i) (level_at e i) t) (sym (and-false (eligible_at e i)))
      go false t (no n) = rw (ne_eqb j i n, get_or-set_other e.held i j 0 0 n) (sym (and-true (eligible_at e j)))

-- ---- held edges: an end of interrupt keeps them all, a delivery those of the other pins, a low-word write those of
-- the other pins and of a pin that it leaves edge

pub ended_held : (e : Entries) (v : ℕ) → (ended e v).held ≡ e.held
unfolding ended
ended_held e v = refl

module _ (e : Entries) (i j : ℕ) (n : j ≡ i → ⊥) where
  pub taken-held : held_at (taken e i) j ≡ held_at e j
  unfolding taken
  taken-held = go (level_of (low_at e i))
    where
      go : (b : Bool) → held_at (cond b (with_low e (set e.low i (with_remote (low_at e i)))) (with_held e (set e.held i 0))) j ≡ held_at e j
      go true = refl
      go false = get_or-set_other e.held i j 0 0 n

  pub low-written-held-other : (v : ℕ) → held_at (low_written e i v) j ≡ held_at e j
  unfolding low_written
  low-written-held-other v = get_or-set_other e.held i j (cond (level_of (written (low_at e i) v)) 0 (held_at e i)) 0 n

pub low-written-held : (e : Entries) → Sized e → (i v : ℕ) → i < 24 → level_of v ≡ false → held_at (low_written e i v) i ≡ held_at e i
unfolding low_written
low-written-held e z i v l t =
    get_or-set_same e.held i (cond (level_of (written (low_at e i) v)) 0 (held_at e i)) 0 (rw z.held l)
    ∙ ap (λ (b : Bool). cond b 0 (held_at e i)) (level-written (low_at e i) v ∙ t)

-- … and these two drop it: a delivery of an edge pin, a low-word write that leaves the pin level

pub taken-held-own : (e : Entries) → Sized e → (i : ℕ) → i < 24 → level_of (low_at e i) ≡ false → held_at (taken e i) i ≡ 0
unfolding taken
taken-held-own e z i l t =
    ap (λ (b : Bool). held_at (cond b (with_low e (set e.low i (with_remote (low_at e i)))) (with_held e (set e.held i 0))) i) t
    ∙ get_or-set_same e.held i 0 0 (rw z.held l)

pub low-written-held-dropped : (e : Entries) → Sized e → (i v : ℕ) → i < 24 → level_of v ≡ true → held_at (low_written e i v) i ≡ 0
unfolding low_written
low-written-held-dropped e z i v l t =
    get_or-set_same e.held i (cond (level_of (written (low_at e i) v)) 0 (held_at e i)) 0 (rw z.held l)
    ∙ ap (λ (b : Bool). cond b 0 (held_at e i)) (level-written (low_at e i) v ∙ t)

-- a pin that holds an edge is an edge pin
pub held-edge : (e : Entries) → entries_ok e ≡ true → (i : ℕ) → i < 24 → held_at e i ≡ 1 → level_of (low_at e i) ≡ false
held-edge e ok i l h = go (level_of (low_at e i)) refl
  where
    go : (b : Bool) → level_of (low_at e i) ≡ b → b ≡ false
    go true t = clash (sym (eq-eqb (held_at e i) 1 h) ∙ (pins-good e ok i l).edge t)
    go false t = refl

-- ---- bit 12 reads 1 exactly for an eligible pin

with-12 : (w : ℕ) → (w - w / 4096 % 2 * 4096 + 4096) / 4096 % 2 ≡ 1
with-12 w = omega arith

pub bit-12 : (e : Entries) → entries_ok e ≡ true → (i : ℕ) → i < 24 → low_shown e i / 4096 % 2 ≡ bool_byte (eligible_at e i)
unfolding low_shown shown
bit-12 e ok i l = go (eligible_at e i)
  where
    go : (b : Bool) → cond b (low_at e i - low_at e i / 4096 % 2 * 4096 + 4096) (low_at e i) / 4096 % 2 ≡ bool_byte b
    go true = with-12 (low_at e i)
    go false = (pins-good e ok i l).status

-- ---- no step but a wire change moves a level

pub ended-level : (e : Entries) (v : ℕ) → (ended e v).level ≡ e.level
unfolding ended
ended-level e v = refl

pub low-written-level : (e : Entries) (n v : ℕ) → (low_written e n v).level ≡ e.level
unfolding low_written
low-written-level e n v = refl

pub taken-level : (e : Entries) (i : ℕ) → (taken e i).level ≡ e.level
unfolding taken
taken-level e i = go (level_of (low_at e i))
  where
    go : (b : Bool) → (cond b (with_low e (set e.low i (with_remote (low_at e i)))) (with_held e (set e.held i 0))).level ≡ e.level
    go true = refl
    go false = refl
