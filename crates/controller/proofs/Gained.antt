-- When a pin gains a held edge: after every step other than a low-word write, exactly if it is an unmasked edge pin
-- that went from not asserted to asserted; after a low-word write, never.
use mathlib.Core.Path.{◌≡◌, refl, sym, subst}
use mathlib.Core.Bool.{Bool, true, false, cond, ◌||◌}
use Prim.Native.Nat.{ℕ, ◌+◌, ◌-◌, ◌*◌, ◌/◌, ◌%◌, ◌^◌, ◌<◌}
use native.Mathlib.Omega.{arith}
use lib.Dec.{eqb, leb, ltb}
use lib.ListN.{set}
use borrow.Author.Tests.{lt-ltb, ltb-true, ltb-false, leb-false, eqb-true}
use Rattle.answers.specs.declared.Answer.TheVariants as answer
use Rattle.answers.specs.declared.Refusal.TheVariants as refusal
use Rattle.entries.specs.declared.Entries.{Entries}
use Rattle.entries.specs.Table.{first_eligible, held_at, given, taken, low_written, high_written}
use Rattle.entries.proofs.Sized.{Sized}
use Rattle.entries.proofs.Gained.{Exact, wired-exact, quiet-exact, ended-exact, taken-exact, low-written-none}
use Rattle.controller.specs.declared.Controller.{Controller}
use Rattle.controller.specs.declared.Turn.{Turn}
use Rattle.controller.specs.State.{with_id, with_index, with_entries, well_formed, turn, refused, tested}
use Rattle.controller.specs.Window.{data_written, reading_of, writing_of, read_of, write_of}
use Rattle.controller.specs.Steps.{rewired, wire_of, after_end, end_of, delivering_of, deliver_of}
use Rattle.controller.specs.Calls.{Call, read, write, wire, end, deliver, turn_of}
use Rattle.controller.proofs.Formed.{reading-same}
use Rattle.controller.proofs.Lasts.{index_is, low-index}

-- a write to some entry's low word, which isn't refused
pub data LowWrite (c : Controller) : Call → Type 0 where
  low-write : (w o v n : ℕ) → w ≡ 4 → o ≡ 0x10 → v < 2 ^ 32 → n < 24 → c.index ≡ 0x10 + 2 * n → LowWrite c (write w o v)

entry_of : (i : ℕ) → i < 0x40 → (i - 0x10) / 2 < 24
entry_of i l = omega arith

module _ (c : Controller) (z : Sized c.entries) (p : ℕ) (l : p < 24) where
  abbrev e : Entries
  e = c.entries

  same : Exact p e e
  same = quiet-exact p e e (λ h. h) refl refl

  data-exact : (v : ℕ) → ((n : ℕ) → n < 24 → c.index ≡ 0x10 + 2 * n → ⊥) → Exact p e (data_written c v).entries
  unfolding data_written
  data-exact v f =
      go (eqb c.index 0) (ltb c.index 0x10) refl (leb 0x40 c.index) refl (eqb ((c.index - 0x10) % 2) 0) refl
    where
      n : ℕ
      n = (c.index - 0x10) / 2

      go :
          (a b : Bool) → ltb c.index 0x10 ≡ b → (d : Bool) → leb 0x40 c.index ≡ d → (m : Bool) → eqb ((c.index - 0x10) % 2) 0 ≡ m →
          Exact p e (cond a (with_id c (v / 2 ^ 24 % 16)) (cond b c (cond d c (with_entries c (cond m (low_written e n v) (high_written e n v)))))).entries
      go true b x d y m u = same
      go false true x d y m u = same
      go false false x true y m u = same
      go false false x false y true u =
          absurd (f n (entry_of c.index (leb-false 0x40 c.index y)) (index_is c.index n (ltb-false c.index 0x10 x) (eqb-true ((c.index - 0x10) % 2) 0 u) refl))
      go false false x false y false u = quiet-exact p e (high_written e n v) (λ h. h) refl refl

  pub writing-exact : (w o v : ℕ) → (LowWrite c (write w o v) → ⊥) → Exact p e (writing_of c w o v).controller.entries
  unfolding writing_of
  writing-exact w o v f = go (eqb w 4) refl (eqb o 0) (eqb o 0x10) refl (ltb v (2 ^ 32)) refl
    where
      go :
          (a : Bool) → eqb w 4 ≡ a → (x y : Bool) → eqb o 0x10 ≡ y → (s : Bool) → ltb v (2 ^ 32) ≡ s →
          Exact p e
          (cond a (cond (x || y) (cond s (turn (cond x (with_index c (v % 256)) (data_written c v)) answer.Done) (refused c refusal.Value)) (refused c refusal.Offset)) (refused c refusal.Width)
          ).controller.entries
      go true q true y r true u = same
      go true q true y r false u = same
      go true q false true r true u = data-exact v (λ n i t. f (low-write w o v n (eqb-true w 4 q) (eqb-true o 0x10 r) (ltb-true v (2 ^ 32) u) i t))
      go true q false true r false u = same
      go true q false false r s u = same
      go false q x y r s u = same

  pub delivering-exact : Exact p e (delivering_of c).controller.entries
  unfolding delivering_of
  delivering-exact = go (ltb (first_eligible e) 24) refl
    where
      go :
          (a : Bool) → ltb (first_eligible e) 24 ≡ a →
          Exact p e (cond a (turn (with_entries c (taken e (first_eligible e))) (given e (first_eligible e))) (turn c answer.Nothing)).controller.entries
      go true y = taken-exact e z (first_eligible e) (ltb-true (first_eligible e) 24 y) p
      go false y = same

  wiring-exact : (i x : ℕ) → Exact p e (cond (ltb i 24) (cond (leb x 1) (turn (rewired c (set e.level i x)) answer.Done) (refused c refusal.Level)) (refused c refusal.Pin)).controller.entries
  wiring-exact i x = go (ltb i 24) (leb x 1)
    where
      go : (a d : Bool) → Exact p e (cond a (cond d (turn (rewired c (set e.level i x)) answer.Done) (refused c refusal.Level)) (refused c refusal.Pin)).controller.entries
      go true true = wired-exact e (set e.level i x) p l
      go true false = same
      go false d = same

  -- refusal 5 changes nothing
  tested-exact : (t : Turn) → Exact p e t.controller.entries → Exact p e (tested c t).controller.entries
  tested-exact t x = go (well_formed c)
    where
      go : (b : Bool) → Exact p e (cond b t (refused c refusal.State)).controller.entries
      go true = x
      go false = same

  -- every step other than a low-word write
  pub step-exact : (k : Call) → (LowWrite c k → ⊥) → Exact p e (turn_of c k).controller.entries
  unfolding turn_of read_of write_of wire_of end_of deliver_of
  step-exact (read w o) f = tested-exact (reading_of c w o) (subst (λ (d : Controller). Exact p e d.entries) (sym (reading-same c w o)) same)
  step-exact (write w o v) f = tested-exact (writing_of c w o v) (writing-exact w o v f)
  step-exact (wire i x) f = tested-exact _ (wiring-exact i x)
  step-exact (end v) f = tested-exact (turn (after_end c v) answer.Done) (ended-exact e p v l)
  step-exact deliver f = tested-exact (delivering_of c) delivering-exact

  -- "A low-word write never makes an edge."
  pub low-writing-none : (w o v : ℕ) → LowWrite c (write w o v) → held_at e p ≡ 0 → held_at (writing_of c w o v).controller.entries p ≡ 0
  unfolding writing_of
  low-writing-none _ _ _ (low-write w o v n x y u i t) h = rw (x, y, lt-ltb v (2 ^ 32) u, low-index c n i t v) (low-written-none e z n i p v h)

  pub low-write-none : (k : Call) → LowWrite c k → held_at e p ≡ 0 → held_at (turn_of c k).controller.entries p ≡ 0
  unfolding turn_of write_of
  low-write-none _ (low-write w o v n x y u i t) h = go (well_formed c)
    where
      go : (b : Bool) → held_at (cond b (writing_of c w o v) (refused c refusal.State)).controller.entries p ≡ 0
      go true = low-writing-none w o v (low-write w o v n x y u i t) h
      go false = h
