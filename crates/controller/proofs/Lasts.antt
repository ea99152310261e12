-- What lasts on a pin over the calls of a controller: a property of the entries that a wire change, an end of interrupt
-- and a high-word write keep, and so do deliveries and low-word writes but for some at the pin itself.
use mathlib.Core.Path.{◌≡◌, refl, sym, ap, subst}
use mathlib.Core.Bool.{Bool, true, false, cond, ◌||◌}
use mathlib.Core.List.{List}
use Prim.Native.Nat.{ℕ, ◌+◌, ◌-◌, ◌*◌, ◌/◌, ◌%◌, ◌^◌, ◌<◌, ◌≤◌}
use native.Mathlib.Omega.{arith}
use lib.Dec.{eqb, leb, ltb}
use lib.ListN.{set}
use borrow.Author.Tests.{le-ltb, lt-leb, ltb-true, ltb-false, eqb-true, ne_eqb}
use Rattle.answers.specs.declared.Answer.TheVariants as answer
use Rattle.answers.specs.declared.Refusal.TheVariants as refusal
use Rattle.entries.specs.declared.Entries.{Entries}
use Rattle.entries.specs.Word.{level_of}
use Rattle.entries.specs.Table.{first_eligible, given, wired, ended, taken, low_written, high_written}
use Rattle.entries.proofs.Sized.{Sized}
use Rattle.entries.proofs.Delivery.{lowest-found}
use Rattle.controller.specs.declared.Controller.{Controller}
use Rattle.controller.specs.declared.Turn.{Turn}
use Rattle.controller.specs.State.{with_id, with_index, with_entries, well_formed, turn, refused}
use Rattle.controller.specs.Window.{data_written, reading_of, writing_of, read_of, write_of}
use Rattle.controller.specs.Steps.{rewired, wire_of, after_end, end_of, delivering_of, deliver_of}
use Rattle.controller.specs.Calls.{Call, read, write, wire, end, deliver, turn_of}
use Rattle.controller.proofs.Formed.{reading-same}
use Rattle.controller.proofs.Demands.{delivers-if}

-- a value that leaves its entry level
abbrev pub Level : ℕ → Type 0
Level v = level_of v ≡ true

-- what may break it: the pin's delivery where D says so, a low-word write of a value v to its entry where W v does. A
-- refused call breaks nothing
pub data Breaks (D : Type 0) (W : ℕ → Type 0) (c : Controller) (p : ℕ) : Call → Type 0 where
  delivered : D → (deliver_of c).answer ≡ given c.entries p → Breaks D W c p deliver
  rewritten : (w o v : ℕ) → w ≡ 4 → o ≡ 0x10 → c.index ≡ 0x10 + 2 * p → v < 2 ^ 32 → W v → Breaks D W c p (write w o v)

-- P lasts on pin p, step by step
pub record Lasts (D : Type 0) (W : ℕ → Type 0) (p : ℕ) (P : Entries → Type 0) : Type 0 where
  pub wires : (e : Entries) (l : List ℕ) → P e → P (wired e l)
  pub ends : (e : Entries) (v : ℕ) → P e → P (ended e v)
  pub delivers : (e : Entries) → Sized e → (i : ℕ) → (p ≡ i → D → ⊥) → P e → P (taken e i)
  pub writes-low : (e : Entries) → Sized e → (n v : ℕ) → (p ≡ n → W v → ⊥) → P e → P (low_written e n v)
  pub writes-high : (e : Entries) (n v : ℕ) → P e → P (high_written e n v)

pub index_is : (i p : ℕ) → 0x10 ≤ i → (i - 0x10) % 2 ≡ 0 → p ≡ (i - 0x10) / 2 → i ≡ 0x10 + 2 * p
index_is i p a b e = omega arith

-- the index of entry p's low word
pub low-index : (c : Controller) (p : ℕ) → p < 24 → c.index ≡ 0x10 + 2 * p → (v : ℕ) → data_written c v ≡ with_entries c (low_written c.entries p v)
unfolding data_written
low-index c p l at v =
    let half : (0x10 + 2 * p - 0x10) / 2 ≡ p = omega arith in
    let even : (0x10 + 2 * p - 0x10) % 2 ≡ 0 = omega arith in
    rw (at, ne_eqb (0x10 + 2 * p) 0 (omega arith), le-ltb (0x10 + 2 * p) 0x10 (omega arith), lt-leb 0x40 (0x10 + 2 * p) (omega arith), even, half)

module _ {D : Type 0} {W : ℕ → Type 0} {p : ℕ} {P : Entries → Type 0} (s : Lasts D W p P) (l : p < 24) (c : Controller) (z : Sized c.entries) (h : P c.entries) where
  abbrev n : ℕ
  n = (c.index - 0x10) / 2

  data-kept : (v : ℕ) → (c.index ≡ 0x10 + 2 * p → W v → ⊥) → P (data_written c v).entries
  unfolding data_written
  data-kept v f = go (eqb c.index 0) (ltb c.index 0x10) refl (leb 0x40 c.index) (eqb ((c.index - 0x10) % 2) 0) refl
    where
      go :
          (a b : Bool) → ltb c.index 0x10 ≡ b → (d m : Bool) → eqb ((c.index - 0x10) % 2) 0 ≡ m →
          P (cond a (with_id c (v / 2 ^ 24 % 16)) (cond b c (cond d c (with_entries c (cond m (low_written c.entries n v) (high_written c.entries n v)))))).entries
      go true b x d m y = h
      go false true x d m y = h
      go false false x true m y = h
      go false false x false true y =
          s.writes-low c.entries z n v (λ q. f (index_is c.index p (ltb-false c.index 0x10 x) (eqb-true ((c.index - 0x10) % 2) 0 y) q)) h
      go false false x false false y = s.writes-high c.entries n v h

  -- every call keeps it, unless it is one that may break it
  pub kept : (k : Call) → (Breaks D W c p k → ⊥) → P (turn_of c k).controller.entries
  unfolding turn_of read_of write_of writing_of wire_of end_of deliver_of delivering_of
  kept (read w o) f = go (well_formed c)
    where
      go : (b : Bool) → P (cond b (reading_of c w o) (refused c refusal.State)).controller.entries
      go true = subst (λ (d : Controller). P d.entries) (sym (reading-same c w o)) h
      go false = h
  kept (write w o v) f = go (well_formed c) (eqb w 4) refl (eqb o 0) (eqb o 0x10) refl (ltb v (2 ^ 32)) refl
    where
      go :
          (b a : Bool) → eqb w 4 ≡ a → (x y : Bool) → eqb o 0x10 ≡ y → (s : Bool) → ltb v (2 ^ 32) ≡ s →
          P (cond b (cond a (cond (x || y) (cond s (turn (cond x (with_index c (v % 256)) (data_written c v)) answer.Done) (refused c refusal.Value)) (refused c refusal.Offset)) (refused c refusal.Width)) (refused c refusal.State)).controller.entries
      go true true q true y r true u = h
      go true true q true y r false u = h
      go true true q false true r true u = data-kept v (λ i t. f (rewritten w o v (eqb-true w 4 q) (eqb-true o 0x10 r) i (ltb-true v (2 ^ 32) u) t))
      go true true q false true r false u = h
      go true true q false false r s u = h
      go true false q x y r s u = h
      go false a q x y r s u = h
  kept (wire i x) f = go (well_formed c) (ltb i 24) (leb x 1)
    where
      go :
          (b a d : Bool) →
          P (cond b (cond a (cond d (turn (rewired c (set c.entries.level i x)) answer.Done) (refused c refusal.Level)) (refused c refusal.Pin)) (refused c refusal.State)).controller.entries
      go true true true = s.wires c.entries (set c.entries.level i x) h
      go true true false = h
      go true false d = h
      go false a d = h
  kept (end v) f = go (well_formed c)
    where
      go : (b : Bool) → P (cond b (turn (after_end c v) answer.Done) (refused c refusal.State)).controller.entries
      go true = s.ends c.entries v h
      go false = h
  kept deliver f = go (well_formed c) refl (ltb (first_eligible c.entries) 24)
    where
      answers : (b a : Bool) → Turn
      answers b a = cond b (cond a (turn (with_entries c (taken c.entries (first_eligible c.entries))) (given c.entries (first_eligible c.entries))) (turn c answer.Nothing)) (refused c refusal.State)

      here : well_formed c ≡ true → p ≡ first_eligible c.entries → D → Breaks D W c p deliver
      here x q d = delivered d (ap (λ (t : Turn). t.answer) (delivers-if c p x l (lowest-found c.entries p l (sym q))))

      go : (b : Bool) → well_formed c ≡ b → (a : Bool) → P (answers b a).controller.entries
      go true x true = s.delivers c.entries z (first_eligible c.entries) (λ q d. f (here x q d)) h
      go true x false = h
      go false x a = h
