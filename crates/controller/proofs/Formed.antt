-- Well-formed controllers, part by part, and that each call turns one into such.
use mathlib.Core.Path.{◌≡◌, refl, sym, ap, subst, ◌∙◌}
use mathlib.Core.Bool.{Bool, true, false, cond, ◌&&◌, ◌||◌}
use mathlib.Core.List.{List}
use Prim.Native.Nat.{ℕ, ◌-◌, ◌/◌, ◌%◌, ◌^◌, ◌<◌, ◌≤◌}
use native.Mathlib.Omega.{arith}
use lib.Dec.{eqb, leb, ltb}
use lib.ListN.{length, set, length-set}
use borrow.Author.Tests.{le-leb, leb-false, ltb-true}
use Rattle.answers.specs.declared.Answer.{Answer}
use Rattle.answers.specs.declared.Answer.TheVariants as answer
use Rattle.answers.specs.declared.Refusal.TheVariants as refusal
use Rattle.pins.proofs.Bools.{and_left, and_right, and_both}
use Rattle.entries.specs.declared.Entries.{Entries}
use Rattle.entries.specs.Table.{entries_ok, levels_ok, first_eligible, wired, ended, given, taken, low_written, high_written}
use Rattle.entries.proofs.Sized.{Sized, wired-sized, ended-sized, taken-sized, low-written-sized, high-written-sized}
use Rattle.entries.proofs.Formed.{reset-ok, own-levels-ok, wired-ok, ended-ok, taken-ok, low-written-ok, high-written-ok}
use Rattle.entries.proofs.Pulse.{set-ok}
use Rattle.entries.proofs.Delivery.{low-written-level, taken-level}
use Rattle.controller.specs.declared.Controller.{Controller}
use Rattle.controller.specs.declared.Turn.{Turn}
use Rattle.controller.specs.State.{reset_to, with_id, with_index, with_entries, well_formed, turn, refused}
use Rattle.controller.specs.Window.{data_read, data_written, reading_of, writing_of, read_of, write_of, entry_written}
use Rattle.controller.specs.Steps.{rewired, wire_of, after_end, end_of, delivering_of, deliver_of}
use Rattle.controller.specs.Calls.{Call, read, write, wire, end, deliver, turn_of}

pub record Formed (c : Controller) : Type 0 where
  pub id : leb c.id 15 ≡ true
  pub index : leb c.index 255 ≡ true
  pub entries : entries_ok c.entries ≡ true

pub formed : (c : Controller) → well_formed c ≡ true → Formed c
unfolding well_formed
formed c e =
    let f = and_left (leb c.id 15 && leb c.index 255) (entries_ok c.entries) e in
    record {
      id = and_left (leb c.id 15) (leb c.index 255) f;
      index = and_right (leb c.id 15) (leb c.index 255) f;
      entries = and_right (leb c.id 15 && leb c.index 255) (entries_ok c.entries) e;
    }

pub well-formed : (c : Controller) → Formed c → well_formed c ≡ true
unfolding well_formed
well-formed c f = and_both (and_both f.id f.index) f.entries

pub reset-formed : (id : ℕ) → id ≤ 15 → well_formed (reset_to id) ≡ true
reset-formed id l = well-formed (reset_to id) (record { id = le-leb id 15 l; index = refl; entries = reset-ok })

-- a call's turn keeps well-formedness and sizes: what both say of the next state
pub record Keeps (t : Turn) : Type 0 where
  pub formed : well_formed t.controller ≡ true
  pub sized : Sized t.controller.entries

small-id : (v : ℕ) → v / 2 ^ 24 % 16 ≤ 15
small-id v = omega arith

small-index : (v : ℕ) → v % 256 ≤ 255
small-index v = omega arith

half : (i : ℕ) → i < 0x40 → (i - 0x10) / 2 < 24
half i l = omega arith

pub reading-same : (c : Controller) (w o : ℕ) → (reading_of c w o).controller ≡ c
unfolding reading_of
reading-same c w o = go (eqb w 4) (eqb o 0) (eqb o 0x10)
  where
    go : (a b d : Bool) → (cond a (cond b (turn c (answer.Value c.index)) (cond d (turn c (answer.Value (data_read c))) (refused c refusal.Offset))) (refused c refusal.Width)).controller ≡ c
    go true true d = refl
    go true false true = refl
    go true false false = refl
    go false b d = refl

module _ (c : Controller) (e : well_formed c ≡ true) (z : Sized c.entries) where
  f : Formed c
  f = formed c e

  kept : Keeps (turn c answer.Done)
  kept = record { formed = e; sized = z }

  -- another state of the entries
  with_entries_lem : (n : Entries) (a : Answer) → entries_ok n ≡ true → Sized n → Keeps (turn (with_entries c n) a)
  with_entries_lem n a ok s = record { formed = well-formed (with_entries c n) (record { id = f.id; index = f.index; entries = ok }); sized = s }

  pub rewired-keeps : (l : List ℕ) → levels_ok l ≡ true → length l ≡ 24 → Keeps (turn (rewired c l) answer.Done)
  rewired-keeps l ok k = with_entries_lem (wired c.entries l) answer.Done (wired-ok c.entries f.entries l ok) (wired-sized c.entries z l k)

  pub ended-keeps : (v : ℕ) → Keeps (turn (after_end c v) answer.Done)
  ended-keeps v = with_entries_lem (ended c.entries v) answer.Done (ended-ok c.entries f.entries v) (ended-sized c.entries z v)

  pub delivering-keeps : Keeps (delivering_of c)
  unfolding delivering_of
  delivering-keeps = go (ltb (first_eligible c.entries) 24) refl
    where
      go :
          (b : Bool) → ltb (first_eligible c.entries) 24 ≡ b →
          Keeps (cond b (turn (with_entries c (taken c.entries (first_eligible c.entries))) (given c.entries (first_eligible c.entries))) (turn c answer.Nothing))
      go true t =
          let i = first_eligible c.entries in
          with_entries_lem (taken c.entries i) (given c.entries i) (taken-ok c.entries f.entries z i (ltb-true i 24 t)) (taken-sized c.entries z i)
      go false t = record { formed = e; sized = z }

  data-keeps : (v : ℕ) → Keeps (turn (data_written c v) answer.Done)
  unfolding data_written
  data-keeps v = go (eqb c.index 0) (ltb c.index 0x10) (leb 0x40 c.index) refl
    where
      entry : (b : Bool) → c.index < 0x40 → Keeps (turn (with_entries c (cond b (low_written c.entries ((c.index - 0x10) / 2) v) (high_written c.entries ((c.index - 0x10) / 2) v))) answer.Done)
      entry true l =
          let n = (c.index - 0x10) / 2 in
          with_entries_lem (low_written c.entries n v) answer.Done (low-written-ok c.entries f.entries z n v (half c.index l)) (low-written-sized c.entries z n v)
      entry false l =
          let n = (c.index - 0x10) / 2 in
          with_entries_lem (high_written c.entries n v) answer.Done (high-written-ok c.entries f.entries n v) (high-written-sized c.entries z n v)

      go :
          (a b d : Bool) → leb 0x40 c.index ≡ d →
          Keeps (turn (cond a (with_id c (v / 2 ^ 24 % 16)) (cond b c (cond d c (entry_written c (c.index - 0x10) v)))) answer.Done)
      go true b d t = record { formed = well-formed (with_id c (v / 2 ^ 24 % 16)) (record { id = le-leb _ _ (small-id v); index = f.index; entries = f.entries }); sized = z }
      go false true d t = kept
      go false false true t = kept
      go false false false t = entry (eqb ((c.index - 0x10) % 2) 0) (leb-false 0x40 c.index t)

  pub writing-keeps : (w o v : ℕ) → Keeps (writing_of c w o v)
  unfolding writing_of
  writing-keeps w o v = go (eqb w 4) (eqb o 0 || eqb o 0x10) (ltb v (2 ^ 32)) (eqb o 0)
    where
      go :
          (a b d n : Bool) →
          Keeps (cond a (cond b (cond d (turn (cond n (with_index c (v % 256)) (data_written c v)) answer.Done) (refused c refusal.Value)) (refused c refusal.Offset)) (refused c refusal.Width))
      go true true true true = record { formed = well-formed (with_index c (v % 256)) (record { id = f.id; index = le-leb _ _ (small-index v); entries = f.entries }); sized = z }
      go true true true false = data-keeps v
      go true true false n = record { formed = e; sized = z }
      go true false d n = record { formed = e; sized = z }
      go false b d n = record { formed = e; sized = z }

-- every call turns a well-formed state into one
module _ (c : Controller) (e : well_formed c ≡ true) (z : Sized c.entries) where
  pub keeps : (k : Call) → Keeps (turn_of c k)
  unfolding turn_of read_of write_of wire_of end_of deliver_of
  keeps (read w o) = rw e (record { formed = ap well_formed (reading-same c w o) ∙ e; sized = subst (λ (d : Controller). Sized d.entries) (sym (reading-same c w o)) z })
  keeps (write w o v) = rw e (writing-keeps c e z w o v)
  keeps (wire p x) = rw e (go (ltb p 24) (leb x 1) refl)
    where
      go :
          (a b : Bool) → leb x 1 ≡ b →
          Keeps (cond a (cond b (turn (rewired c (set c.entries.level p x)) answer.Done) (refused c refusal.Level)) (refused c refusal.Pin))
      go true true t =
          rewired-keeps c e z (set c.entries.level p x) (set-ok c.entries.level p x t (own-levels-ok c.entries (formed c e).entries))
          (length-set c.entries.level p x ∙ z.level)
      go true false t = record { formed = e; sized = z }
      go false b t = record { formed = e; sized = z }
  keeps (end v) = rw e (ended-keeps c e z v)
  keeps deliver = rw e (delivering-keeps c e z)

-- ---- no call but a wire change moves a pin's level: what a board above needs

module _ (c : Controller) where
  abbrev levels : List ℕ
  levels = c.entries.level

  data-levels : (v : ℕ) → (data_written c v).entries.level ≡ levels
  unfolding data_written
  data-levels v = go (eqb c.index 0) (ltb c.index 0x10) (leb 0x40 c.index) (eqb ((c.index - 0x10) % 2) 0)
    where
      go :
          (a b d m : Bool) →
          (cond a (with_id c (v / 2 ^ 24 % 16)) (cond b c (cond d c (with_entries c (cond m (low_written c.entries ((c.index - 0x10) / 2) v) (high_written c.entries ((c.index - 0x10) / 2) v)))))).entries.level ≡ levels
      go true b d m = refl
      go false true d m = refl
      go false false true m = refl
      go false false false true = low-written-level c.entries ((c.index - 0x10) / 2) v
      go false false false false = refl

  pub writing-levels : (w o v : ℕ) → (writing_of c w o v).controller.entries.level ≡ levels
  unfolding writing_of
  writing-levels w o v = go (eqb w 4) (eqb o 0 || eqb o 0x10) (ltb v (2 ^ 32)) (eqb o 0)
    where
      go :
          (a b d n : Bool) →
          (cond a (cond b (cond d (turn (cond n (with_index c (v % 256)) (data_written c v)) answer.Done) (refused c refusal.Value)) (refused c refusal.Offset)) (refused c refusal.Width)).controller.entries.level ≡ levels
      go true true true true = refl
      go true true true false = data-levels v
      go true true false n = refl
      go true false d n = refl
      go false b d n = refl

  pub delivering-levels : (delivering_of c).controller.entries.level ≡ levels
  unfolding delivering_of
  delivering-levels = go (ltb (first_eligible c.entries) 24)
    where
      go :
          (b : Bool) →
          (cond b (turn (with_entries c (taken c.entries (first_eligible c.entries))) (given c.entries (first_eligible c.entries))) (turn c answer.Nothing)).controller.entries.level ≡ levels
      go true = taken-level c.entries (first_eligible c.entries)
      go false = refl
