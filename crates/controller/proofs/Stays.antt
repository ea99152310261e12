-- What a call other than a write to its words leaves of an entry.
use mathlib.Core.Path.{◌≡◌, refl}
use mathlib.Core.Bool.{Bool, true, false, cond}
use Prim.Native.Nat.{ℕ, ◌%◌, ◌^◌, ◌<◌}
use lib.Dec.{eqb, ltb}
use Rattle.answers.specs.declared.Answer.TheVariants as answer
use Rattle.answers.specs.declared.Refusal.TheVariants as refusal
use Rattle.entries.specs.Table.{first_eligible, given, taken}
use Rattle.entries.proofs.Sized.{Sized}
use Rattle.entries.proofs.Stays.{Stays, stays_same, taken-stays}
use Rattle.controller.specs.declared.Controller.{Controller}
use Rattle.controller.specs.State.{with_index, with_entries, turn, refused}
use Rattle.controller.specs.Window.{writing_of}
use Rattle.controller.specs.Steps.{delivering_of}

module _ (c : Controller) where
  -- an access at the index leaves the entries
  pub index-leaves : (w v : ℕ) → (writing_of c w 0x00 v).controller.entries ≡ c.entries
  unfolding writing_of
  index-leaves w v = go (eqb w 4) (ltb v (2 ^ 32))
    where
      go : (x y : Bool) → (cond x (cond y (turn (with_index c (v % 256)) answer.Done) (refused c refusal.Value)) (refused c refusal.Width)).controller.entries ≡ c.entries
      go true true = refl
      go true false = refl
      go false y = refl

  pub delivering-stays : (n : ℕ) → n < 24 → Sized c.entries → Stays n c.entries (delivering_of c).controller.entries
  unfolding delivering_of
  delivering-stays n h z = go (ltb (first_eligible c.entries) 24)
    where
      go :
          (b : Bool) →
          Stays n c.entries
          (cond b (turn (with_entries c (taken c.entries (first_eligible c.entries))) (given c.entries (first_eligible c.entries))) (turn c answer.Nothing)).controller.entries
      go true = taken-stays n h c.entries z (first_eligible c.entries)
      go false = stays_same n c.entries
