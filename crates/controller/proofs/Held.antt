-- What loses a held edge, and that nothing else does, with the paper's sentences.
use mathlib.Core.Path.{◌≡◌, ap, subst, ◌∙◌}
use Prim.Native.Nat.{ℕ, ◌^◌, ◌<◌}
use native.Mathlib.Decide.{ℕ_discrete}
use mathlib.Core.Bool.{true}
use mathlib.Core.List.{List}
use lib.ListN.{get_or}
use borrow.Author.Tests.{lt-ltb}
use Rattle.pins.proofs.Bools.{not-true-false}
use Rattle.entries.specs.declared.Entries.{Entries}
use Rattle.entries.specs.Word.{level_of}
use Rattle.entries.specs.Table.{held_at, low_written}
use Rattle.entries.proofs.Sized.{Sized}
use Rattle.entries.proofs.Pulse.{wired-keeps}
use Rattle.entries.proofs.Delivery.{ended_held, taken-held, low-written-held-other, low-written-held, taken-held-own, low-written-held-dropped, held-edge}
use Rattle.controller.specs.declared.Controller.{Controller}
use Rattle.controller.specs.declared.Turn.{Turn}
use Rattle.controller.specs.State.{well_formed}
use Rattle.controller.specs.Window.{writing_of, write_of}
use Rattle.controller.specs.Calls.{Call, turn_of}
use Rattle.controller.proofs.Formed.{formed}
use Rattle.controller.proofs.Demands.{delivers-if, delivers-only-if}
use Rattle.controller.proofs.Lasts.{Level, Breaks, delivered, rewritten, Lasts, kept, low-index}

-- ---- "If it leaves the pin level, a held edge is dropped; otherwise the held edge stays, masked or not"; "An edge pin
-- loses its held edge"

-- what loses pin p's held edge: its delivery, or a low-word write that leaves the pin level (a refused write loses
-- nothing)
abbrev pub Loses : Controller → ℕ → Call → Type 0
Loses = Breaks Unit Level

-- pin p's edge is held
abbrev pub HeldOn : ℕ → Entries → Type 0
HeldOn p e = held_at e p ≡ 1

-- any other call keeps it
pub held-lasts : (p : ℕ) → p < 24 → Lasts Unit Level p (HeldOn p)
held-lasts p l =
    record {
      wires = λ e w h. wired-keeps e w p l h;
      ends = λ e v h. ap (λ (x : List ℕ). get_or x p 0) (ended_held e v) ∙ h;
      delivers = λ e z i f h. taken-held e i p (λ q. f q tt) ∙ h;
      writes-low = low;
      writes-high = λ e n v h. h;
    }
  where
    low : (e : Entries) → Sized e → (n v : ℕ) → (p ≡ n → Level v → ⊥) → HeldOn p e → HeldOn p (low_written e n v)
    low e z n v f h = go (ℕ_discrete p n)
      where
        go : Dec (p ≡ n) → HeldOn p (low_written e n v)
        go (yes q) = subst (λ (m : ℕ). HeldOn p (low_written e m v)) q (low-written-held e z p v l (not-true-false (level_of v) (f q)) ∙ h)
        go (no q) = low-written-held-other e n p q v ∙ h

module _ (c : Controller) (z : Sized c.entries) (p : ℕ) (l : p < 24) (h : HeldOn p c.entries) where
  pub held_kept : (k : Call) → (Loses c p k → ⊥) → held_at (turn_of c k).controller.entries p ≡ 1
  held_kept = kept (held-lasts p l) l c z h

  -- … and each of the two loses it
  pub held-lost : well_formed c ≡ true → (k : Call) → Loses c p k → held_at (turn_of c k).controller.entries p ≡ 0
  unfolding turn_of write_of writing_of
  held-lost f _ (delivered _ e) =
      let r = delivers-only-if c p e in
      ap (λ (t : Turn). held_at t.controller.entries p) (delivers-if c p f l r.2)
      ∙ taken-held-own c.entries z p l (held-edge c.entries (formed c f).entries p l h)
  held-lost f _ (rewritten w o v x y i u t) =
      rw (f, x, y, lt-ltb v (2 ^ 32) u, low-index c p l i v)
      (low-written-held-dropped c.entries z p v l t)
