-- Remote IRR (document 02, K4) over the controller's calls: what an edge entry reads, and what lasts of an entry: its
-- trigger, remote IRR 0, its word.
use mathlib.Core.Path.{◌≡◌, refl, ap, subst, ◌∙◌}
use mathlib.Core.Bool.{Bool, true, false}
use mathlib.Core.List.{List}
use Prim.Native.Nat.{ℕ, ◌+◌, ◌*◌, ◌/◌, ◌%◌, ◌^◌, ◌<◌}
use native.Mathlib.Decide.{ℕ_discrete}
use lib.ListN.{get_or}
use Rattle.pins.proofs.Bools.{not-true-false}
use Rattle.entries.specs.declared.Entries.{Entries}
use Rattle.entries.specs.Word.{remote_of, level_of, written}
use Rattle.entries.specs.Table.{low_at, low_written}
use Rattle.entries.proofs.Sized.{Sized}
use Rattle.entries.proofs.Pulse.{wired-low}
use Rattle.entries.proofs.Written.{remote-cleared, remote-kept}
use Rattle.entries.proofs.ReadBack.{low-at}
use Rattle.entries.proofs.Remote.{edge-reads-0, wired-trigger, ended-trigger, taken-trigger, written-trigger, ended-word, taken_word, written-word}
use Rattle.controller.specs.declared.Controller.{Controller}
use Rattle.controller.specs.State.{well_formed}
use Rattle.controller.specs.Window.{data_written}
use Rattle.controller.proofs.Formed.{formed}
use Rattle.controller.proofs.Lasts.{Level, Lasts, low-index}
use Rattle.controller.proofs.ReadBack.{shown_at, low_read}

-- "An edge entry now always reads bit 14 as 0": bit 15 is 0
pub edge-shows-0 :
    (c : Controller) → well_formed c ≡ true → (n : ℕ) → n < 24 → shown_at c (0x10 + 2 * n) / 2 ^ 15 % 2 ≡ 0 → shown_at c (0x10 + 2 * n) / 2 ^ 14 % 2 ≡ 0
edge-shows-0 c f n l = rw (low_read c n l) (edge-reads-0 c.entries (formed c f).entries n l)

-- entry n's word after a low-word write to it
pub word-put : (c : Controller) → Sized c.entries → (n v : ℕ) → n < 24 → c.index ≡ 0x10 + 2 * n → low_at (data_written c v).entries n ≡ written (low_at c.entries n) v
word-put c z n v l at = ap (λ (d : Controller). low_at d.entries n) (low-index c n l at v) ∙ low-at c.entries z n l v

-- ---- an entry stays edge until a low-word write leaves it level

-- entry p is edge
abbrev pub EdgeOn : ℕ → Entries → Type 0
EdgeOn p e = level_of (low_at e p) ≡ false

pub edge-lasts : (p : ℕ) → p < 24 → Lasts ⊥ Level p (EdgeOn p)
edge-lasts p l =
    record {
      wires = λ e w h. wired-trigger p l e w ∙ h;
      ends = λ e v h. ended-trigger p l e v ∙ h;
      delivers = λ e z i f h. taken-trigger p l e z i ∙ h;
      writes-low = low;
      writes-high = λ e n v h. h;
    }
  where
    low : (e : Entries) → Sized e → (n v : ℕ) → (p ≡ n → Level v → ⊥) → EdgeOn p e → EdgeOn p (low_written e n v)
    low e z n v f h = go (ℕ_discrete p n)
      where
        go : Dec (p ≡ n) → EdgeOn p (low_written e n v)
        go (yes q) = subst (λ (m : ℕ). EdgeOn p (low_written e m v)) q (written-trigger p l e z v ∙ not-true-false (level_of v) (f q))
        go (no q) = ap level_of (written-word e p n q v) ∙ h

-- ---- remote IRR 0 stays until the pin's delivery, whatever is written

abbrev pub ClearOn : ℕ → Entries → Type 0
ClearOn p e = remote_of (low_at e p) ≡ false

pub clear-lasts : (p : ℕ) → p < 24 → Lasts Unit (λ v. ⊥) p (ClearOn p)
clear-lasts p l =
    record {
      wires = λ e x h. ap (λ (y : List ℕ). remote_of (get_or y p 0)) (wired-low e x) ∙ h;
      ends = λ e v h. ap remote_of (ended-word e p l v h) ∙ h;
      delivers = λ e z i f h. ap remote_of (taken_word e p i (λ q. f q tt)) ∙ h;
      writes-low = low;
      writes-high = λ e n v h. h;
    }
  where
    low : (e : Entries) → Sized e → (n v : ℕ) → (p ≡ n → ⊥ → ⊥) → ClearOn p e → ClearOn p (low_written e n v)
    low e z n v f h = go (ℕ_discrete p n)
      where
        own : (b : Bool) → level_of v ≡ b → ClearOn p (low_written e p v)
        own true t = ap remote_of (low-at e z p l v) ∙ remote-kept (low_at e p) v t ∙ h
        own false t = ap remote_of (low-at e z p l v) ∙ remote-cleared (low_at e p) v t

        go : Dec (p ≡ n) → ClearOn p (low_written e n v)
        go (yes q) = subst (λ (m : ℕ). ClearOn p (low_written e m v)) q (own (level_of v) refl)
        go (no q) = ap remote_of (written-word e p n q v) ∙ h

-- ---- a word with remote IRR 0 stays until the pin's delivery or a low-word write to it

abbrev pub WordOn : ℕ → ℕ → Entries → Type 0
WordOn p w e = low_at e p ≡ w

pub word-lasts : (p w : ℕ) → p < 24 → remote_of w ≡ false → Lasts Unit (λ v. Unit) p (WordOn p w)
word-lasts p w l r =
    record {
      wires = λ e x h. ap (λ (y : List ℕ). get_or y p 0) (wired-low e x) ∙ h;
      ends = λ e v h. ended-word e p l v (ap remote_of h ∙ r) ∙ h;
      delivers = λ e z i f h. taken_word e p i (λ q. f q tt) ∙ h;
      writes-low = λ e z n v f h. written-word e p n (λ q. f q tt) v ∙ h;
      writes-high = λ e n v h. h;
    }
