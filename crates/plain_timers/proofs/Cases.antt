-- The cases of the code, in the words of the definitions.
use Rattle.std.proofs.Common.{◌≡◌, ℕ, zero, suc, ◌+◌, ◌*◌, ◌%◌, ◌<◌, cond, eqb, List, [], ◌∷◌, length, get_or, set, refl, ap, ◌∙◌, arith}
use native.Mathlib.Decide.{ℕ_discrete}
use Rattle.timer.specs.declared.Timer.{Timer}
use Rattle.timer.specs.declared.Half.{Half}
use Rattle.timer.specs.State.{blank}
use Rattle.timer.specs.Halves.{replaced}
use Rattle.timer.specs.Registers.{bit}
use Rattle.timers.specs.declared.Timers.{Timers}
use Rattle.timers.specs.State.{three}
use Rattle.timers.specs.Registers.{register_of, written_of, half_written}
use Rattle.timers.proofs.Three.{of_three}
use Rattle.timers.proofs.Places.{Unlisted, unlisted-read, unlisted-write, capabilities-write}
use Rattle.timers.proofs.Halves.{half-replaces}

-- ---- the last arm: what a match says of an offset that none of its arms names

-- N, and that the offset is none of these
abbrev left : Type 0 → List ℕ → ℕ → Type 0
left N [] o = N
left N (k ∷ ks) o = left (N × (o ≡ k → ⊥)) ks o

abbrev pub Unread : ℕ → Type 0
Unread = left Unit (0x000 ∷ 0x010 ∷ 0x020 ∷ 0x0F0 ∷ 0x100 ∷ 0x108 ∷ 0x120 ∷ 0x128 ∷ 0x140 ∷ 0x148 ∷ [])

abbrev pub Unwritten : ℕ → Type 0
Unwritten = left Unit (0x010 ∷ 0x020 ∷ 0x0F0 ∷ 0x100 ∷ 0x108 ∷ 0x120 ∷ 0x128 ∷ 0x140 ∷ 0x148 ∷ [])

-- in halves the status and the comparators have rules of their own
abbrev pub Replaced : ℕ → Type 0
Replaced = left Unit (0x020 ∷ 0x108 ∷ 0x128 ∷ 0x148 ∷ [])

-- none of the three timers' configurations, or comparators
no-timer : (k o : ℕ) → (o ≡ k → ⊥) → (o ≡ k + 0x20 → ⊥) → (o ≡ k + 0x40 → ⊥) → (n : ℕ) → n < 3 → o ≡ k + 0x20 * n → ⊥
no-timer k o a b c n l e = omega arith

unlisted : (o : ℕ) → Unread o → Unlisted o
unlisted o ((((((((((u, a), b), c), d), t0), c0), t1), c1), t2), c2) =
    record {
      no-capabilities = a;
      no-enable = b;
      no-status = c;
      no-counter = d;
      no-configuration = no-timer 0x100 o t0 t1 t2;
      no-comparator = no-timer 0x108 o c0 c1 c2;
    }

module _ (s : Timers) (o : ℕ) where
  pub reads_0 : Unread o → register_of s o ≡ 0
  reads_0 u = unlisted-read s o (unlisted o u)

  pub ignores : (v : ℕ) → Unwritten o → written_of s o v ≡ s
  ignores v (((((((((u, b), c), d), t0), c0), t1), c1), t2), c2) = go (ℕ_discrete o 0x000)
    where
      go : Dec (o ≡ 0x000) → written_of s o v ≡ s
      go (yes e) = rw e (capabilities-write s v)
      go (no a) = unlisted-write s o (unlisted o ((((((((((u, a), b), c), d), t0), c0), t1), c1), t2), c2)) v

  pub replaces : (h : Half) (v : ℕ) → Replaced o → half_written s h o v ≡ written_of s o (replaced h (register_of s o) v)
  replaces h v ((((u, a), c0), c1), c2) = half-replaces s h v o a (no-timer 0x108 o c0 c1 c2)

-- ---- bit 0

pub low_bit : (v : ℕ) → v % 2 ≡ bit 0 v
low_bit v = omega arith

-- ---- a timer put into its place

pub put :
    (l : List Timer) (m : ℕ) (x : Timer) → length l ≡ 3 → m < 3 →
    set l m x ≡ three (λ i. cond (eqb i m) x (get_or l i blank))
put l m x size h = ap (λ (k : List Timer). set k m x) (of_three l blank size) ∙ go m h
  where
    go : (m : ℕ) → m < 3 → set (three (λ i. get_or l i blank)) m x ≡ three (λ i. cond (eqb i m) x (get_or l i blank))
    go zero h = refl
    go (suc zero) h = refl
    go (suc (suc zero)) h = refl
    go (suc (suc (suc m))) h = absurd (omega arith)
