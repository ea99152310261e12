-- A number and its bytes: each gives the other.
use mathlib.Core.Path.{◌≡◌, refl}
use mathlib.Core.List.{List, [], ◌∷◌}
use Prim.Native.Nat.{ℕ, zero, suc, ◌+◌, ◌*◌, ◌/◌, ◌%◌, ◌<◌}
use native.Mathlib.Omega.{arith}
use lib.ListN.{get_or}
use Rattle.std.proofs.lemmas.Nat.{from_le_bytes-to_le_bytes_4, le_bytes_2, le_bytes_4}
use Rattle.little_endian.specs.Numbers.{u16_at, u32_at, bytes16, bytes32}

-- ---- the number that the bytes of a number make

pub joined16 : (x : ℕ) → x < 65536 → x % 256 + 256 * (x / 256 % 256) ≡ x
joined16 x l = omega arith

pub joined32 : (x : ℕ) → x < 4294967296 → x % 256 + 256 * (x / 256 % 256) + 65536 * (x / 65536 % 256) + 16777216 * (x / 16777216 % 256) ≡ x
joined32 x l = omega (arith, from_le_bytes-to_le_bytes_4 x l)

-- ---- at a place of a list

module _ (s : List ℕ) (p : ℕ) where
  pub bytes-of-u16 : get_or s p 0 < 256 → get_or s (p + 1) 0 < 256 → bytes16 (u16_at s p) ≡ get_or s p 0 ∷ get_or s (p + 1) 0 ∷ []
  unfolding u16_at bytes16
  bytes-of-u16 l0 l1 = le_bytes_2 (get_or s p 0 ∷ get_or s (p + 1) 0 ∷ []) _ refl go (omega arith)
    where
      go : (i : ℕ) → get_or (get_or s p 0 ∷ get_or s (p + 1) 0 ∷ []) i 0 < 256
      go zero = l0
      go (suc zero) = l1
      go (suc (suc i)) = omega arith

  pub bytes-of-u32 :
      get_or s p 0 < 256 → get_or s (p + 1) 0 < 256 → get_or s (p + 2) 0 < 256 → get_or s (p + 3) 0 < 256 →
      bytes32 (u32_at s p) ≡ get_or s p 0 ∷ get_or s (p + 1) 0 ∷ get_or s (p + 2) 0 ∷ get_or s (p + 3) 0 ∷ []
  unfolding u32_at bytes32
  bytes-of-u32 l0 l1 l2 l3 = le_bytes_4 (get_or s p 0 ∷ get_or s (p + 1) 0 ∷ get_or s (p + 2) 0 ∷ get_or s (p + 3) 0 ∷ []) _ refl go (omega arith)
    where
      go : (i : ℕ) → get_or (get_or s p 0 ∷ get_or s (p + 1) 0 ∷ get_or s (p + 2) 0 ∷ get_or s (p + 3) 0 ∷ []) i 0 < 256
      go zero = l0
      go (suc zero) = l1
      go (suc (suc zero)) = l2
      go (suc (suc (suc zero))) = l3
      go (suc (suc (suc (suc i)))) = omega arith
