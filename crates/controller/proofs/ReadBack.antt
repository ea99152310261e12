-- The window's registers: what index i reads, and what a write at it leaves there and elsewhere.
use mathlib.Core.Path.{◌≡◌, refl, sym, ap, ◌∙◌}
use mathlib.Core.Bool.{Bool, true, false, cond}
use Prim.Native.Nat.{ℕ, ◌+◌, ◌-◌, ◌*◌, ◌/◌, ◌%◌, ◌^◌, ◌<◌, ◌≤◌}
use mathlib.Core.Logic.{◌⊎◌, inl, inr}
use native.Mathlib.Omega.{arith}
use native.Mathlib.Decide.{dec_lt, ℕ_discrete}
use mir.Val.{bool_byte}
use lib.Dec.{eqb, leb, ltb}
use borrow.Author.Tests.{ltb-true, lt-ltb, le-ltb, le-leb, lt-leb, eq-eqb, ne_eqb}
use Rattle.answers.specs.declared.Answer.{Answer}
use Rattle.answers.specs.declared.Answer.TheVariants as answer
use Rattle.entries.specs.declared.Entries.{Entries}
use Rattle.entries.specs.Table.{eligible_at, first_eligible, given, taken, destination_of, low_shown, high_shown, low_written, high_written}
use Rattle.entries.proofs.Sized.{Sized}
use Rattle.entries.proofs.ReadBack.{word, low-back, high-back, low-leaves-high, high-leaves-low, low-leaves-low, high-leaves-high, given-shown}
use Rattle.controller.specs.declared.Controller.{Controller}
use Rattle.controller.specs.State.{with_id, with_index, with_entries, turn}
use Rattle.controller.specs.Window.{id_shown, entry_read, entry_written, data_read, data_written, reading_of, writing_of}
use Rattle.controller.specs.Steps.{delivering_of}

-- what index i reads, and the state after a write of v at it
abbrev pub shown_at : Controller → ℕ → ℕ
shown_at c i = data_read (with_index c i)

abbrev pub written_at : Controller → ℕ → ℕ → Controller
written_at c i v = data_written (with_index c i) v

-- no register stands there
abbrev pub Unlisted : ℕ → Type 0
Unlisted i = ((2 < i) × (i < 0x10)) ⊎ (0x40 ≤ i)

-- ---- the two offsets

module _ (c : Controller) where
  pub reads-index : reading_of c 4 0x00 ≡ turn c (answer.Value c.index)
  unfolding reading_of
  reads-index = refl

  pub reads-data : reading_of c 4 0x10 ≡ turn c (answer.Value (data_read c))
  unfolding reading_of
  reads-data = refl

  module _ (v : ℕ) (l : v < 2 ^ 32) where
    pub selects : writing_of c 4 0x00 v ≡ turn (with_index c (v % 2 ^ 8)) answer.Done
    unfolding writing_of
    selects = rw (lt-ltb v (2 ^ 32) l)

    pub puts : writing_of c 4 0x10 v ≡ turn (data_written c v) answer.Done
    unfolding writing_of
    puts = rw (lt-ltb v (2 ^ 32) l)

-- a write leaves the index
pub written-index : (c : Controller) (i v : ℕ) → with_index (written_at c i v) i ≡ written_at c i v
unfolding data_written
written-index c i v = go (eqb i 0) (ltb i 0x10) (leb 0x40 i)
  where
    go :
        (x y z : Bool) →
        with_index (cond x (with_id (with_index c i) (v / 2 ^ 24 % 16)) (cond y (with_index c i) (cond z (with_index c i) (entry_written (with_index c i) (i - 0x10) v)))) i
        ≡ cond x (with_id (with_index c i) (v / 2 ^ 24 % 16)) (cond y (with_index c i) (cond z (with_index c i) (entry_written (with_index c i) (i - 0x10) v)))
    go true y z = refl
    go false true z = refl
    go false false true = refl
    go false false false = refl

-- ---- the places of an entry's words

module _ (n : ℕ) where
  low-even : (0x10 + 2 * n - 0x10) % 2 ≡ 0
  low-even = omega arith

  low_half : (0x10 + 2 * n - 0x10) / 2 ≡ n
  low_half = omega arith

  high-odd : (0x11 + 2 * n - 0x10) % 2 ≡ 1
  high-odd = omega arith

  high_half : (0x11 + 2 * n - 0x10) / 2 ≡ n
  high_half = omega arith

-- ---- by the index

module _ (c : Controller) where
  module _ (i : ℕ) (h : 0x10 ≤ i) (l : i < 0x40) where
    entry_read_lem : shown_at c i ≡ entry_read c (i - 0x10)
    unfolding data_read
    entry_read_lem = rw (ne_eqb i 0 (λ q. omega arith), ne_eqb i 1 (λ q. omega arith), ne_eqb i 2 (λ q. omega arith), le-ltb i 0x10 h, lt-leb 0x40 i l)

    entry-put : (v : ℕ) → written_at c i v ≡ entry_written (with_index c i) (i - 0x10) v
    unfolding data_written
    entry-put v = rw (ne_eqb i 0 (λ q. omega arith), le-ltb i 0x10 h, lt-leb 0x40 i l)

  module _ (n : ℕ) (l : n < 24) where
    pub low_read : shown_at c (0x10 + 2 * n) ≡ low_shown c.entries n
    low_read = entry_read_lem (0x10 + 2 * n) (omega arith) (omega arith) ∙ rw (low-even n, low_half n)

    high_read : shown_at c (0x11 + 2 * n) ≡ high_shown c.entries n
    high_read = entry_read_lem (0x11 + 2 * n) (omega arith) (omega arith) ∙ rw (high-odd n, high_half n)

    module _ (v : ℕ) where
      low-put : written_at c (0x10 + 2 * n) v ≡ with_entries (with_index c (0x10 + 2 * n)) (low_written c.entries n v)
      low-put = entry-put (0x10 + 2 * n) (omega arith) (omega arith) v ∙ rw (low-even n, low_half n)

      high-put : written_at c (0x11 + 2 * n) v ≡ with_entries (with_index c (0x11 + 2 * n)) (high_written c.entries n v)
      high-put = entry-put (0x11 + 2 * n) (omega arith) (omega arith) v ∙ rw (high-odd n, high_half n)

-- ---- a read after a write at the same index

module _ (c : Controller) (v : ℕ) where
  pub id-back : shown_at (written_at c 0 v) 0 ≡ v / 2 ^ 24 % 2 ^ 4 * 2 ^ 24
  unfolding data_read data_written
  id-back = ap (λ (x : ℕ). x * 2 ^ 24) (small (v / 2 ^ 24))
    where
      small : (x : ℕ) → x % 16 % 16 ≡ x % 16
      small x = omega arith

  -- read only
  pub others-ignore : (i : ℕ) → (i ≡ 0 → ⊥) → (i < 0x10) ⊎ (0x40 ≤ i) → written_at c i v ≡ with_index c i
  unfolding data_written
  others-ignore i d (inl l) = rw (ne_eqb i 0 d, lt-ltb i 0x10 l)
  others-ignore i d (inr h) = rw (ne_eqb i 0 d, le-ltb i 0x10 (omega arith), le-leb 0x40 i h)

  module _ (z : Sized c.entries) (n : ℕ) (l : n < 24) where
    pub low-word-back :
        shown_at (written_at c (0x10 + 2 * n) v) (0x10 + 2 * n)
        ≡ word v (bool_byte (eligible_at (written_at c (0x10 + 2 * n) v).entries n)) (v / 2 ^ 15 % 2 * (shown_at c (0x10 + 2 * n) / 2 ^ 14 % 2))
    low-word-back =
        rw (low-put c n l v, low_read c n l) (low_read (with_entries c (low_written c.entries n v)) n l ∙ low-back c.entries z n l v)

    pub high-word-back : shown_at (written_at c (0x11 + 2 * n) v) (0x11 + 2 * n) ≡ destination_of v * 2 ^ 24
    high-word-back = rw (high-put c n l v) (high_read (with_entries c (high_written c.entries n v)) n l ∙ high-back c.entries z n l v)

-- ---- what the indexes read that no entry stands at

module _ (c : Controller) where
  pub id-shown : shown_at c 0 ≡ c.id % 16 * 2 ^ 24
  unfolding data_read
  id-shown = refl

  pub version-shown : shown_at c 1 ≡ 0x00170011
  unfolding data_read
  version-shown = refl

  -- index 2 shows the id
  pub arbitration-shown : shown_at c 2 ≡ shown_at c 0
  unfolding data_read
  arbitration-shown = refl

  pub others-shown : (i : ℕ) → Unlisted i → shown_at c i ≡ 0
  unfolding data_read
  others-shown i (inl p) = let h : 2 < i = p.0 in rw (ne_eqb i 0 (λ q. omega arith), ne_eqb i 1 (λ q. omega arith), ne_eqb i 2 (λ q. omega arith), lt-ltb i 0x10 p.1)
  others-shown i (inr h) =
      rw (ne_eqb i 0 (λ q. omega arith), ne_eqb i 1 (λ q. omega arith), ne_eqb i 2 (λ q. omega arith), le-ltb i 0x10 (omega arith), le-leb 0x40 i h)

-- ---- a write leaves what every other index reads

same_word : (m k : ℕ) → k / 2 ≡ m / 2 → k % 2 ≡ m % 2 → k ≡ m
same_word m k p q = omega arith

odd : (k : ℕ) → (k % 2 ≡ 0 → ⊥) → k % 2 ≡ 1
odd k d = omega arith

abbrev put : Entries → ℕ → ℕ → Bool → Entries
put e m v low = cond low (low_written e (m / 2) v) (high_written e (m / 2) v)

abbrev shows : Entries → ℕ → Bool → ℕ
shows e k low = cond low (low_shown e (k / 2)) (high_shown e (k / 2))

module _ (e : Entries) (v m k : ℕ) (d : k ≡ m → ⊥) where
  entry_other : shows (put e m v (eqb (m % 2) 0)) k (eqb (k % 2) 0) ≡ shows e k (eqb (k % 2) 0)
  entry_other = go (ℕ_discrete (m % 2) 0) (ℕ_discrete (k % 2) 0)
    where
      go : Dec (m % 2 ≡ 0) → Dec (k % 2 ≡ 0) → shows (put e m v (eqb (m % 2) 0)) k (eqb (k % 2) 0) ≡ shows e k (eqb (k % 2) 0)
      go (yes p) (yes q) = rw (eq-eqb (m % 2) 0 p, eq-eqb (k % 2) 0 q) (low-leaves-low e (m / 2) v (k / 2) (λ h. d (same_word m k h (q ∙ sym p))))
      go (yes p) (no q) = rw (eq-eqb (m % 2) 0 p, ne_eqb (k % 2) 0 q) (low-leaves-high e (m / 2) v (k / 2))
      go (no p) (yes q) = rw (ne_eqb (m % 2) 0 p, eq-eqb (k % 2) 0 q) (high-leaves-low e (m / 2) v (k / 2))
      go (no p) (no q) = rw (ne_eqb (m % 2) 0 p, ne_eqb (k % 2) 0 q) (high-leaves-high e (m / 2) v (k / 2) (λ h. d (same_word m k h (odd k q ∙ sym (odd m p)))))

module _ (c : Controller) where
  -- other entries are read only at 0x10 and above
  entries-other : (x : Entries) (j : ℕ) → (0x10 ≤ j → entry_read (with_entries c x) (j - 0x10) ≡ entry_read c (j - 0x10)) → shown_at (with_entries c x) j ≡ shown_at c j
  unfolding data_read
  entries-other x j same = go (dec_lt j 0x10)
    where
      go : Dec (j < 0x10) → shown_at (with_entries c x) j ≡ shown_at c j
      go (yes l) = rw (lt-ltb j 0x10 l)
      go (no n) =
          ap
          (λ (w : ℕ). cond (eqb j 0) (id_shown c) (cond (eqb j 1) 0x170011 (cond (eqb j 2) (id_shown c) (cond (ltb j 0x10) 0 (cond (leb 0x40 j) 0 w)))))
          (same (omega arith))

  -- another id is read only at 0 and 2
  id_other : (x j : ℕ) → (j ≡ 0 → ⊥) → (j ≡ 2 → ⊥) → shown_at (with_id c x) j ≡ shown_at c j
  unfolding data_read
  id_other x j d0 d2 = rw (ne_eqb j 0 d0, ne_eqb j 2 d2)

  id-put : (v : ℕ) → written_at c 0 v ≡ with_id (with_index c 0) (v / 2 ^ 24 % 16)
  unfolding data_written
  id-put v = refl

  pub others-kept : (i v j : ℕ) → (j ≡ i → ⊥) → (i ≡ 0 → j ≡ 2 → ⊥) → shown_at (written_at c i v) j ≡ shown_at c j
  others-kept i v j d a = go (ℕ_discrete i 0) (dec_lt i 0x10) (dec_lt i 0x40)
    where
      go : Dec (i ≡ 0) → Dec (i < 0x10) → Dec (i < 0x40) → shown_at (written_at c i v) j ≡ shown_at c j
      go (yes q) y z = ap (λ (k : ℕ). shown_at (written_at c k v) j) q ∙ ap (λ (x : Controller). shown_at x j) (id-put v) ∙ id_other (v / 2 ^ 24 % 16) j (λ r. d (r ∙ sym q)) (a q)
      go (no n) (yes l) z = ap (λ (x : Controller). shown_at x j) (others-ignore c v i n (inl l))
      go (no n) (no m) (no h) = ap (λ (x : Controller). shown_at x j) (others-ignore c v i n (inr (omega arith)))
      go (no n) (no m) (yes l) =
          ap (λ (x : Controller). shown_at x j) (entry-put c i (omega arith) l v)
          ∙ entries-other (put c.entries (i - 0x10) v (eqb ((i - 0x10) % 2) 0)) j (λ h. entry_other c.entries v (i - 0x10) (j - 0x10) (λ q. d (omega arith)))

-- ---- a delivery's vector, destination and bit 11 stand in the two words of its pin

-- the pin of a delivery, from 1
pinned : Answer → ℕ
pinned answer.Done = 0
pinned (answer.Value v) = 0
pinned (answer.Fired x y z) = 0
pinned (answer.Interrupt p v d l) = 1 + p
pinned answer.Nothing = 0
pinned (answer.Refused r) = 0

abbrev pub delivery : Controller → ℕ → Answer
delivery c p = answer.Interrupt p (shown_at c (0x10 + 2 * p) % 2 ^ 8) (shown_at c (0x11 + 2 * p) / 2 ^ 24) (shown_at c (0x10 + 2 * p) / 2 ^ 11 % 2)

module _ (c : Controller) where
  abbrev e : Entries
  e = c.entries

  pub given-words : (p : ℕ) → p < 24 → given e p ≡ delivery c p
  given-words p l = rw (low_read c p l, high_read c p l) (given-shown e p)

  pub delivered-words : (p v d l : ℕ) → (delivering_of c).answer ≡ answer.Interrupt p v d l → (p < 24) × ((delivering_of c).answer ≡ delivery c p)
  unfolding delivering_of pinned
  delivered-words p v d l = go (ltb (first_eligible e) 24) refl
    where
      answered : Bool → Answer
      answered b = (cond b (turn (with_entries c (taken e (first_eligible e))) (given e (first_eligible e))) (turn c answer.Nothing)).answer

      go : (b : Bool) → ltb (first_eligible e) 24 ≡ b → answered b ≡ answer.Interrupt p v d l → (p < 24) × (answered b ≡ delivery c p)
      go true t q =
          let pin : 1 + first_eligible e ≡ 1 + p = ap pinned q in
          let same : first_eligible e ≡ p = omega arith in
          let below : p < 24 = omega (arith, ltb-true (first_eligible e) 24 t) in
          (below, ap (given e) same ∙ given-words p below)
      go false t q = let none : 0 ≡ 1 + p = ap pinned q in absurd (omega arith)
