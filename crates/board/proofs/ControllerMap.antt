-- The controller's registers, as calls of a well-formed board show them: document 01's table and its bits, over the
-- numbers written and read.
use mathlib.Core.Path.{◌≡◌, sym, ap, ◌∙◌}
use mathlib.Core.Logic.{◌⊎◌}
use mathlib.Core.List.{[], ◌∷◌}
use Prim.Native.Nat.{ℕ, ◌+◌, ◌*◌, ◌/◌, ◌%◌, ◌^◌, ◌<◌, ◌≤◌}
use native.Mathlib.Omega.{arith}
use native.Mathlib.Nat.{mod-eq_of_lt}
use mir.Val.{bool_byte}
use Rattle.answers.specs.declared.Answer.{Answer}
use Rattle.answers.specs.declared.Answer.TheVariants as answer
use Rattle.answers.specs.Sheet.{ok, value}
use Rattle.entries.specs.Table.{eligible_at}
use Rattle.entries.proofs.ReadBack.{word, word-vector, word-logical}
use Rattle.controller.specs.declared.Controller.{Controller}
use Rattle.controller.specs.State.{with_index}
use Rattle.controller.specs.Window.{data_read, data_written}
use Rattle.controller.specs.Steps.{delivering_of}
use Rattle.controller.proofs.ReadBack.{shown_at, written_at, Unlisted, written-index, version-shown, arbitration-shown, others-shown, others-ignore, delivery, delivered-words}
use Rattle.controller.proofs.ReadBack.{id-back as id-stored, low-word-back, high-word-back, others-kept as others-stay}
use Rattle.board.specs.declared.Board.{Board}
use Rattle.board.specs.declared.Call.TheVariants as call
use Rattle.board.specs.declared.Turn.{Turn}
use Rattle.board.specs.State.{with_controller, turn}
use Rattle.board.specs.Step.{delivering_on_board, turn_of}
use Rattle.board.specs.Runs.{answers}
use Rattle.board.specs.Accesses.{select, index, put, get, low_word, high_word}
use Rattle.board.proofs.Formed.{Formed, formed-out}
use Rattle.board.proofs.Keeps.{keeps, served}
use Rattle.board.proofs.Served.{served-deliver}
use Rattle.board.proofs.Windows.{same-value, indexes, gets, selects, puts}

-- what index i reads
abbrev pub reads : Board → ℕ → Answer
reads b i = (turn_of (turn_of b (select i)).board get).answer

-- the board after v is written at index i
abbrev pub stored : Board → ℕ → ℕ → Board
stored b i v = (turn_of (turn_of b (select i)).board (put v)).board

-- w bits of v from bit k up, in their place
abbrev pub bits : ℕ → ℕ → ℕ → ℕ
bits k w v = v / 2 ^ k % 2 ^ w * 2 ^ k

byte : (v : ℕ) → v < 2 ^ 32 → v / 2 ^ 24 ≡ v / 2 ^ 24 % 2 ^ 8
byte v l = omega arith

-- ---- the accesses, by what the controller makes of them

module _ (b : Board) (z : Formed b) where
  abbrev c : Controller
  c = b.controller

  module _ (i : ℕ) (h : i ≤ 255) where
    pub selected : (turn_of b (select i)).board ≡ with_controller b (with_index c i)
    selected = ap (λ (t : Turn). t.board) (selects b z i (omega arith)) ∙ ap (λ (k : ℕ). with_controller b (with_index c k)) (mod-eq_of_lt {n = i} {m = 2 ^ 8} (omega arith))

    pub shown : reads b i ≡ value (shown_at c i)
    shown = ap (λ (t : Turn). t.answer) (gets (turn_of b (select i)).board (keeps b z (select i))) ∙ ap (λ (x : Board). value (data_read x.controller)) selected

    module _ (v : ℕ) (l : v < 2 ^ 32) where
      stored-formed : Formed (stored b i v)
      stored-formed = keeps (turn_of b (select i)).board (keeps b z (select i)) (put v)

      stored_is : stored b i v ≡ with_controller b (written_at c i v)
      stored_is =
          ap (λ (t : Turn). t.board) (puts (turn_of b (select i)).board (keeps b z (select i)) v l)
          ∙ ap (λ (x : Board). with_controller x (data_written x.controller v)) selected

      -- done, and what the register then reads
      read_back : answers b (select i ∷ put v ∷ get ∷ []) ≡ ok ∷ ok ∷ value (shown_at (written_at c i v) i) ∷ []
      unfolding answers
      read_back = λ k.
          (selects b z i (omega arith) k).answer
          ∷ (puts (turn_of b (select i)).board (keeps b z (select i)) v l k).answer
          ∷ (ap (λ (t : Turn). t.answer) (gets (stored b i v) stored-formed)
          ∙ ap (λ (x : Board). value (data_read x.controller)) stored_is
          ∙ ap (λ (x : Controller). value (data_read x)) (sym (written-index c i v))) k
          ∷ []

  pub by-controller : (turn_of b call.Deliver).answer ≡ (delivering_of c).answer
  unfolding delivering_on_board
  by-controller = ap (λ (t : Turn). t.answer) (served b call.Deliver (formed-out b z) ∙ served-deliver b)

-- ---- the table

module _ (b : Board) (z : Formed b) (v : ℕ) (l : v < 2 ^ 32) where
  -- "Offset 0x00 is the index (bits 7:0 kept, the rest read 0)."
  pub index_back : answers b (select v ∷ index ∷ []) ≡ ok ∷ value (v % 2 ^ 8) ∷ []
  unfolding answers
  index_back = λ k.
      (selects b z v l k).answer
      ∷ (ap (λ (t : Turn). t.answer) (indexes (turn_of b (select v)).board (keeps b z (select v)))
      ∙ ap (λ (t : Turn). value t.board.controller.index) (selects b z v l)) k
      ∷ []

  -- "0x00: id, bits 27:24, writable"
  pub id-back : answers b (select 0x00 ∷ put v ∷ get ∷ []) ≡ ok ∷ ok ∷ value (bits 24 4 v) ∷ []
  id-back = read_back b z 0x00 (omega arith) v l ∙ ap (λ (x : ℕ). ok ∷ ok ∷ value x ∷ []) (id-stored b.controller v)

  -- "0x01: 0x00170011, read only"
  pub version-back : answers b (select 0x01 ∷ put v ∷ get ∷ []) ≡ ok ∷ ok ∷ value 0x00170011 ∷ []
  version-back = read_back b z 0x01 (omega arith) v l ∙ ap (λ (x : ℕ). ok ∷ ok ∷ value x ∷ []) (version-shown (written_at b.controller 0x01 v))

  -- "0x10+2n: entry n, low word": bits 11:0, 13, 15 and 16 as written; 12 where the pin is eligible; 14, remote IRR, as
  -- it was if 15 is written 1, and 0 if not; the rest 0
  pub low-back :
      (n r : ℕ) → n < 24 → reads b (low_word n) ≡ value r →
      answers b (select (low_word n) ∷ put v ∷ get ∷ [])
      ≡ ok ∷ ok
      ∷ value (v % 2 ^ 12 + bool_byte (eligible_at (stored b (low_word n) v).controller.entries n) * 2 ^ 12 + bits 13 1 v + v / 2 ^ 15 % 2 * (r / 2 ^ 14 % 2) * 2 ^ 14 + bits 15 1 v + bits 16 1 v)
      ∷ []
  low-back n r h e =
      read_back b z (low_word n) (omega arith) v l
      ∙ ap (λ (x : ℕ). ok ∷ ok ∷ value x ∷ []) (low-word-back b.controller v z.sized n h)
      ∙ (λ k. ok ∷ ok ∷ value (word v (bool_byte (eligible_at (after k).controller.entries n)) (v / 2 ^ 15 % 2 * (was k / 2 ^ 14 % 2))) ∷ [])
    where
      after : with_controller b (written_at b.controller (low_word n) v) ≡ stored b (low_word n) v
      after = sym (stored_is b z (low_word n) (omega arith) v l)

      was : shown_at b.controller (low_word n) ≡ r
      was = same-value _ _ (sym (shown b z (low_word n) (omega arith)) ∙ e)

  -- "0x11+2n: entry n, high word: destination, bits 31:24"
  pub high-back : (n : ℕ) → n < 24 → answers b (select (high_word n) ∷ put v ∷ get ∷ []) ≡ ok ∷ ok ∷ value (bits 24 8 v) ∷ []
  high-back n h =
      read_back b z (high_word n) (omega arith) v l
      ∙ ap (λ (x : ℕ). ok ∷ ok ∷ value x ∷ []) (high-word-back b.controller v z.sized n h ∙ ap (λ (x : ℕ). x * 2 ^ 24) (byte v l))

  -- "Other indexes read 0."
  pub others-back : (i : ℕ) → i ≤ 255 → Unlisted i → answers b (select i ∷ put v ∷ get ∷ []) ≡ ok ∷ ok ∷ value 0 ∷ []
  others-back i h u = read_back b z i h v l ∙ ap (λ (x : ℕ). ok ∷ ok ∷ value x ∷ []) (others-shown (written_at b.controller i v) i u)

  -- "Writes to them and to read-only bits answer 0 and change nothing."
  pub ignored : (i : ℕ) → i ≤ 255 → (i ≡ 0 → ⊥) → (i < 0x10) ⊎ (0x40 ≤ i) → turn_of (turn_of b (select i)).board (put v) ≡ turn (turn_of b (select i)).board ok
  ignored i h d u =
      puts (turn_of b (select i)).board (keeps b z (select i)) v l
      ∙ ap (λ (x : Board). turn (with_controller x (data_written x.controller v)) ok) (selected b z i h)
      ∙ ap (λ (x : Controller). turn (with_controller b x) ok) (others-ignore b.controller v i d u)
      ∙ ap (λ (x : Board). turn x ok) (sym (selected b z i h))

  -- a write at one index leaves what every other reads, but that index 2 shows the id
  pub others-kept : (i j : ℕ) → i ≤ 255 → j ≤ 255 → (j ≡ i → ⊥) → (i ≡ 0x00 → j ≡ 0x02 → ⊥) → reads (stored b i v) j ≡ reads b j
  others-kept i j h k d a =
      shown (stored b i v) (stored-formed b z i h v l) j k
      ∙ ap (λ (x : Board). value (shown_at x.controller j)) (stored_is b z i h v l)
      ∙ ap value (others-stay b.controller i v j d a)
      ∙ sym (shown b z j k)

module _ (b : Board) (z : Formed b) where
  -- "0x02: bits 27:24 equal the id, read only"
  pub arbitration-is-id : reads b 0x02 ≡ reads b 0x00
  arbitration-is-id = shown b z 0x02 (omega arith) ∙ ap value (arbitration-shown b.controller) ∙ sym (shown b z 0x00 (omega arith))

  -- "Delivery step: the lowest-numbered eligible pin gives its pin number, vector, destination and bit 11": bits 7:0
  -- and 11 of its low word, 31:24 of its high word
  pub delivered-bits :
      (p vector destination logical low high : ℕ) → (turn_of b call.Deliver).answer ≡ answer.Interrupt p vector destination logical →
      reads b (low_word p) ≡ value low → reads b (high_word p) ≡ value high →
      (turn_of b call.Deliver).answer ≡ answer.Interrupt p (low % 2 ^ 8) (high / 2 ^ 24) (low / 2 ^ 11 % 2)
  delivered-bits p x d g low high e el eh =
      let r = delivered-words b.controller p x d g (sym (by-controller b z) ∙ e) in
      let h : p < 24 = r.0 in
      by-controller b z
      ∙ r.1
      ∙ (λ k. answer.Interrupt p (was (low_word p) low (omega arith) el k % 2 ^ 8) (was (high_word p) high (omega arith) eh k / 2 ^ 24) (was (low_word p) low (omega arith) el k / 2 ^ 11 % 2))
    where
      was : (i n : ℕ) → i ≤ 255 → reads b i ≡ value n → shown_at b.controller i ≡ n
      was i n h q = same-value _ _ (sym (shown b z i h) ∙ q)

-- … and so of the words written: Words.antt goes on from here to any later delivery
module _ (b : Board) (z : Formed b) (n v u : ℕ) (h : n < 24) (l : v < 2 ^ 32) (m : u < 2 ^ 32) where
  abbrev low-stored : Board
  low-stored = stored b (low_word n) v

  abbrev both_stored : Board
  both_stored = stored low-stored (high_word n) u

  z1 : Formed low-stored
  z1 = stored-formed b z (low_word n) (omega arith) v l

  pub both-formed : Formed both_stored
  both-formed = stored-formed low-stored z1 (high_word n) (omega arith) u m

  pub written-delivery : delivery both_stored.controller n ≡ answer.Interrupt n (v % 2 ^ 8) (u / 2 ^ 24) (v / 2 ^ 11 % 2)
  written-delivery =
      (λ k. answer.Interrupt n (low k % 2 ^ 8) (high k / 2 ^ 24) (low k / 2 ^ 11 % 2))
      ∙ (λ k. answer.Interrupt n (word-vector v s r k) (cancel (u / 2 ^ 24) k) (word-logical v s r k))
    where
      s : ℕ
      s = bool_byte (eligible_at (written_at b.controller (low_word n) v).entries n)

      r : ℕ
      r = v / 2 ^ 15 % 2 * (shown_at b.controller (low_word n) / 2 ^ 14 % 2)

      cancel : (x : ℕ) → x * 2 ^ 24 / 2 ^ 24 ≡ x
      cancel x = omega arith

      low : shown_at both_stored.controller (low_word n) ≡ word v s r
      low =
          ap (λ (y : Board). shown_at y.controller (low_word n)) (stored_is low-stored z1 (high_word n) (omega arith) u m)
          ∙ others-stay low-stored.controller (high_word n) u (low_word n) (λ q. omega arith) (λ q. omega arith)
          ∙ ap (λ (y : Board). shown_at y.controller (low_word n)) (stored_is b z (low_word n) (omega arith) v l)
          ∙ low-word-back b.controller v z.sized n h

      high : shown_at both_stored.controller (high_word n) ≡ u / 2 ^ 24 * 2 ^ 24
      high =
          ap (λ (y : Board). shown_at y.controller (high_word n)) (stored_is low-stored z1 (high_word n) (omega arith) u m)
          ∙ high-word-back low-stored.controller u z1.sized n h
