-- What the controller owes, with the paper's sentence above each.
use mathlib.Core.Path.{◌≡◌, refl, sym, ap, subst}
use mathlib.Core.Bool.{Bool, true, false, not, cond, ◌||◌}
use mathlib.Core.List.{List, [], ◌∷◌}
use Prim.Native.Nat.{ℕ, ◌+◌, ◌-◌, ◌*◌, ◌/◌, ◌%◌, ◌^◌, ◌<◌, ◌≤◌}
use native.Mathlib.Omega.{arith}
use native.Mathlib.Nat.{mod-lt}
use mir.Val.{bool_byte}
use lib.Dec.{T, eqb, leb, ltb, lit<}
use lib.ListN.{set}
use borrow.Author.Tests.{lt-ltb, le-ltb, lt-leb, ltb-true, ltb-false, ne_eqb}
use Rattle.answers.specs.declared.Answer.{Answer}
use Rattle.answers.specs.declared.Answer.TheVariants as answer
use Rattle.answers.specs.declared.Refusal.{Refusal}
use Rattle.answers.specs.declared.Refusal.TheVariants as refusal
use Rattle.answers.specs.Numbers.{number_of, bare, numbers_of}
use Rattle.answers.specs.Order.{Test, test, Given}
use Rattle.answers.proofs.Order.{only_if, if, Decided, done_decided, refused-decided, then-decided}
use Rattle.answers.proofs.Refused.{answer_number, refused-bare, one-result}
use Rattle.entries.specs.declared.Entries.{Entries}
use Rattle.entries.specs.Table.{low_at, first_eligible, eligible_at, given, taken, low_shown}
use Rattle.entries.proofs.Delivery.{Lowest, first-eligible-le, lowest-found, lowest-of, none-eligible, none-eligible-of, bit-12}
use Rattle.controller.specs.declared.Controller.{Controller}
use Rattle.controller.specs.declared.Turn.{Turn}
use Rattle.controller.specs.State.{with_index, with_entries, well_formed, turn, refused, tested}
use Rattle.controller.specs.Window.{data_read, data_written, reading_of, writing_of, read_of, write_of}
use Rattle.controller.specs.Steps.{rewired, wire_of, after_end, end_of, delivering_of, deliver_of}
use Rattle.controller.specs.Calls.{Call, read, write, wire, end, deliver, turn_of, read_tests, write_tests, tests_of}
use Rattle.controller.proofs.Formed.{formed}

-- ---- refusals

abbrev DecidedTurn : Controller → List Test → Turn → Type 0
DecidedTurn c ts t = Decided Controller ts c t.controller t.answer

module _ (c : Controller) where
  -- a test with its refusal, and what comes after it
  then : (n : ℕ) (ts : List Test) (r : Refusal) (t : Turn) (f : Bool) → number_of r ≡ n → DecidedTurn c ts t → DecidedTurn c (test n (not f) ∷ ts) (cond f t (refused c r))
  then n ts r t f e =
      then-decided (λ (x : Turn). x.controller) (λ (x : Turn). x.answer) c n ts t (refused c r) f (refused-decided c (test n true) ts r refl e)

  -- refusal 5 is tested first
  formed-first : (ts : List Test) (t : Turn) → DecidedTurn c ts t → DecidedTurn c (test 5 (not (well_formed c)) ∷ ts) (tested c t)
  unfolding number_of
  formed-first ts t = then 5 ts refusal.State t (well_formed c) refl

  pub reading-decided : (w o : ℕ) → DecidedTurn c (read_tests w o) (reading_of c w o)
  unfolding reading_of number_of numbers_of
  reading-decided w o = then 2 _ refusal.Width _ (eqb w 4) refl (go (eqb o 0) (eqb o 0x10))
    where
      go : (x y : Bool) → DecidedTurn c (test 1 (not (x || y)) ∷ []) (cond x (turn c (answer.Value c.index)) (cond y (turn c (answer.Value (data_read c))) (refused c refusal.Offset)))
      go true y = then 1 [] refusal.Offset _ true refl (done_decided c c (answer.Value c.index) refl)
      go false y = then 1 [] refusal.Offset _ y refl (done_decided c c (answer.Value (data_read c)) refl)

  pub writing-decided : (w o v : ℕ) → DecidedTurn c (write_tests w o v) (writing_of c w o v)
  unfolding writing_of number_of numbers_of
  writing-decided w o v =
      then 2 _ refusal.Width _ (eqb w 4) refl
      (then 1 _ refusal.Offset _ (eqb o 0 || eqb o 0x10) refl
      (then 4 [] refusal.Value _ (ltb v (2 ^ 32)) refl (done_decided c (cond (eqb o 0) (with_index c (v % 256)) (data_written c v)) answer.Done refl)))

  pub delivering-decided : DecidedTurn c [] (delivering_of c)
  unfolding delivering_of numbers_of
  delivering-decided = go (ltb (first_eligible c.entries) 24)
    where
      go : (b : Bool) → DecidedTurn c [] (cond b (turn (with_entries c (taken c.entries (first_eligible c.entries))) (given c.entries (first_eligible c.entries))) (turn c answer.Nothing))
      go true = done_decided c (with_entries c (taken c.entries (first_eligible c.entries))) (given c.entries (first_eligible c.entries)) refl
      go false = done_decided c c answer.Nothing refl

  decided : (k : Call) → DecidedTurn c (tests_of c k) (turn_of c k)
  unfolding turn_of tests_of read_of write_of wire_of end_of deliver_of number_of numbers_of
  decided (read w o) = formed-first _ (reading_of c w o) (reading-decided w o)
  decided (write w o v) = formed-first _ (writing_of c w o v) (writing-decided w o v)
  decided (wire p l) =
      formed-first _ _
      (then 3 _ refusal.Pin _ (ltb p 24) refl
      (then 4 [] refusal.Level _ (leb l 1) refl (done_decided c (rewired c (set c.entries.level p l)) answer.Done refl)))
  decided (end v) = formed-first [] _ (done_decided c (after_end c v) answer.Done refl)
  decided deliver = formed-first [] (delivering_of c) delivering-decided

module _ (c : Controller) (k : Call) where
  -- "Given exactly when": a number is given if and only if its test holds and none before it does
  pub number-only-if : (n : ℕ) → answer_number (turn_of c k).answer ≡ n → Given (tests_of c k) n
  number-only-if = only_if (tests_of c k) (answer_number (turn_of c k).answer) (decided c k).number

  pub number-if : (n : ℕ) → Given (tests_of c k) n → answer_number (turn_of c k).answer ≡ n
  number-if = if (tests_of c k) (answer_number (turn_of c k).answer) (decided c k).number

  -- "same state"
  pub refused-same : (answer_number (turn_of c k).answer ≡ 0 → ⊥) → (turn_of c k).controller ≡ c
  refused-same = (decided c k).same

  -- "read value 0, no delivery"
  pub refused-empty : (answer_number (turn_of c k).answer ≡ 0 → ⊥) → numbers_of (turn_of c k).answer ≡ bare (answer_number (turn_of c k).answer)
  refused-empty = refused-bare (turn_of c k).answer

  -- "any two results allowed are equal"
  pub one-turn : (r s : Turn) → r ≡ turn_of c k → s ≡ turn_of c k → r ≡ s
  one-turn r s = one-result

-- ---- delivery: "the lowest-numbered eligible pin"; "No eligible pin: none, same state"

given-pin : (e : Entries) (i p : ℕ) → given e i ≡ given e p → i ≡ p
unfolding numbers_of
given-pin e i p q = ap (λ (a : Answer). (numbers_of a).pin) q

not-nothing : {A : Type 0} (e : Entries) (p : ℕ) → answer.Nothing ≡ given e p → A
unfolding numbers_of
not-nothing e p q = absurd (subst one (ap (λ (a : Answer). (numbers_of a).delivered) q) tt)
  where
    one : ℕ → Type 0
    one n = T (eqb n 0)

not-refused : {A : Type 0} (e : Entries) (p : ℕ) → answer.Refused refusal.State ≡ given e p → A
unfolding numbers_of number_of
not-refused e p q = absurd (subst five (ap answer_number q) tt)
  where
    five : ℕ → Type 0
    five n = T (eqb n 5)

refused-not-nothing : {A : Type 0} → answer.Refused refusal.State ≡ answer.Nothing → A
unfolding numbers_of number_of
refused-not-nothing q = absurd (subst five (ap answer_number q) tt)
  where
    five : ℕ → Type 0
    five n = T (eqb n 5)

module _ (c : Controller) where
  pub read-served : well_formed c ≡ true → (width offset : ℕ) → read_of c width offset ≡ reading_of c width offset
  unfolding read_of
  read-served w width offset = rw w

  pub write-served : well_formed c ≡ true → (width offset value : ℕ) → turn_of c (write width offset value) ≡ writing_of c width offset value
  unfolding turn_of write_of
  write-served w width offset value = rw w

  pub deliver-served : well_formed c ≡ true → deliver_of c ≡ delivering_of c
  unfolding deliver_of
  deliver-served w = rw w

  pub deliver-is : turn_of c deliver ≡ deliver_of c
  unfolding turn_of
  deliver-is = refl

  abbrev e : Entries
  e = c.entries

  -- a vector has eight bits
  pub delivering-vector : (numbers_of (delivering_of c).answer).vector < 2 ^ 8
  unfolding delivering_of numbers_of
  delivering-vector = go (ltb (first_eligible e) 24)
    where
      go : (x : Bool) → (numbers_of (cond x (turn (with_entries c (taken e (first_eligible e))) (given e (first_eligible e))) (turn c answer.Nothing)).answer).vector < 2 ^ 8
      go true = mod-lt (low_at e (first_eligible e)) (lit< tt)
      go false = lit< tt

  pub delivers-if : (p : ℕ) → well_formed c ≡ true → p < 24 → Lowest e p → deliver_of c ≡ turn (with_entries c (taken e p)) (given e p)
  unfolding deliver_of delivering_of
  delivers-if p w l low = rw (w, lowest-of e p l low, lt-ltb p 24 l)

  pub delivers-only-if : (p : ℕ) → (deliver_of c).answer ≡ given e p → (well_formed c ≡ true) × (p < 24) × Lowest e p
  unfolding deliver_of delivering_of
  delivers-only-if p = go (well_formed c) refl (ltb (first_eligible e) 24) refl
    where
      go :
          (w : Bool) → well_formed c ≡ w → (b : Bool) → ltb (first_eligible e) 24 ≡ b →
          (cond w (cond b (turn (with_entries c (taken e (first_eligible e))) (given e (first_eligible e))) (turn c answer.Nothing)) (refused c refusal.State)).answer ≡ given e p →
          (well_formed c ≡ true) × (p < 24) × Lowest e p
      go true x true y q =
          let f = given-pin e (first_eligible e) p q in
          let l : p < 24 = subst (λ (i : ℕ). i < 24) f (ltb-true (first_eligible e) 24 y) in
          (x, l, lowest-found e p l f)
      go true x false y q = not-nothing e p q
      go false x b y q = not-refused e p q

  pub none-if : well_formed c ≡ true → ((p : ℕ) → p < 24 → eligible_at e p ≡ false) → deliver_of c ≡ turn c answer.Nothing
  unfolding deliver_of delivering_of
  none-if w n = rw (w, none-eligible-of e n)

  pub none-only-if : (deliver_of c).answer ≡ answer.Nothing → (well_formed c ≡ true) × ((p : ℕ) → p < 24 → eligible_at e p ≡ false)
  unfolding deliver_of delivering_of
  none-only-if = go (well_formed c) refl (ltb (first_eligible e) 24) refl
    where
      go :
          (w : Bool) → well_formed c ≡ w → (b : Bool) → ltb (first_eligible e) 24 ≡ b →
          (cond w (cond b (turn (with_entries c (taken e (first_eligible e))) (given e (first_eligible e))) (turn c answer.Nothing)) (refused c refusal.State)).answer ≡ answer.Nothing →
          (well_formed c ≡ true) × ((p : ℕ) → p < 24 → eligible_at e p ≡ false)
      go true x true y q = not-nothing e (first_eligible e) (sym q)
      go true x false y q = (x, none-eligible e (ends (first_eligible e) (first-eligible-le e) (ltb-false (first_eligible e) 24 y)))
        where
          ends : (i : ℕ) → i ≤ 24 → 24 ≤ i → i ≡ 24
          ends i a b = omega arith
      go false x b y q = refused-not-nothing q

-- ---- "Bit 12 reads 1 exactly for an eligible pin"

module _ (c : Controller) (w : well_formed c ≡ true) (i : ℕ) (l : i < 24) (at : c.index ≡ 0x10 + 2 * i) where
  low_read : data_read c ≡ low_shown c.entries i
  unfolding data_read
  low_read =
      let half : (0x10 + 2 * i - 0x10) / 2 ≡ i = omega arith in
      let even : (0x10 + 2 * i - 0x10) % 2 ≡ 0 = omega arith in
      rw (at, ne_eqb (0x10 + 2 * i) 0 (omega arith), ne_eqb (0x10 + 2 * i) 1 (omega arith), ne_eqb (0x10 + 2 * i) 2 (omega arith), le-ltb (0x10 + 2 * i) 0x10 (omega arith), lt-leb 0x40 (0x10 + 2 * i) (omega arith), even, half)

  pub status-read : (numbers_of (read_of c 4 0x10).answer).value / 4096 % 2 ≡ bool_byte (eligible_at c.entries i)
  unfolding read_of reading_of numbers_of
  status-read = rw (w, low_read) (bit-12 c.entries (formed c w).entries i l)
