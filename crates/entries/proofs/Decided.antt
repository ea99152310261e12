-- A delivery, a low-word write and a change of a wire, decided and then applied, are the steps of Table.antt and
-- Inner.antt; at no pin, they change nothing.
use mathlib.Core.Path.{◌≡◌, refl, sym, ap, ◌∙◌}
use mathlib.Core.Bool.{Bool, true, false, cond}
use mathlib.Core.List.{List}
use Prim.Native.Nat.{ℕ, ◌<◌, ◌≤◌}
use native.Mathlib.Decide.{dec_le}
use native.Mathlib.Omega.{arith}
use lib.ListN.{set}
use lib.Seq.{set-get_or}
use borrow.Author.Tests.{lt-ltb, le-ltb}
use Rattle.answers.specs.declared.Answer.TheVariants as answer
use Rattle.entries.specs.declared.Entries.{Entries}
use Rattle.entries.specs.Word.{level_of, with_remote}
use Rattle.entries.specs.Table.{low_at, held_at, with_low, with_held, given, taken, low_written}
use Rattle.entries.specs.Inner.{taken_word, held_taken, wired_at}
use Rattle.entries.specs.Decision.{value_at, stored_at, delivered, delivery_at, write_at, change_at, renewed, rewired}
use Rattle.entries.proofs.Sized.{Sized, low-written-above}

pub write_done : (n v : ℕ) (w h : List ℕ) → (write_at n v w h).answer ≡ answer.Done
unfolding write_at
write_done n v w h = refl

module _ (e : Entries) (n : ℕ) where
  -- ---- at a pin

  module _ (below : n < 24) where
    pub delivery-taken : renewed e (delivery_at n e.destination e.low e.held) ≡ taken e n
    unfolding delivery_at value_at stored_at taken taken_word held_taken
    delivery-taken = rw (lt-ltb n 24 below) (go (level_of (low_at e n)))
      where
        go :
            (b : Bool) →
            with_held (with_low e (set e.low n (cond b (with_remote (low_at e n)) (low_at e n)))) (set e.held n (cond b (held_at e n) 0))
            ≡ cond b (with_low e (set e.low n (with_remote (low_at e n)))) (with_held e (set e.held n 0))
        go true = ap (with_held (with_low e (set e.low n (with_remote (low_at e n))))) (set-get_or e.held n 0)
        go false = ap (λ (w : List ℕ). with_held (with_low e w) (set e.held n 0)) (set-get_or e.low n 0)

    pub delivery-given : (delivery_at n e.destination e.low e.held).answer ≡ given e n
    unfolding delivery_at value_at delivered
    delivery-given = rw (lt-ltb n 24 below)

    pub write-written : (v : ℕ) → renewed e (write_at n v e.low e.held) ≡ low_written e n v
    unfolding write_at value_at stored_at low_written
    write-written v = rw (lt-ltb n 24 below)

    pub change-wired : (x : ℕ) → rewired e (change_at n x e.low e.level e.held) ≡ wired_at e n x
    unfolding change_at value_at stored_at wired_at
    change-wired x = rw (lt-ltb n 24 below)

  -- ---- above

  module _ (above : 24 ≤ n) where
    pub delivery-rests : renewed e (delivery_at n e.destination e.low e.held) ≡ e
    unfolding delivery_at stored_at
    delivery-rests = rw (le-ltb n 24 above)

    pub delivery-none : (delivery_at n e.destination e.low e.held).answer ≡ answer.Nothing
    unfolding delivery_at delivered
    delivery-none = rw (le-ltb n 24 above)

    write-rests : (v : ℕ) → renewed e (write_at n v e.low e.held) ≡ e
    unfolding write_at stored_at
    write-rests v = rw (le-ltb n 24 above)

  -- ---- at any number, where the lists are 24 long

  module _ (z : Sized e) where
    pub write-written-any : (v : ℕ) → renewed e (write_at n v e.low e.held) ≡ low_written e n v
    write-written-any v = go (dec_le 24 n)
      where
        go : Dec (24 ≤ n) → renewed e (write_at n v e.low e.held) ≡ low_written e n v
        go (yes above) = write-rests above v ∙ sym (low-written-above e z n above v)
        go (no q) = write-written (omega arith) v
