-- The lists of a state are 24 long, as those of the code's arrays are; steps keep them so. There is no pin above 23.
use mathlib.Core.Path.{◌≡◌, ap, ap₂, ◌∙◌}
use mathlib.Core.Bool.{Bool, true, false, cond}
use mathlib.Core.List.{List}
use Prim.Native.Nat.{ℕ, ◌≤◌}
use lib.ListN.{length, set, length-set, get_or-eq_default}
use lib.Seq.{set_out}
use Rattle.pins.proofs.Fill.{length-tab}
use Rattle.entries.specs.declared.Entries.{Entries}
use Rattle.entries.specs.Word.{mode_of, masked_of, level_of, remote_of, with_remote, written, shown}
use Rattle.entries.specs.Pin.{held_after, asserted, eligible, ended_word}
use Rattle.entries.specs.Table.{low_at, level_at, held_at, held_on, with_low, with_held, with_level, wired, ended, taken, low_shown, low_written, high_written, held_after_write, destination_of}
use Rattle.entries.specs.Inner.{wired_at}

pub record Sized (e : Entries) : Type 0 where
  pub low : length e.low ≡ 24
  pub destination : length e.destination ≡ 24
  pub level : length e.level ≡ 24
  pub held : length e.held ≡ 24

module _ (e : Entries) (z : Sized e) where
  pub wired-sized : (l : List ℕ) → length l ≡ 24 → Sized (wired e l)
  unfolding wired
  wired-sized l k = record { low = z.low; destination = z.destination; level = k; held = length-tab (held_on e l) 0 24 }

  pub ended-sized : (v : ℕ) → Sized (ended e v)
  unfolding ended
  ended-sized v = record { low = length-tab (λ i. ended_word (low_at e i) v) 0 24; destination = z.destination; level = z.level; held = z.held }

  pub taken-sized : (i : ℕ) → Sized (taken e i)
  unfolding taken
  taken-sized i = go (level_of (low_at e i))
    where
      go : (b : Bool) → Sized (cond b (with_low e (set e.low i (with_remote (low_at e i)))) (with_held e (set e.held i 0)))
      go true = record { low = length-set e.low i (with_remote (low_at e i)) ∙ z.low; destination = z.destination; level = z.level; held = z.held }
      go false = record { low = z.low; destination = z.destination; level = z.level; held = length-set e.held i 0 ∙ z.held }

  pub low-written-sized : (n v : ℕ) → Sized (low_written e n v)
  unfolding low_written
  low-written-sized n v =
      record {
        low = length-set e.low n (written (low_at e n) v) ∙ z.low;
        destination = z.destination;
        level = z.level;
        held = length-set e.held n (held_after_write (written (low_at e n) v) (held_at e n)) ∙ z.held;
      }

  pub high-written-sized : (n v : ℕ) → Sized (high_written e n v)
  high-written-sized n v =
      record { low = z.low; destination = length-set e.destination n (destination_of v) ∙ z.destination; level = z.level; held = z.held }

  module _ (n : ℕ) (above : 24 ≤ n) where
    past : (l : List ℕ) → length l ≡ 24 → length l ≤ n
    past l k = rw k above

    pub low-above : low_at e n ≡ 0
    low-above = get_or-eq_default e.low 0 (past e.low z.low)

    held-above : held_at e n ≡ 0
    held-above = get_or-eq_default e.held 0 (past e.held z.held)

    pub wired-at-above : (x : ℕ) → wired_at e n x ≡ e
    unfolding wired_at
    wired-at-above x =
        ap₂ (λ (h l : List ℕ). with_level (with_held e h) l)
        (set_out e.held n (held_after (low_at e n) (level_at e n) x (held_at e n)) (past e.held z.held))
        (set_out e.level n x (past e.level z.level))

    pub low-shown-above : low_shown e n ≡ 0
    unfolding low_shown shown eligible asserted mode_of masked_of level_of remote_of
    low-shown-above = rw (low-above, held-above)

    pub low-written-above : (v : ℕ) → low_written e n v ≡ e
    unfolding low_written
    low-written-above v =
        ap₂ (λ (w h : List ℕ). with_held (with_low e w) h)
        (set_out e.low n (written (low_at e n) v) (past e.low z.low))
        (set_out e.held n (held_after_write (written (low_at e n) v) (held_at e n)) (past e.held z.held))

    pub high-written-above : (v : ℕ) → high_written e n v ≡ e
    high-written-above v =
        ap (λ (d : List ℕ). record { low = e.low; destination = d; level = e.level; held = e.held })
        (set_out e.destination n (destination_of v) (past e.destination z.destination))
