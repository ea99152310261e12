-- What a delivery, a low-word write and a change of a wire leave at their pin, decided from the arrays as they lie, and
-- applied: only inner functions cite these, and `proofs/Decided.antt` has that each is the step of Table.antt.
use Rattle.std.specs.Prelude.{ℕ, cond, List, ltb, get_or, set}
use Rattle.answers.specs.declared.Answer.{Answer}
use Rattle.answers.specs.declared.Answer.TheVariants as answer
use Rattle.entries.specs.declared.Entries.{Entries}
use Rattle.entries.specs.declared.EntryDecision.{EntryDecision}
use Rattle.entries.specs.declared.WireDecision.{WireDecision}
use Rattle.entries.specs.Word.{vector_of, logical_of, written}
use Rattle.entries.specs.Pin.{held_after}
use Rattle.entries.specs.Table.{with_low, with_level, with_held, held_after_write}
use Rattle.entries.specs.Inner.{taken_word, held_taken}

-- ---- one element of an array: there is no pin above 23, so there it reads as 0, and nothing is stored

unfoldable pub value_at : List ℕ → ℕ → ℕ
value_at l n = cond (ltb n 24) (get_or l n 0) 0

unfoldable pub stored_at : List ℕ → ℕ → ℕ → List ℕ
stored_at l n x = cond (ltb n 24) (set l n x) l

-- ---- decided, where d, w, l and h are the destinations, low words, levels and held edges of all pins

-- what a delivery of pin n answers, by its word and destination; none, if there is no such pin
unfoldable pub delivered : ℕ → ℕ → ℕ → Answer
delivered n w d = cond (ltb n 24) (answer.Interrupt n (vector_of w) d (logical_of w)) answer.Nothing

unfoldable pub delivery_at : ℕ → List ℕ → List ℕ → List ℕ → EntryDecision
delivery_at n d w h = record {
  pin = n;
  low = taken_word (value_at w n);
  held = held_taken (value_at w n) (value_at h n);
  answer = delivered n (value_at w n) (value_at d n);
}

unfoldable pub write_at : ℕ → ℕ → List ℕ → List ℕ → EntryDecision
write_at n v w h = record {
  pin = n;
  low = written (value_at w n) v;
  held = held_after_write (written (value_at w n) v) (value_at h n);
  answer = answer.Done;
}

-- the wire of pin n changes to level x
unfoldable pub change_at : ℕ → ℕ → List ℕ → List ℕ → List ℕ → WireDecision
change_at n x w l h = record {
  pin = n;
  level = x;
  held = held_after (value_at w n) (value_at l n) x (value_at h n);
}

-- ---- applied

abbrev pub renewed : Entries → EntryDecision → Entries
renewed e d = with_held (with_low e (stored_at e.low d.pin d.low)) (stored_at e.held d.pin d.held)

abbrev pub rewired : Entries → WireDecision → Entries
rewired e d = with_level (with_held e (stored_at e.held d.pin d.held)) (stored_at e.level d.pin d.level)
