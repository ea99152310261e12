-- The 24 entries with their pins' wires and held edges, and what each step makes of them (document 01, "Controller
-- registers").
use Rattle.std.specs.Prelude.{ℕ, ◌*◌, ◌/◌, ◌^◌, Bool, cond, List, leb, get_or, replicate, set}
use Rattle.pins.specs.Pins.{pins, first, every}
use Rattle.answers.specs.declared.Answer.{Answer}
use Rattle.answers.specs.declared.Answer.TheVariants as answer
use Rattle.entries.specs.declared.Entries.{Entries}
use Rattle.entries.specs.Word.{vector_of, logical_of, level_of, with_remote, written, shown}
use Rattle.entries.specs.Pin.{held_after, eligible, ended_word, pin_ok}

-- every low word 0x00010000, high 0, wires low
abbrev pub reset_entries : Entries
reset_entries = record { low = replicate 24 0x10000; destination = replicate 24 0; level = replicate 24 0; held = replicate 24 0 }

-- pin i's low word, destination, wire level and held edge
abbrev pub low_at : Entries → ℕ → ℕ
low_at e i = get_or e.low i 0

abbrev pub destination_at : Entries → ℕ → ℕ
destination_at e i = get_or e.destination i 0

abbrev pub level_at : Entries → ℕ → ℕ
level_at e i = get_or e.level i 0

abbrev pub held_at : Entries → ℕ → ℕ
held_at e i = get_or e.held i 0

-- the entries with another part
abbrev pub with_low : Entries → List ℕ → Entries
with_low e l = record { low = l; destination = e.destination; level = e.level; held = e.held }

abbrev pub with_destination : Entries → List ℕ → Entries
with_destination e d = record { low = e.low; destination = d; level = e.level; held = e.held }

abbrev pub with_level : Entries → List ℕ → Entries
with_level e l = record { low = e.low; destination = e.destination; level = l; held = e.held }

abbrev pub with_held : Entries → List ℕ → Entries
with_held e h = record { low = e.low; destination = e.destination; level = e.level; held = h }

-- ---- tests

abbrev pub eligible_at : Entries → ℕ → Bool
eligible_at e i = eligible (low_at e i) (level_at e i) (held_at e i)

abbrev pub pin_ok_at : Entries → ℕ → Bool
pin_ok_at e i = pin_ok (low_at e i) (level_at e i) (held_at e i)

unfoldable pub entries_ok : Entries → Bool
entries_ok e = every (pin_ok_at e)

-- wire levels are 0 or 1
unfoldable pub levels_ok : List ℕ → Bool
levels_ok l = every (λ i. leb (get_or l i 0) 1)

-- the lowest-numbered eligible pin, or 24
unfoldable pub first_eligible : Entries → ℕ
first_eligible e = first (eligible_at e)

-- ---- steps

-- what pin i holds once the wires are l
abbrev pub held_on : Entries → List ℕ → ℕ → ℕ
held_on e l i = held_after (low_at e i) (level_at e i) (get_or l i 0) (held_at e i)

-- the wires change to these levels, all at once: each unmasked edge pin that went from not asserted to asserted holds
-- an edge
unfoldable pub wired : Entries → List ℕ → Entries
wired e l = with_level (with_held e (pins (held_on e l))) l

-- pin p's wire raised from the levels l and dropped again, two steps
unfoldable pub pulsed : Entries → List ℕ → ℕ → Entries
pulsed e l p = wired (wired e (set l p 1)) l

-- an end of interrupt with vector v
unfoldable pub ended : Entries → ℕ → Entries
ended e v = with_low e (pins (λ i. ended_word (low_at e i) v))

-- what a delivery of pin i gives, and leaves: an edge pin loses its held edge; a level pin gets remote IRR 1
abbrev pub given : Entries → ℕ → Answer
given e i = answer.Interrupt i (vector_of (low_at e i)) (destination_at e i) (logical_of (low_at e i))

unfoldable pub taken : Entries → ℕ → Entries
taken e i = cond (level_of (low_at e i)) (with_low e (set e.low i (with_remote (low_at e i)))) (with_held e (set e.held i 0))

-- ---- an entry's two words

unfoldable pub low_shown : Entries → ℕ → ℕ
low_shown e n = shown (low_at e n) (eligible_at e n)

-- the destination stands in bits 31:24 of the high word
abbrev pub high_shown : Entries → ℕ → ℕ
high_shown e n = destination_at e n * 2 ^ 24

-- a low-word write never makes an edge; if it leaves the pin level, a held edge is dropped; otherwise it stays, masked
-- or not
abbrev pub held_after_write : ℕ → ℕ → ℕ
held_after_write w held = cond (level_of w) 0 held

unfoldable pub low_written : Entries → ℕ → ℕ → Entries
low_written e n v =
    with_held (with_low e (set e.low n (written (low_at e n) v))) (set e.held n (held_after_write (written (low_at e n) v) (held_at e n)))

-- bits 31:24 of the value are the destination
abbrev pub destination_of : ℕ → ℕ
destination_of v = v / 2 ^ 24

abbrev pub high_written : Entries → ℕ → ℕ → Entries
high_written e n v = with_destination e (set e.destination n (destination_of v))
