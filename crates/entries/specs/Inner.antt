-- The same meanings as the code works them out, in bytes, in parts or at one pin: only inner functions cite these, and
-- `proofs/` has that each is what Pin.antt and Table.antt say.
use Rattle.std.specs.Prelude.{ℕ, ◌*◌, ◌/◌, ◌%◌, ◌^◌, Bool, not, cond, ◌&&◌, List, eqb, leb, get_or, set}
use mir.Val.{bool_byte}
use Rattle.pins.specs.Pins.{pins, every, bits_of}
use Rattle.entries.specs.declared.Entries.{Entries}
use Rattle.entries.specs.Word.{mode_of, active_low_of, remote_of, level_of, masked_of, with_remote, word_ok}
use Rattle.entries.specs.Pin.{asserted, held_after, eligible}
use Rattle.entries.specs.Table.{low_at, level_at, held_at, with_held, with_level, eligible_at}

-- ---- edges, from bytes

-- unmasked, and edge
unfoldable pub takes_edges : ℕ → Bool
takes_edges w = not (masked_of w) && not (level_of w)

unfoldable pub held_by : ℕ → ℕ → ℕ → ℕ → ℕ → ℕ
held_by edge activeLow before after held = cond (eqb edge 1 && eqb before activeLow && not (eqb after activeLow)) 1 held

-- which pins take edges, and which are active low, a byte each
unfoldable pub edge_pins : List ℕ → List ℕ
edge_pins w = pins (λ i. bool_byte (takes_edges (get_or w i 0)))

unfoldable pub active_lows : List ℕ → List ℕ
active_lows w = pins (λ i. active_low_of (get_or w i 0))

-- only pin p's wire changes
unfoldable pub wired_at : Entries → ℕ → ℕ → Entries
wired_at e p x = with_level (with_held e (set e.held p (held_after (low_at e p) (level_at e p) x (held_at e p)))) (set e.level p x)

-- ---- a delivery

-- the eligible pins as one number: bit i is 1 where pin i is eligible
unfoldable pub eligible_pins : Entries → ℕ
eligible_pins e = bits_of (eligible_at e)

-- an eligible edge pin, and an eligible level pin
unfoldable pub edge_eligible : ℕ → ℕ → Bool
edge_eligible w held = not (masked_of w) && eqb (mode_of w) 0 && (not (level_of w) && eqb held 1)

unfoldable pub level_eligible : ℕ → ℕ → Bool
level_eligible w level = not (masked_of w) && eqb (mode_of w) 0 && (level_of w && asserted w level && not (remote_of w))

-- bits 16:1 of a low word, its key; twice a key is a low word that has them
unfoldable pub key_of : ℕ → ℕ
key_of w = w / 2 % 2 ^ 16

unfoldable pub keys_of : List ℕ → List ℕ
keys_of w = pins (λ i. key_of (get_or w i 0))

-- whether pin i is eligible, by its key, level and held edge
abbrev pub eligible_by_key : List ℕ → List ℕ → List ℕ → ℕ → Bool
eligible_by_key k l h i = eligible (get_or k i 0 * 2) (get_or l i 0) (get_or h i 0)

-- a delivered pin's word and held edge
unfoldable pub taken_word : ℕ → ℕ
taken_word w = cond (level_of w) (with_remote w) w

unfoldable pub held_taken : ℕ → ℕ → ℕ
held_taken w held = cond (level_of w) held 0

-- ---- well formed, a kind of part at a time

unfoldable pub words_ok : List ℕ → Bool
words_ok w = every (λ i. word_ok (get_or w i 0))

-- a held edge is at most 1, and 0 on a level pin
unfoldable pub edges_ok : List ℕ → List ℕ → Bool
edges_ok w h = every (λ i. leb (get_or h i 0) (bool_byte (not (level_of (get_or w i 0)))))
