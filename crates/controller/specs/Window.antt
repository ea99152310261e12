-- The window (document 01, "Controller registers"): width 4 only; offset 0x00 is the index, 0x10 the data window, any
-- other: 1.
use Rattle.std.specs.Prelude.{ℕ, ◌-◌, ◌*◌, ◌/◌, ◌%◌, ◌^◌, cond, ◌||◌, leb, ltb, eqb}
use Rattle.answers.specs.declared.Answer.TheVariants as answer
use Rattle.answers.specs.declared.Refusal.TheVariants as refusal
use Rattle.entries.specs.Table.{low_shown, high_shown, low_written, high_written}
use Rattle.controller.specs.declared.Controller.{Controller}
use Rattle.controller.specs.declared.Turn.{Turn}
use Rattle.controller.specs.State.{with_id, with_index, with_entries, turn, refused, tested}

-- ---- the data window: the register that the index names

-- the id stands in bits 27:24
abbrev pub id_shown : Controller → ℕ
id_shown c = c.id % 16 * 2 ^ 24

-- index 0x10 + 2n is entry n's low word, 0x11 + 2n its high word
abbrev pub entry_read : Controller → ℕ → ℕ
entry_read c k = cond (eqb (k % 2) 0) (low_shown c.entries (k / 2)) (high_shown c.entries (k / 2))

-- 0x00 id, bits 27:24; 0x01 0x00170011; 0x02 bits 27:24 equal the id; other indexes read 0
unfoldable pub data_read : Controller → ℕ
data_read c =
    cond (eqb c.index 0) (id_shown c)
    (cond (eqb c.index 1) 0x170011
    (cond (eqb c.index 2) (id_shown c)
    (cond (ltb c.index 0x10) 0
    (cond (leb 0x40 c.index) 0
    (entry_read c (c.index - 0x10))))))

abbrev pub entry_written : Controller → ℕ → ℕ → Controller
entry_written c k v =
    with_entries c (cond (eqb (k % 2) 0) (low_written c.entries (k / 2) v) (high_written c.entries (k / 2) v))

-- the id and the entries are writable; writes to other indexes and to read-only bits change nothing
unfoldable pub data_written : Controller → ℕ → Controller
data_written c v =
    cond (eqb c.index 0) (with_id c (v / 2 ^ 24 % 16))
    (cond (ltb c.index 0x10) c
    (cond (leb 0x40 c.index) c
    (entry_written c (c.index - 0x10) v)))

-- ---- the calls

-- what a read gives, once the state is known to be well formed
unfoldable pub reading_of : Controller → ℕ → ℕ → Turn
reading_of c width offset =
    cond (eqb width 4)
    (cond (eqb offset 0) (turn c (answer.Value c.index))
    (cond (eqb offset 0x10) (turn c (answer.Value (data_read c)))
    (refused c refusal.Offset)))
    (refused c refusal.Width)

-- an index keeps bits 7:0
unfoldable pub writing_of : Controller → ℕ → ℕ → ℕ → Turn
writing_of c width offset value =
    cond (eqb width 4)
    (cond (eqb offset 0 || eqb offset 0x10)
    (cond (ltb value (2 ^ 32))
    (turn (cond (eqb offset 0) (with_index c (value % 256)) (data_written c value)) answer.Done)
    (refused c refusal.Value))
    (refused c refusal.Offset))
    (refused c refusal.Width)

unfoldable pub read_of : Controller → ℕ → ℕ → Turn
read_of c width offset = tested c (reading_of c width offset)

unfoldable pub write_of : Controller → ℕ → ℕ → ℕ → Turn
write_of c width offset value = tested c (writing_of c width offset value)
