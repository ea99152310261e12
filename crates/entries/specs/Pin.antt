-- One pin: its entry's low word, its wire's level and whether it holds an edge, 0 or 1 (document 01, "Controller
-- registers").
use Rattle.std.specs.Prelude.{ℕ, Bool, not, cond, ◌&&◌, ◌||◌, eqb, leb}
use Rattle.entries.specs.Word.{vector_of, mode_of, active_low_of, remote_of, level_of, masked_of, without_remote, word_ok}

-- a pin is asserted when its wire differs from its active-low bit
unfoldable pub asserted : ℕ → ℕ → Bool
asserted w level = not (eqb level (active_low_of w))

-- an unmasked edge pin that went from not asserted to asserted
unfoldable pub makes_edge : ℕ → ℕ → ℕ → Bool
makes_edge w before after = not (masked_of w) && not (level_of w) && not (asserted w before) && asserted w after

-- holds an edge; edges on a masked pin are ignored
unfoldable pub held_after : ℕ → ℕ → ℕ → ℕ → ℕ
held_after w before after held = cond (makes_edge w before after) 1 held

-- unmasked, delivery mode 000, and either edge with an edge held, or level, asserted, remote IRR 0
unfoldable pub eligible : ℕ → ℕ → ℕ → Bool
eligible w level held =
    not (masked_of w) && eqb (mode_of w) 0 && (not (level_of w) && eqb held 1 || level_of w && asserted w level && not (remote_of w))

-- an end of interrupt with vector v: a level entry whose present vector is v gets remote IRR 0; an edge entry is
-- untouched
unfoldable pub ended_word : ℕ → ℕ → ℕ
ended_word w v = cond (level_of w && eqb (vector_of w) v) (without_remote w) w

-- well formed: writable bits only, beside remote IRR, which an edge entry has at 0; no edge held on a level pin; the
-- level and the held edge are 0 or 1
unfoldable pub pin_ok : ℕ → ℕ → ℕ → Bool
pin_ok w level held = word_ok w && not (level_of w && eqb held 1) && leb level 1 && leb held 1
