-- The settings record of "Settings for each mill": its bytes, the numbers that stand in it, its reader and its writer.
use Rattle.std.specs.Prelude.{ℕ, Bool, cond, Result, Ok, Err, not, ◌&&◌, List, [], ◌∷◌, ◌++◌, eqb, length, get_or}
use Rattle.answers.specs.declared.Refusal.{Refusal}
use Rattle.answers.specs.declared.Refusal.TheVariants as refusal
use Rattle.answers.specs.declared.Answer.{Answer}
use Rattle.answers.specs.declared.Answer.TheVariants as answer
use Rattle.answers.specs.Order.{Test, test}
use Rattle.little_endian.specs.Numbers.{u16_at, u32_at, bytes16, bytes32}
use Rattle.settings.specs.declared.Settings.{Settings}
use Rattle.settings.specs.declared.Reading.{Reading}
use Rattle.settings.specs.Settings.{standard, in_range}

-- "the mark 5A C3, a form byte 1, vendor (u16), tick period in femtoseconds (u32), a route mask for each timer (three
-- u32) and the controller id (u8), 22 bytes, little-endian"
unfoldable pub record_of : Settings → List ℕ
record_of x =
    (0x5A ∷ 0xC3 ∷ [])
    ++ (1 ∷ [])
    ++ bytes16 x.vendor
    ++ bytes32 x.period
    ++ bytes32 x.mask0
    ++ bytes32 x.mask1
    ++ bytes32 x.mask2
    ++ (x.id ∷ [])

-- the same parts, where they stand
unfoldable pub marked : List ℕ → Bool
marked s = eqb (get_or s 0 0) 0x5A && eqb (get_or s 1 0) 0xC3

abbrev pub form_at : List ℕ → ℕ
form_at s = get_or s 2 0

unfoldable pub settings_at : List ℕ → Settings
settings_at s = record { vendor = u16_at s 3; period = u32_at s 5; mask0 = u32_at s 9; mask1 = u32_at s 13; mask2 = u32_at s 17; id = get_or s 21 0 }

-- ---- the reader

abbrev pub reading : Settings → Answer → Reading
reading x a = record { settings = x; answer = a }

-- "the reader then gives 01's settings"
abbrev pub unread : Refusal → Reading
unread r = reading standard (answer.Refused r)

-- what the reader gives of the settings of an accepted record, or of why it is refused
abbrev pub reading_of : Result Settings Refusal → Reading
reading_of (Ok x) = reading x answer.Done
reading_of (Err r) = unread r

-- "8 for any length but 22, 6 for the mark, 9 for an unknown form, 10 for a number out of range"
unfoldable pub read_of : List ℕ → Reading
read_of s =
    cond (not (eqb (length s) 22)) (unread refusal.Length)
    (cond (not (marked s)) (unread refusal.Mark)
    (cond (not (eqb (form_at s) 1)) (unread refusal.Form)
    (cond (not (in_range (settings_at s))) (unread refusal.Range)
    (reading (settings_at s) answer.Done))))

abbrev pub read_tests : List ℕ → List Test
read_tests s = test 8 (not (eqb (length s) 22)) ∷ test 6 (not (marked s)) ∷ test 9 (not (eqb (form_at s) 1)) ∷ test 10 (not (in_range (settings_at s))) ∷ []

-- ---- the writer, into a lent buffer o

-- "Writing tests 10, then 8 for a lent buffer of another length, which stays as it came"
unfoldable pub write_of : Settings → List ℕ → Answer
write_of x o =
    cond (not (in_range x)) (answer.Refused refusal.Range)
    (cond (not (eqb (length o) 22)) (answer.Refused refusal.Length)
    answer.Done)

unfoldable pub buffer_after : Settings → List ℕ → List ℕ
buffer_after x o = cond (not (in_range x)) o (cond (not (eqb (length o) 22)) o (record_of x))

abbrev pub write_tests : Settings → List ℕ → List Test
write_tests x o = test 10 (not (in_range x)) ∷ test 8 (not (eqb (length o) 22)) ∷ []
