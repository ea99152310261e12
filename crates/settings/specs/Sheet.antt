-- Settings with their records, records with what is read of them, and buffers with what is written to them, worked out
-- by hand.
use Rattle.std.specs.Prelude.{ℕ, ◌≡◌, refl, List, [], ◌∷◌, ◌++◌, map, replicate}
use Rattle.answers.specs.declared.Answer.{Answer}
use Rattle.answers.specs.declared.Refusal.TheVariants as refusal
use Rattle.answers.specs.Numbers.{number_of}
use Rattle.answers.specs.Sheet.{ok, refused}
use Rattle.little_endian.specs.Numbers.{u16_at, u32_at, bytes16, bytes32}
use Rattle.settings.specs.declared.Settings.{Settings}
use Rattle.settings.specs.declared.Reading.{Reading}
use Rattle.settings.specs.Settings.{standard, vendor_ok, period_ok, mask_ok, id_ok, in_range}
use Rattle.settings.specs.Record.{record_of, marked, settings_at, reading, read_of, write_of, buffer_after}

abbrev settings : ℕ → ℕ → ℕ → ℕ → ℕ → ℕ → Settings
settings v p a b c i = record { vendor = v; period = p; mask0 = a; mask1 = b; mask2 = c; id = i }

-- no two of its fields are alike, so that none can be turned round or stand in another's place
abbrev other : Settings
other = settings 0x1234 0x01020304 0x00000001 0x00345678 0x00800000 15

-- ---- the bytes

abbrev standard_bytes : List ℕ
standard_bytes = 0x5A ∷ 0xC3 ∷ 0x01 ∷ 0x86 ∷ 0x80 ∷ 0x00 ∷ 0xE1 ∷ 0xF5 ∷ 0x05 ∷ 0xFF ∷ 0xFF ∷ 0xFF ∷ 0x00 ∷ 0xFF ∷ 0xFF ∷ 0xFF ∷ 0x00 ∷ 0xFF ∷ 0xFF ∷ 0xFF ∷ 0x00 ∷ 0x00 ∷ []

abbrev other_bytes : List ℕ
other_bytes = 0x5A ∷ 0xC3 ∷ 0x01 ∷ 0x34 ∷ 0x12 ∷ 0x04 ∷ 0x03 ∷ 0x02 ∷ 0x01 ∷ 0x01 ∷ 0x00 ∷ 0x00 ∷ 0x00 ∷ 0x78 ∷ 0x56 ∷ 0x34 ∷ 0x00 ∷ 0x00 ∷ 0x00 ∷ 0x80 ∷ 0x00 ∷ 0x0F ∷ []

pub records : map record_of (standard ∷ other ∷ []) ≡ standard_bytes ∷ other_bytes ∷ []
unfolding record_of bytes16 bytes32
records = refl

-- ---- the reader

pub record Line : Type 0 where
  pub bytes : List ℕ
  pub gives : Reading

abbrev line : List ℕ → Settings → Answer → Line
line s x a = record { bytes = s; gives = reading x a }

-- mark and form, vendor, period and masks by their bytes
abbrev bytes : List ℕ → List ℕ → List ℕ → List ℕ → List ℕ → List ℕ → ℕ → List ℕ
bytes h v p a b c i = h ++ v ++ p ++ a ++ b ++ c ++ (i ∷ [])

abbrev head : List ℕ
head = 0x5A ∷ 0xC3 ∷ 1 ∷ []

abbrev v : List ℕ
v = 0x34 ∷ 0x12 ∷ []

abbrev four : ℕ → ℕ → ℕ → ℕ → List ℕ
four a b c d = a ∷ b ∷ c ∷ d ∷ []

abbrev p : List ℕ
p = four 4 3 2 1

abbrev m : List ℕ
m = four 0xFF 0 0 0

pub sheet : List Line
unfolding number_of
sheet =
    -- F1 01's record, S2 the other
    line standard_bytes standard ok
    ∷ line other_bytes other ok
    -- F3 the least of each number, S4 the greatest: any vendor is good
    ∷ line (bytes head (0 ∷ 0 ∷ []) (four 1 0 0 0) (four 1 0 0 0) (four 1 0 0 0) (four 1 0 0 0) 0) (settings 0 1 1 1 1 0) ok
    ∷ line (bytes head (0xFF ∷ 0xFF ∷ []) (four 0 0xE1 0xF5 5) (four 0xFF 0xFF 0xFF 0) (four 0xFF 0xFF 0xFF 0) (four 0xFF 0xFF 0xFF 0) 15) (settings 65535 100000000 16777215 16777215 16777215 15) ok
    -- F5 no bytes, S6 one too many, S7 one too few, and the mark wrong
    ∷ line [] standard (refused 8 refusal.Length refl)
    ∷ line (other_bytes ++ (0 ∷ [])) standard (refused 8 refusal.Length refl)
    ∷ line (0x5B ∷ 0xC3 ∷ 1 ∷ v ++ p ++ m ++ m ++ m) standard (refused 8 refusal.Length refl)
    -- F8 the mark's first byte wrong, S9 its second, and form 2; S10 a log's mark
    ∷ line (bytes (0x5B ∷ 0xC3 ∷ 1 ∷ []) v p m m m 0) standard (refused 6 refusal.Mark refl)
    ∷ line (bytes (0x5A ∷ 0xC2 ∷ 2 ∷ []) v p m m m 0) standard (refused 6 refusal.Mark refl)
    ∷ line (bytes (0x7E ∷ 0xB5 ∷ 1 ∷ []) v p m m m 0) standard (refused 6 refusal.Mark refl)
    -- F11 form 2, and period 0; S12 form 0
    ∷ line (bytes (0x5A ∷ 0xC3 ∷ 2 ∷ []) v (four 0 0 0 0) m m m 0) standard (refused 9 refusal.Form refl)
    ∷ line (bytes (0x5A ∷ 0xC3 ∷ 0 ∷ []) v p m m m 0) standard (refused 9 refusal.Form refl)
    -- F13 period 0, S14 100,000,001
    ∷ line (bytes head v (four 0 0 0 0) m m m 0) standard (refused 10 refusal.Range refl)
    ∷ line (bytes head v (four 1 0xE1 0xF5 5) m m m 0) standard (refused 10 refusal.Range refl)
    -- F15 to S17 each mask 0, S18 to S20 each 2^24
    ∷ line (bytes head v p (four 0 0 0 0) m m 0) standard (refused 10 refusal.Range refl)
    ∷ line (bytes head v p m (four 0 0 0 0) m 0) standard (refused 10 refusal.Range refl)
    ∷ line (bytes head v p m m (four 0 0 0 0) 0) standard (refused 10 refusal.Range refl)
    ∷ line (bytes head v p (four 0 0 0 1) m m 0) standard (refused 10 refusal.Range refl)
    ∷ line (bytes head v p m (four 0 0 0 1) m 0) standard (refused 10 refusal.Range refl)
    ∷ line (bytes head v p m m (four 0 0 0 1) 0) standard (refused 10 refusal.Range refl)
    -- F21 id 16
    ∷ line (bytes head v p m m m 16) standard (refused 10 refusal.Range refl)
    ∷ []

pub holds : map (λ l. read_of l.bytes) sheet ≡ map (λ l. l.gives) sheet
unfolding sheet read_of marked settings_at u16_at u32_at in_range vendor_ok period_ok mask_ok id_ok
holds = refl

-- ---- the writer

pub record Write : Type 0 where
  pub settings : Settings
  pub buffer : List ℕ
  pub says : Answer
  pub after : List ℕ

abbrev write : Settings → List ℕ → Answer → List ℕ → Write
write x o a b = record { settings = x; buffer = o; says = a; after = b }

abbrev sevens : ℕ → List ℕ
sevens n = replicate {A = ℕ} n 7

pub writes : List Write
unfolding number_of
writes =
    -- F22, S23 done: the buffer is the record
    write standard (sevens 22) ok standard_bytes
    ∷ write other (sevens 22) ok other_bytes
    -- F24 period 0, and a buffer that is too long; S25 one that has the length
    ∷ write (settings 0x1234 0 1 1 1 0) (sevens 23) (refused 10 refusal.Range refl) (sevens 23)
    ∷ write (settings 0x1234 0 1 1 1 0) (sevens 22) (refused 10 refusal.Range refl) (sevens 22)
    -- F26 a buffer that is too short, S27 one that is too long
    ∷ write other (sevens 21) (refused 8 refusal.Length refl) (sevens 21)
    ∷ write other (sevens 23) (refused 8 refusal.Length refl) (sevens 23)
    ∷ []

pub writes-hold : (map (λ w. write_of w.settings w.buffer) writes ≡ map (λ w. w.says) writes) × (map (λ w. buffer_after w.settings w.buffer) writes ≡ map (λ w. w.after) writes)
unfolding writes write_of buffer_after record_of bytes16 bytes32 in_range vendor_ok period_ok mask_ok id_ok
writes-hold = (refl, refl)
