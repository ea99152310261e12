-- The whole output for records and for numbers, worked out by hand, letter by letter.
use Rattle.std.specs.Prelude.{ℕ, ◌≡◌, refl, List, [], ◌∷◌, ◌++◌, map}
use Rattle.answers.specs.Numbers.{number_of}
use Rattle.lines.specs.Number.{digits, decimal_in, decimal}
use Rattle.lines.specs.Line.{said_of as answer_said, refused_of}
use Rattle.lines.specs.Listing.{head_of, masks_of, text_of}
use Rattle.little_endian.specs.Numbers.{u16_at, u32_at, bytes16, bytes32}
use Rattle.settings.specs.Settings.{vendor_ok, period_ok, mask_ok, id_ok, in_range}
use Rattle.settings.specs.Record.{record_of, marked, settings_at, read_of}
use Rattle.settings_file.specs.declared.Asked.{Asked}
use Rattle.settings_file.specs.Output.{said_of, shown_of, fits, takes, made_of, file_of}

-- `refused 6`, `refused 8`, `refused 9`, `refused 10`
abbrev refused-6 : List ℕ
refused-6 = 114 ∷ 101 ∷ 102 ∷ 117 ∷ 115 ∷ 101 ∷ 100 ∷ 32 ∷ 54 ∷ 10 ∷ []

abbrev refused-8 : List ℕ
refused-8 = 114 ∷ 101 ∷ 102 ∷ 117 ∷ 115 ∷ 101 ∷ 100 ∷ 32 ∷ 56 ∷ 10 ∷ []

abbrev refused-9 : List ℕ
refused-9 = 114 ∷ 101 ∷ 102 ∷ 117 ∷ 115 ∷ 101 ∷ 100 ∷ 32 ∷ 57 ∷ 10 ∷ []

abbrev refused-10 : List ℕ
refused-10 = 114 ∷ 101 ∷ 102 ∷ 117 ∷ 115 ∷ 101 ∷ 100 ∷ 32 ∷ 49 ∷ 48 ∷ 10 ∷ []

-- document 01's settings: their record, and the text that it shows
abbrev standard-record : List ℕ
standard-record = 0x5A ∷ 0xC3 ∷ 0x01 ∷ 0x86 ∷ 0x80 ∷ 0x00 ∷ 0xE1 ∷ 0xF5 ∷ 0x05 ∷ 0xFF ∷ 0xFF ∷ 0xFF ∷ 0x00 ∷ 0xFF ∷ 0xFF ∷ 0xFF ∷ 0x00 ∷ 0xFF ∷ 0xFF ∷ 0xFF ∷ 0x00 ∷ 0x00 ∷ []

abbrev standard-text : List ℕ
standard-text =
    (102 ∷ 111 ∷ 114 ∷ 109 ∷ 32 ∷ 49 ∷ 10 ∷ [])
    ++ (118 ∷ 101 ∷ 110 ∷ 100 ∷ 111 ∷ 114 ∷ 32 ∷ 48 ∷ 120 ∷ 56 ∷ 48 ∷ 56 ∷ 54 ∷ 10 ∷ [])
    ++ (112 ∷ 101 ∷ 114 ∷ 105 ∷ 111 ∷ 100 ∷ 32 ∷ 49 ∷ 48 ∷ 48 ∷ 48 ∷ 48 ∷ 48 ∷ 48 ∷ 48 ∷ 48 ∷ 10 ∷ [])
    ++ (109 ∷ 97 ∷ 115 ∷ 107 ∷ 32 ∷ 48 ∷ 32 ∷ 48 ∷ 120 ∷ 48 ∷ 48 ∷ 102 ∷ 102 ∷ 102 ∷ 102 ∷ 102 ∷ 102 ∷ 10 ∷ [])
    ++ (109 ∷ 97 ∷ 115 ∷ 107 ∷ 32 ∷ 49 ∷ 32 ∷ 48 ∷ 120 ∷ 48 ∷ 48 ∷ 102 ∷ 102 ∷ 102 ∷ 102 ∷ 102 ∷ 102 ∷ 10 ∷ [])
    ++ (109 ∷ 97 ∷ 115 ∷ 107 ∷ 32 ∷ 50 ∷ 32 ∷ 48 ∷ 120 ∷ 48 ∷ 48 ∷ 102 ∷ 102 ∷ 102 ∷ 102 ∷ 102 ∷ 102 ∷ 10 ∷ [])
    ++ (105 ∷ 100 ∷ 32 ∷ 48 ∷ 10 ∷ [])

-- every number another: vendor 0x1022, period 10,000,000, one pin for each timer, id 15
abbrev other-record : List ℕ
other-record = 0x5A ∷ 0xC3 ∷ 0x01 ∷ 0x22 ∷ 0x10 ∷ 0x80 ∷ 0x96 ∷ 0x98 ∷ 0x00 ∷ 0x04 ∷ 0x00 ∷ 0x00 ∷ 0x00 ∷ 0x00 ∷ 0x01 ∷ 0x00 ∷ 0x00 ∷ 0x00 ∷ 0x00 ∷ 0x80 ∷ 0x00 ∷ 0x0F ∷ []

abbrev other_text : List ℕ
other_text =
    (102 ∷ 111 ∷ 114 ∷ 109 ∷ 32 ∷ 49 ∷ 10 ∷ [])
    ++ (118 ∷ 101 ∷ 110 ∷ 100 ∷ 111 ∷ 114 ∷ 32 ∷ 48 ∷ 120 ∷ 49 ∷ 48 ∷ 50 ∷ 50 ∷ 10 ∷ [])
    ++ (112 ∷ 101 ∷ 114 ∷ 105 ∷ 111 ∷ 100 ∷ 32 ∷ 49 ∷ 48 ∷ 48 ∷ 48 ∷ 48 ∷ 48 ∷ 48 ∷ 48 ∷ 10 ∷ [])
    ++ (109 ∷ 97 ∷ 115 ∷ 107 ∷ 32 ∷ 48 ∷ 32 ∷ 48 ∷ 120 ∷ 48 ∷ 48 ∷ 48 ∷ 48 ∷ 48 ∷ 48 ∷ 48 ∷ 52 ∷ 10 ∷ [])
    ++ (109 ∷ 97 ∷ 115 ∷ 107 ∷ 32 ∷ 49 ∷ 32 ∷ 48 ∷ 120 ∷ 48 ∷ 48 ∷ 48 ∷ 48 ∷ 48 ∷ 49 ∷ 48 ∷ 48 ∷ 10 ∷ [])
    ++ (109 ∷ 97 ∷ 115 ∷ 107 ∷ 32 ∷ 50 ∷ 32 ∷ 48 ∷ 120 ∷ 48 ∷ 48 ∷ 56 ∷ 48 ∷ 48 ∷ 48 ∷ 48 ∷ 48 ∷ 10 ∷ [])
    ++ (105 ∷ 100 ∷ 32 ∷ 49 ∷ 53 ∷ 10 ∷ [])

-- ---- show

-- a record with this second byte of the mark, form, period and id, and with pin 0 for each timer
abbrev with : ℕ → ℕ → ℕ → ℕ → List ℕ
with m f p i = 0x5A ∷ m ∷ f ∷ 0x22 ∷ 0x10 ∷ p ∷ 0 ∷ 0 ∷ 0 ∷ 1 ∷ 0 ∷ 0 ∷ 0 ∷ 1 ∷ 0 ∷ 0 ∷ 0 ∷ 1 ∷ 0 ∷ 0 ∷ 0 ∷ i ∷ []

pub record Shown : Type 0 where
  pub bytes : List ℕ
  pub text : List ℕ

abbrev shown : List ℕ → List ℕ → Shown
shown s t = record { bytes = s; text = t }

pub records : List Shown
records =
    shown standard-record standard-text
    ∷ shown other-record other_text
    -- another length, whatever else is wrong
    ∷ shown [] refused-8
    ∷ shown (standard-record ++ (0 ∷ [])) refused-8
    ∷ shown (0 ∷ []) refused-8
    -- another mark, form, period, id
    ∷ shown (with 0xC2 2 0 16) refused-6
    ∷ shown (with 0xC3 2 0 16) refused-9
    ∷ shown (with 0xC3 1 0 15) refused-10
    ∷ shown (with 0xC3 1 1 16) refused-10
    ∷ []

pub records-hold : map (λ l. shown l.bytes (shown_of l.bytes)) records ≡ records
unfolding records shown_of said_of read_of marked settings_at u16_at u32_at in_range vendor_ok period_ok mask_ok id_ok refused_of answer_said number_of text_of head_of masks_of digits decimal decimal_in
records-hold = refl

-- ---- make

abbrev asked : ℕ → ℕ → ℕ → ℕ → ℕ → ℕ → Asked
asked v p a b c i = record { vendor = v; period = p; mask0 = a; mask1 = b; mask2 = c; id = i }

pub record Made : Type 0 where
  pub numbers : Asked
  pub text : List ℕ
  pub file : List ℕ

abbrev made : Asked → List ℕ → List ℕ → Made
made a t f = record { numbers = a; text = t; file = f }

pub numbers : List Made
numbers =
    made (asked 0x8086 100000000 0xFFFFFF 0xFFFFFF 0xFFFFFF 0) standard-text standard-record
    ∷ made (asked 0x1022 10000000 4 0x100 0x800000 15) other_text other-record
    -- too large for its field, by 1; a file would have 0 there, and a vendor of 0 is fine
    ∷ made (asked 0x10000 1 1 1 1 0) refused-10 []
    ∷ made (asked 0 0x100000001 1 1 1 0) refused-10 []
    ∷ made (asked 0 1 1 1 0x100000001 0) refused-10 []
    ∷ made (asked 0 1 1 1 1 0x100) refused-10 []
    -- out of range, by 1
    ∷ made (asked 0 100000001 1 1 1 0) refused-10 []
    ∷ made (asked 0 0 1 1 1 0) refused-10 []
    ∷ made (asked 0 1 0 1 1 0) refused-10 []
    ∷ made (asked 0 1 1 0x1000000 1 0) refused-10 []
    ∷ made (asked 0 1 1 1 1 16) refused-10 []
    ∷ []

pub numbers-hold : map (λ l. made l.numbers (made_of l.numbers) (file_of l.numbers)) numbers ≡ numbers
unfolding numbers made_of file_of takes fits record_of bytes16 bytes32 in_range vendor_ok period_ok mask_ok id_ok refused_of answer_said number_of text_of head_of masks_of digits decimal decimal_in
numbers-hold = refl
