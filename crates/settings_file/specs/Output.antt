-- All that the program writes: for a record the text of `show`, for six numbers the text and the file of `make`.
use Rattle.std.specs.Prelude.{ℕ, ◌^◌, Bool, cond, ◌&&◌, List, [], ltb}
use Rattle.answers.specs.declared.Answer.{Answer}
use Rattle.answers.specs.declared.Answer.TheVariants as answer
use Rattle.answers.specs.declared.Refusal.TheVariants as refusal
use Rattle.lines.specs.Line.{refused_of}
use Rattle.lines.specs.Listing.{text_of}
use Rattle.settings.specs.declared.Settings.{Settings}
use Rattle.settings.specs.Settings.{in_range}
use Rattle.settings.specs.Record.{record_of, read_of}
use Rattle.settings_file.specs.declared.Asked.{Asked}

-- ---- show

-- a record that is refused prints only that
unfoldable pub said_of : Settings → Answer → List ℕ
said_of x (answer.Refused r) = refused_of r
said_of x answer.Done = text_of x
said_of x (answer.Value v) = text_of x
said_of x (answer.Fired a b c) = text_of x
said_of x (answer.Interrupt p v d l) = text_of x
said_of x answer.Nothing = text_of x

unfoldable pub shown_of : List ℕ → List ℕ
shown_of s = said_of (read_of s).settings (read_of s).answer

-- ---- make

-- no number is too large for its field
unfoldable pub fits : Asked → Bool
fits a = ltb a.vendor (2 ^ 16) && (ltb a.period (2 ^ 32) && (ltb a.mask0 (2 ^ 32) && (ltb a.mask1 (2 ^ 32) && (ltb a.mask2 (2 ^ 32) && ltb a.id (2 ^ 8)))))

abbrev pub settings_of : Asked → Settings
settings_of a = record { vendor = a.vendor; period = a.period; mask0 = a.mask0; mask1 = a.mask1; mask2 = a.mask2; id = a.id }

-- nor is one out of range
unfoldable pub takes : Asked → Bool
takes a = fits a && in_range (settings_of a)

unfoldable pub made_of : Asked → List ℕ
made_of a = cond (takes a) (text_of (settings_of a)) (refused_of refusal.Range)

-- what stands in the new file; where nothing is taken, there is none
unfoldable pub file_of : Asked → List ℕ
file_of a = cond (takes a) (record_of (settings_of a)) []
