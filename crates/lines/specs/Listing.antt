-- The text of settings, and the line of settings that are refused.
use Rattle.std.specs.Prelude.{ℕ, List, [], ◌∷◌, ◌++◌}
use Rattle.answers.specs.declared.Refusal.{Refusal}
use Rattle.answers.specs.Numbers.{number_of}
use Rattle.settings.specs.declared.Settings.{Settings}
use Rattle.lines.specs.Number.{decimal, digits}
use Rattle.lines.specs.Line.{newline}

-- some words and a number, in decimal or in k digits of base 16, and the line's end
abbrev pub decimal_line : List ℕ → ℕ → List ℕ
decimal_line words n = (words ++ decimal n) ++ newline

abbrev pub hex_line : List ℕ → ℕ → ℕ → List ℕ
hex_line words k n = (words ++ digits 16 k n) ++ newline

-- `form 1` and the line's end: a record has no other form
abbrev pub form_line : List ℕ
form_line = 102 ∷ 111 ∷ 114 ∷ 109 ∷ 32 ∷ 49 ∷ 10 ∷ []

-- `vendor 0x`, `period `, `mask 0 0x`, `mask 1 0x`, `mask 2 0x`, `id `
abbrev pub vendor : List ℕ
vendor = 118 ∷ 101 ∷ 110 ∷ 100 ∷ 111 ∷ 114 ∷ 32 ∷ 48 ∷ 120 ∷ []

abbrev pub period : List ℕ
period = 112 ∷ 101 ∷ 114 ∷ 105 ∷ 111 ∷ 100 ∷ 32 ∷ []

abbrev pub mask0 : List ℕ
mask0 = 109 ∷ 97 ∷ 115 ∷ 107 ∷ 32 ∷ 48 ∷ 32 ∷ 48 ∷ 120 ∷ []

abbrev pub mask1 : List ℕ
mask1 = 109 ∷ 97 ∷ 115 ∷ 107 ∷ 32 ∷ 49 ∷ 32 ∷ 48 ∷ 120 ∷ []

abbrev pub mask2 : List ℕ
mask2 = 109 ∷ 97 ∷ 115 ∷ 107 ∷ 32 ∷ 50 ∷ 32 ∷ 48 ∷ 120 ∷ []

abbrev pub id : List ℕ
id = 105 ∷ 100 ∷ 32 ∷ []

-- a line for each number: the vendor in 4 digits of base 16, the masks in 8, the others in decimal
unfoldable pub head_of : ℕ → ℕ → List ℕ
head_of v p = (form_line ++ hex_line vendor 4 v) ++ decimal_line period p

unfoldable pub masks_of : ℕ → ℕ → ℕ → List ℕ
masks_of a b c = (hex_line mask0 8 a ++ hex_line mask1 8 b) ++ hex_line mask2 8 c

unfoldable pub text_of : Settings → List ℕ
text_of s = (head_of s.vendor s.period ++ masks_of s.mask0 s.mask1 s.mask2) ++ decimal_line id s.id

-- `settings refused R`: all that a program prints that is given settings and can't take them
abbrev pub settings_refused : List ℕ
settings_refused = 115 ∷ 101 ∷ 116 ∷ 116 ∷ 105 ∷ 110 ∷ 103 ∷ 115 ∷ 32 ∷ 114 ∷ 101 ∷ 102 ∷ 117 ∷ 115 ∷ 101 ∷ 100 ∷ 32 ∷ []

unfoldable pub settings_refused_of : Refusal → List ℕ
settings_refused_of r = decimal_line settings_refused (number_of r)
