-- The whole output for three damaged logs, worked out by hand: the text, letter by letter, and the new file.
use Rattle.std.specs.Prelude.{ℕ, ◌≡◌, refl, List, [], ◌∷◌, ◌++◌, map}
use Rattle.lines.specs.Number.{decimal_in, decimal}
use Rattle.lines.specs.Line.{skipped_line, kept_line}
use Rattle.records.specs.Record.{marked, known, body_of, found_at}
use Rattle.salvage.specs.Salvage.{steps_from, steps_of, kept, records, with_byte, skipped, stretch}
use Rattle.salvage_log.specs.Output.{skipped_lines, report_of, output_of, file_of}

-- `kept records may include damage`, and the words of the other lines
abbrev heading : List ℕ
heading = 107 ∷ 101 ∷ 112 ∷ 116 ∷ 32 ∷ 114 ∷ 101 ∷ 99 ∷ 111 ∷ 114 ∷ 100 ∷ 115 ∷ 32 ∷ 109 ∷ 97 ∷ 121 ∷ 32 ∷ 105 ∷ 110 ∷ 99 ∷ 108 ∷ 117 ∷ 100 ∷ 101 ∷ 32 ∷ 100 ∷ 97 ∷ 109 ∷ 97 ∷ 103 ∷ 101 ∷ 10 ∷ []

-- `skipped L at B` and `kept N`, of numbers in digits
abbrev skips : List ℕ → List ℕ → List ℕ
skips l b = (115 ∷ 107 ∷ 105 ∷ 112 ∷ 112 ∷ 101 ∷ 100 ∷ 32 ∷ []) ++ l ++ (32 ∷ 97 ∷ 116 ∷ 32 ∷ []) ++ b ++ 10 ∷ []

abbrev keeps : List ℕ → List ℕ
keeps n = (107 ∷ 101 ∷ 112 ∷ 116 ∷ 32 ∷ []) ++ n ++ 10 ∷ []

-- `0`, `1`, `2`, `5`, `7`, `10`, `12`, `37`, `60`
abbrev d0 : List ℕ
d0 = 48 ∷ []

abbrev d1 : List ℕ
d1 = 49 ∷ []

abbrev d2 : List ℕ
d2 = 50 ∷ []

abbrev d5 : List ℕ
d5 = 53 ∷ []

abbrev d7 : List ℕ
d7 = 55 ∷ []

abbrev d10 : List ℕ
d10 = 49 ∷ 48 ∷ []

abbrev d12 : List ℕ
d12 = 49 ∷ 50 ∷ []

abbrev d37 : List ℕ
d37 = 51 ∷ 55 ∷ []

abbrev d60 : List ℕ
d60 = 54 ∷ 48 ∷ []

-- the request's own example: skipped 5 at 37, skipped 1 at 60, kept 12
pub example : report_of (stretch 37 5 ∷ stretch 60 1 ∷ []) 12 ≡ heading ++ skips d5 d37 ++ skips d1 d60 ++ keeps d12
unfolding report_of skipped_lines skipped_line kept_line decimal decimal_in
example = refl

-- a delivery step
abbrev step : List ℕ
step = 0x7E ∷ 0xB5 ∷ 6 ∷ []

pub record Line : Type 0 where
  pub log : List ℕ
  pub text : List ℕ
  pub file : List ℕ

abbrev line : List ℕ → List ℕ → List ℕ → Line
line s t f = record { log = s; text = t; file = f }

pub sheet : List Line
sheet =
    -- an empty log, and a sound one: the heading is there all the same
    line [] (heading ++ keeps d0) []
    ∷ line (step ++ step) (heading ++ keeps d2) (step ++ step)
    -- a delivery step within damage
    ∷ line ((0x7F ∷ 0xB5 ∷ 2 ∷ 0 ∷ 4 ∷ 0x10 ∷ 0 ∷ []) ++ step ++ (0 ∷ 0 ∷ 0 ∷ 0 ∷ 0 ∷ [])) (heading ++ skips d7 d0 ++ skips d5 d10 ++ keeps d1) step
    ∷ []

pub holds : map (λ l. line l.log (output_of l.log) (file_of l.log)) sheet ≡ sheet
unfolding sheet output_of file_of report_of skipped_lines skipped_line kept_line decimal decimal_in steps_of steps_from found_at marked known body_of kept records with_byte skipped
holds = refl
