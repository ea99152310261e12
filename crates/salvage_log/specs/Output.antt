-- All that the program writes for a log: the text that it prints, and the new file.
use Rattle.std.specs.Prelude.{ℕ, zero, suc, ◌+◌, ◌*◌, List, [], ◌∷◌, ◌++◌, Bool, cond, not, ltb, length, get_or}
use Rattle.lines.specs.Line.{too_long, heading_line, skipped_line, kept_line}
use Rattle.salvage.specs.Salvage.{Stretch, kept_of, records_of, skipped_of}

-- a line for each skipped stretch
unfoldable pub skipped_lines : List Stretch → List ℕ
skipped_lines [] = []
skipped_lines (t ∷ more) = skipped_line t.size t.offset ++ skipped_lines more

-- the report of the stretches that were skipped, and of how many records were kept
unfoldable pub report_of : List Stretch → ℕ → List ℕ
report_of ts n = (heading_line ++ skipped_lines ts) ++ kept_line n

-- The program takes at most 262,144 bytes: of a longer log it prints only `too long`, and it makes no file.
abbrev pub takes : List ℕ → Bool
takes s = not (ltb 262144 (length s))

unfoldable pub output_of : List ℕ → List ℕ
output_of s = cond (takes s) (report_of (skipped_of s) (records_of s)) too_long

-- what stands in the new file
unfoldable pub file_of : List ℕ → List ℕ
file_of s = cond (takes s) (kept_of s) []

-- ---- the report as the numbers of a list say it, offset and length for each stretch, from stretch i on

unfoldable pub list_lines : List ℕ → ℕ → ℕ → List ℕ
list_lines l i zero = []
list_lines l i (suc k) = skipped_line (get_or l (2 * i + 1) 0) (get_or l (2 * i) 0) ++ list_lines l (i + 1) k

unfoldable pub list_report : List ℕ → ℕ → ℕ → List ℕ
list_report l k n = (heading_line ++ list_lines l 0 k) ++ kept_line n
