-- All that the program writes for a pause pin and a log, with a settings record and without one.
use Rattle.std.specs.Prelude.{ℕ, List, Bool, cond, ◌&&◌, ltb, length}
use Rattle.answers.specs.declared.Answer.{Answer}
use Rattle.answers.specs.declared.Answer.TheVariants as answer
use Rattle.answers.specs.Numbers.{is_done}
use Rattle.lines.specs.Line.{too_long, refused_of}
use Rattle.lines.specs.Listing.{settings_refused_of}
use Rattle.mill.specs.declared.Mill.{Mill}
use Rattle.mill.specs.declared.MillCall.TheVariants as millcall
use Rattle.mill.specs.declared.MillTurn.{MillTurn}
use Rattle.mill.specs.Mill.{reset_to, turn_of}
use Rattle.settings.specs.declared.Settings.{Settings}
use Rattle.settings.specs.Settings.{standard}
use Rattle.settings.specs.Record.{read_of}
use Rattle.watch.specs.Watch.{text_of}

-- ---- a mill

-- reset with settings, and told its pause pin
abbrev pub told_from : Settings → ℕ → MillTurn
told_from z pin = turn_of (reset_to z) (millcall.Tell pin)

-- The program takes at most 65,536 bytes; a longer log prints only `too long`.
unfoldable pub played_of : List ℕ → Mill → List ℕ
played_of s m = cond (ltb 65536 (length s)) too_long (text_of s m)

-- a telling that is refused prints only that, whatever the log is
unfoldable pub after_telling : List ℕ → Mill → Answer → List ℕ
after_telling s m (answer.Refused r) = refused_of r
after_telling s m answer.Done = played_of s m
after_telling s m (answer.Value v) = played_of s m
after_telling s m (answer.Fired a b c) = played_of s m
after_telling s m (answer.Interrupt p v d l) = played_of s m
after_telling s m answer.Nothing = played_of s m

unfoldable pub output_from : Settings → ℕ → List ℕ → List ℕ
output_from z pin s = after_telling s (told_from z pin).mill (told_from z pin).answer

-- ---- without a record: document 01's settings

abbrev pub output_of : ℕ → List ℕ → List ℕ
output_of pin s = output_from standard pin s

-- ---- with a record

-- a record that is refused prints only that, whatever the pin and the log are
unfoldable pub after_reading : ℕ → List ℕ → Settings → Answer → List ℕ
after_reading pin s z (answer.Refused r) = settings_refused_of r
after_reading pin s z answer.Done = output_from z pin s
after_reading pin s z (answer.Value v) = output_from z pin s
after_reading pin s z (answer.Fired a b c) = output_from z pin s
after_reading pin s z (answer.Interrupt p v d l) = output_from z pin s
after_reading pin s z answer.Nothing = output_from z pin s

unfoldable pub output_with : List ℕ → ℕ → List ℕ → List ℕ
output_with r pin s = after_reading pin s (read_of r).settings (read_of r).answer

-- ---- whether the log is read

abbrev pub takes_from : Settings → ℕ → Bool
takes_from z pin = is_done (told_from z pin).answer

abbrev pub takes_with : List ℕ → ℕ → Bool
takes_with r pin = is_done (read_of r).answer && takes_from (read_of r).settings pin
