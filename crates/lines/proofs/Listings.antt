-- The text of settings is told from a refusal's line.
use mathlib.Core.Path.{◌≡◌, ap}
use mathlib.Core.List.{List}
use Prim.Native.Nat.{ℕ}
use native.Mathlib.Omega.{arith}
use lib.ListN.{get_or}
use Rattle.answers.specs.declared.Refusal.{Refusal}
use Rattle.settings.specs.declared.Settings.{Settings}
use Rattle.lines.specs.Line.{said_of, refused_of}
use Rattle.lines.specs.Listing.{head_of, text_of}

-- it begins with `f`, and the line with `r`
pub no-refusal : (x : Settings) (r : Refusal) → text_of x ≡ refused_of r → ⊥
unfolding text_of head_of refused_of said_of
no-refusal x r e =
    let first : ◌≡◌ {A = ℕ} 102 114 = ap (λ (l : List ℕ). get_or l 0 0) e in
    omega (arith, first)
