-- A low word after a write, field by field.
use mathlib.Core.Path.{◌≡◌, ◌∙◌}
use mathlib.Core.Bool.{Bool, true, false, cond}
use Prim.Native.Nat.{ℕ, ◌+◌, ◌*◌, ◌/◌, ◌%◌, ◌<◌}
use native.Mathlib.Omega.{arith}
use native.Mathlib.Nat.{mod-lt, div-div-eq-div-mul}
use lib.Dec.{lit<}
use Rattle.entries.specs.Word.{mode_of, active_low_of, remote_of, level_of, masked_of, writable, written}

-- bits 11:0, 13, 16:15 and 14, put together
pub fields-12 : (m a b d : ℕ) → m < 4096 → (m + a * 8192 + b * 32768 + d * 16384) / 4096 % 2 ≡ 0
fields-12 m a b d h = omega arith

fields-8 : (m a b d : ℕ) → (m + a * 8192 + b * 32768 + d * 16384) / 256 % 8 ≡ m / 256 % 8
fields-8 m a b d = omega arith

fields-13 : (m a b d : ℕ) → m < 4096 → a < 2 → (m + a * 8192 + b * 32768 + d * 16384) / 8192 % 2 ≡ a
fields-13 m a b d h i = omega arith

fields-14 : (m a b d : ℕ) → m < 4096 → a < 2 → d < 2 → (m + a * 8192 + b * 32768 + d * 16384) / 16384 % 2 ≡ d
fields-14 m a b d h i k = omega arith

fields-15 : (m a b d : ℕ) → m < 4096 → a < 2 → d < 2 → (m + a * 8192 + b * 32768 + d * 16384) / 32768 ≡ b
fields-15 m a b d h i k = omega arith

fields-16 : (m a b d : ℕ) → m < 4096 → a < 2 → d < 2 → (m + a * 8192 + b * 32768 + d * 16384) / 65536 ≡ b / 2
fields-16 m a b d h i k = omega arith

fields-17 : (m a b d : ℕ) → m < 4096 → a < 2 → b < 4 → d < 2 → (m + a * 8192 + b * 32768 + d * 16384) / 131072 ≡ 0
fields-17 m a b d h i j k = omega arith

three-of-twelve : (n : ℕ) → n % 4096 / 256 % 8 ≡ n / 256 % 8
three-of-twelve n = omega arith

two-of-four : (n : ℕ) → n % 4 % 2 ≡ n % 2
two-of-four n = omega arith

upper-of-four : (n : ℕ) → n % 4 / 2 % 2 ≡ n / 2 % 2
upper-of-four n = omega arith

module _ (w v : ℕ) where
  m-lt : v % 4096 < 4096
  m-lt = mod-lt v (lit< tt)

  a_lt : v / 8192 % 2 < 2
  a_lt = mod-lt (v / 8192) (lit< tt)

  b_lt : v / 32768 % 4 < 4
  b_lt = mod-lt (v / 32768) (lit< tt)

  -- remote IRR after a write: the bit of the word before, if the value is level
  abbrev d : ℕ
  d = cond (level_of v) (w / 16384 % 2) 0

  d-lt : d < 2
  d-lt = go (level_of v)
    where
      go : (b : Bool) → cond b (w / 16384 % 2) 0 < 2
      go true = mod-lt (w / 16384) (lit< tt)
      go false = lit< tt

  -- bits 12 and 31:17 are 0
  pub status-written : written w v / 4096 % 2 ≡ 0
  unfolding written writable
  status-written = fields-12 (v % 4096) (v / 8192 % 2) (v / 32768 % 4) d m-lt

  pub unused-written : written w v / 131072 ≡ 0
  unfolding written writable
  unused-written = fields-17 (v % 4096) (v / 8192 % 2) (v / 32768 % 4) d m-lt a_lt b_lt d-lt

  -- the fields after a write are those of the value
  pub mode-written : mode_of (written w v) ≡ mode_of v
  unfolding mode_of written writable
  mode-written = fields-8 (v % 4096) (v / 8192 % 2) (v / 32768 % 4) d ∙ three-of-twelve v

  pub active-low-written : active_low_of (written w v) ≡ active_low_of v
  unfolding written writable
  active-low-written = fields-13 (v % 4096) (v / 8192 % 2) (v / 32768 % 4) d m-lt a_lt

  pub masked-written : masked_of (written w v) ≡ masked_of v
  unfolding masked_of written writable
  masked-written =
      rw (fields-16 (v % 4096) (v / 8192 % 2) (v / 32768 % 4) d m-lt a_lt d-lt, upper-of-four (v / 32768), div-div-eq-div-mul v 32768 2)

  pub level-written : level_of (written w v) ≡ level_of v
  unfolding level_of written writable
  level-written = rw (fields-15 (v % 4096) (v / 8192 % 2) (v / 32768 % 4) d m-lt a_lt d-lt, two-of-four (v / 32768))

  -- a write that leaves the entry edge sets remote IRR to 0 …
  pub remote-cleared : level_of v ≡ false → remote_of (written w v) ≡ false
  unfolding remote_of written writable
  remote-cleared t = rw (fields-14 (v % 4096) (v / 8192 % 2) (v / 32768 % 4) d m-lt a_lt d-lt, t)

  -- … and one that leaves it level keeps the bit
  pub remote-kept : level_of v ≡ true → remote_of (written w v) ≡ remote_of w
  unfolding remote_of written writable
  remote-kept t = rw (fields-14 (v % 4096) (v / 8192 % 2) (v / 32768 % 4) d m-lt a_lt d-lt, t)
