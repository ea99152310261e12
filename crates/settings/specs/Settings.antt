-- "Settings for each mill": what they are, document 01's, and the range of each number.
use Rattle.std.specs.Prelude.{ℕ, zero, suc, ◌^◌, Bool, not, ◌&&◌, eqb, leb, ltb}
use Rattle.settings.specs.declared.Settings.{Settings}

-- a route mask for each timer, by its number
abbrev pub mask_of : Settings → ℕ → ℕ
mask_of s zero = s.mask0
mask_of s (suc zero) = s.mask1
mask_of s (suc (suc m)) = s.mask2

-- document 01's: period 100,000,000 fs, vendor 0x8086, routes to every pin, id 0
abbrev pub standard : Settings
standard = record { vendor = 0x8086; period = 100000000; mask0 = 0x00FFFFFF; mask1 = 0x00FFFFFF; mask2 = 0x00FFFFFF; id = 0 }

-- ---- ranges

-- the vendor has 16 bits
unfoldable pub vendor_ok : ℕ → Bool
vendor_ok v = ltb v (2 ^ 16)

-- the period is 1 to 100,000,000
unfoldable pub period_ok : ℕ → Bool
period_ok p = leb 1 p && leb p 100000000

-- each mask is nonzero and below 2^24
unfoldable pub mask_ok : ℕ → Bool
mask_ok m = not (eqb m 0) && ltb m (2 ^ 24)

-- the id is at most 15
unfoldable pub id_ok : ℕ → Bool
id_ok i = leb i 15

unfoldable pub in_range : Settings → Bool
in_range s =
    vendor_ok s.vendor
    && (period_ok s.period && (mask_ok s.mask0 && (mask_ok s.mask1 && (mask_ok s.mask2 && id_ok s.id))))
