-- Laws of Booleans.
use mathlib.Core.Path.{◌≡◌, refl, sym, subst}
use mathlib.Core.Bool.{Bool, true, false, not, ◌&&◌, ◌||◌}
use Prim.Native.Nat.{◌<◌}
use lib.Dec.{T, eqb, lit<}
use mir.Val.{bool_byte}

pub clash : {A : Type 0} → true ≡ false → A
clash e = absurd (subst T e tt)

-- ---- and

pub and_left : (a b : Bool) → a && b ≡ true → a ≡ true
and_left true b e = refl
and_left false b e = e

pub and_right : (a b : Bool) → a && b ≡ true → b ≡ true
and_right true b e = e
and_right false b e = clash (sym e)

pub and_both : {a b : Bool} → a ≡ true → b ≡ true → a && b ≡ true
and_both p q = rw (p, q)

pub and-false : (a : Bool) → a && false ≡ false
and-false true = refl
and-false false = refl

pub and-true : (a : Bool) → a && true ≡ a
and-true true = refl
and-true false = refl

pub and_assoc : (a b c : Bool) → a && b && c ≡ a && (b && c)
and_assoc true b c = refl
and_assoc false b c = refl

pub and-middle : (a b c d : Bool) → a && b && (c && d) ≡ a && c && (b && d)
and-middle false b c d = refl
and-middle true true c d = refl
and-middle true false true d = refl
and-middle true false false d = refl

-- ---- not both

pub not-both : (a b : Bool) → not (a && b) ≡ true → a ≡ true → b ≡ false
not-both true true e h = sym e
not-both true false e h = refl
not-both false b e h = clash (sym h)

pub not-both-of : (a b : Bool) → (a ≡ true → b ≡ false) → not (a && b) ≡ true
not-both-of true b f = rw (f refl)
not-both-of false b f = refl

-- ---- neither, either

pub neither : (a b : Bool) → not a && not b ≡ true → a || b ≡ false
neither true b e = sym e
neither false true e = sym e
neither false false e = refl

pub either : (a b : Bool) → not a && not b ≡ false → a || b ≡ true
either true b e = refl
either false true e = refl
either false false e = clash e

-- ---- a test decided either way

pub not-true-false : (a : Bool) → (a ≡ true → ⊥) → a ≡ false
not-true-false true f = absurd (f refl)
not-true-false false f = refl

-- ---- as a byte

pub byte-lt : (b : Bool) → bool_byte b < 2
byte-lt true = lit< tt
byte-lt false = lit< tt

pub eqb-byte : (b : Bool) → eqb (bool_byte b) 1 ≡ b
eqb-byte true = refl
eqb-byte false = refl
