use mathlib.Core.Path.{sym, ap, ◌∙◌}
use mathlib.Core.List.{[], ◌∷◌, ◌++◌}
use Prim.Native.Nat.{ℕ, ◌-◌, ◌/◌, ◌<◌}
use native.Mathlib.Omega.{arith}
use Rattle.lines.specs.Number.{digits}
use Rattle.lines.proofs.Puts.{put_same, put_then, nothing}
use Rattle.lines.proofs.Numbers.{length_digits, digits_none, digits_more}
use Rattle.lines.proofs.text.+put_hex.Goals as goal

pub returns-then-k-eq0 : goal.returns-then-k-eq0
returns-then-k-eq0 t c =
    put_same (sym (digits_none 16 c.args.k c.args.n c.if-k-eq0.true)) (nothing c.args.out.now c.args.at)

pub put_byte-requires : goal.put_byte-requires
put_byte-requires t c =
    omega (arith, c.requires, c.put_hex-p.ensures.next, c.put_hex-p.auto.out, length_digits 16 (c.args.k - 1) (c.args.n / 16))

pub returns : goal.returns
returns t c =
    let some : 0 < c.args.k = omega arith in
    put_same (ap (λ (b : ℕ). digits 16 (c.args.k - 1) (c.args.n / 16) ++ (b ∷ [])) c.digit-b.ensures ∙ sym (digits_more 16 c.args.k c.args.n some))
    (put_then c.put_hex-p.ensures c.put_byte.ensures (omega (arith, c.requires, length_digits 16 (c.args.k - 1) (c.args.n / 16))))
