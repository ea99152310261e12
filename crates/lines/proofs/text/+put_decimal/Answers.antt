use mathlib.Core.Path.{sym, ap, ◌∙◌}
use mathlib.Core.List.{[], ◌∷◌, ◌++◌}
use Prim.Native.Nat.{ℕ, ◌/◌, ◌<◌, ◌≤◌}
use native.Mathlib.Omega.{arith}
use lib.ListN.{length}
use Rattle.lines.specs.Number.{decimal}
use Rattle.lines.proofs.Puts.{put_same, put_then}
use Rattle.lines.proofs.Numbers.{decimal_one, decimal_more, decimal_longer}
use Rattle.lines.proofs.text.+put_decimal.Goals as goal

pub put_byte-requires : goal.put_byte-requires
put_byte-requires t c =
    omega (arith, c.requires, ap length (decimal_one c.args.n c.if-n-lt10.true))

pub returns-then-n-lt10 : goal.returns-then-n-lt10
returns-then-n-lt10 t c =
    put_same (ap (λ (b : ℕ). b ∷ []) c.digit-b.ensures ∙ sym (decimal_one c.args.n c.if-n-lt10.true)) c.put_byte.ensures

pub put_decimal-p-requires : goal.put_decimal-p-requires
put_decimal-p-requires t c =
    (omega arith, omega (arith, c.requires, decimal_longer c.args.n c.if-n-lt10.false (omega (arith, c.ranges.n))))

pub put_byte-requires-2 : goal.put_byte-requires-2
put_byte-requires-2 t c =
    omega (arith, c.requires, c.put_decimal-p.ensures.next, c.put_decimal-p.auto.out, decimal_longer c.args.n c.if-n-lt10.false (omega (arith, c.ranges.n)))

pub returns : goal.returns
returns t c =
    let h : 10 ≤ c.args.n = c.if-n-lt10.false in
    let k : c.args.n < 18446744073709551616 = omega (arith, c.ranges.n) in
    put_same (ap (λ (b : ℕ). decimal (c.args.n / 10) ++ (b ∷ [])) c.digit-b-2.ensures ∙ sym (decimal_more c.args.n h k))
    (put_then c.put_decimal-p.ensures c.put_byte-2.ensures (omega (arith, c.requires, decimal_longer c.args.n h k)))
