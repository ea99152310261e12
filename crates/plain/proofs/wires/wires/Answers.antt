use Rattle.std.proofs.Common.{ℕ, ◌||◌, eqb, List, get_or, Option, None, refl, ap, ◌∙◌, rules}
use Rattle.std.specs.Option.{unwrap_or}
use mir.Val.{bool_byte}
use Rattle.pins.proofs.Store.{pins-cong}
use Rattle.timers.specs.Inner.{driven_pin}
use Rattle.board.specs.Wires.{high_at, wires_of}
use Rattle.board.proofs.Rule.{driven-by, high-by}
use Rattle.entries.proofs.Each.{tabled}
use Rattle.plain.proofs.wires.wires.Goals as goal

-- where a, b and c are driven: the level of pin i
abbrev rule : List ℕ → ℕ → ℕ → ℕ → ℕ → ℕ
rule o a b c i = bool_byte (eqb (get_or o i 0) 1 || (eqb a i || (eqb b i || eqb c i)))

pub returns : goal.returns
unfolding wires_of driven_pin
returns c =
    let s = c.args in
    let at : ℕ → Option ℕ = λ m. get_or c.map.result m None in
    let f = rule s.outside (unwrap_or (at 0) 24) (unwrap_or (at 1) 24) (unwrap_or (at 2) 24) in
    tabled f (λ i y q k. (search rules, search rules)) c.from_fn.ensures.items
    ∙ pins-cong f (λ i. bool_byte (high_at s.outside s.timers i)) 0
    (λ i h. ap bool_byte (high-by s.outside s.timers _ _ _ (driven-by s.timers 0 _ (at 0) refl (search rules)) (driven-by s.timers 1 _ (at 1) refl (search rules)) (driven-by s.timers 2 _ (at 2) refl (search rules)) i h))
