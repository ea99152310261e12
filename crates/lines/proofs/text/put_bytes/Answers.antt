use mathlib.Core.Path.{◌≡◌, refl, sym, ap, ◌∙◌}
use mathlib.Core.List.{List, ◌++◌, append_assoc}
use Prim.Native.Nat.{ℕ, ◌+◌}
use native.Mathlib.Numerals.{add-one}
use native.Mathlib.Omega.{arith}
use lib.ListN.{length, take, drop, get_or, set, length-set}
use lib.Seq.{paste, paste-zero, paste-suc, take-length}
use borrow.Author.Rules.{rules}
use Rattle.lines.proofs.text.put_bytes.Goals as goal

pub loop-k-init : goal.loop-k-init
loop-k-init c = (search rules, paste-zero c.args.out.now c.args.at c.args.s.now, refl)

pub loop-k-preserved : goal.loop-k-preserved
loop-k-preserved c =
    let s = c.args.s.now in
    let o = c.args.out.now in
    let at = c.args.at in
    let k = c.loop-k.k in (
      search rules,
      ap (λ (l : List ℕ). set l (at + k) (get_or s k 0)) c.loop-k.invariant.1
          ∙ paste-suc o at s k 0 (omega arith) (omega arith)
          ∙ ap (paste o at s) (sym (add-one k)),
      length-set c.loop-k.out (at + k) (get_or s k 0) ∙ c.loop-k.invariant.2,
    )

pub shape_of-out : goal.shape_of-out
shape_of-out c = c.loop-k.invariant.2

pub returns : goal.returns
returns c =
    let s = c.args.s.now in
    let o = c.args.out.now in
    let at = c.args.at in
    let all : c.loop-k.k ≡ length s = omega arith in
    record {
      holds = c.loop-k.invariant.1 ∙ ap (paste o at s) all ∙ ap (λ (l : List ℕ). (take at o ++ l) ++ drop (at + length s) o) (take-length s) ∙ append_assoc (take at o) s (drop (at + length s) o);
      next = ap (λ (m : ℕ). at + m) all;
    }
