-- What follows from the call that numbers are, by the number of the kind.
use mathlib.Core.Path.{◌≡◌, refl}
use mathlib.Core.Bool.{Bool, true, false, cond}
use Prim.Native.Nat.{◌%◌, ◌^◌}
use lib.Dec.{eqb}
use Rattle.std.specs.Prelude.{Result, Ok, Err}
use Rattle.answers.specs.declared.Refusal.{Refusal}
use Rattle.answers.specs.declared.Refusal.TheVariants as refusal
use Rattle.settings.specs.Settings.{standard}
use Rattle.board.specs.declared.Call.{Call}
use Rattle.board.specs.declared.Call.TheVariants as call
use Rattle.board.specs.declared.CallNumbers.{CallNumbers}
use Rattle.board.specs.Numbers.{named_by}

module _ {A : Type 0} (f : Result Call Refusal → A) (n : CallNumbers) where
  abbrev pub by_kind : Bool → Bool → Bool → Bool → Bool → Bool → Bool → A
  by_kind a b c d e g h =
      cond a (f (Ok (call.Read n.p n.q n.r)))
      (cond b (f (Ok (call.Write n.p n.q n.r n.s)))
      (cond c (f (Ok (call.Wire n.p n.q)))
      (cond d (f (Ok (call.End (n.p % 2 ^ 8))))
      (cond e (f (Ok (call.Advance (n.p % 2 ^ 32))))
      (cond g (f (Ok call.Deliver))
      (cond h (f (Ok (call.Reset standard)))
      (f (Err refusal.Kind))))))))

  pub named-by-kind :
      f (named_by n)
      ≡ by_kind (eqb n.kind 1) (eqb n.kind 2) (eqb n.kind 3) (eqb n.kind 4) (eqb n.kind 5) (eqb n.kind 6) (eqb n.kind 7)
  unfolding named_by
  named-by-kind = go (eqb n.kind 1) (eqb n.kind 2) (eqb n.kind 3) (eqb n.kind 4) (eqb n.kind 5) (eqb n.kind 6) (eqb n.kind 7)
    where
      go :
          (a b c d e g h : Bool) →
          f
          (cond a (Ok (call.Read n.p n.q n.r))
          (cond b (Ok (call.Write n.p n.q n.r n.s))
          (cond c (Ok (call.Wire n.p n.q))
          (cond d (Ok (call.End (n.p % 2 ^ 8)))
          (cond e (Ok (call.Advance (n.p % 2 ^ 32)))
          (cond g (Ok call.Deliver)
          (cond h (Ok (call.Reset standard))
          (Err refusal.Kind))))))))
          ≡ by_kind a b c d e g h
      go true b c d e g h = refl
      go false true c d e g h = refl
      go false false true d e g h = refl
      go false false false true e g h = refl
      go false false false false true g h = refl
      go false false false false false true h = refl
      go false false false false false false true = refl
      go false false false false false false false = refl
