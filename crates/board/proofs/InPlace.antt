-- What is decided of a pin and stored where the board's arrays lie is the call.
use Prim.Native.Nat.{ℕ, ◌%◌, ◌^◌, ◌<◌}
use mathlib.Core.Path.{◌≡◌, refl, sym, subst, ap, ◌∙◌}
use mathlib.Core.Bool.{Bool, true, false, cond}
use mathlib.Core.List.{List}
use native.Mathlib.Nat.{mod-eq_of_lt}
use native.Mathlib.Omega.{arith}
use lib.Dec.{eqb, ltb}
use Rattle.std.specs.Prelude.{Some, None}
use Rattle.answers.specs.declared.Answer.TheVariants as answer
use Rattle.entries.specs.declared.EntryDecision.{EntryDecision}
use Rattle.entries.specs.declared.WireDecision.{WireDecision}
use Rattle.entries.specs.Table.{first_eligible}
use Rattle.entries.specs.Decision.{stored_at, write_at, change_at, rewired}
use Rattle.entries.proofs.Decided.{write-written, write_done, change-wired}
use Rattle.controller.specs.State.{with_entries}
use Rattle.controller.specs.Inner.{delivery_of, delivery_if, low_pin, rewired_at}
use Rattle.controller.proofs.InPlace.{low-pin-value, low-pin-writes, delivering-decided, some-if, delivering-none as controller-none}
use Rattle.board.specs.declared.Board.{Board}
use Rattle.board.specs.State.{board, with_controller, with_entry, with_wires, turn}
use Rattle.board.specs.Step.{by_controller, writing_of, delivering_on_board}
use Rattle.board.specs.At.{renewed_by, low_pin_of, low_write_at}

module _ (b : Board) where
  -- ---- stored in place

  -- an entry, where w and h are the low words and the held edges
  pub entry-in-place :
      (f : List ℕ → List ℕ → EntryDecision) (d : EntryDecision) (w h w' h' : List ℕ) → d ≡ f w h →
      (w' ≡ stored_at w d.pin d.low) × (h' ≡ stored_at h d.pin d.held) → turn (with_entry b w' h') d.answer ≡ renewed_by (with_entry b w h) (f w h)
  entry-in-place f d w h w' h' is s = (λ i. turn (with_entry b (s.0 i) (s.1 i)) d.answer) ∙ ap (renewed_by (with_entry b w h)) is

  -- a pin's wire, where l, h and u are the levels, the held edges and the outside levels
  pub wire-in-place :
      (n x : ℕ) → n < 24 → (d : WireDecision) (l h u l' h' u' : List ℕ) → d ≡ change_at n x b.controller.entries.low l h →
      (l' ≡ stored_at l d.pin d.level) × (h' ≡ stored_at h d.pin d.held) →
      with_wires b l' h' u' ≡ board (rewired_at (with_wires b l h u).controller n x) b.timers u'
  wire-in-place n x below d l h u l' h' u' is s =
      (λ i. with_wires b (s.0 i) (s.1 i) u')
      ∙ ap (λ (y : WireDecision). board (with_entries b.controller (rewired (with_wires b l h u).controller.entries y)) b.timers u') is
      ∙ (λ i. board (with_entries b.controller (change-wired (with_wires b l h u).controller.entries n below x i)) b.timers u')

  -- ---- the calls

  pub delivering-renewed : delivering_on_board b ≡ renewed_by b (delivery_of b.controller b.controller.entries.low b.controller.entries.held)
  unfolding delivering_on_board
  delivering-renewed = ap (by_controller b) (delivering-decided b.controller)

  -- as the code decides it: a pin's, or none
  pub delivering-some : (d : EntryDecision) → Some d ≡ delivery_if b.controller b.controller.entries.low b.controller.entries.held → delivering_on_board b ≡ renewed_by b d
  delivering-some d e =
      delivering-renewed
      ∙ ap (renewed_by b)
      (sym (some-if (ltb (first_eligible b.controller.entries) 24) (delivery_of b.controller b.controller.entries.low b.controller.entries.held) d e))

  pub delivering-none : None ≡ delivery_if b.controller b.controller.entries.low b.controller.entries.held → delivering_on_board b ≡ turn b answer.Nothing
  unfolding delivering_on_board
  delivering-none e = ap (by_controller b) (controller-none b.controller e)

  module _ (window width offset value : ℕ) (l : low_pin_of b.controller.index window width offset value < 24) where
    pub writing-low : writing_of b window width offset value ≡ low_write_at b (low_pin_of b.controller.index window width offset value) (value % 2 ^ 32)
    unfolding writing_of low_write_at low_pin_of
    writing-low = go (eqb window 0) refl
      where
        n : ℕ
        n = low_pin b.controller.index width offset value

        go : (x : Bool) → eqb window 0 ≡ x → writing_of b window width offset value ≡ low_write_at b (cond (eqb window 0) n 24) (value % 2 ^ 32)
        go true t =
            let m : n < 24 = subst (λ (x : Bool). cond x n 24 < 24) t l in
            rw t
            (ap (by_controller b) (low-pin-writes b.controller width offset value m)
            ∙ (λ i. turn (with_controller b (with_entries b.controller (sym (write-written b.controller.entries n m value) i))) (sym (write_done n value b.controller.entries.low b.controller.entries.held) i))
            ∙ ap (λ (v : ℕ). renewed_by b (write_at n v b.controller.entries.low b.controller.entries.held)) (sym (mod-eq_of_lt (low-pin-value b.controller.index width offset value m))))
        go false t = let m : 24 < 24 = subst (λ (x : Bool). cond x n 24 < 24) t l in absurd (omega (arith, m))
