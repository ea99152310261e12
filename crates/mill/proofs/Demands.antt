-- Each refusal if and only if, and what a refused call leaves. Sized says that the lists of a mill's board are as long
-- as the code's arrays; it holds of every value that the code can have.
use Prim.Native.Nat.{ℕ}
use mathlib.Core.Path.{◌≡◌, refl, sym, ap, ◌∙◌}
use mathlib.Core.Bool.{Bool, true, false, not, cond}
use mathlib.Core.List.{List, [], ◌∷◌}
use lib.Dec.{ltb}
use Rattle.answers.specs.declared.Answer.{Answer}
use Rattle.answers.specs.declared.Answer.TheVariants as answer
use Rattle.answers.specs.declared.Refusal.{Refusal}
use Rattle.answers.specs.declared.Refusal.TheVariants as refusal
use Rattle.answers.specs.Numbers.{number_of, bare, numbers_of, is_done}
use Rattle.answers.specs.Order.{first_number, Test, test, Given}
use Rattle.answers.proofs.Order.{only_if, if, Decided, done_decided, refused-decided, later-decided}
use Rattle.answers.proofs.Refused.{answer_number, refused-bare, one-result}
use Rattle.board.specs.declared.Board.{Board}
use Rattle.board.specs.declared.Call.{Call}
use Rattle.board.specs.declared.Call.TheVariants as call
use Rattle.board.specs.Step.{turn_of as board_turn}
use Rattle.board.specs.Runs.{tests_of as board_tests}
use Rattle.board.specs.Events.{Event, reset, end, other, is_edge, delivery_of, event_of}
use Rattle.board.proofs.Formed.{Sized}
use Rattle.board.proofs.Demands.{decided as board-decided}
use Rattle.board.proofs.Served.{reset-done, reset-refused}
use Rattle.settings.specs.declared.Settings.{Settings}
use Rattle.settings.specs.Settings.{in_range}
use Rattle.board.specs.declared.Turn.{Turn}
use Rattle.mill.specs.declared.Mill.{Mill}
use Rattle.mill.specs.declared.MillCall.{MillCall}
use Rattle.mill.specs.declared.MillCall.TheVariants as millcall
use Rattle.mill.specs.declared.MillTurn.{MillTurn}
use Rattle.mill.specs.Screen.{shown_after}
use Rattle.mill.specs.Mill.{mill, held_of, well_formed, refused, by_board, looked_at, telling_of, is_paused, resuming_of, served_of, turn_of}
use Rattle.mill.specs.Runs.{tests_of}
use Rattle.mill.proofs.Keeps.{Good, good-in}
use Rattle.mill.proofs.Served.{reset-served, reset-rejected}
use Rattle.mill.proofs.Steps.{shown-rests}

abbrev DecidedTurn : Mill → List Test → MillTurn → Type 0
DecidedTurn m ts t = Decided Mill ts m t.mill t.answer

-- ---- a refused call did nothing

no-delivery : (a : Answer) → (answer_number a ≡ 0 → ⊥) → delivery_of a ≡ other
unfolding numbers_of
no-delivery answer.Done f = absurd (f refl)
no-delivery (answer.Value v) f = absurd (f refl)
no-delivery (answer.Fired x y z) f = absurd (f refl)
no-delivery (answer.Interrupt p v d l) f = absurd (f refl)
no-delivery answer.Nothing f = absurd (f refl)
no-delivery (answer.Refused r) f = refl

not_done : (a : Answer) → (answer_number a ≡ 0 → ⊥) → is_done a ≡ false
unfolding numbers_of
not_done answer.Done f = absurd (f refl)
not_done (answer.Value v) f = absurd (f refl)
not_done (answer.Fired x y z) f = absurd (f refl)
not_done (answer.Interrupt p v d l) f = absurd (f refl)
not_done answer.Nothing f = absurd (f refl)
not_done (answer.Refused r) f = refl

did_nothing : (c : Call) (a : Answer) → (answer_number a ≡ 0 → ⊥) → event_of c a ≡ other
did_nothing (call.Read window width offset) a f = refl
did_nothing (call.Write window width offset value) a f = refl
did_nothing (call.Wire pin level) a f = refl
did_nothing (call.End vector) a f = ap (λ (x : Bool). cond x (end vector) other) (not_done a f)
did_nothing (call.Advance n) a f = refl
did_nothing call.Deliver a f = no-delivery a f
did_nothing (call.Reset z) a f = ap (λ (x : Bool). cond x reset other) (not_done a f)

module _ (m : Mill) where
  refuses : (n : ℕ) (ts : List Test) (r : Refusal) → number_of r ≡ n → DecidedTurn m (test n true ∷ ts) (refused m r)
  refuses n ts r e = refused-decided m (test n true) ts r refl e

  passes : (n : ℕ) (ts : List Test) (t : MillTurn) → DecidedTurn m ts t → DecidedTurn m (test n false ∷ ts) t
  passes n ts t d = later-decided m (test n false) ts t.mill t.answer refl d

  then : (n : ℕ) (ts : List Test) (r : Refusal) (t : MillTurn) (f : Bool) → number_of r ≡ n → DecidedTurn m ts t → DecidedTurn m (test n (not f) ∷ ts) (cond f t (refused m r))
  then n ts r t true e d = passes n ts t d
  then n ts r t false e d = refuses n ts r e

module _ (m : Mill) (z : Sized m.board) where
  -- refusal 5 is tested first
  first-test : (ts : List Test) (t : MillTurn) → (Good m → DecidedTurn m ts t) → DecidedTurn m (test 5 (not (well_formed m)) ∷ ts) (cond (well_formed m) t (refused m refusal.State))
  unfolding number_of
  first-test ts t d = go (well_formed m) refl
    where
      go : (f : Bool) → well_formed m ≡ f → DecidedTurn m (test 5 (not f) ∷ ts) (cond f t (refused m refusal.State))
      go true e = passes m 5 ts t (d (good-in m e z))
      go false e = refuses m 5 ts refusal.State refl

  -- a call of the board: what the board's own tests decide; refused, it leaves the screen too
  of-board : Good m → (c : Call) → DecidedTurn m (board_tests m.board c) (by_board m.screen c (board_turn m.board c))
  of-board g c =
      let t = board_turn m.board c in
      let d = board-decided m.board z c in
      record {
        number = d.number;
        same = λ f.
            ap (λ (b : Board). mill b (shown_after m.screen (held_of b) (event_of c t.answer))) (d.same f)
            ∙ ap (λ (e : Event). mill m.board (shown_after m.screen (held_of m.board) e)) (did_nothing c t.answer f)
            ∙ ap (mill m.board) (shown-rests m g);
      }

  -- a reset, whatever the mill is
  reset-decided : (s : Settings) → DecidedTurn m (board_tests m.board (call.Reset s)) (turn_of m (millcall.Board (call.Reset s)))
  unfolding numbers_of
  reset-decided s = go (in_range s) refl
    where
      d : answer_number (board_turn m.board (call.Reset s)).answer ≡ first_number (board_tests m.board (call.Reset s))
      d = (board-decided m.board z (call.Reset s)).number

      go : (x : Bool) → in_range s ≡ x → DecidedTurn m (board_tests m.board (call.Reset s)) (turn_of m (millcall.Board (call.Reset s)))
      go true e =
          let is = reset-served m s e in
          record {
            number = ap (λ (t : MillTurn). answer_number t.answer) is ∙ sym (ap (λ (t : Turn). answer_number t.answer) (reset-done m.board s e)) ∙ d;
            same = λ f. absurd (f (ap (λ (t : MillTurn). answer_number t.answer) is));
          }
      go false e =
          let is = reset-rejected m s e in
          record {
            number = ap (λ (t : MillTurn). answer_number t.answer) is ∙ sym (ap (λ (t : Turn). answer_number t.answer) (reset-refused m.board s e)) ∙ d;
            same = λ f. ap (λ (t : MillTurn). t.mill) is;
          }

  telling-decided : (p : ℕ) → DecidedTurn m (test 3 (not (ltb p 24)) ∷ test 14 (not (is_edge m.board p)) ∷ []) (telling_of m p)
  unfolding telling_of number_of numbers_of
  telling-decided p =
      then m 3 _ refusal.Pin _ (ltb p 24) refl
      (then m 14 [] refusal.NotEdge _ (is_edge m.board p) refl (done_decided m (looked_at m p) answer.Done refl))

  resuming-decided : DecidedTurn m [] (resuming_of m)
  unfolding resuming_of numbers_of
  resuming-decided = done_decided m (cond (is_paused m) (looked_at m m.screen.pin) m) answer.Done refl

  pub decided : (c : MillCall) → DecidedTurn m (tests_of m c) (turn_of m c)
  unfolding turn_of served_of tests_of
  decided (millcall.Board (call.Read window width offset)) = first-test _ _ (λ g. of-board g (call.Read window width offset))
  decided (millcall.Board (call.Write window width offset value)) = first-test _ _ (λ g. of-board g (call.Write window width offset value))
  decided (millcall.Board (call.Wire pin level)) = first-test _ _ (λ g. of-board g (call.Wire pin level))
  decided (millcall.Board (call.End vector)) = first-test _ _ (λ g. of-board g (call.End vector))
  decided (millcall.Board (call.Advance n)) = first-test _ _ (λ g. of-board g (call.Advance n))
  decided (millcall.Board call.Deliver) = first-test _ _ (λ g. of-board g call.Deliver)
  decided (millcall.Board (call.Reset s)) = reset-decided s
  decided (millcall.Tell p) = first-test _ _ (λ g. telling-decided p)
  decided millcall.Resume = first-test _ _ (λ g. resuming-decided)

  module _ (c : MillCall) where
    -- a number is answered if and only if its test holds and none before it does
    pub number-only-if : (n : ℕ) → answer_number (turn_of m c).answer ≡ n → Given (tests_of m c) n
    number-only-if = only_if (tests_of m c) (answer_number (turn_of m c).answer) (decided c).number

    pub number-if : (n : ℕ) → Given (tests_of m c) n → answer_number (turn_of m c).answer ≡ n
    number-if = if (tests_of m c) (answer_number (turn_of m c).answer) (decided c).number

    -- "the screen stays as it was", and the board
    pub refused-same : (answer_number (turn_of m c).answer ≡ 0 → ⊥) → (turn_of m c).mill ≡ m
    refused-same = (decided c).same

-- read value 0, counts 0, no delivery
pub refused-empty : (m : Mill) (c : MillCall) → (answer_number (turn_of m c).answer ≡ 0 → ⊥) → numbers_of (turn_of m c).answer ≡ bare (answer_number (turn_of m c).answer)
refused-empty m c = refused-bare (turn_of m c).answer

-- any two results allowed are equal
pub one-turn : (m : Mill) (c : MillCall) (r s : MillTurn) → r ≡ turn_of m c → s ≡ turn_of m c → r ≡ s
one-turn m c r s = one-result
