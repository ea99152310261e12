-- The demands, for a reader who looks here first: the paper's sentence stands above each theorem.
-- Sized says that a board's lists are as long as the code's arrays; it holds of every value that the code can have.
use Prim.Native.Nat.{ℕ, zero, suc, ◌+◌, ◌<◌}
use mathlib.Core.Path.{◌≡◌, refl, sym, ap, ap₂, ◌∙◌}
use mathlib.Core.Bool.{Bool, true, false, not, cond, ◌||◌}
use mathlib.Core.List.{List, [], ◌∷◌}
use native.Mathlib.Omega.{arith}
use lib.Dec.{leb, ltb, eqb}
use lib.ListN.{get_or, set}
use Rattle.answers.specs.declared.Answer.{Answer}
use Rattle.answers.specs.declared.Answer.TheVariants as answer
use Rattle.answers.specs.declared.Refusal.{Refusal}
use Rattle.answers.specs.declared.Refusal.TheVariants as refusal
use Rattle.answers.specs.Numbers.{number_of, bare, numbers_of}
use Rattle.answers.specs.Order.{Test, test, Given}
use Rattle.answers.proofs.Order.{only_if, if, Decided, done_decided, refused-decided, later-decided}
use Rattle.answers.proofs.Refused.{answer_number, refused-bare, one-result}
use Rattle.entries.specs.declared.Entries.{Entries}
use Rattle.entries.specs.Table.{eligible_at, given}
use Rattle.entries.proofs.Delivery.{Lowest}
use Rattle.controller.specs.declared.Controller.{Controller}
use Rattle.controller.specs.declared.Turn.{Turn as ControllerTurn}
use Rattle.controller.specs.Window.{reading_of as controller_reading, writing_of as controller_writing}
use Rattle.controller.specs.Steps.{after_end, delivering_of, deliver_of}
use Rattle.controller.proofs.Demands.{reading-decided, writing-decided, delivering-decided, deliver-served, delivers-only-if, delivers-if, none-only-if, none-if}
use Rattle.timer.specs.declared.Timer.{Timer}
use Rattle.timers.specs.declared.Timers.{Timers}
use Rattle.timers.specs.State.{at}
use Rattle.timers.specs.Tick.{ticks as timers_ticks}
use Rattle.timers.specs.declared.Turn.{Turn as TimersTurn}
use Rattle.timers.specs.Call.{reading_of as timers_reading, writing_of as timers_writing}
use Rattle.timers.proofs.Decided.{reading-decided as timers-reading-decided, writing-decided as timers-writing-decided}
use Rattle.timers.proofs.Portions.{total}
use Rattle.timers.proofs.Runs.{SameBut, ticks-alike, firings-alike}
use Rattle.settings.specs.Settings.{in_range}
use Rattle.board.specs.declared.Board.{Board}
use Rattle.board.specs.declared.Call.{Call}
use Rattle.board.specs.declared.Call.TheVariants as call
use Rattle.board.specs.declared.Turn.{Turn}
use Rattle.board.specs.State.{reset_to, with_controller, turn, refused}
use Rattle.board.specs.Wires.{joined}
use Rattle.board.specs.Formed.{well_formed}
use Rattle.board.specs.Tick.{ticks, firings}
use Rattle.board.specs.Step.{by_controller, by_timers, in_window, reading_of, writing_of, wiring_of, ending_of, advancing_of, delivering_on_board, resetting_of, served_of, turn_of}
use Rattle.board.specs.Runs.{run, tests_of}
use Rattle.board.proofs.Formed.{Sized, Formed, formed-in, formed-out}
use Rattle.board.proofs.Ticks.{ticks-add, firings-add, ticks-formed, ticks-timers, ticks-firings}
use Rattle.board.proofs.Keeps.{keeps, served, step-formed}
use Rattle.board.proofs.Windows.{joined_same}

-- ---- demand 1: "A bad width, address, pin, number, state or log record gets the refusal that document 01 names,
-- exactly when 01 says so; the state handed back is the one that came in, … and a refused read gives zero."

abbrev DecidedTurn : Board → List Test → Turn → Type 0
DecidedTurn b ts t = Decided Board ts b t.board t.answer

module _ (b : Board) where
  refuses : (n : ℕ) (ts : List Test) (r : Refusal) → number_of r ≡ n → DecidedTurn b (test n true ∷ ts) (refused b r)
  refuses n ts r e = refused-decided b (test n true) ts r refl e

  passes : (n : ℕ) (ts : List Test) (t : Turn) → DecidedTurn b ts t → DecidedTurn b (test n false ∷ ts) t
  passes n ts t d = later-decided b (test n false) ts t.board t.answer refl d

  then : (n : ℕ) (ts : List Test) (r : Refusal) (t : Turn) (f : Bool) → number_of r ≡ n → DecidedTurn b ts t → DecidedTurn b (test n (not f) ∷ ts) (cond f t (refused b r))
  then n ts r t true e d = passes n ts t d
  then n ts r t false e d = refuses n ts r e

  -- what is decided of the controller's turn is decided of the board's
  of-controller : (ts : List Test) (t : ControllerTurn) → Decided Controller ts b.controller t.controller t.answer → DecidedTurn b ts (by_controller b t)
  of-controller ts t d = record { number = d.number; same = λ f. ap (with_controller b) (d.same f) }

  -- 1 for an unknown window, then what the window's own tests decide
  in_window_lem :
      (n : ℕ) (cs ss : List Test) (c t : Turn) → DecidedTurn b cs c → DecidedTurn b ss t →
      DecidedTurn b (test 1 (not (eqb n 0 || eqb n 1)) ∷ cond (eqb n 0) cs ss) (in_window b n c t)
  unfolding number_of
  in_window_lem n cs ss c t d e = go (eqb n 0) (eqb n 1)
    where
      go : (x y : Bool) → DecidedTurn b (test 1 (not (x || y)) ∷ cond x cs ss) (cond x c (cond y t (refused b refusal.Window)))
      go true y = passes 1 cs c d
      go false true = passes 1 ss t e
      go false false = refuses 1 ss refusal.Window refl

module _ (b : Board) (z : Formed b) where
  timers-same : (s : Timers) → s ≡ b.timers → joined b.controller s b.outside ≡ b
  timers-same s e = ap (λ (x : Timers). joined b.controller x b.outside) e ∙ joined_same b z

  -- what is decided of the timers' turn is decided of the board's
  of-timers : (ts : List Test) (t : TimersTurn) → Decided Timers ts b.timers t.timers t.answer → DecidedTurn b ts (by_timers b t)
  of-timers ts t d = record { number = d.number; same = λ f. timers-same t.timers (d.same f) }

  of-timers-read : (ts : List Test) (t : TimersTurn) → Decided Timers ts b.timers t.timers t.answer → DecidedTurn b ts (turn b t.answer)
  of-timers-read ts t d = record { number = d.number; same = λ f. refl }

module _ (b : Board) (s : Sized b) where
  -- refusal 5 is tested first
  first-test : (ts : List Test) (t : Turn) → (Formed b → DecidedTurn b ts t) → DecidedTurn b (test 5 (not (well_formed b)) ∷ ts) (cond (well_formed b) t (refused b refusal.State))
  unfolding number_of
  first-test ts t d = go (well_formed b) refl
    where
      go : (f : Bool) → well_formed b ≡ f → DecidedTurn b (test 5 (not f) ∷ ts) (cond f t (refused b refusal.State))
      go true e = passes b 5 ts t (d (formed-in b e s))
      go false e = refuses b 5 ts refusal.State refl

  pub decided : (c : Call) → Decided Board (tests_of b c) b (turn_of b c).board (turn_of b c).answer
  unfolding turn_of served_of tests_of reading_of writing_of wiring_of ending_of advancing_of delivering_on_board resetting_of number_of numbers_of
  decided (call.Read n w o) =
      first-test _ _
      (λ z. in_window_lem b n _ _ _ _
      (of-controller b _ (controller_reading b.controller w o) (reading-decided b.controller w o))
      (of-timers-read b z _ (timers_reading b.timers w o) (timers-reading-decided b.timers w o)))
  decided (call.Write n w o v) =
      first-test _ _
      (λ z. in_window_lem b n _ _ _ _
      (of-controller b _ (controller_writing b.controller w o v) (writing-decided b.controller w o v))
      (of-timers b z _ (timers_writing b.timers w o v) (timers-writing-decided b.timers w o v)))
  decided (call.Wire p l) =
      first-test _ _
      (λ z. then b 3 _ refusal.Pin _ (ltb p 24) refl
      (then b 4 [] refusal.Level _ (leb l 1) refl (done_decided b (joined b.controller b.timers (set b.outside p l)) answer.Done refl)))
  decided (call.End v) = first-test [] _ (λ z. done_decided b (with_controller b (after_end b.controller v)) answer.Done refl)
  decided (call.Advance n) = first-test [] _ (λ z. done_decided b (ticks n b) (answer.Fired (firings 0 n b) (firings 1 n b) (firings 2 n b)) refl)
  decided call.Deliver = first-test [] (by_controller b (delivering_of b.controller)) (λ z. of-controller b [] (delivering_of b.controller) (delivering-decided b.controller))
  decided (call.Reset z) = then b 10 [] refusal.Range (turn (reset_to z) answer.Done) (in_range z) refl (done_decided b (reset_to z) answer.Done refl)

  module _ (c : Call) where
    -- "Given exactly when": a number is answered if and only if its test holds and none before it does
    pub number-only-if : (n : ℕ) → answer_number (turn_of b c).answer ≡ n → Given (tests_of b c) n
    number-only-if = only_if (tests_of b c) (answer_number (turn_of b c).answer) (decided c).number

    pub number-if : (n : ℕ) → Given (tests_of b c) n → answer_number (turn_of b c).answer ≡ n
    number-if = if (tests_of b c) (answer_number (turn_of b c).answer) (decided c).number

    -- "same state"
    pub refused-same : (answer_number (turn_of b c).answer ≡ 0 → ⊥) → (turn_of b c).board ≡ b
    refused-same = (decided c).same

-- "read value 0, counts 0, no delivery"
pub refused-empty : (b : Board) (c : Call) → (answer_number (turn_of b c).answer ≡ 0 → ⊥) → numbers_of (turn_of b c).answer ≡ bare (answer_number (turn_of b c).answer)
refused-empty b c = refused-bare (turn_of b c).answer

-- "For every input, refusals included, each public call's promise decides its answer, the state after it …; prove that
-- any two results allowed are equal"
pub one-turn : (b : Board) (c : Call) (r s : Turn) → r ≡ turn_of b c → s ≡ turn_of b c → r ≡ s
one-turn b c r s = one-result

-- ---- demand 2: "A delivery step takes the lowest-numbered eligible pin, and says none only if no pin is eligible."

module _ (b : Board) (s : Sized b) where
  abbrev e : Entries
  e = b.controller.entries

  -- a delivery step of a well-formed board is the controller's
  by-controller : well_formed b ≡ true → turn_of b call.Deliver ≡ by_controller b (deliver_of b.controller)
  unfolding served_of delivering_on_board
  by-controller w = served b call.Deliver w ∙ ap (by_controller b) (sym (deliver-served b.controller (formed-in b w s).controlled))

  pub delivers-pin : (p : ℕ) → well_formed b ≡ true → p < 24 → Lowest e p → (turn_of b call.Deliver).answer ≡ given e p
  delivers-pin p w l low =
      ap (λ (t : Turn). t.answer) (by-controller w)
      ∙ ap (λ (t : ControllerTurn). t.answer) (delivers-if b.controller p (formed-in b w s).controlled l low)

  pub delivered-pin : (p : ℕ) → well_formed b ≡ true → (turn_of b call.Deliver).answer ≡ given e p → (p < 24) × Lowest e p
  delivered-pin p w q =
      let r = delivers-only-if b.controller p (sym (ap (λ (t : Turn). t.answer) (by-controller w)) ∙ q) in
      (r.1, r.2)

  pub delivers-none : well_formed b ≡ true → ((p : ℕ) → p < 24 → eligible_at e p ≡ false) → turn_of b call.Deliver ≡ turn b answer.Nothing
  delivers-none w n = by-controller w ∙ ap (by_controller b) (none-if b.controller (formed-in b w s).controlled n)

  pub delivered-none : well_formed b ≡ true → (turn_of b call.Deliver).answer ≡ answer.Nothing → (p : ℕ) → p < 24 → eligible_at e p ≡ false
  delivered-none w q = (none-only-if b.controller (sym (ap (λ (t : Turn). t.answer) (by-controller w)) ∙ q)).1

-- "Every call turns a well-formed state into one."
pub every-call-keeps : (b : Board) (c : Call) → Sized b → well_formed b ≡ true → well_formed (turn_of b c).board ≡ true
every-call-keeps = step-formed

-- … and so does any sequence of them
pub every-run-keeps : (cs : List Call) (b : Board) → Formed b → Formed (run b cs)
unfolding run
every-run-keeps [] b z = z
every-run-keeps (c ∷ cs) b z = every-run-keeps cs (turn_of b c).board (keeps b z c)

-- ---- demand 3: "From any well-formed state, an advance of up to 4,294,967,295 ticks ends in exactly the state that
-- this many single ticks of 01 give, held edges included, with each timer's true number of firings."

pub advance-is-ticks : (b : Board) (n : ℕ) → well_formed b ≡ true → turn_of b (call.Advance n) ≡ turn (ticks n b) (answer.Fired (firings 0 n b) (firings 1 n b) (firings 2 n b))
unfolding served_of advancing_of
advance-is-ticks b n w = served b (call.Advance n) w

-- "Cut the advance into any portions, zeros too, with no other call between: the end state is the same and each timer's
-- firings add up to the same number."

-- timer m's count in an answer
abbrev pub fired : ℕ → Answer → ℕ
fired m a = get_or (numbers_of a).fired m 0

unfoldable pub advances : List ℕ → Board → Board
advances [] b = b
advances (n ∷ ns) b = advances ns (turn_of b (call.Advance n)).board

unfoldable pub counts : ℕ → List ℕ → Board → ℕ
counts m [] b = 0
counts m (n ∷ ns) b = fired m (turn_of b (call.Advance n)).answer + counts m ns (turn_of b (call.Advance n)).board

module _ (b : Board) (z : Formed b) where
  after : (n : ℕ) → (turn_of b (call.Advance n)).board ≡ ticks n b
  after n = ap (λ (t : Turn). t.board) (advance-is-ticks b n (formed-out b z))

  count : (m n : ℕ) → m < 3 → fired m (turn_of b (call.Advance n)).answer ≡ firings m n b
  unfolding numbers_of
  count m n l = ap (λ (t : Turn). fired m t.answer) (advance-is-ticks b n (formed-out b z)) ∙ which m l
    where
      which : (m : ℕ) → m < 3 → get_or (firings 0 n b ∷ firings 1 n b ∷ firings 2 n b ∷ []) m 0 ≡ firings m n b
      which zero l = refl
      which (suc zero) l = refl
      which (suc (suc zero)) l = refl
      which (suc (suc (suc m))) l = absurd (omega arith)

pub portions-board : (ns : List ℕ) (b : Board) → Formed b → advances ns b ≡ (turn_of b (call.Advance (total ns))).board
unfolding advances total ticks
portions-board [] b z = sym (after b z 0)
portions-board (n ∷ ns) b z =
    ap (advances ns) (after b z n)
    ∙ portions-board ns (ticks n b) (ticks-formed b z n)
    ∙ after (ticks n b) (ticks-formed b z n) (total ns)
    ∙ sym (ticks-add n (total ns) b)
    ∙ sym (after b z (n + total ns))

pub portions-counts : (m : ℕ) (ns : List ℕ) (b : Board) → m < 3 → Formed b → counts m ns b ≡ fired m (turn_of b (call.Advance (total ns))).answer
unfolding counts total firings
portions-counts m [] b l z = sym (count b z m 0 l)
portions-counts m (n ∷ ns) b l z =
    ap₂ ◌+◌ (count b z m n l)
    (ap (counts m ns) (after b z n)
    ∙ portions-counts m ns (ticks n b) l (ticks-formed b z n)
    ∙ count (ticks n b) (ticks-formed b z n) m (total ns) l)
    ∙ sym (firings-add m n (total ns) b)
    ∙ sym (count b z m (n + total ns) l)

-- ---- "If two runs start well formed and agree on the counter, the enable bit and every timer but m, the same advance
-- gives every other timer the same comparator, period, status and firings, and the same counter. Pins are not part of
-- this, since timers may share one."

pub record Alike (m : ℕ) (r r' : Turn) : Type 0 where
  pub counter : r.board.timers.counter ≡ r'.board.timers.counter
  pub comparator : (i : ℕ) → i < 3 → (i ≡ m → ⊥) → (at r.board.timers i).comparator ≡ (at r'.board.timers i).comparator
  pub period : (i : ℕ) → i < 3 → (i ≡ m → ⊥) → (at r.board.timers i).period ≡ (at r'.board.timers i).period
  pub status : (i : ℕ) → i < 3 → (i ≡ m → ⊥) → (at r.board.timers i).status ≡ (at r'.board.timers i).status
  pub firings : (i : ℕ) → i < 3 → (i ≡ m → ⊥) → fired i r.answer ≡ fired i r'.answer

module _ (m n : ℕ) (b b' : Board) (z : Formed b) (z' : Formed b') (h : SameBut m b.timers b'.timers) where
  t : (turn_of b (call.Advance n)).board.timers ≡ timers_ticks n b.timers
  t = ap (λ (x : Board). x.timers) (after b z n) ∙ ticks-timers b z n

  t' : (turn_of b' (call.Advance n)).board.timers ≡ timers_ticks n b'.timers
  t' = ap (λ (x : Board). x.timers) (after b' z' n) ∙ ticks-timers b' z' n

  alike : SameBut m (timers_ticks n b.timers) (timers_ticks n b'.timers)
  alike = ticks-alike m n b.timers b'.timers h

  same : (f : Timer → ℕ) (i : ℕ) → i < 3 → (i ≡ m → ⊥) → f (at (turn_of b (call.Advance n)).board.timers i) ≡ f (at (turn_of b' (call.Advance n)).board.timers i)
  same f i l d = ap (λ (u : Timers). f (at u i)) t ∙ ap f (alike.others i l d) ∙ sym (ap (λ (u : Timers). f (at u i)) t')

  pub two_runs : Alike m (turn_of b (call.Advance n)) (turn_of b' (call.Advance n))
  two_runs =
      record {
        counter = ap (λ (u : Timers). u.counter) t ∙ alike.counter-same ∙ sym (ap (λ (u : Timers). u.counter) t');
        comparator = λ i l d. same (λ x. x.comparator) i l d;
        period = λ i l d. same (λ x. x.period) i l d;
        status = λ i l d. same (λ x. x.status) i l d;
        firings = λ i l d.
            count b z i n l
            ∙ ticks-firings b z i n
            ∙ firings-alike m i n b.timers b'.timers h l d
            ∙ sym (ticks-firings b' z' i n)
            ∙ sym (count b' z' i n l);
      }
