-- Remote IRR (document 02, K4), over the board's calls: an edge entry reads bit 14 as 0, and an entry that was written
-- edge, and then back as level, unmasked and with mode 000, has its pin eligible exactly while it is asserted, until
-- its next delivery.
use Prim.Native.Nat.{ℕ, ◌/◌, ◌%◌, ◌^◌, ◌<◌}
use mathlib.Core.Path.{◌≡◌, sym, ap, subst, ◌∙◌}
use mathlib.Core.Bool.{not}
use mathlib.Core.List.{List}
use native.Mathlib.Omega.{arith}
use lib.Dec.{eqb}
use Rattle.answers.specs.Sheet.{value}
use Rattle.entries.specs.declared.Entries.{Entries}
use Rattle.entries.specs.Word.{level_of, written}
use Rattle.entries.specs.Pin.{eligible}
use Rattle.entries.specs.Table.{reset_entries, low_at, level_at, held_at, eligible_at}
use Rattle.entries.proofs.Written.{level-written}
use Rattle.entries.proofs.Formed.{reset-level, reset-ok}
use Rattle.entries.proofs.Remote.{by-bit-15, edge-remote, Opens, opened-remote, opened-eligible}
use Rattle.controller.proofs.Formed.{formed}
use Rattle.controller.proofs.Lasts.{Level}
use Rattle.controller.proofs.Remote.{edge-shows-0, word-put, EdgeOn, edge-lasts, ClearOn, clear-lasts, word-lasts}
use Rattle.board.specs.declared.Board.{Board}
use Rattle.board.specs.declared.Call.{Call}
use Rattle.board.specs.declared.Turn.{Turn}
use Rattle.settings.specs.Settings.{standard}
use Rattle.settings.proofs.Ranges.{standard-in-range}
use Rattle.board.specs.State.{reset_board}
use Rattle.board.specs.Step.{turn_of}
use Rattle.board.specs.Runs.{run}
use Rattle.board.specs.Accesses.{select, put, low_word}
use Rattle.board.proofs.Formed.{Formed}
use Rattle.board.proofs.Keeps.{keeps, reset}
use Rattle.board.proofs.Lasts.{NoneBreaks, along}
use Rattle.board.proofs.Demands.{every-run-keeps}
use Rattle.board.proofs.Windows.{same-value, puts}
use Rattle.board.proofs.ControllerMap.{reads, selected, shown}

-- "An edge entry now always reads bit 14 as 0": what a low word reads with bit 15 at 0 has bit 14 at 0
pub edge-reads-0 : (b : Board) → Formed b → (n r : ℕ) → n < 24 → reads b (low_word n) ≡ value r → r / 2 ^ 15 % 2 ≡ 0 → r / 2 ^ 14 % 2 ≡ 0
edge-reads-0 b z n r l e =
    subst (λ (x : ℕ). x / 2 ^ 15 % 2 ≡ 0 → x / 2 ^ 14 % 2 ≡ 0) (same-value _ _ (sym (shown b z (low_word n) (omega arith)) ∙ e))
    (edge-shows-0 b.controller z.controlled n l)

-- … after any calls from reset
pub always-reads-0 :
    (cs : List Call) (n r : ℕ) → n < 24 → reads (run reset_board cs) (low_word n) ≡ value r → r / 2 ^ 15 % 2 ≡ 0 → r / 2 ^ 14 % 2 ≡ 0
always-reads-0 cs = edge-reads-0 (run reset_board cs) (every-run-keeps cs reset_board (reset standard standard-in-range))

-- ---- "Older system software clears a stuck bit by writing the entry as edge and then back as level"

-- v is written at the data window, to the register that the index names
abbrev pub wrote : Board → ℕ → Board
wrote b v = (turn_of b (put v)).board

-- that is entry n's low word
abbrev pub Names : ℕ → Board → Type 0
Names n b = b.controller.index ≡ low_word n

-- as it is once its index was selected
pub selected-names : (b : Board) → Formed b → (n : ℕ) → n < 24 → Names n (turn_of b (select (low_word n))).board
selected-names b z n l = ap (λ (d : Board). d.controller.index) (selected b z (low_word n) (omega arith))

-- none of the calls writes a low word to entry n that leaves it level
abbrev pub NoneMakesLevel : Board → ℕ → List Call → Type 0
NoneMakesLevel = NoneBreaks ⊥ Level ⊥

-- none of the calls delivers pin n
abbrev pub NoneDelivers : Board → ℕ → List Call → Type 0
NoneDelivers = NoneBreaks Unit (λ v. ⊥) ⊥

-- none of the calls delivers pin n, writes the low word of its entry, or resets
abbrev pub NoneTouches : Board → ℕ → List Call → Type 0
NoneTouches = NoneBreaks Unit (λ v. Unit) Unit

-- pin n is eligible exactly while it is asserted, bit 13 of its entry being that of v
abbrev pub WhileAsserted : ℕ → ℕ → Board → Type 0
WhileAsserted n v b = eligible_at b.controller.entries n ≡ not (eqb (level_at b.controller.entries n) (v / 2 ^ 13 % 2))

module _ (n : ℕ) (l : n < 24) where
  -- an edge entry's remote IRR is 0
  edge-clear : (b : Board) → Formed b → EdgeOn n b.controller.entries → ClearOn n b.controller.entries
  edge-clear b z = edge-remote b.controller.entries (formed b.controller z.controlled).entries n l

  -- … and stays so, whatever is written, until the pin's delivery
  still-clear : (js : List Call) (b : Board) → Formed b → ClearOn n b.controller.entries → NoneDelivers b n js → ClearOn n (run b js).controller.entries
  still-clear = along (clear-lasts n l) (λ f. edge-remote reset_entries reset-ok n l (reset-level n l)) l

  module _ (b : Board) (z : Formed b) (at : Names n b) (v : ℕ) (m : v < 2 ^ 32) where
    word_after : low_at (wrote b v).controller.entries n ≡ written (low_at b.controller.entries n) v
    word_after = ap (λ (t : Turn). low_at t.board.controller.entries n) (puts b z v m) ∙ word-put b.controller z.sized n v l at

    -- the entry is edge after a write with bit 15 at 0, until a write leaves it level
    pub made-edge : v / 2 ^ 15 % 2 ≡ 0 → (ks : List Call) → NoneMakesLevel (wrote b v) n ks → EdgeOn n (run (wrote b v) ks).controller.entries
    made-edge e ks =
        along (edge-lasts n l) (λ f. reset-level n l) l ks (wrote b v) (keeps b z (put v))
        (ap level_of word_after ∙ level-written (low_at b.controller.entries n) v ∙ by-bit-15 v e)

    -- an entry with remote IRR 0 that is written level, unmasked and with mode 000: until its next delivery, the next
    -- low-word write to it or a reset
    pub made-level : ClearOn n b.controller.entries → Opens v → (cs : List Call) → NoneTouches (wrote b v) n cs → WhileAsserted n v (run (wrote b v) cs)
    made-level r o cs f =
        ap (λ (x : ℕ). eligible x (level_at e n) (held_at e n))
        (along (word-lasts n (written old v) l (opened-remote old v r o)) (λ g. absurd (g tt)) l cs (wrote b v) (keeps b z (put v)) word_after f)
        ∙ opened-eligible old v r o (level_at e n) (held_at e n)
      where
        old : ℕ
        old = low_at b.controller.entries n

        e : Entries
        e = (run (wrote b v) cs).controller.entries

-- Entry n is written with u, which leaves it edge, and last with v, which leaves it level, unmasked and with mode 000.
-- Between them come any calls: ks, of which none leaves it level, and js, which may, of which none delivers its pin.
-- Then, until its next delivery, a low-word write to it or a reset, the pin is eligible exactly while it is asserted
pub edge-and-back :
    (b : Board) → Formed b → (n u v : ℕ) → n < 24 → u < 2 ^ 32 → u / 2 ^ 15 % 2 ≡ 0 → v < 2 ^ 32 → Opens v →
    Names n b → (ks : List Call) → NoneMakesLevel (wrote b u) n ks →
    (js : List Call) → NoneDelivers (run (wrote b u) ks) n js → Names n (run (run (wrote b u) ks) js) →
    (cs : List Call) → NoneTouches (wrote (run (run (wrote b u) ks) js) v) n cs →
    WhileAsserted n v (run (wrote (run (run (wrote b u) ks) js) v) cs)
edge-and-back b z n u v l i e j o at ks f js g again =
    let d = run (wrote b u) ks in
    let y : Formed d = every-run-keeps ks (wrote b u) (keeps b z (put u)) in
    made-level n l (run d js) (every-run-keeps js d y) again v j (still-clear n l js d y (edge-clear n l d y (made-edge n l b z at u i e ks f)) g) o
