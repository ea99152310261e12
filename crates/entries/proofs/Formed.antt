-- Well-formed pins, part by part, and that each step turns well-formed entries into such.
use mathlib.Core.Path.{◌≡◌, refl, sym, ap, ◌∙◌}
use mathlib.Core.Bool.{Bool, true, false, not, cond, ◌&&◌}
use mathlib.Core.List.{List}
use Prim.Native.Nat.{ℕ, ◌+◌, ◌-◌, ◌*◌, ◌/◌, ◌%◌, ◌<◌}
use native.Mathlib.Omega.{arith}
use lib.Dec.{eqb, leb}
use lib.ListN.{get_or, set, get_or-replicate}
use lib.Seq.{set-get_or}
use borrow.Author.Tests.{eq-eqb, eqb-true, not-true}
use Rattle.pins.specs.Pins.{all_from, pins}
use Rattle.pins.proofs.Bools.{clash, and_left, and_right, and_both, not-both, not-both-of}
use Rattle.pins.proofs.Every.{every-at, every_of}
use Rattle.pins.proofs.Fill.{get_or-tab}
use Rattle.pins.proofs.Store.{get_or_set}
use Rattle.entries.specs.declared.Entries.{Entries}
use Rattle.entries.specs.Word.{vector_of, remote_of, level_of, masked_of, with_remote, without_remote, written, word_ok}
use Rattle.entries.specs.Pin.{asserted, makes_edge, held_after, ended_word, pin_ok}
use Rattle.entries.specs.Table.{reset_entries, low_at, level_at, held_at, held_on, with_low, with_held, with_level, pin_ok_at, entries_ok, levels_ok, wired, ended, taken, low_written, high_written, held_after_write}
use Rattle.entries.proofs.Sized.{Sized}
use Rattle.entries.proofs.Written.{status-written, unused-written, level-written, remote-cleared}

-- what `pin_ok` tests
pub record PinGood (w level held : ℕ) : Type 0 where
  pub status : w / 4096 % 2 ≡ 0
  pub unused : w / 131072 ≡ 0
  pub remote : level_of w ≡ false → remote_of w ≡ false
  pub edge : level_of w ≡ true → eqb held 1 ≡ false
  pub level-fits : leb level 1 ≡ true
  pub held_fits : leb held 1 ≡ true

module _ (w level held : ℕ) where
  abbrev p0 : Bool
  p0 = eqb (w / 4096 % 2) 0 && eqb (w / 131072) 0

  abbrev p1 : Bool
  p1 = p0 && not (not (level_of w) && remote_of w)

  abbrev p2 : Bool
  p2 = not (level_of w && eqb held 1)

  pub good : pin_ok w level held ≡ true → PinGood w level held
  unfolding pin_ok word_ok
  good e =
      let e3 = and_left (p1 && p2 && leb level 1) (leb held 1) e in
      let e2 = and_left (p1 && p2) (leb level 1) e3 in
      let e1 = and_left p1 p2 e2 in
      let e0 = and_left p0 (not (not (level_of w) && remote_of w)) e1 in
      record {
        status = eqb-true (w / 4096 % 2) 0 (and_left (eqb (w / 4096 % 2) 0) (eqb (w / 131072) 0) e0);
        unused = eqb-true (w / 131072) 0 (and_right (eqb (w / 4096 % 2) 0) (eqb (w / 131072) 0) e0);
        remote = λ t. not-both (not (level_of w)) (remote_of w) (and_right p0 (not (not (level_of w) && remote_of w)) e1) (ap not t);
        edge = not-both (level_of w) (eqb held 1) (and_right p1 p2 e2);
        level-fits = and_right (p1 && p2) (leb level 1) e3;
        held_fits = and_right (p1 && p2 && leb level 1) (leb held 1) e;
      }

  pub pin-ok : PinGood w level held → pin_ok w level held ≡ true
  unfolding pin_ok word_ok
  pin-ok g =
      and_both
      (and_both
      (and_both
      (and_both
      (and_both (eq-eqb (w / 4096 % 2) 0 g.status) (eq-eqb (w / 131072) 0 g.unused))
      (not-both-of (not (level_of w)) (remote_of w) (λ t. g.remote (not-true (level_of w) t))))
      (not-both-of (level_of w) (eqb held 1) g.edge))
      g.level-fits)
      g.held_fits

-- ---- remote IRR is apart from the other bits

low-12 : (w : ℕ) → (w - w / 16384 % 2 * 16384) / 4096 % 2 ≡ w / 4096 % 2
low-12 w = omega arith

low-14 : (w : ℕ) → (w - w / 16384 % 2 * 16384) / 16384 % 2 ≡ 0
low-14 w = omega arith

low-15 : (w : ℕ) → (w - w / 16384 % 2 * 16384) / 32768 ≡ w / 32768
low-15 w = omega arith

low-17 : (w : ℕ) → (w - w / 16384 % 2 * 16384) / 131072 ≡ w / 131072
low-17 w = omega arith

set-12 : (w : ℕ) → (w - w / 16384 % 2 * 16384 + 16384) / 4096 % 2 ≡ w / 4096 % 2
set-12 w = omega arith

set-15 : (w : ℕ) → (w - w / 16384 % 2 * 16384 + 16384) / 32768 ≡ w / 32768
set-15 w = omega arith

set-17 : (w : ℕ) → (w - w / 16384 % 2 * 16384 + 16384) / 131072 ≡ w / 131072
set-17 w = omega arith

pub level-without : (w : ℕ) → level_of (without_remote w) ≡ level_of w
unfolding level_of without_remote
level-without w = rw (low-15 w)

pub level-with : (w : ℕ) → level_of (with_remote w) ≡ level_of w
unfolding level_of with_remote
level-with w = rw (set-15 w)

remote-without : (w : ℕ) → remote_of (without_remote w) ≡ false
unfolding remote_of without_remote
remote-without w = rw (low-14 w)

module _ {w level held : ℕ} (g : PinGood w level held) where
  without-good : PinGood (without_remote w) level held
  unfolding without_remote
  without-good =
      record {
        status = low-12 w ∙ g.status;
        unused = low-17 w ∙ g.unused;
        remote = λ t. remote-without w;
        edge = λ e. g.edge (sym (level-without w) ∙ e);
        level-fits = g.level-fits;
        held_fits = g.held_fits;
      }

  -- a level entry's remote IRR is set
  with-good : level_of w ≡ true → PinGood (with_remote w) level held
  unfolding with_remote
  with-good l =
      record {
        status = set-12 w ∙ g.status;
        unused = set-17 w ∙ g.unused;
        remote = λ t. clash (sym l ∙ sym (level-with w) ∙ t);
        edge = λ e. g.edge (sym (level-with w) ∙ e);
        level-fits = g.level-fits;
        held_fits = g.held_fits;
      }

  drop-good : PinGood w level 0
  drop-good = record { status = g.status; unused = g.unused; remote = g.remote; edge = λ e. refl; level-fits = g.level-fits; held_fits = refl }

  ended-good : (v : ℕ) → PinGood (ended_word w v) level held
  unfolding ended_word
  ended-good v = go (level_of w && eqb (vector_of w) v)
    where
      go : (b : Bool) → PinGood (cond b (without_remote w) w) level held
      go true = without-good
      go false = g

  -- an edge is made on an edge pin alone
  wired-good : (after : ℕ) → leb after 1 ≡ true → PinGood w after (held_after w level after held)
  unfolding held_after makes_edge
  wired-good after l = go (level_of w) refl
    where
      fits : (b : Bool) → leb (cond b 1 held) 1 ≡ true
      fits true = refl
      fits false = g.held_fits

      none : (m x y : Bool) → cond (not m && false && x && y) 1 held ≡ held
      none true x y = refl
      none false x y = refl

      go : (v : Bool) → level_of w ≡ v → PinGood w after (cond (not (masked_of w) && not (level_of w) && not (asserted w level) && asserted w after) 1 held)
      go true e =
          record {
            status = g.status;
            unused = g.unused;
            remote = g.remote;
            edge = λ t. rw (e, none (masked_of w) (not (asserted w level)) (asserted w after)) (g.edge t);
            level-fits = l;
            held_fits = fits (not (masked_of w) && not (level_of w) && not (asserted w level) && asserted w after);
          }
      go false e =
          record {
            status = g.status;
            unused = g.unused;
            remote = g.remote;
            edge = λ t. clash (sym t ∙ e);
            level-fits = l;
            held_fits = fits (not (masked_of w) && not (level_of w) && not (asserted w level) && asserted w after);
          }

-- ---- a write

written-good : (w v level held : ℕ) → leb level 1 ≡ true → leb held 1 ≡ true → PinGood (written w v) level (held_after_write (written w v) held)
written-good w v level held l h =
    record {
      status = status-written w v;
      unused = unused-written w v;
      remote = λ t. remote-cleared w v (sym (level-written w v) ∙ t);
      edge = λ t. ap (λ (b : Bool). eqb (cond b 0 held) 1) t;
      level-fits = l;
      held_fits = fits (level_of (written w v));
    }
  where
    fits : (b : Bool) → leb (cond b 0 held) 1 ≡ true
    fits true = refl
    fits false = h

-- ---- the table

pick-ok : (b : Bool) (w x level held h : ℕ) → pin_ok w level held ≡ true → (b ≡ true → pin_ok x level h ≡ true) → pin_ok (cond b x w) level (cond b h held) ≡ true
pick-ok true w x level held h e f = f refl
pick-ok false w x level held h e f = e

-- every entry of a reset is an edge entry
pub reset-level : (i : ℕ) → i < 24 → level_of (low_at reset_entries i) ≡ false
unfolding level_of
reset-level i l = ap level_of (get_or-replicate {A = ℕ} 24 i 0x10000 0 l)

pub reset-ok : entries_ok reset_entries ≡ true
unfolding entries_ok all_from pin_ok word_ok level_of remote_of
reset-ok = refl

pub levels-at : (l : List ℕ) → levels_ok l ≡ true → (i : ℕ) → i < 24 → leb (get_or l i 0) 1 ≡ true
unfolding levels_ok
levels-at l = every-at (λ i. leb (get_or l i 0) 1)

pub levels-of : (l : List ℕ) → ((i : ℕ) → i < 24 → leb (get_or l i 0) 1 ≡ true) → levels_ok l ≡ true
unfolding levels_ok
levels-of l = every_of (λ i. leb (get_or l i 0) 1)

module _ (e : Entries) (ok : entries_ok e ≡ true) where
  pins-ok : (i : ℕ) → i < 24 → pin_ok_at e i ≡ true
  unfolding entries_ok
  pins-ok = every-at (pin_ok_at e) ok

  pub pins-good : (i : ℕ) → i < 24 → PinGood (low_at e i) (level_at e i) (held_at e i)
  pins-good i l = good (low_at e i) (level_at e i) (held_at e i) (pins-ok i l)

  -- a well-formed controller's own levels are 0 or 1
  pub own-levels-ok : levels_ok e.level ≡ true
  own-levels-ok = levels-of e.level (λ i l. (pins-good i l).level-fits)

  pub ended-ok : (v : ℕ) → entries_ok (ended e v) ≡ true
  unfolding entries_ok ended
  ended-ok v =
      every_of (pin_ok_at (with_low e (pins (λ i. ended_word (low_at e i) v))))
      (λ i l. rw (get_or-tab (λ i. ended_word (low_at e i) v) 24 i 0 l) (pin-ok (ended_word (low_at e i) v) (level_at e i) (held_at e i) (ended-good (pins-good i l) v)))

  pub wired-ok : (l : List ℕ) → levels_ok l ≡ true → entries_ok (wired e l) ≡ true
  unfolding entries_ok wired
  wired-ok l fit =
      every_of (pin_ok_at (with_level (with_held e (pins (held_on e l))) l))
      (λ i k. rw (get_or-tab (held_on e l) 24 i 0 k) (pin-ok (low_at e i) (get_or l i 0) (held_on e l i) (wired-good (pins-good i k) (get_or l i 0) (levels-at l fit i k))))

  pub high-written-ok : (n v : ℕ) → entries_ok (high_written e n v) ≡ true
  unfolding entries_ok
  high-written-ok n v = ok

  module _ (z : Sized e) where
    -- pin n has another word and held edge
    abbrev at_pin : ℕ → ℕ → ℕ → Entries
    at_pin n x h = with_held (with_low e (set e.low n x)) (set e.held n h)

    one_ok : (n x h : ℕ) → n < 24 → PinGood x (level_at e n) h → entries_ok (at_pin n x h) ≡ true
    unfolding entries_ok
    one_ok n x h l g =
        every_of (pin_ok_at (at_pin n x h))
        (λ i k. rw (get_or_set e.low n i x 0 (rw z.low l), get_or_set e.held n i h 0 (rw z.held l))
        (pick-ok (eqb i n) (low_at e i) x (level_at e i) (held_at e i) h (pins-ok i k) (λ t. rw (eqb-true i n t) (pin-ok x (level_at e n) h g))))

    pub low-written-ok : (n v : ℕ) → n < 24 → entries_ok (low_written e n v) ≡ true
    unfolding low_written
    low-written-ok n v l =
        let g = pins-good n l in
        one_ok n (written (low_at e n) v) (held_after_write (written (low_at e n) v) (held_at e n)) l (written-good (low_at e n) v (level_at e n) (held_at e n) g.level-fits g.held_fits)

    pub taken-ok : (i : ℕ) → i < 24 → entries_ok (taken e i) ≡ true
    unfolding taken
    taken-ok i l = go (level_of (low_at e i)) refl
      where
        go : (b : Bool) → level_of (low_at e i) ≡ b → entries_ok (cond b (with_low e (set e.low i (with_remote (low_at e i)))) (with_held e (set e.held i 0))) ≡ true
        go true t =
            ap (λ (h : List ℕ). entries_ok (with_held (with_low e (set e.low i (with_remote (low_at e i)))) h)) (sym (set-get_or e.held i 0))
            ∙ one_ok i (with_remote (low_at e i)) (held_at e i) l (with-good (pins-good i l) t)
        go false t =
            ap (λ (w : List ℕ). entries_ok (with_held (with_low e w) (set e.held i 0))) (sym (set-get_or e.low i 0))
            ∙ one_ok i (low_at e i) 0 l (drop-good (pins-good i l))
