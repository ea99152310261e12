-- What the walks of the lent entries share, as steps of `types.Kit`'s calculus.
--     tests    `formed` is called on a lent board: the borrow is opened, the board is lent as `&` for a lifetime that
--              is made for the call, the lifetime is ended, the board comes back, and the borrow is closed at the state
--              that it had. So the borrow stands as it stood, and the answer is known.
--     asks     the same of a board that is lent as `&` already: a copy of the `&` goes to `formed`
--     parts    `if .. { .. return }`, and the rest: the arm that ends without `return` goes on with the rest
--     takes    a lent board is opened, with its machine value written out
--     leaves   and closed at another state
--     turns    `refused` is called
-- Assumes nothing.
use mathlib.Core.Path.{◌≡◌, refl, ap, ◌∙◌}
use mathlib.Core.Bool.{Bool, not}
use Prim.Native.Nat.{ℕ}
use mathlib.Core.List.{[], ◌∷◌, List}
use lib.Dec.{T}
use seplogic.Ra.Ura.{Ura}
use base.Fraction.{full_share}
use mir.Syntax.{named, Opd as Operand, Place, Body as Code, seq, skip, cond, call}
use mir.Val.{Val, vbool, vptr}
use base.Logic.{SProp, ent, emp, sep, snd∗, ex_e, id⊢}
use base.Stored.{Gv}
use base.Fml.{GName, Lft, Share, ftrue, fat, flft, flent, fobs, fauth, fbor, fobor}
use prog.Memory.{Memory}
use prog.Routine.{Routine}
use prog.Wp.{Env, Calls, Loops, Wp, after_seq}
use types.Logic.{Logic, sem}
use contract.Monad.{Fun, fact}
use types.Kit.{Item, Goal, Soaks, Post, any_q, post, runs, lands, Seq, Step, step, ‵, raw, ◌⊛◌, some, later, ◌$◌, ◌∵◌, !, qed, move, drop, use0, use1, use2, split, join, pick, fjoin, feq_i, regoal, frame, await, done}
use types.Run.{Opd, Opds, first, branches, skips, no_more}
use types.Tokens.{lft_new, lft_end, lent_back}
use types.Mut.{open_ref, close_ref}
use types.SemTy.{Body}
use sound.WpLaws.{FmC}
use denote.Laws.{Is, shows}
use denote.Memory.{mem, part_at, cell_at, shared_of, hidden_shr}
use denote.Opens.{twice_dup}
use denote.Builtin.{bool}
use denote.Ref.{Bor, ShrRef}
use denote.Lend.{lends_free}
use denote.Copied.{Copied}
use denote.Steps.{only, opens, closes, owned, peeks, facts, heard, nothing}
use denote.Struct.Steps.{spelt}
use denote.Struct.Laws as LL
use denote.Triple.Statement.{Contract, Triple}
use denote.Triple.Call.{calls_at}
use denote.Triple.Spec.{triple_of}
use denote.Triple.Clauses.{ensured, lasts}
use Rattle.answers.specs.declared.Answer.TheVariants as answer
use Rattle.answers.specs.declared.Refusal.TheVariants as refusal
use Rattle.answers.specs.declared.Numbers.{Numbers}
use Rattle.answers.specs.Numbers.{numbers_of}
use Rattle.answers.specs.contracts.Numbers as R
use Rattle.board.specs.Formed.{well_formed}
use Rattle.board.specs.declared.Board.{Board}
use Rattle.board.specs.contracts.Board as T
use Rattle.board.proofs.Board.TheLaws as T'
use Rattle.nataqvoju.specs.contracts.formed as test
use Rattle.nataqvoju.proofs.formed.Symbol.{name as #nataqvoju·formed}
use Rattle.nataqvoju.specs.contracts.refused as no
use Rattle.nataqvoju.proofs.refused.Symbol.{name as #nataqvoju·refused}

-- the state's machine value
abbrev pub mach : Board → Val
mach d = LL.val T.the_type T'.the_laws d

-- the state is copied
board_copied : {M : Type 1} {𝓤 : Ura M} (𝓛 : Logic 𝓤) → Copied 𝓛 T.the_row
board_copied 𝓛 = LL.copied T.the_type T'.the_copy 𝓛

-- the contracts that every entry's proof cites
abbrev pub Test : {M : Type 1} {𝓤 : Ura M} (𝓛 : Logic 𝓤) (mem : Memory → SProp 𝓤) (run : Routine → Fun 𝓤) → Contract 𝓤
Test 𝓛 mem run = triple_of 𝓛 test.signature (test.spec 𝓛 mem run)

abbrev pub No : {M : Type 1} {𝓤 : Ura M} (𝓛 : Logic 𝓤) (mem : Memory → SProp 𝓤) (run : Routine → Fun 𝓤) → Contract 𝓤
No 𝓛 mem run = triple_of 𝓛 no.signature (no.spec 𝓛 mem run)

module _ {M : Type 1} {𝓤 : Ura M} (𝓛 : Logic 𝓤) (at_mem : Memory → SProp 𝓤) (run : Routine → Fun 𝓤) where
  -- what `formed`'s triple binds outside: the board lent for the lifetime κ, of whose token there is the share s
  open 𝓛 use {A}

  module _ (h : Board) (b o : ℕ) (κ : Lft) (s : Share) where
    abbrev x : Bor Board
    x = record { ref_ptr = (b, o); now = h }

    abbrev to-test : (Test 𝓛 at_mem run).Ghost
    to-test = (((κ, tt), (s, tt), tt, (x, tt), (vptr b o ∷ [], tt)), tt)

    goes-test : ent 𝓤 (sep 𝓤 (A.lft κ s) (sem 𝓛 ((ShrRef (named 0) κ T.the_row).own_val x (vptr b o ∷ [])))) ((Test 𝓛 at_mem run).pre to-test)
    goes-test =
        qed 𝓛 (‵ (flft κ s) ∷ ‵ ((ShrRef (named 0) κ T.the_row).own_val x (vptr b o ∷ [])) ∷ []) ∵
        nothing ! $ move ! (2 ∷ 0 ∷ []) $ fjoin ! $ nothing ! $ move ! (2 ∷ 0 ∷ []) $ join ! $ join ! $ frame ! $ done !

    tested : (r : Bool) → ent 𝓤 (ensured 𝓛 test.ended (test.clauses 𝓛 at_mem run) (κ, tt) (x, tt) tt r) (fact 𝓤 (r ≡ well_formed h))
    tested r = ex_e 𝓤 _ (λ ws. snd∗ 𝓤 (sem 𝓛 (lasts test.ended (κ, tt) (x, tt) ws)) (fact 𝓤 (r ≡ well_formed h)))

  abbrev to-no : (No 𝓛 at_mem run).Ghost
  to-no = ((tt, tt, tt, tt, tt), tt)

  goes-no : ent 𝓤 (emp 𝓤) ((No 𝓛 at_mem run).pre to-no)
  goes-no = qed 𝓛 [] ∵ nothing ! $ nothing ! $ join ! $ frame ! $ done !

  noed : (r : Numbers) → ent 𝓤 (ensured 𝓛 no.ended (no.clauses 𝓛 at_mem run) tt tt tt r) (fact 𝓤 (r ≡ numbers_of (answer.Refused refusal.State)))
  noed r = ex_e 𝓤 _ (λ ws. snd∗ 𝓤 (sem 𝓛 (lasts no.ended tt tt ws)) (fact 𝓤 (r ≡ numbers_of (answer.Refused refusal.State))))

module _ {M : Type 1} {𝓤 : Ura M} {𝓛 : Logic 𝓤} {K : Type 0} {Γ : List (Item 𝓤)} where
  open 𝓛 use {H}

  module _ {G : Goal 𝓤 H} where
    pub takes : K → Soaks G → {κ : Lft} {s : Share} {γ : GName} (h : Board) (b o : ℕ)
        → (Is T.the_row h (mach h ∷ []) → Seq K 𝓛 (‵ (fat full_share T'.mir b o (mach h)) ∷ ‵ ((T.the_row).own_val h (mach h ∷ [])) ∷ ‵ (fobor κ s (Body (mem T.the_row) b o γ)) ∷ ‵ (fobs γ ((T.the_row).coded.code h)) ∷ ‵ (fauth γ ((T.the_row).coded.code h)) ∷ Γ) G)
        → Seq K 𝓛 (‵ (fobs γ ((T.the_row).coded.code h)) ∷ ‵ (fbor κ (Body (mem T.the_row) b o γ)) ∷ ‵ (flft κ s) ∷ Γ) G
    takes t z h b o k =
        opens t z T.the_row {h = h} b o (λ vs. spelt t T.the_row (Is T.the_row) (shows 𝓛 T.the_row) (LL.vals T.the_type T'.the_laws) (LL.tells T.the_type T'.the_laws) full_share h vs b o $
        use1 𝓛 (‵ (fat full_share T'.mir b o (mach h))) (𝓛.laws.raw_at full_share T'.mir b o (mach h)) $
        move t (1 ∷ []) $ peeks t T.the_row (Is T.the_row) (shows 𝓛 T.the_row) h (mach h ∷ []) (λ was. move t (1 ∷ 0 ∷ []) $ k was))

    pub leaves : K → Soaks G → {κ : Lft} {s : Share} {u v : Gv} {γ : GName} (d : Board) (b o : ℕ) → Is T.the_row d (mach d ∷ [])
        → Step K 𝓛 (‵ (fobs γ ((T.the_row).coded.code d)) ∷ ‵ (fbor κ (Body (mem T.the_row) b o γ)) ∷ ‵ (flft κ s) ∷ Γ) G
        (‵ (fat full_share T'.mir b o (mach d)) ∷ ‵ (fobor κ s (Body (mem T.the_row) b o γ)) ∷ ‵ (fobs γ u) ∷ ‵ (fauth γ v) ∷ Γ) G
    leaves t z d b o is = step (λ s. owned t T.the_row (Is T.the_row) ((LL.makes T.the_type T'.the_plain) 𝓛) d _ is $ move t (1 ∷ []) $
        use1 𝓛 (‵ (cell_at full_share (T.the_row).mir (mach d ∷ []) b o)) (𝓛.laws.at_raw full_share T'.mir b o (mach d)) $ closes t z T.the_row d (mach d ∷ []) b o $ s)

  module _ {E : Env 𝓤 H} {C : Calls 𝓤 H} {Λ : Loops 𝓤 H} {q : Post 𝓤 H} where
    pub parts : K → {c : Operand} {a rest : Code} {y : Bool} → Opd K 𝓛 Γ E c (vbool y)
        → (T y → Seq K 𝓛 Γ (runs C Λ E a (any_q (after_seq 𝓤 H (Wp 𝓤 H C Λ E rest (post 𝓤 H q)) (post 𝓤 H q))))) → (T (not y) → Seq K 𝓛 Γ (runs C Λ E rest q))
        → Seq K 𝓛 Γ (runs C Λ E (seq (cond c a skip) rest) q)
    parts t o held failed = first t $ branches t o held (λ z. skips t $ record { prf = (failed z).prf })

    -- the operand is read whatever the first five entries are, in which the loan stands
    pub tests : K → FmC 𝓤 H 𝓛.laws C → (at_mem : Memory → SProp 𝓤) (run : Routine → Fun 𝓤) → Triple 𝓤 (C #nataqvoju·formed) (Test 𝓛 at_mem run)
        → {xs : List Operand} {d : Place} {rest : Code} {κ : Lft} {s : Share} {γ : GName} (h : Board) (b o : ℕ) → ((i j k l m : Item 𝓤) → Opds K 𝓛 (i ∷ j ∷ k ∷ l ∷ m ∷ Γ) E xs (vptr b o ∷ []))
        → Step K 𝓛 (‵ (fobs γ ((T.the_row).coded.code h)) ∷ ‵ (fbor κ (Body (mem T.the_row) b o γ)) ∷ ‵ (flft κ s) ∷ Γ) (lands C Λ E d (vbool (well_formed h)) rest q)
        (‵ (fobs γ ((T.the_row).coded.code h)) ∷ ‵ (fbor κ (Body (mem T.the_row) b o γ)) ∷ ‵ (flft κ s) ∷ Γ) (runs C Λ E (seq (call #nataqvoju·formed xs d) rest) q)
    tests t fm at_mem run known {xs} {d} {rest} h b o os = step (λ goes_on.
        open_ref t tt (mem T.the_row) {b = b} {o = o} $ lft_new t tt (λ α. move t (1 ∷ []) $
        use1 𝓛 (later (‵ ((ShrRef (named 0) (α ∷ []) T.the_row).own_val (x 𝓛 at_mem run h b o (α ∷ []) full_share) (vptr b o ∷ [])) ⊛ ‵ (flent (α ∷ []) (part_at T.the_row full_share h b o)))) (lends_free 𝓛 T.the_row (named 0) (α ∷ []) full_share h b o ((board_copied 𝓛).lends full_share h b o)) $ await t tt $ split t $
        -- [the `&`; the lender's part; the new lifetime's token; the open borrow; obs; auth; …]
        move t (2 ∷ 0 ∷ []) $ use2 𝓛 (raw ((Test 𝓛 at_mem run).pre (to-test 𝓛 at_mem run h b o (α ∷ []) full_share))) (goes-test 𝓛 at_mem run h b o (α ∷ []) full_share) $
        calls_at t fm (Test 𝓛 at_mem run) known (to-test 𝓛 at_mem run h b o (α ∷ []) full_share) (os _ _ _ _ _) (λ v.
        use1 𝓛 (later (some (λ (r : Bool). ((‵ (flft (α ∷ []) full_share) ⊛ ‵ ftrue) ⊛ ‵ (bool.own_val r (v ∷ []))) ⊛ raw (ensured 𝓛 test.ended (test.clauses 𝓛 at_mem run) (α ∷ [], tt) (x 𝓛 at_mem run h b o (α ∷ []) full_share, tt) tt r)))) (id⊢ 𝓤 _) $ await t tt $ pick t (λ r.
        split t $ move t (1 ∷ []) $ use1 𝓛 (raw (fact 𝓤 (r ≡ well_formed h))) (tested 𝓛 at_mem run h b o (α ∷ []) full_share r) $ heard t (r ≡ well_formed h) (λ e.
        split t $ move t (1 ∷ []) $ facts t bool (Is bool) (shows 𝓛 bool) r (v ∷ []) (λ is.
        -- the lifetime is ended, the board comes back, and the borrow is closed: [the token and true; the lender's
        -- part; the open borrow; obs; auth; …]
        split t $ lft_end t tt $ move t (0 ∷ 2 ∷ []) $ lent_back t tt $ move t (0 ∷ 2 ∷ 3 ∷ 4 ∷ []) $ close_ref t tt (mem T.the_row) h {b = b} {o = o} $ move t (3 ∷ []) $ drop t $
        regoal t (λ (u : Val). lands C Λ E d u rest q) (ap only is ∙ ap vbool e) refl $ goes_on))))))

    -- the operand is read whatever the first two entries are, in which the board is lent on
    pub asks : K → FmC 𝓤 H 𝓛.laws C → (at_mem : Memory → SProp 𝓤) (run : Routine → Fun 𝓤) → Triple 𝓤 (C #nataqvoju·formed) (Test 𝓛 at_mem run)
        → {xs : List Operand} {d : Place} {rest : Code} {κ : Lft} {s : Share} (h : Board) (b o : ℕ) → ((i j : Item 𝓤) → Opds K 𝓛 (i ∷ j ∷ Γ) E xs (vptr b o ∷ []))
        → Step K 𝓛 (‵ (flft κ s) ∷ ‵ (hidden_shr T.the_row κ h b o) ∷ Γ) (lands C Λ E d (vbool (well_formed h)) rest q)
        (‵ (flft κ s) ∷ ‵ (hidden_shr T.the_row κ h b o) ∷ Γ) (runs C Λ E (seq (call #nataqvoju·formed xs d) rest) q)
    asks t fm at_mem run known {xs} {d} {rest} {κ} {s} h b o os = step (λ goes_on.
        move t (1 ∷ []) $ twice_dup t (shared_of T.the_row h b o) ((board_copied 𝓛).opens h b o).1 κ $ feq_i t (List Val) (vptr b o ∷ []) (vptr b o ∷ []) refl $ fjoin t $
        -- [the `&`; what the other `&` holds; the token; …]
        move t (2 ∷ 0 ∷ []) $ use2 𝓛 (raw ((Test 𝓛 at_mem run).pre (to-test 𝓛 at_mem run h b o κ s))) (goes-test 𝓛 at_mem run h b o κ s) $
        calls_at t fm (Test 𝓛 at_mem run) known (to-test 𝓛 at_mem run h b o κ s) (os _ _) (λ v.
        use1 𝓛 (later (some (λ (r : Bool). ((‵ (flft κ s) ⊛ ‵ ftrue) ⊛ ‵ (bool.own_val r (v ∷ []))) ⊛ raw (ensured 𝓛 test.ended (test.clauses 𝓛 at_mem run) (κ, tt) (x 𝓛 at_mem run h b o κ s, tt) tt r)))) (id⊢ 𝓤 _) $ await t tt $ pick t (λ r.
        split t $ move t (1 ∷ []) $ use1 𝓛 (raw (fact 𝓤 (r ≡ well_formed h))) (tested 𝓛 at_mem run h b o κ s r) $ heard t (r ≡ well_formed h) (λ e.
        split t $ move t (1 ∷ []) $ facts t bool (Is bool) (shows 𝓛 bool) r (v ∷ []) (λ is.
        split t $ move t (1 ∷ []) $ drop t $
        regoal t (λ (u : Val). lands C Λ E d u rest q) (ap only is ∙ ap vbool e) refl $ goes_on)))))

    pub turns : K → FmC 𝓤 H 𝓛.laws C → (at_mem : Memory → SProp 𝓤) (run : Routine → Fun 𝓤) → Triple 𝓤 (C #nataqvoju·refused) (No 𝓛 at_mem run) → {d : Place} {rest : Code}
        → ((r : Numbers) (v : Val) → r ≡ numbers_of (answer.Refused refusal.State) → Is R.the_row r (v ∷ []) → Seq K 𝓛 (‵ ((R.the_row).own_val r (v ∷ [])) ∷ Γ) (lands C Λ E d v rest q))
        → Seq K 𝓛 Γ (runs C Λ E (seq (call #nataqvoju·refused [] d) rest) q)
    turns t fm at_mem run known k =
        use0 𝓛 (raw ((No 𝓛 at_mem run).pre (to-no 𝓛 at_mem run))) (goes-no 𝓛 at_mem run) $
        calls_at t fm (No 𝓛 at_mem run) known (to-no 𝓛 at_mem run) (no_more t) (λ v.
        use1 𝓛 (later (some (λ (r : Numbers). (‵ ftrue ⊛ ‵ ((R.the_row).own_val r (v ∷ []))) ⊛ raw (ensured 𝓛 no.ended (no.clauses 𝓛 at_mem run) tt tt tt r)))) (id⊢ 𝓤 _) $ await t tt $ pick t (λ r.
        split t $ move t (1 ∷ []) $ use1 𝓛 (raw (fact 𝓤 (r ≡ numbers_of (answer.Refused refusal.State)))) (noed 𝓛 at_mem run r) $ heard t (r ≡ numbers_of (answer.Refused refusal.State)) (λ e. split t $ drop t $
        peeks t R.the_row (Is R.the_row) (shows 𝓛 R.the_row) r (v ∷ []) (λ is. k r v e is))))
