-- This file proves the contract of `copy_overlapping`, which moves items one by one: the last one
-- first if it moves them up, and the first one first if it moves them down. The proof is like
-- core's proof for `ptr::copy`.
--
-- The proof has six stages. A stage ends with the next one, so the last one comes first. A *plan*,
-- of the type `Plan` of core, says what is owned after each move, for one of the two directions.
--
-- 1. `copy_overlapping_spec` takes the arguments and the facts of the contract.
-- 2. `by_way` chooses the plan by the direction, and excludes null pointers.
-- 3. `runs_by` enters the function and begins the loop.
-- 4. `turns` is one turn: it chooses an item, or ends the loop and returns if no items are left.
-- 5. `moves` reads the chosen item and writes it to its new place.
-- 6. `ends_turn` counts the move, and ends the turn.
use Rattle.std.proofs.Common.{◌≡◌, refl, sym, ap, subst, Bool, true, false, not, List, [], ◌∷◌}
use Rattle.std.proofs.Common.{◌++◌, ℕ, zero, suc, ◌+◌, ◌-◌, ◌*◌, ◌≤◌, ◌<◌, ◌^◌, arith, lit<, length}
use Rattle.std.proofs.Common.{w64}
use mathlib.Core.WellFounded.InvImage
use lib.Dec.{ltb→lt, nltb→le, T as Holds}
use lib.WfN.{lt-wf_rel}
use seplogic.Ra.Ura.{Ura}
use base.Fml.{Lft, Share, Fml, ftrue, ffalse, fsep, fat, flft, froom}
use base.Fraction.{full_share}
use base.Logic.{SProp, ent, sep, never_e}
use mir.MapTy.{inst_fn}
use mir.Syntax.{Ty, Fn, Body, Args, a_type, ty_int, ty_array}
use mir.Val.{Val, vunit, vbool, vint, vptr}
use prog.Wp.{Env, Wp, WpFn, Tables, after_seq, after_block, Out, at_return, after_turn}
use contract.BorrowLft.{◌⊑◌}
use contract.Monad.{fact}
use contract.Running.{tables, tables_of}
use types.ByLocal.{alloc_all, pass_all, free_all, look_at, get, through, sets, sets_last, is, env}
use types.ByLocal.{holding, forget_but, take_at, give_at}
use types.Kit.{prop, Item, Sq, any_q, runs, ‵, raw, ◌⊛◌, some, given, at_ret, ◌$◌, ◌∵◌, !, qed, by}
use types.Kit.{move, keep, drop, use1, use2, join, split, split3, pick, learn, rewrite, fsplit}
use types.Kit.{fjoin, feq_i, suffices, done}
use types.Logic.{Logic, sem}
use types.Run.{stop, look, load, lit, bin, unit_lit, of_opd, init, assigns_last, first, blocks}
use types.Run.{skips, branches, exec, returns, enter, size_lit, jumps, forget, loops, again, Below}
use denote.Array.{Array}
use denote.Builtin.{usize, bool}
use denote.Exit.{yes}
use denote.Index.{row}
use denote.Memory.{part_at}
use denote.Param.{layouts}
use denote.Plain.{uint_vals, uint_Tells, bool_vals, bool_Tells}
use denote.RattleType.{RattleType, owns}
use denote.RawPtr.{Ptr, RawPtr, block_ptr, null_ptr, ptr_val, rawptr_vals, rawptr_Tells}
use denote.Signature.{plain}
use denote.Steps.{heard, nothing}
use denote.Triple.Clauses.{Ended}
use denote.Triple.Walked.{Stays, stay_dropped, walk_of, ends_at, Goes-dropped}
use Rattle.core.specs.Ptr.{memory_before_copy, memory_after_copy}
use Rattle.core.proofs.alloc.Shapes.{after, head}
use Rattle.core.proofs.ptr.Plans.{Plan, down_Plan, up_Plan}
use Rattle.core.proofs.ptr.Rows.{times_below, El, R, el_x, elτ, el_own, sz, Good, el_out, el_in}
use Rattle.core.proofs.ptr.Rows.{apart, whole, one_more, one_below}
use Rattle.std.proofs.raw_atomic.Walks.{proved}
use Rattle.thin_block.specs.Shifts.{IsShifted}
use Rattle.thin_block.specs.contracts.shifts.copy_overlapping as F
use Rattle.thin_block.specs.contracts.shifts.copy_overlapping.Key.{name as #self}
use Rattle.thin_block.proofs.shifts.copy_overlapping.Code as code
use Rattle.thin_block.proofs.shifts.copy_overlapping.Statement as stated

-- `index up n i` is the index of the item that is moved when `i` of `n` items have been moved.
abbrev index : Bool → ℕ → ℕ → ℕ
index false n i = i
index true n i = n - 1 - i

index_low : (up : Bool) (n i : ℕ) → i < n → index up n i < n
index_low true n i h = omega arith
index_low false n i h = h

index_is : (up : Bool) (n i : ℕ)
    → (Holds up → n - 1 - i ≡ index up n i) × (Holds (not up) → i ≡ index up n i)
index_is true n i = (λ h. refl, λ h. absurd h)
index_is false n i = (λ h. absurd h, λ h. refl)

module _ (E : El) where
  abbrev args : Args
  args = layouts (a_type ∷ []) (E.row, tt)

  abbrev fn' : Fn
  fn' = inst_fn args code.function

  -- `turn` is the body of the loop. Its first two statements test whether an item is left, the next
  -- two choose one, the next two move it, and the last one counts it.
  abbrev turn : Body
  turn = head (head (head (after 1 fn'.body)))

  abbrev ended : Ended
  ended = F.ended E.row

  abbrev stayed : Stays ended.signature.params ended.kept
  stayed =
      (stay_dropped _ yes, (stay_dropped _ yes, (stay_dropped _ yes, (stay_dropped _ yes, tt))))

module _ (E : El) {M : Type 1} {𝓤 : Ura M} (𝓛 : Logic 𝓤) (𝓣 : Tables 𝓤 𝓛.H) (κ : Lft) (q : Share)
    (Post : Val → SProp 𝓤) (n : ℕ) (fn : n < 2 ^ 64) (fb : n * sz E < 2 ^ 64) where
  open 𝓛 use {H, A}

  abbrev τ : Ty
  τ = elτ E

  abbrev s : ℕ
  s = sz E

  -- `Exits To` states that what must hold at the return follows from the memory `To`.
  abbrev Exits : Fml → Type 1
  Exits To = Sq 𝓛 (‵ To ∷ ‵ (flft κ q) ∷ []) (prop (Post vunit))

  -- `Goes up src dst From` states that the function may be called with the memory `From`.
  abbrev Goes : Bool → Ptr → Ptr → Fml → Type 1
  Goes up src dst From = ent 𝓤 (sep 𝓤 (sem 𝓛 From) (A.lft κ q))
      (WpFn 𝓤 H 𝓣.C 𝓣.Λ (fn' E) (ptr_val src ∷ ptr_val dst ∷ vint w64 n ∷ vbool up ∷ []) Post)

  -- A state of the loop: the number of items that have been moved.
  abbrev Moved : Type 0
  Moved = (i : ℕ) × (i ≤ n)

  abbrev Nearer : Moved → Moved → Type 0
  Nearer t u = n - t.0 < n - u.0

  module _ (up : Bool) (bs os bd od : ℕ) (From To : Fml)
      (plan : Plan E 𝓛 bs os bd od n (index up n) From To) (exits : Exits To) where
    abbrev known : ℕ → List (ℕ × Val)
    known i = (1, vptr bs os) ∷ (2, vptr bd od) ∷ (3, vint w64 n) ∷ (4, vbool up)
        ∷ (5, vint w64 i) ∷ []

    module _ (l : ℕ → ℕ) where
      abbrev En : Env 𝓤 H
      En = env (fn' E).locals l

      -- `Now t` is what the function owns at the beginning of a turn: what the plan says after this
      -- many moves.
      abbrev Now : Moved → List (Item 𝓤)
      Now t = raw (plan.St t.0) ∷ ‵ (flft κ q) ∷ holding 𝓛 En (known t.0)

      -- `Chosen t` is the context once local 8 contains the index of the item to be moved.
      abbrev Chosen : Moved → List (Item 𝓤)
      Chosen t = raw (plan.St t.0) ∷ ‵ (flft κ q)
          ∷ holding 𝓛 En (known t.0 ++ (8, vint w64 (index up n t.0)) ∷ [])

      -- `Turned t` must hold after a turn that begins in the state `t`, and `Turn t Γ k` states
      -- that a turn succeeds from its statement `k` on, with the proof context `Γ`.
      abbrev Turned : Moved → Out → SProp 𝓤
      Turned t = after_turn 𝓤 H (Below 𝓛 Nearer Now t)
          (after_block 𝓤 H (after_seq 𝓤 H (Wp 𝓤 H 𝓣.C 𝓣.Λ En (after 2 (fn' E).body)
          (at_return 𝓤 H En Post)) (at_return 𝓤 H En Post)))

      abbrev Turn : Moved → List (Item 𝓤) → ℕ → Type 1
      Turn t Γ k = Sq 𝓛 Γ (runs 𝓣.C 𝓣.Λ En (after k (turn E)) (any_q (Turned t)))

      -- Stage 6. The function owns the bytes of the moved item at its new place, what the item
      -- owns, and the rest `plan.Q` of what the plan says.
      ends_turn : (t : Moved) (h : t.0 < n) (v : Val) → Turn t (‵
          (fat full_share τ bd (index up n t.0 * s + od) v) ∷ ‵ (el_own E (plan.el t.0 h) (v ∷ []))
          ∷ raw (plan.Q t.0) ∷ ‵ (flft κ q) ∷ holding 𝓛 En (known t.0)) 6
      unfolding after_turn
      ends_turn t h v =
          let i : ℕ = t.0 in let j : ℕ = index up n i in
          let f₁ : i + 1 < 2 ^ 64 = omega arith in
          sets_last ! (bin ! (get ! refl) (lit ! tt) (record { fits = f₁ })) refl
          (tt, record { fits = f₁ }) $
          use2 𝓛 (‵ (part_at (R E) full_share (plan.el i h) bd (j * s + od)))
          (el_in E 𝓛 full_share (plan.el i h) bd (j * s + od) v) $
          use2 𝓛 (raw (plan.St (suc i))) (plan.put i h) $
          forget_but ! En (1 ∷ 2 ∷ 3 ∷ 4 ∷ 5 ∷ []) refl $ take_at ! 5 $
          rewrite ! 0 (λ (k : ℕ). ‵ (fat full_share (ty_int w64) (l 5) zero (vint w64 k)))
          (one_more i) refl $ give_at ! 5 $
          again ! Nearer Now t (suc i, omega arith) (omega arith)

      -- Stage 5. The function owns what the plan says. The plan gives the chosen item, whose memory
      -- becomes free once it is read, and with it memory for the item at its new place.
      moves : (t : Moved) → t.0 < n → Turn t (Chosen t) 4
      unfolding after_turn
      moves t h =
          let i : ℕ = t.0 in let j : ℕ = index up n i in
          let low : j < n = index_low up n i h in
          let fs : s < 2 ^ 64 = one_below n s (2 ^ 64) (omega arith) fb in
          let fj : j < 2 ^ 64 = omega arith in
          let fm : j * s < 2 ^ 64 = times_below j n s (2 ^ 64) (omega arith) fb in
          sets ! (of_opd ! (get ! refl)) refl (tt, record { fits = fj }) $ first ! $ blocks ! $
          sets ! (bin ! (get ! refl) (size_lit ! (record { fits = fs })) (record { fits = fm }))
          refl (tt, record { fits = fm }) $
          sets ! (bin ! (get ! refl) (get ! refl) tt) refl (tt, tt) $
          sets ! (bin ! (get ! refl) (size_lit ! (record { fits = fs })) (record { fits = fm }))
          refl (tt, record { fits = fm }) $
          sets ! (bin ! (get ! refl) (get ! refl) tt) refl (tt, tt) $
          use1 𝓛 (‵ (part_at (R E) full_share (plan.el i h) bs (j * s + os)) ⊛ raw (plan.P i))
          (plan.out i h) $ split ! $
          use1 𝓛 (some (λ (v : Val). given (Good E v)
          (‵ (fat full_share τ bs (j * s + os) v) ⊛ ‵ (el_own E (plan.el i h) (v ∷ [])))))
          (el_out E 𝓛 full_share (plan.el i h) bs (j * s + os)) $
          pick ! (λ v. learn ! (λ good. split ! $
          sets ! (of_opd ! (load ! (through ! refl (stop !)) (look ! 0 refl))) refl good $
          forget ! 0 refl $ move ! (0 ∷ 2 ∷ []) $
          use2 𝓛 (‵ (froom τ bd (j * s + od)) ⊛ raw (plan.Q i)) (plan.mid i h) $ split ! $
          assigns_last ! (of_opd ! (get ! refl)) (through ! refl (stop !)) (init ! 0 refl good) $
          exec ! 𝓣.C 𝓣.Λ En (after 6 (turn E)) (any_q (Turned t)) $ move ! (0 ∷ 2 ∷ []) $
          forget_but ! En (1 ∷ 2 ∷ 3 ∷ 4 ∷ 5 ∷ []) refl $ ends_turn t h v))

      -- Stage 4. The function owns what the plan says. If no items are left, that is the memory
      -- `To`, and the function returns.
      turns : (t : Moved) → Turn t (Now t) 0
      unfolding after_turn
      turns t =
          let i : ℕ = t.0 in let le = t.1 in
          sets ! (bin ! (get ! refl) (get ! refl) tt) refl (tt, tt) $ first ! $
          branches ! (get ! refl)
          (λ less. let h : i < n = ltb→lt i n less in let f₀ : n - 1 < 2 ^ 64 = omega arith in
          let low : index up n i < n = index_low up n i h in
          let fj : index up n i < 2 ^ 64 = omega arith in
          skips ! $ exec ! 𝓣.C 𝓣.Λ En (after 2 (turn E)) (any_q (Turned t)) $
          sets ! (of_opd ! (get ! refl)) refl (tt, tt) $ first ! $ branches ! (get ! refl)
          (λ is_up. sets ! (bin ! (get ! refl) (lit ! tt) (omega arith)) refl
          (tt, record { fits = f₀ }) $
          sets_last ! (is ! (bin ! (get ! refl) (get ! refl) (omega arith))
          (ap (vint w64) ((index_is up n i).0 is_up))) refl (tt, record { fits = fj }) $
          exec ! 𝓣.C 𝓣.Λ En (after 4 (turn E)) (any_q (Turned t)) $
          forget_but ! En (1 ∷ 2 ∷ 3 ∷ 4 ∷ 5 ∷ 8 ∷ []) refl $ moves t h)
          (λ is_down. sets_last ! (is ! (of_opd ! (get ! refl))
          (ap (vint w64) ((index_is up n i).1 is_down))) refl (tt, record { fits = fj }) $
          exec ! 𝓣.C 𝓣.Λ En (after 4 (turn E)) (any_q (Turned t)) $
          forget_but ! En (1 ∷ 2 ∷ 3 ∷ 4 ∷ 5 ∷ 8 ∷ []) refl $ moves t h))
          (λ over. let ge : n ≤ i = nltb→le i n over in let all : i ≡ n = omega arith in
          jumps ! $ exec ! 𝓣.C 𝓣.Λ En (after 2 (fn' E).body) (at_ret En Post) $
          rewrite ! 0 (λ (k : ℕ). raw (plan.St k)) all refl $ use1 𝓛 (‵ To) plan.end $
          sets ! (of_opd ! (unit_lit !)) refl (tt, tt) $ returns ! (look_at ! 0 refl) $
          free_all ! refl $ exits)

    -- Stage 3. The function owns the memory `From`, which is what the plan says before the first
    -- move.
    runs_by : Goes up (block_ptr bs os) (block_ptr bd od) From
    runs_by =
        qed 𝓛 (‵ From ∷ ‵ (flft κ q) ∷ []) ∵ use1 𝓛 (raw (plan.St 0)) plan.start $
        enter ! 𝓣.C 𝓣.Λ (fn' E) (vptr bs os ∷ vptr bd od ∷ vint w64 n ∷ vbool up ∷ []) _ $
        alloc_all ! (λ l. pass_all ! refl
        ((tt, tt), ((tt, tt), ((tt, record { fits = fn }), ((tt, tt), tt)))) $
        sets ! (of_opd ! (lit ! tt)) refl (tt, record { fits = lit< tt }) $
        forget_but ! (En l) (1 ∷ 2 ∷ 3 ∷ 4 ∷ 5 ∷ []) refl $
        first ! $ blocks ! $ loops ! 𝓣 Nearer (InvImage.wf (λ (t : Moved). n - t.0) lt-wf_rel.wf)
        (Now l) (turns l) (0, omega arith))

  -- Stage 2. The function owns the items, and the empty slots next to them into which they move.
  -- Nothing is owned at a null pointer.
  nowhere : (up : Bool) (src dst : Ptr) (P : Fml) → Goes up src dst (fsep ffalse P)
  nowhere up src dst P = qed 𝓛 (‵ (fsep ffalse P) ∷ ‵ (flft κ q) ∷ []) ∵ fsplit ! $
      keep ! (0 ∷ []) $ by ! (never_e 𝓤 _)

  -- An array in memory has as many items as its type says.
  counted : (up : Bool) (src dst : Ptr) (xs : List (el_x E)) (b o : ℕ) (P : Fml)
      → (length xs ≡ n → Goes up src dst (fsep (part_at (Array (R E) n) full_share xs b o) P))
      → Goes up src dst (fsep (part_at (Array (R E) n) full_share xs b o) P)
  counted up src dst xs b o P goes =
      qed 𝓛 (‵ (fsep (part_at (Array (R E) n) full_share xs b o) P) ∷ ‵ (flft κ q) ∷ []) ∵
      fsplit ! $ use1 𝓛 (given (length xs ≡ n) (‵ (row (R E) full_share xs b o)))
      (apart E 𝓛 full_share n xs b o) $ learn ! (λ ln.
      use1 𝓛 (‵ (part_at (Array (R E) n) full_share xs b o)) (whole E 𝓛 full_share n xs b o ln) $
      fjoin ! $ by ! (goes ln))

  module _ (k : ℕ) (xs : List (el_x E)) where
    abbrev Runs : Bool → Ptr → Ptr → Type 1
    Runs up src dst = Exits (memory_after_copy (R E) up k n src dst xs)
        → Goes up src dst (memory_before_copy (R E) up k n src dst xs)

    -- The distance `k` gives the one pointer from the other.
    by_way : (up : Bool) (src dst : Ptr) → IsShifted (R E) up k src dst → Runs up src dst
    by_way true null_ptr dst e = λ exits. nowhere true null_ptr dst ffalse
    by_way true (block_ptr b o) dst e = let to : ℕ = k * s + o in
        subst (Runs true (block_ptr b o)) (sym e) (λ exits.
        counted true (block_ptr b o) (block_ptr b to) xs b o (froom (ty_array τ k) b (n * s + o))
        (λ ln. runs_by true b o b to _ _ (up_Plan E 𝓛 n xs ln k b o) exits))
    by_way false src null_ptr e = subst (λ (p : Ptr). Runs false p null_ptr) (sym e)
        (λ exits. nowhere false null_ptr null_ptr ffalse)
    by_way false src (block_ptr b o) e = let from : ℕ = k * s + o in
        subst (λ (p : Ptr). Runs false p (block_ptr b o)) (sym e) (λ exits.
        counted false (block_ptr b from) (block_ptr b o) xs b from (froom (ty_array τ k) b o)
        (λ ln. runs_by false b from b o _ _ (down_Plan E 𝓛 n xs ln k b o) exits))

-- Stage 1. The function owns the lifetime token of `T` and the memory that the contract says.
-- `exits` shows that the contract holds at the return.
pub copy_overlapping_spec : {M : Type 1} → stated.statement M
unfolding tables_of
copy_overlapping_spec 𝓤 𝓛 𝓜 𝓡 wired X L =
    let E : El = record { row = X; laws = L } in
    let 𝓣 : Tables 𝓤 𝓛.H = tables_of 𝓤 𝓛.H 𝓜 (tables 𝓤 𝓛.H 𝓜 𝓡 𝓡.env) in
    let c = F.clauses X 𝓛 𝓜.mem 𝓡.returns in let W = walk_of 𝓛 (ended E) (stayed E) c in
    let gone = λ (Y : RattleType). Goes-dropped 𝓛 1 (plain (λ _. Y)) yes in
    proved 𝓛 (ended E) (stayed E) c 𝓜 𝓡 (
      gone RawPtr (λ κs x f. refl),
      (
        gone RawPtr (λ κs x f. refl),
        (gone usize (λ κs x f. refl), (gone bool (λ κs x f. refl), tt)),
      ),
    )
    (#self (args E)) (fn' E) (code.unfolded 𝓤 𝓛.H 𝓜 𝓡 wired (X, tt))
    (λ κs. (rawptr_vals, (rawptr_vals, (uint_vals w64, (bool_vals, tt)))))
    (λ κs. (rawptr_Tells, (rawptr_Tells, (uint_Tells w64, (bool_Tells, tt)))))
    (λ κs qs bounds a g are.
    let (src, (dst, (n, (up, _)))) = a in let (_, (_, ((_, fn), _))) = are in
    let κ : Lft = κs.0 in let q : Share = qs.0 in
    let After : Fml = memory_after_copy (R E) up g.0 n src dst g.1 in
    let y : W.Ghost = (
      (
        κs,
        qs,
        bounds,
        a,
        (ptr_val src ∷ [], (ptr_val dst ∷ [], (vint w64 n ∷ [], (vbool up ∷ [], tt)))),
      ),
      g,
    ) in
    let exits : Sq 𝓛 (‵ After ∷ ‵ (flft κ q) ∷ []) (prop (W.post y vunit)) =
    suffices ! _ (ends_at 𝓛 (ended E) (stayed E) c y vunit tt
    (tt, (tt, (tt, (tt, tt)))) (tt, (tt, (tt, (tt, tt))))) $
    feq_i ! (List Val) (vunit ∷ []) (vunit ∷ []) refl $ nothing ! $ nothing ! $ fjoin ! $
    nothing ! $ fjoin ! $ nothing ! $ fjoin ! $ nothing ! $ fjoin ! $ join ! $ nothing ! $
    move ! (3 ∷ 0 ∷ []) $ join ! $ join ! $ done ! in
    let Shifted : Type 0 = IsShifted (R E) up g.0 src dst in
    let Fits : Type 0 = n * sz E < 2 ^ 64 in
    qed 𝓛 (((‵ (flft κ q) ⊛ ‵ ftrue) ⊛ ‵
    (owns (RawPtr ∷ RawPtr ∷ usize ∷ bool ∷ []) (src, (dst, (n, (up, tt)))) y.0.4))
    ∷ (raw (fact 𝓤 (κ ⊑ E.row.lives)) ⊛ raw (fact 𝓤 Shifted) ⊛ raw (fact 𝓤 Fits) ⊛ ‵
    (memory_before_copy (R E) up g.0 n src dst g.1)) ∷ []) ∵
    split ! $ split ! $ keep ! (3 ∷ 0 ∷ []) $ split3 ! $ drop ! $
    heard ! Shifted (λ is. split ! $ heard ! Fits (λ fb.
    by ! (by_way E 𝓛 𝓣 κ q (W.post y) n fn fb g.0 g.1 up src dst is exits))))
