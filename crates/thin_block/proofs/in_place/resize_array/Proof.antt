-- This file proves the contract of `resize_array`, which moves the last values into the gap, calls
-- the method `grow` or `shrink` of the allocator, and moves the values back.
--
-- The proof has six stages. Each says what is owned when it begins. A stage ends with the next one,
-- so the last one comes first in this file.
--
-- 1. `resize_array_spec` takes the arguments and the facts of the contract, and enters the
--    function.
-- 2. `fills_gap` moves the last values into the gap.
-- 3. `calls` calls `grow` or `shrink`.
-- 4. `settles_as` and `settled` store the result and enter the arm of `match` for it.
-- 5. `moves_back` and `refused` are the two arms. Each moves the values back.
-- 6. `returned` returns the result of either arm.
use Rattle.std.proofs.Common.{◌≡◌, refl, sym, ap, ◌∙◌, Bool, true, false, List, [], ◌∷◌, ◌++◌, ℕ}
use Rattle.std.proofs.Common.{◌+◌, ◌-◌, ◌*◌, ◌<◌, ◌≤◌, ◌^◌, arith, w64, take, drop as rest}
use lib.Dec.{ltb→lt, nltb→le}
use seplogic.Ra.Ura.{Ura}
use base.Fml.{Fml, froom, flft, Lft, Share}
use base.Fraction.{full_share}
use base.Logic.{SProp, ex, id⊢}
use mir.MapTy.{inst_fn}
use mir.Syntax.{Body, Ty, place, ty_array, Fn}
use mir.Val.{Val, vint, vptr}
use prog.Memory.{Memory}
use prog.Routine.{Routine}
use prog.Wp.{Env, Calls, Loops}
use sound.WpLaws.{FmC}
use contract.BorrowLft.{◌⊑◌, ⊑_trans}
use contract.Lifetimes.{toks}
use contract.Monad.{fact, Fun}
use contract.Running.{tables}
use types.ByLocal.{alloc_all, pass_all, free_all, look_at, get, get_in, sets, sets_last, lands_last}
use types.ByLocal.{env, holding, forget_but, get_tag}
use types.Kit.{Item, Post as After, Sq, prop, ‵, raw, ◌⊛◌, at_ret, ◌$◌, !, move, keep, drop, use0}
use types.Kit.{use1, use3, split, split3, join, rewrite, regoal, fsplit, suffices, done, settles}
use types.Kit.{runs}
use types.Logic.{Logic}
use types.Match.{vrt, in_variant}
use types.Part.{agg, whole}
use types.Run.{bin, lit, no_more, and_then, of_opd, first, blocks, branches, exec, returns, stop}
use types.Run.{fld, switches_on}
use denote.Array.{Array}
use denote.Memory.{part_at}
use denote.Param.{number, layout}
use denote.RattleType.{RattleType}
use denote.RawPtr.{Ptr, block_ptr, ptr_val, in_a_block}
use denote.Steps.{heard}
use denote.Triple.Statement.{Triple}
use denote.Triple.Walked.{walk_of, ends_at}
use Rattle.core.specs.Allocator.{block_with_items, resized_if_ok}
use Rattle.core.proofs.alloc.Calls.{token, Answer, answer_val, Answer-typed, Al, seen}
use Rattle.core.proofs.alloc.Resizes.{Grows, Shrinks, Resizes, Flagged, flagged, result_of}
use Rattle.core.proofs.alloc.Resizes.{result_own, resize_key}
use Rattle.core.proofs.alloc.Shapes.{after, head, inside, arm_body}
use Rattle.core.proofs.atomic.Steps.{fm}
use Rattle.core.proofs.mem.Param.{R, El, el_x}
use Rattle.core.proofs.ptr.Rows.{times_below}
use Rattle.std.proofs.raw_atomic.Walks.{proved_at}
use Rattle.thin_block.specs.InPlace.{FitsGap, gapped_items, gapped_if_ok}
use Rattle.thin_block.specs.contracts.in_place.resize_array.{ended, clauses}
use Rattle.thin_block.specs.contracts.in_place.resize_array.Key.{name as #self}
use Rattle.thin_block.proofs.Addresses.{moves_on}
use Rattle.thin_block.proofs.MethodSignatures.{item, source, args_at, others, dropped, all_go}
use Rattle.thin_block.proofs.MethodSignatures.{arrives, enters, token_out, blank, still, word}
use Rattle.thin_block.proofs.SlotMemory.{sz}
use Rattle.thin_block.proofs.WalkPrelude.{slot_at, then_runs, out_of_block}
use Rattle.thin_block.proofs.in_place.ArrayMemory.{Others, before_out, before_in, after_in}
use Rattle.thin_block.proofs.in_place.ArrayMemory.{after_out}
use Rattle.thin_block.proofs.in_place.ArraySteps.{moves_array, asks}
use Rattle.thin_block.proofs.in_place.resize_array.Code as compiled
use Rattle.thin_block.proofs.in_place.resize_array.Statement.{statement}

module _ (E : El) (Y : Al) (k : ℕ) where
  abbrev fn' : Fn
  fn' = inst_fn (args_at E Y k) compiled.function

  -- `inner` is the block of the body. Its first six statements move the last values into the gap,
  -- statement 7 calls the allocator, and statement 9, `both`, is the `match`.
  abbrev inner : Body
  inner = inside (head fn'.body)

  abbrev both : Body
  both = head (after 9 inner)

-- In this module, the allocation begins at the offset `o` of `b`, and `h` is the allocator.
-- `Tokens` are the lifetime tokens of `A` and `K`, and `Post` has to hold at the return.
module _ (E : El) (Y : Al) (k : ℕ) {M : Type 1} {𝓤 : Ura M} (𝓛 : Logic 𝓤) (C : Calls 𝓤 𝓛.H)
    (Λ : Loops 𝓤 𝓛.H) (κ κT : Lft) (q qT : Share) (Tokens : Item 𝓤) (Post : Val → SProp 𝓤)
    (h : Y.row.Denot) (b o len current wanted : ℕ) (items : List (el_x E))
    (fits : FitsGap (R E) k len current wanted items) where
  open 𝓛 use {H}

  abbrev tok : Ty → Ptr → Fml
  tok = token Y h

  -- `back` are the last values, which are in the gap while the allocator runs.
  abbrev back : List (el_x E)
  back = rest (len - k) items

  abbrev turned : List (el_x E)
  turned = back ++ take (len - k) items

  -- `Gapped b' o' n` is an allocation for `n` values, with the gap before the values.
  abbrev Gapped : ℕ → ℕ → ℕ → Fml
  Gapped b' o' n = gapped_items tok (R E) (block_ptr b' o') k len n items

  -- If the last values and the gap are taken out of it, `Rest` remains.
  abbrev Rest : (b' o' n : ℕ) → k + len ≤ n → Fml
  Rest b' o' n room = Others 𝓛 E tok b' o' k len n items fits.count fits.enough room

  abbrev Last : ℕ → ℕ → Fml
  Last b' at = part_at (Array (R E) k) full_share back b' at

  abbrev Gap : ℕ → ℕ → Fml
  Gap b' at = froom (ty_array (layout E.row) k) b' at

  -- `past o'` is the offset after the first `len` values of an allocation at `o'`.
  abbrev past : ℕ → ℕ
  past o' = len * sz E + o'

  -- `Turned r` is the allocation after the allocator has returned `r`: an array, which begins with
  -- the last values. `Left r` is what the function leaves if it returns `r`.
  abbrev Turned : Answer.Denot → Fml
  Turned = resized_if_ok tok (R E) (block_ptr b o) len current wanted turned

  abbrev Left : Answer.Denot → Fml
  Left = gapped_if_ok tok (R E) (block_ptr b o) k len current wanted items

  short : len * sz E < 2 ^ 64
  short = let room : k + len ≤ current = fits.room in
      let near : len * sz E < 2 ^ 63 =
      times_below len current (sz E) (2 ^ 63) (omega arith) fits.fits in
      omega arith

  abbrev Ends : Bool → ℕ → ℕ → Type 1
  Ends y b' o' = Sq 𝓛 (‵ (Left (result_of y b' o')) ∷ ‵ (flft κ q) ∷ ‵ (flft κT qT) ∷ Tokens ∷ [])
      (prop (Post (answer_val y b' o')))

  module _ (ends : (y : Bool) (b' o' : ℕ) → Ends y b' o') (l : ℕ → ℕ) where
    abbrev En : Env 𝓤 H
    En = env (fn' E Y k).locals l

    -- `Result` must hold after the block of the body, `Matched` after the `match`, and `Called`
    -- after the call of the allocator.
    abbrev Result : After 𝓤 H
    Result = out_of_block 𝓛 (then_runs 𝓛 C Λ En (after 1 (fn' E Y k).body) (at_ret En Post))

    abbrev Matched : After 𝓤 H
    Matched = then_runs 𝓛 C Λ En (after 10 (inner E Y k)) Result

    abbrev Called : After 𝓤 H
    Called = then_runs 𝓛 C Λ En (after 8 (inner E Y k)) Result

    -- `Own F vs` is the proof context in which the function owns `F` and the lifetime tokens, and
    -- its local variables hold the values `vs`. The variables 3, 6 and 7 hold the length, and the
    -- addresses `first` and `last`.
    abbrev Own : Fml → List (ℕ × Val) → List (Item 𝓤)
    Own F vs = ‵ F ∷ ‵ (flft κ q) ∷ ‵ (flft κT qT) ∷ Tokens ∷ holding 𝓛 En vs

    abbrev known : List (ℕ × Val)
    known = (3, vint w64 len) ∷ (6, vptr b o) ∷ (7, vptr b (past o)) ∷ []

    -- Stage 6. The allocation has its final form, and the result of the `match` is in the local
    -- variable 17.
    returned : (y : Bool) (b' o' : ℕ)
        → Sq 𝓛 (Own (Left (result_of y b' o')) ((17, answer_val y b' o') ∷ []))
        (runs C Λ En (after 10 (inner E Y k)) Result)
    returned y b' o' =
        sets_last ! (of_opd ! (get ! refl)) refl (Answer-typed y b' o') $
        exec ! C Λ En (after 1 (fn' E Y k).body) (at_ret En Post) $
        sets ! (of_opd ! (get ! refl)) refl (Answer-typed y b' o') $
        returns ! (look_at ! 0 refl) $ free_all ! refl $ ends y b' o'

    -- Stage 5 after success. The new allocation for `wanted` values is one array, which begins with
    -- the last values. They go to the end of the values.
    moves_back : (b' o' : ℕ) → Sq 𝓛
        (Own (Turned (result_of true b' o')) ((8, answer_val true b' o') ∷ known))
        (runs C Λ En (arm_body 0 (both E Y k)) Matched)
    moves_back b' o' =
        sets ! (of_opd ! (get_in ! (vrt ! refl (fld ! refl (stop !)))
        (in_variant ! 0 0 refl refl (whole !)))) refl (tt, tt) $
        moves_on E ! b' o' len short refl (tt, tt) $ sets ! (of_opd ! (get ! refl)) refl (tt, tt) $
        sets ! (of_opd ! (get ! refl)) refl (tt, tt) $
        use1 𝓛 (‵ (Last b' o') ⊛ ‵ (Gap b' (past o')) ⊛ ‵ (Rest b' o' wanted fits.new_room))
        (after_out 𝓛 E tok b' o' k len wanted items fits.count fits.enough fits.new_room) $
        split3 ! $
        moves_array E k ! b' o' (past o') back (λ v. refl) (λ v. refl) (λ v good. good.0) (λ v.
        use3 𝓛 (‵ (Gapped b' o' wanted))
        (before_in 𝓛 E tok b' o' k len wanted items fits.count fits.enough fits.new_room) $
        sets_last ! (agg ! (and_then ! (lit ! tt) (and_then ! (get ! refl) (no_more !)))) refl
        (Answer-typed true b' o') $
        exec ! C Λ En (after 10 (inner E Y k)) Result $
        forget_but ! En (17 ∷ []) refl $ returned true b' o')

    -- Stage 5 after failure. The allocation is still the old one, for `current` values, and begins
    -- with the last values. They go back to the end of the values, so that only the gap has
    -- changed.
    refused : Sq 𝓛 (Own (Turned (result_of false 0 0)) ((8, answer_val false 0 0) ∷ known))
        (runs C Λ En (arm_body 1 (both E Y k)) Matched)
    refused =
        sets ! (of_opd ! (get_in ! (vrt ! refl (fld ! refl (stop !)))
        (in_variant ! 1 0 refl refl (whole !)))) refl (tt, tt) $
        use1 𝓛 (‵ (Last b o) ⊛ ‵ (Gap b (past o)) ⊛ ‵ (Rest b o current fits.room))
        (after_out 𝓛 E tok b o k len current items fits.count fits.enough fits.room) $ split3 ! $
        moves_array E k ! b o (past o) back (λ v. refl) (λ v. refl) (λ v good. good.0) (λ v.
        use3 𝓛 (‵ (Gapped b o current))
        (before_in 𝓛 E tok b o k len current items fits.count fits.enough fits.room) $
        sets_last ! (agg ! (and_then ! (lit ! tt) (and_then ! (get ! refl) (no_more !)))) refl
        (Answer-typed false 0 0) $
        exec ! C Λ En (after 10 (inner E Y k)) Result $
        forget_but ! En (17 ∷ []) refl $ returned false 0 0)

    -- Stage 4. The allocator has returned `u`, which is the value of the result `result_of y b'
    -- o'`. The memory is the array that belongs to this result. The first lemma stores `u` in the
    -- local variable 8, whichever result it is; the second one chooses the arm.
    settles_as : (y : Bool) (b' o' : ℕ) (u : Val) → u ≡ answer_val y b' o'
        → Sq 𝓛 (Own (Turned (result_of y b' o')) ((8, answer_val y b' o') ∷ known))
        (runs C Λ En (both E Y k) Matched)
        → Sq 𝓛 (Own (Turned (result_of y b' o')) known) (settles En (place 16 []) u Called)
    settles_as y b' o' u e next =
        regoal ! (λ (v : Val). settles En (place 16 []) v Called) e refl $
        lands_last ! refl (Answer-typed y b' o') $ exec ! C Λ En (after 8 (inner E Y k)) Result $
        sets ! (of_opd ! (get ! refl)) refl (Answer-typed y b' o') $ first ! $
        forget_but ! En (3 ∷ 6 ∷ 7 ∷ 8 ∷ []) refl $ next

    settled : (u : Val) → Sq 𝓛 (raw (ex 𝓤 (Flagged 𝓛 Turned u)) ∷ ‵ (flft κ q) ∷ ‵ (flft κT qT)
        ∷ Tokens ∷ holding 𝓛 En known) (settles En (place 16 []) u Called)
    settled u = flagged ! u Turned
        (λ b' o' e. settles_as true b' o' u e (
        switches_on ! (get_tag ! (vrt ! refl (fld ! refl (stop !))) (whole !)) $
        exec ! C Λ En (arm_body 0 (both E Y k)) Matched $ moves_back b' o'))
        (λ e. settles_as false 0 0 u e (
        switches_on ! (get_tag ! (vrt ! refl (fld ! refl (stop !))) (whole !)) $
        exec ! C Λ En (arm_body 1 (both E Y k)) Matched $ refused))

    module _ (at_mem : Memory → SProp 𝓤) (run : Routine → Fun 𝓤) (framed : FmC 𝓤 H 𝓛.laws C)
        (grows : Triple 𝓤 (C (resize_key Y E.row 2)) (Resizes Y E.row (Grows E.row) 𝓛 at_mem run))
        (shrinks : Triple 𝓤 (C (resize_key Y E.row 3))
        (Resizes Y E.row (Shrinks E.row) 𝓛 at_mem run))
        (p : ℕ × ℕ) (live : κ ⊑ Y.row.lives) (leT : κT ⊑ E.row.lives) (fl : len < 2 ^ 64)
        (fh : current < 2 ^ 64) (fw : wanted < 2 ^ 64) where
      -- `args` are the values of the parameters.
      abbrev args : List (ℕ × Val)
      args = (1, vptr p.0 p.1) ∷ (2, vptr b o) ∷ (3, vint w64 len) ∷ (4, vint w64 current)
          ∷ (5, vint w64 wanted) ∷ []

      -- Stage 3. The allocation for `current` values is one array, and the function owns what the
      -- allocator's method takes: this array, the shared reference to the allocator, and two
      -- tokens.
      calls : Sq 𝓛 (‵ (block_with_items tok (R E) (block_ptr b o) len current turned)
          ∷ ‵ (seen Y κ p h) ∷ ‵ (flft κ q) ∷ ‵ (flft κT qT) ∷ Tokens
          ∷ holding 𝓛 En ((6, vptr b o) ∷ (7, vptr b (past o)) ∷ args))
          (runs C Λ En (after 6 (inner E Y k)) Result)
      calls =
          let room : k + len ≤ current = fits.room in
          let new_room : k + len ≤ wanted = fits.new_room in
          sets ! (bin ! (get ! refl) (get ! refl) tt) refl (tt, tt) $ first ! $
          branches ! (get ! refl)
          (λ less. let more : current < wanted = ltb→lt current wanted less in
          asks E Y (Grows E.row) 𝓛 at_mem run κ κT q qT p h b o len current wanted turned ! framed
          grows live leT (omega arith, omega arith, fits.new_fits) fl fh fw
          (and_then ! (get ! refl) (and_then ! (get ! refl) (and_then ! (get ! refl)
          (and_then ! (get ! refl) (and_then ! (get ! refl) (no_more !)))))) (λ u.
          forget_but ! En (3 ∷ 6 ∷ 7 ∷ []) refl $ settled u))
          (λ other. let less : wanted ≤ current = nltb→le current wanted other in
          asks E Y (Shrinks E.row) 𝓛 at_mem run κ κT q qT p h b o len current wanted turned ! framed
          shrinks live leT (omega arith, omega arith, fits.fits) fl fh fw
          (and_then ! (get ! refl) (and_then ! (get ! refl) (and_then ! (get ! refl)
          (and_then ! (get ! refl) (and_then ! (get ! refl) (no_more !)))))) (λ u.
          forget_but ! En (3 ∷ 6 ∷ 7 ∷ []) refl $ settled u))

      -- Stage 2. The gap is before the values, as in the contract. The last values and the gap are
      -- taken out of the allocation, and change places.
      fills_gap : Sq 𝓛 (‵ (Gapped b o current) ∷ ‵ (seen Y κ p h) ∷ ‵ (flft κ q) ∷ ‵ (flft κT qT)
          ∷ Tokens ∷ holding 𝓛 En args) (runs C Λ En (fn' E Y k).body (at_ret En Post))
      fills_gap =
          first ! $ blocks ! $ sets ! (of_opd ! (get ! refl)) refl (tt, tt) $
          moves_on E ! b o len short refl (tt, tt) $ sets ! (of_opd ! (get ! refl)) refl (tt, tt) $
          use1 𝓛 (‵ (Last b (past o)) ⊛ ‵ (Gap b o) ⊛ ‵ (Rest b o current fits.room))
          (before_out 𝓛 E tok b o k len current items fits.count fits.enough fits.room) $ split3 ! $
          moves_array E k ! b (past o) o back (λ v. refl) (λ v. refl) (λ v good. good.0) (λ v.
          use3 𝓛 (‵ (block_with_items tok (R E) (block_ptr b o) len current turned))
          (after_in 𝓛 E tok b o k len current items fits.count fits.enough fits.room) $
          forget_but ! En (1 ∷ 2 ∷ 3 ∷ 4 ∷ 5 ∷ 6 ∷ 7 ∷ []) refl $ calls)

-- Stage 1. The function owns the allocation, the shared reference to the allocator, and the
-- lifetime tokens. `ends` shows that the contract holds for what stage 6 leaves.
pub resize_array_spec : {M : Type 1} → statement M
resize_array_spec 𝓤 𝓛 𝓜 𝓡 wired T A k LT LA fits_k g d dd met md =
    let E = item LT in let Y = source LA g d dd in let En₀ = ended T A (number k) g d dd in
    let c = clauses T A (number k) g d dd 𝓛 𝓜.mem 𝓡.returns in let ps = En₀.signature.params in
    let hs = dropped ps En₀.kept in
    let 𝓣 = tables 𝓤 𝓛.H 𝓜 𝓡 𝓡.env in let C = 𝓣.C in let Λ = 𝓣.Λ in
    let n = still 𝓛 4 in
    proved_at 𝓛 En₀ hs c 𝓜 𝓡
    (all_go 𝓛 ps En₀.kept ((λ κs x f. refl), ((λ κs x f. refl), (n, (n, (n, tt))))))
    (#self (args_at E Y k)) (fn' E Y k)
    (compiled.unfolded 𝓤 𝓛.H 𝓜 𝓡 wired (T, (A, (number k, tt))) d dd) (λ z are.
    let Post : Val → SProp 𝓤 = (walk_of 𝓛 En₀ hs c).post z in
    let (alloc, (start, (len, (current, (wanted, _))))) = z.0.3 in
    let ((is₀, _), (is₁, ((is₂, fl), ((is₃, fh), ((is₄, fw), _))))) = are in
    let (κ, (κT, (κA, (κK, _)))) = z.0.0 in
    let (q, (qT, _)) = z.0.1 in
    let items : List T.Denot = z.1 in
    let Rt : RattleType = R E in
    let h = alloc.now in
    let p = alloc.ref_ptr in
    let tok : Ty → Ptr → Fml = token Y h in
    let (_, (_, κs)) = z.0.0 in
    let (_, (_, qs)) = z.0.1 in
    let Tokens : Item 𝓤 = raw (toks 𝓛 2 κs qs) in
    let left : Ptr → Answer.Denot → Fml = λ a. gapped_if_ok tok Rt a k len current wanted items in
    let ends : (b o : ℕ) → start ≡ block_ptr b o → (y : Bool) (b' o' : ℕ)
    → Sq 𝓛 (‵ (left (block_ptr b o) (result_of y b' o')) ∷ ‵ (flft κ q) ∷ ‵ (flft κT qT) ∷ Tokens
    ∷ []) (prop (Post (answer_val y b' o'))) = λ b o at y b' o'.
    rewrite ! 0 (λ (a : Ptr). ‵ (left a (result_of y b' o'))) (sym at) refl $
    suffices ! _ (ends_at 𝓛 En₀ hs c z (answer_val y b' o') (result_of y b' o')
    (tt, (tt, (tt, (tt, (tt, tt))))) (tt, (tt, (tt, (tt, (tt, tt)))))) $
    use0 𝓛 (‵ (Answer.own_val (result_of y b' o') (answer_val y b' o' ∷ []))) (result_own 𝓛 y b' o')
    $ blank ! 5 $ join ! $ move ! (3 ∷ 4 ∷ []) $ join ! $ move ! (3 ∷ 0 ∷ []) $ join ! $ join ! $
    done ! in
    arrives (slot_at 0 ps) (others ps) 𝓛 z.0 ((c z.0.0 z.0.3).requires z.1) (move ! (4 ∷ []) $
    use1 𝓛 (raw (fact 𝓤 (κT ⊑ T.lives)) ⊛ raw (fact 𝓤 (κA ⊑ A.lives)) ⊛
    raw (fact 𝓤 (κK ⊑ [])) ⊛ raw (fact 𝓤 (FitsGap Rt k len current wanted items)) ⊛ ‵
    (gapped_items tok Rt start k len current items)) (id⊢ 𝓤 _) $ split ! $ heard ! _ (λ leT.
    split ! $ heard ! _ (λ leA. split ! $ heard ! _ (λ leK. split ! $ heard ! _ (λ fits.
    let live : κ ⊑ A.lives = ⊑_trans κ κA A.lives z.0.2.0 leA in
    in_a_block ! start (λ a. gapped_items tok Rt a k len current items) (id⊢ 𝓤 _) (λ b o at.
    move ! (1 ∷ []) $ fsplit ! $ drop ! $ keep ! (1 ∷ 0 ∷ 2 ∷ 3 ∷ []) $ move ! (3 ∷ []) $
    token_out ! 2 z.0.0.1 z.0.1.1 $ move ! (2 ∷ 3 ∷ 4 ∷ 0 ∷ []) $
    -- The context is now: the allocation; the shared reference to the allocator; the lifetime
    -- tokens of this reference and of `T`; the other lifetime tokens.
    enters ! (fn' E Y k) (vptr p.0 p.1 ∷ vptr b o ∷ vint w64 len ∷ vint w64 current ∷ vint w64 wanted
    ∷ [])
    (λ i. is₀ i ++ ((is₁ ∙ ap (λ (a : Ptr). ptr_val a ∷ []) at) i ++ (is₂ i ++ (is₃ i
    ++ (is₄ i ++ []))))) $
    alloc_all ! (λ l. pass_all ! refl ((tt, tt), ((tt, tt), (word fl, (word fh, (word fw, tt))))) $
    fills_gap E Y k 𝓛 C Λ κ κT q qT Tokens Post h b o len current wanted items fits (ends b o at) l
    𝓜.mem 𝓡.returns (fm 𝓛 𝓜 𝓡) (met.grow dd T LT) (met.shrink dd T LT) p live leT fl fh
    fw))))))))
