-- This file proves the contract of `resize_padded`, which uses a padded block as an array of items,
-- resizes the array, and uses it as a padded block again.
--
-- The proof has five stages, which are lemmas within it. A stage ends with the next one, so the
-- last one comes first.
--
-- 1. The beginning takes the arguments and the facts of the contract, and enters the function.
-- 2. The end opens the block, reads the address of the allocation, and forms the array of items.
-- 3. `resizes_array` calls `resize_array`.
-- 4. `grown` and `refused` are the two arms of `match`. Each makes a padded block of the array
--    again.
-- 5. `returned` returns the result of either arm.
use Rattle.std.proofs.Common.{false, ◌≡◌, ℕ, ◌+◌, ◌-◌, ◌*◌, ◌^◌, ◌<◌, ◌≤◌, List, [], ◌∷◌, ◌++◌}
use Rattle.std.proofs.Common.{length, true, refl, sym, subst, ◌∙◌, arith, lit<, w64, Option}
use lib.Dec.{T as Holds}
use base.Fml.{ftrue, Fml, Share, froom, flft}
use base.Logic.{id⊢, SProp}
use base.Share as Shares
use mir.MapTy.{inst_fn}
use mir.Syntax.{Body, ty_int, Ty, ty_ptr}
use mir.Val.{Val, vint, vptr, WT, has_ty}
use prog.Wp.{Env, spot_of}
use contract.BorrowLft.{⊑_static}
use contract.Running.{tables}
use types.ByLocal.{alloc_all, pass_all, free_all, look_at, get, get_in, through, sets, sets_last}
use types.ByLocal.{lands_as, env, get_tag, holding, forget_but}
use types.Kit.{Post as After, Item, ‵, ◌⊛◌, some as exists, given, pick, learn, at_ret, ◌$◌, ! }
use types.Kit.{move, keep, drop, group, use1, use2, split, split3, rewrite, fsplit, fjoin, suffices}
use types.Kit.{done, Sq, runs, prop}
use types.Match.{vrt, in_variant}
use types.Part.{whole, sub, agg, store_in}
use types.Run.{stop, fld, lit, bin, init, look, load, unit_lit, of_opd, no_more, and_then, assigns}
use types.Run.{first, blocks, exec, returns, switches_on}
use denote.RattleType.{RattleType}
use denote.RawPtr.{Ptr, block_ptr}
use denote.Triple.Walked.{walk_of, ends_at}
use Rattle.core.specs.declared.result.Result.TheVariants.{Ok, Err}
use Rattle.core.proofs.alloc.Calls.{token, seen, answer_val}
use Rattle.core.proofs.alloc.Resizes.{flagged}
use Rattle.core.proofs.alloc.Shapes.{after, head, inside, arm_body}
use Rattle.core.proofs.atomic.Steps.{fm}
use Rattle.core.proofs.mem.Param.{R}
use Rattle.std.proofs.raw_atomic.Walks.{proved_at}
use Rattle.std.specs.Align.{type_align}
use Rattle.thin_block.specs.Cost.{add_realloc}
use Rattle.thin_block.specs.InPlace.{FitsGap, gapped_items}
use Rattle.thin_block.specs.Ownership.{fits_block, slots_own, header_owns, dealloc_right, end_of}
use Rattle.thin_block.specs.Slots.{items_in, filled_slots, empty_slots}
use Rattle.thin_block.specs.contracts.block.Block.resize_padded.{ended, clauses}
use Rattle.thin_block.specs.contracts.block.Block.resize_padded.Key.{name as #self}
use Rattle.thin_block.proofs.Addresses.{its_ptr, slot_found}
use Rattle.thin_block.proofs.HeaderMemory.{args, Br, header, t}
use Rattle.thin_block.proofs.MethodSignatures.{item, source, ok_val, err_val, ok_typed, err_typed}
use Rattle.thin_block.proofs.MethodSignatures.{leaves_ok, leaves_err, others, block_stays, goes}
use Rattle.thin_block.proofs.MethodSignatures.{starts, enters, heard_each, still, word, ptr_of}
use Rattle.thin_block.proofs.MethodSignatures.{opens_self, header_closes, Borrowed, Open}
use Rattle.thin_block.proofs.SlotMemory.{sz, reach}
use Rattle.thin_block.proofs.SlotsLemmas.{packed-le, packed-parted}
use Rattle.thin_block.proofs.WalkPrelude.{then_runs, out_of_block, says_all}
use Rattle.thin_block.proofs.block.Block.resize_padded.Code as compiled
use Rattle.thin_block.proofs.block.Block.resize_padded.Statement.{statement}
use Rattle.thin_block.proofs.in_place.ResizedBlock.{new_long, resized, resized_view}
use Rattle.thin_block.proofs.in_place.ResizedCall.{leaves, resizes}
use Rattle.thin_block.proofs.in_place.resize_array.Met as resize_array_met
use Rattle.thin_block.proofs.padded.PaddedLemmas.{Padded, padded_tells}
use Rattle.thin_block.proofs.padded.PaddedMemory.{Kept, Opened, padded_apart, padded_right_in}
use Rattle.thin_block.proofs.padded.PaddedMemory.{array_in, array_out}
use Rattle.thin_block.proofs.sizes.SizesLemmas.{fits_tells}

pub resize_padded_spec : {M : Type 1} → statement M
resize_padded_spec 𝓤 𝓛 𝓜 𝓡 wired T A LT LA g d dd met md =
    let H = 𝓛.H in
    let E = item LT in let Y = source LA g d dd in let En₀ = ended T A g d dd in
    let c = clauses T A g d dd 𝓛 𝓜.mem 𝓡.returns in let ss = others En₀.signature.params in
    let hs = block_stays E Y ss En₀.kept.1 in let fn = inst_fn (args E Y) compiled.function in
    let 𝓣 = tables 𝓤 H 𝓜 𝓡 𝓡.env in let C = 𝓣.C in let Λ = 𝓣.Λ in
    let q = still 𝓛 4 in
    proved_at 𝓛 En₀ hs c 𝓜 𝓡
    (goes E Y ss 𝓛 En₀.kept.1 ((λ κs x f. refl), (q, (q, (q, (q, (q, (q, tt))))))))
    (#self (args E Y)) fn (compiled.unfolded 𝓤 H 𝓜 𝓡 wired (T, (A, tt)) d dd) (λ z are.
    let Post : Val → SProp 𝓤 = (walk_of 𝓛 En₀ hs c).post z in
    let Rt : RattleType = R E in let s : ℕ = sz E in
    let (_, (κ, (κT, (κA, _)))) = z.0.0 in
    let (_, (q, (qT, (qA, _)))) = z.0.1 in
    let (_, (_, (out, _))) = z.0.2 in
    let (r, (a, (len, (old, (cap, (current, (wanted, (front, _)))))))) = z.0.3 in
    let ((is₀, _), ((is₁, _), ((is₂, fl), ((is₃, fo), are')))) = are in
    let ((is₄, fc), ((is₅, fh), ((is₆, fw), ((is₇, ff), _)))) = are' in
    let x = r.now in let h = a.now in let handle_at = a.ref_ptr in
    let Tokens : Item 𝓤 = ‵ (flft κ q) ⊛ ‵ (flft κT qT) ⊛ ‵ (flft κA qA) ⊛ ‵ ftrue in
    starts E Y 𝓛 ss z.0 ((c z.0.0 z.0.3).requires z.1) (move ! (5 ∷ []) $
    heard_each ! (_ ∷ _ ∷ _ ∷ _ ∷ _ ∷ _ ∷ _ ∷ _ ∷ _ ∷ _ ∷ _ ∷ _ ∷ _ ∷ _ ∷ [])
    (λ leT leA from pad pad' packed len_is old_is enough small any current_is wanted_is front_is.
    let items : List T.Denot = items_in x.slots in
    let all : len ≡ length items = len_is ∙ packed.len in
    let le : x.len ≤ length x.slots = packed-le x.slots x.len packed in
    let within : len ≤ old = omega arith in
    let j : ℕ = length x.slots - x.len in
    let j' : ℕ = cap - x.len in
    let slots_are : old ≡ length items + j = omega arith in
    let slots_are' : cap ≡ length items + j' = omega arith in
    let row : x.slots ≡ filled_slots items ++ empty_slots j = packed-parted x.slots x.len packed in
    move ! (4 ∷ []) $ fsplit ! $ fsplit ! $ drop ! $ keep ! (5 ∷ 2 ∷ 3 ∷ 4 ∷ 0 ∷ []) $
    use1 𝓛 Tokens (id⊢ 𝓤 _) $ split3 ! $ move ! (2 ∷ []) $ split ! $
    move ! (4 ∷ 5 ∷ 6 ∷ 7 ∷ 2 ∷ 3 ∷ 0 ∷ []) $
    -- The context is now: the borrow of the block (3 entries); the shared reference to the
    -- allocator; the lifetime tokens of this reference, of `T` and of `A`; the other tokens.
    enters ! fn (ptr_of r ∷ vptr handle_at.0 handle_at.1 ∷ vint w64 len ∷ vint w64 old ∷ vint w64
    cap ∷ vint w64 current ∷ vint w64 wanted ∷ vint w64 front ∷ [])
    (λ i. is₀ i
    ++ (is₁ i ++ (is₂ i ++ (is₃ i ++ (is₄ i ++ (is₅ i ++ (is₆ i ++ (is₇ i ++ [])))))))) $
    let w₂ = word fl in let w₃ = word fo in let w₄ = word fc in let w₅ = word fh in
    let w₆ = word fw in let w₇ = word ff in
    alloc_all ! (λ l. pass_all ! refl
    ((tt, tt), ((tt, tt), (w₂, (w₃, (w₄, (w₅, (w₆, (w₇, tt)))))))) $
    let En : Env 𝓤 H = env fn.locals l in
    opens_self E Y ! tt r (λ b o at fits.
    let wide : Padded s (type_align Rt) old = padded_tells s (type_align Rt) old pad in
    let wide' : Padded s (type_align Rt) cap = padded_tells s (type_align Rt) cap pad' in
    let near_end : old * s < 2 ^ 64 =
    let low = reach Rt old (length x.slots) fits (omega arith) in omega arith in
    let fits_cap : fits_block Rt cap ≡ true = small in
    let near_end' : cap * s < 2 ^ 64 =
    let low = reach Rt cap cap fits_cap (omega arith) in omega arith in
    let tok : Ty → Ptr → Fml = token Y h in
    let fits_old : fits_block Rt old ≡ true =
    subst (λ (n : ℕ). fits_block Rt n ≡ true) (sym old_is) fits in
    let end : ℕ = end_of s old o in
    -- `inner` is the block of the body. Its statement 6 calls `resize_array`, and statement 7,
    -- `both`, is the `match`. `Last` must hold after the block, and `Matched` after the `match`.
    let inner : Body = inside (head (after 1 fn.body)) in
    let both : Body = head (after 7 inner) in
    let Last : After 𝓤 H = out_of_block 𝓛
    (then_runs 𝓛 C Λ En (after 2 fn.body) (at_ret En Post)) in
    let Matched : After 𝓤 H = then_runs 𝓛 C Λ En (after 8 inner) Last in
    -- `Opens Γ` is a proof context that begins with the open borrow (4 entries).
    let coded = (Br E Y).coded.code x in
    let Opens : List (Item 𝓤) → List (Item 𝓤) =
    λ Γ. Open E Y z.0.0.0 z.0.1.0 r b o coded coded Γ in
    -- Stage 5. The borrow is closed around the block `y`, and the result `v` of the `match` is in
    -- the local variable 22.
    let returned : (y : (Br E Y).Denot) (v : Val) → Holds (has_ty (spot_of 𝓤 H En 0).0 v) × WT v
    → Sq 𝓛 (Borrowed E Y z.0.0.0 z.0.1.0 r y (Tokens ∷ [])) (prop (Post v))
    → Sq 𝓛 (Borrowed E Y z.0.0.0 z.0.1.0 r y (Tokens ∷ holding 𝓛 En ((22, v) ∷ [])))
    (runs C Λ En (after 8 inner) Last) = λ y v typed ends.
    sets_last ! (of_opd ! (get ! refl)) refl typed $
    exec ! C Λ En (after 2 fn.body) (at_ret En Post) $
    sets ! (of_opd ! (get ! refl)) refl typed $
    returns ! (look_at ! 0 refl) $ free_all ! refl $ ends in
    -- Stage 2. The function owns the header, the slots, the open borrow, the shared reference to
    -- the allocator, and the lifetime tokens.
    sets ! (of_opd ! (its_ptr E Y ! refl)) refl (tt, tt) $ first ! $ blocks ! $
    rewrite ! 0 (λ (u : Option A.Denot). ‵ (header (t E Y) Rt x.len (length x.slots) u b o)) from
    refl $
    rewrite ! 0 (λ (n : ℕ). ‵ (header_owns tok Rt x.len n b o)) (sym old_is) refl $
    rewrite ! 1 (λ (l : List (Option T.Denot)). ‵ (slots_own Rt l b (o + 16))) row refl $
    use1 𝓛 (exists (λ (start : ℕ). given (start + s ≡ o + 16) (‵ (Opened 𝓛 E b old pad tok x.len o
    start)))) (padded_apart 𝓛 E b old pad tok x.len o) $ pick ! (λ start. learn ! (λ place.
    fsplit ! $ move ! (1 ∷ []) $ fsplit ! $
    let qL : Share = Shares.left qT in
    let qR : Share = Shares.right qT in
    -- `left u` is the array after `resize_array` has returned `u`.
    let left = leaves E Y 1 𝓛 𝓜.mem 𝓡.returns κ κT κA κT q qL qA qR out handle_at h b start
    len current wanted items in
    let sizes : FitsGap Rt 1 len current wanted items =
    record {
      count = sym all;
      enough = omega arith;
      room = omega arith;
      new_room = omega arith;
      fits = subst (λ (n : ℕ). n * s < 2 ^ 63) (sym current_is) wide.short;
      new_fits = subst (λ (n : ℕ). n * s < 2 ^ 63) (sym wanted_is) wide'.short;
    } in
    -- `known` are the values of the parameters and of `at`, `end` and `start`, and `kept` are those
    -- that the arms need.
    let kept : List (ℕ × Val) = (1, ptr_of r) ∷ (3, vint w64 len) ∷ (4, vint w64 old)
    ∷ (5, vint w64 cap) ∷ (8, vint w64 front) ∷ (9, vptr b o) ∷ (10, vptr b end)
    ∷ (11, vptr b start) ∷ [] in
    let known : List (ℕ × Val) = (2, vptr handle_at.0 handle_at.1) ∷ (6, vint w64 current)
    ∷ (7, vint w64 wanted) ∷ kept in
    -- Stage 4 after success. The function owns the new array of `wanted` items, whose gap is one
    -- item, and the borrow of the block is open. The code writes the header into the gap, and the
    -- address of the array after the slots, and stores the address of the header in the block.
    let grown : (b' o' : ℕ) → Sq 𝓛 (‵ (left (Ok (block_ptr b' o')))
    ∷ Opens (Tokens ∷ holding 𝓛 En ((21, answer_val true b' o') ∷ kept)))
    (runs C Λ En (arm_body 0 both) Matched) = λ b' o'.
    let header' : ℕ = front + o' in
    let place' : o' + s ≡ header' + 16 = omega arith in
    let more : x.len ≤ cap = omega arith in let some : 0 < cap = omega arith in
    let few : cap < 2 ^ 63 = (fits_tells Rt cap fits_cap).few in
    let cost = add_realloc x.len x.cost in
    let y : (Br E Y).Denot = resized E Y x h cap packed more some few cost (block_ptr b' header') in
    sets ! (of_opd ! (get_in ! (vrt ! refl (fld ! refl (stop !)))
    (in_variant ! 0 0 refl refl (whole !)))) refl (tt, tt) $
    use1 𝓛 (‵ (froom (ty_int w64) b' header') ⊛ ‵ (froom (ty_int w64) b' (8 + header')) ⊛ ‵
    (froom ty_ptr b' (end_of s cap header')) ⊛ ‵ (slots_own Rt y.slots b' (header' + 16)) ⊛ ‵
    (Kept 𝓛 E b' cap pad' tok o' header' place' len j' wanted items slots_are' (sym all) wanted_is))
    (array_out 𝓛 E b' cap pad' tok o' header' place' len j' wanted items slots_are' (sym all)
    wanted_is) $
    split3 ! $ move ! (2 ∷ []) $ split3 ! $ move ! (3 ∷ 4 ∷ 0 ∷ []) $
    -- The context is now: memory for the capacity; memory for the length; memory for the address;
    -- the slots; the right to free the block, without the address; the open borrow (4 entries); the
    -- lifetime tokens.
    sets ! (of_opd ! (get ! refl)) refl (tt, tt) $
    sets ! (bin ! (get ! refl) (get ! refl) tt) refl (tt, tt) $
    sets ! (of_opd ! (get ! refl)) refl (tt, tt) $
    assigns ! (of_opd ! (get ! refl)) (through ! refl (stop !)) (init ! 0 refl (word fc)) $
    sets ! (bin ! (get ! refl) (lit ! tt) tt) refl (tt, tt) $
    assigns ! (of_opd ! (get ! refl)) (through ! refl (stop !)) (init ! 1 refl (word fl)) $
    slot_found E ! b' header' cap near_end' refl ((tt, tt), (tt, tt)) $
    sets ! (of_opd ! (get ! refl)) refl (tt, tt) $
    assigns ! (of_opd ! (get ! refl)) (through ! refl (stop !)) (init ! 2 refl (tt, tt)) $
    assigns ! (of_opd ! (get ! refl)) (through ! refl (fld ! refl (stop !)))
    (store_in ! 5 (sub ! 0 refl (whole !)) (tt, tt)) $
    move ! (2 ∷ 4 ∷ []) $ fjoin ! $
    use1 𝓛 (‵ (dealloc_right tok Rt cap b' header'))
    (padded_right_in 𝓛 E b' cap pad' tok len header' o' place') $ move ! (1 ∷ 2 ∷ 0 ∷ []) $
    header_closes E Y ! tt r y h b' header' cap len refl refl
    (new_long E Y x h cap packed more some few) (sym len_is) fits_cap $
    sets_last ! (agg ! (and_then ! (lit ! tt) (and_then ! (unit_lit !) (no_more !)))) refl
    (tt, ok_typed) $
    exec ! C Λ En (after 8 inner) Last $ forget_but ! En (22 ∷ []) refl $
    returned y ok_val (tt, ok_typed) (leaves_ok E Y ! r y 7 is₀ $
    suffices ! _ (ends_at 𝓛 En₀ hs c z ok_val (Ok tt)
    (y, (tt, (tt, (tt, (tt, (tt, (tt, (tt, tt))))))))
    (tt, (tt, (tt, (tt, (tt, (tt, (tt, (tt, tt))))))))) $
    says_all ! (_ ∷ _ ∷ [])
    (resized_view E Y x h cap packed more some few cost (block_ptr b' header'), tt) $ done !) in
    -- Stage 4 after failure. The function owns the old array of `current` items, whose gap is one
    -- item. The code writes the old header and the old address again, and the block is as it was.
    let refused : Sq 𝓛 (‵ (left (Err (record {})))
    ∷ Opens (Tokens ∷ holding 𝓛 En ((21, answer_val false 0 0) ∷ kept)))
    (runs C Λ En (arm_body 1 both) Matched) =
    sets ! (of_opd ! (get_in ! (vrt ! refl (fld ! refl (stop !)))
    (in_variant ! 1 0 refl refl (whole !)))) refl (tt, tt) $
    use1 𝓛 (‵ (froom (ty_int w64) b o) ⊛ ‵ (froom (ty_int w64) b (8 + o)) ⊛ ‵
    (froom ty_ptr b end) ⊛ ‵ (slots_own Rt (filled_slots items ++ empty_slots j) b (o + 16)) ⊛ ‵
    (Kept 𝓛 E b old pad tok start o place len j current items slots_are (sym all) current_is))
    (array_out 𝓛 E b old pad tok start o place len j current items slots_are (sym all) current_is) $
    split3 ! $ move ! (2 ∷ []) $ split3 ! $ move ! (3 ∷ 4 ∷ 0 ∷ []) $
    -- The context is now as after success, with the old address and the old capacity.
    assigns ! (of_opd ! (get ! refl)) (through ! refl (stop !)) (init ! 0 refl (word fo)) $
    sets ! (bin ! (get ! refl) (lit ! tt) tt) refl (tt, tt) $
    assigns ! (of_opd ! (get ! refl)) (through ! refl (stop !)) (init ! 1 refl (word fl)) $
    assigns ! (of_opd ! (get ! refl)) (through ! refl (stop !)) (init ! 2 refl (tt, tt)) $
    rewrite ! 3 (λ (l : List (Option T.Denot)). ‵ (slots_own Rt l b (o + 16))) (sym row) refl $
    move ! (2 ∷ 4 ∷ []) $ fjoin ! $
    use1 𝓛 (‵ (dealloc_right tok Rt old b o))
    (padded_right_in 𝓛 E b old pad tok len o start place) $ move ! (1 ∷ 2 ∷ 0 ∷ []) $
    header_closes E Y ! tt r x h b o old len at from (sym old_is) (sym len_is) fits_old $
    sets_last ! (agg ! (and_then ! (lit ! tt) (and_then ! (get ! refl) (no_more !)))) refl
    (tt, err_typed) $
    exec ! C Λ En (after 8 inner) Last $ forget_but ! En (22 ∷ []) refl $
    returned x err_val (tt, err_typed) (leaves_err E Y ! r x 7 is₀ $
    suffices ! _ (ends_at 𝓛 En₀ hs c z err_val (Err (record {}))
    (x, (tt, (tt, (tt, (tt, (tt, (tt, (tt, tt))))))))
    (tt, (tt, (tt, (tt, (tt, (tt, (tt, (tt, tt))))))))) $
    says_all ! (_ ∷ _ ∷ []) (tt, refl) $ done !) in
    -- Stage 3. The function owns an array of `current` items, whose gap is one item; the open
    -- borrow; the shared reference to the allocator; the lifetime tokens of this reference, of `T`
    -- and of `A`. The token of `T` is split, and its second part is the token of the const argument
    -- `K` of `resize_array`. Afterwards, the two parts are joined.
    let resizes_array : Sq 𝓛 (‵ (gapped_items tok Rt (block_ptr b start) 1 len current items)
    ∷ Opens (‵ (seen Y κ handle_at h) ∷ ‵ (flft κ q) ∷ ‵ (flft κT qT) ∷ ‵ (flft κA qA) ∷ ‵ ftrue
    ∷ holding 𝓛 En known))
    (runs C Λ En (after 6 inner) Last) =
    move ! (7 ∷ []) $ use1 𝓛 (‵ (flft κT qL) ⊛ ‵ (flft κT qR)) (𝓛.lfts.lft_split κT qT) $ split ! $
    move ! (2 ∷ 7 ∷ 8 ∷ 0 ∷ 9 ∷ 1 ∷ []) $
    resizes E Y 1 𝓛 𝓜.mem 𝓡.returns κ κT κA κT q qL qA qR out handle_at h b start len current wanted
    items ! (fm 𝓛 𝓜 𝓡)
    (resize_array_met.met 𝓤 𝓛 𝓜 𝓡
    (compiled.calls-thin_block::in_place::resize_array 𝓡.env wired) T A 1 LT LA
    (record { fits = lit< tt }) g d dd met md) leT leA (⊑_static κT) sizes fl fh fw
    (and_then ! (get ! refl) (and_then ! (get ! refl) (and_then ! (get ! refl)
    (and_then ! (get ! refl) (and_then ! (get ! refl) (no_more !)))))) (λ u.
    move ! (2 ∷ 4 ∷ []) $ use2 𝓛 (‵ (flft κT qT)) (𝓛.lfts.lft_join κT qT) $
    move ! (2 ∷ 0 ∷ 3 ∷ 8 ∷ []) $ group ! 4 $ move ! (1 ∷ 2 ∷ 3 ∷ 4 ∷ 5 ∷ []) $
    -- The context is now: the array by the result; the open borrow; the lifetime tokens.
    flagged ! u left
    (λ b' o' e. lands_as ! e refl (tt, (record { fits = lit< tt }, (tt, tt))) $
    first ! $ switches_on ! (get_tag ! (vrt ! refl (fld ! refl (stop !))) (whole !)) $
    exec ! C Λ En (arm_body 0 both) Matched $
    forget_but ! En (1 ∷ 3 ∷ 4 ∷ 5 ∷ 8 ∷ 9 ∷ 10 ∷ 11 ∷ 21 ∷ []) refl $ grown b' o')
    (λ e. lands_as ! e refl (tt, (record { fits = lit< tt }, (tt, tt))) $
    first ! $ switches_on ! (get_tag ! (vrt ! refl (fld ! refl (stop !))) (whole !)) $
    exec ! C Λ En (arm_body 1 both) Matched $
    forget_but ! En (1 ∷ 3 ∷ 4 ∷ 5 ∷ 8 ∷ 9 ∷ 10 ∷ 11 ∷ 21 ∷ []) refl $ refused)) in
    -- Stage 2 continued. The header and the slots are apart. The context is: the address after the
    -- slots; the right to free the block, without the address; memory for the header; the slots;
    -- the open borrow; the entries for the allocator and the tokens.
    slot_found E ! b o old near_end refl ((tt, tt), (tt, tt)) $
    sets ! (of_opd ! (get ! refl)) refl (tt, tt) $
    sets ! (of_opd ! (load ! (through ! refl (stop !)) (look ! 0 refl))) refl (tt, tt) $
    use1 𝓛 (‵ (froom ty_ptr b end)) (𝓛.laws.at_room ty_ptr b end (vptr b start)) $
    move ! (2 ∷ 0 ∷ 3 ∷ 1 ∷ []) $ group ! 4 $
    use1 𝓛 (‵ (gapped_items tok Rt (block_ptr b start) 1 len current items))
    (array_in 𝓛 E b old pad tok start o place len j current items slots_are (sym all) current_is) $
    forget_but ! En (1 ∷ 2 ∷ 3 ∷ 4 ∷ 5 ∷ 6 ∷ 7 ∷ 8 ∷ 9 ∷ 10 ∷ 11 ∷ []) refl $
    resizes_array)))))))
