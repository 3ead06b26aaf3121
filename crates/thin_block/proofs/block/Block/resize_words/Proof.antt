-- This file proves the contract of `resize_words`, which converts a block into an array of words,
-- resizes the array, and converts it back into a block.
--
-- The proof has six stages, which are lemmas within it. A stage ends with the next one, so the last
-- one comes first.
--
-- 1. The beginning takes the arguments and the facts of the contract, and enters the function.
-- 2. The end opens the block: it becomes memory for the header, items, and words without items.
-- 3. `makes_words` calls `make_words`, and the block becomes an array of words.
-- 4. `resizes_words` calls `resize_array`.
-- 5. `grown` and `refused` are the two arms of `match`. Each makes a block of the words again.
-- 6. `returned` returns the result of either arm.
use Rattle.std.proofs.Common.{false, ◌≡◌, ℕ, ◌+◌, ◌-◌, ◌*◌, ◌^◌, ◌<◌, ◌≤◌, List, [], ◌∷◌, ◌++◌}
use Rattle.std.proofs.Common.{length, true, refl, sym, ap, subst, ◌∙◌, arith, lit<, w64, Option}
use native.Mathlib.Nat.{mul_assoc}
use lib.Dec.{T as Holds}
use base.Fml.{Fml, ftrue, froom, flft}
use base.Logic.{SProp, id⊢}
use mir.MapTy.{inst_fn}
use mir.Raw.{raw as bare}
use mir.Syntax.{Ty, Body, Args, ty_int, a_type, a_number, dcons, dnil}
use mir.Val.{Val, vint, vptr, WT, has_ty}
use prog.Wp.{Env, spot_of}
use contract.BorrowLft.{◌⊑◌, ⊑_meet, ⊑_static}
use contract.Running.{tables}
use types.ByLocal.{alloc_all, pass_all, free_all, look_at, get, get_in, through, is, sets}
use types.ByLocal.{sets_last, lands_as, env, get_tag, holding, forget_but}
use types.Kit.{Post as After, Item, ‵, ◌⊛◌, at_ret, ◌$◌, !, move, keep, drop, group, use1, use2}
use types.Kit.{split, split3, rewrite, fsplit, fjoin3, suffices, done, Sq, runs, prop}
use types.Match.{vrt, in_variant}
use types.Part.{whole, sub, agg, store_in}
use types.Run.{stop, fld, lit, bin, init, unit_lit, of_opd, no_more, and_then, assigns, first}
use types.Run.{blocks, exec, returns, switches_on}
use denote.Param.{layout, param, number, bounded}
use denote.RattleType.{RattleType}
use denote.RawPtr.{Ptr, block_ptr}
use denote.Triple.Walked.{walk_of, ends_at}
use Rattle.core.specs.Allocator.{array_of}
use Rattle.core.specs.Simd.{first_chunks}
use Rattle.core.specs.declared.result.Result.TheVariants.{Ok, Err}
use Rattle.core.proofs.alloc.Calls.{answer_val, token, seen}
use Rattle.core.proofs.alloc.Resizes.{flagged}
use Rattle.core.proofs.alloc.Shapes.{after, head, inside, arm_body}
use Rattle.core.proofs.atomic.Steps.{fm}
use Rattle.core.proofs.mem.Param.{El, R}
use Rattle.std.proofs.raw_atomic.Walks.{proved_at}
use Rattle.std.specs.Align.{type_align}
use Rattle.std.specs.Int.{div_ceil}
use Rattle.std.specs.Mem.{type_size}
use Rattle.thin_block.specs.Cost.{add_realloc}
use Rattle.thin_block.specs.InPlace.{gapped_items, FitsGap}
use Rattle.thin_block.specs.Ownership.{fits_block, slots_own, header_owns, dealloc_right}
use Rattle.thin_block.specs.Ownership.{slots_wand}
use Rattle.thin_block.specs.Slots.{items_in, filled_slots, empty_slots}
use Rattle.thin_block.specs.Words.{chunks_at}
use Rattle.thin_block.specs.contracts.block.Block.resize_words.{ended, clauses}
use Rattle.thin_block.specs.contracts.block.Block.resize_words.Key.{name as #self}
use Rattle.thin_block.proofs.Addresses.{its_ptr}
use Rattle.thin_block.proofs.HeaderMemory.{Br, header, t}
use Rattle.thin_block.proofs.MethodSignatures.{item, source, ok_val, err_val, ok_typed, err_typed}
use Rattle.thin_block.proofs.MethodSignatures.{leaves_ok, leaves_err, others, block_stays, goes}
use Rattle.thin_block.proofs.MethodSignatures.{starts, enters, heard_each, still, word, ptr_of}
use Rattle.thin_block.proofs.MethodSignatures.{opens_self, header_closes, Borrowed, Open}
use Rattle.thin_block.proofs.SlotMemory.{sz, reach}
use Rattle.thin_block.proofs.SlotsLemmas.{packed-le, packed-parted}
use Rattle.thin_block.proofs.WalkPrelude.{then_runs, out_of_block, says_all}
use Rattle.thin_block.proofs.WordConversionLemmas.{Kept, header_apart, right_in, words_apart}
use Rattle.thin_block.proofs.block.Block.resize_words.Code as compiled
use Rattle.thin_block.proofs.block.Block.resize_words.Statement.{statement}
use Rattle.thin_block.proofs.in_place.ResizedBlock.{new_long, resized, resized_view}
use Rattle.thin_block.proofs.in_place.ResizedCall.{leaves, resizes}
use Rattle.thin_block.proofs.in_place.resize_array.Met as resize_array_met
use Rattle.thin_block.proofs.sizes.SizesLemmas.{fits_tells}
use Rattle.thin_block.proofs.words.MadeCall.{makes}
use Rattle.thin_block.proofs.words.WordsLemmas.{InWords, words_short, words_told}
use Rattle.thin_block.proofs.words.WordsMemory.{word_el, array_el, words_made, words_long}
use Rattle.thin_block.proofs.words.WordsMemory.{chunks_long, words_in, words_joined}
use Rattle.thin_block.proofs.words.make_words.Met as make_met

pub resize_words_spec : {M : Type 1} → statement M
resize_words_spec 𝓤 𝓛 𝓜 𝓡 wired T A m k LT LA fits_m fits_k g d dd met md =
    let H = 𝓛.H in
    let E = item LT in let W : El = word_el T LT m in let X : El = array_el T LT m in
    let Y = source LA g d dd in
    let Mr : RattleType = number m in
    let Kr : RattleType = number k in
    let args_MK : Args = bounded (a_type ∷ a_type ∷ a_number ∷ a_number ∷ [])
    (T, (A, (Mr, (Kr, tt)))) (dcons d (dcons dd dnil)) in
    let En₀ = ended T A Mr Kr g d dd in let ss = others En₀.signature.params in
    let c = clauses T A Mr Kr g d dd 𝓛 𝓜.mem 𝓡.returns in
    let hs = block_stays E Y ss En₀.kept.1 in let fn = inst_fn args_MK compiled.function in
    let 𝓣 = tables 𝓤 H 𝓜 𝓡 𝓡.env in let C = 𝓣.C in let Λ = 𝓣.Λ in
    let q = still 𝓛 6 in
    proved_at 𝓛 En₀ hs c 𝓜 𝓡
    (goes E Y ss 𝓛 En₀.kept.1 ((λ κs x f. refl), (q, (q, (q, (q, (q, (q, tt))))))))
    (#self args_MK) fn (compiled.unfolded 𝓤 H 𝓜 𝓡 wired (T, (A, (Mr, (Kr, tt)))) d dd) (λ z are.
    let Post : Val → SProp 𝓤 = (walk_of 𝓛 En₀ hs c).post z in
    let Rt : RattleType = R E in let Rw : RattleType = R W in let s : ℕ = sz W in
    let (_, (κ, (κT, (κA, (κM, (κK, _)))))) = z.0.0 in
    let (_, (q, (qT, (qA, (qM, (qK, _)))))) = z.0.1 in
    let (_, (_, (out, _))) = z.0.2 in
    let (r, (a, (len, (old, (cap, (count, (current, (wanted, _)))))))) = z.0.3 in
    let ((is₀, _), ((is₁, _), ((is₂, fl), ((is₃, fo), are')))) = are in
    let ((is₄, fc), ((is₅, fn_), ((is₆, fh), ((is₇, fw), _)))) = are' in
    let x = r.now in let h = a.now in let handle_at = a.ref_ptr in
    let Tokens : Item 𝓤 = ‵ (flft κ q) ⊛ ‵ (flft κT qT) ⊛ ‵ (flft κA qA) ⊛ ‵ (flft κM qM) ⊛ ‵
    (flft κK qK) ⊛ ‵ ftrue in
    starts E Y 𝓛 ss z.0 ((c z.0.0 z.0.3).requires z.1) (move ! (5 ∷ []) $
    heard_each ! (_ ∷ _ ∷ _ ∷ _ ∷ _ ∷ _ ∷ _ ∷ _ ∷ _ ∷ _ ∷ _ ∷ _ ∷ _ ∷ _ ∷ _ ∷ [])
    (λ leT leA leM leK from in_words packed len_is old_is enough small count_is current_is wanted_is
    room.
    let leL : κT ⊑ T.lives ++ [] = ⊑_meet κT T.lives [] leT (⊑_static κT) in
    let leW : κT ⊑ W.row.lives = ⊑_meet κT (T.lives ++ []) (T.lives ++ []) leL leL in
    -- One word is as large as `m` items, and `k` words take 16 bytes, as the header does.
    let hd : InWords (type_size Rt) (type_align Rt) m k = words_told Rt m k in_words in
    let sixteen : k * s ≡ 16 = ap (λ (n : ℕ). k * n) hd.size ∙ hd.room in
    let items : List T.Denot = items_in x.slots in
    let all : len ≡ length items = len_is ∙ packed.len in
    let whole_words : length items ≡ count * m = sym (count_is ∙ all) in
    let le : x.len ≤ length x.slots = packed-le x.slots x.len packed in
    let within : len ≤ old = omega arith in
    let any : 0 < len = (let least = hd.counts.least count in let some = hd.any in omega arith) in
    let j : ℕ = length x.slots - x.len in
    let j' : ℕ = cap - x.len in
    let w : ℕ = div_ceil old m in
    let v : ℕ = current - (k + count) in
    let count_fits : count ≤ w = hd.counts.holds count old (omega arith) in
    let count_fits' : count ≤ div_ceil cap m = hd.counts.holds count cap (omega arith) in
    let fill : w ≡ v + count = omega arith in
    let slots_are : old ≡ length items + j = omega arith in
    let slots_are' : cap ≡ length items + j' = omega arith in
    let row : x.slots ≡ filled_slots items ++ empty_slots j = packed-parted x.slots x.len packed in
    -- The items form `count` words, `ws`, and `xss` lists the items of each.
    let xss : List (List T.Denot) = first_chunks m count items in
    let ws : List W.row.Denot = words_made T m count items in
    move ! (4 ∷ []) $ fsplit ! $ fsplit ! $ drop ! $ keep ! (5 ∷ 2 ∷ 3 ∷ 4 ∷ 0 ∷ []) $
    use1 𝓛 Tokens (id⊢ 𝓤 _) $ split3 ! $ move ! (2 ∷ []) $ split3 ! $ move ! (2 ∷ []) $ split ! $
    move ! (6 ∷ 7 ∷ 8 ∷ 9 ∷ 4 ∷ 5 ∷ 2 ∷ 3 ∷ 0 ∷ []) $
    -- The context is now: the borrow of the block (3 entries); the shared reference to the
    -- allocator; the lifetime tokens of this reference, of `T`, `A`, `M` and `K`; the other tokens.
    enters ! fn (ptr_of r ∷ vptr handle_at.0 handle_at.1 ∷ vint w64 len ∷ vint w64 old ∷ vint w64
    cap ∷ vint w64 count ∷ vint w64 current ∷ vint w64 wanted ∷ [])
    (λ i. is₀ i
    ++ (is₁ i ++ (is₂ i ++ (is₃ i ++ (is₄ i ++ (is₅ i ++ (is₆ i ++ (is₇ i ++ [])))))))) $
    let w₂ = word fl in let w₃ = word fo in let w₄ = word fc in let w₅ = word fn_ in
    let w₆ = word fh in let w₇ = word fw in
    alloc_all ! (λ l. pass_all ! refl
    ((tt, tt), ((tt, tt), (w₂, (w₃, (w₄, (w₅, (w₆, (w₇, tt)))))))) $
    let En : Env 𝓤 H = env fn.locals l in
    opens_self E Y ! tt r (λ b o at fits.
    let same_bytes : count * (m * type_size Rt) ≡ len * type_size Rt =
    sym (mul_assoc count m (type_size Rt)) ∙ ap (λ (n : ℕ). n * type_size Rt) count_is in
    let near : len * type_size Rt < 2 ^ 63 = reach Rt len (length x.slots) fits (omega arith) in
    let short : count * (m * type_size Rt) < 2 ^ 64 = omega arith in
    let fits_cap : fits_block Rt cap ≡ true = small in
    let told_cap = fits_tells Rt cap fits_cap in
    let tok : Ty → Ptr → Fml = token Y h in
    let fits_old : fits_block Rt old ≡ true =
    subst (λ (n : ℕ). fits_block Rt n ≡ true) (sym old_is) fits in
    let told_old = fits_tells Rt old fits_old in
    let sizes : FitsGap (R X) k count current wanted ws =
    record {
      count = words_long T m count items;
      enough = room;
      room = omega arith;
      new_room = omega arith;
      fits = words_short old current hd current_is told_old.short;
      new_fits = words_short cap wanted hd wanted_is told_cap.short;
    } in
    -- `inner` is the block of the body. Its statement 2 calls `make_words`, statement 4 calls
    -- `resize_array`, and statement 5, `both`, is the `match`. `Last` must hold after the block,
    -- and `Matched` after the `match`.
    let inner : Body = inside (head (after 1 fn.body)) in
    let both : Body = head (after 5 inner) in
    let Last : After 𝓤 H = out_of_block 𝓛
    (then_runs 𝓛 C Λ En (after 2 fn.body) (at_ret En Post)) in
    let Matched : After 𝓤 H = then_runs 𝓛 C Λ En (after 6 inner) Last in
    -- `Opened Γ` is a proof context that begins with the open borrow (4 entries). `left u` is the
    -- array of words after `resize_array` has returned `u`.
    let coded = (Br E Y).coded.code x in
    let Opened : List (Item 𝓤) → List (Item 𝓤) =
    λ Γ. Open E Y z.0.0.0 z.0.1.0 r b o coded coded Γ in
    let left = leaves X Y k 𝓛 𝓜.mem 𝓡.returns κ κT κA κK q qT qA qK out handle_at h b o count
    current wanted ws in
    -- `known` are the values of the parameters and of `at`, and `kept` are those that the arms
    -- need.
    let kept : List (ℕ × Val) = (1, ptr_of r) ∷ (3, vint w64 len) ∷ (4, vint w64 old)
    ∷ (5, vint w64 cap) ∷ (9, vptr b o) ∷ [] in
    let known : List (ℕ × Val) = (2, vptr handle_at.0 handle_at.1) ∷ (6, vint w64 count)
    ∷ (7, vint w64 current) ∷ (8, vint w64 wanted) ∷ kept in
    -- Stage 6. The borrow is closed around the block `y`, and the result `v` of the `match` is in
    -- the local variable 19.
    let returned : (y : (Br E Y).Denot) (v : Val) → Holds (has_ty (spot_of 𝓤 H En 0).0 v) × WT v
    → Sq 𝓛 (Borrowed E Y z.0.0.0 z.0.1.0 r y (Tokens ∷ [])) (prop (Post v))
    → Sq 𝓛 (Borrowed E Y z.0.0.0 z.0.1.0 r y (Tokens ∷ holding 𝓛 En ((19, v) ∷ [])))
    (runs C Λ En (after 6 inner) Last) = λ y v typed ends.
    sets_last ! (of_opd ! (get ! refl)) refl typed $
    exec ! C Λ En (after 2 fn.body) (at_ret En Post) $
    sets ! (of_opd ! (get ! refl)) refl typed $
    returns ! (look_at ! 0 refl) $ free_all ! refl $ ends in
    -- Stage 5 after success. The function owns the new array of `wanted` words, and the borrow of
    -- the block is open. The code writes the header, and stores the new address in the block.
    let grown : (b' o' : ℕ) → Sq 𝓛 (‵ (left (Ok (block_ptr b' o')))
    ∷ Opened (Tokens ∷ holding 𝓛 En ((18, answer_val true b' o') ∷ kept)))
    (runs C Λ En (arm_body 0 both) Matched) = λ b' o'.
    let more : x.len ≤ cap = omega arith in let some : 0 < cap = omega arith in
    let few : cap < 2 ^ 63 = told_cap.few in
    let cost = add_realloc x.len x.cost in
    let y : (Br E Y).Denot = resized E Y x h cap packed more some few cost (block_ptr b' o') in
    sets ! (of_opd ! (get_in ! (vrt ! refl (fld ! refl (stop !)))
    (in_variant ! 0 0 refl refl (whole !)))) refl (tt, tt) $
    use1 𝓛 (‵ (froom (ty_int w64) b' o') ⊛ ‵ (froom (ty_int w64) b' (8 + o')) ⊛ ‵
    (Kept 𝓛 T LT b' m k in_words o' tok len cap wanted wanted_is) ⊛ ‵
    (slots_own Rt y.slots b' (o' + 16)))
    (words_apart 𝓛 T LT b' m k in_words o' tok len cap wanted wanted_is items count j' whole_words
    slots_are' sizes.new_room) $ split3 ! $ move ! (2 ∷ []) $ split ! $
    use1 𝓛 (‵ (dealloc_right tok Rt cap b' o'))
    (right_in 𝓛 T LT b' m k in_words o' tok len cap wanted wanted_is) $ move ! (2 ∷ 3 ∷ []) $
    -- The context is now: memory for the capacity; memory for the length; the right to free the
    -- block; the slots; the open borrow (4 entries); the lifetime tokens.
    sets ! (of_opd ! (get ! refl)) refl (tt, tt) $
    assigns ! (of_opd ! (get ! refl)) (through ! refl (stop !)) (init ! 0 refl (word fc)) $
    sets ! (bin ! (get ! refl) (lit ! tt) tt) refl (tt, tt) $
    assigns ! (of_opd ! (get ! refl)) (through ! refl (stop !)) (init ! 1 refl (word fl)) $
    assigns ! (of_opd ! (get ! refl)) (through ! refl (fld ! refl (stop !)))
    (store_in ! 4 (sub ! 0 refl (whole !)) (tt, tt)) $
    header_closes E Y ! tt r y h b' o' cap len refl refl
    (new_long E Y x h cap packed more some few) (sym len_is) fits_cap $
    sets_last ! (agg ! (and_then ! (lit ! tt) (and_then ! (unit_lit !) (no_more !)))) refl
    (tt, ok_typed) $
    exec ! C Λ En (after 6 inner) Last $ forget_but ! En (19 ∷ []) refl $
    returned y ok_val (tt, ok_typed) (leaves_ok E Y ! r y 7 is₀ $
    suffices ! _ (ends_at 𝓛 En₀ hs c z ok_val (Ok tt)
    (y, (tt, (tt, (tt, (tt, (tt, (tt, (tt, tt))))))))
    (tt, (tt, (tt, (tt, (tt, (tt, (tt, (tt, tt))))))))) $
    says_all ! (_ ∷ _ ∷ [])
    (resized_view E Y x h cap packed more some few cost (block_ptr b' o'), tt) $ done !) in
    -- Stage 5 after failure. The function owns the old array of `current` words, with all items.
    -- The code writes the old header again, and the block is as it was.
    let refused : Sq 𝓛 (‵ (left (Err (record {})))
    ∷ Opened (Tokens ∷ holding 𝓛 En ((18, answer_val false 0 0) ∷ kept)))
    (runs C Λ En (arm_body 1 both) Matched) =
    sets ! (of_opd ! (get_in ! (vrt ! refl (fld ! refl (stop !)))
    (in_variant ! 1 0 refl refl (whole !)))) refl (tt, tt) $
    use1 𝓛 (‵ (froom (ty_int w64) b o) ⊛ ‵ (froom (ty_int w64) b (8 + o)) ⊛ ‵
    (Kept 𝓛 T LT b m k in_words o tok len old current current_is) ⊛ ‵
    (slots_own Rt (filled_slots items ++ empty_slots j) b (o + 16)))
    (words_apart 𝓛 T LT b m k in_words o tok len old current current_is items count j whole_words
    slots_are sizes.room) $ split3 ! $ move ! (2 ∷ []) $ split ! $
    use1 𝓛 (‵ (dealloc_right tok Rt old b o))
    (right_in 𝓛 T LT b m k in_words o tok len old current current_is) $ move ! (2 ∷ 3 ∷ []) $
    -- The context is now as after success, with the old address and the old capacity.
    assigns ! (of_opd ! (get ! refl)) (through ! refl (stop !)) (init ! 0 refl (word fo)) $
    sets ! (bin ! (get ! refl) (lit ! tt) tt) refl (tt, tt) $
    assigns ! (of_opd ! (get ! refl)) (through ! refl (stop !)) (init ! 1 refl (word fl)) $
    rewrite ! 3 (λ (l : List (Option T.Denot)). ‵ (slots_own Rt l b (o + 16))) (sym row) refl $
    header_closes E Y ! tt r x h b o old len at from (sym old_is) (sym len_is) fits_old $
    sets_last ! (agg ! (and_then ! (lit ! tt) (and_then ! (get ! refl) (no_more !)))) refl
    (tt, err_typed) $
    exec ! C Λ En (after 6 inner) Last $ forget_but ! En (19 ∷ []) refl $
    returned x err_val (tt, err_typed) (leaves_err E Y ! r x 7 is₀ $
    suffices ! _ (ends_at 𝓛 En₀ hs c z err_val (Err (record {}))
    (x, (tt, (tt, (tt, (tt, (tt, (tt, (tt, tt))))))))
    (tt, (tt, (tt, (tt, (tt, (tt, (tt, (tt, tt))))))))) $
    says_all ! (_ ∷ _ ∷ []) (tt, refl) $ done !) in
    -- Stage 4. The function owns an array of `current` words, with memory for the header before the
    -- words, the shared reference to the allocator, and the lifetime tokens of this reference and
    -- of `T`, `A`, `K` and `M`. It calls `resize_array`, stores the result, and chooses the arm.
    let resizes_words : Sq 𝓛 (‵ (gapped_items tok (R X) (block_ptr b o) k count current ws)
    ∷ ‵ (seen Y κ handle_at h) ∷ ‵ (flft κ q) ∷ ‵ (flft κT qT) ∷ ‵ (flft κA qA) ∷ ‵ (flft κK qK)
    ∷ ‵ (flft κM qM) ∷ ‵ ftrue ∷ Opened (holding 𝓛 En known))
    (runs C Λ En (after 3 inner) Last) =
    sets ! (of_opd ! (get ! refl)) refl (tt, tt) $
    resizes X Y k 𝓛 𝓜.mem 𝓡.returns κ κT κA κK q qT qA qK out handle_at h b o count current wanted ws
    ! (fm 𝓛 𝓜 𝓡)
    (resize_array_met.met 𝓤 𝓛 𝓜 𝓡
    (compiled.calls-thin_block::in_place::resize_array 𝓡.env wired) X.row A k X.laws
    LA fits_k g d dd met md) leW leA leK sizes fn_ fh fw
    (and_then ! (get ! refl) (and_then ! (get ! refl) (and_then ! (get ! refl)
    (and_then ! (get ! refl) (and_then ! (get ! refl) (no_more !)))))) (λ u.
    move ! (1 ∷ 2 ∷ 3 ∷ 5 ∷ 4 ∷ 6 ∷ []) $ group ! 6 $ move ! (1 ∷ 2 ∷ 3 ∷ 4 ∷ 5 ∷ []) $
    -- The context is now: the array of words by the result; the open borrow; the lifetime tokens.
    flagged ! u left
    (λ b' o' e. lands_as ! e refl (tt, (record { fits = lit< tt }, (tt, tt))) $
    first ! $ switches_on ! (get_tag ! (vrt ! refl (fld ! refl (stop !))) (whole !)) $
    exec ! C Λ En (arm_body 0 both) Matched $
    forget_but ! En (1 ∷ 3 ∷ 4 ∷ 5 ∷ 9 ∷ 18 ∷ []) refl $ grown b' o')
    (λ e. lands_as ! e refl (tt, (record { fits = lit< tt }, (tt, tt))) $
    first ! $ switches_on ! (get_tag ! (vrt ! refl (fld ! refl (stop !))) (whole !)) $
    exec ! C Λ En (arm_body 1 both) Matched $
    forget_but ! En (1 ∷ 3 ∷ 4 ∷ 5 ∷ 9 ∷ 18 ∷ []) refl $ refused)) in
    -- Stage 3. The function owns the items, in `count` arrays of `m` items; the empty slots as
    -- words; memory for the header; the right to free the block as `current` words; the open
    -- borrow; the shared reference to the allocator; the lifetime tokens of this reference and of
    -- `T`, `A`, `M` and `K`. `make_words` makes a word of each array of items.
    let makes_words : Sq 𝓛 (‵ (chunks_at Rt (param 1 Mr) xss b (o + 16))
    ∷ ‵ (slots_own Rw (empty_slots v) b (count * s + (o + 16))) ∷ ‵ (froom (array_of Rw k) b o)
    ∷ ‵ (tok (array_of Rw current) (block_ptr b o))
    ∷ Opened (‵ (seen Y κ handle_at h) ∷ ‵ (flft κ q) ∷ ‵ (flft κT qT) ∷ ‵ (flft κA qA)
    ∷ ‵ (flft κM qM) ∷ ‵ (flft κK qK) ∷ ‵ ftrue ∷ holding 𝓛 En known))
    (runs C Λ En inner Last) =
    sets ! (is ! (bin ! (get ! refl) (lit ! tt) tt)
    (ap (vptr b) (let plus : 16 + o ≡ o + 16 = omega arith in plus))) refl (tt, tt) $
    sets ! (of_opd ! (get ! refl)) refl (tt, tt) $
    move ! (0 ∷ 10 ∷ 12 ∷ []) $
    -- The context begins with what the call to `make_words` needs: the items, and the lifetime
    -- tokens of `T` and `M`.
    makes T LT m 𝓛 𝓜.mem 𝓡.returns κT κM qT qM b (o + 16) count xss ! (fm 𝓛 𝓜 𝓡)
    (make_met.met 𝓤 𝓛 𝓜 𝓡 (compiled.calls-thin_block::words::make_words 𝓡.env wired) T m LT fits_m)
    leT leM (chunks_long m count items) hd.size short fn_
    (and_then ! (get ! refl) (and_then ! (get ! refl) (no_more !))) $
    lands_as ! refl refl (tt, tt) $ move ! (0 ∷ 3 ∷ []) $
    -- The context begins with the words and the empty words, which form one sequence behind the
    -- memory for the header.
    use2 𝓛 (‵ (slots_own Rw (filled_slots ws ++ empty_slots v) b (o + 16)))
    (words_joined 𝓛 T LT m k b hd items count j v w old (o + 16) whole_words slots_are fill
    (hd.counts.covers old)) $
    rewrite ! 0 (λ (n : ℕ). ‵ (slots_own Rw (filled_slots ws ++ empty_slots v) b (o + n)))
    (sym sixteen) refl $
    move ! (1 ∷ 2 ∷ []) $ move ! (3 ∷ 2 ∷ 4 ∷ 9 ∷ 10 ∷ 0 ∷ 11 ∷ 12 ∷ 1 ∷ 13 ∷ []) $ fjoin3 ! $
    forget_but ! En (1 ∷ 2 ∷ 3 ∷ 4 ∷ 5 ∷ 6 ∷ 7 ∷ 8 ∷ 9 ∷ []) refl $ resizes_words in
    -- Stage 2. The function owns the header, the slots, the open borrow, the shared reference to
    -- the allocator, and the lifetime tokens.
    sets ! (of_opd ! (its_ptr E Y ! refl)) refl (tt, tt) $ first ! $ blocks ! $
    rewrite ! 0 (λ (u : Option A.Denot). ‵ (header (t E Y) Rt x.len (length x.slots) u b o)) from
    refl $
    rewrite ! 0 (λ (n : ℕ). ‵ (header_owns tok Rt x.len n b o)) (sym old_is) refl $
    use1 𝓛 (‵ (froom (array_of Rw k) b o) ⊛ ‵ (slots_wand (bare (layout T)) m w old b (o + 16)) ⊛ ‵
    (tok (array_of Rw current) (block_ptr b o)))
    (header_apart 𝓛 T LT b m k in_words o tok x.len old current current_is) $ split3 ! $
    move ! (3 ∷ 1 ∷ []) $
    rewrite ! 0 (λ (l : List (Option T.Denot)). ‵ (slots_own Rt l b (o + 16))) row refl $
    use2 𝓛 (‵ (chunks_at Rt (param 1 Mr) xss b (o + 16)) ⊛ ‵
    (slots_own Rw (empty_slots v) b (count * s + (o + 16))))
    (words_in 𝓛 T LT m k b hd items count j v w old (o + 16) whole_words slots_are fill
    (hd.counts.covers old)) $ split ! $ makes_words)))))
