-- This file proves the contract of `copy_in`, which copies items into adjacent empty slots of a
-- block.
use Rattle.std.proofs.Common.{◌≡◌, ℕ, Some, false, ◌+◌, ◌*◌, ◌^◌, ◌<◌, List, ◌∷◌, [], ◌++◌, length}
use Rattle.std.proofs.Common.{refl, sym, subst, ◌∙◌, arith, w64, replicate, Option}
use lib.ListN.{length-map, length-replicate}
use base.Fml.{froom, flft}
use base.Fraction.{full_share}
use mir.MapTy.{inst_fn}
use mir.Syntax.{Fn, Args, ty_array, a_type, dcons, dnil, named}
use mir.Val.{Val, WT, vint, vunit}
use types.ByLocal.{alloc_all, pass_all, free_all, look_at, sets, lands_as, lands_last, get, get_in}
use types.Kit.{‵, raw, ◌⊛◌, some as exists, given, later, learn, pick, await, ◌$◌, !, move, keep}
use types.Kit.{drop, use1, use2, use3, split, split3, join, fsplit, fsplit3, rewrite, suffices}
use types.Kit.{done}
use types.Part.{whole, sub}
use types.Run.{stop, fld, unit_lit, of_opd, no_more, and_then, first, blocks, returns}
use denote.Array.{Array}
use denote.Memory.{part_at}
use denote.Param.{layout, param, bounded, copied}
use denote.RattleType.{RattleType}
use denote.RawPtr.{block_ptr}
use denote.Signature.{plain}
use denote.Slice.{slice_val, ShrSlice}
use denote.Triple.Call.{calls_at, calls_at_last}
use denote.Triple.Walked.{Stays, stay_ref, walk_of, Goes-ref, ends_at}
use Rattle.core.specs.Mem.Slots.{slots_items, slots_filled, slots_ptr, slots_len, slots_counts}
use Rattle.core.specs.Mem.Slots.{slots_small}
use Rattle.core.specs.Mem.Slots.Ownership.{Filled}
use Rattle.core.proofs.atomic.Steps.{fm as framed}
use Rattle.core.proofs.mem.Param.{R}
use Rattle.core.proofs.slots.Opens.{row_val}
use Rattle.core.proofs.slots.Runs.{of_space, to_values}
use Rattle.core.proofs.slots.Slots.from_raw_parts.Met as from_met
use Rattle.core.proofs.slots.Slots.into_raw_parts.Met as into_met
use Rattle.std.proofs.raw_atomic.Walks.{proved_at}
use Rattle.std_alloc.proofs.VecSteps.El as vecs
use Rattle.std_alloc.proofs.vec.Blocks.{all}
use Rattle.std_alloc.proofs.vec.Spares.{Row, parts_typed, From, at_from, Made, from_goes}
use Rattle.std_alloc.proofs.vec.Spares.{from_gives, Into, at_into, Into-goes, Into-gives}
use Rattle.thin_block.specs.Cost.{add_moves}
use Rattle.thin_block.specs.Lends.{with_slots}
use Rattle.thin_block.specs.Ownership.{slots_own}
use Rattle.thin_block.specs.Slots.{filled_slots, empty_slots, write_slots}
use Rattle.thin_block.specs.contracts.block.Block as block
use Rattle.thin_block.specs.contracts.block.Block.copy_in.{ended, clauses}
use Rattle.thin_block.specs.contracts.block.Block.copy_in.Key.{name as #self}
use Rattle.thin_block.proofs.Addresses.{near, its_ptr, slot_found}
use Rattle.thin_block.proofs.HeaderMemory.{Br}
use Rattle.thin_block.proofs.MethodSignatures.{item, source, others, dropped, all_go, arrives}
use Rattle.thin_block.proofs.MethodSignatures.{heard_each, token_out, enters, closes_over}
use Rattle.thin_block.proofs.MethodSignatures.{leaves_unit, ptr_of, opens_self, continues, word}
use Rattle.thin_block.proofs.SlotMemory.{sz, around, run_out, run_in, of_items, to_room}
use Rattle.thin_block.proofs.SlotsLemmas.{empty-run, length-written}
use Rattle.thin_block.proofs.WalkPrelude.{slot_at, says_all}
use Rattle.thin_block.proofs.block.Block.copy_in.Code as compiled
use Rattle.thin_block.proofs.block.Block.copy_in.Statement.{statement}
use Rattle.thin_block.proofs.slots.CopyCall.{Copied, at_copied, IsCopy, Copied-goes, Copied-gives}
use Rattle.thin_block.proofs.slots.fill_from.Met as fill_from_met

pub copy_in_spec : {M : Type 1} → statement M
copy_in_spec 𝓤 𝓛 𝓜 𝓡 wired T A LT LA copies gc dc g d dd metc met md =
    let E = item LT in let Y = source LA g d dd in let En₀ = ended T A gc dc g d dd in
    let V : vecs.El = record { row = T; laws = LT; al = Y } in
    let B : RattleType = block.the_row (copied 0 T) (param 1 A) g in
    let args : Args = bounded (a_type ∷ a_type ∷ []) (T, (A, tt))
    (dcons dc (dcons d (dcons dd dnil))) in
    let c = clauses T A gc dc g d dd 𝓛 𝓜.mem 𝓡.returns in let ps = En₀.signature.params in
    let hs : Stays ps En₀.kept =
    (stay_ref (0 ∷ []) tt (plain (λ _. B)), dropped (others ps) En₀.kept.1) in
    let fn : Fn = inst_fn args compiled.function in
    proved_at 𝓛 En₀ hs c 𝓜 𝓡 (
      Goes-ref 𝓛 4 0 tt (plain (λ _. B)),
      all_go 𝓛 (others ps) En₀.kept.1 ((λ κs x f. refl), ((λ κs x f. refl), tt)),
    )
    (#self args) fn (compiled.unfolded 𝓤 𝓛.H 𝓜 𝓡 wired (T, (A, tt)) dc d dd) (λ z are.
    let (self, (i, (items, _))) = z.0.3 in let x = self.now in
    let ((is₀, _), ((is₁, fi), (((is₂, roomy), _), _))) = are in
    let (_, κs) = z.0.0 in let (κ₁, κs₁) = κs in let (κ₂, _) = κs₁ in
    let (_, qs) = z.0.1 in let (q₁, qs₁) = qs in let (q₂, _) = qs₁ in
    let (_, (_, (out, _))) = z.0.2 in
    let xs : List T.Denot = items.now in
    let n : ℕ = length xs in
    arrives (slot_at 0 ps) (others ps) 𝓛 z.0 ((c z.0.0 z.0.3).requires z.1) (
    move ! (4 ∷ []) $ heard_each ! (_ ∷ _ ∷ _ ∷ _ ∷ []) (λ lives _ within bare.
    let fk : n < 2 ^ 64 = roomy.0 in
    fsplit3 ! $ drop ! $ move ! (4 ∷ []) $ fsplit ! $ drop ! $ fsplit ! $
    keep ! (2 ∷ 3 ∷ 4 ∷ 5 ∷ 0 ∷ []) $
    rewrite ! 4 (λ (us : List Val). ‵ ((ShrSlice (named 1) κ₁ (copied 0 T)).own_val items us))
    is₂ refl $
    enters ! fn
    (ptr_of self ∷ vint w64 i ∷ slice_val items.ref_ptr n ∷ [])
    (λ k. is₀ k ++ (is₁ k ++ (is₂ k ++ []))) $
    alloc_all ! (λ l. pass_all ! refl
    ((tt, tt), (word fi, ((tt, (tt, (record { fits = fk }, tt))), tt))) $
    opens_self E Y ! tt self (λ b o at fits. let fm = near E x.slots i fits (omega arith) in
    sets ! (of_opd ! (its_ptr E Y ! refl)) refl (tt, tt) $ first ! $ blocks ! $
    slot_found E ! b o i fm refl ((tt, tt), (tt, tt)) $
    let here : ℕ = i * (sz E) + (o + 16) in
    sets ! (of_opd ! (get_in ! (fld ! refl (stop !)) (sub ! 1 refl (whole !)))) refl
    (tt, record { fits = fk }) $
    move ! (1 ∷ []) $ use1 𝓛
    (‵ (slots_own (R E) (empty_slots n) b here) ⊛ ‵ (around E 𝓛 b (o + 16) x.slots i n))
    (run_out E 𝓛 b (o + 16) x.slots i n within (empty_slots n)
    (empty-run x.slots i n within bare)) $
    split ! $
    use1 𝓛 (‵ (froom (ty_array (layout T) n) b here)) (to_room E 𝓛 b n here) $
    use1 𝓛 (‵ (all V b here xs (replicate n false))) (of_space E 𝓛 b here n xs refl) $
    move ! (7 ∷ []) $ token_out ! 2 κs qs $ move ! (1 ∷ []) $
    token_out ! 1 κs₁ qs₁ $ move ! (3 ∷ 0 ∷ 2 ∷ 1 ∷ []) $
    -- The context is now: the empty slots for the copies; the lifetime tokens of `T`, of `items`
    -- and of `A`; the other slots; the header; the open borrow (4 entries); the slice `items`.
    let y₁ = at_from V 𝓛 𝓜.mem 𝓡.returns κ₂ q₂ b here n xs (replicate n false) in
    use2 𝓛 (raw ((From V 𝓛 𝓜.mem 𝓡.returns).pre y₁))
    (from_goes V 𝓛 𝓜.mem 𝓡.returns κ₂ q₂ b here n xs (replicate n false) lives refl
    (sym (length-replicate n false)) fk roomy.1) $
    calls_at ! (framed 𝓛 𝓜 𝓡) (From V 𝓛 𝓜.mem 𝓡.returns)
    (from_met.met 𝓤 𝓛 𝓜 𝓡 (compiled.calls-core::slots::Slots::from_raw_parts 𝓡.env wired) T LT)
    y₁ (and_then ! (get ! refl) (and_then ! (get ! refl) (no_more !))) (λ v₁.
    use1 𝓛 (later (exists
    (λ (r : (Row V).Denot). given
    ((v₁ ≡ row_val b here n) × Made V 𝓛 𝓜.mem 𝓡.returns κ₂ q₂ b here n xs (replicate n false) r)
    (‵ ((Row V).own_val r (row_val b here n ∷ [])) ⊛ ‵ (flft κ₂ q₂)))))
    (from_gives V 𝓛 𝓜.mem 𝓡.returns κ₂ q₂ b here n xs (replicate n false) v₁) $ await ! tt $
    pick ! (λ r. learn ! (λ made. split ! $
    let words : WT (row_val b here n) = (tt, (record { fits = fk }, tt)) in
    lands_as ! made.0 refl (tt, words) $
    sets ! (of_opd ! (get ! refl)) refl (tt, words) $
    -- `from_raw_parts` has converted the empty slots for the copies into a `core::slots::Slots`.
    move ! (2 ∷ 1 ∷ []) $ join ! $ move ! (1 ∷ 9 ∷ 0 ∷ []) $
    let Cp = Copied V gc dc 𝓛 𝓜.mem 𝓡.returns in
    let y₂ : Cp.Ghost = at_copied V gc dc 𝓛 𝓜.mem 𝓡.returns κ₁ κ₂ q₁ q₂
    out r b here n items in
    use3 𝓛 (raw (Cp.pre y₂))
    (Copied-goes V gc dc 𝓛 𝓜.mem 𝓡.returns κ₁ κ₂ q₁ q₂ out r b here n
    items lives made.1.1) $
    calls_at ! (framed 𝓛 𝓜 𝓡) Cp
    (fill_from_met.met 𝓤 𝓛 𝓜 𝓡 (compiled.calls-thin_block::slots::fill_from 𝓡.env wired)
    T LT copies gc dc metc) y₂ (and_then ! (get ! refl) (and_then ! (get ! refl) (no_more !)))
    (λ v₂.
    use1 𝓛 (later (exists
    (λ (f : (Row V).Denot). given
    ((v₂ ≡ row_val b here (slots_len f)) × (slots_ptr f ≡ block_ptr b here)
    × IsCopy V gc dc 𝓛 𝓜.mem 𝓡.returns κ₁ κ₂ q₁ q₂ out r b here n items f)
    (‵ ((Row V).own_val f (row_val b here (slots_len f) ∷ [])) ⊛ ‵ (flft κ₁ q₁) ⊛ ‵ (flft κ₂ q₂)))))
    (Copied-gives V gc dc 𝓛 𝓜.mem 𝓡.returns κ₁ κ₂ q₁ q₂ out r b here n items v₂ made.1.0) $
    await ! tt $ pick ! (λ f. learn ! (λ is_copy. split3 ! $
    let copy = is_copy.2 in
    let fz : slots_len f < 2 ^ 64 = slots_small f in
    lands_as ! is_copy.0 refl (tt, (tt, (record { fits = fz }, tt))) $
    -- `fill_from` has copied the items, and has used up the slice. The context now begins with the
    -- `Slots` and the lifetime tokens of `items`, of `T` and of `A`.
    let y₃ = at_into V 𝓛 𝓜.mem 𝓡.returns κ₂ q₂ f b here in
    move ! (0 ∷ 2 ∷ []) $
    use2 𝓛 (raw ((Into V 𝓛 𝓜.mem 𝓡.returns).pre y₃))
    (Into-goes V 𝓛 𝓜.mem 𝓡.returns κ₂ q₂ f b here lives) $
    calls_at_last ! (framed 𝓛 𝓜 𝓡) (Into V 𝓛 𝓜.mem 𝓡.returns)
    (into_met.met 𝓤 𝓛 𝓜 𝓡 (compiled.calls-core::slots::Slots::into_raw_parts 𝓡.env wired) T LT)
    y₃ (and_then ! (get ! refl) (no_more !)) (λ v₃.
    use1 𝓛 (later (given (v₃ ≡ row_val b here (slots_len f))
    (‵ (all V b here (slots_items f) (slots_filled f)) ⊛ ‵ (flft κ₂ q₂))))
    (Into-gives V 𝓛 𝓜.mem 𝓡.returns κ₂ q₂ f b here v₃ is_copy.1) $ await ! tt $
    learn ! (λ e₃. split ! $
    lands_last ! refl (parts_typed v₃ b here (slots_len f) e₃ fz) $
    continues ! 𝓜 𝓡 fn l 2 ((walk_of 𝓛 En₀ hs c).post z) $
    sets ! (of_opd ! (unit_lit !)) refl (tt, tt) $
    -- `into_raw_parts` has converted the `Slots` back into slots of the block. The context now
    -- begins with these slots and the lifetime tokens of `T`, of `items` and of `A`.
    let many : slots_len f ≡ n = copy.same.count ∙ made.1.1 in
    let flags : length (slots_filled f) ≡ n = sym (slots_counts f).1 ∙ many in
    let filled : Filled (slots_filled f) 0 n =
    subst (λ (k : ℕ). Filled (slots_filled f) 0 k) many copy.full in
    rewrite ! 0 (λ (ys : List T.Denot). ‵ (all V b here ys (slots_filled f))) copy.items refl $
    use1 𝓛 (‵ (part_at (Array (R E) n) full_share xs b here))
    (to_values E 𝓛 b here n xs refl (slots_filled f) flags filled) $
    let written_in : List (Option T.Denot) = write_slots i (filled_slots xs) x.slots in
    let long_full : length (filled_slots xs) ≡ n = length-map xs Some in
    let long : length written_in ≡ length x.slots =
    length-written i (filled_slots xs) x.slots (omega arith) in
    let y : (Br E Y).Denot = record (with_slots x written_in long) { cost = add_moves n x.cost } in
    use1 𝓛 (‵ (slots_own (R E) (filled_slots xs) b here)) (of_items E 𝓛 b n xs here) $
    move ! (0 ∷ 4 ∷ []) $
    use2 𝓛 (‵ (slots_own (R E) written_in b (o + 16)))
    (run_in E 𝓛 b (o + 16) x.slots i n within (filled_slots xs) long_full) $
    -- The context is now: all slots; the lifetime tokens of `T`, of `items` and of `A`; the header;
    -- the open borrow (4 entries).
    move ! (0 ∷ 4 ∷ 5 ∷ 6 ∷ 7 ∷ 8 ∷ []) $
    closes_over E Y ! tt self y b o at long $
    -- The context is now: a ghost resource that records the current value of the block; the borrow
    -- of the block; the lifetime tokens of this borrow, of `T`, of `items` and of `A`.
    returns ! (look_at ! 0 refl) $ free_all ! refl $
    move ! (3 ∷ 5 ∷ []) $ join ! $ move ! (4 ∷ 0 ∷ []) $ join ! $
    move ! (1 ∷ 2 ∷ 3 ∷ 0 ∷ []) $ leaves_unit E Y ! self y 2 is₀ $
    suffices ! _ (ends_at 𝓛 En₀ hs c z vunit tt (y, (tt, (tt, tt))) (tt, (tt, (tt, tt)))) $
    says_all ! (_ ∷ []) refl $ done !)))))))))))))
