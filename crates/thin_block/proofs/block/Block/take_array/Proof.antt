-- This file proves the contract of `take_array`, which moves the items out of adjacent slots and
-- returns them as an array.
use Rattle.std.proofs.Common.{◌≡◌, ℕ, Some, None, ◌+◌, ◌*◌, List, ◌∷◌, [], ◌++◌, length, refl, sym}
use Rattle.std.proofs.Common.{ap, ◌∙◌, arith, w64, Option}
use lib.ListN.{length-map, length-replicate}
use base.Fml.{fat, froom}
use base.Fraction.{full_share}
use borrow.Table.OneValue.{part_out}
use mir.MapTy.{inst_fn}
use mir.Syntax.{ty_array}
use mir.Val.{Val, vint}
use types.ByLocal.{alloc_all, pass_all, free_all, look_at, through, sets, sets_last, get}
use types.Kit.{‵, ◌⊛◌, some as exists, pick, ◌$◌, !, move, use1, use2, split, suffices, done}
use types.Run.{stop, look, load, of_opd, first, blocks, returns}
use denote.Array.{Array}
use denote.Laws.{Is, shows}
use denote.Memory.{part_at}
use denote.Param.{layout, param, number, ArrayAt}
use denote.Param.Laws.{param_laws, array_at_laws}
use denote.RattleType.{RattleType}
use denote.Steps.{peeks}
use denote.Triple.Walked.{walk_of, ends_at}
use Rattle.core.proofs.mem.Param.{R}
use Rattle.std.proofs.raw_atomic.Walks.{proved_at}
use Rattle.thin_block.specs.Lends.{with_slots}
use Rattle.thin_block.specs.Ownership.{slots_own}
use Rattle.thin_block.specs.Slots.{filled_slots, empty_slots, clear_slots}
use Rattle.thin_block.specs.contracts.block.Block.take_array.{ended, clauses}
use Rattle.thin_block.specs.contracts.block.Block.take_array.Key.{name as #self}
use Rattle.thin_block.proofs.Addresses.{near, its_ptr, slot_found}
use Rattle.thin_block.proofs.HeaderMemory.{Br}
use Rattle.thin_block.proofs.MethodSignatures.{item, source, others, block_stays, goes, begins}
use Rattle.thin_block.proofs.MethodSignatures.{enters, closes_over, args_at, leaves_with, ptr_of}
use Rattle.thin_block.proofs.MethodSignatures.{opens_self, continues, word}
use Rattle.thin_block.proofs.SlotMemory.{sz, around, run_out, run_in, to_items, of_room}
use Rattle.thin_block.proofs.SlotsLemmas.{full-run, length-run, length-written}
use Rattle.thin_block.proofs.WalkPrelude.{says_all}
use Rattle.thin_block.proofs.block.Block.take_array.Code as compiled
use Rattle.thin_block.proofs.block.Block.take_array.Statement.{statement}

pub take_array_spec : {M : Type 1} → statement M
take_array_spec 𝓤 𝓛 𝓜 𝓡 wired T A N LT LA fits_N g d dd met md =
    let E = item LT in let Y = source LA g d dd in let En₀ = ended T A (number N) g d dd in
    let c = clauses T A (number N) g d dd 𝓛 𝓜.mem 𝓡.returns in
    let ss = others En₀.signature.params in let hs = block_stays E Y ss En₀.kept.1 in
    let fn = inst_fn (args_at E Y N) compiled.function in
    proved_at 𝓛 En₀ hs c 𝓜 𝓡 (goes E Y ss 𝓛 En₀.kept.1 ((λ κs x f. refl), tt))
    (#self (args_at E Y N)) fn
    (compiled.unfolded 𝓤 𝓛.H 𝓜 𝓡 wired (T, (A, (number N, tt))) d dd) (λ z are.
    let r = z.0.3.0 in let x = r.now in let i : ℕ = z.0.3.1.0 in
    begins E Y 𝓛 ss z.0 (_ ∷ _ ∷ _ ∷ _ ∷ _ ∷ _ ∷ []) (λ _ _ _ _ within filled.
    let Arr : RattleType = ArrayAt (R E) (param 2 (number N)) in
    let items = full-run x.slots i N within filled in
    let xs : List T.Denot = items.0 in
    let count : length xs ≡ N = sym (length-map xs Some) ∙ ap length (sym items.1)
    ∙ length-run x.slots i N within in
    enters ! fn (ptr_of r ∷ vint w64 i ∷ []) (λ k. are.0.0 k ++ (are.1.0.0 k ++ [])) $
    alloc_all ! (λ l. pass_all ! refl ((tt, tt), (word are.1.0.1, tt)) $
    opens_self E Y ! tt r (λ b o at fits. let fm = near E x.slots i fits (omega arith) in
    sets ! (of_opd ! (its_ptr E Y ! refl)) refl (tt, tt) $ first ! $ blocks ! $
    slot_found E ! b o i fm refl ((tt, tt), (tt, tt)) $
    let here : ℕ = i * sz E + (o + 16) in
    sets ! (of_opd ! (get ! refl)) refl (tt, tt) $
    move ! (1 ∷ []) $ use1 𝓛
    (‵ (slots_own (R E) (filled_slots xs) b here) ⊛ ‵ (around E 𝓛 b (o + 16) x.slots i N))
    (run_out E 𝓛 b (o + 16) x.slots i N within (filled_slots xs) items.1) $ split ! $
    use1 𝓛 (‵ (part_at (Array (R E) N) full_share xs b here)) (to_items E 𝓛 b N xs here count) $
    use1 𝓛 (exists (λ (v : Val). ‵ (fat full_share (ty_array (layout T) N) b here v) ⊛ ‵
    (Arr.own_val xs (v ∷ [])))) (part_out 𝓛 (Array (R E) N) refl full_share xs b here)
    $ pick ! (λ v. split ! $
    move ! (1 ∷ []) $ peeks ! Arr (Is Arr) (shows 𝓛 Arr) xs (v ∷ []) (λ is_v.
    let good = (((array_at_laws 2 (R E) (param_laws 0 T LT) N).lawful 𝓛).typed xs (v ∷ [])
    is_v).0 in
    move ! (1 ∷ []) $
    -- The context is now: the bytes of the array; the resources that the array owns; the other
    -- slots; the header; the open borrow (4 entries); the other lifetime tokens.
    sets_last ! (of_opd ! (load ! (through ! refl (stop !)) (look ! 0 refl))) refl good $
    continues ! 𝓜 𝓡 fn l 2 ((walk_of 𝓛 En₀ hs c).post z) $
    sets ! (of_opd ! (get ! refl)) refl good $
    let left : List (Option T.Denot) = clear_slots i N x.slots in
    let long_empty : length (empty_slots {T = T.Denot} N) ≡ N = length-replicate N None in
    let long : length left ≡ length x.slots =
    length-written i (empty_slots N) x.slots (omega arith) in
    let y : (Br E Y).Denot = with_slots x left long in
    use1 𝓛 (‵ (froom (ty_array (layout T) N) b here))
    (𝓛.laws.at_room (ty_array (layout T) N) b here v) $
    use1 𝓛 (‵ (slots_own (R E) (empty_slots N) b here)) (of_room E 𝓛 b N here) $
    move ! (0 ∷ 2 ∷ []) $
    use2 𝓛 (‵ (slots_own (R E) left b (o + 16)))
    (run_in E 𝓛 b (o + 16) x.slots i N within (empty_slots N) long_empty) $
    move ! (0 ∷ 2 ∷ 3 ∷ 4 ∷ 5 ∷ 6 ∷ []) $ closes_over E Y ! tt r y b o at long $
    returns ! (look_at ! 0 refl) $ free_all ! refl $ leaves_with E Y ! r y 1 are.0.0 $
    suffices ! _ (ends_at 𝓛 En₀ hs c z v xs (y, (tt, tt)) (tt, (tt, tt))) $
    says_all ! (_ ∷ _ ∷ []) (sym items.1, refl) $ done !))))))
