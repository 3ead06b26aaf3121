-- This file proves the contract of `take`, which moves the item out of a filled slot.
use Rattle.std.proofs.Common.{ℕ, None, ◌+◌, ◌*◌, ◌<◌, ◌∷◌, [], ◌++◌, length, refl, arith, w64}
use lib.ListN.{set, length-set, get_or}
use base.Fml.{froom}
use mir.MapTy.{inst_fn}
use mir.Val.{vint}
use types.ByLocal.{alloc_all, pass_all, free_all, look_at, through, sets, sets_last, get}
use types.Kit.{‵, ◌$◌, !, move, use1, use2, suffices, done}
use types.Run.{stop, load, look, of_opd, first, blocks, returns}
use denote.Param.{layout}
use denote.Triple.Walked.{walk_of, ends_at}
use Rattle.core.proofs.mem.Param.{R}
use Rattle.std.proofs.raw_atomic.Walks.{proved_at}
use Rattle.thin_block.specs.Lends.{with_slots}
use Rattle.thin_block.specs.Ownership.{slot_owns, slots_own}
use Rattle.thin_block.specs.contracts.block.Block.take.{ended, clauses}
use Rattle.thin_block.specs.contracts.block.Block.take.Key.{name as #self}
use Rattle.thin_block.proofs.Addresses.{near, its_ptr, slot_found, takes_item}
use Rattle.thin_block.proofs.HeaderMemory.{args, Br}
use Rattle.thin_block.proofs.MethodSignatures.{item, source, others, block_stays, goes, begins}
use Rattle.thin_block.proofs.MethodSignatures.{enters, closes_over, leaves_with, ptr_of, opens_self}
use Rattle.thin_block.proofs.MethodSignatures.{continues, word}
use Rattle.thin_block.proofs.SlotMemory.{sz, slot_in}
use Rattle.thin_block.proofs.SlotsLemmas.{the-item, filled-within}
use Rattle.thin_block.proofs.WalkPrelude.{says_all}
use Rattle.thin_block.proofs.block.Block.take.Code as compiled
use Rattle.thin_block.proofs.block.Block.take.Statement.{statement}

pub take_spec : {M : Type 1} → statement M
take_spec 𝓤 𝓛 𝓜 𝓡 wired T A LT LA g d dd met md =
    let E = item LT in let Y = source LA g d dd in let En₀ = ended T A g d dd in
    let c = clauses T A g d dd 𝓛 𝓜.mem 𝓡.returns in let ss = others En₀.signature.params in
    let hs = block_stays E Y ss En₀.kept.1 in let fn = inst_fn (args E Y) compiled.function in
    proved_at 𝓛 En₀ hs c 𝓜 𝓡 (goes E Y ss 𝓛 En₀.kept.1 ((λ κs x f. refl), tt))
    (#self (args E Y)) fn (compiled.unfolded 𝓤 𝓛.H 𝓜 𝓡 wired (T, (A, tt)) d dd) (λ z are.
    let r = z.0.3.0 in let x = r.now in let i : ℕ = z.0.3.1.0 in
    begins E Y 𝓛 ss z.0 (_ ∷ _ ∷ _ ∷ []) (λ _ _ filled.
    let item = the-item (get_or x.slots i None) filled in
    let within : i < length x.slots = filled-within x.slots i filled in
    enters ! fn (ptr_of r ∷ vint w64 i ∷ []) (λ k. are.0.0 k ++ (are.1.0.0 k ++ [])) $
    alloc_all ! (λ l. pass_all ! refl ((tt, tt), (word are.1.0.1, tt)) $
    opens_self E Y ! tt r (λ b o at fits. let fm = near E x.slots i fits (omega arith) in
    sets ! (of_opd ! (its_ptr E Y ! refl)) refl (tt, tt) $ first ! $ blocks ! $
    slot_found E ! b o i fm refl ((tt, tt), (tt, tt)) $
    let here : ℕ = i * sz E + (o + 16) in
    takes_item E ! b (o + 16) x.slots i within item.1 (λ v good.
    -- The context is now: the bytes of the item; the resources that the item owns; the other slots;
    -- the header; the open borrow (4 entries); the other lifetime tokens.
    sets_last ! (of_opd ! (load ! (through ! refl (stop !)) (look ! 0 refl))) refl good $
    continues ! 𝓜 𝓡 fn l 2 ((walk_of 𝓛 En₀ hs c).post z) $
    sets ! (of_opd ! (get ! refl)) refl good $
    use1 𝓛 (‵ (froom (layout T) b here)) (𝓛.laws.at_room (layout T) b here v) $
    use1 𝓛 (‵ (slot_owns (R E) None b here)) (𝓛.laws.room-raw (layout T) b here) $
    let long = length-set x.slots i None in
    let y : (Br E Y).Denot = with_slots x (set x.slots i None) long in
    move ! (0 ∷ 2 ∷ []) $ use2 𝓛 (‵ (slots_own (R E) y.slots b (o + 16)))
    (slot_in E 𝓛 b (o + 16) x.slots i within None) $
    move ! (0 ∷ 2 ∷ 3 ∷ 4 ∷ 5 ∷ 6 ∷ []) $ closes_over E Y ! tt r y b o at long $
    returns ! (look_at ! 0 refl) $ free_all ! refl $ leaves_with E Y ! r y 1 are.0.0 $
    suffices ! _ (ends_at 𝓛 En₀ hs c z v item.0 (y, (tt, tt)) (tt, (tt, tt))) $
    says_all ! (_ ∷ _ ∷ []) (item.1, refl) $ done !)))))
