-- This file proves the contract of `slot_mut`, which returns a mutable reference to the item in a
-- filled slot.
use Rattle.std.proofs.Common.{◌≡◌, ℕ, Some, None, ◌+◌, ◌*◌, ◌<◌, ◌∷◌, [], ◌++◌, length, refl, arith}
use Rattle.std.proofs.Common.{w64}
use lib.ListN.{get_or}
use base.Fml.{Lft, Share, GName, Fml, fsep, flft}
use base.Logic.{emp}
use mir.MapTy.{inst_fn}
use mir.Syntax.{named}
use mir.Val.{vint, vptr}
use contract.Monad.{fact, fact_i}
use types.ByLocal.{alloc_all, pass_all, free_all, look_at, through, sets, sets_last, get}
use types.Kit.{‵, raw, ◌⊛◌, some as exists, later, pick, await, ◌$◌, !, by, move, use0, use1}
use types.Kit.{split3, join, group, fjoin}
use types.Logic.{sem}
use types.Run.{stop, of_opd, first, blocks, returns, addr}
use denote.Follow.{follows, lends_Part}
use denote.Ref.{MutRef}
use denote.Triple.Walked.{walk_of}
use Rattle.core.proofs.mem.Param.{R}
use Rattle.std.proofs.raw_atomic.Walks.{proved_at, leaves}
use Rattle.thin_block.specs.Lends.{set_slot}
use Rattle.thin_block.specs.contracts.block.Block.slot_mut.{ended, clauses}
use Rattle.thin_block.specs.contracts.block.Block.slot_mut.Key.{name as #self}
use Rattle.thin_block.proofs.Addresses.{near, its_ptr, slot_found, takes_slot}
use Rattle.thin_block.proofs.BorrowLemmas.{Waiting, item_back}
use Rattle.thin_block.proofs.HeaderMemory.{args, Br}
use Rattle.thin_block.proofs.MethodSignatures.{blank, item, source, others, dropped, all_go, begins}
use Rattle.thin_block.proofs.MethodSignatures.{enters, ptr_of, opens_self, continues, word}
use Rattle.thin_block.proofs.SlotMemory.{sz, besides}
use Rattle.thin_block.proofs.SlotsLemmas.{the-item, filled-within}
use Rattle.thin_block.proofs.block.Block.slot_mut.Code as compiled
use Rattle.thin_block.proofs.block.Block.slot_mut.Statement.{statement}

pub slot_mut_spec : {M : Type 1} → statement M
slot_mut_spec 𝓤 𝓛 𝓜 𝓡 wired T A LT LA g d dd met md =
    let E = item LT in let Y = source LA g d dd in let En₀ = ended T A g d dd in
    let c = clauses T A g d dd 𝓛 𝓜.mem 𝓡.returns in let ps = En₀.signature.params in
    let hs = dropped ps En₀.kept in let fn = inst_fn (args E Y) compiled.function in
    proved_at 𝓛 En₀ hs c 𝓜 𝓡 (all_go 𝓛 ps En₀.kept ((λ κs x f. refl), ((λ κs x f. refl), tt)))
    (#self (args E Y)) fn (compiled.unfolded 𝓤 𝓛.H 𝓜 𝓡 wired (T, (A, tt)) d dd) (λ z are.
    let r = z.0.3.0 in let x = r.now in let i : ℕ = z.0.3.1.0 in
    let γ : GName = r.ghost_name in let κ : Lft = z.0.0.0 in let q : Share = z.0.1.0 in
    begins E Y 𝓛 (others ps) z.0 (_ ∷ _ ∷ _ ∷ []) (λ _ _ filled.
    let item = the-item (get_or x.slots i None) filled in
    let value : T.Denot = item.0 in
    let within : i < length x.slots = filled-within x.slots i filled in
    enters ! fn (ptr_of r ∷ vint w64 i ∷ []) (λ k. are.0.0 k ++ (are.1.0.0 k ++ [])) $
    alloc_all ! (λ l. pass_all ! refl ((tt, tt), (word are.1.0.1, tt)) $
    opens_self E Y ! tt r (λ b o at fits. let fm = near E x.slots i fits (omega arith) in
    sets ! (of_opd ! (its_ptr E Y ! refl)) refl (tt, tt) $ first ! $ blocks ! $
    slot_found E ! b o i fm refl ((tt, tt), (tt, tt)) $
    let here : ℕ = i * sz E + (o + 16) in
    takes_slot E ! b (o + 16) x.slots i within item.1 $
    -- The context is now: the item; the other slots; the header; the open borrow (4 entries); the
    -- other lifetime tokens.
    sets_last ! (addr ! (through ! refl (stop !))) refl (tt, tt) $
    continues ! 𝓜 𝓡 fn l 2 ((walk_of 𝓛 En₀ hs c).post z) $
    sets ! (of_opd ! (get ! refl)) refl (tt, tt) $
    let Rest : Fml = fsep (besides E 𝓛 b (o + 16) x.slots i)
    (Waiting E Y 𝓛 x b o r.ref_ptr.0 r.ref_ptr.1 at) in
    move ! (2 ∷ 3 ∷ []) $ fjoin ! $ move ! (2 ∷ 0 ∷ []) $ fjoin ! $
    move ! (2 ∷ 3 ∷ 4 ∷ 1 ∷ 0 ∷ []) $ group ! 5 $
    use1 𝓛 (later (exists
    (λ (γ' : GName). ‵
    ((MutRef (named 0) κ (R E)).own_val
    (record { ref_ptr = (b, here); ghost_name = γ'; now = value }) (vptr b here ∷ [])) ⊛ ‵
    (flft κ q) ⊛ ‵ (follows (Br E Y) (R E) γ γ' (set_slot x i)))))
    (lends_Part 𝓛 (Br E Y) (R E) (set_slot x i) (named 0) κ q r.ref_ptr.0 r.ref_ptr.1
    b here γ (sem 𝓛 Rest)
    (item_back E Y 𝓛 x b o r.ref_ptr.0 r.ref_ptr.1 at i within)
    ((Br E Y).coded.code x) ((Br E Y).coded.code x) value) $
    await ! tt $ pick ! (λ γ'. split3 ! $ returns ! (look_at ! 0 refl) $ free_all ! refl $
    -- The context is now: the mutable reference to the item; its lifetime token; a resource which
    -- states that slot `i` will contain the final value of the item; the other lifetime tokens.
    use0 𝓛 (raw (fact 𝓤 (get_or x.slots i None ≡ Some value)))
    (fact_i 𝓤 (get_or x.slots i None ≡ Some value) (emp 𝓤) item.1) $
    move ! (3 ∷ 0 ∷ []) $ join ! $
    blank ! 2 $ move ! (3 ∷ 4 ∷ []) $ join ! $
    move ! (0 ∷ 1 ∷ 3 ∷ 2 ∷ []) $
    by ! (leaves 𝓛 En₀ hs c z (vptr b here)
    (record { ref_ptr = (b, here); ghost_name = γ'; now = value })
    (tt, (tt, tt)) (tt, (tt, tt))))))))
