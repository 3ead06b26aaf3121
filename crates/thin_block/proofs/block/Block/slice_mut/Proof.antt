-- This file proves the contract of `slice_mut`, which returns the items in adjacent slots as a
-- mutable slice.
use Rattle.std.proofs.Common.{◌≡◌, ℕ, Some, ◌+◌, ◌-◌, ◌*◌, ◌^◌, ◌<◌, List, ◌∷◌, [], ◌++◌, length}
use Rattle.std.proofs.Common.{refl, sym, ap, subst, ◌∙◌, arith, w64}
use lib.ListN.{length-map}
use base.Fml.{Lft, Share, GName, Fml, fsep, flft}
use base.Logic.{ent, sep, emp}
use mir.MapTy.{inst_fn}
use mir.Syntax.{named}
use mir.Val.{vint}
use contract.Monad.{fact, fact_i}
use types.ByLocal.{alloc_all, pass_all, free_all, look_at, sets, sets_last, get}
use types.Kit.{‵, raw, ◌⊛◌, some as exists, later, pick, await, ◌$◌, !, by, move, use0, use1, split}
use types.Kit.{split3, join, group, fjoin, rewrite}
use types.Logic.{sem}
use types.Part.{agg}
use types.Run.{bin, of_opd, no_more, and_then, first, blocks, returns}
use types.SemTy.{cells}
use denote.Array.{Array}
use denote.Follow.{follows}
use denote.FollowSlice.{lends_Elements}
use denote.Memory.{mem}
use denote.Slice.{slice_val, MutSlice}
use denote.Triple.Walked.{walk_of}
use Rattle.core.proofs.mem.Param.{R}
use Rattle.std.proofs.raw_atomic.Walks.{proved_at, leaves}
use Rattle.std.specs.Prelude.{slice_range}
use Rattle.thin_block.specs.Lends.{set_slots}
use Rattle.thin_block.specs.Ownership.{slots_own}
use Rattle.thin_block.specs.Slots.{filled_slots}
use Rattle.thin_block.specs.contracts.block.Block.slice_mut.{ended, clauses}
use Rattle.thin_block.specs.contracts.block.Block.slice_mut.Key.{name as #self}
use Rattle.thin_block.proofs.Addresses.{near, its_ptr, slot_found}
use Rattle.thin_block.proofs.BorrowLemmas.{Waiting, items_back}
use Rattle.thin_block.proofs.HeaderMemory.{args, Br}
use Rattle.thin_block.proofs.MethodSignatures.{blank, item, source, others, dropped, all_go, begins}
use Rattle.thin_block.proofs.MethodSignatures.{enters, ptr_of, opens_self, continues, word}
use Rattle.thin_block.proofs.SlotMemory.{sz, reach, around, run_out, to_cells}
use Rattle.thin_block.proofs.SlotsLemmas.{full-run, length-run}
use Rattle.thin_block.proofs.block.Block.slice_mut.Code as compiled
use Rattle.thin_block.proofs.block.Block.slice_mut.Statement.{statement}

pub slice_mut_spec : {M : Type 1} → statement M
slice_mut_spec 𝓤 𝓛 𝓜 𝓡 wired T A LT LA g d dd met md =
    let E = item LT in let Y = source LA g d dd in let En₀ = ended T A g d dd in
    let c = clauses T A g d dd 𝓛 𝓜.mem 𝓡.returns in let ps = En₀.signature.params in
    let hs = dropped ps En₀.kept in let fn = inst_fn (args E Y) compiled.function in
    proved_at 𝓛 En₀ hs c 𝓜 𝓡
    (all_go 𝓛 ps En₀.kept ((λ κs x f. refl), ((λ κs x f. refl), ((λ κs x f. refl), tt))))
    (#self (args E Y)) fn (compiled.unfolded 𝓤 𝓛.H 𝓜 𝓡 wired (T, (A, tt)) d dd) (λ z are.
    let (r, (i, (j, _))) = z.0.3 in let x = r.now in
    let ((is₀, _), ((is₁, fi), ((is₂, fj), _))) = are in let cap : ℕ = length x.slots in
    let γ : GName = r.ghost_name in let κ : Lft = z.0.0.0 in let q : Share = z.0.1.0 in
    begins E Y 𝓛 (others ps) z.0 (_ ∷ _ ∷ _ ∷ _ ∷ _ ∷ []) (λ _ _ ordered within filled.
    let k : ℕ = j - i in
    let items = full-run x.slots i k (omega arith) (λ n p q. filled n p (omega arith)) in
    let xs : List T.Denot = items.0 in
    let long : length xs ≡ k = sym (length-map xs Some) ∙ ap length (sym items.1)
    ∙ length-run x.slots i k (omega arith) in
    enters ! fn (ptr_of r ∷ vint w64 i ∷ vint w64 j ∷ [])
    (λ k. is₀ k ++ (is₁ k ++ (is₂ k ++ []))) $
    alloc_all ! (λ l. pass_all ! refl ((tt, tt), (word fi, (word fj, tt))) $
    opens_self E Y ! tt r (λ b o at fits.
    let s : ℕ = sz E in
    let here : ℕ = i * s + (o + 16) in
    let fm = near E x.slots i fits (omega arith) in
    let few : k * s < 2 ^ 63 = reach (R E) k cap fits (omega arith) in
    let small : (length xs < 2 ^ 64) × (length xs * s < 2 ^ 63) = (
      subst (λ (n : ℕ). n < 2 ^ 64) (sym long) (omega arith),
      subst (λ (n : ℕ). n * s < 2 ^ 63) (sym long) few,
    ) in
    sets ! (of_opd ! (its_ptr E Y ! refl)) refl (tt, tt) $ first ! $ blocks ! $
    slot_found E ! b o i fm refl ((tt, tt), (tt, tt)) $
    sets ! (bin ! (get ! refl) (get ! refl) (omega arith)) refl
    (tt, record { fits = omega arith }) $
    sets_last ! (agg ! (and_then ! (get ! refl) (and_then ! (get ! refl) (no_more !)))) refl
    (tt, (tt, (record { fits = omega arith }, tt))) $
    continues ! 𝓜 𝓡 fn l 2 ((walk_of 𝓛 En₀ hs c).post z) $
    sets ! (of_opd ! (get ! refl)) refl (tt, (tt, (record { fits = omega arith }, tt))) $
    move ! (1 ∷ []) $ use1 𝓛
    (‵ (slots_own (R E) (filled_slots xs) b here) ⊛ ‵ (around E 𝓛 b (o + 16) x.slots i k))
    (run_out E 𝓛 b (o + 16) x.slots i k (omega arith) (filled_slots xs) items.1) $ split ! $
    use1 𝓛 (‵ (cells (mem (R E)) xs b here)) (to_cells E 𝓛 b xs here) $
    -- The context is now: the items of the slice; the other slots; the header; the open borrow (4
    -- entries); the other lifetime tokens.
    let Rest : Fml = fsep (around E 𝓛 b (o + 16) x.slots i k)
    (Waiting E Y 𝓛 x b o r.ref_ptr.0 r.ref_ptr.1 at) in
    let Back : List T.Denot → Type 1 =
    λ ws. ent 𝓤 (sep 𝓤 (sem 𝓛 (cells (mem (R E)) ws b here)) (sem 𝓛 Rest))
    (sem 𝓛 ((mem (Br E Y)).own_at (set_slots x i ws) r.ref_ptr.0 r.ref_ptr.1)) in
    let back : (ws : List T.Denot) → length ws ≡ length xs → Back ws =
    λ ws same. items_back E Y 𝓛 x b o r.ref_ptr.0 r.ref_ptr.1 at i k (omega arith)
    (λ n p q. filled n p (omega arith)) ws (same ∙ long) in
    move ! (2 ∷ 3 ∷ []) $ fjoin ! $ move ! (2 ∷ 0 ∷ []) $ fjoin ! $
    move ! (2 ∷ 3 ∷ 4 ∷ 1 ∷ 0 ∷ []) $ group ! 5 $
    use1 𝓛 (later (exists
    (λ (γ' : GName). ‵
    ((MutSlice (named 0) κ (R E)).own_val
    (record { ref_ptr = (b, here); ghost_name = γ'; now = xs })
    (slice_val (b, here) (length xs) ∷ [])) ⊛ ‵ (flft κ q) ⊛ ‵
    (follows (Br E Y) (Array (R E) 0) γ γ' (set_slots x i)))))
    (lends_Elements 𝓛 (Br E Y) (R E) (set_slots x i) (named 0) κ q r.ref_ptr.0 r.ref_ptr.1
    b here γ xs small (sem 𝓛 Rest)
    back ((Br E Y).coded.code x) ((Br E Y).coded.code x)) $
    await ! tt $ pick ! (λ γ'. split3 ! $ returns ! (look_at ! 0 refl) $ free_all ! refl $
    -- The context is now: the mutable reference to the items; its lifetime token; a resource which
    -- states that the slots will contain the final items of the slice; the other lifetime tokens.
    rewrite ! 0 (λ (n : ℕ). ‵
    ((MutSlice (named 0) κ (R E)).own_val
    (record { ref_ptr = (b, here); ghost_name = γ'; now = xs }) (slice_val (b, here) n ∷ [])))
    long refl $
    use0 𝓛 (raw (fact 𝓤 (filled_slots xs ≡ slice_range x.slots i j)))
    (fact_i 𝓤 (filled_slots xs ≡ slice_range x.slots i j) (emp 𝓤) (sym items.1)) $
    move ! (3 ∷ 0 ∷ []) $ join ! $
    blank ! 3 $
    move ! (3 ∷ 4 ∷ []) $ join ! $ move ! (0 ∷ 1 ∷ 3 ∷ 2 ∷ []) $
    by ! (leaves 𝓛 En₀ hs c z (slice_val (b, here) k)
    (record { ref_ptr = (b, here); ghost_name = γ'; now = xs }) (tt, (tt, (tt, tt)))
    (tt, (tt, (tt, tt)))))))))
