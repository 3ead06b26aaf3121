-- This file proves the contract of `slice`, which returns the items in adjacent slots as a slice.
use Rattle.std.proofs.Common.{◌≡◌, ℕ, ◌+◌, ◌*◌, ◌-◌, ◌^◌, ◌<◌, List, ◌∷◌, [], ◌++◌, length, Some}
use Rattle.std.proofs.Common.{refl, sym, ap, subst, ◌∙◌, arith, w64}
use lib.ListN.{length-map}
use base.Fml.{Lft, fhide}
use mir.MapTy.{inst_fn}
use mir.Val.{Val, vint, vptr}
use types.ByLocal.{alloc_all, pass_all, free_all, look_at, through, sets, sets_last, get}
use types.Kit.{‵, ◌$◌, !, move, keep, use1, fjoin, feq_i, flt_i, suffices, done}
use types.Part.{agg}
use types.Run.{stop, fld, look, load, bin, of_opd, no_more, and_then, first, blocks, returns}
use denote.Slice.{slice_val, elements_shared}
use denote.Triple.Walked.{walk_of, ends_at, says}
use Rattle.core.proofs.mem.Param.{R}
use Rattle.core.proofs.slots.Lent.{pointer_in, pointer_out}
use Rattle.std.proofs.raw_atomic.Walks.{proved_at}
use Rattle.thin_block.specs.contracts.block.Block.slice.{ended, clauses}
use Rattle.thin_block.specs.contracts.block.Block.slice.Key.{name as #self}
use Rattle.thin_block.proofs.Addresses.{near, slot_found}
use Rattle.thin_block.proofs.HeaderMemory.{args}
use Rattle.thin_block.proofs.MethodSignatures.{item, source, others, dropped, all_go, heard_each}
use Rattle.thin_block.proofs.MethodSignatures.{seen, enters, leaves, continues, word}
use Rattle.thin_block.proofs.SharedRefLemmas.{block_seen, run_seen}
use Rattle.thin_block.proofs.SlotMemory.{sz, reach}
use Rattle.thin_block.proofs.SlotsLemmas.{full-run, length-run}
use Rattle.thin_block.proofs.block.Block.slice.Code as compiled
use Rattle.thin_block.proofs.block.Block.slice.Statement.{statement}

pub slice_spec : {M : Type 1} → statement M
slice_spec 𝓤 𝓛 𝓜 𝓡 wired T A LT LA g d dd met md =
    let E = item LT in let Y = source LA g d dd in let En₀ = ended T A g d dd in
    let c = clauses T A g d dd 𝓛 𝓜.mem 𝓡.returns in let ps = En₀.signature.params in
    let hs = dropped ps En₀.kept in let fn = inst_fn (args E Y) compiled.function in
    proved_at 𝓛 En₀ hs c 𝓜 𝓡
    (all_go 𝓛 ps En₀.kept ((λ κs x f. refl), ((λ κs x f. refl), ((λ κs x f. refl), tt))))
    (#self (args E Y)) fn (compiled.unfolded 𝓤 𝓛.H 𝓜 𝓡 wired (T, (A, tt)) d dd) (λ z are.
    let (r, (i, (j, _))) = z.0.3 in let x = r.now in
    let ((is₀, _), ((is₁, fi), ((is₂, fj), _))) = are in let cap : ℕ = length x.slots in
    let κ : Lft = z.0.0.0 in let s : ℕ = sz E in
    let rb : ℕ = r.ref_ptr.0 in let ro : ℕ = r.ref_ptr.1 in
    seen E Y 𝓛 (others ps) z.0 ((c z.0.0 z.0.3).requires z.1) (
    move ! (4 ∷ []) $ heard_each ! (_ ∷ _ ∷ _ ∷ _ ∷ _ ∷ []) (λ _ _ ordered within filled.
    let k : ℕ = j - i in
    let items = full-run x.slots i k (omega arith) (λ n p q. filled n p (omega arith)) in
    let xs : List T.Denot = items.0 in
    let long : length xs ≡ k = sym (length-map xs Some) ∙ ap length (sym items.1)
    ∙ length-run x.slots i k (omega arith) in
    block_seen E Y ! x rb ro (λ b o at fits. keep ! (0 ∷ 4 ∷ 3 ∷ 5 ∷ []) $ move ! (2 ∷ []) $
    let here : ℕ = i * s + (o + 16) in
    use1 𝓛 (‵ (fhide (elements_shared (R E) xs b here κ)))
    (run_seen E 𝓛 b κ x.slots i k (o + 16) xs (omega arith) items.1) $ move ! (1 ∷ 2 ∷ 0 ∷ []) $
    -- The context is now: the reference to the pointer; the lifetime token of the reference to the
    -- block; the reference to the items of the slice; the other lifetime tokens.
    let fm = near E x.slots i fits (omega arith) in
    let few : k * s < 2 ^ 63 = reach (R E) k cap fits (omega arith) in
    enters ! fn (vptr rb ro ∷ vint w64 i ∷ vint w64 j ∷ [])
    (λ k. is₀ k ++ (is₁ k ++ (is₂ k ++ []))) $
    alloc_all ! (λ l. pass_all ! refl ((tt, tt), (word fi, (word fj, tt))) $
    pointer_in ! tt x.at b o at rb (ro + 0) (λ q₀.
    sets ! (of_opd ! (load ! (through ! refl (fld ! refl (stop !))) (look ! 0 refl))) refl (tt, tt)
    $
    pointer_out ! tt x.at b o at rb (ro + 0) $
    first ! $ blocks ! $
    slot_found E ! b o i fm refl ((tt, tt), (tt, tt)) $
    sets ! (bin ! (get ! refl) (get ! refl) (omega arith)) refl
    (tt, record { fits = omega arith }) $
    sets_last ! (agg ! (and_then ! (get ! refl) (and_then ! (get ! refl) (no_more !)))) refl
    (tt, (tt, (record { fits = omega arith }, tt))) $
    continues ! 𝓜 𝓡 fn l 2 ((walk_of 𝓛 En₀ hs c).post z) $
    sets ! (of_opd ! (get ! refl)) refl (tt, (tt, (record { fits = omega arith }, tt))) $
    returns ! (look_at ! 0 refl) $ free_all ! refl $ move ! (1 ∷ []) $
    -- The context is now: the reference to the items of the slice; the lifetime token of the
    -- reference to the block; the other lifetime tokens.
    flt_i ! (length xs * s) (2 ^ 63) (subst (λ (n : ℕ). n * s < 2 ^ 63) (sym long) few) $
    flt_i ! (length xs) (2 ^ 64) (subst (λ (n : ℕ). n < 2 ^ 64) (sym long) (omega arith)) $
    fjoin ! $
    feq_i ! (List Val) (slice_val (b, here) k ∷ []) (slice_val (b, here) (length xs) ∷ [])
    (ap (λ (n : ℕ). slice_val (b, here) n ∷ []) (sym long)) $ fjoin ! $ fjoin ! $
    move ! (1 ∷ 0 ∷ 2 ∷ []) $ leaves ! 3 $
    suffices ! _ (ends_at 𝓛 En₀ hs c z (slice_val (b, here) k)
    (record { ref_ptr = (b, here); now = xs }) (tt, (tt, (tt, tt))) (tt, (tt, (tt, tt)))) $
    says ! (sym items.1) $ done !))))))
