-- This file proves the contract of `item_align`, which returns the alignment of an item in bytes.
use Rattle.std.proofs.Common.{◌≡◌, refl, arith, List, [], ◌∷◌, ℕ, ◌^◌, w64}
use base.Fml.{ftrue, flft}
use mir.MapTy.{inst_fn}
use mir.Syntax.{Args, a_type}
use mir.Val.{Val, vint}
use prog.Capped.{capped_is, capped_fits}
use prog.Memory.{align, capped}
use types.ByLocal.{alloc_all, pass_all, free_all, look_at, sets}
use types.Kit.{‵, raw, ◌⊛◌, ◌$◌, ◌∵◌, !, qed, move, keep, split, join, fjoin, feq_i, flt_i}
use types.Kit.{suffices, done}
use types.Run.{of_opd, returns, align_word}
use denote.Param.{layout, layouts}
use denote.Steps.{nothing}
use denote.Triple.Walked.{ends_at, says}
use Rattle.std.proofs.raw_atomic.Walks.{proved_at}
use Rattle.thin_block.specs.contracts.sizes.item_align as F
use Rattle.thin_block.specs.contracts.sizes.item_align.Key.{name as #self}
use Rattle.thin_block.proofs.MethodSignatures.{enters}
use Rattle.thin_block.proofs.sizes.SizesLemmas.{rounded}
use Rattle.thin_block.proofs.sizes.item_align.Code as code
use Rattle.thin_block.proofs.sizes.item_align.Statement as stated

pub item_align_spec : {M : Type 1} → stated.statement M
item_align_spec 𝓤 𝓛 𝓜 𝓡 wired X L =
    let En₀ = F.ended X in let c = F.clauses X 𝓛 𝓜.mem 𝓡.returns in
    let args : Args = layouts (a_type ∷ []) (X, tt) in let fn = inst_fn args code.function in
    let s : ℕ = capped (align (layout X)) in
    let same : s ≡ align (layout X) =
    capped_is (align (layout X)) (omega (arith, (rounded X 0).most))
    in
    proved_at 𝓛 En₀ tt c 𝓜 𝓡 tt (#self args) fn (code.unfolded 𝓤 𝓛.H 𝓜 𝓡 wired (X, tt)) (λ z are.
    qed 𝓛 (((‵ (flft z.0.0.0 z.0.1.0) ⊛ ‵ ftrue) ⊛ ‵ ftrue) ∷ raw ((c z.0.0 z.0.3).requires z.1)
    ∷ []) ∵ keep ! (0 ∷ []) $ split ! $ enters ! fn [] refl $
    alloc_all ! (λ l. pass_all ! refl tt $
    sets ! (of_opd ! (align_word !)) refl (tt, record { fits = capped_fits (align (layout X)) }) $
    returns ! (look_at ! 0 refl) $ free_all ! refl $
    suffices ! _ (ends_at 𝓛 En₀ tt c z (vint w64 s) s tt tt) $ says ! same $
    flt_i ! s (2 ^ 64) (capped_fits (align (layout X))) $
    feq_i ! (List Val) (vint w64 s ∷ []) (vint w64 s ∷ []) refl $ fjoin ! $ nothing ! $ join ! $
    move ! (1 ∷ 0 ∷ []) $ join ! $ keep ! (0 ∷ []) $ done !))
