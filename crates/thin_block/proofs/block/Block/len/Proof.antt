-- This file proves the contract of `len`, which reads the length through a shared reference to the
-- block.
use Rattle.std.proofs.Common.{ℕ, ◌+◌, ◌^◌, List, ◌∷◌, [], ◌++◌, length, refl, w64}
use mir.MapTy.{inst_fn}
use mir.Val.{Val, vint, vptr}
use types.ByLocal.{alloc_all, pass_all, free_all, look_at, through, sets, sets_last, get}
use types.Kit.{◌$◌, !, move, keep, fjoin, feq_i, flt_i, suffices, done}
use types.Run.{stop, fld, look, load, lit, bin, of_opd, first, blocks, returns}
use denote.Triple.Walked.{walk_of, ends_at}
use Rattle.core.proofs.mem.Param.{R}
use Rattle.core.proofs.slots.Lent.{pointer_in, pointer_out, word_in, word_out}
use Rattle.std.proofs.raw_atomic.Walks.{proved_at}
use Rattle.thin_block.specs.contracts.block.Block.len.{ended, clauses}
use Rattle.thin_block.specs.contracts.block.Block.len.Key.{name as #self}
use Rattle.thin_block.proofs.CapacityLemmas.{fits-less}
use Rattle.thin_block.proofs.HeaderMemory.{args}
use Rattle.thin_block.proofs.MethodSignatures.{item, source, others, dropped, all_go, seen, enters}
use Rattle.thin_block.proofs.MethodSignatures.{leaves, continues}
use Rattle.thin_block.proofs.SharedRefLemmas.{block_seen}
use Rattle.thin_block.proofs.WalkPrelude.{says_all}
use Rattle.thin_block.proofs.block.Block.len.Code as compiled
use Rattle.thin_block.proofs.block.Block.len.Statement.{statement}

pub len_spec : {M : Type 1} → statement M
len_spec 𝓤 𝓛 𝓜 𝓡 wired T A LT LA g d dd met md =
    let E = item LT in let Y = source LA g d dd in let En₀ = ended T A g d dd in
    let c = clauses T A g d dd 𝓛 𝓜.mem 𝓡.returns in let ps = En₀.signature.params in
    let hs = dropped ps En₀.kept in let fn = inst_fn (args E Y) compiled.function in
    proved_at 𝓛 En₀ hs c 𝓜 𝓡 (all_go 𝓛 ps En₀.kept ((λ κs x f. refl), tt))
    (#self (args E Y)) fn (compiled.unfolded 𝓤 𝓛.H 𝓜 𝓡 wired (T, (A, tt)) d dd) (λ z are.
    let x = z.0.3.0.now in let n : ℕ = x.len in
    let rb : ℕ = z.0.3.0.ref_ptr.0 in let ro : ℕ = z.0.3.0.ref_ptr.1 in
    seen E Y 𝓛 (others ps) z.0 ((c z.0.0 z.0.3).requires z.1) (
    block_seen E Y ! x rb ro (λ b o at small. keep ! (0 ∷ 4 ∷ 2 ∷ 5 ∷ []) $
    -- The context is now: the reference to the pointer; the lifetime token of the reference to the
    -- block; the reference to the length; the other lifetime tokens.
    enters ! fn (vptr rb ro ∷ []) (λ k. are.0.0 k ++ []) $
    alloc_all ! (λ l. pass_all ! refl ((tt, tt), tt) $
    pointer_in ! tt x.at b o at rb (ro + 0) (λ q₀.
    sets ! (of_opd ! (load ! (through ! refl (fld ! refl (stop !))) (look ! 0 refl))) refl (tt, tt)
    $
    pointer_out ! tt x.at b o at rb (ro + 0) $ move ! (1 ∷ 0 ∷ []) $
    word_in ! tt n b (8 + o) (λ q₁ fits.
    first ! $ blocks ! $
    sets ! (bin ! (get ! refl) (lit ! tt) tt) refl (tt, tt) $
    sets_last ! (of_opd ! (load ! (through ! refl (stop !)) (look ! 0 refl))) refl
    (tt, record { fits = fits }) $
    continues ! 𝓜 𝓡 fn l 2 ((walk_of 𝓛 En₀ hs c).post z) $
    word_out ! tt n b (8 + o) fits $
    sets ! (of_opd ! (get ! refl)) refl (tt, record { fits = fits }) $
    returns ! (look_at ! 0 refl) $ free_all ! refl $
    flt_i ! n (2 ^ 64) fits $ feq_i ! (List Val) (vint w64 n ∷ []) (vint w64 n ∷ []) refl $
    fjoin ! $ move ! (1 ∷ 0 ∷ 2 ∷ []) $ leaves ! 1 $
    suffices ! _ (ends_at 𝓛 En₀ hs c z (vint w64 n) n (tt, tt) (tt, tt)) $
    says_all ! (_ ∷ _ ∷ _ ∷ _ ∷ []) (
      refl,
      (
        x.sound.0,
        (
          fits-less (R E) n (length x.slots) small x.sound.0,
          small,
        ),
      ),
    ) $ done !))))))
