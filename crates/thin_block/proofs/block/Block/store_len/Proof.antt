-- This file proves the contract of `store_len`, which writes the length to the header of the block.
use Rattle.std.proofs.Common.{◌≡◌, ℕ, ◌+◌, ◌∷◌, [], ◌++◌, length, refl, sym, arith, w64, Option}
use base.Fml.{fat}
use base.Fraction.{full_share}
use mir.MapTy.{inst_fn}
use mir.Syntax.{ty_int}
use mir.Val.{vint, vunit}
use types.ByLocal.{alloc_all, pass_all, free_all, look_at, through, sets, get}
use types.Kit.{‵, ◌$◌, !, move, use1, fsplit, fjoin, rewrite, suffices, done}
use types.Part.{whole, sub, look_in}
use types.Run.{stop, fld, load, lit, bin, store, unit_lit, of_opd, assigns_last, first, blocks}
use types.Run.{returns}
use denote.Builtin.{usize}
use denote.Plain.{uint_in, uint_out}
use denote.RawPtr.{block_ptr, lies_at}
use denote.Triple.Walked.{walk_of, ends_at}
use Rattle.core.proofs.mem.Param.{R}
use Rattle.std.proofs.raw_atomic.Walks.{proved_at}
use Rattle.thin_block.specs.contracts.block.Block.store_len.{ended, clauses}
use Rattle.thin_block.specs.contracts.block.Block.store_len.Key.{name as #self}
use Rattle.thin_block.proofs.HeaderMemory.{alloc_there, args, Br, header, t, block_closes}
use Rattle.thin_block.proofs.MethodSignatures.{item, source, others, block_stays, goes, begins}
use Rattle.thin_block.proofs.MethodSignatures.{enters, leaves_unit, ptr_of, opens_self, continues}
use Rattle.thin_block.proofs.MethodSignatures.{word}
use Rattle.thin_block.proofs.WalkPrelude.{says_all}
use Rattle.thin_block.proofs.block.Block.store_len.Code as compiled
use Rattle.thin_block.proofs.block.Block.store_len.Statement.{statement}

pub store_len_spec : {M : Type 1} → statement M
store_len_spec 𝓤 𝓛 𝓜 𝓡 wired T A LT LA g d dd met md =
    let E = item LT in let Y = source LA g d dd in let En₀ = ended T A g d dd in
    let c = clauses T A g d dd 𝓛 𝓜.mem 𝓡.returns in let ss = others En₀.signature.params in
    let hs = block_stays E Y ss En₀.kept.1 in let fn = inst_fn (args E Y) compiled.function in
    proved_at 𝓛 En₀ hs c 𝓜 𝓡 (goes E Y ss 𝓛 En₀.kept.1 ((λ κs x f. refl), tt))
    (#self (args E Y)) fn (compiled.unfolded 𝓤 𝓛.H 𝓜 𝓡 wired (T, (A, tt)) d dd) (λ z are.
    let r = z.0.3.0 in let x = r.now in let n : ℕ = z.0.3.1.0 in
    begins E Y 𝓛 ss z.0 (_ ∷ _ ∷ _ ∷ _ ∷ []) (λ _ _ some within.
    let cap : ℕ = length x.slots in
    let alloc = alloc_there x.alloc x.slots x.sound.1 some in
    let h : A.Denot = alloc.0 in
    let fi = are.1.0.1 in
    enters ! fn (ptr_of r ∷ vint w64 n ∷ []) (λ k. are.0.0 k ++ (are.1.0.0 k ++ [])) $
    alloc_all ! (λ l. pass_all ! refl ((tt, tt), (word fi, tt)) $
    opens_self E Y ! tt r (λ b o at fits.
    rewrite ! 0 (λ (u : Option A.Denot). ‵ (header (t E Y) (R E) x.len cap u b o)) alloc.1 refl $
    fsplit ! $ move ! (1 ∷ []) $ fsplit ! $
    use1 𝓛 (‵ (fat full_share (ty_int w64) b (o + 8) (vint w64 x.len)))
    (uint_out 𝓛 full_share w64 x.len b (o + 8)) $
    rewrite ! 0 (λ (k : ℕ). ‵ (fat full_share (ty_int w64) b k (vint w64 x.len)))
    (let turned : o + 8 ≡ 8 + o = omega arith in turned) refl $
    -- The context is now: the length; the rest of the header, which includes the right to free the
    -- block; the capacity; the slots; the open borrow (4 entries); the other lifetime tokens.
    sets ! (of_opd ! (load ! (through ! refl (fld ! refl (stop !)))
    (look_in ! 4 (sub ! 0 refl (whole !))))) refl (tt, tt) $
    first ! $ blocks ! $
    sets ! (bin ! (get ! refl) (lit ! tt) tt) refl (tt, tt) $
    assigns_last ! (of_opd ! (get ! refl)) (through ! refl (stop !))
    (store ! 0 refl (tt, record { fits = fi })) $
    continues ! 𝓜 𝓡 fn l 2 ((walk_of 𝓛 En₀ hs c).post z) $
    sets ! (of_opd ! (unit_lit !)) refl (tt, tt) $
    rewrite ! 0 (λ (k : ℕ). ‵ (fat full_share (ty_int w64) b k (vint w64 n)))
    (let turned : 8 + o ≡ o + 8 = omega arith in turned) refl $
    use1 𝓛 (‵ (lies_at usize full_share (block_ptr b (o + 8)) n))
    (uint_in 𝓛 full_share w64 n b (o + 8)) $ fjoin ! $ move ! (1 ∷ 0 ∷ []) $ fjoin ! $
    rewrite ! 0 (λ (u : Option A.Denot). ‵ (header (t E Y) (R E) n cap u b o)) (sym alloc.1) refl $
    let y : (Br E Y).Denot = record x { len = n; sound = (within, x.sound.1, x.sound.2) } in
    block_closes E Y ! tt y b o r.ref_ptr.0 r.ref_ptr.1 at $
    returns ! (look_at ! 0 refl) $ free_all ! refl $ leaves_unit E Y ! r y 1 are.0.0 $
    suffices ! _ (ends_at 𝓛 En₀ hs c z vunit tt (y, (tt, tt)) (tt, (tt, tt))) $
    says_all ! (_ ∷ []) refl $ done !))))
