-- This file proves the contract of `free_sized`. The proof joins the parts of the block into one
-- piece of memory, which the function returns to the allocator.
use Rattle.std.proofs.Common.{◌≡◌, ℕ, ◌+◌, List, [], ◌∷◌, ◌++◌, ◌*◌, ◌<◌, ◌^◌, Bool, length, true}
use Rattle.std.proofs.Common.{false, refl, sym, ap, subst, ◌∙◌, arith, w64, Option}
use lib.Dec.{ltb→lt, nltb→le}
use base.Fml.{Fml, froom, flft}
use base.Logic.{SProp}
use mir.MapTy.{inst_fn}
use mir.Syntax.{Ty, Body, place, ty_ptr}
use mir.Val.{Val, vint, vptr, vunit}
use prog.Capped.{capped_is}
use prog.Memory.{size, align, capped}
use prog.Wp.{Env, Wp}
use contract.BorrowLft.{⊑_trans}
use contract.Lifetimes.{toks}
use contract.Running.{tables}
use types.ByLocal.{through, alloc_all, pass_all, free_all, look_at, get, get_in, sets, sets_last}
use types.ByLocal.{lands_last, env, holding, forget_but}
use types.Kit.{Post as After, Item, Sq, prop, ‵, raw, ◌⊛◌, given, some as exists, pick, group}
use types.Kit.{later, at_ret, ◌$◌, !, by, move, keep, drop, use1, use2, use3, split, join, learn}
use types.Kit.{rewrite, regoal, fsplit, feq_i, await, settles, post}
use types.Part.{whole, sub}
use types.Run.{stop, fld, load, look, lit, bin, unit_lit, of_opd, no_more, and_then, first, blocks}
use types.Run.{branches, exec, returns}
use denote.RattleType.{RattleType}
use denote.RawPtr.{Ptr, block_ptr}
use denote.Steps.{nothing}
use denote.Triple.Call.{calls_at_last}
use denote.Triple.Walked.{walk_of}
use Rattle.core.proofs.alloc.Calls.{token, Goes-blank, Gives, at_gives, Gives-goes, Gives-Gives}
use Rattle.core.proofs.alloc.Calls.{seen}
use Rattle.core.proofs.alloc.Shapes.{after, head, inside}
use Rattle.core.proofs.atomic.Steps.{fm}
use Rattle.core.proofs.mem.Param.{R}
use Rattle.std.proofs.raw_atomic.Walks.{proved_at, leaves}
use Rattle.std.specs.Mem.{type_size}
use Rattle.thin_block.specs.InPlace.{gapped_items}
use Rattle.thin_block.specs.Ownership.{fits_block, slots_own, header_owns, pads, words_of}
use Rattle.thin_block.specs.Ownership.{erased_type, end_of, memory_type, memory_type_if}
use Rattle.thin_block.specs.Slots.{empty_slots}
use Rattle.thin_block.specs.contracts.block.Block.free_sized.{ended, clauses}
use Rattle.thin_block.specs.contracts.block.Block.free_sized.Key.{name as #self}
use Rattle.thin_block.proofs.Addresses.{slot_found}
use Rattle.thin_block.proofs.BlockMemory.{ordinary_joined, front_tells, memory_size, memory_align}
use Rattle.thin_block.proofs.BlockMemory.{memory_short}
use Rattle.thin_block.proofs.HeaderMemory.{args, header, t, block_val, block_had}
use Rattle.thin_block.proofs.MethodSignatures.{item, source, others, dropped, all_go, arrives}
use Rattle.thin_block.proofs.MethodSignatures.{heard_each, enters, blank, still, word}
use Rattle.thin_block.proofs.SlotMemory.{reach}
use Rattle.thin_block.proofs.WalkPrelude.{slot_at, then_runs, out_of_block}
use Rattle.thin_block.proofs.block.Block.free_sized.Code as compiled
use Rattle.thin_block.proofs.block.Block.free_sized.Statement.{statement}
use Rattle.thin_block.proofs.in_place.ArrayMemory.{memory_out}
use Rattle.thin_block.proofs.padded.PaddedMemory.{Opened, padded_apart, array_in}
use Rattle.thin_block.proofs.sizes.SizesLemmas.{rounded}

pub free_sized_spec : {M : Type 1} → statement M
free_sized_spec 𝓤 𝓛 𝓜 𝓡 wired T A LT LA g d dd met md =
    let E = item LT in let Y = source LA g d dd in let En₀ = ended T A g d dd in
    let c = clauses T A g d dd 𝓛 𝓜.mem 𝓡.returns in let ps = En₀.signature.params in
    let hs = dropped ps En₀.kept in let fn = inst_fn (args E Y) compiled.function in
    let 𝓣 = tables 𝓤 𝓛.H 𝓜 𝓡 𝓡.env in let C = 𝓣.C in let Λ = 𝓣.Λ in
    let q = still 𝓛 3 in
    proved_at 𝓛 En₀ hs c 𝓜 𝓡 (
      Goes-blank 𝓛 3 (slot_at 0 ps) En₀.kept.0 (λ κs x f. tt),
      all_go 𝓛 (others ps) En₀.kept.1 ((λ κs x f. refl), (q, (q, (q, (q, tt))))),
    )
    (#self (args E Y)) fn (compiled.unfolded 𝓤 𝓛.H 𝓜 𝓡 wired (T, (A, tt)) d dd) (λ z are.
    let Post : Val → SProp 𝓤 = (walk_of 𝓛 En₀ hs c).post z in
    let (κ, (_, (κA, _))) = z.0.0 in
    let (q, _) = z.0.1 in
    let (x, (alloc, (cap, (bytes, (al, (front, _)))))) = z.0.3 in
    let (_, ((is₁, _), ((is₂, fc), ((is₃, fb), ((is₄, fa), ((is₅, ff), _)))))) = are in
    let Rt : RattleType = R E in
    let h = alloc.now in
    let handle_at = alloc.ref_ptr in
    let xs : List (Option T.Denot) = x.slots in
    let s : ℕ = type_size Rt in
    let τ : Ty = memory_type Rt cap in
    let tok : Ty → Ptr → Fml = token Y h in
    let Tokens : Item 𝓤 = raw (toks 𝓛 2 z.0.0.1 z.0.1.1) in
    arrives (slot_at 0 ps) (others ps) 𝓛 z.0 ((c z.0.0 z.0.3).requires z.1) (
    move ! (4 ∷ []) $ heard_each ! (_ ∷ _ ∷ _ ∷ _ ∷ _ ∷ _ ∷ _ ∷ _ ∷ [])
    (λ leT le from cap_is bare bytes_are align_is front_is.
    move ! (0 ∷ 3 ∷ []) $ block_had E Y ! x z.0.4.0 (λ b o at told fits.
    -- The context is now: the header; the slots; what the other arguments own; the lifetime token
    -- of the shared reference to the allocator; the other lifetime tokens.
    let fits' : fits_block Rt cap ≡ true =
    subst (λ (n : ℕ). fits_block Rt n ≡ true) (sym cap_is) fits in
    let near : cap * s < 2 ^ 64 = (let low = reach Rt cap cap fits' (omega arith) in omega arith) in
    let about = front_tells Rt cap front front_is in
    let short = memory_short Rt cap fits' in
    let sized : capped (size τ) ≡ bytes = ap capped (memory_size Rt cap ∙ sym bytes_are)
    ∙ capped_is bytes (omega arith) in
    let laid : capped (align τ) ≡ al = ap capped (memory_align Rt cap ∙ sym align_is)
    ∙ capped_is al (let most = (rounded Rt 0).most in omega arith) in
    rewrite ! 0 (λ (u : Option A.Denot). ‵ (header (t E Y) Rt x.len (length xs) u b o))
    from refl $
    rewrite ! 0 (λ (n : ℕ). ‵ (header_owns tok Rt x.len n b o)) (sym cap_is) refl $
    rewrite ! 1 (λ (ys : List (Option T.Denot)). ‵ (slots_own Rt ys b (o + 16)))
    (bare ∙ ap (λ (n : ℕ). empty_slots n) (sym cap_is)) refl $
    move ! (2 ∷ []) $ fsplit ! $ fsplit ! $ drop ! $ keep ! (2 ∷ 3 ∷ 0 ∷ 4 ∷ 5 ∷ []) $
    -- The context is now: the header; the slots; the reference to the allocator; its lifetime
    -- token; the other lifetime tokens.
    enters ! fn (block_val (block_ptr b o) ∷ vptr handle_at.0 handle_at.1 ∷ vint w64
    cap ∷ vint w64 bytes ∷ vint w64 al ∷ vint w64 front ∷ [])
    (λ i. told i ++ (is₁ i ++ (is₂ i ++ (is₃ i ++ (is₄ i ++ (is₅ i ++ [])))))) $
    alloc_all ! (λ l. pass_all ! refl
    ((tt, (tt, (tt, (tt, tt)))), ((tt, tt), (word fc, (word fb, (word fa, (word ff, tt)))))) $
    let En : Env 𝓤 𝓛.H = env fn.locals l in
    let inner : Body = inside (head (after 1 fn.body)) in
    let Last : After 𝓤 𝓛.H = out_of_block 𝓛
    (then_runs 𝓛 C Λ En (after 2 fn.body) (at_ret En Post)) in
    -- Frees the memory, which begins at the offset `start`.
    let freed : (start : ℕ) → Sq 𝓛 (‵ (froom τ b start) ∷ ‵ (tok τ (block_ptr b start))
    ∷ ‵ (seen Y κ handle_at h) ∷ ‵ (flft κ q) ∷ Tokens
    ∷ holding 𝓛 En ((10, vptr b start) ∷ (2, vptr handle_at.0 handle_at.1) ∷ (4, vint w64 bytes)
    ∷ (5, vint w64 al) ∷ [])) (prop (Wp 𝓤 𝓛.H C Λ En (after 2 inner) (post 𝓤 𝓛.H Last))) = λ start.
    let y = at_gives Y 𝓛 𝓜.mem 𝓡.returns κ q handle_at h b start bytes al τ in
    exec ! C Λ En (after 2 inner) Last $
    sets ! (of_opd ! (get ! refl)) refl (tt, tt) $
    move ! (2 ∷ 3 ∷ []) $ join ! $ move ! (1 ∷ 2 ∷ 0 ∷ []) $
    use3 𝓛 (raw ((Gives Y 𝓛 𝓜.mem 𝓡.returns).pre y))
    (Gives-goes Y 𝓛 𝓜.mem 𝓡.returns κ q handle_at h (⊑_trans κ κA A.lives z.0.2.0 le)
    b start bytes al τ sized laid fb fa) $
    calls_at_last ! (fm 𝓛 𝓜 𝓡) (Gives Y 𝓛 𝓜.mem 𝓡.returns) (met.deallocate dd) y
    (and_then ! (get ! refl)
    (and_then ! (get ! refl) (and_then ! (get ! refl) (and_then ! (get ! refl) (no_more !)))))
    (λ v.
    use1 𝓛 (later (given (v ≡ vunit) (‵ (flft κ q))))
    (Gives-Gives Y 𝓛 𝓜.mem 𝓡.returns κ q handle_at h b start bytes al τ v) $ await ! tt $
    learn ! (λ e. join ! $
    regoal ! (λ (u : Val). settles En (place 16 []) u Last) e refl $
    lands_last ! refl (tt, tt) $
    exec ! C Λ En (after 2 fn.body) (at_ret En Post) $
    sets ! (of_opd ! (unit_lit !)) refl (tt, tt) $
    returns ! (look_at ! 0 refl) $ free_all ! refl $
    feq_i ! (List Val) (vunit ∷ []) (vunit ∷ []) refl $ nothing ! $ blank ! 6 $
    move ! (3 ∷ 0 ∷ 2 ∷ 1 ∷ []) $
    by ! (leaves 𝓛 En₀ hs c z vunit tt (tt, (tt, (tt, (tt, (tt, (tt, tt))))))
    (tt, (tt, (tt, (tt, (tt, (tt, tt))))))))) in
    sets ! (of_opd ! (get_in ! (fld ! refl (stop !)) (sub ! 0 refl (whole !)))) refl (tt, tt) $
    first ! $ blocks ! $
    sets ! (bin ! (lit ! tt) (get ! refl) tt) refl (tt, tt) $
    first ! $ branches ! (get ! refl)
    (λ more.
    let pad : pads Rt cap ≡ true = about.padded (ltb→lt 0 front more) in
    let end : ℕ = end_of s cap o in
    let here : cap ≡ 0 + cap = omega arith in
    use1 𝓛 (exists (λ (start : ℕ). given (start + s ≡ o + 16)
    (‵ (Opened 𝓛 E b cap pad tok x.len o start))))
    (padded_apart 𝓛 E b cap pad tok x.len o) $ pick ! (λ start. learn ! (λ place.
    fsplit ! $ move ! (1 ∷ []) $ fsplit ! $
    slot_found E ! b o cap near refl ((tt, tt), (tt, tt)) $
    sets ! (of_opd ! (get ! refl)) refl (tt, tt) $
    sets_last ! (of_opd ! (load ! (through ! refl (stop !)) (look ! 0 refl))) refl (tt, tt) $
    use1 𝓛 (‵ (froom ty_ptr b end)) (𝓛.laws.at_room ty_ptr b end (vptr b start)) $
    move ! (2 ∷ 0 ∷ 3 ∷ 1 ∷ []) $ group ! 4 $
    use1 𝓛 (‵ (gapped_items tok Rt (block_ptr b start) 1 0 (cap + 2) []))
    (array_in 𝓛 E b cap pad tok start o place 0 cap (cap + 2) [] here refl refl) $
    use1 𝓛 (‵ (froom (memory_type_if true (words_of Rt) (erased_type Rt) cap) b start) ⊛ ‵
    (tok (memory_type_if true (words_of Rt) (erased_type Rt) cap) (block_ptr b start)))
    (memory_out 𝓛 E tok b start 1 (cap + 2) (omega arith)) $ split ! $
    rewrite ! 0 (λ (p : Bool). ‵ (froom (memory_type_if p (words_of Rt) (erased_type Rt) cap) b
    start)) (sym pad) refl $
    rewrite ! 1 (λ (p : Bool). ‵ (tok (memory_type_if p (words_of Rt) (erased_type Rt) cap)
    (block_ptr b start))) (sym pad) refl $
    forget_but ! En (10 ∷ 2 ∷ 4 ∷ 5 ∷ []) refl $ freed start)))
    (λ other.
    let unpadded = about.ordinary (let none = nltb→le 0 front other in omega arith) in
    sets_last ! (of_opd ! (get ! refl)) refl (tt, tt) $
    use2 𝓛 (‵ (froom (memory_type_if false (words_of Rt) (erased_type Rt) cap) b o) ⊛ ‵
    (tok (memory_type_if false (words_of Rt) (erased_type Rt) cap) (block_ptr b o)))
    (ordinary_joined 𝓛 E b cap tok o o unpadded x.len) $ split ! $
    rewrite ! 0 (λ (p : Bool). ‵ (froom (memory_type_if p (words_of Rt) (erased_type Rt) cap) b
    o)) (sym unpadded) refl $
    rewrite ! 1 (λ (p : Bool). ‵ (tok (memory_type_if p (words_of Rt) (erased_type Rt) cap)
    (block_ptr b o))) (sym unpadded) refl $
    forget_but ! En (10 ∷ 2 ∷ 4 ∷ 5 ∷ []) refl $ freed o))))))
