-- This file proves the contract of `allocate_sized`, which allocates the memory of a block with
-- empty slots, and writes its header and, if the block is padded, the address of the memory.
use Rattle.std.proofs.Common.{◌≡◌, ℕ, ◌+◌, ◌*◌, ◌<◌, ◌^◌, List, [], ◌∷◌, ◌++◌, length, replicate}
use Rattle.std.proofs.Common.{Bool, true, refl, sym, ap, ◌∙◌, arith, lit<, w64, Some, None, Option}
use lib.Dec.{ltb→lt, nltb→le}
use lib.ListN.{length-replicate}
use base.Fml.{Fml, froom, flft}
use base.Logic.{SProp}
use mir.MapTy.{inst_fn}
use mir.Syntax.{Ty, Body, ty_int}
use mir.Val.{Val, WT, vint, vptr, vstruct, vcons, vnil}
use prog.Capped.{capped_is}
use prog.Memory.{size, align, capped}
use prog.Wp.{Env, Wp}
use contract.BorrowLft.{⊑_trans}
use contract.Lifetimes.{toks}
use contract.Running.{tables}
use types.ByLocal.{alloc_all, pass_all, free_all, look_at, get, get_in, through, sets, sets_last}
use types.ByLocal.{lands_as, env, holding, forget_but, get_tag}
use types.Kit.{Post as After, Item, Sq, prop, ‵, raw, ◌⊛◌, later, at_ret, ◌$◌, !, move, keep, drop}
use types.Kit.{use0, use1, use2, use3, split, split3, join, rewrite, fsplit, fjoin, await, suffices}
use types.Kit.{done, post}
use types.Match.{live, vrt, in_variant}
use types.Part.{whole, agg}
use types.Run.{stop, fld, lit, bin, init, of_opd, no_more, and_then, assigns, assigns_last, first}
use types.Run.{exec, branches, skips, returns, switches_on}
use denote.RattleType.{RattleType}
use denote.RawPtr.{Ptr, block_ptr}
use denote.Signature.{type_at}
use denote.Triple.Call.{calls_at}
use denote.Triple.Walked.{walk_of, ends_at}
use Rattle.core.specs.contracts.alloc.AllocError as AE
use Rattle.core.specs.declared.result.Result.TheVariants.{Ok, Err}
use Rattle.core.proofs.alloc.Calls.{token, Takes, at_takes, Answered, Takes-goes, Takes-gives}
use Rattle.core.proofs.alloc.Calls.{answers}
use Rattle.core.proofs.alloc.Shapes.{after, head, arm_body}
use Rattle.core.proofs.atomic.Steps.{fm}
use Rattle.core.proofs.mem.Param.{R}
use Rattle.std.proofs.raw_atomic.Walks.{proved_at}
use Rattle.std.specs.Mem.{type_size}
use Rattle.std_alloc.proofs.ResultValues.{ok_of, err_of}
use Rattle.thin_block.specs.Cost.{add_realloc, no_cost}
use Rattle.thin_block.specs.Ownership.{fits_block, slots_own, header_owns, dealloc_right}
use Rattle.thin_block.specs.Ownership.{dealloc_right_if, words_of, erased_type, pads, memory_type}
use Rattle.thin_block.specs.contracts.block.Block.allocate_sized.{ended, clauses}
use Rattle.thin_block.specs.contracts.block.Block.allocate_sized.Key.{name as #self}
use Rattle.thin_block.proofs.Addresses.{slot_found}
use Rattle.thin_block.proofs.BlockMemory.{Unaddressed, front_tells, memory_size, memory_align}
use Rattle.thin_block.proofs.BlockMemory.{memory_short, memory_apart}
use Rattle.thin_block.proofs.HeaderMemory.{args, Br, any_some, block_val, block_made}
use Rattle.thin_block.proofs.HeaderMemory.{header_written}
use Rattle.thin_block.proofs.MethodSignatures.{item, source, others, dropped, all_go, arrives}
use Rattle.thin_block.proofs.MethodSignatures.{heard_each, enters, blank, still, word}
use Rattle.thin_block.proofs.SlotMemory.{reach}
use Rattle.thin_block.proofs.WalkPrelude.{slot_at, then_runs, says_all, refused_made}
use Rattle.thin_block.proofs.block.Block.allocate_sized.Code as compiled
use Rattle.thin_block.proofs.block.Block.allocate_sized.Statement.{statement}
use Rattle.thin_block.proofs.padded.PaddedMemory.{padded_right_in}
use Rattle.thin_block.proofs.sizes.SizesLemmas.{fits_tells, rounded}

pub allocate_sized_spec : {M : Type 1} → statement M
allocate_sized_spec 𝓤 𝓛 𝓜 𝓡 wired T A LT LA g d dd met md =
    let E = item LT in let Y = source LA g d dd in let En₀ = ended T A g d dd in
    let c = clauses T A g d dd 𝓛 𝓜.mem 𝓡.returns in let ps = En₀.signature.params in
    let hs = dropped ps En₀.kept in let fn = inst_fn (args E Y) compiled.function in
    let 𝓣 = tables 𝓤 𝓛.H 𝓜 𝓡 𝓡.env in let C = 𝓣.C in let Λ = 𝓣.Λ in
    let q = still 𝓛 3 in
    proved_at 𝓛 En₀ hs c 𝓜 𝓡
    (all_go 𝓛 ps En₀.kept ((λ κs x f. refl), (q, (q, (q, (q, tt))))))
    (#self (args E Y)) fn (compiled.unfolded 𝓤 𝓛.H 𝓜 𝓡 wired (T, (A, tt)) d dd) (λ z are.
    let Post : Val → SProp 𝓤 = (walk_of 𝓛 En₀ hs c).post z in
    let (κ, (_, (κA, _))) = z.0.0 in
    let (q, _) = z.0.1 in
    let (alloc, (cap, (bytes, (al, (front, _))))) = z.0.3 in
    let ((is₀, _), ((is₁, fc), ((is₂, fb), ((is₃, fa), ((is₄, ff), _))))) = are in
    let B : RattleType = Br E Y in
    let Rt : RattleType = R E in
    let h = alloc.now in
    let at = alloc.ref_ptr in
    let s : ℕ = type_size Rt in
    let τ : Ty = memory_type Rt cap in
    let tok : Ty → Ptr → Fml = token Y h in
    let Out : RattleType = type_at En₀.signature.result z.0.0 in
    let y = at_takes Y 𝓛 𝓜.mem 𝓡.returns κ q at h bytes al τ in
    let Tokens : Item 𝓤 = ‵ (flft κ q) ⊛ raw (toks 𝓛 2 z.0.0.1 z.0.1.1) in
    arrives (slot_at 0 ps) (others ps) 𝓛 z.0 ((c z.0.0 z.0.3).requires z.1) (
    move ! (4 ∷ []) $ heard_each ! (_ ∷ _ ∷ _ ∷ _ ∷ _ ∷ _ ∷ _ ∷ [])
    (λ leT le some small bytes_are align_is front_is.
    fsplit ! $ drop ! $ keep ! (0 ∷ 1 ∷ 2 ∷ []) $
    -- The context is now: the shared reference to the allocator; its lifetime token; the other
    -- tokens.
    let fits : fits_block Rt cap ≡ true = small in
    let about = front_tells Rt cap front front_is in
    let short = memory_short Rt cap fits in
    let sized : capped (size τ) ≡ bytes = ap capped (memory_size Rt cap ∙ sym bytes_are)
    ∙ capped_is bytes (omega arith) in
    let laid : capped (align τ) ≡ al = ap capped (memory_align Rt cap ∙ sym align_is)
    ∙ capped_is al (let most = (rounded Rt 0).most in omega arith) in
    let near : cap * s < 2 ^ 64 = (let low = reach Rt cap cap fits (omega arith) in omega arith) in
    enters ! fn
    (vptr at.0 at.1 ∷ vint w64 cap ∷ vint w64 bytes ∷ vint w64 al ∷ vint w64 front ∷ [])
    (λ i. is₀ i ++ (is₁ i ++ (is₂ i ++ (is₃ i ++ (is₄ i ++ []))))) $
    alloc_all ! (λ l. pass_all ! refl
    ((tt, tt), (word fc, (word fb, (word fa, (word ff, tt))))) $
    let En : Env 𝓤 𝓛.H = env fn.locals l in
    use2 𝓛 (raw ((Takes Y 𝓛 𝓜.mem 𝓡.returns).pre y))
    (Takes-goes Y 𝓛 𝓜.mem 𝓡.returns κ q at h (⊑_trans κ κA A.lives z.0.2.0 le)
    bytes al τ sized laid fb fa) $
    calls_at ! (fm 𝓛 𝓜 𝓡) (Takes Y 𝓛 𝓜.mem 𝓡.returns) (met.allocate dd) y
    (and_then ! (get ! refl) (and_then ! (get ! refl) (and_then ! (get ! refl) (no_more !))))
    (λ v.
    use1 𝓛 (later (raw (Answered Y 𝓛 𝓜.mem 𝓡.returns h τ v) ⊛ ‵ (flft κ q)))
    (Takes-gives Y 𝓛 𝓜.mem 𝓡.returns κ q at h bytes al τ v) $ await ! tt $ split ! $
    move ! (1 ∷ 2 ∷ []) $ join ! $ move ! (1 ∷ []) $
    let both : Body = head (after 1 fn.body) in
    let made : Body = arm_body 0 both in
    let Then : After 𝓤 𝓛.H = then_runs 𝓛 C Λ En (after 2 fn.body) (at_ret En Post) in
    -- Writes the header of the block at the offset `o`, and returns the block.
    let written : (b o : ℕ) → Sq 𝓛 (‵ (froom (ty_int w64) b o) ∷ ‵ (froom (ty_int w64) b (8 + o))
    ∷ ‵ (slots_own Rt (replicate cap None) b (o + 16)) ∷ ‵ (dealloc_right tok Rt cap b o)
    ∷ Tokens ∷ holding 𝓛 En ((7, vptr b o) ∷ (2, vint w64 cap) ∷ []))
    (prop (Wp 𝓤 𝓛.H C Λ En (after 5 made) (post 𝓤 𝓛.H Then))) = λ b o.
    let p : Ptr = block_ptr b o in
    let words : WT (block_val p) = (tt, (tt, (tt, tt))) in
    let none : List (Option T.Denot) = replicate cap None in
    let long : length none ≡ cap = length-replicate cap None in
    let x : B.Denot =
    record {
      at = p;
      item = record {};
      handle = record {};
      slots = none;
      len = 0;
      alloc = Some h;
      cost = add_realloc 0 no_cost;
      sound = (
        omega arith,
        any_some none (omega arith),
        let few = (fits_tells Rt cap fits).few in omega arith,
      );
    } in
    exec ! C Λ En (after 5 made) Then $
    assigns ! (of_opd ! (get ! refl)) (through ! refl (stop !))
    (init ! 0 refl (tt, record { fits = fc })) $
    sets ! (bin ! (get ! refl) (lit ! tt) tt) refl (tt, tt) $
    assigns ! (of_opd ! (lit ! tt)) (through ! refl (stop !))
    (init ! 1 refl (tt, record { fits = lit< tt })) $
    sets ! (agg ! (no_more !)) refl (tt, tt) $
    sets ! (agg ! (no_more !)) refl (tt, tt) $
    sets ! (agg ! (and_then ! (get ! refl)
    (and_then ! (get ! refl) (and_then ! (get ! refl) (no_more !))))) refl (tt, words) $
    sets_last ! (agg ! (and_then ! (lit ! tt) (and_then ! (get ! refl) (no_more !)))) refl
    (tt, (record { fits = lit< tt }, (words, tt))) $
    exec ! C Λ En (after 2 fn.body) (at_ret En Post) $
    sets ! (of_opd ! (get ! refl)) refl (tt, (record { fits = lit< tt }, (words, tt))) $
    returns ! (look_at ! 0 refl) $ free_all ! refl $ move ! (0 ∷ 1 ∷ 3 ∷ []) $
    use3 𝓛 (‵ (header_owns tok Rt 0 cap b o)) (header_written 𝓛 tok Rt 0 cap b o fits) $
    rewrite ! 0 (λ (k : ℕ). ‵ (header_owns tok Rt 0 k b o)) (sym long) refl $
    block_made E Y ! x b o refl $
    use1 𝓛 (‵ (Out.own_val (Ok x) (live 0 (vcons (block_val p) vnil) ∷ [])))
    (ok_of 𝓛 B AE.the_row x (block_val p)) $
    blank ! 5 $ move ! (0 ∷ 1 ∷ []) $ join ! $ move ! (1 ∷ 0 ∷ []) $ join ! $
    suffices ! _ (ends_at 𝓛 En₀ hs c z (live 0 (vcons (block_val p) vnil)) (Ok x)
    (tt, (tt, (tt, (tt, (tt, tt))))) (tt, (tt, (tt, (tt, (tt, tt)))))) $
    says_all ! (_ ∷ []) refl $ done ! in
    answers Y ! 𝓜.mem 𝓡.returns h τ v
    (λ b start e.
    let o : ℕ = front + start in
    let Right : Bool → Fml = λ p.
    dealloc_right_if p tok (words_of Rt) (erased_type Rt) s cap b o in
    lands_as ! e refl (tt, (record { fits = lit< tt }, (tt, tt))) $
    first ! $ switches_on ! (get_tag ! (vrt ! refl (fld ! refl (stop !))) (whole !)) $
    exec ! C Λ En made Then $
    sets ! (of_opd ! (get_in ! (vrt ! refl (fld ! refl (stop !)))
    (in_variant ! 0 0 refl refl (whole !)))) refl (tt, tt) $
    use2 𝓛 (‵ (froom (ty_int w64) b o) ⊛ ‵ (froom (ty_int w64) b (8 + o)) ⊛ ‵
    (slots_own Rt (replicate cap None) b (o + 16)) ⊛ ‵
    (Unaddressed 𝓛 E b cap tok start o (pads Rt cap)))
    (memory_apart 𝓛 E b cap tok start o front front_is refl) $ split3 ! $ move ! (2 ∷ []) $
    split ! $ move ! (2 ∷ 3 ∷ 0 ∷ 1 ∷ []) $
    -- The context is now: memory for the capacity; memory for the length; the slots; the right to
    -- free the block, without the address of the memory; the lifetime tokens.
    sets ! (bin ! (get ! refl) (get ! refl) tt) refl (tt, tt) $
    sets ! (of_opd ! (get ! refl)) refl (tt, tt) $
    sets ! (bin ! (lit ! tt) (get ! refl) tt) refl (tt, tt) $
    first ! $ branches ! (get ! refl)
    (λ more.
    let pad : pads Rt cap ≡ true = about.padded (ltb→lt 0 front more) in
    let whole : front + 16 ≡ s = about.whole pad in
    let place : start + s ≡ o + 16 = omega arith in
    move ! (3 ∷ []) $ rewrite ! 0 (λ (p : Bool). ‵ (Unaddressed 𝓛 E b cap tok start o p)) pad refl $
    fsplit ! $
    slot_found E ! b o cap near refl ((tt, tt), (tt, tt)) $
    sets ! (of_opd ! (get ! refl)) refl (tt, tt) $
    assigns_last ! (of_opd ! (get ! refl)) (through ! refl (stop !)) (init ! 0 refl (tt, tt)) $
    fjoin ! $ use1 𝓛 (‵ (dealloc_right tok Rt cap b o))
    (padded_right_in 𝓛 E b cap pad tok 0 o start place) $ move ! (1 ∷ 2 ∷ 3 ∷ 0 ∷ []) $
    forget_but ! En (7 ∷ 2 ∷ []) refl $ written b o)
    (λ other.
    let no_front : front ≡ 0 = (let none = nltb→le 0 front other in omega arith) in
    let bare = about.ordinary no_front in
    skips ! $
    rewrite ! 3 (λ (p : Bool). ‵ (Unaddressed 𝓛 E b cap tok start o p)) bare refl $
    rewrite ! 3 (λ (p : Bool). ‵ (Right p)) (sym bare) refl $
    forget_but ! En (7 ∷ 2 ∷ []) refl $ written b o))
    (λ e.
    let none : WT (live 1 (vcons (vstruct vnil) vnil)) = (record { fits = lit< tt }, (tt, tt)) in
    lands_as ! e refl (tt, (record { fits = lit< tt }, (tt, tt))) $
    first ! $ switches_on ! (get_tag ! (vrt ! refl (fld ! refl (stop !))) (whole !)) $
    exec ! C Λ En (arm_body 1 both) Then $
    sets ! (of_opd ! (get_in ! (vrt ! refl (fld ! refl (stop !)))
    (in_variant ! 1 0 refl refl (whole !)))) refl (tt, tt) $
    sets_last ! (agg ! (and_then ! (lit ! tt) (and_then ! (get ! refl) (no_more !)))) refl
    (tt, none) $
    exec ! C Λ En (after 2 fn.body) (at_ret En Post) $
    sets ! (of_opd ! (get ! refl)) refl (tt, none) $
    returns ! (look_at ! 0 refl) $ free_all ! refl $
    use0 𝓛 (‵ (AE.the_row.own_val (record {}) (vstruct vnil ∷ []))) (refused_made 𝓛) $
    use1 𝓛 (‵ (Out.own_val (Err (record {})) (live 1 (vcons (vstruct vnil) vnil) ∷ [])))
    (err_of 𝓛 B AE.the_row (record {}) (vstruct vnil)) $
    blank ! 5 $ move ! (0 ∷ 1 ∷ []) $ join ! $ move ! (1 ∷ 0 ∷ []) $ join ! $
    suffices ! _ (ends_at 𝓛 En₀ hs c z (live 1 (vcons (vstruct vnil) vnil)) (Err (record {}))
    (tt, (tt, (tt, (tt, (tt, tt))))) (tt, (tt, (tt, (tt, (tt, tt)))))) $
    says_all ! (_ ∷ []) tt $ done !))))))
