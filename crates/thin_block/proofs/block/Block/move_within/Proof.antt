-- This file proves the contract of `move_within`, which moves the `k` items from slot `low + a`
-- onward to the slots from `low + d` onward, by a call of `copy_overlapping`.
use Rattle.std.proofs.Common.{◌≡◌, ℕ, Some, ◌+◌, ◌*◌, ◌^◌, ◌<◌, List, ◌∷◌, [], ◌++◌, length, refl}
use Rattle.std.proofs.Common.{sym, ap, subst, ◌∙◌, arith, w64, Option}
use lib.Dec.{T as Holds}
use lib.ListN.{length-map}
use base.Fml.{Fml, ftrue, fsep, flft}
use base.Logic.{emp, id⊢}
use mir.MapTy.{inst_fn}
use mir.Syntax.{ty_unit}
use mir.Val.{Val, WT, has_ty, vint, vptr, vunit, vbool}
use contract.BorrowLft.{◌⊑◌}
use contract.Monad.{fact, fact_i}
use types.ByLocal.{alloc_all, pass_all, free_all, look_at, is, sets, lands_last, get}
use types.Kit.{‵, raw, ◌⊛◌, some as exists, later, pick, await, ◌$◌, !, move, drop, use0, use1}
use types.Kit.{use2, split, join, suffices, done, feq_l}
use types.Run.{bin, size_word, unit_lit, of_opd, no_more, and_then, first, blocks, returns}
use denote.Builtin.{usize, unit, bool}
use denote.RattleType.{owns}
use denote.RawPtr.{RawPtr, block_ptr}
use denote.Shadow.{pure_i}
use denote.Steps.{nothing, only}
use denote.Triple.Call.{calls_at_last}
use denote.Triple.Spec.{triple_of}
use denote.Triple.Walked.{walk_of, ends_at}
use Rattle.core.specs.Ptr.{memory_before_copy, memory_after_copy}
use Rattle.core.proofs.atomic.Steps.{fm as framed}
use Rattle.core.proofs.mem.Param.{R}
use Rattle.core.proofs.slots.Leases.{uncapped}
use Rattle.std.proofs.raw_atomic.Walks.{proved_at}
use Rattle.thin_block.specs.Cost.{add_moves}
use Rattle.thin_block.specs.Lends.{with_slots}
use Rattle.thin_block.specs.Ownership.{slots_own}
use Rattle.thin_block.specs.Shifts.{IsShifted}
use Rattle.thin_block.specs.Slots.{move_slots}
use Rattle.thin_block.specs.contracts.block.Block.move_within.{ended, clauses}
use Rattle.thin_block.specs.contracts.block.Block.move_within.Key.{name as #self}
use Rattle.thin_block.specs.contracts.shifts.copy_overlapping as slide
use Rattle.thin_block.proofs.Addresses.{near, its_ptr, slot_found}
use Rattle.thin_block.proofs.HeaderMemory.{args, Br}
use Rattle.thin_block.proofs.MethodSignatures.{item, source, others, block_stays, goes, begins}
use Rattle.thin_block.proofs.MethodSignatures.{enters, closes_over, token_out, leaves_unit, ptr_of}
use Rattle.thin_block.proofs.MethodSignatures.{opens_self, continues, word}
use Rattle.thin_block.proofs.SlotMemory.{sz, reach}
use Rattle.thin_block.proofs.SlotsLemmas.{full-run, length-run, length-moved}
use Rattle.thin_block.proofs.WalkPrelude.{says_all}
use Rattle.thin_block.proofs.block.Block.move_within.Code as compiled
use Rattle.thin_block.proofs.block.Block.move_within.Statement.{statement}
use Rattle.thin_block.proofs.shifts.ShiftMemory.{further, slides, distance, shifted}
use Rattle.thin_block.proofs.shifts.copy_overlapping.Met as copy_overlapping_met

pub move_within_spec : {M : Type 1} → statement M
move_within_spec 𝓤 𝓛 𝓜 𝓡 wired T A LT LA g d dd met md =
    let E = item LT in let Y = source LA g d dd in let En₀ = ended T A g d dd in
    let c = clauses T A g d dd 𝓛 𝓜.mem 𝓡.returns in let ss = others En₀.signature.params in
    let hs = block_stays E Y ss En₀.kept.1 in let fn = inst_fn (args E Y) compiled.function in
    proved_at 𝓛 En₀ hs c 𝓜 𝓡
    (goes E Y ss 𝓛 En₀.kept.1 (
      (λ κs x f. refl),
      ((λ κs x f. refl), ((λ κs x f. refl), ((λ κs x f. refl), ((λ κs x f. refl), tt)))),
    ))
    (#self (args E Y)) fn (compiled.unfolded 𝓤 𝓛.H 𝓜 𝓡 wired (T, (A, tt)) d dd) (λ z are.
    let (r, (low, (a, (d, (k, (up, _)))))) = z.0.3 in
    let ((is₀, _), ((is₁, f₁), ((is₂, f₂), ((is₃, f₃), ((is₄, fk), (is₅, _)))))) = are in
    let x = r.now in let cap : ℕ = length x.slots in
    let from : ℕ = low + a in let to : ℕ = low + d in
    let (_, (κ₁, _)) = z.0.0 in let (_, (q₁, _)) = z.0.1 in
    begins E Y 𝓛 ss z.0 (_ ∷ _ ∷ _ ∷ _ ∷ _ ∷ _ ∷ _ ∷ [])
    (λ lives _ source target filled above below.
    let items = full-run x.slots from k source filled in
    let xs : List T.Denot = items.0 in
    let long : length xs ≡ k = sym (length-map xs Some) ∙ ap length (sym items.1)
    ∙ length-run x.slots from k source in
    enters ! fn (ptr_of r ∷ vint w64 low ∷ vint w64 a ∷ vint w64 d ∷ vint w64 k ∷ vbool up ∷ [])
    (λ n. is₀ n ++ (is₁ n ++ (is₂ n ++ (is₃ n ++ (is₄ n ++ (is₅ n ++ [])))))) $
    alloc_all ! (λ l. pass_all ! refl
    ((tt, tt), (word f₁, (word f₂, (word f₃, (word fk, ((tt, tt), tt)))))) $
    opens_self E Y ! tt r (λ b o at fits.
    let s : ℕ = sz E in
    let src : ℕ = from * s + (o + 16) in
    let dst : ℕ = to * s + (o + 16) in
    let light : k * s < 2 ^ 63 = reach (R E) k cap fits (omega arith) in
    let base : ℕ = low * s + (o + 16) in
    let fm = near E x.slots low fits (omega arith) in
    let fs = near E x.slots a fits (omega arith) in
    let ft = near E x.slots d fits (omega arith) in
    let source_at : src ≡ a * s + base = further low a from s (o + 16) (omega arith) in
    let target_at : dst ≡ d * s + base = further low d to s (o + 16) (omega arith) in
    sets ! (of_opd ! (its_ptr E Y ! refl)) refl (tt, tt) $ first ! $ blocks ! $
    slot_found E ! b o low fm refl ((tt, tt), (tt, tt)) $
    sets ! (is ! (bin ! (get ! refl) (size_word !)
    (record { fits = subst (λ (n : ℕ). n < 2 ^ 64) (sym (uncapped a s fs)) fs }))
    (ap (vint w64) (uncapped a s fs))) refl (tt, record { fits = fs }) $
    sets ! (is ! (bin ! (get ! refl) (get ! refl) tt) (ap (vptr b) (sym source_at))) refl (tt, tt) $
    sets ! (of_opd ! (get ! refl)) refl (tt, tt) $
    sets ! (is ! (bin ! (get ! refl) (size_word !)
    (record { fits = subst (λ (n : ℕ). n < 2 ^ 64) (sym (uncapped d s ft)) ft }))
    (ap (vint w64) (uncapped d s ft))) refl (tt, record { fits = ft }) $
    sets ! (is ! (bin ! (get ! refl) (get ! refl) tt) (ap (vptr b) (sym target_at))) refl (tt, tt) $
    let far : ℕ = distance E 𝓛 b (o + 16) x.slots from to k xs items.1 long up in
    let p = slides E 𝓛 b (o + 16) x.slots from to k xs items.1 long source target
    up above below in
    let Before : Fml = memory_before_copy (R E) up far k (block_ptr b src) (block_ptr b dst) xs in
    let After : Fml = memory_after_copy (R E) up far k (block_ptr b src) (block_ptr b dst) xs in
    let Shifted : Type 0 = IsShifted (R E) up far (block_ptr b src) (block_ptr b dst) in
    let Fits : Type 0 = k * s < 2 ^ 64 in
    let is_shifted : Shifted =
    shifted E 𝓛 b (o + 16) x.slots from to k xs items.1 long up above below in
    let fits_k : Fits = omega arith in
    move ! (1 ∷ []) $ use1 𝓛 (‵ Before ⊛ ‵ p.Rest) p.out $ split ! $ move ! (7 ∷ []) $
    token_out ! 1 z.0.0.1 z.0.1.1 $ move ! (2 ∷ 0 ∷ []) $
    -- The context is now: the items with the empty slots next to them; the lifetime tokens of `T`
    -- and `A`; the other slots; the header; the open borrow (4 entries).
    let G = triple_of 𝓛 (slide.signature T) (slide.spec T 𝓛 𝓜.mem 𝓡.returns) in
    let y₀ : G.Ghost = (
      (
        (κ₁, tt),
        (q₁, tt),
        tt,
        (block_ptr b src, (block_ptr b dst, (k, (up, tt)))),
        (vptr b src ∷ [], (vptr b dst ∷ [], (vint w64 k ∷ [], (vbool up ∷ [], tt)))),
      ),
      (far, xs),
    ) in
    use0 𝓛 (raw (fact 𝓤 Fits)) (fact_i 𝓤 Fits (emp 𝓤) fits_k) $ join ! $
    use0 𝓛 (raw (fact 𝓤 Shifted)) (fact_i 𝓤 Shifted (emp 𝓤) is_shifted) $ join ! $
    use0 𝓛 (raw (fact 𝓤 (κ₁ ⊑ T.lives))) (fact_i 𝓤 (κ₁ ⊑ T.lives) (emp 𝓤) lives) $ join ! $
    pure_i ! (owns (RawPtr ∷ RawPtr ∷ usize ∷ bool ∷ []) y₀.0.3 y₀.0.4)
    (tt, (tt, ((tt, tt), (tt, tt)))) (refl, (refl, ((refl, fk), (refl, tt)))) $
    nothing ! $ move ! (3 ∷ 0 ∷ []) $ join ! $ join ! $ join ! $ use1 𝓛 (raw (G.pre y₀)) (id⊢ 𝓤 _) $
    calls_at_last ! (framed 𝓛 𝓜 𝓡) G
    (copy_overlapping_met.met 𝓤 𝓛 𝓜 𝓡
    (compiled.calls-thin_block::shifts::copy_overlapping 𝓡.env wired) T LT) y₀
    (and_then ! (get ! refl)
    (and_then ! (get ! refl) (and_then ! (get ! refl) (and_then ! (get ! refl) (no_more !)))))
    (λ v.
    use1 𝓛 (later (exists
    (λ (r : Unit {0}). ((‵ (flft κ₁ q₁) ⊛ ‵ ftrue) ⊛ ‵ (unit.own_val r (v ∷ [])))
    ⊛ exists (λ (ws : Unit {0} × (Unit {0} × (Unit {0} × (Unit {0} × Unit {0})))). ‵
    (fsep ftrue (fsep ftrue (fsep ftrue (fsep ftrue ftrue)))) ⊛ ‵ After)))) (id⊢ 𝓤 _) $
    await ! tt $ pick ! (λ u. split ! $ split ! $ move ! (1 ∷ []) $
    feq_l ! (λ e. move ! (1 ∷ []) $
    pick ! (λ ws. split ! $ drop ! $ move ! (1 ∷ []) $ split ! $ move ! (1 ∷ []) $
    drop ! $ move ! (1 ∷ 0 ∷ []) $
    -- The context now begins with the moved items and the empty slots that they left.
    lands_last ! refl (subst (λ (u : Val). Holds (has_ty ty_unit u) × WT u)
    (sym (ap only e)) (tt, tt)) $
    continues ! 𝓜 𝓡 fn l 2 ((walk_of 𝓛 En₀ hs c).post z) $
    sets ! (of_opd ! (unit_lit !)) refl (tt, tt) $
    move ! (0 ∷ 3 ∷ []) $
    let gone : List (Option T.Denot) = move_slots from to k x.slots in
    let same : length gone ≡ cap = length-moved from to k x.slots source target in
    let y : (Br E Y).Denot = record (with_slots x gone same) { cost = add_moves k x.cost } in
    use2 𝓛 (‵ (slots_own (R E) gone b (o + 16))) p.back $ move ! (0 ∷ 3 ∷ 4 ∷ 5 ∷ 6 ∷ 7 ∷ []) $
    closes_over E Y ! tt r y b o at same $
    returns ! (look_at ! 0 refl) $ free_all ! refl $ move ! (3 ∷ 4 ∷ []) $ join ! $
    move ! (1 ∷ 2 ∷ 3 ∷ 0 ∷ []) $ leaves_unit E Y ! r y 5 is₀ $
    suffices ! _ (ends_at 𝓛 En₀ hs c z vunit tt (y, (tt, (tt, (tt, (tt, (tt, tt))))))
    (tt, (tt, (tt, (tt, (tt, (tt, tt))))))) $ says_all ! (_ ∷ _ ∷ []) (refl, same) $ done !))))))))
