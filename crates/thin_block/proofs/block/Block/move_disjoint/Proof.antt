-- This file proves the contract of `move_disjoint`, which moves items to slots that do not overlap
-- with their old slots.
use Rattle.std.proofs.Common.{◌≡◌, ℕ, Some, ◌+◌, ◌*◌, ◌^◌, ◌<◌, List, ◌∷◌, [], ◌++◌, length, refl}
use Rattle.std.proofs.Common.{sym, ap, subst, ◌∙◌, arith, w64, Option}
use lib.Dec.{T as Holds}
use lib.ListN.{length-map}
use base.Fml.{Fml, froom, flft}
use base.Fraction.{full_share}
use mir.MapTy.{inst_fn}
use mir.Syntax.{ty_array, ty_unit}
use mir.Val.{Val, WT, has_ty, vint, vunit}
use types.ByLocal.{alloc_all, pass_all, free_all, look_at, sets, lands_last, get}
use types.Kit.{‵, raw, ◌⊛◌, given, later, learn, await, ◌$◌, !, move, use1, use2, use3, split}
use types.Kit.{split3, join, fsplit, fjoin, suffices, done}
use types.Run.{unit_lit, of_opd, no_more, and_then, first, blocks, returns}
use denote.Array.{Array}
use denote.Memory.{part_at}
use denote.Param.{layout}
use denote.Triple.Call.{calls_at_last}
use denote.Triple.Walked.{walk_of, ends_at}
use Rattle.core.proofs.alloc.Moves.{Copies, at_copies, Copies-goes, Copies-gives}
use Rattle.core.proofs.atomic.Steps.{fm as framed}
use Rattle.core.proofs.mem.Param.{R}
use Rattle.core.proofs.ptr.copy_nonoverlapping.Met as copy_met
use Rattle.std.proofs.raw_atomic.Walks.{proved_at}
use Rattle.thin_block.specs.Cost.{add_moves}
use Rattle.thin_block.specs.Lends.{with_slots}
use Rattle.thin_block.specs.Ownership.{slots_own}
use Rattle.thin_block.specs.Slots.{move_slots}
use Rattle.thin_block.specs.contracts.block.Block.move_disjoint.{ended, clauses}
use Rattle.thin_block.specs.contracts.block.Block.move_disjoint.Key.{name as #self}
use Rattle.thin_block.proofs.Addresses.{near, its_ptr, slot_found, moves_on}
use Rattle.thin_block.proofs.HeaderMemory.{args, Br}
use Rattle.thin_block.proofs.MethodSignatures.{item, source, others, block_stays, goes, begins}
use Rattle.thin_block.proofs.MethodSignatures.{enters, closes_over, token_out, leaves_unit, ptr_of}
use Rattle.thin_block.proofs.MethodSignatures.{opens_self, continues, word}
use Rattle.thin_block.proofs.SlotMemory.{sz, reach}
use Rattle.thin_block.proofs.SlotsLemmas.{full-run, length-run, length-moved}
use Rattle.thin_block.proofs.WalkPrelude.{says_all}
use Rattle.thin_block.proofs.block.Block.move_disjoint.Code as compiled
use Rattle.thin_block.proofs.block.Block.move_disjoint.Statement.{statement}
use Rattle.thin_block.proofs.shifts.ShiftMemory.{Was, apart}

pub move_disjoint_spec : {M : Type 1} → statement M
move_disjoint_spec 𝓤 𝓛 𝓜 𝓡 wired T A LT LA g d dd met md =
    let E = item LT in let Y = source LA g d dd in let En₀ = ended T A g d dd in
    let c = clauses T A g d dd 𝓛 𝓜.mem 𝓡.returns in let ss = others En₀.signature.params in
    let hs = block_stays E Y ss En₀.kept.1 in let fn = inst_fn (args E Y) compiled.function in
    proved_at 𝓛 En₀ hs c 𝓜 𝓡
    (goes E Y ss 𝓛 En₀.kept.1 ((λ κs x f. refl), ((λ κs x f. refl), ((λ κs x f. refl), tt))))
    (#self (args E Y)) fn (compiled.unfolded 𝓤 𝓛.H 𝓜 𝓡 wired (T, (A, tt)) d dd) (λ z are.
    let (r, (from, (to, (k, _)))) = z.0.3 in
    let ((is₀, _), ((is₁, f₁), ((is₂, f₂), ((is₃, fk), _)))) = are in
    let x = r.now in let cap : ℕ = length x.slots in
    let (_, (κ₁, _)) = z.0.0 in let (_, (q₁, _)) = z.0.1 in
    begins E Y 𝓛 ss z.0 (_ ∷ _ ∷ _ ∷ _ ∷ _ ∷ _ ∷ _ ∷ []) (λ lives _ source target filled bare far.
    let items = full-run x.slots from k source filled in
    let xs : List T.Denot = items.0 in
    let long : length xs ≡ k = sym (length-map xs Some) ∙ ap length (sym items.1)
    ∙ length-run x.slots from k source in
    enters ! fn (ptr_of r ∷ vint w64 from ∷ vint w64 to ∷ vint w64 k ∷ [])
    (λ n. is₀ n ++ (is₁ n ++ (is₂ n ++ (is₃ n ++ [])))) $
    alloc_all ! (λ l. pass_all ! refl ((tt, tt), (word f₁, (word f₂, (word fk, tt)))) $
    opens_self E Y ! tt r (λ b o at fits.
    let s : ℕ = sz E in
    let src : ℕ = from * s + (o + 16) in
    let dst : ℕ = to * s + (o + 16) in
    let light : k * s < 2 ^ 63 = reach (R E) k cap fits (omega arith) in
    let fm = near E x.slots from fits (omega arith) in
    let fm' = near E x.slots to fits (omega arith) in
    sets ! (of_opd ! (its_ptr E Y ! refl)) refl (tt, tt) $ first ! $ blocks ! $
    slot_found E ! b o from fm refl ((tt, tt), (tt, tt)) $
    sets ! (of_opd ! (get ! refl)) refl (tt, tt) $ moves_on E ! b (o + 16) to fm' refl (tt, tt) $
    let p = apart E 𝓛 b (o + 16) x.slots from to k xs items.1 long source target bare far in
    let Before : Fml = Was E 𝓛 b (o + 16) x.slots from to k xs items.1 long in
    move ! (1 ∷ []) $ use1 𝓛 (‵ Before ⊛ ‵ p.Rest) p.out $ split ! $ fsplit ! $ move ! (8 ∷ []) $
    token_out ! 1 z.0.0.1 z.0.1.1 $ move ! (2 ∷ 3 ∷ 0 ∷ []) $
    -- The context is now: the items in their old slots; the empty new slots; the lifetime tokens of
    -- `T` and `A`; the other slots; the header; the open borrow (4 entries).
    let G = Copies T 𝓛 𝓜.mem 𝓡.returns in
    let y₀ : G.Ghost = at_copies T 𝓛 𝓜.mem 𝓡.returns κ₁ q₁ b src b dst k xs in
    use3 𝓛 (raw (G.pre y₀)) (Copies-goes T 𝓛 𝓜.mem 𝓡.returns κ₁ q₁ b src b dst k xs lives fk light)
    $
    calls_at_last ! (framed 𝓛 𝓜 𝓡) G
    (copy_met.met 𝓤 𝓛 𝓜 𝓡 (compiled.calls-core::ptr::copy_nonoverlapping 𝓡.env wired) T LT) y₀
    (and_then ! (get ! refl) (and_then ! (get ! refl) (and_then ! (get ! refl) (no_more !)))) (λ v.
    use1 𝓛 (later (given (v ≡ vunit)
    (‵ (part_at (Array (R E) k) full_share xs b dst) ⊛ ‵
    (froom (ty_array (layout T) k) b src) ⊛ ‵ (flft κ₁ q₁))))
    (Copies-gives T 𝓛 𝓜.mem 𝓡.returns κ₁ q₁ b src b dst k xs v) $ await ! tt $
    learn ! (λ e. split3 ! $
    lands_last ! refl (subst (λ (u : Val). Holds (has_ty ty_unit u) × WT u) (sym e) (tt, tt)) $
    continues ! 𝓜 𝓡 fn l 2 ((walk_of 𝓛 En₀ hs c).post z) $
    sets ! (of_opd ! (unit_lit !)) refl (tt, tt) $
    fjoin ! $ move ! (0 ∷ 3 ∷ []) $
    let gone : List (Option T.Denot) = move_slots from to k x.slots in
    let same : length gone ≡ cap = length-moved from to k x.slots source target in
    let y : (Br E Y).Denot = record (with_slots x gone same) { cost = add_moves k x.cost } in
    use2 𝓛 (‵ (slots_own (R E) gone b (o + 16))) p.back $ move ! (0 ∷ 3 ∷ 4 ∷ 5 ∷ 6 ∷ 7 ∷ []) $
    closes_over E Y ! tt r y b o at same $
    returns ! (look_at ! 0 refl) $ free_all ! refl $ move ! (3 ∷ 4 ∷ []) $ join ! $
    move ! (1 ∷ 2 ∷ 3 ∷ 0 ∷ []) $ leaves_unit E Y ! r y 3 is₀ $
    suffices ! _ (ends_at 𝓛 En₀ hs c z vunit tt (y, (tt, (tt, (tt, tt))))
    (tt, (tt, (tt, (tt, tt))))) $ says_all ! (_ ∷ []) refl $ done !))))))
