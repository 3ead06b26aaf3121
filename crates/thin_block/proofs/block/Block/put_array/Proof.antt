-- This file proves the contract of `put_array`, which moves the items of an array into adjacent
-- empty slots.
use Rattle.std.proofs.Common.{◌≡◌, ℕ, Some, ◌+◌, ◌*◌, List, ◌∷◌, [], ◌++◌, length, refl, ◌∙◌, arith}
use Rattle.std.proofs.Common.{w64, Option}
use lib.ListN.{length-map}
use base.Fml.{froom}
use base.Fraction.{full_share}
use base.Logic.{via}
use borrow.Table.OneValue.{part_in}
use mir.MapTy.{inst_fn}
use mir.Syntax.{ty_array}
use mir.Val.{Val, vint, vunit}
use types.ByLocal.{alloc_all, pass_all, free_all, look_at, through, sets, get}
use types.Kit.{‵, ◌⊛◌, given, learn, ◌$◌, !, move, keep, drop, use1, use2, split, fsplit, rewrite}
use types.Kit.{suffices, done}
use types.Run.{stop, init, unit_lit, of_opd, assigns_last, first, blocks, returns}
use denote.Array.{Array}
use denote.Exit.{all_rest}
use denote.Memory.{part_at}
use denote.Param.{layout, param, number, ArrayAt}
use denote.Param.Laws.{param_laws, array_at_laws}
use denote.RattleType.{RattleType}
use denote.Signature.{plain}
use denote.Triple.Walked.{walk_of, Goes-dropped, Goes-ref, ends_at}
use Rattle.core.proofs.mem.Param.{R}
use Rattle.std.proofs.raw_atomic.Walks.{proved_at}
use Rattle.thin_block.specs.Cost.{add_moves}
use Rattle.thin_block.specs.Lends.{with_slots}
use Rattle.thin_block.specs.Ownership.{slots_own}
use Rattle.thin_block.specs.Slots.{filled_slots, empty_slots, write_slots}
use Rattle.thin_block.specs.contracts.block.Block.put_array.{ended, clauses}
use Rattle.thin_block.specs.contracts.block.Block.put_array.Key.{name as #self}
use Rattle.thin_block.proofs.Addresses.{near, its_ptr, slot_found}
use Rattle.thin_block.proofs.HeaderMemory.{Br}
use Rattle.thin_block.proofs.MethodSignatures.{item, source, others, block_stays, begins_with}
use Rattle.thin_block.proofs.MethodSignatures.{enters, closes_over, args_at, leaves_unit, ptr_of}
use Rattle.thin_block.proofs.MethodSignatures.{opens_self, continues, word}
use Rattle.thin_block.proofs.SlotMemory.{counted, sz, around, run_out, run_in, of_items, to_room}
use Rattle.thin_block.proofs.SlotsLemmas.{empty-run, length-written}
use Rattle.thin_block.proofs.WalkPrelude.{slot_at, says_all, alone, nothing_left}
use Rattle.thin_block.proofs.block.Block.put_array.Code as compiled
use Rattle.thin_block.proofs.block.Block.put_array.Statement.{statement}

pub put_array_spec : {M : Type 1} → statement M
put_array_spec 𝓤 𝓛 𝓜 𝓡 wired T A N LT LA fits_N g d dd met md =
    let E = item LT in let Y = source LA g d dd in let En₀ = ended T A (number N) g d dd in
    let c = clauses T A (number N) g d dd 𝓛 𝓜.mem 𝓡.returns in
    let ss = others En₀.signature.params in let hs = block_stays E Y ss En₀.kept.1 in
    let fn = inst_fn (args_at E Y N) compiled.function in
    proved_at 𝓛 En₀ hs c 𝓜 𝓡 (
      Goes-ref 𝓛 4 0 tt (plain (λ _. Br E Y)),
      (
        Goes-dropped 𝓛 4 (slot_at 0 ss) En₀.kept.1.0 (λ κs x f. refl),
        ((λ κs x f vs ok. via 𝓤 _ (nothing_left 𝓛 x f) (𝓛.laws.⇛_intro _)), tt),
      ),
    )
    (#self (args_at E Y N)) fn
    (compiled.unfolded 𝓤 𝓛.H 𝓜 𝓡 wired (T, (A, (number N, tt))) d dd) (λ z are.
    let (r, (i, (values, _))) = z.0.3 in let (_, (_, (vs, _))) = z.0.4 in
    let ((is₀, _), ((is₁, fi), (shown, _))) = are in
    let x = r.now in
    let Arr : RattleType = ArrayAt (R E) (param 2 (number N)) in
    begins_with E Y 𝓛 ss z.0 (_ ∷ _ ∷ _ ∷ _ ∷ _ ∷ _ ∷ []) (λ _ _ _ _ within bare.
    let got = alone (ty_array (layout T) N) vs
    (((array_at_laws 2 (R E) (param_laws 0 T LT) N).lawful 𝓛).typed values vs shown)
    in
    let v : Val = got.0 in
    let is_v : vs ≡ v ∷ [] = got.1.0 in
    let good = got.1.1 in
    move ! (4 ∷ []) $ fsplit ! $ drop ! $ fsplit ! $ keep ! (2 ∷ 3 ∷ 4 ∷ 5 ∷ 0 ∷ []) $
    rewrite ! 4 (λ (us : List Val). ‵ (Arr.own_val values us)) is_v refl $
    enters ! fn (ptr_of r ∷ vint w64 i ∷ v ∷ [])
    (λ k. is₀ k ++ (is₁ k ++ (is_v k ++ []))) $
    alloc_all ! (λ l. pass_all ! refl ((tt, tt), (word fi, (good, tt))) $
    opens_self E Y ! tt r (λ b o at fits. let fm = near E x.slots i fits (omega arith) in
    sets ! (of_opd ! (its_ptr E Y ! refl)) refl (tt, tt) $ first ! $ blocks ! $
    slot_found E ! b o i fm refl ((tt, tt), (tt, tt)) $
    let here : ℕ = i * sz E + (o + 16) in
    sets ! (of_opd ! (get ! refl)) refl (tt, tt) $
    move ! (1 ∷ []) $ use1 𝓛
    (‵ (slots_own (R E) (empty_slots N) b here) ⊛ ‵ (around E 𝓛 b (o + 16) x.slots i N))
    (run_out E 𝓛 b (o + 16) x.slots i N within (empty_slots N)
    (empty-run x.slots i N within bare)) $
    split ! $
    use1 𝓛 (‵ (froom (ty_array (layout T) N) b here)) (to_room E 𝓛 b N here) $
    -- The context is now: memory for the array; the other slots; the header; the open borrow (4
    -- entries); the other lifetime tokens; the resources that the array owns.
    sets ! (of_opd ! (get ! refl)) refl good $
    assigns_last ! (of_opd ! (get ! refl)) (through ! refl (stop !)) (init ! 0 refl good) $
    continues ! 𝓜 𝓡 fn l 2 ((walk_of 𝓛 En₀ hs c).post z) $
    sets ! (of_opd ! (unit_lit !)) refl (tt, tt) $
    move ! (0 ∷ 8 ∷ []) $ use2 𝓛 (‵ (part_at (Array (R E) N) full_share values b here))
    (part_in 𝓛 (Array (R E) N) refl full_share values b here v) $
    use1 𝓛 (given (length values ≡ N) (‵ (part_at (Array (R E) N) full_share values b here)))
    (counted E 𝓛 b N values here) $ learn ! (λ count.
    let written_in : List (Option T.Denot) = write_slots i (filled_slots values) x.slots in
    let long_full : length (filled_slots values) ≡ N = length-map values Some ∙ count in
    let long : length written_in ≡ length x.slots = length-written i (filled_slots values)
    x.slots (omega arith) in
    let y : (Br E Y).Denot = record (with_slots x written_in long) { cost = add_moves N x.cost } in
    use1 𝓛 (‵ (slots_own (R E) (filled_slots values) b here)) (of_items E 𝓛 b N values here) $
    use2 𝓛 (‵ (slots_own (R E) written_in b (o + 16)))
    (run_in E 𝓛 b (o + 16) x.slots i N within (filled_slots values) long_full) $
    closes_over E Y ! tt r y b o at long $
    returns ! (look_at ! 0 refl) $ free_all ! refl $ leaves_unit E Y ! r y 2 is₀ $
    suffices ! _ (ends_at 𝓛 En₀ hs c z vunit tt
    (y, (tt, (all_rest (λ _. Unit {0}) (λ _. tt) values, tt))) (tt, (tt, (tt, tt)))) $
    says_all ! (_ ∷ []) refl $ done !)))))
