-- This file proves the contract of `move_items_to`, which moves adjacent items from one block
-- to another block.
use Rattle.std.proofs.Common.{◌≡◌, ℕ, Some, None, ◌+◌, ◌*◌, ◌^◌, ◌<◌, ◌≤◌, List, ◌∷◌, [], ◌++◌}
use Rattle.std.proofs.Common.{length, refl, sym, ap, subst, ◌∙◌, arith, w64, Option, Bool}
use lib.Dec.{T as Holds}
use lib.ListN.{length-map, length-replicate}
use base.Fml.{ftrue, froom, flft}
use base.Fraction.{full_share}
use base.Logic.{SProp}
use mir.MapTy.{inst_fn}
use mir.Syntax.{Args, Fn, a_type, dcons, dnil, ty_array, ty_unit}
use mir.Val.{Val, WT, has_ty, vint, vptr, vunit}
use prog.Wp.{Env, WpFn}
use contract.Running.{tables}
use types.ByLocal.{alloc_all, pass_all, free_all, look_at, through, sets, lands_last, env, get}
use types.Kit.{‵, raw, ◌⊛◌, given, later, prop, at_ret, ◌$◌, ◌∵◌, !, qed, move, keep, use1, use2}
use types.Kit.{use3, split, split3, join, fsplit, fsplit3, fjoin, fjoin3, feq_i, rewrite, regoal}
use types.Kit.{learn, await, suffices, done}
use types.Part.{whole, sub, look_in}
use types.Run.{stop, fld, load, unit_lit, of_opd, no_more, and_then, first, blocks, exec, returns}
use types.Run.{enter}
use denote.Array.{Array}
use denote.Memory.{part_at}
use denote.Param.{bounded, layout, param}
use denote.RattleType.{RattleType, owns}
use denote.Signature.{plain, types_at}
use denote.Steps.{nothing}
use denote.Triple.Call.{calls_at_last}
use denote.Triple.Walked.{Stays, stay_ref, stay_dropped, walk_of, Goes-dropped, Goes-ref, ends_at}
use Rattle.core.proofs.alloc.Moves.{Copies, at_copies, Copies-goes, Copies-gives}
use Rattle.core.proofs.alloc.Shapes.{after}
use Rattle.core.proofs.atomic.Steps.{fm as framed}
use Rattle.core.proofs.mem.Param.{R}
use Rattle.core.proofs.ptr.copy_nonoverlapping.Met as copy_met
use Rattle.std.proofs.raw_atomic.Walks.{proved_at}
use Rattle.std.specs.Prelude.{IsSome, if◌then◌else◌}
use Rattle.thin_block.specs.Block.{block_view}
use Rattle.thin_block.specs.Cost.{Cost, add_moves, add_realloc}
use Rattle.thin_block.specs.Lends.{with_slots}
use Rattle.thin_block.specs.Ownership.{slots_own}
use Rattle.thin_block.specs.Slots.{filled_slots, empty_slots, slot, write_slots, clear_slots}
use Rattle.thin_block.specs.contracts.block.Block as block
use Rattle.thin_block.specs.contracts.block.Block.move_items_to.{ended, clauses}
use Rattle.thin_block.specs.contracts.block.Block.move_items_to.Key.{name as #self}
use Rattle.thin_block.proofs.Addresses.{near, slot_found}
use Rattle.thin_block.proofs.HeaderMemory.{Br, header, t, block_opens, block_closes}
use Rattle.thin_block.proofs.MethodSignatures.{item, source, others, dropped, all_go, heard_each}
use Rattle.thin_block.proofs.SlotMemory.{sz, reach, around, run_out, run_in, to_items, of_items}
use Rattle.thin_block.proofs.SlotMemory.{to_room, of_room}
use Rattle.thin_block.proofs.SlotsLemmas.{full-run, empty-run, length-run, length-written}
use Rattle.thin_block.proofs.WalkPrelude.{slot_at, says_all}
use Rattle.thin_block.proofs.block.Block.move_items_to.Code as compiled
use Rattle.thin_block.proofs.block.Block.move_items_to.Statement.{statement}

pub move_items_to_spec : {M : Type 1} → statement M
move_items_to_spec 𝓤 𝓛 𝓜 𝓡 wired T A B LT LA LB g d dd g' d' dd' met md met' md' =
    let H = 𝓛.H in
    let E = item LT in let Y = source LA g d dd in let Z = source LB g' d' dd' in
    let En₀ = ended T A B g d dd g' d' dd' in
    -- `Other` is `Br E Z`, except that the signature writes `B` as its type parameter 2.
    let Other : RattleType = block.the_row (param 0 T) (param 2 B) g' in
    let ps = En₀.signature.params in let ss = others (others (others ps)) in
    let c = clauses T A B g d dd g' d' dd' 𝓛 𝓜.mem 𝓡.returns in
    let args : Args = bounded (a_type ∷ a_type ∷ a_type ∷ []) (T, (A, (B, tt)))
    (dcons d (dcons dd (dcons d' (dcons dd' dnil)))) in
    let fn : Fn = inst_fn args compiled.function in
    let hs : Stays ps En₀.kept = (
      stay_ref (0 ∷ []) tt (plain (λ _. Br E Y)),
      (
        stay_dropped (slot_at 1 ps) En₀.kept.1.0,
        (stay_ref (1 ∷ []) tt (plain (λ _. Other)), dropped ss En₀.kept.1.1.1),
      ),
    ) in
    let 𝓣 = tables 𝓤 H 𝓜 𝓡 𝓡.env in
    proved_at 𝓛 En₀ hs c 𝓜 𝓡 (
      Goes-ref 𝓛 5 0 tt (plain (λ _. Br E Y)),
      (
        Goes-dropped 𝓛 5 (slot_at 1 ps) En₀.kept.1.0 (λ κs x f. refl),
        (
          Goes-ref 𝓛 5 1 tt (plain (λ _. Other)),
          all_go 𝓛 ss En₀.kept.1.1.1
              ((λ κs x f. refl), ((λ κs x f. refl), tt)),
        ),
      ),
    )
    (#self args) fn (compiled.unfolded 𝓤 H 𝓜 𝓡 wired (T, (A, (B, tt))) d dd d' dd') (λ z are.
    let Post : Val → SProp 𝓤 = (walk_of 𝓛 En₀ hs c).post z in
    let a = z.0.3 in
    let vss = z.0.4 in
    let (κ₀, (κ₁, (κ₂, (κ₃, (κ₄, _))))) = z.0.0 in
    let (q₀, (q₁, (q₂, (q₃, (q₄, _))))) = z.0.1 in
    let (from_block, (from, (to_block, (to, (k, _))))) = a in
    let relocates : Bool = z.1 in
    let ((is₀, _), ((is₁, f₁), ((is₂, _), ((is₃, f₃), ((is₄, fk), _))))) = are in
    let x = from_block.now in
    let (rb, ro) = from_block.ref_ptr in
    let y = to_block.now in
    let (sb, so) = to_block.ref_ptr in
    let cost : Cost = if relocates then add_realloc k x.cost else add_moves k y.cost in
    let s : ℕ = sz E in
    let Source : Type 0 = from + k ≤ length x.slots in
    let Target : Type 0 = to + k ≤ length y.slots in
    let Filled : Type 0 = (i : ℕ) → from ≤ i → i < from + k → IsSome (slot x.slots i) in
    let Empty : Type 0 = (i : ℕ) → to ≤ i → i < to + k → slot y.slots i ≡ None in
    qed 𝓛 (((‵ (flft κ₀ q₀) ⊛ ‵ (flft κ₁ q₁) ⊛ ‵ (flft κ₂ q₂) ⊛ ‵ (flft κ₃ q₃) ⊛ ‵ (flft κ₄ q₄)
    ⊛ ‵ ftrue) ⊛ ‵ (owns (types_at ps z.0.0) a vss))
    ∷ raw ((c z.0.0 z.0.3).requires z.1) ∷ []) ∵
    move ! (1 ∷ []) $ heard_each ! (_ ∷ _ ∷ _ ∷ Source ∷ Target ∷ Filled ∷ Empty ∷ _ ∷ _ ∷ [])
    (λ lives _ _ source target filled bare _ _.
    let items = full-run x.slots from k source filled in
    let xs : List T.Denot = items.0 in
    let long : length xs ≡ k = sym (length-map xs Some) ∙ ap length (sym items.1)
    ∙ length-run x.slots from k source in
    split ! $ split3 ! $ move ! (3 ∷ []) $ fsplit3 ! $ move ! (2 ∷ []) $ fsplit ! $ fsplit3 ! $
    move ! (4 ∷ []) $ fsplit3 ! $ keep ! (1 ∷ 2 ∷ 8 ∷ 4 ∷ 5 ∷ 9 ∷ 10 ∷ []) $
    regoal ! (λ (us : List Val). prop (WpFn 𝓤 H 𝓣.C 𝓣.Λ fn us Post))
    (λ n. is₀ n ++ (is₁ n ++ (is₂ n ++ (is₃ n ++ (is₄ n ++ []))))) refl $
    enter ! 𝓣.C 𝓣.Λ fn
    (vptr rb ro ∷ vint w64 from ∷ vptr sb so ∷ vint w64 to ∷ vint w64 k ∷ [])
    Post $
    alloc_all ! (λ l. pass_all ! refl (
      (tt, tt),
      (
        (tt, record { fits = f₁ }),
        ((tt, tt), ((tt, record { fits = f₃ }), ((tt, record { fits = fk }), tt))),
      ),
    ) $
    let En : Env 𝓤 H = env fn.locals l in
    block_opens E Y ! tt x rb ro (λ b o at fits. move ! (6 ∷ 7 ∷ 8 ∷ []) $
    block_opens E Z ! tt y sb so (λ b' o' at' fits'.
    -- The context is now: the header, the slots and the open borrow (4 entries) of `other`; the
    -- same six entries for `self`; the lifetime tokens of `T`, `A` and `B`.
    let src : ℕ = from * s + (o + 16) in
    let dst : ℕ = to * s + (o' + 16) in
    let light : k * s < 2 ^ 63 = reach (R E) k (length x.slots) fits (omega arith) in
    let fm = near E x.slots from fits (omega arith) in
    let fm' = near E y.slots to fits' (omega arith) in
    sets ! (of_opd ! (load ! (through ! refl (fld ! refl (stop !)))
    (look_in ! 8 (sub ! 0 refl (whole !))))) refl (tt, tt) $
    sets ! (of_opd ! (load ! (through ! refl (fld ! refl (stop !)))
    (look_in ! 2 (sub ! 0 refl (whole !))))) refl (tt, tt) $
    first ! $ blocks ! $ slot_found E ! b o from fm refl ((tt, tt), (tt, tt)) $
    slot_found E ! b' o' to fm' refl ((tt, tt), (tt, tt)) $
    move ! (1 ∷ []) $ use1 𝓛
    (‵ (slots_own (R E) (empty_slots k) b' dst) ⊛ ‵ (around E 𝓛 b' (o' + 16) y.slots to k))
    (run_out E 𝓛 b' (o' + 16) y.slots to k target (empty_slots k)
    (empty-run y.slots to k target bare)) $ split ! $
    use1 𝓛 (‵ (froom (ty_array (layout T) k) b' dst)) (to_room E 𝓛 b' k dst) $ move ! (8 ∷ []) $
    use1 𝓛 (‵ (slots_own (R E) (filled_slots xs) b src) ⊛ ‵ (around E 𝓛 b (o + 16) x.slots from k))
    (run_out E 𝓛 b (o + 16) x.slots from k source (filled_slots xs) items.1) $ split ! $
    use1 𝓛 (‵ (part_at (Array (R E) k) full_share xs b src)) (to_items E 𝓛 b k xs src long) $
    move ! (0 ∷ 2 ∷ []) $ move ! (14 ∷ []) $ split ! $ move ! (2 ∷ 3 ∷ 0 ∷ []) $
    -- The context is now: the items; their empty new slots; the lifetime tokens of `T`, `A` and
    -- `B`; the other slots of `self`; the other slots of `other`; the header and the open borrow of
    -- `other` (5 entries); the same for `self`.
    let G = Copies T 𝓛 𝓜.mem 𝓡.returns in
    let y₀ : G.Ghost = at_copies T 𝓛 𝓜.mem 𝓡.returns κ₂ q₂ b src b' dst k xs in
    use3 𝓛 (raw (G.pre y₀)) (Copies-goes T 𝓛 𝓜.mem 𝓡.returns κ₂ q₂ b src b' dst k xs lives fk light)
    $
    calls_at_last ! (framed 𝓛 𝓜 𝓡) G
    (copy_met.met 𝓤 𝓛 𝓜 𝓡 (compiled.calls-core::ptr::copy_nonoverlapping 𝓡.env wired) T LT) y₀
    (and_then ! (get ! refl) (and_then ! (get ! refl) (and_then ! (get ! refl) (no_more !)))) (λ v.
    use1 𝓛 (later (given (v ≡ vunit)
    (‵ (part_at (Array (R E) k) full_share xs b' dst) ⊛ ‵
    (froom (ty_array (layout T) k) b src) ⊛ ‵ (flft κ₂ q₂))))
    (Copies-gives T 𝓛 𝓜.mem 𝓡.returns κ₂ q₂ b src b' dst k xs v) $ await ! tt $
    learn ! (λ e. split3 ! $
    lands_last ! refl (subst (λ (u : Val). Holds (has_ty ty_unit u) × WT u) (sym e) (tt, tt)) $
    exec ! 𝓣.C 𝓣.Λ En (after 3 fn.body) (at_ret En Post) $
    sets ! (of_opd ! (unit_lit !)) refl (tt, tt) $
    -- The context now begins with the items at their new address and the memory at their old
    -- address.
    let written_to : List (Option T.Denot) = write_slots to (filled_slots xs) y.slots in
    let long_full : length (filled_slots xs) ≡ k = length-map xs Some ∙ long in
    let long_to : length written_to ≡ length y.slots =
    length-written to (filled_slots xs) y.slots (omega arith) in
    let y' : (Br E Z).Denot = record (with_slots y written_to long_to) { cost = cost } in
    use1 𝓛 (‵ (slots_own (R E) (filled_slots xs) b' dst)) (of_items E 𝓛 b' k xs dst) $
    move ! (0 ∷ 5 ∷ []) $
    use2 𝓛 (‵ (slots_own (R E) written_to b' (o' + 16)))
    (run_in E 𝓛 b' (o' + 16) y.slots to k target (filled_slots xs) long_full) $
    move ! (5 ∷ 0 ∷ 6 ∷ 7 ∷ 8 ∷ 9 ∷ []) $
    rewrite ! 0 (λ (n : ℕ). ‵ (header (t E Z) (R E) y.len n y.alloc b' o')) (sym long_to) refl $
    block_closes E Z ! tt y' b' o' sb so at' $
    -- The context is now: a ghost resource that records the value of `other`; the borrow of `other`
    -- and its lifetime token; the memory at the old address of the items; the lifetime tokens of
    -- `T`, `A` and `B`; the other slots of `self`; the header and the open borrow of `self` (5
    -- entries).
    let left : List (Option T.Denot) = clear_slots from k x.slots in
    let long_empty : length (empty_slots {T = T.Denot} k) ≡ k = length-replicate k None in
    let long_left : length left ≡ length x.slots =
    length-written from (empty_slots k) x.slots (omega arith) in
    let x' : (Br E Y).Denot = with_slots x left long_left in
    move ! (3 ∷ 6 ∷ []) $ use1 𝓛 (‵ (slots_own (R E) (empty_slots k) b src)) (of_room E 𝓛 b k src) $
    use2 𝓛 (‵ (slots_own (R E) left b (o + 16)))
    (run_in E 𝓛 b (o + 16) x.slots from k source (empty_slots k) long_empty) $
    move ! (6 ∷ 0 ∷ 7 ∷ 8 ∷ 9 ∷ 10 ∷ []) $
    rewrite ! 0 (λ (n : ℕ). ‵ (header (t E Y) (R E) x.len n x.alloc b o)) (sym long_left) refl $
    block_closes E Y ! tt x' b o rb ro at $
    -- The context is now: a ghost resource that records the value of `self`; the borrow of `self`
    -- and its lifetime token; the same three entries for `other`; the lifetime tokens of `T`,
    -- `A` and `B`.
    returns ! (look_at ! 0 refl) $ free_all ! refl $
    feq_i ! (List Val) vss.0 (vptr rb ro ∷ []) is₀ $ fjoin3 ! $ move ! (2 ∷ 3 ∷ []) $
    feq_i ! (List Val) vss.1.1.0 (vptr sb so ∷ []) is₂ $ fjoin3 ! $
    nothing ! $ nothing ! $ fjoin ! $ nothing ! $ fjoin ! $
    move ! (1 ∷ 0 ∷ []) $ fjoin ! $
    nothing ! $ fjoin ! $ move ! (1 ∷ 0 ∷ []) $ fjoin ! $
    feq_i ! (List Val) (vunit ∷ []) (vunit ∷ []) refl $ move ! (1 ∷ 0 ∷ []) $ join ! $
    move ! (3 ∷ 4 ∷ []) $ join ! $ move ! (3 ∷ 0 ∷ []) $ join ! $
    move ! (2 ∷ 0 ∷ []) $ join ! $ join ! $
    suffices ! _ (ends_at 𝓛 En₀ hs c z vunit tt (x', (tt, (y', (tt, (tt, tt)))))
    (tt, (tt, (tt, (tt, (tt, tt)))))) $
    says_all ! (_ ∷ _ ∷ []) (
      refl,
      ap (λ (ys : List (Option T.Denot)).
          record (block_view y) { slots = write_slots to ys y.slots; cost = cost }) (sym items.1),
    ) $ done !)))))))
