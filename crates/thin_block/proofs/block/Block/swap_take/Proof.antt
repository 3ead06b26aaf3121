-- This file proves the contract of `swap_take`: one case for two different slots, and one case for
-- a single slot.
use Rattle.std.proofs.Common.{◌≡◌, ℕ, Some, None, ◌+◌, ◌*◌, ◌<◌, List, ◌∷◌, [], ◌++◌, length, refl}
use Rattle.std.proofs.Common.{sym, ap, ◌∙◌, arith, w64, Option}
use mathlib.Core.Logic.{inl, inr}
use lib.ListN.{set, length-set}
use lib.Seq.{set-set}
use base.Fml.{fat, froom}
use base.Fraction.{full_share}
use mir.MapTy.{inst_fn}
use mir.Val.{vint}
use types.ByLocal.{alloc_all, pass_all, free_all, look_at, through, sets, sets_last, get}
use types.Kit.{‵, ◌$◌, !, move, use1, use2, use3, rewrite, suffices, done}
use types.Run.{stop, look, load, store, of_opd, assigns, first, blocks, returns}
use denote.Param.{layout}
use denote.Triple.Walked.{walk_of, ends_at}
use Rattle.core.proofs.mem.Param.{R}
use Rattle.core.proofs.slice.Rows.{el_in}
use Rattle.std.proofs.raw_atomic.Walks.{proved_at}
use Rattle.std.specs.Prelude.{◌==◌, if◌then◌else◌}
use Rattle.thin_block.specs.Cost.{add_moves}
use Rattle.thin_block.specs.Lends.{with_slots}
use Rattle.thin_block.specs.Ownership.{slot_owns, slots_own}
use Rattle.thin_block.specs.Slots.{slot}
use Rattle.thin_block.specs.contracts.block.Block.swap_take.{ended, clauses}
use Rattle.thin_block.specs.contracts.block.Block.swap_take.Key.{name as #self}
use Rattle.thin_block.proofs.Addresses.{near, its_ptr, slot_found, takes_item, takes_two}
use Rattle.thin_block.proofs.HeaderMemory.{args, Br}
use Rattle.thin_block.proofs.MethodSignatures.{item, source, others, block_stays, goes, begins}
use Rattle.thin_block.proofs.MethodSignatures.{enters, closes_over, leaves_with, ptr_of, opens_self}
use Rattle.thin_block.proofs.MethodSignatures.{continues, word}
use Rattle.thin_block.proofs.SlotMemory.{two_slots, sz, slot_in}
use Rattle.thin_block.proofs.SlotsLemmas.{same-or-not, the-item, filled-within}
use Rattle.thin_block.proofs.WalkPrelude.{says_all}
use Rattle.thin_block.proofs.block.Block.swap_take.Code as compiled
use Rattle.thin_block.proofs.block.Block.swap_take.Statement.{statement}

pub swap_take_spec : {M : Type 1} → statement M
swap_take_spec 𝓤 𝓛 𝓜 𝓡 wired T A LT LA g d dd met md =
    let E = item LT in let Y = source LA g d dd in let En₀ = ended T A g d dd in
    let c = clauses T A g d dd 𝓛 𝓜.mem 𝓡.returns in let ss = others En₀.signature.params in
    let hs = block_stays E Y ss En₀.kept.1 in let fn = inst_fn (args E Y) compiled.function in
    proved_at 𝓛 En₀ hs c 𝓜 𝓡 (goes E Y ss 𝓛 En₀.kept.1 ((λ κs x f. refl), ((λ κs x f. refl), tt)))
    (#self (args E Y)) fn (compiled.unfolded 𝓤 𝓛.H 𝓜 𝓡 wired (T, (A, tt)) d dd) (λ z are.
    let (r, (i, (j, _))) = z.0.3 in let x = r.now in
    let ((is₀, _), ((is₁, fi), ((is₂, fj), _))) = are in
    begins E Y 𝓛 ss z.0 (_ ∷ _ ∷ _ ∷ _ ∷ []) (λ _ _ first_filled second_filled.
    let one = the-item (slot x.slots i) first_filled in
    let two = the-item (slot x.slots j) second_filled in
    let low : i < length x.slots = filled-within x.slots i first_filled in
    let low' : j < length x.slots = filled-within x.slots j second_filled in
    enters ! fn (ptr_of r ∷ vint w64 i ∷ vint w64 j ∷ [])
    (λ k. is₀ k ++ (is₁ k ++ (is₂ k ++ []))) $
    alloc_all ! (λ l. pass_all ! refl ((tt, tt), (word fi, (word fj, tt))) $
    opens_self E Y ! tt r (λ b o at fits.
    let here : ℕ = i * sz E + (o + 16) in let there : ℕ = j * sz E + (o + 16) in
    let near_i = near E x.slots i fits (omega arith) in
    let near_j = near E x.slots j fits (omega arith) in
    sets ! (of_opd ! (its_ptr E Y ! refl)) refl (tt, tt) $ first ! $ blocks ! $
    slot_found E ! b o i near_i refl ((tt, tt), (tt, tt)) $
    slot_found E ! b o j near_j refl ((tt, tt), (tt, tt)) $
    let after_it : List (Option T.Denot) = set (set x.slots i (slot x.slots j)) j None in
    let long : length after_it ≡ length x.slots = length-set (set x.slots i (slot x.slots j)) j None
    ∙ length-set x.slots i (slot x.slots j) in
    let y : (Br E Y).Denot = record (with_slots x after_it long)
    { cost = add_moves (if i == j then 0 else 1) x.cost } in
    elim (same-or-not i j) [
      | inr apart ↦
          let p = two_slots E 𝓛 b (o + 16) x.slots i j apart low low' in
          takes_two E ! b (o + 16) x.slots i j p (one.1, two.1) (λ v v' good good'.
          -- The context is now: the bytes of the item in slot `j`; what this item owns; the bytes
          -- of the item in slot `i`; what this item owns; the other slots; the header; the open
          -- borrow (4 entries); the other lifetime tokens.
          sets ! (of_opd ! (load ! (through ! refl (stop !)) (look ! 2 refl))) refl good $
          sets ! (of_opd ! (load ! (through ! refl (stop !)) (look ! 0 refl))) refl good' $
          assigns ! (of_opd ! (get ! refl)) (through ! refl (stop !)) (store ! 2 refl good') $
          sets_last ! (of_opd ! (get ! refl)) refl good $
          continues ! 𝓜 𝓡 fn l 2 ((walk_of 𝓛 En₀ hs c).post z) $
          sets ! (of_opd ! (get ! refl)) refl good $
          use1 𝓛 (‵ (froom (layout T) b there)) (𝓛.laws.at_room (layout T) b there v') $
          use1 𝓛 (‵ (slot_owns (R E) None b there)) (𝓛.laws.room-raw (layout T) b there) $
          move ! (2 ∷ 1 ∷ []) $ use2 𝓛 (‵ (slot_owns (R E) (Some two.0) b here))
          (el_in E 𝓛 b two.0 here v') $
          rewrite ! 0 (λ (c : Option T.Denot). ‵ (slot_owns (R E) c b here)) (sym two.1) refl $
          -- The context is now: slot `i`, with the item from slot `j`; slot `j`, which is empty;
          -- what the item owns that was in slot `i`; the other slots; the header; the open borrow
          -- (4 entries); the other lifetime tokens.
          move ! (0 ∷ 1 ∷ 3 ∷ []) $ use3 𝓛 (‵ (slots_own (R E) after_it b (o + 16)))
          (p.back (slot x.slots j) None) $
          move ! (0 ∷ 2 ∷ 3 ∷ 4 ∷ 5 ∷ 6 ∷ []) $
          closes_over E Y ! tt r y b o at long $
          returns ! (look_at ! 0 refl) $ free_all ! refl $ leaves_with E Y ! r y 2 is₀ $
          suffices ! _ (ends_at 𝓛 En₀ hs c z v one.0 (y, (tt, (tt, tt))) (tt, (tt, (tt, tt)))) $
          says_all ! (_ ∷ _ ∷ []) (one.1, refl) $ done !)
      | inl same ↦
          takes_item E ! b (o + 16) x.slots i low one.1 (λ v good.
          -- The context is now: the bytes of the item; what the item owns; the other slots; the
          -- header; the open borrow (4 entries); the other lifetime tokens.
          let Bits = λ (k : ℕ). ‵ (fat full_share (layout T) b (k * sz E + (o + 16)) v) in
          sets ! (of_opd ! (load ! (through ! refl (stop !)) (look ! 0 refl))) refl good $
          rewrite ! 0 Bits same refl $
          sets ! (of_opd ! (load ! (through ! refl (stop !)) (look ! 0 refl))) refl good $
          rewrite ! 0 Bits (sym same) refl $ assigns ! (of_opd ! (get ! refl))
          (through ! refl (stop !)) (store ! 0 refl good) $
          sets_last ! (of_opd ! (get ! refl)) refl good $
          continues ! 𝓜 𝓡 fn l 2 ((walk_of 𝓛 En₀ hs c).post z) $
          sets ! (of_opd ! (get ! refl)) refl good $
          use1 𝓛 (‵ (froom (layout T) b here)) (𝓛.laws.at_room (layout T) b here v) $
          use1 𝓛 (‵ (slot_owns (R E) None b here)) (𝓛.laws.room-raw (layout T) b here) $
          move ! (0 ∷ 2 ∷ []) $ use2 𝓛 (‵ (slots_own (R E) (set x.slots i None) b (o + 16)))
          (slot_in E 𝓛 b (o + 16) x.slots i low None) $
          rewrite ! 0 (λ (l : List (Option T.Denot)). ‵ (slots_own (R E) l b (o + 16)))
          (sym (ap (λ (k : ℕ). set (set x.slots i (slot x.slots j)) k None) (sym same)
          ∙ set-set x.slots i (slot x.slots j) None)) refl $
          move ! (0 ∷ 2 ∷ 3 ∷ 4 ∷ 5 ∷ 6 ∷ []) $
          closes_over E Y ! tt r y b o at long $
          returns ! (look_at ! 0 refl) $ free_all ! refl $ leaves_with E Y ! r y 2 is₀ $
          suffices ! _ (ends_at 𝓛 En₀ hs c z v one.0 (y, (tt, (tt, tt))) (tt, (tt, (tt, tt)))) $
          says_all ! (_ ∷ _ ∷ []) (one.1, refl) $ done !)
    ]))))
