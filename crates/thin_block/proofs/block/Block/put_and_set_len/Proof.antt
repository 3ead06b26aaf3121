-- This file proves the contract of `put_and_set_len`, which puts an item into an empty slot and
-- then writes the length of the block.
use Rattle.std.proofs.Common.{◌≡◌, ℕ, Some, ◌+◌, ◌*◌, ◌≤◌, List, ◌∷◌, [], ◌++◌, length, refl, sym}
use Rattle.std.proofs.Common.{subst, arith, w64, Option}
use lib.ListN.{set, length-set}
use base.Fml.{fat, froom}
use base.Fraction.{full_share}
use mir.MapTy.{inst_fn}
use mir.Syntax.{ty_int}
use mir.Val.{Val, vint, vunit}
use types.ByLocal.{alloc_all, pass_all, free_all, look_at, through, sets, get}
use types.Kit.{‵, ◌$◌, !, move, keep, drop, use1, use2, fsplit, fjoin, rewrite, suffices, done}
use types.Run.{stop, lit, bin, init, store, unit_lit, of_opd, assigns, assigns_last, first, blocks}
use types.Run.{returns}
use denote.Builtin.{usize}
use denote.Param.{layout}
use denote.Plain.{uint_in, uint_out}
use denote.RawPtr.{block_ptr, lies_at}
use denote.Triple.Walked.{walk_of, ends_at}
use Rattle.core.proofs.mem.Param.{R, lawful, one}
use Rattle.core.proofs.slice.Rows.{el_in}
use Rattle.std.proofs.raw_atomic.Walks.{proved_at}
use Rattle.thin_block.specs.Cost.{add_moves}
use Rattle.thin_block.specs.Lends.{with_slots}
use Rattle.thin_block.specs.Ownership.{slot_owns, slots_own}
use Rattle.thin_block.specs.contracts.block.Block.put_and_set_len.{ended, clauses}
use Rattle.thin_block.specs.contracts.block.Block.put_and_set_len.Key.{name as #self}
use Rattle.thin_block.proofs.Addresses.{near, its_ptr, slot_found, takes_slot}
use Rattle.thin_block.proofs.HeaderMemory.{alloc_there, args, Br, header, t}
use Rattle.thin_block.proofs.MethodSignatures.{item, source, others, block_stays, goes, begins_with}
use Rattle.thin_block.proofs.MethodSignatures.{enters, closes_over, leaves_unit, ptr_of, opens_self}
use Rattle.thin_block.proofs.MethodSignatures.{continues, word}
use Rattle.thin_block.proofs.SlotMemory.{sz, slot_in}
use Rattle.thin_block.proofs.WalkPrelude.{says_all}
use Rattle.thin_block.proofs.block.Block.put_and_set_len.Code as compiled
use Rattle.thin_block.proofs.block.Block.put_and_set_len.Statement.{statement}

pub put_and_set_len_spec : {M : Type 1} → statement M
put_and_set_len_spec 𝓤 𝓛 𝓜 𝓡 wired T A LT LA g d dd met md =
    let E = item LT in let Y = source LA g d dd in let En₀ = ended T A g d dd in
    let c = clauses T A g d dd 𝓛 𝓜.mem 𝓡.returns in let ss = others En₀.signature.params in
    let hs = block_stays E Y ss En₀.kept.1 in let fn = inst_fn (args E Y) compiled.function in
    proved_at 𝓛 En₀ hs c 𝓜 𝓡
    (goes E Y ss 𝓛 En₀.kept.1 ((λ κs x f. refl), ((λ κs x f. refl), ((λ κs x f. refl), tt))))
    (#self (args E Y)) fn (compiled.unfolded 𝓤 𝓛.H 𝓜 𝓡 wired (T, (A, tt)) d dd) (λ z are.
    let (r, (i, (value, (n, _)))) = z.0.3 in let (_, (_, (vs, _))) = z.0.4 in
    let ((is₀, _), ((is₁, fi), (shown, ((is₃, fl), _)))) = are in
    let x = r.now in
    let cap : ℕ = length x.slots in
    let got = one E vs ((lawful E 𝓛).typed value vs shown) in
    let v : Val = got.0 in let good = got.2 in
    begins_with E Y 𝓛 ss z.0 (_ ∷ _ ∷ _ ∷ _ ∷ _ ∷ []) (λ _ _ within bare counted.
    let alloc = alloc_there x.alloc x.slots x.sound.1 (omega arith) in
    let h : A.Denot = alloc.0 in
    move ! (4 ∷ []) $ fsplit ! $ drop ! $ fsplit ! $ keep ! (2 ∷ 3 ∷ 4 ∷ 5 ∷ 0 ∷ []) $
    rewrite ! 4 (λ (us : List Val). ‵ (T.own_val value us)) got.1 refl $
    enters ! fn (ptr_of r ∷ vint w64 i ∷ v ∷ vint w64 n ∷ [])
    (λ k. is₀ k ++ (is₁ k ++ (got.1 k ++ (is₃ k ++ [])))) $
    alloc_all ! (λ l. pass_all ! refl ((tt, tt), (word fi, (good, (word fl, tt)))) $
    opens_self E Y ! tt r (λ b o at fits.
    let here : ℕ = i * sz E + (o + 16) in let fm = near E x.slots i fits (omega arith) in
    sets ! (of_opd ! (its_ptr E Y ! refl)) refl (tt, tt) $ first ! $ blocks ! $
    slot_found E ! b o i fm refl ((tt, tt), (tt, tt)) $
    takes_slot E ! b (o + 16) x.slots i within bare $
    use1 𝓛 (‵ (froom (layout T) b here)) (𝓛.laws.raw-room (layout T) b here) $
    -- The context is now: memory for the item; the other slots; the header; the open borrow (4
    -- entries); the other lifetime tokens; the resources that the item owns.
    sets ! (of_opd ! (get ! refl)) refl good $
    assigns ! (of_opd ! (get ! refl)) (through ! refl (stop !)) (init ! 0 refl good) $
    move ! (0 ∷ 8 ∷ []) $
    use2 𝓛 (‵ (slot_owns (R E) (Some value) b here)) (el_in E 𝓛 b value here v) $
    let filled : List (Option T.Denot) = set x.slots i (Some value) in
    let long : length filled ≡ length x.slots = length-set x.slots i (Some value) in
    use2 𝓛 (‵ (slots_own (R E) filled b (o + 16)))
    (slot_in E 𝓛 b (o + 16) x.slots i within (Some value)) $ move ! (1 ∷ []) $
    rewrite ! 0 (λ (u : Option A.Denot). ‵ (header (t E Y) (R E) x.len cap u b o)) alloc.1 refl $
    fsplit ! $ move ! (1 ∷ []) $ fsplit ! $
    use1 𝓛 (‵ (fat full_share (ty_int w64) b (o + 8) (vint w64 x.len)))
    (uint_out 𝓛 full_share w64 x.len b (o + 8)) $
    rewrite ! 0 (λ (k : ℕ). ‵ (fat full_share (ty_int w64) b k (vint w64 x.len)))
    (let turned : o + 8 ≡ 8 + o = omega arith in turned) refl $
    -- The context is now: the length; the rest of the header, which includes the right to free the
    -- block; the capacity; the slots; the open borrow (4 entries); the other lifetime tokens.
    sets ! (bin ! (get ! refl) (lit ! tt) tt) refl (tt, tt) $
    assigns_last ! (of_opd ! (get ! refl)) (through ! refl (stop !))
    (store ! 0 refl (tt, record { fits = fl })) $
    continues ! 𝓜 𝓡 fn l 2 ((walk_of 𝓛 En₀ hs c).post z) $
    sets ! (of_opd ! (unit_lit !)) refl (tt, tt) $
    rewrite ! 0 (λ (k : ℕ). ‵ (fat full_share (ty_int w64) b k (vint w64 n)))
    (let turned : 8 + o ≡ o + 8 = omega arith in turned) refl $
    use1 𝓛 (‵ (lies_at usize full_share (block_ptr b (o + 8)) n))
    (uint_in 𝓛 full_share w64 n b (o + 8)) $ fjoin ! $ move ! (1 ∷ 0 ∷ []) $ fjoin ! $
    rewrite ! 0 (λ (u : Option A.Denot). ‵ (header (t E Y) (R E) n cap u b o)) (sym alloc.1) refl $
    let z₀ : (Br E Y).Denot = with_slots x filled long in
    let y : (Br E Y).Denot = record z₀ {
      len = n;
      cost = add_moves 1 x.cost;
      sound = (subst (λ (k : ℕ). n ≤ k) (sym long) counted, z₀.sound.1, z₀.sound.2);
    } in
    move ! (1 ∷ 0 ∷ []) $ closes_over E Y ! tt r y b o at long $
    returns ! (look_at ! 0 refl) $ free_all ! refl $ leaves_unit E Y ! r y 3 is₀ $
    suffices ! _ (ends_at 𝓛 En₀ hs c z vunit tt (y, (tt, (tt, (tt, tt))))
    (tt, (tt, (tt, (tt, tt))))) $ says_all ! (_ ∷ []) refl $ done !))))
