-- This file proves the contract of `none`, which returns a block without slots. Such a block points
-- to a static header with the capacity 0 and the length 0.
use Rattle.std.proofs.Common.{[], ◌∷◌, refl, arith, lit<, w64, None}
use base.Fml.{ftrue, fat, flent}
use base.Logic.{SProp}
use mir.MapTy.{inst_fn}
use mir.Syntax.{Ty, Fn, ty_int, ty_array, w128, Tys, ty_struct, tcons, tnil}
use mir.Val.{Val, vint, vstruct, vcons, vnil, Vals}
use contract.BorrowLft.{◌⊑◌}
use contract.Monad.{fact}
use contract.Running.{tables}
use types.ByLocal.{alloc_all, pass_all, free_all, look_at, get, through, sets, lands_as}
use types.Kit.{‵, raw, ◌⊛◌, later, ◌$◌, ◌∵◌, !, qed, move, keep, use1, split, split3, join, fjoin}
use types.Kit.{await, suffices, done}
use types.Part.{agg}
use types.Run.{stop, no_more, and_then, returns, enter, addr, statics}
use denote.Builtin.{usize}
use denote.Copied.{uint_Copied}
use denote.Memory.{part_at, shared_of}
use denote.Plain.{uint_in}
use denote.RattleType.{owns}
use denote.RawPtr.{block_ptr}
use denote.Signature.{types_at}
use denote.Steps.{nothing}
use denote.Triple.Entry.{alive}
use denote.Triple.Walked.{Stays, walk_of, ends_at}
use Rattle.core.proofs.alloc.Calls.{Al}
use Rattle.core.proofs.mem.Param.{El}
use Rattle.std.proofs.raw_atomic.Walks.{proved_at}
use Rattle.thin_block.specs.Cost.{no_cost}
use Rattle.thin_block.specs.contracts.block.Block.none.{ended, clauses}
use Rattle.thin_block.specs.contracts.block.Block.none.Key.{name as #self}
use Rattle.thin_block.proofs.HeaderMemory.{args, Br, block_val, block_made}
use Rattle.thin_block.proofs.WalkPrelude.{says_all}
use Rattle.thin_block.proofs.block.Block.none.Code as compiled
use Rattle.thin_block.proofs.block.Block.none.Statement.{statement}

pub none_spec : {M : Type 1} → statement M
none_spec 𝓤 𝓛 𝓜 𝓡 wired T A LT LA g d dd met md =
    let H = 𝓛.H in
    let E : El = record { row = T; laws = LT } in
    let Y : Al = record { row = A; laws = LA; g = g; d = d; drops = dd } in
    let En₀ = ended T A g d dd in
    let c = clauses T A g d dd 𝓛 𝓜.mem 𝓡.returns in
    let fn : Fn = inst_fn (args E Y) compiled.function in
    let hs : Stays En₀.signature.params En₀.kept = tt in
    let 𝓣 = tables 𝓤 H 𝓜 𝓡 𝓡.env in
    proved_at 𝓛 En₀ hs c 𝓜 𝓡 tt (#self (args E Y)) fn
    (compiled.unfolded 𝓤 H 𝓜 𝓡 wired (T, (A, tt)) d dd) (λ z are.
    let Post : Val → SProp 𝓤 = (walk_of 𝓛 En₀ hs c).post z in
    let (κT, (κA, _)) = z.0.0 in
    let a = z.0.3 in
    let vss = z.0.4 in
    qed 𝓛 ((raw (alive 𝓛 En₀.signature z.0.0 z.0.1) ⊛ ‵
    (owns (types_at En₀.signature.params z.0.0) a vss)) ∷ (raw (fact 𝓤 (κT ⊑ T.lives))
    ⊛ raw (fact 𝓤 (κA ⊑ A.lives)) ⊛ ‵ ftrue) ∷ []) ∵
    split ! $ keep ! (0 ∷ []) $
    enter ! 𝓣.C 𝓣.Λ fn [] Post $
    alloc_all ! (λ l. pass_all ! refl tt $
    statics ! (λ _. (tt, (record { fits = lit< tt }, (record { fits = lit< tt }, (tt, tt)))))
    (λ b s.
    lands_as ! refl refl (tt, tt) $
    sets ! (addr ! (through ! refl (stop !))) refl (tt, tt) $
    sets ! (agg ! (no_more !)) refl (tt, tt) $
    sets ! (agg ! (no_more !)) refl (tt, tt) $
    sets ! (agg ! (and_then ! (get ! refl)
    (and_then ! (get ! refl) (and_then ! (get ! refl) (no_more !))))) refl
    (tt, (tt, (tt, (tt, tt)))) $
    let word : Ty = ty_int w64 in
    let τs : Tys = tcons word (tcons word (tcons (ty_array (ty_int w128) 0) tnil)) in
    let vs : Vals = vcons (vint w64 0) (vcons (vint w64 0) (vcons (vstruct vnil) vnil)) in
    use1 𝓛 ((‵ (fat s word b 0 (vint w64 0)) ⊛ ‵ (fat s word b 8 (vint w64 0)) ⊛ ‵
    (fat s (ty_array (ty_int w128) 0) b 16 (vstruct vnil)) ⊛ ‵ ftrue) ⊛ raw
    (H.left s (ty_struct _ τs) τs b 0)) (𝓛.laws.struct_apart s _ τs b 0 vs) $ split ! $
    split3 ! $
    use1 𝓛 (‵ (part_at usize s 0 b 0)) (uint_in 𝓛 s w64 0 b 0) $
    use1 𝓛 (later (‵ (shared_of usize 0 b 0 []) ⊛ ‵ (flent [] (part_at usize s 0 b 0))))
    ((uint_Copied 𝓛 w64).lends s 0 b 0 []) $ await ! tt $ split ! $
    nothing ! $ fjoin ! $ move ! (2 ∷ []) $
    use1 𝓛 (‵ (part_at usize s 0 b 8)) (uint_in 𝓛 s w64 0 b 8) $
    use1 𝓛 (later (‵ (shared_of usize 0 b 8 []) ⊛ ‵ (flent [] (part_at usize s 0 b 8))))
    ((uint_Copied 𝓛 w64).lends s 0 b 8 []) $ await ! tt $ split ! $
    nothing ! $ fjoin ! $ move ! (2 ∷ 0 ∷ []) $ fjoin ! $ move ! (0 ∷ 5 ∷ []) $
    let x : (Br E Y).Denot =
    record {
      at = block_ptr b 0;
      item = record {};
      handle = record {};
      slots = [];
      len = 0;
      alloc = None;
      cost = no_cost;
      sound = (omega arith, refl, omega arith);
    } in
    returns ! (look_at ! 0 refl) $ free_all ! refl $ keep ! (0 ∷ 1 ∷ []) $
    nothing ! $ move ! (1 ∷ 0 ∷ []) $ block_made E Y ! x b 0 refl $
    nothing ! $ move ! (0 ∷ 1 ∷ []) $ join ! $ move ! (1 ∷ 0 ∷ []) $ join ! $
    suffices ! _ (ends_at 𝓛 En₀ hs c z (block_val (block_ptr b 0)) x tt tt) $
    says_all ! (_ ∷ []) refl $ done !)))
