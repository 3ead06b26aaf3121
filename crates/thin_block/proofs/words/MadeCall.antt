-- These lemmas verify a call of the function `make_words`. They state what the caller owns before
-- and after the call.
use Rattle.std.proofs.Common.{◌≡◌, ℕ, ◌*◌, ◌^◌, ◌<◌, List, [], ◌∷◌, length, map, refl, ap, w64}
use seplogic.Ra.Ura.{Ura}
use base.Fml.{Lft, Share, Fml, ftrue, fsep, flft}
use base.Logic.{SProp, ent, sep, emp, id⊢}
use mir.Syntax.{Body, seq, Callee, Opd as Operand, Place, call}
use mir.Val.{Val, vint, vptr, vunit}
use prog.Memory.{Memory}
use prog.Routine.{Routine}
use prog.Wp.{Calls, Env, Loops}
use sound.WpLaws.{FmC}
use contract.BorrowLft.{◌⊑◌}
use contract.Monad.{Fun, fact, fact_i}
use types.Kit.{‵, raw, ◌⊛◌, some as exists, later, pick, updating, await, ◌$◌, ◌∵◌, !, qed, move}
use types.Kit.{keep, drop, use0, use1, split, split3, join, done, Post as After, Item, Step, feq_l}
use types.Kit.{group, regoal, runs, step, lands, now as at_once}
use types.Logic.{Logic, sem}
use types.Run.{Opds}
use denote.Builtin.{usize, unit}
use denote.Param.{param, number}
use denote.Param.Laws.{Laws}
use denote.RattleType.{RattleType, owns}
use denote.RawPtr.{RawPtr, block_ptr}
use denote.Shadow.{pure_i}
use denote.Steps.{nothing, only}
use denote.Triple.Call.{calls_at}
use denote.Triple.Spec.{triple_of}
use denote.Triple.Statement.{Contract, Triple}
use Rattle.core.proofs.mem.Param.{R}
use Rattle.std.specs.Mem.{type_size}
use Rattle.thin_block.specs.Ownership.{slots_own}
use Rattle.thin_block.specs.Slots.{filled_slots}
use Rattle.thin_block.specs.Words.{chunks_at, word}
use Rattle.thin_block.specs.contracts.words.make_words as F
use Rattle.thin_block.proofs.words.WordsMemory.{word_el, number_of_items}

module _ (T : RattleType) (L : Laws T) (m : ℕ) {M : Type 1} {𝓤 : Ura M} (𝓛 : Logic 𝓤)
    (at_mem : Memory → SProp 𝓤) (run : Routine → Fun 𝓤) where
  open 𝓛 use {H, A}

  abbrev Word : RattleType
  Word = R (word_el T L m)

  abbrev pub Making : Contract 𝓤
  Making = triple_of 𝓛 (F.signature T (number m)) (F.spec T (number m) 𝓛 at_mem run)

  module _ (κ κ' : Lft) (q q' : Share) (b o count : ℕ) (xss : List (List T.Denot)) where
    -- `at_making` contains the ghost arguments of a call of `make_words`.
    abbrev pub at_making : Making.Ghost
    at_making = (
      (
        (κ, (κ', tt)),
        (q, (q', tt)),
        tt,
        (block_ptr b o, (count, tt)),
        (vptr b o ∷ [], (vint w64 count ∷ [], tt)),
      ),
      xss,
    )

    abbrev Chunks : Fml
    Chunks = chunks_at (param 0 T) (number_of_items m) xss b o

    abbrev Words : Fml
    Words = slots_own Word (filled_slots (map (word (param 0 T) (number_of_items m)) xss)) b o

    pub Making-goes : κ ⊑ T.lives → κ' ⊑ [] → length xss ≡ count
        → type_size Word ≡ m * type_size (param 0 T)
        → count * (m * type_size (param 0 T)) < 2 ^ 64 → count < 2 ^ 64
        → ent 𝓤 (sep 𝓤 (sem 𝓛 Chunks) (sep 𝓤 (A.lft κ q) (A.lft κ' q'))) (Making.pre at_making)
    Making-goes leT leM counted dense short fits =
        let Counted : Type 0 = length xss ≡ count in
        let Dense : Type 0 = type_size Word ≡ m * type_size (param 0 T) in
        let Short : Type 0 = count * (m * type_size (param 0 T)) < 2 ^ 64 in
        qed 𝓛 (‵ Chunks ∷ ‵ (flft κ q) ∷ ‵ (flft κ' q') ∷ []) ∵
        use0 𝓛 (raw (fact 𝓤 Short)) (fact_i 𝓤 Short (emp 𝓤) short) $ join ! $
        use0 𝓛 (raw (fact 𝓤 Dense)) (fact_i 𝓤 Dense (emp 𝓤) dense) $ join ! $
        use0 𝓛 (raw (fact 𝓤 Counted)) (fact_i 𝓤 Counted (emp 𝓤) counted) $ join ! $
        use0 𝓛 (raw (fact 𝓤 (κ' ⊑ []))) (fact_i 𝓤 (κ' ⊑ []) (emp 𝓤) leM) $ join ! $
        use0 𝓛 (raw (fact 𝓤 (κ ⊑ T.lives))) (fact_i 𝓤 (κ ⊑ T.lives) (emp 𝓤) leT) $ join ! $
        pure_i ! (owns (RawPtr ∷ usize ∷ []) at_making.0.3 at_making.0.4) (tt, ((tt, tt), tt))
        (refl, ((refl, fits), tt)) $
        nothing ! $ move ! (4 ∷ 0 ∷ []) $ join ! $ move ! (3 ∷ 0 ∷ []) $ join ! $ join ! $ join ! $
        done !

    pub Making-gives : (v : Val) → ent 𝓤 (Making.post at_making v)
        (H.⇛ (sep 𝓤 (sem 𝓛 (unit.own_val tt (v ∷ []))) (sep 𝓤 (A.lft κ q)
        (sep 𝓤 (A.lft κ' q') (sem 𝓛 Words)))))
    Making-gives v =
        qed 𝓛 (raw (Making.post at_making v) ∷ []) ∵ updating ! $
        use1 𝓛 (later (exists (λ (r : Unit {0}).
        ((‵ (flft κ q) ⊛ ‵ (flft κ' q') ⊛ ‵ ftrue) ⊛ ‵ (unit.own_val r (v ∷ [])))
        ⊛ exists (λ (ws : Unit {0} × (Unit {0} × Unit {0})). ‵ (fsep ftrue (fsep ftrue ftrue)) ⊛ ‵
        Words)))) (id⊢ 𝓤 _) $ await ! tt $ pick ! (λ r. split ! $ split ! $ move ! (2 ∷ []) $
        pick ! (λ ws. split ! $ drop ! $ move ! (1 ∷ []) $ split3 ! $
        keep ! (4 ∷ 0 ∷ 1 ∷ 3 ∷ []) $ at_once ! $ done !))

    module _ {K : Type 0} {Γ : List (Item 𝓤)} {En : Env 𝓤 H} {C : Calls 𝓤 H} {Λ : Loops 𝓤 H}
        {f : Callee} {os : List Operand} {d : Place} {rest : Body} {P : After 𝓤 H} where
      -- Verifies a call of `make_words`, which returns `()` and gives the lifetime tokens back.
      pub makes : K → FmC 𝓤 H 𝓛.laws C → Triple 𝓤 (C f) Making → κ ⊑ T.lives → κ' ⊑ []
          → length xss ≡ count → type_size Word ≡ m * type_size (param 0 T)
          → count * (m * type_size (param 0 T)) < 2 ^ 64 → count < 2 ^ 64
          → Opds K 𝓛 (raw (Making.pre at_making) ∷ Γ) En os (Making.args at_making)
          → Step K 𝓛 (‵ Words ∷ ‵ (flft κ q) ∷ ‵ (flft κ' q') ∷ Γ) (lands C Λ En d vunit rest P)
          (‵ Chunks ∷ ‵ (flft κ q) ∷ ‵ (flft κ' q') ∷ Γ) (runs C Λ En (seq (call f os d) rest) P)
      makes t fm met leT leM counted dense short fits reads = step (λ s.
          group t 3 $
          use1 𝓛 (raw (Making.pre at_making)) (Making-goes leT leM counted dense short fits) $
          calls_at t fm Making met at_making reads (λ v.
          use1 𝓛 (later (‵ (unit.own_val tt (v ∷ [])) ⊛ ‵ (flft κ q) ⊛ ‵ (flft κ' q') ⊛ ‵ Words))
          (Making-gives v) $ await t tt $ split t $ feq_l t (λ is. split3 t $ move t (2 ∷ []) $
          regoal t (λ (u : Val). lands C Λ En d u rest P) (ap only is) refl $ s)))
