-- These lemmas verify a call of the function `resize_array`. They state what the caller owns before
-- and after the call.
use Rattle.std.proofs.Common.{ℕ, List, [], ◌∷◌, refl, w64, ◌^◌, ◌<◌}
use seplogic.Ra.Ura.{Ura}
use base.Fml.{Lft, Share, Fml, ftrue, fsep, flft}
use base.Logic.{SProp, ent, sep, ex, emp, never, id⊢}
use mir.Syntax.{Body, seq, Callee, Opd as Operand, Place, call}
use mir.Val.{Val, vint, vptr}
use prog.Memory.{Memory}
use prog.Routine.{Routine}
use prog.Wp.{Calls, Env, Loops}
use sound.WpLaws.{FmC}
use contract.BorrowLft.{◌⊑◌}
use contract.Monad.{Fun, fact, fact_i}
use types.Kit.{‵, raw, ◌⊛◌, some as exists, later, pick, updating, await, ◌$◌, ◌∵◌, !, qed, move}
use types.Kit.{keep, drop, use0, use1, use2, split, split3, join, fjoin, feq_i, flt_i, done}
use types.Kit.{Post as After, Item, Seq, group, runs, lands, now as at_once}
use types.Logic.{Logic, sem}
use types.Run.{Opds}
use denote.Param.{number}
use denote.RawPtr.{block_ptr}
use denote.Steps.{nothing}
use denote.Triple.Call.{calls_at}
use denote.Triple.Spec.{triple_of}
use denote.Triple.Statement.{Contract, Triple}
use Rattle.core.proofs.alloc.Calls.{Al, token, seen, Answer}
use Rattle.core.proofs.alloc.Resizes.{Flagged, by_flag}
use Rattle.core.proofs.mem.Param.{El, R, el_x}
use Rattle.thin_block.specs.InPlace.{FitsGap, gapped_items, gapped_if_ok}
use Rattle.thin_block.specs.contracts.in_place.resize_array as F

module _ (E : El) (Y : Al) (k : ℕ) {M : Type 1} {𝓤 : Ura M} (𝓛 : Logic 𝓤)
    (at_mem : Memory → SProp 𝓤) (run : Routine → Fun 𝓤) where
  open 𝓛 use {H, A}

  abbrev pub Resizing : Contract 𝓤
  Resizing = triple_of 𝓛 (F.signature E.row Y.row (number k))
      (F.spec E.row Y.row (number k) Y.g Y.d Y.drops 𝓛 at_mem run)

  module _ (κ κT κA κK : Lft) (q qT qA qK : Share) (out : κ ⊑ κA) (p : ℕ × ℕ) (a : Y.row.Denot)
      (b o len current wanted : ℕ) (xs : List (el_x E)) where
    -- `at_resizing` contains the ghost arguments of a call of `resize_array`.
    abbrev pub at_resizing : Resizing.Ghost
    at_resizing = (
      (
        (κ, (κT, (κA, (κK, tt)))),
        (q, (qT, (qA, (qK, tt)))),
        (out, tt),
        (record { ref_ptr = p; now = a }, (block_ptr b o, (len, (current, (wanted, tt))))),
        (
          vptr p.0 p.1 ∷ [],
          (
            vptr b o ∷ [],
            (vint w64 len ∷ [], (vint w64 current ∷ [], (vint w64 wanted ∷ [], tt))),
          ),
        ),
      ),
      xs,
    )

    abbrev Block : Fml
    Block = gapped_items (token Y a) (R E) (block_ptr b o) k len current xs

    -- `leaves r` states what the caller owns after the call to `resize_array` has returned `r`.
    abbrev pub leaves : Answer.Denot → Fml
    leaves = gapped_if_ok (token Y a) (R E) (block_ptr b o) k len current wanted xs

    pub Resizing-goes : κT ⊑ E.row.lives → κA ⊑ Y.row.lives → κK ⊑ []
        → FitsGap (R E) k len current wanted xs → len < 2 ^ 64 → current < 2 ^ 64 → wanted < 2 ^ 64
        → ent 𝓤 (sep 𝓤 (sem 𝓛 Block) (sep 𝓤 (sem 𝓛 (seen Y κ p a))
        (sep 𝓤 (A.lft κ q) (sep 𝓤 (A.lft κT qT) (sep 𝓤 (A.lft κA qA) (A.lft κK qK))))))
        (Resizing.pre at_resizing)
    Resizing-goes leT leA leK fits fl fh fw =
        qed 𝓛 (‵ Block ∷ ‵ (seen Y κ p a) ∷ ‵ (flft κ q) ∷ ‵ (flft κT qT) ∷ ‵ (flft κA qA) ∷ ‵
        (flft κK qK) ∷ []) ∵
        use0 𝓛 (raw (fact 𝓤 (FitsGap (R E) k len current wanted xs)))
        (fact_i 𝓤 (FitsGap (R E) k len current wanted xs) (emp 𝓤) fits) $ join ! $
        use0 𝓛 (raw (fact 𝓤 (κK ⊑ []))) (fact_i 𝓤 (κK ⊑ []) (emp 𝓤) leK) $ join ! $
        use0 𝓛 (raw (fact 𝓤 (κA ⊑ Y.row.lives))) (fact_i 𝓤 (κA ⊑ Y.row.lives) (emp 𝓤) leA) $
        join ! $
        use0 𝓛 (raw (fact 𝓤 (κT ⊑ E.row.lives))) (fact_i 𝓤 (κT ⊑ E.row.lives) (emp 𝓤) leT) $
        join ! $ nothing ! $
        flt_i ! wanted (2 ^ 64) fw $
        feq_i ! (List Val) (vint w64 wanted ∷ []) (vint w64 wanted ∷ []) refl $ fjoin ! $ fjoin ! $
        flt_i ! current (2 ^ 64) fh $
        feq_i ! (List Val) (vint w64 current ∷ []) (vint w64 current ∷ []) refl $ fjoin ! $ fjoin ! $
        flt_i ! len (2 ^ 64) fl $
        feq_i ! (List Val) (vint w64 len ∷ []) (vint w64 len ∷ []) refl $ fjoin ! $ fjoin ! $
        feq_i ! (List Val) (vptr b o ∷ []) (vptr b o ∷ []) refl $ fjoin ! $ move ! (2 ∷ []) $
        feq_i ! (List Val) (vptr p.0 p.1 ∷ []) (vptr p.0 p.1 ∷ []) refl $ fjoin ! $ fjoin ! $
        -- The context is now: the arguments; one entry for the required facts and the memory of the
        -- block; four lifetime tokens.
        nothing ! $ move ! (6 ∷ 0 ∷ []) $ join ! $ move ! (5 ∷ 0 ∷ []) $ join ! $
        move ! (4 ∷ 0 ∷ []) $ join ! $ move ! (3 ∷ 0 ∷ []) $ join ! $ join ! $ join ! $ done !

    pub Resizing-gives : (v : Val) → ent 𝓤 (Resizing.post at_resizing v)
        (H.⇛ (sep 𝓤 (ex 𝓤 (Flagged 𝓛 leaves v)) (sep 𝓤 (A.lft κ q)
        (sep 𝓤 (A.lft κT qT) (sep 𝓤 (A.lft κA qA) (A.lft κK qK))))))
    Resizing-gives v =
        qed 𝓛 (raw (Resizing.post at_resizing v) ∷ []) ∵ updating ! $
        use1 𝓛 (later (exists (λ (r : Answer.Denot).
        ((‵ (flft κ q) ⊛ ‵ (flft κT qT) ⊛ ‵ (flft κA qA) ⊛ ‵ (flft κK qK) ⊛ ‵ ftrue) ⊛ ‵
        (Answer.own_val r (v ∷ [])))
        ⊛ exists (λ (ws : Unit {0} × (Unit {0} × (Unit {0} × (Unit {0} × (Unit {0} × Unit {0}))))).
        ‵ (fsep ftrue (fsep ftrue (fsep ftrue (fsep ftrue (fsep ftrue ftrue))))) ⊛ ‵ (leaves r)))))
        (id⊢ 𝓤 _) $ await ! tt $ pick ! (λ r. split ! $ move ! (1 ∷ []) $ pick ! (λ ws. split ! $
        drop ! $ move ! (1 ∷ []) $ split ! $ split3 ! $ move ! (3 ∷ 4 ∷ []) $
        use2 𝓛 (raw (ex 𝓤 (Flagged 𝓛 leaves v))) (by_flag 𝓛 leaves (id⊢ 𝓤 (never 𝓤)) v r) $
        move ! (3 ∷ []) $ split3 ! $ keep ! (3 ∷ 4 ∷ 5 ∷ 0 ∷ 1 ∷ []) $ at_once ! $ done !))

    module _ {K : Type 0} {Γ : List (Item 𝓤)} {En : Env 𝓤 H} {C : Calls 𝓤 H} {Λ : Loops 𝓤 H}
        {f : Callee} {os : List Operand} {d : Place} {rest : Body} {P : After 𝓤 H} where
      -- Verifies a call of `resize_array`, which gives the lifetime tokens back. The rest of the
      -- proof may use the returned value.
      pub resizes : K → FmC 𝓤 H 𝓛.laws C → Triple 𝓤 (C f) Resizing → κT ⊑ E.row.lives
          → κA ⊑ Y.row.lives → κK ⊑ [] → FitsGap (R E) k len current wanted xs → len < 2 ^ 64
          → current < 2 ^ 64 → wanted < 2 ^ 64
          → Opds K 𝓛 (raw (Resizing.pre at_resizing) ∷ Γ) En os (Resizing.args at_resizing)
          → ((v : Val) → Seq K 𝓛 (raw (ex 𝓤 (Flagged 𝓛 leaves v)) ∷ ‵ (flft κ q) ∷ ‵ (flft κT qT)
          ∷ ‵ (flft κA qA) ∷ ‵ (flft κK qK) ∷ Γ) (lands C Λ En d v rest P))
          → Seq K 𝓛 (‵ Block ∷ ‵ (seen Y κ p a) ∷ ‵ (flft κ q) ∷ ‵ (flft κT qT) ∷ ‵ (flft κA qA)
          ∷ ‵ (flft κK qK) ∷ Γ) (runs C Λ En (seq (call f os d) rest) P)
      resizes t fm met leT leA leK fits fl fh fw reads next =
          group t 6 $
          use1 𝓛 (raw (Resizing.pre at_resizing)) (Resizing-goes leT leA leK fits fl fh fw) $
          calls_at t fm Resizing met at_resizing reads (λ v.
          use1 𝓛 (later (raw (ex 𝓤 (Flagged 𝓛 leaves v)) ⊛ ‵ (flft κ q) ⊛ ‵ (flft κT qT) ⊛ ‵
          (flft κA qA) ⊛ ‵ (flft κK qK))) (Resizing-gives v) $
          await t tt $ split3 t $ move t (2 ∷ []) $ split3 t $ move t (3 ∷ 4 ∷ []) $ next v)
