-- These lemmas verify a call of the function `fill_from`, which copies the items of a slice into a
-- value of type `Slots`.
use Rattle.std.proofs.Common.{◌≡◌, refl, sym, ap, ◌∙◌, ℕ, List, [], ◌∷◌, length}
use seplogic.Ra.Ura.{Ura}
use base.Fml.{Lft, Share, Fml, ftrue, fsep, flft}
use base.Logic.{SProp, ent, sep, ex, emp, id⊢, guard}
use mir.Syntax.{named, Dict}
use mir.Val.{Val}
use prog.Memory.{Memory}
use prog.Routine.{Routine}
use contract.BorrowLft.{◌⊑◌}
use contract.Monad.{Fun, fact, fact_i}
use types.Kit.{‵, raw, ◌⊛◌, some, later, ◌$◌, ◌∵◌, !, qed, move, keep, drop, use0, use1, split}
use types.Kit.{split3, join, pick, fjoin, rewrite, await, updating, done, show, check, now}
use types.Logic.{Logic, sem}
use denote.Param.{copied}
use denote.RawPtr.{block_ptr}
use denote.Ref.{Bor}
use denote.Slice.{ShrSlice, shr_slice_vals}
use denote.Steps.{only, heard, nothing}
use denote.Triple.Spec.{triple_of}
use denote.Triple.Statement.{Contract}
use Rattle.core.specs.Mem.Slots.{slots_items, slots_ptr, slots_len, SamePlaces, IsFull}
use Rattle.core.specs.declared.clone.Clone.{Ghosts}
use Rattle.core.proofs.slots.Opens.{row_val, words_val}
use Rattle.std_alloc.proofs.VecSteps.El.{El, el_x}
use Rattle.std_alloc.proofs.vec.Spares.{Row, Row-seen}
use Rattle.thin_block.specs.contracts.slots.fill_from as C

module _ (E : El) (g : Ghosts (el_x E)) (d : Dict) {M : Type 1} {𝓤 : Ura M} (𝓛 : Logic 𝓤)
    (at_mem : Memory → SProp 𝓤) (run : Routine → Fun 𝓤) where
  open 𝓛 use {H, A}

  abbrev pub Copied : Contract 𝓤
  Copied = triple_of 𝓛 (C.signature E.row) (C.spec E.row g d 𝓛 at_mem run)

  module _ (κ₀ κ₁ : Lft) (q₀ q₁ : Share) (out : κ₀ ⊑ κ₁) (r : (Row E).Denot) (b o n : ℕ)
      (s : Bor (List (el_x E))) where
    abbrev pub at_copied : Copied.Ghost
    at_copied = (
      (
        (κ₀, (κ₁, tt)),
        (q₀, (q₁, tt)),
        (out, tt),
        (r, (s, tt)),
        (row_val b o n ∷ [], (shr_slice_vals s, tt)),
      ),
      tt,
    )

    abbrev pub Slice : Fml
    Slice = (ShrSlice (named 0) κ₀ (copied 0 E.row)).own_val s (shr_slice_vals s)

    -- `IsCopy z` holds if `z` consists of the same slots as the argument `r` of the call, and these
    -- slots now hold the items of the copied slice.
    pub record IsCopy (z : (Row E).Denot) : Type 0 where
      pub same : SamePlaces r z
      pub items : slots_items z ≡ s.now
      pub full : IsFull z

    pub Copied-goes : κ₁ ⊑ E.row.lives → slots_len r ≡ length s.now
        → ent 𝓤 (sep 𝓤 (sem 𝓛 ((Row E).own_val r (row_val b o n ∷ [])))
        (sep 𝓤 (sem 𝓛 Slice) (sep 𝓤 (A.lft κ₀ q₀) (A.lft κ₁ q₁)))) (Copied.pre at_copied)
    Copied-goes le long =
        qed 𝓛 (‵ ((Row E).own_val r (row_val b o n ∷ [])) ∷ ‵ Slice ∷ (‵ (flft κ₀ q₀) ⊛ ‵
        (flft κ₁ q₁)) ∷ []) ∵ move ! (2 ∷ []) $ split ! $
        use0 𝓛 (raw (fact 𝓤 (slots_len r ≡ length s.now)))
        (fact_i 𝓤 (slots_len r ≡ length s.now) (emp 𝓤) long) $
        use0 𝓛 (raw (fact 𝓤 (κ₁ ⊑ E.row.lives))) (fact_i 𝓤 (κ₁ ⊑ E.row.lives) (emp 𝓤) le) $ join ! $
        -- The context is now: the required facts; the lifetime tokens; the value of type `Slots`;
        -- the slice.
        nothing ! $ move ! (5 ∷ 0 ∷ []) $ fjoin ! $ move ! (4 ∷ 0 ∷ []) $ fjoin ! $
        -- The context is now: the arguments; the required facts; the lifetime tokens.
        nothing ! $ move ! (4 ∷ 0 ∷ []) $ join ! $ move ! (3 ∷ 0 ∷ []) $ join ! $ join ! $ done !

    pub Copied-gives : (v : Val) → slots_ptr r ≡ block_ptr b o
        → ent 𝓤 (Copied.post at_copied v)
        (H.⇛ (ex 𝓤 (λ (z : (Row E).Denot). guard 𝓤
        ((v ≡ row_val b o (slots_len z)) × (slots_ptr z ≡ block_ptr b o) × IsCopy z)
        (sep 𝓤 (sem 𝓛 ((Row E).own_val z (row_val b o (slots_len z) ∷ [])))
        (sep 𝓤 (A.lft κ₀ q₀) (A.lft κ₁ q₁))))))
    Copied-gives v at =
        qed 𝓛 (raw (Copied.post at_copied v) ∷ []) ∵ updating ! $
        use1 𝓛 (later (some
        (λ (z : (Row E).Denot).
        ((‵ (flft κ₀ q₀) ⊛ ‵ (flft κ₁ q₁) ⊛ ‵ ftrue) ⊛ ‵ ((Row E).own_val z (v ∷ [])))
        ⊛ some (λ (ws : Unit {0} × (Unit {0} × Unit {0})). ‵ (fsep ftrue (fsep ftrue ftrue)) ⊛ raw
        (fact 𝓤 (SamePlaces r z)) ⊛ raw (fact 𝓤 (slots_items z ≡ s.now)) ⊛ raw
        (fact 𝓤 (IsFull z)))))) (id⊢ 𝓤 _) $
        await ! tt $ pick !
        (λ z. split ! $ move ! (1 ∷ []) $ pick ! (λ ws. split ! $ drop ! $ split3 ! $
        heard ! (SamePlaces r z)
        (λ same. heard ! (slots_items z ≡ s.now) (λ items. heard ! (IsFull z) (λ full.
        split ! $ split3 ! $ move ! (3 ∷ []) $ Row-seen E ! z (v ∷ []) (λ b' o' at' e fn.
        let here : slots_ptr z ≡ block_ptr b o = same.start ∙ at in
        let words : row_val b' o' (slots_len z) ≡ row_val b o (slots_len z) =
        λ i. words_val ((sym at' ∙ here) i) (slots_len z) in
        rewrite ! 0 (λ (u : Val). ‵ ((Row E).own_val z (u ∷ []))) words refl $ now ! $
        show ! (λ (z : (Row E).Denot). guard 𝓤
        ((v ≡ row_val b o (slots_len z)) × (slots_ptr z ≡ block_ptr b o) × IsCopy z)
        (sep 𝓤 (sem 𝓛 ((Row E).own_val z (row_val b o (slots_len z) ∷ [])))
        (sep 𝓤 (A.lft κ₀ q₀) (A.lft κ₁ q₁)))) z $
        check ! (ap only e ∙ words, here, record { same = same; items = items; full = full }) $
        keep ! (0 ∷ 1 ∷ 2 ∷ []) $ done !))))))
