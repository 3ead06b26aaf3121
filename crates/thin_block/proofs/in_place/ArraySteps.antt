-- These lemmas are steps of the proof of `resize_array`. They verify the statements that move an
-- array of values to another place, and a call of the allocator's method `grow` or `shrink`.
use Rattle.std.proofs.Common.{◌≡◌, ℕ, ◌^◌, ◌<◌, List, [], ◌∷◌, refl, sym, ap, subst}
use lib.Dec.{T as Holds}
use seplogic.Ra.Ura.{Ura}
use base.Fml.{Lft, Share, Fml, fat, froom, flft}
use base.Fraction.{full_share}
use base.Logic.{SProp, ex}
use borrow.Table.OneValue.{part_in, part_out}
use mir.Syntax.{Ty, ty_array, Body, seq, assign, place, copy, rv_opd, Callee, Opd as Operand, Place}
use mir.Syntax.{call, deref}
use mir.Val.{vptr, Val, WT, has_ty}
use prog.Memory.{Memory}
use prog.Routine.{Routine}
use prog.Wp.{Env, Calls, Loops}
use sound.WpLaws.{FmC}
use contract.BorrowLft.{◌⊑◌}
use contract.Monad.{Fun}
use types.ByLocal.{through, get, at, set, set_at}
use types.Kit.{Post as After, Item, Seq, ‵, raw, ◌⊛◌, some as exists, later, runs, settles, ◌$◌}
use types.Kit.{use1, use2, split, split3, move, group, pick, await, nth, del, put}
use types.Logic.{Logic}
use types.Run.{of_opd, load, look, init, stop, assigns, Opds, from as found, forget}
use denote.Array.{Array}
use denote.Laws.{Is, shows}
use denote.Memory.{part_at}
use denote.Param.{ArrayAt, layout, param, number}
use denote.Param.Laws.{param_laws, array_at_laws}
use denote.RattleType.{RattleType}
use denote.RawPtr.{block_ptr}
use denote.Steps.{peeks}
use denote.Triple.Call.{calls_at_last}
use denote.Triple.Statement.{Contract, Triple}
use Rattle.core.specs.Allocator.{block_with_items, resized_if_ok}
use Rattle.core.proofs.alloc.Calls.{Al, token, seen, Answer}
use Rattle.core.proofs.alloc.Resizes.{Flagged, Sizes, Resizes, at_resizes, Resizes-goes}
use Rattle.core.proofs.alloc.Resizes.{Resizes-gives}
use Rattle.core.proofs.mem.Param.{El, R, el_x}
use Rattle.thin_block.proofs.Addresses.{holds, free, Takes}

module _ (E : El) (k : ℕ) where
  -- `k` values are moved as one array, whose type in the compiled code is `ω`.
  abbrev ω : Ty
  ω = ty_array (layout E.row) k

  abbrev Values : RattleType
  Values = ArrayAt (R E) (param 2 (number k))

  -- `Good v` holds if `v` is a machine value of such an array.
  abbrev Good : Val → Type 0
  Good v = Holds (has_ty ω v) × WT v

  -- `Stored xs b at` is the array of the values `xs` at the offset `at` of the allocation `b`, and
  -- `Gap b at` is unused memory for an array.
  abbrev Stored : List (el_x E) → ℕ → ℕ → Fml
  Stored xs b at = part_at (Array (R E) k) full_share xs b at

  abbrev Gap : ℕ → ℕ → Fml
  Gap b at = froom ω b at

  module _ {M : Type 1} {𝓤 : Ura M} (𝓛 : Logic 𝓤) (Ev : Env 𝓤 𝓛.H) (b from to : ℕ)
      (xs : List (el_x E)) (Γ : List (Item 𝓤)) (p : ℕ) (v : Val) where
    -- `Apart` is the proof context before the array is read, whose machine value is `v`: its bytes,
    -- the gap, and what the values own. In `Read`, the local variable `p` has this value, too.
    abbrev Apart : List (Item 𝓤)
    Apart = ‵ (fat full_share ω b from v) ∷ ‵ (Gap b to) ∷ ‵ (Values.own_val xs (v ∷ [])) ∷ Γ

    abbrev Read : List (Item 𝓤)
    Read = set 𝓛 p (holds 𝓛 Ev p v) Apart

    -- `Other` are the entries of `Γ` afterwards.
    abbrev Other : List (Item 𝓤)
    Other = del 𝓛 0 (del 𝓛 0 (del 𝓛 0 Read))

    -- `Kept` states that the first three entries do not hold the local variable `p`.
    abbrev Kept : Type 2
    Kept = Read ≡ ‵ (fat full_share ω b from v) ∷ ‵ (Gap b to) ∷ ‵ (Values.own_val xs (v ∷ []))
        ∷ Other

    -- `reads_by` lists the context entries that the two statements read or replace, and
    -- `reads_with` lists what these entries must be. The local variables `p₁` and `p₂` hold the two
    -- addresses.
    abbrev reads_by : ℕ → ℕ → List (Item 𝓤)
    reads_by p₁ p₂ = at 𝓛 p₁ Apart ∷ at 𝓛 p Apart ∷ at 𝓛 p Read ∷ at 𝓛 p₂ Read ∷ []

    abbrev reads_with : ℕ → ℕ → List (Item 𝓤)
    reads_with p₁ p₂ = holds 𝓛 Ev p₁ (vptr b from) ∷ free 𝓛 Ev p Apart ∷ holds 𝓛 Ev p v
        ∷ holds 𝓛 Ev p₂ (vptr b to) ∷ []

module _ (E : El) (k : ℕ) {M : Type 1} {𝓤 : Ura M} {𝓛 : Logic 𝓤} {K : Type 0}
    {Γ : List (Item 𝓤)} where
  open 𝓛 use {H}

  -- Verifies the two statements that read an array of `k` values through the local variable `p₁`
  -- into `p`, and write it through `p₂`. Before, the values are at the offset `from` and the gap is
  -- at `to`; afterwards, they have changed places.
  pub moves_array : K → {C : Calls 𝓤 H} {Λ : Loops 𝓤 H} {Ev : Env 𝓤 H} {q : After 𝓤 H} {rest : Body}
      {p₁ p₂ p : ℕ} (b from to : ℕ) (xs : List (el_x E))
      → ((v : Val) → reads_by E k 𝓛 Ev b from to xs Γ p v p₁ p₂
      ≡ reads_with E k 𝓛 Ev b from to xs Γ p v p₁ p₂)
      → ((v : Val) → Kept E k 𝓛 Ev b from to xs Γ p v)
      → ((v : Val) → Good E k v → Takes 𝓛 Ev p v)
      → ((v : Val) → Seq K 𝓛 (‵ (Stored E k xs b to) ∷ ‵ (Gap E k b from)
      ∷ Other E k 𝓛 Ev b from to xs Γ p v) (runs C Λ Ev rest q))
      → Seq K 𝓛 (‵ (Stored E k xs b from) ∷ ‵ (Gap E k b to) ∷ Γ) (runs C Λ Ev
      (seq (assign (place p []) (rv_opd (copy (place p₁ (deref (ω E k) ∷ [])))))
      (seq (assign (place p₂ (deref (ω E k) ∷ [])) (rv_opd (copy (place p [])))) rest)) q)
  moves_array t {C} {Λ} {Ev} {q} {rest} {p₁} {p₂} {p} b from to xs met kept typed next =
      let Vs : RattleType = Values E k in
      let laws = (array_at_laws 2 (R E) (param_laws 0 E.row E.laws) k).lawful 𝓛 in
      use1 𝓛 (exists (λ (v : Val).
      ‵ (fat full_share (ω E k) b from v) ⊛ ‵ (Vs.own_val xs (v ∷ []))))
      (part_out 𝓛 (Array (R E) k) refl full_share xs b from) $ pick t (λ v. split t $
      move t (1 ∷ []) $ peeks t Vs (Is Vs) (shows 𝓛 Vs) xs (v ∷ []) (λ is_v.
      let good : Good E k v = (laws.typed xs (v ∷ []) is_v).0 in
      move t (1 ∷ 2 ∷ 0 ∷ []) $
      let here : nth 𝓛 0 (Apart E k 𝓛 Ev b from to xs Γ p v) ≡ ‵ (fat full_share (ω E k) b from v) =
      refl in
      assigns t (of_opd t (load t (through t (ap (nth 𝓛 0) (met v)) (stop t)) (look t 0 here)))
      (found t (stop t)) (set_at t p (ap (nth 𝓛 1) (met v)) (typed v good, good.1)) $
      assigns t (of_opd t (get t (ap (nth 𝓛 2) (met v))))
      (through t (ap (nth 𝓛 3) (met v)) (stop t)) (init t 1 (ap (nth 𝓛 1) (kept v)) good) $
      subst (λ (Δ : List (Item 𝓤)). Seq K 𝓛 (put 𝓛 1 (‵ (fat full_share (ω E k) b to v)) Δ)
      (runs C Λ Ev rest q)) (sym (kept v))
      (forget t 0 refl $ move t (1 ∷ 2 ∷ []) $
      use2 𝓛 (‵ (Stored E k xs b to)) (part_in 𝓛 (Array (R E) k) refl full_share xs b to v) $
      next v)))

module _ (E : El) (Y : Al) (φ : Sizes) {M : Type 1} {𝓤 : Ura M} (𝓛 : Logic 𝓤)
    (at_mem : Memory → SProp 𝓤) (run : Routine → Fun 𝓤) (κ κT : Lft) (q qT : Share) (p : ℕ × ℕ)
    (a : Y.row.Denot) (b o len current wanted : ℕ) (xs : List (el_x E)) where
  open 𝓛 use {H}

  abbrev pub Resizing : Contract 𝓤
  Resizing = Resizes Y E.row φ 𝓛 at_mem run

  abbrev pub at_resizing : Resizing.Ghost
  at_resizing = at_resizes Y E.row φ 𝓛 at_mem run κ κT q qT p a b o len current wanted xs

  -- `left r` states what the caller owns after the method has returned `r`.
  abbrev left : Answer.Denot → Fml
  left = resized_if_ok (token Y a) (R E) (block_ptr b o) len current wanted xs

  module _ {K : Type 0} {Γ : List (Item 𝓤)} {En : Env 𝓤 H} {C : Calls 𝓤 H} {Λ : Loops 𝓤 H}
      {f : Callee} {os : List Operand} {d : Place} {P : After 𝓤 H} where
    -- Verifies a call of `grow` or `shrink`, which is the last statement of a branch. `φ` states
    -- which sizes the method takes. It needs the block, the shared reference to the allocator, and
    -- two lifetime tokens, which it gives back. The rest of the proof may use the returned value.
    pub asks : K → FmC 𝓤 H 𝓛.laws C → Triple 𝓤 (C f) Resizing → κ ⊑ Y.row.lives → κT ⊑ E.row.lives
        → φ len current wanted → len < 2 ^ 64 → current < 2 ^ 64 → wanted < 2 ^ 64
        → Opds K 𝓛 (raw (Resizing.pre at_resizing) ∷ Γ) En os (Resizing.args at_resizing)
        → ((u : Val) → Seq K 𝓛 (raw (ex 𝓤 (Flagged 𝓛 left u)) ∷ ‵ (flft κ q) ∷ ‵ (flft κT qT) ∷ Γ)
        (settles En d u P))
        → Seq K 𝓛 (‵ (block_with_items (token Y a) (R E) (block_ptr b o) len current xs)
        ∷ ‵ (seen Y κ p a) ∷ ‵ (flft κ q) ∷ ‵ (flft κT qT) ∷ Γ) (runs C Λ En (call f os d) P)
    asks t fm met leA leT sizes fl fh fw reads next =
        group t 4 $
        use1 𝓛 (raw (Resizing.pre at_resizing)) (Resizes-goes Y E.row φ 𝓛 at_mem run κ κT q qT p a b
        o len current wanted xs leA leT sizes fl fh fw) $
        calls_at_last t fm Resizing met at_resizing reads (λ u.
        use1 𝓛 (later (raw (ex 𝓤 (Flagged 𝓛 left u)) ⊛ ‵ (flft κ q) ⊛ ‵ (flft κT qT)))
        (Resizes-gives Y E.row φ 𝓛 at_mem run κ κT q qT p a b o len current wanted xs u) $
        await t tt $ split3 t $ next u)
