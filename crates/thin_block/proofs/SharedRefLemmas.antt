-- These lemmas are about shared references to a block. `block_seen` splits such a reference into
-- its parts, and `run_seen` makes a slice from a shared reference to contiguous items.
use Rattle.std.proofs.Common.{◌≡◌, ℕ, zero, suc, Some, None, ◌+◌, ◌*◌, ◌≤◌, List, [], ◌∷◌, ◌++◌}
use Rattle.std.proofs.Common.{length, Bool, true, refl, sym, ap, subst, ◌∙◌, arith, Option}
use native.Mathlib.Nat.{zero-mul, suc-mul}
use lib.ListN.{drop, take-append-drop}
use seplogic.Ra.Ura.{Ura}
use base.Fml.{Lft, Fml, feq, fhide}
use base.Logic.{ent, sep, via, id⊢, never, snd∗}
use borrow.Author.Tests.{clash}
use types.Kit.{Item, Goal, Seq, ‵, ◌⊛◌, ◌$◌, ◌∵◌, !, qed, by, move, keep, use1, split, split3}
use types.Kit.{rewrite, fsplit, feq_i, feq_l, done, frame}
use types.Logic.{Logic, sem}
use denote.Builtin.{usize}
use denote.Memory.{hidden_shr, shared_of}
use denote.Opens.{unhide}
use denote.Param.{param}
use denote.RattleType.{RattleType}
use denote.RawPtr.{RawPtr, block_ptr, in_a_block}
use denote.Slice.{elements_shared}
use denote.Steps.{nothing}
use denote.Struct.Lending.{lent_out}
use denote.Struct.Owning.{shape}
use denote.Struct.Struct.{Struct}
use Rattle.core.specs.contracts.marker.PhantomData as marker
use Rattle.core.proofs.alloc.Calls.{Al}
use Rattle.core.proofs.mem.Param.{El, R, el_x}
use Rattle.std.specs.Option.{is_some}
use Rattle.thin_block.specs.Ownership.{is_nonempty, fits_block, block_shares, slot_shares}
use Rattle.thin_block.specs.Ownership.{slots_share}
use Rattle.thin_block.specs.Slots.{filled_slots, slot_range}
use Rattle.thin_block.specs.contracts.block.Block as block
use Rattle.thin_block.proofs.HeaderMemory.{Br}
use Rattle.thin_block.proofs.SlotMemory.{Slot, sz}
use Rattle.thin_block.proofs.sizes.SizesLemmas.{fits-none}

module _ (R : RattleType) {D : Type 0} {M : Type 1} {𝓤 : Ura M} (𝓛 : Logic 𝓤) (κ : Lft) where
  words_lent : (n : ℕ) (xs : List (Option R.Denot)) (a : Option D) (b o : ℕ)
      → is_some a ≡ is_nonempty xs → n ≤ length xs
      → ent 𝓤 (sem 𝓛 (block_shares {D = D} R (block_ptr b o) n xs a κ))
      (sep 𝓤 (sem 𝓛 (hidden_shr usize κ (length xs) b o))
      (sep 𝓤 (sem 𝓛 (hidden_shr usize κ n b (8 + o)))
      (sep 𝓤 (sem 𝓛 (feq Bool (fits_block R (length xs)) true))
      (sem 𝓛 (slots_share R xs b (o + 16) κ)))))
  words_lent n xs (Some a) b o is le =
      qed 𝓛 (‵ (block_shares {D = D} R (block_ptr b o) n xs (Some a) κ) ∷ []) ∵ fsplit ! $
      fsplit ! $
      fsplit ! $ move ! (2 ∷ []) $ fsplit ! $ fsplit ! $
      rewrite ! 1 (λ (k : ℕ). ‵ (shared_of usize n b k κ))
      (let turned : o + 8 ≡ 8 + o = omega arith in turned) refl $
      keep ! (4 ∷ 1 ∷ 2 ∷ 5 ∷ []) $ done !
  words_lent n [] None b o is le =
      qed 𝓛 (‵ (block_shares {D = D} R (block_ptr b o) n [] None κ) ∷ []) ∵ fsplit ! $ fsplit ! $
      move ! (2 ∷ []) $ fsplit ! $
      rewrite ! 1 (λ (u : ℕ × ℕ). ‵ (shared_of usize u.0 b u.1 κ))
      (let turned : o + 8 ≡ 8 + o = omega arith in let zero_is : 0 ≡ n = omega arith in
      λ k. (zero_is k, turned k)) refl $
      feq_i ! Bool (fits_block R 0) true (fits-none R) $ nothing ! $
      keep ! (5 ∷ 3 ∷ 1 ∷ 0 ∷ []) $ done !
  words_lent n (x ∷ xs) None b o is le = absurd (clash is)

module _ (E : El) (Y : Al) {M : Type 1} {𝓤 : Ura M} (𝓛 : Logic 𝓤) (κ : Lft) where
  -- `Words` is the struct type of those fields of a block that exist at run time.
  abbrev Words : RattleType
  Words = Struct (shape (block.the_type (R E) (param 1 Y.row) Y.g))

  apart : (x : (Br E Y).Denot) (b o : ℕ)
      → ent 𝓤 (sem 𝓛 (hidden_shr (Br E Y) κ x b o))
      (sep 𝓤 (sem 𝓛 (hidden_shr RawPtr κ x.at b (o + 0)))
      (sem 𝓛 (block_shares (R E) x.at x.len x.slots x.alloc κ)))
  apart x b o =
      let Rt : RattleType = R E in
      let Z : RattleType = param 1 Y.row in
      qed 𝓛 (‵ (hidden_shr (Br E Y) κ x b o) ∷ []) ∵
      use1 𝓛 (‵ (hidden_shr Words κ (x.at, (record {}, (record {}, tt))) b o) ⊛ ‵
      (fhide (block.the_lent Rt Z Y.g x x.at κ)))
      (lent_out 𝓛 (block.struct Rt Z Y.g)
      (block.the_codes Rt.Denot Z.Denot Rt.coded Z.coded (marker.the_row Rt).coded
      (marker.the_row Z).coded) (block.the_heap Rt Z Y.g) (block.the_lent Rt Z Y.g) κ x b o) $
      split ! $
      unhide ! $ fsplit ! $ fsplit ! $ move ! (3 ∷ []) $ unhide ! $ keep ! (1 ∷ 0 ∷ []) $ done !

module _ (E : El) (Y : Al) {M : Type 1} {𝓤 : Ura M} {𝓛 : Logic 𝓤} {K : Type 0}
    {Γ : List (Item 𝓤)} {G : Goal 𝓤 𝓛.H} where
  pub block_seen : K → {κ : Lft} (x : (Br E Y).Denot) (rb ro : ℕ)
      → ((b o : ℕ) → x.at ≡ block_ptr b o → fits_block (R E) (length x.slots) ≡ true
      → Seq K 𝓛 (‵ (hidden_shr RawPtr κ x.at rb (ro + 0)) ∷ ‵
      (hidden_shr usize κ (length x.slots) b o) ∷ ‵ (hidden_shr usize κ x.len b (8 + o)) ∷ ‵
      (slots_share (R E) x.slots b (o + 16) κ) ∷ Γ) G)
      → Seq K 𝓛 (‵ (hidden_shr (Br E Y) κ x rb ro) ∷ Γ) G
  block_seen k {κ} x rb ro next =
      use1 𝓛 (‵ (hidden_shr RawPtr κ x.at rb (ro + 0)) ⊛ ‵
      (block_shares (R E) x.at x.len x.slots x.alloc κ)) (apart E Y 𝓛 κ x rb ro) $
      split k $ move k (1 ∷ []) $
      in_a_block k x.at (λ p. block_shares (R E) p x.len x.slots x.alloc κ)
      (id⊢ 𝓤 (never 𝓤)) (λ b o at.
      use1 𝓛 (‵ (hidden_shr usize κ (length x.slots) b o) ⊛ ‵ (hidden_shr usize κ x.len b (8 + o))
      ⊛ ‵ (feq Bool (fits_block (R E) (length x.slots)) true) ⊛ ‵
      (slots_share (R E) x.slots b (o + 16) κ))
      (words_lent (R E) {D = Y.row.Denot} 𝓛 κ x.len x.slots x.alloc b o x.sound.1 x.sound.0) $
      split3 k $ move k (2 ∷ []) $ split k $ feq_l k (λ fits.
      move k (3 ∷ 1 ∷ 2 ∷ 0 ∷ []) $ next b o at fits))

module _ (E : El) {M : Type 1} {𝓤 : Ura M} (𝓛 : Logic 𝓤) (b : ℕ) (κ : Lft) where
  abbrev s : ℕ
  s = sz E

  abbrev Seen : ℕ → List (Slot E) → Fml
  Seen o xs = slots_share (R E) xs b o κ

  from_on : (xs : List (Slot E)) (i o at : ℕ) → i ≤ length xs → at ≡ i * s + o
      → ent 𝓤 (sem 𝓛 (Seen o xs)) (sem 𝓛 (Seen at (drop i xs)))
  from_on xs zero o at le e = let same : o ≡ at = omega (arith, zero-mul s) in
      subst (λ k. ent 𝓤 (sem 𝓛 (Seen o xs)) (sem 𝓛 (Seen k xs))) same (id⊢ 𝓤 _)
  from_on [] (suc i) o at le e = absurd (omega arith)
  from_on (x ∷ xs) (suc i) o at le e =
      via 𝓤 (sem 𝓛 (Seen (o + s) xs))
      (snd∗ 𝓤 (sem 𝓛 (slot_shares (R E) x (block_ptr b o) κ)) (sem 𝓛 (Seen (o + s) xs)))
      (from_on xs i (o + s) at (omega arith) (omega (arith, suc-mul i s)))

  up_to : (ys : List (el_x E)) (rest : List (Slot E)) (o : ℕ)
      → ent 𝓤 (sem 𝓛 (Seen o (filled_slots ys ++ rest))) (sem 𝓛 (elements_shared (R E) ys b o κ))
  up_to [] rest o = qed 𝓛 (‵ (Seen o rest) ∷ []) ∵ keep ! [] $ done !
  up_to (y ∷ ys) rest o = qed 𝓛 (‵ (Seen o (Some y ∷ (filled_slots ys ++ rest))) ∷ []) ∵ fsplit ! $
      fsplit ! $ keep ! (1 ∷ 2 ∷ []) $ frame ! $ by ! (up_to ys rest (o + s))

  pub run_seen : (xs : List (Slot E)) (i k o : ℕ) (ys : List (el_x E)) → i ≤ length xs
      → slot_range i k xs ≡ filled_slots ys → ent 𝓤 (sem 𝓛 (Seen o xs))
      (sem 𝓛 (elements_shared (R E) ys b (i * s + o) κ))
  run_seen xs i k o ys le e = qed 𝓛 (‵ (Seen o xs) ∷ []) ∵ use1 𝓛 (‵ (Seen (i * s + o) (drop i xs)))
      (from_on xs i o (i * s + o) le refl) $
      rewrite ! 0 (λ (l : List (Slot E)). ‵ (Seen (i * s + o) l))
      (sym (take-append-drop k (drop i xs)) ∙ ap (λ l. l ++ drop k (drop i xs)) e) refl $
      by ! (up_to ys (drop k (drop i xs)) (i * s + o))
