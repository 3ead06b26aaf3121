-- This file proves that a shared reference to a block lends what separate references to the
-- capacity, to the length and to each item would lend.
use Rattle.std.proofs.Common.{List, [], ◌∷◌, ◌++◌, ℕ, ◌+◌, Bool, true, length, w64, Option, Some}
use Rattle.std.proofs.Common.{None}
use mathlib.Core.List.{not-mem-nil}
use seplogic.Ra.Ura.{Ura}
use base.Before.{chain}
use base.Fml.{Lft, Fml, ftrue, ffalse, fsep, feq, fbor, Incl, Incl-trans}
use base.Fraction.{full_share}
use base.Logic.{sep, wand, apply∗}
use mir.Syntax.{Ty}
use contract.BorrowLft.{meet_⊑_left}
use types.Kit.{‵, raw, ◌⊛◌, later, ◌$◌, !, qed, move, drop, use1, use2, split, updating, await}
use types.Kit.{done, fpack, now}
use types.Logic.{Logic, sem, lfts}
use denote.Builtin.{usize}
use denote.Copied.{uint_Copied}
use denote.Param.Laws.{Laws}
use denote.Param.Shared.{copy_shared}
use denote.Plain.{uint_row_laws}
use denote.RattleType.{RattleType, RowLaws}
use denote.RawPtr.{Ptr, block_ptr, null_ptr, lies_at}
use denote.Shares.{Shares, Shares-less}
use denote.Sharing.{ShrLaws, said, beside}
use denote.SharingLaws.{nothing_shr_laws, said_shr_laws, beside_shr_laws}
use denote.Steps.{nothing}
use denote.Struct.Field.{RawPtr-field}
use denote.Struct.Laws.{RawPtr-copy, field_copy}
use denote.Struct.Lending.{lent_at, lent_at_shr_laws, Lends, Lends-false, Lends-lies, Lends-said}
use denote.Struct.Lending.{Lends-nothing, Lends-first, Lends-both, of_Lends}
use Rattle.core.specs.contracts.marker.PhantomData as marker
use Rattle.core.specs.declared.alloc.Allocator.{Ghosts}
use Rattle.std.specs.Mem.{type_size}
use Rattle.thin_block.specs.Ownership.{fits_block, slot_owns, slots_own, slot_shares, slots_share}
use Rattle.thin_block.specs.Ownership.{header_owns, header_shares, dealloc_right, block_owns}
use Rattle.thin_block.specs.Ownership.{block_shares}
use Rattle.thin_block.specs.contracts.block.Block as C
use Rattle.thin_block.proofs.block.Block.TheLaw.Statement.{statement}

word_laws : (p : Ptr) (n : ℕ) → ShrLaws (lent_at usize p n)
word_laws p n = lent_at_shr_laws usize (uint_row_laws w64) p n

module _ (R : RattleType) (L : RowLaws R) where
  place_laws : (x : Option R.Denot) (p : Ptr) → ShrLaws (slot_shares R x p)
  place_laws (Some x) p = lent_at_shr_laws R L p x
  place_laws None p = nothing_shr_laws

  places_laws : (xs : List (Option R.Denot)) (b o : ℕ) → ShrLaws (slots_share R xs b o)
  places_laws [] b o = nothing_shr_laws
  places_laws (x ∷ xs) b o = beside_shr_laws (slot_shares R x (block_ptr b o))
      (slots_share R xs b (o + type_size R)) (place_laws x (block_ptr b o))
      (places_laws xs b (o + type_size R))

  frame_laws : (n c b o : ℕ) → ShrLaws (header_shares R n c b o)
  frame_laws n c b o =
      let small = feq Bool (fits_block R c) true in
      beside_shr_laws (lent_at usize (block_ptr b o) c)
      (beside (lent_at usize (block_ptr b (o + 8)) n) (said small))
      (word_laws (block_ptr b o) c)
      (beside_shr_laws (lent_at usize (block_ptr b (o + 8)) n) (said small)
      (word_laws (block_ptr b (o + 8)) n) (said_shr_laws small tt))

  block_laws : {D : Type 0} (p : Ptr) (n : ℕ) (xs : List (Option R.Denot)) (a : Option D)
      → ShrLaws (block_shares R p n xs a)
  block_laws null_ptr n xs a = said_shr_laws ffalse tt
  block_laws (block_ptr b o) n xs None = beside_shr_laws (lent_at usize (block_ptr b o) 0)
      (lent_at usize (block_ptr b (o + 8)) 0) (word_laws (block_ptr b o) 0)
      (word_laws (block_ptr b (o + 8)) 0)
  block_laws (block_ptr b o) n xs (Some a) = beside_shr_laws (header_shares R n (length xs) b o)
      (slots_share R xs b (o + 16)) (frame_laws n (length xs) b o) (places_laws xs b (o + 16))

module _ {M : Type 1} {𝓤 : Ura M} (𝓛 : Logic 𝓤) where
  open 𝓛 use {H, A}

  -- `t κ` is what a shared reference with the lifetime `κ` lends. If `t` satisfies the laws of
  -- shared references, then a borrow of `t []` can be converted into `t κ`. Here, `[]` is
  -- `'static`.
  Lends-kept : (t : Lft → Fml) → ShrLaws t → (l : Lft) → Lends 𝓛 (t []) t l
  Lends-kept t L l κ ts inc sp =
      let P : Fml = t [] in
      qed 𝓛 (‵ (fbor κ P) ∷ raw (lfts 𝓛 ts) ∷ []) {P = H.⇛ (sep 𝓤 (sem 𝓛 (t κ)) (lfts 𝓛 ts))} (
      updating ! $ use2 𝓛
      (later (‵ P ⊛ raw (wand 𝓤 (sem 𝓛 P) (H.⇛ (sep 𝓤 (A.bor κ P) (lfts 𝓛 ts))))))
      (𝓛.more.bor_acc_by κ ts P sp) $ await ! tt $ split ! $
      use1 𝓛 (‵ P ⊛ ‵ P) (L.contraction M 𝓤 𝓛 []) $ split ! $ move ! (0 ∷ 2 ∷ []) $
      use2 𝓛 (later (‵ (fbor κ P) ⊛ raw (lfts 𝓛 ts)))
      (apply∗ 𝓤 (sem 𝓛 P) (H.⇛ (sep 𝓤 (A.bor κ P) (lfts 𝓛 ts)))) $ await ! tt $ split ! $
      drop ! $ move ! (1 ∷ []) $
      nothing ! $ fpack ! (Incl κ []) (λ _. ftrue) (λ a m. absurd (not-mem-nil m)) $
      fpack ! (List Lft) (λ νs. chain νs κ []) [] $ move ! (0 ∷ 1 ∷ []) $
      use2 𝓛 (‵ (t κ)) (L.mono M 𝓤 𝓛 κ []) $ now ! $ done !)

  module _ (R : RattleType) (l : Lft) (s : Shares 𝓛 R l) where
    Lends-word : (p : Ptr) (n : ℕ) → Lends 𝓛 (lies_at usize full_share p n) (lent_at usize p n) l
    Lends-word p n = Lends-lies 𝓛 usize l p n ((uint_Copied 𝓛 w64).shares full_share l n)

    Lends-place : (x : Option R.Denot) (b o : ℕ)
        → Lends 𝓛 (slot_owns R x b o) (slot_shares R x (block_ptr b o)) l
    Lends-place (Some x) b o = Lends-lies 𝓛 R l (block_ptr b o) x (s x)
    Lends-place None b o = Lends-nothing 𝓛 (slot_owns R None b o) l

    Lends-places : (xs : List (Option R.Denot)) (b o : ℕ) → Lends 𝓛 (slots_own R xs b o)
        (slots_share R xs b o) l
    Lends-places [] b o = Lends-nothing 𝓛 ftrue l
    Lends-places (x ∷ xs) b o =
        Lends-both 𝓛 (slot_owns R x b o) (slots_own R xs b (o + type_size R))
        (slot_shares R x (block_ptr b o)) (slots_share R xs b (o + type_size R)) l
        (Lends-place x b o) (Lends-places xs b (o + type_size R))

    Lends-frame : (t : Ty → Ptr → Fml) (n c b o : ℕ) → Lends 𝓛 (header_owns t R n c b o)
        (header_shares R n c b o) l
    Lends-frame t n c b o =
        let small = feq Bool (fits_block R c) true in
        let first = lies_at usize full_share (block_ptr b o) c in
        let second = lies_at usize full_share (block_ptr b (o + 8)) n in
        Lends-both 𝓛 first (fsep second (fsep small (dealloc_right t R c b o)))
        (lent_at usize (block_ptr b o) c)
        (beside (lent_at usize (block_ptr b (o + 8)) n) (said small)) l
        (Lends-word (block_ptr b o) c)
        (Lends-both 𝓛 second (fsep small (dealloc_right t R c b o))
        (lent_at usize (block_ptr b (o + 8)) n) (said small) l
        (Lends-word (block_ptr b (o + 8)) n)
        (Lends-first 𝓛 small (dealloc_right t R c b o) (said small) l (Lends-said 𝓛 small tt l)))

    Lends-block : {D : Type 0} (t : D → Ty → Ptr → Fml) (p : Ptr) (n : ℕ)
        (xs : List (Option R.Denot)) (a : Option D) → Lends 𝓛 (block_owns t R p n xs a)
        (block_shares R p n xs a) l
    Lends-block t null_ptr n xs a = Lends-false 𝓛 (said ffalse) l
    Lends-block t (block_ptr b o) n xs None =
        let first = lent_at usize (block_ptr b o) 0 in
        let second = lent_at usize (block_ptr b (o + 8)) 0 in
        Lends-both 𝓛 (first []) (second []) first second l
        (Lends-kept first (word_laws (block_ptr b o) 0) l)
        (Lends-kept second (word_laws (block_ptr b (o + 8)) 0) l)
    Lends-block t (block_ptr b o) n xs (Some a) =
        Lends-both 𝓛 (header_owns (t a) R n (length xs) b o) (slots_own R xs b (o + 16))
        (header_shares R n (length xs) b o) (slots_share R xs b (o + 16)) l
        (Lends-frame (t a) n (length xs) b o) (Lends-places xs b (o + 16))

pub shares : (R Z : RattleType) (g : Ghosts Z.Denot) (L : Laws R) (K : Laws Z) → statement R Z g L K
shares R Z g L K =
    of_Lends (C.struct R Z g) (C.the_codes R.Denot Z.Denot R.coded Z.coded (marker.the_row R).coded
    (marker.the_row Z).coded) (C.the_heap R Z g) (C.the_lent R Z g)
    (λ d p. block_laws R L.shr_laws d.at d.len d.slots d.alloc) (
      copy_shared RawPtr-field RawPtr-copy,
      (
        copy_shared (marker.the_field R) (field_copy (marker.the_type R) tt),
        (copy_shared (marker.the_field Z) (field_copy (marker.the_type Z) tt), tt),
      ),
    )
    (λ M 𝓤 𝓛 d p.
    let l = (C.the_row R Z g).lives in
    Lends-block 𝓛 R l (Shares-less 𝓛 R R.lives l
    (Incl-trans (meet_⊑_left (R.lives ++ (Z.lives ++ [])) _)
    (meet_⊑_left R.lives (Z.lives ++ []))) (L.shares 𝓛))
    g.dealloc_token d.at d.len d.slots d.alloc)
