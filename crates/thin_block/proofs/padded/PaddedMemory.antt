-- These lemmas convert the memory of an item into memory for the padding and the header of a block,
-- or for the address of an allocation, and back.
use Rattle.std.proofs.Common.{◌≡◌, true, ℕ, suc, Some, None, ◌+◌, ◌-◌, ◌*◌, List, [], ◌∷◌, ◌++◌}
use Rattle.std.proofs.Common.{length, refl, sym, ap, subst, ◌∙◌, arith, append_assoc, Bool, Option}
use seplogic.Ra.Ura.{Ura}
use base.Fml.{Fml, fsep, froom, feq, fwand}
use base.Logic.{ent, sep, apply∗, guard, ex}
use mir.Syntax.{Ty, ty_array, ty_ptr}
use prog.Align.{Dv}
use prog.Memory.{size, align}
use prog.RawLaws.{size-raw, align-raw}
use types.Kit.{‵, ◌⊛◌, ◌$◌, ◌∵◌, !, qed, by, move, keep, use1, use2, split, split3, fsplit, fsplit3}
use types.Kit.{fjoin, fjoin3, rewrite, frame as keeps, assume, done, feq_i, feq_l, fpick, fpack}
use types.Kit.{check, show}
use types.Logic.{Logic, sem}
use denote.Memory.{lone}
use denote.RattleType.{RattleType}
use denote.RawPtr.{Ptr, block_ptr}
use denote.Steps.{nothing}
use Rattle.core.specs.Allocator.{array_of}
use Rattle.core.proofs.mem.Param.{El, R, el_x, elτ}
use Rattle.std.proofs.lemmas.List.{length-append, length-map, length-replicate}
use Rattle.std.proofs.lemmas.List.{replicate-append-replicate}
use Rattle.std.specs.Align.{type_align}
use Rattle.std.specs.Mem.{type_size}
use Rattle.thin_block.specs.InPlace.{gapped_items}
use Rattle.thin_block.specs.Ownership.{erased_type, words_of, header_room, pads, padded_type}
use Rattle.thin_block.specs.Ownership.{end_of, padded_right_at, dealloc_right, dealloc_right_if}
use Rattle.thin_block.specs.Ownership.{header_owns, slots_own}
use Rattle.thin_block.specs.Slots.{filled_slots, empty_slots}
use Rattle.thin_block.proofs.HeaderMemory.{header_unwritten}
use Rattle.thin_block.proofs.SlotMemory.{Slot, cut, glue, to_raw, of_raw}
use Rattle.thin_block.proofs.padded.PaddedLemmas.{InEights, in_eights, pieces}
use Rattle.thin_block.proofs.words.WordRooms.{half, front_out}

module _ {M : Type 1} {𝓤 : Ura M} (𝓛 : Logic 𝓤) (τ : Ty) (b n : ℕ)
    (hd : InEights (size τ) (align τ) n) where
  open 𝓛 use {H}

  module _ (o : ℕ) where
    abbrev pointers : Ty
    pointers = ty_array ty_ptr (suc (n + 1))

    -- Splits memory for an item into memory for an address, and the right to convert the memory for
    -- the address back into memory for the item.
    pub address_out : ent 𝓤 (H.room τ b o)
        (sep 𝓤 (H.room ty_ptr b o) (sem 𝓛 (fwand (froom ty_ptr b o) (froom τ b o))))
    address_out =
        qed 𝓛 (‵ (froom τ b o) ∷ []) ∵
        use1 𝓛 (‵ (froom pointers b o) ⊛ ‵ (fwand (froom pointers b o) (froom τ b o)))
        (𝓛.laws.room_as τ pointers b o
        (let whole = hd.size in omega arith) hd.align) $ split ! $
        use1 𝓛 (‵ (froom ty_ptr b o) ⊛ ‵ (froom (ty_array ty_ptr (n + 1)) b (o + 8)))
        (𝓛.laws.room_uncons ty_ptr (n + 1) b o) $ split ! $ keeps ! $
        assume {P = H.room τ b o} ! (‵ (froom ty_ptr b o)) $
        use2 𝓛 (‵ (froom pointers b o)) (𝓛.laws.room_cons ty_ptr (n + 1) b o) $
        by ! (apply∗ 𝓤 (H.room pointers b o) (H.room τ b o))

-- The size and the alignment of the memory of a padded block with `c` slots.
module _ (Rw : RattleType) (c : ℕ) where
  pub padded_size : size (padded_type (erased_type Rw) c) ≡ (c + 2) * type_size Rw
  padded_size = ap (λ (k : ℕ). (c + 2) * k) (size-raw (lone Rw.mir))

  pub padded_align : align (padded_type (erased_type Rw) c) ≡ type_align Rw
  padded_align = align-raw (lone Rw.mir)

-- In this module, a padded block has `c` slots, and begins at the offset `start` of the allocation
-- `b`. Its header is at the offset `o`.
module _ {M : Type 1} {𝓤 : Ura M} (𝓛 : Logic 𝓤) (E : El) (b c : ℕ) (pad : pads (R E) c ≡ true)
  where
    open 𝓛 use {H}

    abbrev τ' : Ty
    τ' = erased_type (R E)

    abbrev s : ℕ
    s = type_size (R E)

    hd' : InEights (size τ') (align τ') (pieces s)
    hd' =
        let h = in_eights (R E) c pad in
        record {
          size = h.size ∙ sym (size-raw (elτ E));
          align = subst (λ (a : ℕ). Dv 8 a) (sym (align-raw (elτ E))) h.align;
        }

    -- Splits memory for an item into memory for an address, as `address_out` does.
    pub item_address_out : (o : ℕ) → ent 𝓤 (H.room τ' b o)
        (sep 𝓤 (H.room ty_ptr b o) (sem 𝓛 (fwand (froom ty_ptr b o) (froom τ' b o))))
    item_address_out o = address_out 𝓛 τ' b (pieces s) hd' o

    module _ (start o : ℕ) (place : start + s ≡ o + 16) where
      abbrev Header' : Fml
      Header' = fwand (header_room b o) (froom τ' b start)

      place' : start + size τ' ≡ o + 16
      place' = (λ i. start + size-raw (elτ E) i) ∙ place

      -- Splits memory for an item into memory for a header, as `front_out` does.
      pub item_front_out : ent 𝓤 (H.room τ' b start)
          (sep 𝓤 (H.room half b o) (sep 𝓤 (H.room half b (o + 8)) (sem 𝓛 Header')))
      item_front_out = front_out 𝓛 τ' b (pieces s) hd' start o place'

    module _ (t : Ty → Ptr → Fml) (n o : ℕ) where
      -- `Opened start` is what a padded block owns besides its slots, if its memory begins at the
      -- offset `start`: memory for the header, and the rest.
      abbrev pub Opened : ℕ → Fml
      Opened start = fsep (header_room b o) (padded_right_at t τ' s c b start o)

      -- Separates the memory of the header from the rest.
      pub padded_apart : ent 𝓤 (sem 𝓛 (header_owns t (R E) n c b o))
          (ex 𝓤 (λ (start : ℕ). guard 𝓤 (start + s ≡ o + 16) (sem 𝓛 (Opened start))))
      padded_apart =
          qed 𝓛 (‵ (header_owns t (R E) n c b o) ∷ []) ∵
          use1 𝓛 (‵ (header_room b o) ⊛ ‵ (dealloc_right t (R E) c b o))
          (header_unwritten 𝓛 t (R E) n c b o) $ split ! $ move ! (1 ∷ []) $
          rewrite ! 0 (λ (p : Bool).
          ‵ (dealloc_right_if p t (words_of (R E)) τ' s c b o)) pad refl $
          fpick ! (λ start. fsplit ! $ feq_l ! (λ place. move ! (1 ∷ 0 ∷ []) $ fjoin ! $
          show ! (λ (start : ℕ). guard 𝓤 (start + s ≡ o + 16) (sem 𝓛 (Opened start))) start $
          check ! place $ done !))

      -- Joins the parts of the right to free a padded block.
      pub padded_right_in : (start : ℕ) → start + s ≡ o + 16
          → ent 𝓤 (sem 𝓛 (padded_right_at t τ' s c b start o)) (sem 𝓛 (dealloc_right t (R E) c b o))
      padded_right_in start place =
          qed 𝓛 (‵ (padded_right_at t τ' s c b start o) ∷ []) ∵
          feq_i ! ℕ (start + s) (o + 16) place $ fjoin ! $
          fpack ! ℕ (λ (k : ℕ). fsep (feq ℕ (k + s) (o + 16)) (padded_right_at t τ' s c b k o))
          start $
          rewrite ! 0 (λ (p : Bool).
          ‵ (dealloc_right_if p t (words_of (R E)) τ' s c b o)) (sym pad) refl $ done !

module _ {M : Type 1} {𝓤 : Ura M} (𝓛 : Logic 𝓤) (E : El) (b : ℕ) where
  open 𝓛 use {H}

  abbrev Slots : ℕ → List (Slot E) → Fml
  Slots at xs = slots_own (R E) xs b at

  -- Memory for one item is memory for an array of one item.
  pub one_in : (o : ℕ) → ent 𝓤 (H.room (erased_type (R E)) b o) (H.room (array_of (R E) 1) b o)
  one_in o =
      qed 𝓛 (‵ (froom (erased_type (R E)) b o) ∷ []) ∵ nothing ! $ move ! (1 ∷ 0 ∷ []) $ fjoin ! $
      by ! (to_raw E 𝓛 b 1 o)

  pub one_out : (o : ℕ) → ent 𝓤 (H.room (array_of (R E) 1) b o) (H.room (erased_type (R E)) b o)
  one_out o =
      qed 𝓛 (‵ (froom (array_of (R E) 1) b o) ∷ []) ∵
      use1 𝓛 (‵ (Slots o (empty_slots 1))) (of_raw E 𝓛 b 1 o) $ fsplit ! $ keep ! (0 ∷ []) $ done !

  -- In these lemmas, a block holds the items `xs`, which fill its first slots, and `m` empty slots.
  -- `k` is one more than `m`.
  module _ (xs : List (el_x E)) (m k c at : ℕ) (all : c ≡ length xs + m) (more : k ≡ m + 1) where
    abbrev end' : ℕ
    end' = c * type_size (R E) + at

    abbrev Row : List (Slot E)
    Row = filled_slots xs ++ empty_slots m

    long : length Row ≡ c
    long =
        let both = length-append (filled_slots xs) (empty_slots {T = el_x E} m) in
        let first_ones = length-map xs Some in
        let bare_ones = length-replicate {A = Option (el_x E)} m None in
        omega arith

    one_more : Row ++ empty_slots 1 ≡ filled_slots xs ++ empty_slots k
    one_more = append_assoc (filled_slots xs) (empty_slots m) (empty_slots 1)
        ∙ (ap (λ (l : List (Slot E)). filled_slots xs ++ l) (replicate-append-replicate m 1 None)
        ∙ ap (λ (n : ℕ). filled_slots xs ++ empty_slots n) (sym more))

    at_end : end' ≡ length Row * type_size (R E) + at
    at_end = ap (λ (n : ℕ). n * type_size (R E) + at) (sym long)

    -- The memory directly after the slots is used as one more empty slot.
    pub slot_added : ent 𝓤 (sep 𝓤 (sem 𝓛 (Slots at Row)) (H.room (erased_type (R E)) b end'))
        (sem 𝓛 (Slots at (filled_slots xs ++ empty_slots k)))
    slot_added =
        qed 𝓛 (‵ (Slots at Row) ∷ ‵ (froom (erased_type (R E)) b end') ∷ []) ∵ move ! (1 ∷ []) $
        nothing ! $ move ! (1 ∷ 0 ∷ []) $ fjoin ! $ move ! (1 ∷ 0 ∷ []) $
        use2 𝓛 (‵ (Slots at (Row ++ empty_slots 1)))
        (glue E 𝓛 b Row (empty_slots 1) at end' at_end) $
        rewrite ! 0 (λ (l : List (Slot E)). ‵ (Slots at l)) one_more refl $ done !

    -- Undoes `slot_added`.
    pub slot_removed : ent 𝓤 (sem 𝓛 (Slots at (filled_slots xs ++ empty_slots k)))
        (sep 𝓤 (sem 𝓛 (Slots at Row)) (H.room (erased_type (R E)) b end'))
    slot_removed =
        qed 𝓛 (‵ (Slots at (filled_slots xs ++ empty_slots k)) ∷ []) ∵
        rewrite ! 0 (λ (l : List (Slot E)). ‵ (Slots at l)) (sym one_more) refl $
        use1 𝓛 (‵ (Slots at Row) ⊛ ‵ (Slots end' (empty_slots 1)))
        (cut E 𝓛 b Row (empty_slots 1) at end' at_end) $ split ! $ move ! (1 ∷ []) $ fsplit ! $
        keep ! (2 ∷ 0 ∷ []) $ done !

-- In this module, an array of `c + 2` items, whose gap is one item, is the memory of a padded
-- block.
module _ {M : Type 1} {𝓤 : Ura M} (𝓛 : Logic 𝓤) (E : El) (b c : ℕ) (pad : pads (R E) c ≡ true)
    (t : Ty → Ptr → Fml) (start o : ℕ) (place : start + type_size (R E) ≡ o + 16) (n m all : ℕ)
    (xs : List (el_x E)) (slots : c ≡ length xs + m) (count : length xs ≡ n) (total : all ≡ c + 2)
  where
    open 𝓛 use {H}

    abbrev τ₀ : Ty
    τ₀ = erased_type (R E)

    abbrev last : ℕ
    last = end_of (type_size (R E)) c o

    abbrev gapped : ℕ → Fml
    gapped at = slots_own (R E) (filled_slots xs ++ empty_slots (all - (1 + n))) b at

    abbrev Parts : Fml
    Parts = slots_own (R E) (filled_slots xs ++ empty_slots m) b (o + 16)

    -- `Kept` is the right to free the block, without the address of its memory.
    abbrev pub Kept : Fml
    Kept = fsep (fwand (header_room b o) (froom τ₀ b start))
        (fsep (fwand (froom ty_ptr b last) (froom τ₀ b last)) (t (padded_type τ₀ c)
        (block_ptr b start)))

    at_gap : o + 16 ≡ start + 1 * type_size (R E)
    at_gap = let one : 1 * type_size (R E) ≡ type_size (R E) = omega arith in omega arith

    one_left : all - (1 + n) ≡ m + 1
    one_left = omega arith

    -- Uses the memory of a padded block as an array.
    pub array_in : ent 𝓤 (sep 𝓤 (sem 𝓛 (header_room b o)) (sep 𝓤 (H.room ty_ptr b last)
        (sep 𝓤 (sem 𝓛 Parts) (sem 𝓛 Kept))))
        (sem 𝓛 (gapped_items t (R E) (block_ptr b start) 1 n all xs))
    array_in =
        qed 𝓛 (‵ (header_room b o) ∷ ‵ (froom ty_ptr b last) ∷ ‵ Parts ∷ ‵ Kept ∷ []) ∵
        move ! (3 ∷ []) $ fsplit3 ! $ move ! (3 ∷ 0 ∷ []) $
        use2 𝓛 (‵ (froom τ₀ b start)) (apply∗ 𝓤 (sem 𝓛 (header_room b o)) (H.room τ₀ b start)) $
        use1 𝓛 (‵ (froom (array_of (R E) 1) b start)) (one_in 𝓛 E b start) $ move ! (3 ∷ 1 ∷ []) $
        use2 𝓛 (‵ (froom τ₀ b last)) (apply∗ 𝓤 (H.room ty_ptr b last) (H.room τ₀ b last)) $
        -- The context is now: memory for one item after the slots; the gap; the right to free the
        -- memory; the slots.
        move ! (3 ∷ 0 ∷ []) $ use2 𝓛 (‵ (gapped (o + 16)))
        (slot_added 𝓛 E b xs m (all - (1 + n)) c (o + 16) slots one_left) $
        rewrite ! 0 (λ (k : ℕ). ‵ (gapped k)) at_gap refl $ move ! (2 ∷ []) $
        rewrite ! 0 (λ (k : ℕ). ‵ (t (array_of (R E) k) (block_ptr b start))) (sym total) refl $
        move ! (2 ∷ 1 ∷ 0 ∷ []) $ fjoin3 ! $ done !

    -- Undoes `array_in`.
    pub array_out : ent 𝓤 (sem 𝓛 (gapped_items t (R E) (block_ptr b start) 1 n all xs))
        (sep 𝓤 (H.room half b o) (sep 𝓤 (H.room half b (8 + o)) (sep 𝓤 (H.room ty_ptr b last)
        (sep 𝓤 (sem 𝓛 Parts) (sem 𝓛 Kept)))))
    array_out =
        qed 𝓛 (‵ (gapped_items t (R E) (block_ptr b start) 1 n all xs) ∷ []) ∵ fsplit3 ! $
        use1 𝓛 (‵ (froom τ₀ b start)) (one_out 𝓛 E b start) $
        use1 𝓛 (‵ (froom half b o) ⊛ ‵ (froom half b (o + 8)) ⊛ ‵
        (fwand (header_room b o) (froom τ₀ b start)))
        (item_front_out 𝓛 E b c pad start o place) $ split3 ! $
        rewrite ! 1 (λ (k : ℕ). ‵ (froom half b k))
        (let turned : o + 8 ≡ 8 + o = omega arith in turned) refl $ move ! (3 ∷ []) $
        rewrite ! 0 (λ (k : ℕ). ‵ (gapped k)) (sym at_gap) refl $
        use1 𝓛 (‵ Parts ⊛ ‵ (froom τ₀ b last))
        (slot_removed 𝓛 E b xs m (all - (1 + n)) c (o + 16) slots one_left) $ split ! $
        move ! (1 ∷ []) $
        use1 𝓛 (‵ (froom ty_ptr b last) ⊛ ‵ (fwand (froom ty_ptr b last) (froom τ₀ b last)))
        (item_address_out 𝓛 E b c pad last) $ split ! $ move ! (6 ∷ []) $
        rewrite ! 0 (λ (k : ℕ). ‵ (t (array_of (R E) k) (block_ptr b start))) total refl $
        -- The context is now: the right to free the memory; memory for the address; the right to
        -- convert it back; the slots; memory for the header; the right to convert it back.
        move ! (2 ∷ 0 ∷ []) $ fjoin ! $ move ! (5 ∷ 0 ∷ []) $ fjoin ! $
        move ! (3 ∷ 4 ∷ 1 ∷ 2 ∷ 0 ∷ []) $ done !
