-- When a mutable borrow of items of a block has ended, these lemmas give the items back to the
-- block. `item_back` is for one item, and `items_back` is for several adjacent items.
use Rattle.std.proofs.Common.{◌≡◌, ℕ, ◌+◌, ◌*◌, ◌<◌, ◌≤◌, List, ◌∷◌, [], length, Some, refl, sym}
use Rattle.std.proofs.Common.{◌∙◌, arith}
use seplogic.Ra.Ura.{Ura}
use base.Fml.{Fml, fsep}
use base.Fraction.{full_share}
use base.Logic.{ent, sep}
use mir.Val.{Val}
use types.Kit.{‵, ◌$◌, ◌∵◌, !, qed, by, move, use1, use2, rewrite, fsplit, fjoin, done, fpack}
use types.Logic.{Logic, sem}
use types.SemTy.{cells}
use denote.Memory.{cell_at, mem, part_of}
use denote.RawPtr.{block_ptr}
use Rattle.core.proofs.alloc.Calls.{Al}
use Rattle.core.proofs.mem.Param.{El, R, el_x}
use Rattle.std.proofs.lemmas.List.{length-map, length-set}
use Rattle.std.specs.Prelude.{IsSome}
use Rattle.thin_block.specs.Lends.{length-over, with_slots, set_slot, set_slots}
use Rattle.thin_block.specs.Ownership.{slot_owns, slots_own}
use Rattle.thin_block.specs.Slots.{filled_slots, write_slots, slot}
use Rattle.thin_block.proofs.HeaderMemory.{Br, Header, header, t, block_val, block_made}
use Rattle.thin_block.proofs.SlotMemory.{Slot, sz, besides, slot_in, around, run_in, of_cells}
use Rattle.thin_block.proofs.SlotsLemmas.{over-written}

module _ (E : El) (Y : Al) {M : Type 1} {𝓤 : Ura M} (𝓛 : Logic 𝓤) (x : (Br E Y).Denot)
    (b o rb ro : ℕ) (at : x.at ≡ block_ptr b o) where
  abbrev B : Type 0
  B = (Br E Y).Denot

  -- `Waiting` consists of two parts of a block: the header, and the memory that holds the block's
  -- pointer. The block keeps these parts while its slots are lent.
  abbrev pub Waiting : Fml
  Waiting = fsep (Header E Y x b o)
      (cell_at full_share (Br E Y).mir (block_val (block_ptr b o) ∷ []) rb ro)

  pub slots_back : (s : List (Slot E)) (same : length s ≡ length x.slots)
      → ent 𝓤 (sep 𝓤 (sem 𝓛 (slots_own (R E) s b (o + 16))) (sem 𝓛 Waiting))
      (sem 𝓛 ((mem (Br E Y)).own_at (with_slots x s same) rb ro))
  unfolding part_of
  slots_back s same = qed 𝓛 (‵ (slots_own (R E) s b (o + 16)) ∷ ‵ Waiting ∷ []) ∵ move ! (1 ∷ []) $
      fsplit ! $
      rewrite ! 0 (λ (k : ℕ). ‵ (header (t E Y) (R E) x.len k x.alloc b o)) (sym same)
      refl $ move ! (0 ∷ 2 ∷ []) $
      block_made E Y ! (with_slots x s same) b o at $ move ! (1 ∷ 0 ∷ []) $ fjoin ! $
      fpack ! (List Val)
      (λ us. fsep (cell_at full_share (Br E Y).mir us rb ro)
      ((Br E Y).own_val (with_slots x s same) us)) (block_val (block_ptr b o) ∷ []) $ done !

  pub item_back : (i : ℕ) → i < length x.slots → (w : el_x E)
      → ent 𝓤 (sep 𝓤 (sem 𝓛 ((mem (R E)).own_at w b (i * sz E + (o + 16))))
      (sem 𝓛 (fsep (besides E 𝓛 b (o + 16) x.slots i) Waiting)))
      (sem 𝓛 ((mem (Br E Y)).own_at (set_slot x i w) rb ro))
  item_back i within w =
      let y : B = set_slot x i w in
      qed 𝓛 (‵ (slot_owns (R E) (Some w) b (i * sz E + (o + 16))) ∷ ‵
      (fsep (besides E 𝓛 b (o + 16) x.slots i) Waiting) ∷ []) ∵ move ! (1 ∷ []) $
      fsplit ! $ move ! (2 ∷ 0 ∷ []) $
      use2 𝓛 (‵ (slots_own (R E) y.slots b (o + 16)))
      (slot_in E 𝓛 b (o + 16) x.slots i within (Some w)) $
      by ! (slots_back y.slots (length-set x.slots i (Some w)))

  pub items_back : (i k : ℕ) → i + k ≤ length x.slots
      → ((n : ℕ) → i ≤ n → n < i + k → IsSome (slot x.slots n))
      → (ws : List (el_x E)) → length ws ≡ k
      → ent 𝓤 (sep 𝓤 (sem 𝓛 (cells (mem (R E)) ws b (i * sz E + (o + 16))))
      (sem 𝓛 (fsep (around E 𝓛 b (o + 16) x.slots i k) Waiting)))
      (sem 𝓛 ((mem (Br E Y)).own_at (set_slots x i ws) rb ro))
  items_back i k le filled ws long =
      let y : B = set_slots x i ws in
      qed 𝓛 (‵ (cells (mem (R E)) ws b (i * sz E + (o + 16))) ∷ ‵
      (fsep (around E 𝓛 b (o + 16) x.slots i k) Waiting) ∷ []) ∵
      use1 𝓛 (‵ (slots_own (R E) (filled_slots ws) b (i * sz E + (o + 16))))
      (of_cells E 𝓛 b ws (i * sz E + (o + 16))) $ move ! (1 ∷ []) $
      fsplit ! $ move ! (2 ∷ 0 ∷ []) $
      use2 𝓛 (‵ (slots_own (R E) (write_slots i (filled_slots ws) x.slots) b (o + 16)))
      (run_in E 𝓛 b (o + 16) x.slots i k le (filled_slots ws) (length-map ws Some ∙ long)) $
      rewrite ! 0 (λ (s : List (Slot E)). ‵ (slots_own (R E) s b (o + 16)))
      (sym (over-written x.slots i ws (omega arith) (λ n low high. filled n low (omega arith))))
      refl $ by ! (slots_back y.slots (length-over x.slots i ws))
