-- This file defines what a block contains after a mutable borrow (`&mut`) of some of its items has
-- ended.
use Rattle.std.specs.Prelude.{◌≡◌, ℕ, zero, suc, ◌<◌, ◌≤◌, ◌^◌, List, [], ◌∷◌, length, Option, slice_set}
use Rattle.std.specs.declared.option.Option.TheVariants.{None, Some}
use Rattle.core.specs.declared.alloc.Allocator.{Ghosts}
use Rattle.core.specs.Borrow.{Lends, MutBor, Fml, RattleType, Array}
use mathlib.Core.Path.{refl, sym, ap, subst, ◌∙◌}
use lib.ListN.{length-set}
use Rattle.thin_block.specs.Ownership.{is_nonempty_same}
use Rattle.thin_block.specs.declared.block.Block.{Block}
use Rattle.thin_block.specs.contracts.block.Block.{the_row}

module _ {X : Type 0} where
  -- `overwrite_items s i ws` is the list of slots `s` after the items `ws` have overwritten the
  -- items from slot `i` onward. Writing stops at the first empty slot.
  abbrev pub overwrite_items : List (Option X) → ℕ → List X → List (Option X)
  overwrite_items [] i ws = []
  overwrite_items (x ∷ s) (suc i) ws = x ∷ overwrite_items s i ws
  overwrite_items (None ∷ s) zero ws = None ∷ s
  overwrite_items (Some x ∷ s) zero [] = Some x ∷ s
  overwrite_items (Some x ∷ s) zero (w ∷ ws) = Some w ∷ overwrite_items s zero ws

  pub length-over : (s : List (Option X)) (i : ℕ) (ws : List X)
      → length (overwrite_items s i ws) ≡ length s
  length-over [] i ws = refl
  length-over (x ∷ s) (suc i) ws = ap suc (length-over s i ws)
  length-over (None ∷ s) zero ws = refl
  length-over (Some x ∷ s) zero [] = refl
  length-over (Some x ∷ s) zero (w ∷ ws) = ap suc (length-over s zero ws)

module _ {X Z : Type 0} where
  -- `with_slots b s` is the block `b` after its slots have been replaced with `s`. The list `s`
  -- must have the same length as the old list of slots.
  abbrev pub with_slots : (b : Block X Z) (s : List (Option X))
      → length s ≡ length b.slots → Block X Z
  with_slots b s same =
      record b {
        slots = s;
        sound = (
          subst (λ (n : ℕ). b.len ≤ n) (sym same) b.sound.0,
          b.sound.1
              ∙ sym (is_nonempty_same b.slots s same),
          subst (λ (n : ℕ). n < 2 ^ 63) (sym same) b.sound.2,
        );
      }

  -- `set_slot b i w` is the block `b` with the item `w` in slot `i`.
  abbrev pub set_slot : Block X Z → ℕ → X → Block X Z
  set_slot b i w = with_slots b (slice_set b.slots i (Some w)) (length-set b.slots i (Some w))

  -- `set_slots b i ws` is the block `b` after the items of `ws` have overwritten the items from
  -- slot `i` onward.
  abbrev pub set_slots : Block X Z → ℕ → List X → Block X Z
  set_slots b i ws = with_slots b (overwrite_items b.slots i ws) (length-over b.slots i ws)

module _ (T A : RattleType) (g : Ghosts A.Denot) (b : MutBor (Block T.Denot A.Denot)) where
  -- `LendsSlot i r` holds if `r` is a `&mut` to the item in slot `i` of the block `b`. After the
  -- borrow, this slot will contain the final value of `r`.
  abbrev pub LendsSlot : ℕ → MutBor T.Denot → Fml
  LendsSlot i r = Lends (the_row T A g) T b r (set_slot b.now i)

  -- `LendsSlots i r` holds if `r` is a `&mut` to adjacent items of the block `b`, starting at slot
  -- `i`, and if these slots contain the final items of `r` when the borrow ends.
  abbrev pub LendsSlots : ℕ → MutBor (List T.Denot) → Fml
  LendsSlots i r = Lends (the_row T A g) (Array T 0) b r (set_slots b.now i)
