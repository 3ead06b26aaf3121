-- These lemmas prove `IsBounded` of a list: the list has no more items than slots, and the memory
-- of its slots is not too large.
use Rattle.std.proofs.Common.{◌≡◌, ℕ, ◌≤◌, ap, List, [], arith, length, refl, subst, sym, ◌∙◌}
use Rattle.std.specs.Borrow.{RattleType}
use Rattle.thin_block.specs.Capacity.{Fits}
use Rattle.thin_block.specs.declared.block.Block.{Block}
use Rattle.thin_block.proofs.CapacityLemmas.{fits-none, fits-small}
use Rattle.thin_vec.proofs.ListBlockLemmas.{RestoresInvariant, thin-room}
use Rattle.thin_vec.specs.ThinVec.{IsListBlock, IsBounded, ListView, list_view}

module _ {T A : Type 0} (R : RattleType) (b : Block T A) (a : A) where
  -- A list is within its bounds if its capacity fits in memory.
  pub bounds-of : (v : ListView T A) → IsListBlock b a → list_view b a ≡ v
      → Fits R (length b.slots) → IsBounded R v
  bounds-of v thin is fits =
      let here : IsBounded R (list_view b a) =
      record {
        room = thin-room b a thin;
        small = fits-small R (length b.slots) fits;
        fits = fits;
      } in
      subst (IsBounded R) is here

  -- A list is within its bounds if its new block has such a capacity.
  pub bounds-settled : (xs : List T) (c : ℕ) → Fits R c → RestoresInvariant b a xs c
      → IsBounded R (list_view b a)
  bounds-settled xs c fits after =
      bounds-of (list_view b a) after.thin refl (subst (Fits R) (sym after.cap) fits)

  -- A list that keeps its capacity stays within its bounds.
  pub bounds-stays : (b' : Block T A) (v : ListView T A) (xs : List T) → IsBounded R v
      → list_view b a ≡ v
      → RestoresInvariant b' a xs (length b.slots) → IsBounded R (list_view b' a)
  bounds-stays b' v xs kept is after = record {
    room = thin-room b' a after.thin;
    small = omega (arith, after.cap, ap (λ (w : ListView T A). w.capacity) is, kept.small);
    fits = subst (Fits R) (sym (after.cap ∙ ap (λ (w : ListView T A). w.capacity) is)) kept.fits;
  }

  -- A list that keeps its capacity is within its bounds before and after.
  pub bounds-kept : (b' : Block T A) (v : ListView T A) (xs : List T) → IsListBlock b a
      → list_view b a ≡ v
      → Fits R (length b.slots) → RestoresInvariant b' a xs (length b.slots) → IsBounded R v
      × IsBounded R (list_view b' a)
  bounds-kept b' v xs thin is fits after = (
    bounds-of v thin is fits,
    record {
      room = thin-room b' a after.thin;
      small = fits-small R (length b'.slots) (subst (Fits R) (sym after.cap) fits);
      fits = subst (Fits R) (sym after.cap) fits;
    },
  )

module _ {T A : Type 0} (R : RattleType) (w : ListView T A) where
  -- A list without an allocation is within its bounds.
  pub bounds-none : w.items ≡ [] → w.capacity ≡ 0 → IsBounded R w
  bounds-none none nothing = record {
    room = omega (arith, ap length none);
    small = omega arith;
    fits = subst (Fits R) (sym nothing) (fits-none R);
  }

  -- A list with the capacity of a list within its bounds is within them, too.
  pub bounds-like : (v : ListView T A) → IsBounded R v → w.capacity ≡ v.capacity
      → length w.items ≤ v.capacity → IsBounded R w
  bounds-like v kept same room =
      record {
        room = omega arith;
        small = omega (arith, kept.small);
        fits = subst (Fits R) (sym same) kept.fits;
      }
