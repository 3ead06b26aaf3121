-- This file defines the type former of `ThinVec`, by which a list contains exactly its items.
use Rattle.std.specs.Prelude.{◌≡◌, ℕ, ◌-◌, List, [], ◌∷◌, Option, length, map}
use Rattle.std.specs.declared.option.Option.TheVariants.{Some, None}
use mathlib.Core.Path.{refl, sym, ap, ◌∙◌}
use mathlib.Core.HLevel.{Π_prop}
use mathlib.Core.Former.{Former, one_more, this, const, pair, list, via, children}
use native.Mathlib.Nat.{ℕ_set}
use lib.ListN.{length-map}
use base.Stored.{Coded, Gv, gcons, Coded-set, coded_list}
use denote.RattleType.{RattleType}
use denote.HoleLaws.{Alike}
use denote.HolePlaces.{Recodes, struct_places, laid}
use denote.Hole.Carrier.{listed, list-listed}
use denote.Hole.Fix.{over}
use denote.Param.Weighed.{Weighed, most, List-puts}
use denote.Model.Placed.{held, view_places}
use Rattle.std.specs.Coded.{coded_option}
use Rattle.std.specs.declared.alloc.Allocator.{Ghosts as AllocatorGhosts}
use Rattle.thin_block.specs.Cost.{Cost, no_cost}
use Rattle.std.specs.Option.{is_some}
use Rattle.thin_block.specs.Slots.{IsPacked, items_in}
use Rattle.thin_block.specs.declared.block.Block.{Block}
use Rattle.thin_block.specs.declared.growth.Growth.{Ghosts as GrowthGhosts}
use Rattle.thin_block.specs.formers.block.Block as block
use Rattle.thin_block.specs.formers.block.Block.{slot_former, on_slot}
use Rattle.thin_vec.specs.Shapes.{from_shape, shape, to_shape}
use Rattle.thin_vec.specs.ThinVec.{IsListBlock, ListView}
use Rattle.thin_vec.specs.declared.list.ThinVec.TheInside.{Inside}
use Rattle.thin_vec.specs.declared.list.ThinVec.TheView.{view, invariant}
use Rattle.thin_vec.specs.contracts.list.ThinVec as C
use Rattle.thin_vec.specs.contracts.list.ThinVec.TheInside as I

-- `the_former g Z Q` is the type former of lists: it says which values a list contains. The type
-- former of the items is `g`, the allocator type is `Z`, and the type of the growth rule is `Q`.
abbrev pub the_former : Former {0} → Type 0 → Type 0 → Former {0}
the_former g Z Q =
    via (pair (list g) (const (ℕ × (Z × Cost)))) (λ X. ListView (g.Of X) Z)
    (λ X v. (v.items, (v.capacity, (v.alloc, v.cost))))
    (λ X p. record { items = p.0; capacity = p.1.0; alloc = p.1.1.0; cost = p.1.1.1 })
    (λ X v. refl) (λ X p. refl)

-- `the_weighed w Z Q` computes the nesting depth of a list: the greatest depth that `w` computes
-- for an item, or 0 if the list is empty. `Z` is the type of the allocator, and `Q` is the type of
-- the growth rule.
abbrev pub the_weighed : {g : Former {0}} → Weighed g → (Z Q : Type 0) → Weighed (the_former g Z Q)
the_weighed w Z Q =
    record {
      weight = λ X μ v. most (w.weight X μ) v.items;
      puts = λ X μ v. List-puts w X μ v.items;
    }

-- `the_empty Z Q z q` is the empty list of capacity 0 with the allocator `z` of type `Z`. The
-- growth rule `q` of type `Q` is not used.
pub the_empty : (Z Q : Type 0) → Z → Q → ListView ⊥ Z
the_empty Z Q z q = record { items = []; capacity = 0; alloc = z; cost = no_cost }

-- `the_items Z Q X v` contains the items of the list `v`, in order. The item type is `X`, the
-- allocator type is `Z`, and the type of the growth rule is `Q`.
abbrev pub the_items : (Z Q X : Type 0) → ListView X Z → List X
the_items Z Q X v = v.items

-- According to the type former of `ThinVec`, the values that the list `v` contains are exactly its
-- items, in order.
pub the_items_listed : (Z Q X : Type 0) (v : ListView X Z)
    → listed _ (children (the_former this Z Q) X v) ≡ the_items Z Q X v
the_items_listed Z Q X v = list-listed X v.items

-- `fields Z Q` is the type former of the fields of `ThinVec`: it says that they contain exactly the
-- items in the block. The allocator type is `Z`, and the type of the growth rule is `Q`.
abbrev fields : Type 0 → Type 0 → Former {0}
fields Z Q =
    via (pair (block.the_former this Z) (const Z)) (λ X. Inside X Z Q) (λ X a. (a.block, a.alloc))
    (λ X v. record { block = v.0; alloc = v.1; growth = record {} }) (λ X a. refl) (λ X v. refl)

-- These lemmas are about applying a function `h` to each item in a list of slots. Empty slots stay
-- empty.
module _ {X Y : Type 0} (h : X → Y) where
  items_in-map : (s : List (Option X)) → items_in (map (on_slot h) s) ≡ map h (items_in s)
  items_in-map [] = refl
  items_in-map (None ∷ s) = items_in-map s
  items_in-map (Some x ∷ s) = ap (λ l. h x ∷ l) (items_in-map s)

  is_some-map : (s : List (Option X)) → map is_some (map (on_slot h) s) ≡ map is_some s
  is_some-map [] = refl
  is_some-map (None ∷ s) = ap (λ l. is_some {T = X} None ∷ l) (is_some-map s)
  is_some-map (Some x ∷ s) = ap (λ l. is_some (Some x) ∷ l) (is_some-map s)

  count-map : (s : List (Option X)) → length (items_in (map (on_slot h) s)) ≡ length (items_in s)
  count-map s = ap length (items_in-map s) ∙ length-map (items_in s) h

  left-map : (s : List (Option X)) → length (map (on_slot h) s) - length
      (items_in (map (on_slot h) s)) ≡ length s - length (items_in s)
  left-map s = λ i. length-map s (on_slot h) i - count-map s i

  packed_to : (s : List (Option X)) (n : ℕ) → IsPacked s n → IsPacked (map (on_slot h) s) n
  packed_to s n p = record {
    slots = from_shape (map (on_slot h) s) _
        (is_some-map s ∙ (to_shape s _ p.slots ∙ sym (λ i. shape (count-map s i) (left-map s i))));
    len = p.len ∙ sym (count-map s);
  }

  packed_from : (s : List (Option X)) (n : ℕ) → IsPacked (map (on_slot h) s) n → IsPacked s n
  packed_from s n p = record {
    slots = from_shape s _
        (sym (is_some-map s)
        ∙ (to_shape (map (on_slot h) s) _ p.slots ∙ (λ i. shape (count-map s i) (left-map s i))));
    len = p.len ∙ count-map s;
  }

  module _ {Z : Type 0} (b : Block X Z) (a : Z) where
    -- `block.mapped h b` is the block `b` after `h` has been applied to each of its items.
    thin_to : IsListBlock b a → IsListBlock (block.mapped h b) a
    thin_to t = record { packed = packed_to b.slots b.len t.packed; from = t.from }

    thin_from : IsListBlock (block.mapped h b) a → IsListBlock b a
    thin_from t = record { packed = packed_from b.slots b.len t.packed; from = t.from }

items_in-held : (X : Type 0) (s : List (Option X))
    → held (list this) X (items_in s) ≡ held (list (slot_former this)) X s
items_in-held X [] = refl
items_in-held X (None ∷ s) = items_in-held X s
items_in-held X (Some x ∷ s) = λ i. (one_more (items_in-held X s i).0, (x, (items_in-held X s i).1))

-- `gcons a c` is the encoding of a pair whose parts have the encodings `a` and `c`.
first : {a b c : Gv} → a ≡ b → gcons a c ≡ gcons b c
first {c = c} e = λ i. gcons (e i) c

module _ (Z Q : RattleType) (G : AllocatorGhosts Z.Denot) (K : GrowthGhosts Q.Denot) where
  IsListBlock-prop : {X : Type 0} (code : Coded X) (b : Block X Z.Denot)
      (a : Z.Denot) → IsProp (IsListBlock b a)
  IsListBlock-prop code b a p q = λ i. record {
    packed = record {
      slots = Coded-set (coded_list (coded_option code)) _ _ p.packed.slots q.packed.slots i;
      len = ℕ_set _ _ p.packed.len q.packed.len i;
    };
    from = Π_prop (λ x. Π_prop (λ _. Coded-set Z.coded _ _)) p.from q.from i;
  }

  module _ (R S : RattleType) (h : R.Denot → S.Denot) where
    -- Suppose that the function `h` does not change the memory layout of an item, or the memory
    -- that the item owns or lends. Then applying `h` to each item of a list does not change these
    -- for the list.
    pub the_places : Alike R S h → Alike (C.the_row R Z Q G K) (C.the_row S Z Q G K)
        ((the_former this Z.Denot Q.Denot).map R.Denot S.Denot h)
    the_places a = view_places (fields Z.Denot Q.Denot) (the_former this Z.Denot Q.Denot)
        (λ X. view X Z.Denot Q.Denot G K)
        (λ X Y k u i. record {
          items = items_in-map k u.block.slots i;
          capacity = length-map u.block.slots (on_slot k) i;
          alloc =
              u.alloc;
          cost = u.block.cost;
        })
        (λ X u. items_in-held X u.block.slots)
        R.Denot S.Denot h (C.the_row R Z Q G K).coded (C.the_row S Z Q G K).coded
        (invariant R.Denot Z.Denot Q.Denot G K) (invariant S.Denot Z.Denot Q.Denot G K)
        (λ u. IsListBlock-prop R.coded u.block u.alloc)
        (λ u. IsListBlock-prop S.coded u.block u.alloc)
        (λ u. thin_to h u.block u.alloc) (λ u. thin_from h u.block u.alloc)
        (over (I.the_row R Z Q G K)) (over (I.the_row S Z Q G K))
        (struct_places (I.the_type R Z Q G K) (I.the_type S Z Q G K)
        (block.mapped h, (λ n. n, (λ n. n, tt))) _ (λ d. refl) refl (
          laid _ _ _ (block.the_places Z G R S h a),
          ((refl, (λ n. refl, λ n. refl)), ((refl, (λ n. refl, λ n. refl)), tt)),
        ))

    -- If the function `h` does not change the encoding of any item, then applying `h` to each item
    -- of a list does not change the encoding of the list.
    pub the_codes_placed : Recodes R S h → Recodes (C.the_row R Z Q G K) (C.the_row S Z Q G K)
        ((the_former this Z.Denot Q.Denot).map R.Denot S.Denot h)
    the_codes_placed e d = first (block.codes_of R.coded.code S.coded.code h e d.items)
