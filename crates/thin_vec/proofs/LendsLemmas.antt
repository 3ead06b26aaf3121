-- These lemmas state which items a list contains after a write through a mutable borrow of its
-- items.
use Rattle.std.proofs.Common.{◌≡◌, ℕ, zero, suc, ◌-◌, ◌<◌, ◌≤◌, List, [], ◌∷◌, ◌++◌, Option, drop, length, length-append, take, Some, ap, arith, refl, sym, ◌∙◌}
use Rattle.std.proofs.Math.Seq.{take-length}
use Rattle.std.proofs.lemmas.List.{take-append-drop}
use Rattle.std.specs.Prelude.{slice_range}
use lib.ListN.{set, length-set}
use Rattle.thin_block.specs.Cost.{Cost}
use Rattle.thin_block.specs.Lends.{overwrite_items, set_slot as block_with_item, set_slots as block_with_items}
use Rattle.thin_block.specs.Slots.{empty_slots, filled_slots, items_in}
use Rattle.thin_block.specs.declared.block.Block.{Block}
use Rattle.std.specs.List.{length_refill, refill}
use Rattle.std.proofs.lemmas.List.{take_at}
use Rattle.thin_vec.specs.Lends.{with_item, with_items, with_items_from}
use Rattle.thin_vec.specs.ThinVec.{IsListBlock, ListView, list_view}
use Rattle.thin_vec.proofs.list.InsertRemoveLemmas.{full-set}
use Rattle.thin_vec.proofs.ListBlockLemmas.{IsWritten, RestoresInvariant, full-same, restores-front, thin-room}

module _ {T : Type 0} where
  -- The empty slots stay empty, even if `ws` is longer than `xs`.
  pub over-front : (xs : List T) (k : ℕ) (ws : List T)
      → overwrite_items (filled_slots xs ++ empty_slots k) 0 ws ≡ filled_slots
      (refill (length xs) xs ws) ++ empty_slots k
  over-front [] zero ws = refl
  over-front [] (suc k) ws = refl
  over-front (x ∷ xs) k [] = ap (λ l. filled_slots l ++ empty_slots k) (sym (take-length (x ∷ xs)))
  over-front (x ∷ xs) k (w ∷ ws) = ap (λ l. Some w ∷ l) (over-front xs k ws)

  -- The same for a write from index `i` onward.
  pub over-from : (xs : List T) (i k : ℕ) (ws : List T) → i ≤ length xs
      → overwrite_items (filled_slots xs ++ empty_slots k) i ws ≡ filled_slots
      (take i xs ++ refill (length (drop i xs)) (drop i xs) ws) ++ empty_slots k
  over-from xs zero k ws within = over-front xs k ws
  over-from [] (suc i) k ws within = absurd (omega arith)
  over-from (x ∷ xs) (suc i) k ws within = ap (λ l. Some x ∷ l) (over-from xs i k ws (omega arith))

  take-filled : (xs : List T) (s : List (Option T)) (n : ℕ) → n ≤ length xs
      → take n (filled_slots xs ++ s) ≡ filled_slots (take n xs)
  take-filled xs s zero within = refl
  take-filled [] s (suc n) within = absurd (omega arith)
  take-filled (x ∷ xs) s (suc n) within = ap (λ l. Some x ∷ l) (take-filled xs s n (omega arith))

  -- A range of the first slots, which are filled, holds the items with these indices.
  pub range-filled : (xs : List T) (s : List (Option T)) (i j : ℕ) → i ≤ j → j ≤ length xs
      → slice_range (filled_slots xs ++ s) i j ≡ filled_slots (slice_range xs i j)
  range-filled xs s zero j order within = take-filled xs s (j - 0) (omega (arith, within))
  range-filled [] s (suc i) j order within = absurd (omega arith)
  range-filled (x ∷ xs) s (suc i) zero order within = absurd (omega arith)
  range-filled (x ∷ xs) s (suc i) (suc j) order within =
      let e : suc j - suc i ≡ j - i = omega arith in
      ap (λ n. take n (drop i (filled_slots xs ++ s))) e
      ∙ (range-filled xs s i j (omega arith) (omega arith)
      ∙ sym (ap (λ n. filled_slots (take n (drop i xs))) e))

  pub length-from : (xs : List T) (i : ℕ) (ws : List T)
      → length (take i xs ++ refill (length (drop i xs)) (drop i xs) ws) ≡ length xs
  length-from xs i ws =
      omega (
        arith,
        length-append (take i xs) (refill (length (drop i xs)) (drop i xs) ws),
        length-append (take i xs) (drop i xs),
        ap length (take-append-drop i xs),
        length_refill (length (drop i xs)) (drop i xs) ws refl,
      )

module _ {T A : Type 0} where
  pub restores-from : {b : Block T A} {a : A} → IsListBlock b a → (b' : Block T A) (i : ℕ)
      (ws : List T) {k : Cost} → i ≤ length (items_in b.slots)
      → IsWritten b b' (overwrite_items b.slots i ws) b.len k
      → RestoresInvariant b' a (take i (items_in b.slots)
      ++ refill (length (drop i (items_in b.slots))) (drop i (items_in b.slots)) ws)
      (length b.slots)
  restores-from {b} {a} t b' i ws within w =
      let xs = items_in b.slots in
      let ys = take i xs ++ refill (length (drop i xs)) (drop i xs) ws in
      let same = sym (length-from xs i ws) in
      restores-front t b' ys (length b.slots) w
      (ap (λ r. overwrite_items r i ws) t.packed.slots
      ∙ (over-from xs i (length b.slots - length xs) ws within
      ∙ ap (λ n. filled_slots ys ++ empty_slots (length b.slots - n)) same))
      (t.packed.len ∙ same) (omega (arith, same, thin-room b a t))

  pub view-with_items_from : (b : Block T A) (a : A) (i : ℕ) (ws : List T) → IsListBlock b a
      → i ≤ length (items_in b.slots)
      → list_view (block_with_items b i ws) a ≡ with_items_from (list_view b a) i ws
  view-with_items_from b a i ws t within =
      let f = restores-from t (block_with_items b i ws) i ws within refl in
      λ n. record { items = f.items n; capacity = f.cap n; alloc = a; cost = b.cost }

  -- The items in a range of the slots are those with the same indices.
  pub thin-range : (b : Block T A) (a : A) (xs : List T) (i j : ℕ) → IsListBlock b a → i ≤ j
      → j ≤ length (items_in b.slots) → filled_slots xs ≡ slice_range b.slots i j
      → xs ≡ slice_range (items_in b.slots) i j
  thin-range b a xs i j t order within run =
      let ys = items_in b.slots in
      full-same xs (slice_range ys i j)
      (run ∙ (ap (λ (r : List (Option T)). slice_range r i j) t.packed.slots
      ∙ range-filled ys (empty_slots (length b.slots - length ys)) i j order within))

  pub restores-over : {b : Block T A} {a : A} → IsListBlock b a → (b' : Block T A) (ws : List T)
      {k : Cost} → IsWritten b b' (overwrite_items b.slots 0 ws) b.len k
      → RestoresInvariant b' a (refill (length (items_in b.slots)) (items_in b.slots) ws)
      (length b.slots)
  restores-over {b} {a} t b' ws w =
      let xs = items_in b.slots in
      let same = sym (length_refill (length xs) xs ws refl) in
      restores-front t b' (refill (length xs) xs ws) (length b.slots) w
      (ap (λ r. overwrite_items r 0 ws) t.packed.slots
      ∙ (over-front xs (length b.slots - length xs) ws
      ∙ ap (λ n. filled_slots (refill (length xs) xs ws) ++ empty_slots (length b.slots - n))
      (sym same)))
      (t.packed.len ∙ sym same) (omega (arith, same, thin-room b a t))

  pub view-with_items : (b : Block T A) (a : A) (ws : List T) → IsListBlock b a
      → list_view (block_with_items b 0 ws) a ≡ with_items (list_view b a) ws
  view-with_items b a ws t =
      let f = restores-over t (block_with_items b 0 ws) ws refl in
      λ i. record { items = f.items i; capacity = f.cap i; alloc = a; cost = b.cost }

  pub restores-set : {b : Block T A} {a : A} → IsListBlock b a → (b' : Block T A) (i : ℕ) (v : T)
      {k : Cost} → i < length (items_in b.slots) → IsWritten b b' (set b.slots i (Some v)) b.len k
      → RestoresInvariant b' a (set (items_in b.slots) i v) (length b.slots)
  restores-set {b} {a} t b' i v within w =
      let xs = items_in b.slots in
      let same = length-set xs i v in
      restores-front t b' (set xs i v) (length b.slots) w
      (ap (λ r. set r i (Some v)) t.packed.slots
      ∙ (full-set xs (empty_slots (length b.slots - length xs)) i v within
      ∙ ap (λ n. filled_slots (set xs i v) ++ empty_slots (length b.slots - n)) (sym same)))
      (t.packed.len ∙ sym same) (omega (arith, same, thin-room b a t))

  pub view-with_item : (b : Block T A) (a : A) (i : ℕ) (w : T) → IsListBlock b a
      → i < length (items_in b.slots) → list_view (block_with_item b i w)
      a ≡ with_item (list_view b a) i w
  view-with_item b a i w t within =
      let f = restores-set t (block_with_item b i w) i w within refl in
      λ k. record { items = f.items k; capacity = f.cap k; alloc = a; cost = b.cost }

-- The slice `ys` is as long as the list `v`.
module _ {T A : Type 0} (v : ListView T A) (ys : List T) (same : length ys ≡ length v.items) where
  pub all-replaced : (with_items v ys).items ≡ ys
  all-replaced = take_at ys (drop (length ys) v.items) (length v.items) same

  pub none-replaced : ys ≡ v.items → with_items v ys ≡ v
  none-replaced is = λ i. record v { items = (all-replaced ∙ is) i }
