-- These lemmas say what the block of a list contains after a change of the capacity.
use Rattle.std.proofs.Common.{◌≡◌, ℕ, ◌<◌, ◌≤◌, Err, Ok, Result, Some, None, arith, refl, subst, sym, ◌-◌, List, [], ◌++◌, length, take, Option, ap, ◌∙◌}
use Rattle.std.specs.Prelude.{OnErr, OnOk}
use Rattle.thin_block.proofs.ResultLemmas.{some-same}
use Rattle.thin_block.specs.Block.{block_view}
use Rattle.thin_block.specs.Cost.{Cost, add_realloc}
use Rattle.std.proofs.Math.Seq.{take-append_seam}
use lib.ListN.{replicate}
use Rattle.thin_block.specs.Slots.{empty_slots, items_in, packed_slots}
use Rattle.thin_block.specs.declared.block.Block.{Block}
use Rattle.thin_vec.specs.ThinVec.{IsListBlock}
use Rattle.thin_vec.proofs.ListBlockLemmas.{RestoresInvariant, settled, length-front, thin-room, front-grow}

module _ {T : Type 0} where
  pub front-none : (c : ℕ) → empty_slots {T = T} c ≡ packed_slots [] c
  front-none c = let same : c ≡ c - 0 = omega arith in ap (λ (m : ℕ). empty_slots m) same

module _ {T A : Type 0} {b : Block T A} {a : A} (t : IsListBlock b a) where
  restores-remade : (b' : Block T A) (c : ℕ) {s : List (Option T)} {k : Cost}
      → block_view b' ≡ record (block_view b) { slots = s; alloc = Some a; cost = k }
      → s ≡ packed_slots (items_in b.slots) c → length (items_in b.slots) ≤ c
      → RestoresInvariant b' a (items_in b.slots) c
  restores-remade b' c w e room =
      settled b' a (items_in b.slots) c (ap (λ v. v.slots) w ∙ e) (ap (λ v. v.len) w ∙ t.packed.len)
      room (λ x h. some-same (sym h ∙ ap (λ v. v.alloc) w))

  pub restores-tried : {X E : Type 0} (r : Result X E) (b' : Block T A) (c : ℕ)
      → length b.slots < c
      → OnOk r (block_view b' ≡ record (block_view b) {
        slots = b.slots ++ empty_slots (c - length b.slots);
        alloc = Some a;
        cost = add_realloc b.len b.cost;
      }) → OnErr r (b' ≡ b)
      → RestoresInvariant b' a (items_in b.slots) (length b'.slots) × (length b'.slots ≤ c)
  restores-tried (Ok _) b' c larger w _ =
      let xs : List T = items_in b.slots in
      let after = restores-remade b' c w
      (ap (λ (r : List (Option T)). r ++ empty_slots (c - length b.slots)) t.packed.slots
      ∙ front-grow xs (length b.slots) c (thin-room b a t) (omega arith))
      (omega (arith, thin-room b a t)) in
      (record { thin = after.thin; items = after.items; cap = refl }, omega (arith, after.cap))
  restores-tried (Err _) b' c larger _ same = (
    subst (λ (q : Block T A). RestoresInvariant q a (items_in b.slots) (length q.slots)) (sym same)
        (record { thin = t; items = refl; cap = refl }),
    omega (arith, ap (λ (q : Block T A). length q.slots) same),
  )

  pub restores-shrink : (b' : Block T A) (k : ℕ) {m : Cost} → length (items_in b.slots) ≤ k
      → k ≤ length b.slots
      → block_view b' ≡ record (block_view b) { slots = take k b.slots; alloc = Some a; cost = m }
      → RestoresInvariant b' a (items_in b.slots) k
  restores-shrink b' k room less w =
      let xs : List T = items_in b.slots in
      let spare : List (Option T) = replicate (length b.slots - k) None in
      restores-remade b' k w
      (ap (λ (r : List (Option T)). take k r)
      (t.packed.slots ∙ sym (front-grow xs k (length b.slots) room less))
      ∙ (ap (λ (m : ℕ). take m (packed_slots xs k ++ spare)) (sym (length-front xs k room))
      ∙ take-append_seam (packed_slots xs k) spare)) room

pub restores-new : {T A : Type 0} (b : Block T A) (a : A) (c : ℕ) {k : Cost}
    → block_view b ≡ record { slots = empty_slots c; len = 0; alloc = Some a; cost = k }
    → RestoresInvariant b a [] c
restores-new b a c w = settled b a [] c (ap (λ v. v.slots) w ∙ front-none c) (ap (λ v. v.len) w)
    (omega arith) (λ x h. some-same (sym h ∙ ap (λ v. v.alloc) w))
