-- These lemmas are for `append` and `split_off`. Both methods move items to the end of another
-- list: `append` moves all items, and `split_off` moves the items from an index onward.
use Rattle.std.proofs.Common.{◌≡◌, ℕ, ◌+◌, ◌-◌, ◌≤◌, List, ◌++◌, length, take, drop, Option, None, sym, ap, ◌∙◌, arith, length-append, append_assoc}
use Rattle.std.proofs.lemmas.List.{length-drop, length-replicate, length-take-le, take-append-drop, replicate-append-replicate}
use Rattle.thin_block.specs.Cost.{Cost}
use Rattle.thin_block.specs.Slots.{empty_slots, clear_slots, packed_slots, filled_slots, items_in, write_slots, slot_range}
use Rattle.thin_block.specs.declared.block.Block.{Block}
use Rattle.thin_block.proofs.BlockLemmas.{slots-are}
use Rattle.thin_block.proofs.SlotsLemmas.{written-at, run-at}
use Rattle.thin_vec.specs.ThinVec.{IsListBlock}
use Rattle.thin_vec.proofs.list.InsertRemoveLemmas.{full-append}
use Rattle.thin_vec.proofs.ListBlockLemmas.{IsWritten, RestoresInvariant, length-full, restores-front, thin-room}

module _ {T : Type 0} where
  pub front-more : (xs ys : List T) (c : ℕ) → length xs + length ys ≤ c
      → write_slots (length xs) (filled_slots ys)
      (packed_slots xs c) ≡ packed_slots (xs ++ ys) c
  front-more xs ys c room =
      let spare : ℕ = c - length xs - length ys in
      let parts : length ys + spare ≡ c - length xs = omega arith in
      let left : spare ≡ c - length (xs ++ ys) = omega (arith, length-append xs ys) in
      let long : length (filled_slots ys) ≡ length (empty_slots {T = T} (length ys)) =
      omega (arith, length-full ys, length-replicate {A = Option T} (length ys) None) in
      ap (λ (s : List (Option T)). write_slots (length xs) (filled_slots ys) (filled_slots xs ++ s))
      (sym
      (replicate-append-replicate (length ys) spare None ∙ ap (λ (k : ℕ). empty_slots k) parts))
      ∙ (written-at (length xs) (filled_slots xs) (filled_slots ys) (empty_slots (length ys))
      (empty_slots spare)
      (sym (length-full xs)) long
      ∙ rw (← left) (simp (append_assoc, full-append)))

  module _ (ys : List T) (c i k : ℕ) (order : i ≤ length ys) (room : length ys ≤ c)
      (count : k ≡ length ys - i) where
    parted : packed_slots ys c ≡ filled_slots
        (take i ys) ++ (filled_slots (drop i ys) ++ empty_slots (c - length ys))
    parted =
        ap (λ (l : List T). filled_slots l ++ empty_slots (c - length ys))
        (sym (take-append-drop i ys))
        ∙ simp (append_assoc, full-append)

    before : i ≡ length (filled_slots (take i ys))
    before = omega (arith, length-full (take i ys), length-take-le i ys order)

    within : k ≡ length (filled_slots (drop i ys))
    within = omega (arith, count, length-full (drop i ys), length-drop i ys)

    pub front-run : slot_range i k (packed_slots ys c) ≡ filled_slots (drop i ys)
    front-run = ap (λ (s : List (Option T)). slot_range i k s) parted
        ∙ run-at i k (filled_slots (take i ys))
        (filled_slots (drop i ys)) (empty_slots (c - length ys)) before within

    pub front-cut : clear_slots i k (packed_slots ys c) ≡ packed_slots (take i ys) c
    front-cut =
        let long : length (empty_slots {T = T} k) ≡ length (filled_slots (drop i ys)) =
        omega (arith, length-replicate {A = Option T} k None, within) in
        let bare : k + (c - length ys) ≡ c - length (take i ys) =
        omega (arith, count, length-take-le i ys order) in
        ap (λ (s : List (Option T)). clear_slots i k s) parted
        ∙ (written-at i (filled_slots (take i ys)) (empty_slots k) (filled_slots (drop i ys))
        (empty_slots (c - length ys)) before long
        ∙ ap (λ (s : List (Option T)). filled_slots (take i ys) ++ s)
        (replicate-append-replicate k (c - length ys) None ∙ ap (λ (m : ℕ). empty_slots m) bare))

module _ {T A : Type 0} where
  pub restores-more : {b : Block T A} {a : A} → IsListBlock b a
      → (b' : Block T A) (xs : List T) (n : ℕ)
      → n ≡ b.len → n + length xs ≤ length b.slots → {l : ℕ} {k : Cost} → l ≡ n + length xs
      → IsWritten b b' (write_slots n (filled_slots xs) b.slots) l k
      → RestoresInvariant b' a (items_in b.slots ++ xs) (length b.slots)
  restores-more {b} t b' xs n len room new w =
      let ys : List T = items_in b.slots in
      let end : n ≡ length ys = len ∙ t.packed.len in
      restores-front t b' (ys ++ xs) (length b.slots) w
      ((λ m. write_slots (end m) (filled_slots xs) (t.packed.slots m))
      ∙ front-more ys xs (length b.slots) (omega (arith, room, end)))
      (omega (arith, new, end, length-append ys xs)) (omega (arith, room, end, length-append ys xs))

  module _ {b o : Block T A} {a p : A} (t : IsListBlock b a) (u : IsListBlock o p) where
    pub restores-joined : (b' : Block T A) (i : ℕ) {k n : ℕ} → i ≤ length (items_in o.slots)
        → k ≡ o.len - i → n ≡ b.len → n + k ≤ length b.slots
        → {m : Cost} → IsWritten b b' (write_slots n (slot_range i k o.slots) b.slots) (n + k) m
        → RestoresInvariant b' a (items_in b.slots ++ drop i (items_in o.slots)) (length b.slots)
    restores-joined b' i {k} {n} order count len room w =
        let ys : List T = items_in o.slots in
        let all : k ≡ length ys - i = omega (arith, count, u.packed.len) in
        let more : length (drop i ys) ≡ k = omega (arith, all, length-drop i ys) in
        let same : slot_range i k o.slots ≡ filled_slots (drop i ys) =
        ap (λ (r : List (Option T)). slot_range i k r)
        u.packed.slots ∙ front-run ys (length o.slots) i k order (thin-room o p u) all in
        restores-more t b' (drop i ys) n len (omega (arith, room, more)) (omega (arith, more))
        (slots-are w (ap (λ (r : List (Option T)). write_slots n r b.slots) same))

  pub restores-cut : {o : Block T A} {p : A} → IsListBlock o p → (o' : Block T A) (i : ℕ) {k : ℕ}
      {m : Cost} → i ≤ length (items_in o.slots) → k ≡ o.len - i
      → IsWritten o o' (clear_slots i k o.slots) i m
      → RestoresInvariant o' p (take i (items_in o.slots)) (length o.slots)
  restores-cut {o} {p} u o' i {k} order count w =
      let ys : List T = items_in o.slots in
      let few : length (take i ys) ≡ i = length-take-le i ys order in
      restores-front u o' (take i ys) (length o.slots) w
      (ap (λ (r : List (Option T)). clear_slots i k r) u.packed.slots
      ∙ front-cut ys (length o.slots) i k order (thin-room o p u)
      (omega (arith, count, u.packed.len)))
      (sym few) (omega (arith, few, thin-room o p u, order))
