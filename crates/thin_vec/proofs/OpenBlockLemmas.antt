-- An open block is the block of a list during an edit. It holds front items, middle items and tail
-- items, with gaps of empty slots between these groups. These lemmas state which slots hold the
-- items of each group, and what an open block contains after an item was taken from it.
use Rattle.std.proofs.Common.{◌≡◌, ℕ, suc, ◌+◌, ◌-◌, ◌<◌, ◌≤◌, List, [], ◌∷◌, ◌++◌, Option, Some, None, length, take, drop, refl, sym, ap, ◌∙◌, subst, arith, length-append, append_assoc}
use Rattle.std.proofs.lemmas.List.{drop_at, get_or-append_right, get_or-replicate, get_or_append_left, get_or_at, length_push, map_push, replicate-append-replicate, set_at, take_at}
use Rattle.std.specs.Prelude.{IsSome, slice_range}
use lib.ListN.{set}
use Rattle.thin_block.specs.Block.{BlockView, block_view}
use Rattle.thin_block.specs.Slots.{empty_slots, filled_slots, items_in, slot}
use Rattle.thin_block.specs.declared.block.Block.{Block}
use Rattle.thin_block.proofs.ResultLemmas.{some-same}
use Rattle.thin_vec.specs.OpenBlock.{IsOpen, IsOpenViewOf, open_view}
use Rattle.thin_vec.specs.OpenView.{OpenView, tail_end, slots_of}
use Rattle.thin_vec.specs.declared.open_block.OpenBlock.TheInside.{Inside}
use Rattle.thin_vec.proofs.ListBlockLemmas.{get-some, items-front, items-full-alone, length-empty, length-full, slot-get}

pub first-of : {X : Type 0} (xs : List X) → 0 < length xs → (x : X) × (ys : List X) × (xs ≡ x ∷ ys)
first-of [] h = absurd (omega arith)
first-of (x ∷ ys) h = (x, ys, refl)

pub last-of : {X : Type 0} (xs : List X) → 0 < length xs → (ys : List X)
    × (x : X) × (xs ≡ ys ++ x ∷ [])
last-of [] h = absurd (omega arith)
last-of (x ∷ []) h = ([], x, refl)
last-of (x ∷ z ∷ zs) h = let p = last-of (z ∷ zs) (omega arith) in
    (x ∷ p.0, p.1, ap (λ q. x ∷ q) p.2)

module _ {T : Type 0} where
  pub slot-in-full : (pre : List (Option T)) (xs : List T) (post : List (Option T)) (j : ℕ)
      → length pre ≤ j → j < length pre + length xs
      → IsSome (slot (pre ++ (filled_slots xs ++ post)) j)
  slot-in-full pre xs post j low high =
      rw (get_or-append_right pre (filled_slots xs ++ post) (length pre) j None refl low
      ∙ slot-get xs post (j - length pre) (omega arith))
      (get-some xs (j - length pre) (omega arith))

  pub slot-in-empty : (pre : List (Option T)) (k : ℕ) (post : List (Option T)) (j : ℕ)
      → length pre ≤ j
      → j < length pre + k → slot (pre ++ (empty_slots k ++ post)) j ≡ None
  slot-in-empty pre k post j low high =
      let n : j - length pre < k = omega arith in
      get_or-append_right pre (empty_slots k ++ post) (length pre) j None refl low
      ∙ (get_or_append_left (empty_slots k) post None (j - length pre)
      (omega (arith, length-empty T k))
      ∙ get_or-replicate k (j - length pre) None None n)

  pub empty-more : (n m : ℕ) → empty_slots {T = T} (n + m) ≡ empty_slots n ++ empty_slots m
  empty-more n m = sym (replicate-append-replicate n m None)

module _ {T A : Type 0} where
  -- `Found h v` holds if `h` is a valid open block, and `v` is how contracts see `h`.
  pub record Found (h : Inside T A) (v : OpenView T A) : Type 0 where
    pub lies : IsOpen h
    pub view : open_view h ≡ v

  -- The slots of an open block before the middle items (`to_middle`), up to the end of the middle
  -- items (`to_after`), and before the tail items (`to_tail`).
  abbrev pub to_middle : OpenView T A → List (Option T)
  to_middle v = filled_slots v.front ++ empty_slots v.gap_before

  abbrev pub to_after : OpenView T A → List (Option T)
  to_after v = to_middle v ++ filled_slots v.middle

  abbrev pub to_tail : OpenView T A → List (Option T)
  to_tail v = to_after v ++ empty_slots v.gap_after

  -- The slots after the tail items (`past_tail`), from the first tail item onward (`past_after`),
  -- and after the middle items (`past_middle`).
  abbrev pub past_tail : OpenView T A → List (Option T)
  past_tail v = empty_slots (v.capacity - tail_end v)

  abbrev pub past_after : OpenView T A → List (Option T)
  past_after v = filled_slots v.tail ++ past_tail v

  abbrev pub past_middle : OpenView T A → List (Option T)
  past_middle v = empty_slots v.gap_after ++ past_after v

  -- `middle_at v` is the index of the slot of the first middle item.
  abbrev pub middle_at : OpenView T A → ℕ
  middle_at v = length v.front + v.gap_before

  module _ (h : Inside T A) (v : OpenView T A) (s : IsOpenViewOf h v) where
    pub by-middle : h.block.slots ≡ to_middle v ++ (filled_slots v.middle ++ past_middle v)
    by-middle = s.slots ∙ simp append_assoc

    pub by-tail : h.block.slots ≡ to_tail v ++ past_after v
    by-tail = s.slots ∙ simp append_assoc

    pub at-middle : length (to_middle v) ≡ h.middle_start
    at-middle =
        simp (length-append, length-full, length-empty T) (omega (arith, s.front, s.gap_before))

    pub at-tail : length (to_tail v) ≡ h.tail_start
    at-tail = simp (length-append, length-full, length-empty T)
        (omega (arith, s.front, s.gap_before, s.middle, s.gap_after))

    pub reached : tail_end v ≡ h.tail_end
    reached = omega (arith, s.front, s.gap_before, s.middle, s.gap_after, s.tail)

    shown-cap : length h.block.slots ≡ v.capacity
    shown-cap =
        omega (
          arith,
          simp (length-append, length-full, length-empty T) at (ap length s.slots),
          reached,
        )

    shown-front : items_in (take h.front_end h.block.slots) ≡ v.front
    shown-front =
        ap items_in (ap (take h.front_end) s.slots
        ∙ take_at (filled_slots v.front)
        (empty_slots v.gap_before ++ (filled_slots v.middle ++ past_middle v)) h.front_end
        (length-full v.front ∙ s.front))
        ∙ items-full-alone v.front

    shown-middle : items_in (slice_range h.block.slots h.middle_start h.middle_end) ≡ v.middle
    shown-middle =
        let count : length (filled_slots v.middle) ≡ h.middle_end - h.middle_start =
        omega (arith, length-full v.middle, s.middle) in
        ap items_in (ap (λ (r : List (Option T)). take (h.middle_end - h.middle_start)
        (drop h.middle_start r)) by-middle
        ∙ (ap (take (h.middle_end - h.middle_start))
        (drop_at (to_middle v) (filled_slots v.middle ++ past_middle v) h.middle_start at-middle)
        ∙ take_at (filled_slots v.middle) (past_middle v) (h.middle_end - h.middle_start) count))
        ∙ items-full-alone v.middle

    shown-tail : items_in (drop h.tail_start h.block.slots) ≡ v.tail
    shown-tail =
        let some : length v.tail + (v.capacity - tail_end v) - length v.tail
        ≡ v.capacity - tail_end v =
        omega arith in
        ap items_in (ap (drop h.tail_start) by-tail
        ∙ (drop_at (to_tail v) (past_after v) h.tail_start at-tail
        ∙ ap (λ (k : ℕ). filled_slots v.tail ++ empty_slots k) (sym some)))
        ∙ items-front v.tail (length v.tail + (v.capacity - tail_end v))

    pub found : h.block.alloc ≡ v.alloc → h.block.cost ≡ v.cost → Found h v
    found alloc cost =
        let gap_before : h.middle_start - h.front_end ≡ v.gap_before =
        omega (arith, s.gap_before) in
        let gap_after : h.tail_start - h.middle_end ≡ v.gap_after = omega (arith, s.gap_after) in
        let view : open_view h ≡ v =
        λ i. record {
          front = shown-front i;
          gap_before = gap_before i;
          middle = shown-middle i;
          gap_after = gap_after i;
          tail = shown-tail i;
          capacity = shown-cap i;
          alloc = alloc i;
          cost = cost i;
        } in
        record { lies = subst (IsOpenViewOf h) (sym view) s; view = view }

    pub middle-filled : (j : ℕ) → h.middle_start ≤ j → j < h.middle_end
        → IsSome (slot h.block.slots j)
    middle-filled j low high =
        rw (ap (λ (r : List (Option T)). slot r j) by-middle)
        (slot-in-full (to_middle v) v.middle (past_middle v) j (omega (arith, at-middle))
        (omega (arith, at-middle, s.middle)))

    pub tail-filled : (j : ℕ) → h.tail_start ≤ j → j < h.tail_end → IsSome (slot h.block.slots j)
    tail-filled j low high =
        rw (ap (λ (r : List (Option T)). slot r j) by-tail)
        (slot-in-full (to_tail v) v.tail (past_tail v) j (omega (arith, at-tail))
        (omega (arith, at-tail, s.tail)))

    pub before-empty : (j : ℕ) → h.front_end ≤ j → j < h.middle_start → slot h.block.slots j ≡ None
    before-empty j low high =
        ap (λ (r : List (Option T)). slot r j) s.slots
        ∙ slot-in-empty (filled_slots v.front) v.gap_before
        (filled_slots v.middle ++ past_middle v) j
        (omega (arith, length-full v.front, s.front))
        (omega (arith, length-full v.front, s.front, s.gap_before))

  module _ (h : Inside T A) (o : IsOpen h) {v : OpenView T A} (is : open_view h ≡ v) where
    pub middle_start-is : h.middle_start ≡ middle_at v
    middle_start-is = omega
        (arith, o.front, o.gap_before, ap (λ u. length u.front) is, ap (λ u. u.gap_before) is)

    pub middle_end-is : h.middle_end ≡ middle_at v + length v.middle
    middle_end-is = omega (arith, middle_start-is, o.middle, ap (λ u. length u.middle) is)

  pub middle-run : (h : Inside T A) (xs : List T) → filled_slots xs
      ≡ slice_range h.block.slots h.middle_start h.middle_end
      → xs ≡ (open_view h).middle
  middle-run h xs e = sym (items-full-alone xs) ∙ ap items_in e

  -- Most steps of an edit, such as the removal of one item, have two definitions: the open block
  -- after the step, and how contracts see it. A lemma states that they agree.

  module _ (h : Inside T A) (o : IsOpen h) (b : Block T A)
      (some : 0 < length (open_view h).middle) where
    abbrev v : OpenView T A
    v = open_view h

    -- `first-left` is `h` without its first middle item. `first-view ys` is how contracts see it if
    -- `ys` are the other middle items.
    abbrev pub first-left : Inside T A
    first-left = record h { block = b; middle_start = h.middle_start + 1 }

    abbrev pub first-view : List T → OpenView T A
    first-view ys = record v { gap_before = v.gap_before + 1; middle = ys }

    pub first-step : (x : T) → slot h.block.slots h.middle_start ≡ Some x
        → block_view b
        ≡ record (block_view h.block) { slots = set h.block.slots h.middle_start None }
        → (ys : List T) × (v.middle ≡ x ∷ ys) × Found first-left (first-view ys)
    first-step x is now =
        let parts = first-of v.middle some in
        let y : T = parts.0 in
        let ys : List T = parts.1 in
        let slots : h.block.slots ≡ to_middle v ++ (Some y ∷ (filled_slots ys ++ past_middle v)) =
        by-middle h v o
        ∙ ap (λ (r : List T). to_middle v ++ (filled_slots r ++ past_middle v)) parts.2 in
        let same : y ≡ x =
        some-same (sym (get_or_at (to_middle v) (Some y)
        (filled_slots ys ++ past_middle v) None h.middle_start
        (at-middle h v o))
        ∙ (ap (λ (r : List (Option T)). slot r h.middle_start) (sym slots) ∙ is)) in
        let reached' : v.capacity - tail_end v ≡ v.capacity - tail_end (first-view ys) =
        omega (arith, ap length parts.2) in
        let after : b.slots ≡ slots_of (first-view ys) =
        ap (λ (z : BlockView T A). z.slots) now
        ∙ (ap (λ (r : List (Option T)). set r h.middle_start None) slots
        ∙ (set_at (to_middle v) (Some y) (filled_slots ys ++ past_middle v) None h.middle_start
        (at-middle h v o)
        ∙ rw reached' (simp (append_assoc, empty-more)))) in (
          ys,
          parts.2 ∙ ap (λ (z : T). z ∷ ys) same,
          found first-left (first-view ys) (record {
            slots = after;
            front = o.front;
            gap_before = omega arith;
            middle = omega (arith, ap length parts.2);
            gap_after = o.gap_after;
            tail = o.tail;
            room = o.room;
          }) (ap (λ z. z.alloc) now) (ap (λ z. z.cost) now),
        )

    -- `last-left` is `h` without its last middle item. `last-view ys` is how contracts see it if
    -- `ys` are the other middle items.
    abbrev pub last-left : Inside T A
    last-left = record h { block = b; middle_end = h.middle_end - 1 }

    abbrev pub last-view : List T → OpenView T A
    last-view ys = record v { middle = ys; gap_after = v.gap_after + 1 }

    pub last-step : (x : T) → slot h.block.slots (h.middle_end - 1) ≡ Some x
        → block_view b ≡ record
        (block_view h.block) { slots = set h.block.slots (h.middle_end - 1) None }
        → (ys : List T) × (v.middle ≡ ys ++ x ∷ []) × Found last-left (last-view ys)
    last-step x is now =
        let parts = last-of v.middle some in
        let ys : List T = parts.0 in
        let y : T = parts.1 in
        let longer : length v.middle ≡ length ys + 1 = ap length parts.2 ∙ length_push ys y in
        let pre : List (Option T) = to_middle v ++ filled_slots ys in
        let before : length pre ≡ h.middle_end - 1 =
        omega (
          arith,
          length-append (to_middle v) (filled_slots ys),
          at-middle h v o,
          length-full ys,
        ) in
        let slots : h.block.slots ≡ pre ++ (Some y ∷ past_middle v) =
        by-middle h v o
        ∙ (ap (λ (r : List T). to_middle v ++ (filled_slots r ++ past_middle v)) parts.2
        ∙ simp (append_assoc, map_push)) in
        let same : y ≡ x =
        some-same (sym (get_or_at pre (Some y) (past_middle v) None (h.middle_end - 1) before)
        ∙ (ap (λ (r : List (Option T)). slot r (h.middle_end - 1)) (sym slots) ∙ is)) in
        let reached' : v.capacity - tail_end v ≡ v.capacity - tail_end (last-view ys) =
        omega (arith, longer) in
        let more : v.gap_after + 1 ≡ suc v.gap_after = omega arith in
        let after : b.slots ≡ slots_of (last-view ys) =
        ap (λ (z : BlockView T A). z.slots) now
        ∙ (ap (λ (r : List (Option T)). set r (h.middle_end - 1) None) slots
        ∙ (set_at pre (Some y) (past_middle v) None (h.middle_end - 1) before
        ∙ rw (reached', more) (simp append_assoc))) in (
          ys,
          parts.2 ∙ ap (λ (z : T). ys ++ z ∷ []) same,
          found last-left (last-view ys) (record {
            slots = after;
            front = o.front;
            gap_before = o.gap_before;
            middle = omega arith;
            gap_after = omega arith;
            tail = o.tail;
            room = o.room;
          }) (ap (λ z. z.alloc) now) (ap (λ z. z.cost) now),
        )
