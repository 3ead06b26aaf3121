-- These lemmas state what an open block contains after it was opened, filled or closed, after its
-- gaps or its tail items were moved, or after its middle items were moved to another block.
use Rattle.std.proofs.Common.{◌≡◌, ℕ, suc, ◌+◌, ◌-◌, ◌<◌, ◌≤◌, List, [], ◌∷◌, ◌++◌, Option, None, length, take, drop, refl, sym, subst, ap, ◌∙◌, arith, length-append, append_assoc}
use Rattle.std.proofs.lemmas.List.{length-drop, length-take, length-take-le, replicate-append-replicate, set_split}
use Rattle.std.proofs.lemmas.List.Edits.{split_between}
use Rattle.std.specs.Prelude.{IsSome, slice_range}
use lib.ListN.{set}
use Rattle.thin_block.specs.Block.{block_view}
use Rattle.thin_block.specs.Cost.{add_moves}
use Rattle.thin_block.specs.Slots.{clear_slots, empty_slots, packed_slots, filled_slots, items_in, slot_range, write_slots, move_slots, slot}
use Rattle.thin_block.specs.declared.block.Block.{Block}
use Rattle.thin_block.proofs.SlotsLemmas.{written-at, moved-left, moved-right, run-at}
use Rattle.thin_vec.specs.OpenBlock.{IsOpen, IsOpenViewOf, open_view}
use Rattle.thin_vec.specs.OpenView.{OpenView, items_of, tail_end}
use Rattle.thin_vec.specs.ThinVec.{IsListBlock}
use Rattle.thin_vec.specs.declared.open_block.OpenBlock.TheInside.{Inside}
use Rattle.thin_vec.proofs.list.InsertRemoveLemmas.{full-append}
use Rattle.thin_vec.proofs.ListBlockLemmas.{length-empty, length-full, thin-room}
use Rattle.thin_vec.proofs.OpenBlockLemmas.{Found, at-middle, at-tail, by-middle, by-tail, empty-more, found, past_middle, past_tail, reached, slot-in-empty, slot-in-full, to_middle, to_tail}

pub set-written : {T : Type 0} (s : List (Option T)) (i : ℕ) (y : Option T) → i < length s
    → set s i y ≡ write_slots i (y ∷ []) s
set-written s i y low =
    let next : suc i ≡ i + 1 = omega arith in
    set_split s i y low ∙ ap (λ n. take i s ++ (y ∷ drop n s)) next

module _ {T A : Type 0} where
  -- This module is about joining the two gaps of the open block `h`, and about closing `h`.
  module _ (h : Inside T A) (o : IsOpen h) where
    -- `joined` is `h` after its two gaps became one. `joined-view` is how contracts see it.
    abbrev pub joined : Inside T A
    joined = record h { middle_start = h.tail_start; middle_end = h.tail_start }

    abbrev pub joined-view : OpenView T A
    joined-view = let w : OpenView T A = open_view h in
        record w { gap_before = w.gap_before + w.gap_after; middle = []; gap_after = 0 }

    pub join-step : (open_view h).middle ≡ [] → Found joined joined-view
    join-step none =
        let w : OpenView T A = open_view h in
        let past : w.capacity - tail_end w ≡ w.capacity - tail_end joined-view =
        omega (arith, ap length none) in
        found joined joined-view (record {
          slots = o.slots ∙ rw (past, none) (simp (append_assoc, empty-more));
          front = o.front;
          gap_before = omega (arith, o.gap_before, o.middle, o.gap_after, ap length none);
          middle = omega arith;
          gap_after = omega arith;
          tail = o.tail;
          room = o.room;
        }) refl refl

    abbrev all-after : List T
    all-after = (open_view h).middle ++ (open_view h).tail

    side-by-side : (open_view h).gap_after ≡ 0 → h.block.slots ≡ filled_slots (open_view h).front
        ++ (empty_slots (open_view h).gap_before
        ++ (filled_slots all-after ++ past_tail (open_view h)))
    side-by-side none = o.slots ∙ rw none (simp (append_assoc, full-append))

    count-after : (open_view h).gap_after ≡ 0 → length all-after ≡ h.tail_end - h.middle_start
    count-after none =
        omega (arith, length-append (open_view h).middle (open_view h).tail)

    pub after-filled : (open_view h).gap_after ≡ 0 → (j : ℕ) → h.middle_start ≤ j → j < h.tail_end
        → IsSome (slot h.block.slots j)
    after-filled none j low high =
        let w : OpenView T A = open_view h in
        let pre : List (Option T) = filled_slots w.front ++ empty_slots w.gap_before in
        let start : length pre ≡ h.middle_start = at-middle h w o in
        rw (ap (λ (r : List (Option T)). slot r j)
        (side-by-side none
        ∙ sym (append_assoc (filled_slots w.front) (empty_slots w.gap_before)
        (filled_slots all-after ++ past_tail w))))
        (slot-in-full pre all-after (past_tail w) j (omega (arith, start))
        (omega (arith, start, count-after none)))

    count-all : length (items_of (open_view h)) ≡ h.front_end + length all-after
    count-all = omega (arith, length-append (open_view h).front all-after, o.front)

    pub close-slots : (open_view h).gap_after ≡ 0
        → move_slots h.middle_start h.front_end (h.tail_end - h.middle_start) h.block.slots
        ≡ packed_slots
        (items_of (open_view h)) (length h.block.slots)
    close-slots none =
        let w : OpenView T A = open_view h in
        let left : w.gap_before + (w.capacity - tail_end w) ≡ w.capacity - length (items_of w) =
        omega (arith, count-all, reached h w o, count-after none) in
        ap (move_slots h.middle_start h.front_end (h.tail_end - h.middle_start)) (side-by-side none)
        ∙ (moved-left h.middle_start h.front_end (h.tail_end - h.middle_start) w.gap_before
        (filled_slots w.front)
        (filled_slots all-after)
        (past_tail w) (sym (length-full w.front ∙ o.front)) (sym o.gap_before)
        (omega (arith, length-full all-after, count-after none))
        ∙ rw (sym left) (simp (append_assoc, full-append, empty-more)))

    pub closed-slots : (open_view h).gap_after ≡ 0 → h.front_end ≡ h.middle_start
        → h.block.slots ≡ packed_slots (items_of (open_view h)) (length h.block.slots)
    closed-slots none here =
        let w : OpenView T A = open_view h in
        let no : w.gap_before ≡ 0 = omega (arith, o.gap_before) in
        let left : w.capacity - tail_end w ≡ w.capacity - length (items_of w) =
        omega (arith, count-all, reached h w o, count-after none) in
        side-by-side none ∙ rw (left, no) (simp (append_assoc, full-append))

  -- In this module, the block `b` becomes an open block with the middle items `start..end`.
  module _ (b : Block T A) (a : A) (start end : ℕ) (t : IsListBlock b a) (order : start ≤ end)
      (within : end ≤ length (items_in b.slots)) where
    -- `opened len` is `b` as an open block without gaps. `opened-view` is how contracts see it.
    abbrev pub opened : ℕ → Inside T A
    opened len =
        record {
          block = b;
          front_end = start;
          middle_start = start;
          middle_end = end;
          tail_start = end;
          tail_end = len;
        }

    abbrev pub opened-view : OpenView T A
    opened-view = let xs : List T = items_in b.slots in
        record {
          front = take start xs;
          gap_before = 0;
          middle = slice_range xs start end;
          gap_after = 0;
          tail = drop end xs;
          capacity = length b.slots;
          alloc = b.alloc;
          cost = b.cost;
        }

    pub open-step : (len : ℕ) → len ≡ length (items_in b.slots) → Found (opened len) opened-view
    open-step len all =
        let xs : List T = items_in b.slots in
        let f : List T = take start xs in
        let r : List T = slice_range xs start end in
        let z : List T = drop end xs in
        let cut : xs ≡ f ++ (r ++ z) = split_between xs start end order in
        let lf : length f ≡ start = length-take-le start xs (omega arith) in
        let lr : length r ≡ end - start =
        omega (arith, length-take (end - start) (drop start xs), length-drop start xs) in
        let lz : length z ≡ len - end = omega (arith, length-drop end xs) in
        let past : length b.slots - length xs ≡ length b.slots - tail_end opened-view =
        omega (arith, lf, lr, lz) in
        found (opened len) opened-view
        (record {
          slots = t.packed.slots
              ∙ (ap (λ l. filled_slots l ++ empty_slots (length b.slots - length xs)) cut
              ∙ rw past (simp (append_assoc, full-append)));
          front = lf;
          gap_before = omega arith;
          middle = omega (arith, lr);
          gap_after = omega arith;
          tail = omega (arith, lz, all);
          room = omega (arith, all, thin-room b a t);
        }) refl refl

  -- In this module, the items `xs` are written into the first gap of the open block `h`, up to the
  -- slot before index `end`.
  module _ (h : Inside T A) (o : IsOpen h) (b : Block T A) (xs : List T) (end : ℕ)
      (ends : end ≡ h.front_end + length xs) (fits : end ≤ h.middle_start) where
    fill-step : b.slots ≡ write_slots h.front_end (filled_slots xs) h.block.slots
        → Found (record h { block = b; front_end = end }) (record (open_view h) {
          front = (open_view h).front ++ xs;
          gap_before = h.middle_start - end;
          alloc = b.alloc;
          cost = b.cost;
        })
    fill-step now =
        let v : OpenView T A = open_view h in
        let w : OpenView T A =
        record v {
          front = v.front ++ xs;
          gap_before = h.middle_start - end;
          alloc = b.alloc;
          cost = b.cost;
        } in
        let parts : length xs + (h.middle_start - end) ≡ v.gap_before =
        omega (arith, ends, fits, o.gap_before) in
        let past : v.capacity - tail_end v ≡ v.capacity - tail_end w =
        omega (arith, length-append v.front xs, parts) in
        let long : length (filled_slots xs) ≡ length (empty_slots {T = T} (length xs)) =
        omega (arith, length-full xs, length-empty T (length xs)) in
        let left : List (Option T) = filled_slots v.middle ++ past_middle v in
        let split : empty_slots v.gap_before ++ left ≡ empty_slots (length xs)
        ++ (empty_slots (h.middle_start - end) ++ left) =
        ap (λ (k : ℕ). empty_slots k ++ left) (sym parts) ∙ simp (append_assoc, empty-more) in
        found (record h { block = b; front_end = end }) w (record {
          slots = now ∙ (ap (write_slots h.front_end (filled_slots xs))
              (o.slots ∙ ap (λ (r : List (Option T)). filled_slots v.front ++ r) split)
              ∙ (written-at h.front_end (filled_slots v.front) (filled_slots xs)
              (empty_slots (length xs)) (empty_slots (h.middle_start - end) ++ left)
              (sym (length-full v.front ∙ o.front)) long
              ∙ rw past (simp (append_assoc, full-append))));
          front = omega (arith, length-append v.front xs);
          gap_before = omega (arith, fits);
          middle = o.middle;
          gap_after = o.gap_after;
          tail = o.tail;
          room = o.room;
        }) refl refl

  pub fill-view : (h : Inside T A) (o : IsOpen h) {v : OpenView T A} → open_view h ≡ v
      → (b : Block T A)
      (xs : List T) (end : ℕ) → end ≡ h.front_end + length xs → length xs ≤ v.gap_before
      → block_view b ≡ record (block_view h.block) {
        slots = write_slots h.front_end (filled_slots xs) h.block.slots;
        cost = add_moves (length xs) h.block.cost;
      }
      → Found (record h { block = b; front_end = end }) (record v {
        front = v.front ++ xs;
        gap_before = v.gap_before - length xs;
        cost = add_moves (length xs) v.cost;
      })
  fill-view h o {v} is b xs end ends room now =
      let gap_before = ap (λ w. w.gap_before) is in
      let fits : end ≤ h.middle_start = omega (arith, ends, room, gap_before, o.gap_before) in
      let step = fill-step h o b xs end ends fits (ap (λ w. w.slots) now) in
      let left : h.middle_start - end ≡ v.gap_before - length xs =
      omega (arith, ends, gap_before, o.gap_before) in
      let alloc : b.alloc ≡ v.alloc = ap (λ w. w.alloc) now ∙ ap (λ w. w.alloc) is in
      let spent : b.cost ≡ add_moves (length xs) v.cost =
      ap (λ w. w.cost) now ∙ ap (λ w. add_moves (length xs) w.cost) is in
      record {
        lies = step.lies;
        view = step.view ∙ (λ i. let w = is i in record w {
          front = w.front ++ xs;
          gap_before = left i;
          alloc = alloc i;
          cost = spent i;
        });
      }

  -- In this module, the `k` middle items of the open block `h` are moved to another block.
  module _ (h : Inside T A) (o : IsOpen h) {v : OpenView T A} (is : open_view h ≡ v) {k : ℕ}
      (all : k ≡ length v.middle) where
    shown : IsOpenViewOf h v
    shown = subst (IsOpenViewOf h) is o

    count : k ≡ length (filled_slots v.middle)
    count = all ∙ sym (length-full v.middle)

    pub middle-slots : slot_range h.middle_start k h.block.slots ≡ filled_slots v.middle
    middle-slots =
        ap (λ (r : List (Option T)). slot_range h.middle_start k r) (by-middle h v shown)
        ∙ run-at h.middle_start k (to_middle v) (filled_slots v.middle) (past_middle v)
        (sym (at-middle h v shown)) count

    pub empty-view : (b : Block T A) → block_view b ≡ record (block_view h.block) {
      slots = clear_slots h.middle_start k h.block.slots;
    }
        → Found (record h { block = b; middle_start = h.middle_end }) (record v {
          gap_before = v.gap_before + length v.middle;
          middle = [];
        })
    empty-view b now =
        let w : OpenView T A =
        record v { gap_before = v.gap_before + length v.middle; middle = [] } in
        let past : v.capacity - tail_end v ≡ v.capacity - tail_end w = omega arith in
        found (record h { block = b; middle_start = h.middle_end }) w (record {
          slots = ap (λ z. z.slots) now
              ∙ (ap (λ (r : List (Option T)). clear_slots h.middle_start k r) (by-middle h v shown)
              ∙ (written-at h.middle_start (to_middle v) (empty_slots k) (filled_slots v.middle)
              (past_middle v) (sym (at-middle h v shown)) (length-empty T k ∙ count)
              ∙ rw (past, all) (simp (append_assoc, empty-more))));
          front = shown.front;
          gap_before = omega (arith, shown.gap_before, shown.middle);
          middle = omega arith;
          gap_after = shown.gap_after;
          tail = shown.tail;
          room = shown.room;
        })
        (ap (λ z. z.alloc) now ∙ ap (λ z. z.alloc) is)
        (ap (λ z. z.cost) now ∙ ap (λ z. z.cost) is)

  -- In this module, the tail items of the open block `h` are moved up by `count` slots. Before the
  -- move, at least `count` empty slots follow the tail items.
  module _ (h : Inside T A) (o : IsOpen h) (b : Block T A) (count : ℕ)
      (room : h.tail_end + count ≤ (open_view h).capacity) where
    -- `widened` is `h` after its tail items were moved up. `widened-view` is how contracts see it.
    abbrev pub widened : Inside T A
    widened = record h { block = b; tail_start = h.tail_start + count; tail_end = h.tail_end + count }

    abbrev pub widened-view : OpenView T A
    widened-view =
        let v : OpenView T A = open_view h in
        record v { gap_after = v.gap_after + count; alloc = b.alloc; cost = b.cost }

    spare : h.block.slots ≡ to_tail (open_view h)
        ++ (filled_slots (open_view h).tail
        ++ (empty_slots count ++ empty_slots
        ((open_view h).capacity - tail_end (open_view h) - count)))
    spare =
        let v : OpenView T A = open_view h in
        let all : count + (v.capacity - tail_end v - count) ≡ v.capacity - tail_end v =
        omega (arith, room, reached h v o) in
        by-tail h v o ∙ ap (λ (r : List (Option T)). to_tail v ++ (filled_slots v.tail ++ r))
        (ap (λ (k : ℕ). empty_slots k) (sym all)
        ∙ sym (replicate-append-replicate count (v.capacity - tail_end v - count) None))

    pub spare-empty : (j : ℕ) → h.tail_end ≤ j → j < h.tail_end + count → slot h.block.slots j ≡ None
    spare-empty j low high =
        let v : OpenView T A = open_view h in
        let before : List (Option T) = to_tail v ++ filled_slots v.tail in
        let end : List (Option T) = empty_slots (v.capacity - tail_end v - count) in
        let long : length before ≡ h.tail_end =
        omega (
          arith,
          length-append (to_tail v) (filled_slots v.tail),
          at-tail h v o,
          length-full v.tail,
        ) in
        ap (λ (r : List (Option T)). slot r j)
        (spare ∙ sym (append_assoc (to_tail v) (filled_slots v.tail) (empty_slots count ++ end)))
        ∙ slot-in-empty before count end j (omega (arith, long)) (omega (arith, long))

    pub widen-step : b.slots ≡ move_slots h.tail_start (h.tail_start + count)
        (h.tail_end - h.tail_start) h.block.slots
        → Found widened widened-view
    widen-step now =
        let v : OpenView T A = open_view h in
        let end : List (Option T) = empty_slots (v.capacity - tail_end v - count) in
        let k : length (filled_slots v.tail) ≡ h.tail_end - h.tail_start =
        omega (arith, length-full v.tail, o.tail) in
        let past : v.capacity - tail_end v - count ≡ v.capacity - tail_end widened-view =
        omega (arith, room, reached h v o) in
        found widened widened-view (record {
          slots = now
              ∙ (ap (move_slots h.tail_start (h.tail_start + count) (h.tail_end - h.tail_start)) spare
              ∙ (moved-right h.tail_start (h.tail_start + count) (h.tail_end - h.tail_start) count
              (to_tail v) (filled_slots v.tail) end (sym (at-tail h v o)) refl (sym k)
              ∙ rw (← past) (simp (append_assoc, empty-more))));
          front = o.front;
          gap_before = o.gap_before;
          middle = o.middle;
          gap_after = omega (arith, o.gap_after);
          tail = omega (arith, o.tail);
          room = room;
        }) refl refl
