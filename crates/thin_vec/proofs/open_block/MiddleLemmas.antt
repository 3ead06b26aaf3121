-- These lemmas state how contracts see an open block `h` after one middle item was tested, and
-- after the first `k` middle items became front items.
use Rattle.std.proofs.Common.{◌≡◌, ℕ, zero, suc, ◌+◌, ◌-◌, ◌<◌, ◌≤◌, List, [], ◌∷◌, ◌++◌, Option, Some, None, length, take, drop, refl, sym, ap, ◌∙◌, arith, length-append, append_assoc}
use Rattle.std.proofs.lemmas.List.{get_or_at, length-drop, length-take-le, set_at, take-append-drop}
use lib.ListN.{set}
use Rattle.thin_block.specs.Block.{BlockView, block_view}
use Rattle.thin_block.specs.Cost.{Cost}
use Rattle.thin_block.specs.Slots.{empty_slots, filled_slots, move_slots, slot}
use Rattle.thin_block.specs.declared.block.Block.{Block}
use Rattle.thin_block.proofs.SlotsLemmas.{moved-left}
use Rattle.thin_vec.specs.OpenBlock.{IsOpen, open_view}
use Rattle.thin_vec.specs.OpenView.{OpenView, tail_end, slots_of}
use Rattle.thin_vec.specs.declared.open_block.OpenBlock.TheInside.{Inside}
use Rattle.thin_vec.proofs.list.InsertRemoveLemmas.{full-append}
use Rattle.thin_block.proofs.ResultLemmas.{some-same}
use Rattle.thin_vec.proofs.OpenBlockLemmas.{Found, at-middle, by-middle, found, past_middle, to_middle}
use Rattle.thin_vec.proofs.ListBlockLemmas.{length-full}

pub split-at : {X : Type 0} (xs : List X) (k : ℕ) → k < length xs → (pre : List X) × (x : X)
    × (post : List X) × (length pre ≡ k) × (xs ≡ pre ++ x ∷ post)
split-at [] k low = absurd (omega arith)
split-at (x ∷ xs) zero low = ([], x, xs, refl, refl)
split-at (x ∷ xs) (suc k) low =
    let low' : suc k < suc (length xs) = low in
    let p = split-at xs k (omega arith) in
    (x ∷ p.0, p.1, p.2, ap suc p.3, ap (λ l. x ∷ l) p.4)

module _ {T : Type 0} where
  pub slots-at : (a : List (Option T)) (pre : List T) (x : T) (post : List T) (z : List (Option T))
      → a ++ (filled_slots (pre ++ x ∷ post) ++ z)
      ≡ (a ++ filled_slots pre) ++ (Some x ∷ (filled_slots post ++ z))
  slots-at a pre x post z = simp (append_assoc, full-append)

module _ {T A : Type 0} where
  pub same-past : (v w : OpenView T A) → w.gap_after ≡ v.gap_after → w.tail ≡ v.tail
      → v.capacity - tail_end v ≡ w.capacity - tail_end w → past_middle v ≡ past_middle w
  same-past v w b t n = λ i. empty_slots (sym b i) ++ (filled_slots (sym t i) ++ empty_slots (n i))

  module _ (h : Inside T A) (o : IsOpen h) (b : Block T A) (k : ℕ)
      (low : k < length (open_view h).middle) where
    abbrev v : OpenView T A
    v = open_view h

    -- `written` is the open block `h` after its middle item at index `k` was overwritten.
    -- `written-view ys` is how contracts see it if `ys` are its middle items.
    abbrev pub written : Inside T A
    written = record h { block = b }

    abbrev pub written-view : List T → OpenView T A
    written-view ys = record v { middle = ys }

    -- `Written x y` states that the middle item `x` at index `k` was overwritten with `y`, and that
    -- nothing else in the open block has changed.
    pub record Written (x y : T) : Type 0 where
      pub pre : List T
      pub post : List T
      pub place : length pre ≡ k
      pub was : v.middle ≡ pre ++ x ∷ post
      pub count : length (pre ++ y ∷ post) ≡ length v.middle
      pub shown : Found written (written-view (pre ++ y ∷ post))

    pub write-step : (x y : T) → slot h.block.slots (h.middle_start + k) ≡ Some x
        → block_view b ≡ record (block_view h.block)
        { slots = set h.block.slots (h.middle_start + k) (Some y) } → Written x y
    write-step x y is now =
        let p = split-at v.middle k low in
        let pre : List T = p.0 in
        let post : List T = p.2 in
        let slots : h.block.slots
        ≡ (to_middle v ++ filled_slots pre) ++ (Some p.1 ∷ (filled_slots post ++ past_middle v))
        =
        by-middle h v o ∙ (ap (λ (r : List T). to_middle v ++ (filled_slots r ++ past_middle v)) p.4
        ∙ slots-at (to_middle v) pre p.1 post (past_middle v)) in
        let here : length (to_middle v ++ filled_slots pre) ≡ h.middle_start + k =
        omega (
          arith,
          length-append (to_middle v) (filled_slots pre),
          at-middle h v o,
          length-full pre,
        )
        in
        let same : p.1 ≡ x =
        some-same (sym (get_or_at (to_middle v ++ filled_slots pre) (Some p.1)
        (filled_slots post ++ past_middle v) None
        (h.middle_start + k) here) ∙ (ap (λ (r : List (Option T)). slot r (h.middle_start + k))
        (sym slots) ∙ is)) in
        let count : length (pre ++ y ∷ post) ≡ length v.middle =
        omega (
          arith,
          length-append pre (y ∷ post),
          ap length p.4,
          length-append pre (p.1 ∷ post),
        ) in
        let w : OpenView T A = written-view (pre ++ y ∷ post) in
        let left : v.capacity - tail_end v ≡ w.capacity - tail_end w = omega (arith, count) in
        let after : b.slots ≡ slots_of w =
        ap (λ (z : BlockView T A). z.slots) now
        ∙ (ap (λ (r : List (Option T)). set r (h.middle_start + k) (Some y)) slots
        ∙ (set_at (to_middle v ++ filled_slots pre) (Some p.1) (filled_slots post ++ past_middle v)
        (Some y) (h.middle_start + k) here
        ∙ rw left (simp (append_assoc, full-append)))) in
        record {
          pre = pre;
          post = post;
          place = p.3;
          was = p.4 ∙ ap (λ (z : T). pre ++ z ∷ post) same;
          count = count;
          shown = found written w (record {
            slots = after;
            front = o.front;
            gap_before = o.gap_before;
            middle = omega (arith, o.middle, count);
            gap_after = o.gap_after;
            tail = o.tail;
            room = o.room;
          }) (ap (λ z. z.alloc) now) (ap (λ z. z.cost) now);
        }

  -- In this module, the first `k` middle items of the open block `h` become front items.
  module _ (h : Inside T A) (o : IsOpen h) (k : ℕ) (low : k ≤ length (open_view h).middle) where
    abbrev u : OpenView T A
    u = open_view h

    -- `moved_run b` is the open block `h` after its first `k` middle items became front items, with
    -- the slots of the block `b`. `moved_run-view b` is how contracts see it.
    abbrev pub moved_run : Block T A → Inside T A
    moved_run b =
        record h { block = b; front_end = h.front_end + k; middle_start = h.middle_start + k }

    abbrev pub moved_run-view : Block T A → OpenView T A
    moved_run-view b = record u
        { front = u.front ++ take k u.middle; middle = drop k u.middle; cost = b.cost }

    moved_run-shows : (b : Block T A)
        → b.slots ≡ filled_slots u.front
        ++ (filled_slots (take k u.middle)
        ++ (empty_slots u.gap_before ++ (filled_slots (drop k u.middle) ++ past_middle u)))
        → b.alloc ≡ h.block.alloc → Found (moved_run b) (moved_run-view b)
    moved_run-shows b now alloc =
        let w : OpenView T A = moved_run-view b in
        let few : length (take k u.middle) ≡ k = length-take-le k u.middle low in
        let middle : length (drop k u.middle) ≡ length u.middle - k = length-drop k u.middle in
        let more : length w.front ≡ length u.front + k =
        omega (arith, length-append u.front (take k u.middle), few) in
        let left : u.capacity - tail_end u ≡ w.capacity - tail_end w =
        omega (arith, more, middle) in
        let after : b.slots ≡ slots_of w =
        now ∙ rw left (simp (append_assoc, full-append)) in
        found (moved_run b) w
        (record {
          slots = after;
          front = omega (arith, o.front, more);
          gap_before = omega (arith, o.gap_before);
          middle = omega (arith, o.middle, middle);
          gap_after = o.gap_after;
          tail = o.tail;
          room = o.room;
        })
        alloc refl

    cut : filled_slots u.middle ++ past_middle u ≡ filled_slots
        (take k u.middle) ++ (filled_slots (drop k u.middle) ++ past_middle u)
    cut =
        ap (λ (l : List T). filled_slots l ++ past_middle u) (sym (take-append-drop k u.middle))
        ∙ simp (append_assoc, full-append)

    parted : h.block.slots ≡ filled_slots u.front
        ++ (empty_slots u.gap_before
        ++ (filled_slots (take k u.middle) ++ (filled_slots (drop k u.middle) ++ past_middle u)))
    parted = o.slots ∙ ap
        (λ (r : List (Option T)). filled_slots u.front ++ (empty_slots u.gap_before ++ r)) cut

    pub pass-step : u.gap_before ≡ 0 → Found (moved_run h.block) (moved_run-view h.block)
    pass-step none =
        moved_run-shows h.block (parted ∙ rw none refl) refl

    pub move_down-step : (b : Block T A) {c : Cost}
        → block_view b ≡ record (block_view h.block)
        { slots = move_slots h.middle_start h.front_end k h.block.slots; cost = c }
        → Found (moved_run b) (moved_run-view b)
    move_down-step b now =
        let few : length (filled_slots (take k u.middle)) ≡ k = length-full (take k u.middle)
        ∙ length-take-le k u.middle low in
        moved_run-shows b
        (ap (λ (z : BlockView T A). z.slots) now
        ∙ (ap (move_slots h.middle_start h.front_end k) parted
        ∙ moved-left h.middle_start h.front_end k u.gap_before (filled_slots u.front)
        (filled_slots (take k u.middle))
        (filled_slots (drop k u.middle) ++ past_middle u) (sym (length-full u.front ∙ o.front))
        (sym o.gap_before) (sym few))) (ap (λ (z : BlockView T A). z.alloc) now)
