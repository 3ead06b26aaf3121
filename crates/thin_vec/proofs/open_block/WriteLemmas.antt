-- These lemmas are for the `dedup` methods. They state how contracts see an open block after items
-- have been written into one or two of its slots.
use Rattle.std.proofs.Common.{◌≡◌, ◌≢◌, ℕ, zero, suc, ◌+◌, ◌-◌, ◌<◌, ◌≤◌, List, [], ◌∷◌, ◌++◌, Option, Some, None, length, take, drop, refl, sym, ap, ◌∙◌, arith, length-append, append_assoc, get_or}
use Rattle.std.proofs.lemmas.List.{get_or_at, get_or-set_other, length-drop, length-take-le, length_push, set_at}
use Rattle.std.specs.Prelude.{IsSome, slice_range}
use lib.ListN.{set}
use Rattle.thin_block.proofs.BlockLemmas.{slots-are}
use Rattle.thin_block.specs.Block.{BlockView, block_view}
use Rattle.thin_block.specs.Lends.{overwrite_items, set_slot}
use Rattle.thin_block.specs.Slots.{empty_slots, filled_slots, slot}
use Rattle.thin_block.specs.declared.block.Block.{Block}
use Rattle.thin_vec.specs.OpenBlock.{IsOpen, open_view}
use Rattle.thin_vec.specs.OpenView.{OpenView, tail_end, slots_of}
use Rattle.thin_vec.specs.declared.open_block.OpenBlock.TheInside.{Inside}
use Rattle.thin_vec.proofs.RetainLemmas.{cons-head, cons-not-nil, cons-tail, same-parts, single}
use Rattle.thin_block.proofs.ResultLemmas.{some-same}
use Rattle.thin_vec.proofs.OpenBlockLemmas.{Found, found, last-of, past_middle, slot-in-full}
use Rattle.thin_vec.proofs.ListBlockLemmas.{length-full}
use Rattle.thin_vec.proofs.open_block.MiddleLemmas.{slots-at, same-past, write-step, written}

module _ {T : Type 0} where
  -- The following lemmas are about two items in neighboring slots.

  over-none : (s : List (Option T)) → overwrite_items s 0 [] ≡ s
  over-none [] = refl
  over-none (None ∷ s) = refl
  over-none (Some x ∷ s) = refl

  -- `Neighbors s i k x k' x'` states that the slots `i` and `i + 1` of `s` hold the items `k` and
  -- `x`. It also states that writing the new items `k'` and `x'` into these two slots at once has
  -- the same result as writing them one after the other.
  pub record Neighbors (s : List (Option T)) (i : ℕ) (k x k' x' : T) : Type 0 where
    pub first : slot s i ≡ Some k
    pub second : slot s (suc i) ≡ Some x
    pub now : overwrite_items s i (k' ∷ x' ∷ []) ≡ set (set s i (Some k')) (suc i) (Some x')

  pub neighbors : (s : List (Option T)) (i : ℕ) (k x k' x' : T) → Some k ∷ Some x ∷ [] ≡ take 2
      (drop i s) → Neighbors s i k x k' x'
  neighbors [] zero k x k' x' e = absurd (cons-not-nil e)
  neighbors (p ∷ []) zero k x k' x' e = absurd (cons-not-nil (cons-tail e))
  neighbors (p ∷ q ∷ s) zero k x k' x' e =
      let one : Some k ≡ p = cons-head e in
      let two : Some x ≡ q = cons-head (cons-tail e) in
      record {
        first = sym one;
        second = sym two;
        now = (λ i. overwrite_items (sym one i ∷ sym two i ∷ s) 0 (k' ∷ x' ∷ []))
            ∙ ap (λ (r : List (Option T)). Some k' ∷ Some x' ∷ r) (over-none s);
      }
  neighbors [] (suc i) k x k' x' e = absurd (cons-not-nil e)
  neighbors (p ∷ s) (suc i) k x k' x' e =
      let h = neighbors s i k x k' x' e in
      record { first = h.first; second = h.second; now = ap (λ (r : List (Option T)). p ∷ r) h.now }

  -- In this module, the slice `all` contains the two items in the slots `i` and `i + 1`. It is
  -- split into the slices `a` and `b`, which contain one item each.
  module _ (s : List (Option T)) (i : ℕ) (all a b : List T) (within : i + 2 ≤ length s)
      (lent : filled_slots all ≡ slice_range s i (i + 2)) (cut : all ≡ a ++ b)
      (one : length a ≡ 1) where
    pub parts-of : {k x : T} (k' x' : T) → k ≡ get_or a 0 k → x ≡ get_or b 0 x
        → Neighbors s i k x k' x'
        × (overwrite_items s i (set a 0 k' ++ set b 0 x') ≡ set (set s i (Some k')) (suc i)
        (Some x'))
    parts-of {k} {x} k' x' is isn =
        let n : i + 2 - i ≡ 2 = omega arith in
        let lent' : filled_slots all ≡ take 2 (drop i s) =
        lent ∙ ap (λ (m : ℕ). take m (drop i s)) n in
        let few : length (take 2 (drop i s)) ≡ 2 = length-take-le 2 (drop i s)
        (omega (arith, length-drop i s)) in
        let two : length b ≡ 1 = omega (
          arith,
          length-full all,
          ap length lent',
          ap length cut,
          length-append a b,
        ) in
        let p = single a one in
        let q = single b two in
        let first : k ≡ p.0 = is ∙ ap (λ (l : List T). get_or l 0 k) p.1 in
        let second : x ≡ q.0 = isn ∙ ap (λ (l : List T). get_or l 0 x) q.1 in
        let both : all ≡ p.0 ∷ q.0 ∷ [] = cut ∙ (λ j. p.1 j ++ q.1 j) in
        let h = neighbors s i k x k' x' ((λ j. Some (first j) ∷ Some (second j) ∷ [])
        ∙ (sym (ap filled_slots both) ∙ lent')) in
        (h, (λ j. overwrite_items s i (set (p.1 j) 0 k' ++ set (q.1 j) 0 x')) ∙ h.now)

module _ {T A : Type 0} where
  -- The following lemmas are about open blocks.

  -- `WrittenTwo h o k b x y x' y'` holds if the block `b` is the open block `h`, but with `x'` and
  -- `y'` in place of the middle items `x` and `y` at the indices `k` and `k + 1`.
  pub record WrittenTwo (h : Inside T A) (o : IsOpen h) (k : ℕ) (b : Block T A)
      (x y x' y' : T) : Type 0 where
    pub pre : List T
    pub post : List T
    pub place : length pre ≡ k
    pub was : (open_view h).middle ≡ pre ++ x ∷ y ∷ post
    pub count : length (pre ++ x' ∷ y' ∷ post) ≡ length (open_view h).middle
    pub shown : Found (record h { block = b })
        (record (open_view h) { middle = pre ++ x' ∷ y' ∷ post })

  module _ (h : Inside T A) (o : IsOpen h) (b : Block T A)
      (kept : block_view b ≡ record (block_view h.block) { slots = b.slots }) where
    pub write-two-step : (k : ℕ) {x y : T} (x' y' : T) → suc k < length (open_view h).middle
        → slot h.block.slots (h.middle_start + k) ≡ Some x
        → slot h.block.slots (suc (h.middle_start + k)) ≡ Some y
        → b.slots ≡ set (set h.block.slots (h.middle_start + k) (Some x'))
        (suc (h.middle_start + k))
        (Some y')
        → WrittenTwo h o k b x y x' y'
    write-two-step k {x} {y} x' y' low first second now =
        let c : Block T A = set_slot h.block (h.middle_start + k) x' in
        let one = write-step h o c k (omega arith) x x' first refl in
        let m : Inside T A = written h o c k (omega arith) in
        let next : suc (h.middle_start + k) ≡ h.middle_start + suc k = omega arith in
        let apart : suc (h.middle_start + k) ≢ h.middle_start + k = omega arith in
        let middle : (open_view m).middle ≡ one.pre ++ x' ∷ one.post =
        ap (λ v. v.middle) one.shown.view in
        let there : slot c.slots (h.middle_start + suc k) ≡ Some y =
        ap (slot c.slots) (sym next)
        ∙ (get_or-set_other h.block.slots (h.middle_start + k) (suc (h.middle_start + k)) (Some x')
        None apart ∙ second) in
        let two = write-step m one.shown.lies b (suc k)
        (omega (arith, low, ap length middle, one.count)) y y' there
        (slots-are kept (now ∙ ap (λ (n : ℕ). set c.slots n (Some y')) next)) in
        let same : one.pre ++ x' ∷ one.post ≡ two.pre ++ y ∷ two.post = sym middle ∙ two.was in
        let parts = same-parts (one.pre ++ x' ∷ []) one.post two.pre (y ∷ two.post)
        (omega (arith, length_push one.pre x', one.place, two.place))
        (append_assoc one.pre (x' ∷ []) one.post ∙ same) in
        let final : two.pre ++ y' ∷ two.post ≡ one.pre ++ x' ∷ y' ∷ two.post =
        ap (λ (l : List T). l ++ y' ∷ two.post) (sym parts.0)
        ∙ append_assoc one.pre (x' ∷ []) (y' ∷ two.post) in
        record {
          pre = one.pre;
          post = two.post;
          place = one.place;
          was = one.was ∙ ap (λ (l : List T). one.pre ++ x ∷ l) parts.1;
          count = omega (arith, ap length final, two.count, ap length middle, one.count);
          shown = record {
            lies = two.shown.lies;
            view = two.shown.view
                ∙ (λ i. record (one.shown.view i) { middle = final i });
          };
        }

  -- `WrittenLast h b x y` states that the block `b` is the block of the open block `h` after `x`,
  -- the last of the front items, was overwritten with `y`, and that nothing else was changed.
  pub record WrittenLast (h : Inside T A) (b : Block T A) (x y : T) : Type 0 where
    pub pre : List T
    pub was : (open_view h).front ≡ pre ++ x ∷ []
    pub shown : Found (record h { block = b }) (record (open_view h) { front = pre ++ y ∷ [] })

  pub write-last-step : (h : Inside T A) (o : IsOpen h) (b : Block T A) {x : T} (y : T)
      → 0 < length (open_view h).front → slot h.block.slots (h.front_end - 1) ≡ Some x
      → block_view b ≡ record
      (block_view h.block) { slots = set h.block.slots (h.front_end - 1) (Some y) }
      → WrittenLast h b x y
  write-last-step h o b {x} y some is now =
      let v : OpenView T A = open_view h in
      let p = last-of v.front some in
      let pre : List T = p.0 in
      let z : List (Option T) =
      empty_slots v.gap_before ++ (filled_slots v.middle ++ past_middle v) in
      let slots : h.block.slots ≡ filled_slots pre ++ (Some p.1 ∷ z) = o.slots
      ∙ (ap (λ (l : List T). filled_slots l ++ z) p.2 ∙ slots-at [] pre p.1 [] z) in
      let here : length (filled_slots pre) ≡ h.front_end - 1 =
      omega (arith, length-full pre, o.front, ap length p.2, length_push pre p.1) in
      let same : p.1 ≡ x = some-same
      (sym (get_or_at (filled_slots pre) (Some p.1) z None (h.front_end - 1) here)
      ∙ (ap (λ (r : List (Option T)). slot r (h.front_end - 1)) (sym slots) ∙ is)) in
      let w : OpenView T A = record v { front = pre ++ y ∷ [] } in
      let count : length (pre ++ y ∷ []) ≡ length v.front =
      omega (arith, length_push pre y, ap length p.2, length_push pre p.1) in
      let left : v.capacity - tail_end v ≡ w.capacity - tail_end w = omega (arith, count) in
      let after : b.slots ≡ slots_of w =
      ap (λ (z : BlockView T A). z.slots) now
      ∙ (ap (λ (r : List (Option T)). set r (h.front_end - 1) (Some y)) slots
      ∙ (set_at (filled_slots pre) (Some p.1) z (Some y) (h.front_end - 1) here
      ∙ (sym (slots-at [] pre y [] z)
      ∙ ap (λ (r : List (Option T)). filled_slots (pre ++ y ∷ [])
      ++ (empty_slots v.gap_before ++ (filled_slots v.middle ++ r)))
      (same-past v w refl refl left)))) in
      record {
        pre = pre;
        was = p.2 ∙ ap (λ (q : T). pre ++ q ∷ []) same;
        shown = found (record h { block = b }) w (record {
          slots = after;
          front = count ∙ o.front;
          gap_before = o.gap_before;
          middle = o.middle;
          gap_after = o.gap_after;
          tail = o.tail;
          room = o.room;
        }) (ap (λ z. z.alloc) now) (ap (λ z. z.cost) now);
      }

  pub last-filled : (h : Inside T A) (o : IsOpen h) → 0 < length (open_view h).front
      → IsSome (slot h.block.slots (h.front_end - 1))
  last-filled h o some =
      let v : OpenView T A = open_view h in
      rw (ap (λ (r : List (Option T)). slot r (h.front_end - 1)) o.slots)
      (slot-in-full [] v.front (empty_slots v.gap_before
      ++ (filled_slots v.middle ++ past_middle v))
      (h.front_end - 1)
      (omega arith) (omega (arith, o.front, some)))
