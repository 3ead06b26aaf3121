-- These lemmas state what the block of an `IntoIter` contains after each operation, and what the
-- iterator yields. The items that have not been yielded yet are in the slots `start..end` of the
-- block. All other slots are empty.
use Rattle.std.proofs.Common.{◌≡◌, ℕ, zero, suc, ◌+◌, ◌-◌, ◌<◌, ◌≤◌, List, [], ◌∷◌, ◌++◌, Option, Some, None, length, take, drop, refl, sym, ap, ◌∙◌, arith, get_or, length-append, append_assoc}
use Rattle.std.proofs.iter.runs.Sources.{as_is, as_is_back, from_back, from_front}
use Rattle.std.proofs.lemmas.Grind.{take_at_read}
use Rattle.std.proofs.lemmas.List.{append-nil, drop_at, nil_from_length, get_or-append_right, get_or_at, length-take-le, map_push, replicate-append-replicate, set_at, take_at}
use Rattle.std.specs.Iterator.{YieldsFirst, YieldsLast}
use Rattle.std.specs.Prelude.{IsSome, slice_range}
use lib.ListN.{set}
use Rattle.thin_block.specs.Block.{IsAllocatedBy, block_view}
use Rattle.thin_block.specs.Lends.{overwrite_items, set_slots as block_with_items}
use Rattle.thin_block.specs.Slots.{empty_slots, filled_slots, items_in, slot}
use Rattle.thin_block.specs.declared.block.Block.{Block}
use Rattle.thin_vec.specs.Convert.IntoIter.{IsIntoIterBlock, IntoIterYieldsInOrder, IntoIterYieldsInReverse}
use Rattle.thin_vec.specs.VecWords.{into_iter_items}
use Rattle.std.specs.List.{length_refill, refill}
use Rattle.thin_vec.specs.Lends.{with_items}
use Rattle.thin_vec.specs.ThinVec.{list_view}
use Rattle.thin_vec.proofs.LendsLemmas.{over-front}
use Rattle.thin_vec.proofs.OpenBlockLemmas.{empty-more}
use Rattle.thin_vec.proofs.ListBlockLemmas.{from-same, full-same, get-some, items-empty, items-full, length-empty, length-full, slot-get}

module _ {T : Type 0} where
  items-after : (k : ℕ) (s : List (Option T)) → items_in (empty_slots k ++ s) ≡ items_in s
  items-after zero s = refl
  items-after (suc k) s = items-after k s

  set-first : (start k : ℕ) (x : T) (xs : List T)
      → set (empty_slots start ++ (filled_slots (x ∷ xs) ++ empty_slots k))
      start None ≡ empty_slots (start + 1) ++ (filled_slots xs ++ empty_slots k)
  set-first start k x xs =
      set_at (empty_slots start) (Some x) (filled_slots xs ++ empty_slots k) None start
      (length-empty T start)
      ∙ simp (append_assoc, empty-more)

  slots-last : (start k : ℕ) (xs : List T) (x : T)
      → empty_slots start ++ (filled_slots (xs ++ x ∷ []) ++ empty_slots k)
      ≡ (empty_slots start ++ filled_slots xs) ++ (Some x ∷ empty_slots k)
  slots-last start k xs x =
      simp (append_assoc, map_push)

  before-last : (start : ℕ) (xs : List T)
      → length (empty_slots start ++ filled_slots xs) ≡ start + length xs
  before-last start xs =
      omega (
        arith,
        length-append (empty_slots start) (filled_slots xs),
        length-empty T start,
        length-full xs,
      )

  slot-last : (start k : ℕ) (xs : List T) (x : T)
      → slot (empty_slots start ++ (filled_slots (xs ++ x ∷ []) ++ empty_slots k))
      (start + length xs) ≡ Some x
  slot-last start k xs x = ap (λ (s : List (Option T)). slot s (start + length xs))
      (slots-last start k xs x)
      ∙ get_or_at (empty_slots start ++ filled_slots xs) (Some x) (empty_slots k) None
      (start + length xs) (before-last start xs)

  set-last : (start k : ℕ) (xs : List T) (x : T)
      → set (empty_slots start ++ (filled_slots (xs ++ x ∷ []) ++ empty_slots k))
      (start + length xs) None ≡ empty_slots start
      ++ (filled_slots xs ++ empty_slots (k + 1))
  set-last start k xs x =
      ap (λ (s : List (Option T)). set s (start + length xs) None) (slots-last start k xs x)
      ∙ (set_at (empty_slots start ++ filled_slots xs) (Some x) (empty_slots k) None
      (start + length xs) (before-last start xs)
      ∙ (append_assoc (empty_slots start) (filled_slots xs) (None ∷ empty_slots k)
      ∙ ap (λ (n : ℕ). empty_slots start ++ (filled_slots xs ++ empty_slots n))
      (let e : suc k ≡ k + 1 = omega arith in e)))

  split-last : (xs : List T) (j : ℕ) (d : T) → j + 1 ≡ length xs
      → xs ≡ take j xs ++ get_or xs j d ∷ []
  split-last xs j d e = sym (all xs (j + 1) e) ∙ (take_at_read xs j d (omega arith)).1
    where
      all : (ys : List T) (n : ℕ) → n ≡ length ys → take n ys ≡ ys
      all ys n same = ap (take n) (sym (append-nil ys)) ∙ take_at ys [] n (sym same)

  over-after : (start : ℕ) (s : List (Option T)) (ws : List T)
      → overwrite_items (empty_slots start ++ s) start ws
      ≡ empty_slots start ++ overwrite_items s 0 ws
  over-after zero s ws = refl
  over-after (suc start) s ws = ap (λ (r : List (Option T)). None ∷ r) (over-after start s ws)

module _ {T A : Type 0} where
  -- `Walking b a xs start end c` holds if `b` is the block of an iterator with the items `xs` in
  -- the slots `start..end`, the capacity `c` and the allocator `a`.
  pub record Walking (b : Block T A) (a : A) (xs : List T) (start end c : ℕ) : Type 0 where
    pub walked : IsIntoIterBlock b a start end
    pub items : items_in b.slots ≡ xs
    pub cap : length b.slots ≡ c

  walking : (b : Block T A) {a : A} (xs : List T) (start end : ℕ) {c : ℕ}
      → b.slots ≡ empty_slots start ++ (filled_slots xs ++ empty_slots (c - end))
      → start + length xs ≡ end → end ≤ c
      → IsAllocatedBy b.alloc a → Walking b a xs start end c
  walking b xs start end {c} e n h f =
      let after : List (Option T) = empty_slots (c - end) in
      let i : items_in b.slots ≡ xs =
      ap items_in e ∙ (items-after start (filled_slots xs ++ after)
      ∙ (items-full xs after
      ∙ (ap (λ (ys : List T). xs ++ ys) (items-empty (c - end)) ∙ append-nil xs))) in
      let l : length b.slots ≡ c =
      omega (
        arith,
        ap length e,
        length-append (empty_slots start) (filled_slots xs ++ after),
        length-append (filled_slots xs) after,
        length-empty T start,
        length-full xs,
        length-empty T (c - end),
      ) in
      record {
        walked = record {
          slots = e ∙ (ap (λ (ys : List T). empty_slots start ++ (filled_slots ys ++ after)) (sym i)
              ∙ ap (λ (q : ℕ). empty_slots start
              ++ (filled_slots (items_in b.slots) ++ empty_slots (q - end)))
              (sym l));
          len = ap (λ (ys : List T). start + length ys) i ∙ n;
          from = f;
        };
        items = i;
        cap = l;
      }

  pub walked-room : (b : Block T A) (a : A) (start end : ℕ)
      → IsIntoIterBlock b a start end → end ≤ length b.slots
  walked-room b a start end t =
      let xs : List T = items_in b.slots in
      let after : List (Option T) = empty_slots (length b.slots - end) in
      omega (
        arith,
        ap length t.slots,
        length-append (empty_slots start) (filled_slots xs ++ after),
        length-append (filled_slots xs) after,
        length-empty T start,
        length-full xs,
      )

  pub walked-filled : (b : Block T A) (a : A) (start end i : ℕ) → IsIntoIterBlock b a start end
      → start ≤ i
      → i < end → IsSome (slot b.slots i)
  walked-filled b a start end i t low high =
      let xs : List T = items_in b.slots in
      let after : List (Option T) = empty_slots (length b.slots - end) in
      let within : i - start < length xs = omega (arith, t.len) in
      rw (ap (λ (s : List (Option T)). slot s i) t.slots
      ∙ (get_or-append_right (empty_slots start) (filled_slots xs ++ after) start i None
      (length-empty T start)
      low ∙ slot-get xs after (i - start) within))
      (get-some xs (i - start) within)

  pub walked-run : (b : Block T A) (a : A) (start end : ℕ) (ys : List T)
      → IsIntoIterBlock b a start end
      → filled_slots ys ≡ slice_range b.slots start end → ys ≡ items_in b.slots
  walked-run b a start end ys t run =
      let xs : List T = items_in b.slots in
      let after : List (Option T) = empty_slots (length b.slots - end) in
      let count : length (filled_slots xs) ≡ end - start = omega (arith, t.len, length-full xs) in
      full-same ys xs (run ∙ (ap (λ (s : List (Option T)). slice_range s start end) t.slots
      ∙ (ap (take (end - start))
      (drop_at (empty_slots start) (filled_slots xs ++ after) start (length-empty T start))
      ∙ take_at (filled_slots xs) after (end - start) count)))

  module _ (b b' : Block T A) (a : A) (start end : ℕ) (v : T) (t : IsIntoIterBlock b a start end)
      (some : start < end) where
    -- `xs` is the list of the items that have not been yielded yet.
    abbrev xs : List T
    xs = items_in b.slots

    -- `gap` is the number of empty slots after the items.
    abbrev gap : ℕ
    gap = length b.slots - end

    first-of : (ys : List T) (k : ℕ) → 0 < length ys
        → slot (empty_slots start ++ (filled_slots ys ++ empty_slots k)) start ≡ Some v
        → (ys ≡ v ∷ drop 1 ys)
        × (set (empty_slots start ++ (filled_slots ys ++ empty_slots k)) start None ≡ empty_slots
        (start + 1)
        ++ (filled_slots (drop 1 ys) ++ empty_slots k))
    first-of [] k h e = absurd (omega arith)
    first-of (y ∷ ys) k h e =
        let is : Some y ≡ Some v =
        sym (get_or_at (empty_slots start) (Some y) (filled_slots ys ++ empty_slots k) None start
        (length-empty T start)) ∙ e in
        let same : y ≡ v = cc in
        (ap (λ (x : T). x ∷ ys) same, set-first start k y ys)

    first : slot b.slots start ≡ Some v → (xs ≡ v ∷ drop 1 xs)
        × (set b.slots start None ≡ empty_slots
        (start + 1) ++ (filled_slots (drop 1 xs) ++ empty_slots gap))
    first e =
        let h = first-of xs gap (omega (arith, t.len))
        (ap (λ (s : List (Option T)). slot s start) (sym t.slots) ∙ e) in
        (h.0, ap (λ (s : List (Option T)). set s start None) t.slots ∙ h.1)

    pub first-item : slot b.slots start ≡ Some v → xs ≡ v ∷ drop 1 xs
    first-item e = (first e).0

    pub restores-first : slot b.slots start ≡ Some v
        → block_view b' ≡ record (block_view b) { slots = set b.slots start None }
        → Walking b' a (drop 1 xs) (start + 1) end (length b.slots)
    restores-first e w =
        walking b' (drop 1 xs) (start + 1) end (ap (λ v. v.slots) w ∙ (first e).1)
        (omega (arith, t.len, ap length (first e).0)) (walked-room b a start end t)
        (from-same b b' a t.from (ap (λ v. v.alloc) w))

    -- `most` is `xs` without its last item.
    abbrev most : List T
    most = take (end - 1 - start) xs

    whole : xs ≡ most ++ get_or xs (end - 1 - start) v ∷ []
    whole = split-last xs (end - 1 - start) v (omega (arith, t.len))

    place : start + length most ≡ end - 1
    place = omega (arith, t.len, length-take-le (end - 1 - start) xs (omega (arith, t.len)))

    slots : b.slots ≡ empty_slots start
        ++ (filled_slots (most ++ get_or xs (end - 1 - start) v ∷ []) ++ empty_slots gap)
    slots = t.slots ∙ ap (λ (ys : List T). empty_slots start ++ (filled_slots ys ++ empty_slots gap))
        whole

    pub last-item : slot b.slots (end - 1) ≡ Some v → xs ≡ most ++ v ∷ []
    last-item e =
        let is : Some (get_or xs (end - 1 - start) v) ≡ Some v =
        sym (slot-last start gap most (get_or xs (end - 1 - start) v))
        ∙ (ap (slot _) place ∙ (ap (λ (s : List (Option T)). slot s (end - 1)) (sym slots) ∙ e))
        in
        let same : get_or xs (end - 1 - start) v ≡ v = cc in
        whole ∙ ap (λ (x : T). most ++ x ∷ []) same

    pub restores-last : block_view b' ≡ record (block_view b) { slots = set b.slots (end - 1) None }
        → Walking b' a most start (end - 1) (length b.slots)
    restores-last w =
        let more : gap + 1 ≡ length b.slots - (end - 1) =
        omega (arith, walked-room b a start end t) in
        walking b' most start (end - 1)
        (ap (λ v. v.slots) w ∙ ((λ i. set (slots i) (sym place i) None)
        ∙ (set-last start gap most _
        ∙ ap (λ (n : ℕ). empty_slots start ++ (filled_slots most ++ empty_slots n)) more)))
        place (omega (arith, walked-room b a start end t))
        (from-same b b' a t.from (ap (λ v. v.alloc) w))

  pub restores-written : (b b' : Block T A) (a : A) (start end : ℕ) (ws : List T)
      → IsIntoIterBlock b a start end
      → block_view b' ≡ record (block_view b) { slots = overwrite_items b.slots start ws }
      → Walking b' a (refill (length (items_in b.slots)) (items_in b.slots) ws)
      start end (length b.slots)
  restores-written b b' a start end ws t w =
      let xs : List T = items_in b.slots in
      let gap : ℕ = length b.slots - end in
      walking b' (refill (length xs) xs ws) start end
      (ap (λ v. v.slots) w ∙ (ap (λ (r : List (Option T)). overwrite_items r start ws) t.slots
      ∙ (over-after start (filled_slots xs ++ empty_slots gap) ws
      ∙ ap (λ (r : List (Option T)). empty_slots start ++ r) (over-front xs gap ws))))
      (omega (arith, t.len, length_refill (length xs) xs ws refl)) (walked-room b a start end t)
      (from-same b b' a t.from (ap (λ v. v.alloc) w))

  pub view-written : (b : Block T A) (a : A) (start end : ℕ) (ws : List T)
      → IsIntoIterBlock b a start end
      → list_view (block_with_items b start ws) a ≡ with_items (list_view b a) ws
  view-written b a start end ws t =
      let f = restores-written b (block_with_items b start ws) a start end ws t refl in
      λ i. record { items = f.items i; capacity = f.cap i; alloc = a; cost = b.cost }

  pub walked-empty : (b : Block T A) (a : A) (start end : ℕ) → IsIntoIterBlock b a start end
      → length (items_in b.slots) ≡ 0 → b.slots ≡ empty_slots (length b.slots)
  walked-empty b a start end t none =
      let same : start ≡ end = omega (arith, t.len) in
      let all : start + (length b.slots - end) ≡ length b.slots =
      omega (arith, walked-room b a start end t) in
      t.slots ∙ (ap (λ (ys : List T). empty_slots start
      ++ (filled_slots ys ++ empty_slots (length b.slots - end)))
      (nil_from_length (items_in b.slots) none)
      ∙ (replicate-append-replicate start (length b.slots - end) None
      ∙ ap (λ (n : ℕ). empty_slots n) all))

module _ (T A : Type 0) where
  pub into-iter-in-order : IntoIterYieldsInOrder T A
  into-iter-in-order p s =
      as_is p (into_iter_items p.from)
      (from_front (YieldsFirst into_iter_items) (λ x. x) into_iter_items (λ s t h. ap length h.0)
      (λ s x t h. h) p s)

  pub into-iter-in-reverse : IntoIterYieldsInReverse T A
  into-iter-in-reverse p s =
      as_is_back p (into_iter_items p.from)
      (from_back (YieldsLast into_iter_items) (λ x. x) into_iter_items (λ s t h. ap length h.0)
      (λ s x t h. h) p s)
