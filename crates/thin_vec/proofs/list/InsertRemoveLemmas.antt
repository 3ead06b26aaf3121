-- These lemmas are for calls that insert or remove items. They say what the block of a list
-- contains during such a call and after it.
use Rattle.std.proofs.Common.{◌≡◌, ◌≢◌, ℕ, zero, suc, ◌+◌, ◌-◌, ◌<◌, ◌≤◌, List, [], ◌∷◌, ◌++◌, length, take, drop, Option, Some, None, refl, sym, ap, ◌∙◌, subst, arith, get_or, length-append, append_assoc}
use Rattle.std.proofs.Math.Seq.{drop-length, take-append_seam}
use Rattle.std.proofs.lemmas.List.{set_comm, set-append_left, length-replicate, length-take-le, length_push, take-append-drop, replicate-append-replicate, set_at, get_or_at, drop_more, map-append, length-take, length-drop}
use Rattle.std.proofs.lemmas.List.Edits.{length-insert, length-remove}
use Rattle.std.specs.Prelude.{IsSome, insert, remove}
use Rattle.std.specs.List.{swap_remove}
use lib.ListN.{set, length-set, replicate}
use Rattle.thin_block.specs.Cost.{Cost}
use Rattle.thin_block.specs.Slots.{filled_slots, empty_slots, slot, items_in, packed_slots, move_slots}
use Rattle.thin_block.specs.declared.block.Block.{Block}
use Rattle.thin_vec.specs.ThinVec.{IsListBlock}
use Rattle.thin_vec.proofs.ListBlockLemmas.{IsWritten, RestoresInvariant, restores-front, front-pop, last-item, length-full, restores-pop, thin-filled, thin-room, full-take}
use Rattle.thin_block.proofs.BlockLemmas.{slots-are}
use Rattle.thin_block.proofs.SlotsLemmas.{same-or-not, the-item, moved-left, moved-right}
use lib.Seq.{set-set, take-set-le}
use mathlib.Core.Logic.{⊎_elim}

-- The following lemmas are about moving adjacent items by one slot.

module _ {T : Type 0} where
  pub front-remove : (xs : List T) (c i : ℕ) {j k : ℕ} → i < length xs → length xs ≤ c → j ≡ i + 1
      → k ≡ length xs - j
      → move_slots j i k (set (packed_slots xs c) i None) ≡ packed_slots (remove xs i) c
  front-remove [] c i h l e n = absurd (omega arith)
  front-remove (x ∷ ws) c i {j} {k} h l e n =
      let xs : List T = x ∷ ws in
      let a : List T = take i xs in let b : List T = drop (suc i) xs in
      let r : List (Option T) = replicate (c - length xs) None in
      let p : i ≡ length (filled_slots a) = omega (arith, length-full a, length-take i xs) in
      let q : k ≡ length (filled_slots b) = omega (arith, length-full b, length-drop (suc i) xs) in
      let m : 1 + (c - length xs) ≡ c - length (remove xs i) =
      omega (arith, length-remove xs i h) in
      ap (λ (s : List (Option T)). move_slots j i k s) (full-take xs r i x h)
      ∙ (moved-left j i k 1 (filled_slots a) (filled_slots b) r p e q
      ∙ (sym (append_assoc (filled_slots a) (filled_slots b) (None ∷ r))
      ∙ (ap (λ (s : List (Option T)). s ++ (None ∷ r)) (sym (map-append (λ (y : T). Some y) a b))
      ∙ ap (λ (s : List (Option T)). filled_slots (remove xs i) ++ s)
      (replicate-append-replicate 1 (c - length xs) None
      ∙ ap (λ (z : ℕ). replicate z None) m))))

  -- In this module, `c` slots begin with the items `xs`. The `k` items from index `i` onward are
  -- moved up by one slot, to make room for a new item at index `i`.
  module _ (xs : List T) (c i : ℕ) {j k : ℕ} (h : i ≤ length xs) (l : length xs < c) (e : j ≡ i + 1)
      (n : k ≡ length xs - i) where
    -- `after` are the slots after slot `i` once the items from index `i` onward have been moved up.
    after : List (Option T)
    after = filled_slots (drop i xs) ++ replicate (c - length xs - 1) None

    before : i ≡ length (filled_slots (take i xs))
    before = omega (arith, length-full (take i xs), length-take i xs)

    apart : move_slots i j k (packed_slots xs c) ≡ filled_slots (take i xs) ++ (None ∷ after)
    unfolding after
    apart =
        let a : List T = take i xs in let b : List T = drop i xs in
        let o : ℕ = c - length xs - 1 in let r : List (Option T) = replicate o None in
        let q : k ≡ length (filled_slots b) = omega (arith, length-full b, length-drop i xs) in
        let w : c - length xs ≡ suc o = omega arith in
        let s : packed_slots xs c ≡ filled_slots a ++ (filled_slots b ++ (None ∷ r)) =
        ap (λ (ys : List T). filled_slots ys ++ replicate (c - length xs) None)
        (sym (take-append-drop i xs))
        ∙ (ap (λ (ys : List (Option T)). ys ++ replicate (c - length xs) None)
        (map-append (λ (y : T). Some y) a b)
        ∙ (append_assoc (filled_slots a) (filled_slots b) (replicate (c - length xs) None)
        ∙ ap (λ (z : ℕ). filled_slots a ++ (filled_slots b ++ replicate z None)) w)) in
        ap (λ (ys : List (Option T)). move_slots i j k ys) s
        ∙ moved-right i j k 1 (filled_slots a) (filled_slots b) r before e q

    pub front-insert : (v : T)
        → set (move_slots i j k (packed_slots xs c)) i (Some v) ≡ packed_slots (insert xs i v) c
    unfolding after
    front-insert v =
        let a : List T = take i xs in let b : List T = drop i xs in
        let o : ℕ = c - length xs - 1 in let r : List (Option T) = replicate o None in
        let m : o ≡ c - length (insert xs i v) = omega (arith, length-insert xs i v h) in
        ap (λ (ys : List (Option T)). set ys i (Some v)) apart
        ∙ (set_at (filled_slots a) None (filled_slots b ++ r) (Some v) i (sym before)
        ∙ (sym (append_assoc (filled_slots a) (filled_slots (v ∷ b)) r)
        ∙ (ap (λ (ys : List (Option T)). ys ++ r) (sym (map-append (λ (y : T). Some y) a (v ∷ b)))
        ∙ ap (λ (z : ℕ). filled_slots (insert xs i v) ++ replicate z None) m)))

    front-gap : slot (move_slots i j k (packed_slots xs c)) i ≡ None
    front-gap =
        ap (λ (ys : List (Option T)). slot ys i) apart
        ∙ get_or_at (filled_slots (take i xs)) None after None i (sym before)

module _ {T A : Type 0} {b : Block T A} {a : A} (t : IsListBlock b a) where
  pub restores-remove : (b' : Block T A) (i : ℕ) {j k : ℕ} → i < length (items_in b.slots)
      → j ≡ i + 1 → k ≡ b.len - j → {l : ℕ} {m : Cost} → l ≡ b.len
      → IsWritten b b' (move_slots j i k (set b.slots i None)) (l - 1) m
      → RestoresInvariant b' a (remove (items_in b.slots) i) (length b.slots)
  restores-remove b' i {j} {k} h e n len w =
      let xs : List T = items_in b.slots in let c : ℕ = length b.slots in
      restores-front t b' (remove xs i) c w
      (ap (λ (r : List (Option T)). move_slots j i k (set r i None)) t.packed.slots
      ∙ front-remove xs c i h (thin-room b a t) e (omega (arith, n, t.packed.len)))
      (omega (arith, len, t.packed.len, length-remove xs i h))
      (omega (arith, thin-room b a t, length-remove xs i h))

  pub restores-insert : (b' : Block T A) (i : ℕ) (v : T) {j k : ℕ} → i ≤ length (items_in b.slots)
      → b.len < length b.slots → j ≡ i + 1 → k ≡ b.len - i → {l : ℕ} {m : Cost} → l ≡ b.len
      → IsWritten b b' (set (move_slots i j k b.slots) i (Some v)) (l + 1) m
      → RestoresInvariant b' a (insert (items_in b.slots) i v) (length b.slots)
  restores-insert b' i v {j} {k} h o e n len w =
      let xs : List T = items_in b.slots in let c : ℕ = length b.slots in
      restores-front t b' (insert xs i v) c w
      (ap (λ (r : List (Option T)). set (move_slots i j k r) i (Some v)) t.packed.slots
      ∙ front-insert xs c i h (omega (arith, o, t.packed.len)) e (omega (arith, n, t.packed.len)) v)
      (omega (arith, len, t.packed.len, length-insert xs i v h))
      (omega (arith, o, t.packed.len, length-insert xs i v h))

  pub thin-gap : (i : ℕ) {j k : ℕ} → i ≤ length (items_in b.slots) → b.len < length b.slots
      → j ≡ i + 1 → k ≡ b.len - i → slot (move_slots i j k b.slots) i ≡ None
  thin-gap i {j} {k} h o e n =
      ap (λ (r : List (Option T)). slot (move_slots i j k r) i) t.packed.slots
      ∙ front-gap (items_in b.slots) (length b.slots) i h (omega (arith, o, t.packed.len)) e
      (omega (arith, n, t.packed.len))

-- The following lemmas are about the removal of items.

module _ {T : Type 0} where
  -- `emptying xs k i c` is a list of `c` slots that begins with the items `xs`, but whose slots
  -- `k..i` are empty. All slots after the items are empty, too.
  abbrev pub emptying : List T → ℕ → ℕ → ℕ → List (Option T)
  emptying xs k i c =
      filled_slots (take k xs)
      ++ (empty_slots (i - k) ++ (filled_slots (drop i xs) ++ empty_slots (c - length xs)))

  item-at : (xs : List T) (i : ℕ) → i < length xs → (x : T) × (drop i xs ≡ x ∷ drop (i + 1) xs)
  item-at [] i h = absurd (omega arith)
  item-at (x ∷ xs) i h = (get_or (x ∷ xs) i x, drop_more (x ∷ xs) i x h)

  pub full-append : (xs ys : List T) → filled_slots (xs ++ ys) ≡ filled_slots xs ++ filled_slots ys
  full-append xs ys = map-append (λ (x : T). Some x) xs ys

  pub emptying-none : (xs : List T) (k c : ℕ) → emptying xs k k c ≡ packed_slots xs c
  emptying-none xs k c =
      let r : List (Option T) = empty_slots (c - length xs) in
      let none : k - k ≡ 0 = omega arith in
      ap (λ (m : ℕ). filled_slots (take k xs) ++ (empty_slots m ++ (filled_slots (drop k xs) ++ r)))
      none
      ∙ (sym (append_assoc (filled_slots (take k xs)) (filled_slots (drop k xs)) r)
      ∙ ap (λ (s : List (Option T)). s ++ r) (sym (full-append (take k xs) (drop k xs))
      ∙ ap filled_slots (take-append-drop k xs)))

  module _ (xs : List T) (k i c : ℕ) (order : k ≤ i) (bound : i < length xs) where
    -- `pre` and `post` are the slots of `emptying xs k i c` before and after slot `i`.
    pre : List (Option T)
    pre = filled_slots (take k xs) ++ empty_slots (i - k)

    post : List (Option T)
    post = filled_slots (drop (i + 1) xs) ++ empty_slots (c - length xs)

    length-pre : length pre ≡ i
    unfolding pre
    length-pre =
        omega (
          arith,
          length-append (filled_slots (take k xs)) (empty_slots (i - k)),
          length-full (take k xs),
          length-take-le k xs (omega arith),
          length-replicate {A = Option T} (i - k) None,
        )

    split : emptying xs k i c ≡ pre ++ (Some (item-at xs i bound).0 ∷ post)
    unfolding pre post
    split =
        let r = item-at xs i bound in
        ap (λ (s : List T). filled_slots (take k xs)
        ++ (empty_slots (i - k) ++ (filled_slots s ++ empty_slots (c - length xs)))) r.1
        ∙ sym (append_assoc (filled_slots (take k xs)) (empty_slots (i - k))
        (Some r.0 ∷ (filled_slots (drop (i + 1) xs) ++ empty_slots (c - length xs))))

    pub emptying-filled : IsSome (slot (emptying xs k i c) i)
    emptying-filled = rw (ap (λ (s : List (Option T)). slot s i) split
        ∙ get_or_at pre (Some (item-at xs i bound).0) post None i length-pre) refl

    pub emptying-take : set (emptying xs k i c) i None ≡ emptying xs k (i + 1) c
    unfolding pre post
    emptying-take =
        let more : (i - k) + 1 ≡ i + 1 - k = omega arith in
        ap (λ (s : List (Option T)). set s i None) split
        ∙ (set_at pre (Some (item-at xs i bound).0) post None i length-pre
        ∙ (append_assoc (filled_slots (take k xs)) (empty_slots (i - k)) (None ∷ post)
        ∙ ap (λ (s : List (Option T)). filled_slots (take k xs) ++ s)
        (sym (append_assoc (empty_slots (i - k)) (None ∷ []) post)
        ∙ ap (λ (s : List (Option T)). s ++ post)
        (replicate-append-replicate (i - k) 1 None ∙ ap empty_slots more))))

  pub emptying-all : (xs : List T) (k c : ℕ) → k ≤ length xs → length xs ≤ c
      → emptying xs k (length xs) c ≡ packed_slots (take k xs) c
  emptying-all xs k c order room =
      let many : (length xs - k) + (c - length xs) ≡ c - length (take k xs) =
      omega (arith, length-take-le k xs order) in
      ap (λ (s : List T). filled_slots (take k xs)
      ++ (empty_slots (length xs - k) ++ (filled_slots s ++ empty_slots (c - length xs))))
      (drop-length xs)
      ∙ ap (λ (s : List (Option T)). filled_slots (take k xs) ++ s)
      (replicate-append-replicate (length xs - k) (c - length xs) None ∙ ap empty_slots many)

  pub full-set : (xs : List T) (s : List (Option T)) (i : ℕ) (m : T) → i < length xs
      → set (filled_slots xs ++ s) i (Some m) ≡ filled_slots (set xs i m) ++ s
  full-set [] s i m h = absurd (omega arith)
  full-set (x ∷ xs) s zero m h = refl
  full-set (x ∷ xs) s (suc i) m h = ap (λ (r : List (Option T)). Some x ∷ r)
      (full-set xs s i m (omega arith))

  -- `swap_remove` uses `v` only for an empty list.
  front-swap_remove : (ys : List T) (c i : ℕ) (v m : T) → i < length ys → length (ys ++ m ∷ []) ≤ c
      → set (set (set (packed_slots (ys ++ m ∷ []) c) i None) (length ys) None) i (Some m)
      ≡ packed_slots
      (swap_remove (ys ++ m ∷ []) i v) c
  front-swap_remove ys c i v m h room =
      let xs : List T = ys ++ m ∷ [] in
      let n : length xs ≡ length ys + 1 = length_push ys m in
      let other : i ≢ length ys = omega arith in
      let last : get_or xs (length xs - 1) v ≡ m = ap (λ (k : ℕ). get_or xs k v)
      (let e : length xs - 1 ≡ length ys = omega arith in e)
      ∙ get_or_at ys m [] v (length ys) refl in
      let cut : swap_remove xs i v ≡ set ys i m =
      ap (λ (k : ℕ). take k (set xs i (get_or xs (length xs - 1) v)))
      (let e : length xs - 1 ≡ length (set ys i m) = omega (arith, length-set ys i m) in e)
      ∙ (ap (λ (x : T). take (length (set ys i m)) (set xs i x)) last
      ∙ (ap (take (length (set ys i m))) (set-append_left ys (m ∷ []) i m h)
      ∙ take-append_seam (set ys i m) (m ∷ []))) in
      ap (λ (s : List (Option T)). set s i (Some m))
      (set_comm (packed_slots xs c) i (length ys) None None other
      ∙ ap (λ (s : List (Option T)). set s i None) (front-pop ys c m room))
      ∙ (set-set (packed_slots ys c) i None (Some m)
      ∙ (full-set ys (empty_slots (c - length ys)) i m h
      ∙ (ap (λ (k : ℕ). filled_slots (set ys i m) ++ empty_slots (c - k)) (sym (length-set ys i m))
      ∙ ap (λ (l : List T). packed_slots l c) (sym cut))))

module _ {T A : Type 0} where
  module _ {b : Block T A} {a : A} (t : IsListBlock b a) (b' : Block T A) (i last : ℕ) where
    restores-swap_remove : (v : T) {m : T} → i < last → last + 1 ≡ b.len
        → slot b.slots last ≡ Some m
        → {k : Cost} → IsWritten b b' (set (set (set b.slots i None) last None) i (Some m)) last k
        → RestoresInvariant b' a (swap_remove (items_in b.slots) i v) (length b.slots)
    restores-swap_remove v {m} lt n slot_is w =
        let xs : List T = items_in b.slots in
        let c : ℕ = length b.slots in
        let at_end = last-item b a m last t n slot_is in
        let ys : List T = take last xs in
        let long : length ys ≡ last = length-take-le last xs (omega arith) in
        let room : length (ys ++ m ∷ []) ≤ c = omega (arith, thin-room b a t, ap length at_end) in
        let slots : set (set (set b.slots i None) last None) i (Some m) ≡ set
        (set (set (packed_slots (ys ++ m ∷ []) c) i None) (length ys) None) i (Some m) =
        ap (λ (s : List (Option T)). set (set (set s i None) last None) i (Some m))
        (t.packed.slots ∙ ap (λ (l : List T). packed_slots l c) at_end)
        ∙ ap (λ (k : ℕ). set (set (set (packed_slots (ys ++ m ∷ []) c) i None) k None) i (Some m))
        (sym long) in
        let cut : length (swap_remove (ys ++ m ∷ []) i v) ≡ last =
        length-swap_remove ys i v m long (omega arith) in
        let done : RestoresInvariant b' a (swap_remove (ys ++ m ∷ []) i v) c =
        restores-front t b' (swap_remove (ys ++ m ∷ []) i v) c w
        (slots ∙ front-swap_remove ys c i v m (omega (arith, long)) room) (sym cut)
        (omega (arith, cut, room, length_push ys m, long)) in
        subst (λ (l : List T). RestoresInvariant b' a (swap_remove l i v) c) (sym at_end) done
      where
        length-swap_remove : (ys : List T) (i : ℕ) (v m : T) {k : ℕ} → length ys ≡ k → i < k
            → length (swap_remove (ys ++ m ∷ []) i v) ≡ k
        length-swap_remove ys i v m {k} long lt =
            let xs : List T = ys ++ m ∷ [] in
            let s : List T = set xs i (get_or xs (length xs - 1) v) in
            omega (
              arith,
              length-take-le (length xs - 1) s
                  (omega (arith, length-set xs i (get_or xs (length xs - 1) v))),
              length_push ys m,
            )

    pub restores-replaced : (v : T) → i ≤ last → last + 1 ≡ b.len → slot b.slots i ≡ Some v
        → {k : Cost} → IsWritten b b' (set (set b.slots i (slot b.slots last)) last None) last k
        → RestoresInvariant b' a (swap_remove (items_in b.slots) i v) (length b.slots)
    restores-replaced v le n gave w =
        let xs : List T = items_in b.slots in
        let c : ℕ = length b.slots in
        let low : last < length xs = omega (arith, n, t.packed.len) in
        let short : length xs - 1 ≡ last = omega (arith, n, t.packed.len) in
        ⊎_elim (λ (same : i ≡ last).
        let popped : RestoresInvariant b' a (take last xs) c =
        restores-pop t b' v last n (sym (ap (λ (k : ℕ). slot b.slots k) same) ∙ gave)
        (slots-are w (ap (λ (k : ℕ). set (set b.slots k (slot b.slots last)) last None) same
        ∙ set-set b.slots last (slot b.slots last) None)) in
        let is : take last xs ≡ swap_remove xs i v =
        sym (ap (λ (k : ℕ). take k (set xs i (get_or xs k v))) short
        ∙ take-set-le last xs i (get_or xs last v) (omega (arith, same))) in
        subst (λ (ys : List T). RestoresInvariant b' a ys c) is popped)
        (λ (apart : i ≡ last → ⊥).
        let m = the-item (slot b.slots last) (thin-filled b a last t low) in
        restores-swap_remove v {m = m.0} (omega (arith, le, apart)) n m.1
        (slots-are w (ap (λ (o : Option T). set (set b.slots i o) last None) m.1
        ∙ (set_comm b.slots i last (Some m.0) None apart
        ∙ sym (ap (λ (r : List (Option T)). set r i (Some m.0))
        (set_comm b.slots i last None None apart)
        ∙ set-set (set b.slots last None) i None (Some m.0))))))
        (same-or-not i last)
