-- These lemmas state what the block of a list contains after each operation. Its first slots hold
-- the items of the list, and all other slots are empty.
use Rattle.std.proofs.Common.{◌≡◌, ◌≢◌, ℕ, zero, suc, ◌+◌, ◌-◌, ◌<◌, ◌≤◌, List, [], ◌∷◌, ◌++◌, length, take, drop, Option, Some, None, refl, sym, ap, ◌∙◌, arith, get_or, length-append, append_assoc}
use Rattle.std.proofs.lemmas.List.{length-replicate, length-map, take-append-drop, replicate-append-replicate, set_at, get_or_append_left, get_or-map, map_push, append-nil, length-take-le, drop_more, length_push, get_or-set_other}
use Rattle.std.proofs.Math.Seq.{drop-length, take-append_seam}
use Rattle.std.specs.Prelude.{IsSome, slice_get, slice_range}
use lib.ListN.{set, replicate}
use Rattle.thin_block.specs.Slots.{IsPacked, filled_slots, empty_slots, slot, items_in, packed_slots}
use Rattle.thin_block.specs.Block.{IsAllocatedBy, block_view}
use Rattle.thin_block.specs.declared.block.Block.{Block}
use Rattle.thin_block.specs.Cost.{Cost}
use Rattle.thin_vec.specs.ThinVec.{IsListBlock, ListView, list_view}

pub length-empty : (T : Type 0) (k : ℕ) → length (empty_slots {T = T} k) ≡ k
length-empty T k = length-replicate {A = Option T} k None

module _ {T : Type 0} where
  pub empty-alone : (s : List (Option T)) (n : ℕ) → s ≡ empty_slots n → s ≡ empty_slots (length s)
  empty-alone s n e =
      e ∙ ap (λ (k : ℕ). empty_slots k)
      (sym (ap (λ (r : List (Option T)). length r) e ∙ length-empty T n))

  pub items-empty : (k : ℕ) → items_in {T = T} (replicate k None) ≡ []
  items-empty zero = refl
  items-empty (suc k) = items-empty k

  pub items-full : (xs : List T) (s : List (Option T))
      → items_in (filled_slots xs ++ s) ≡ xs ++ items_in s
  items-full [] s = refl
  items-full (x ∷ xs) s = ap (λ (ys : List T). x ∷ ys) (items-full xs s)

  pub items-full-alone : (xs : List T) → items_in (filled_slots xs) ≡ xs
  items-full-alone [] = refl
  items-full-alone (x ∷ xs) = ap (λ (ys : List T). x ∷ ys) (items-full-alone xs)

  pub items-front : (xs : List T) (c : ℕ) → items_in (packed_slots xs c) ≡ xs
  items-front xs c = items-full xs (replicate (c - length xs) None)
      ∙ (ap (λ (ys : List T). xs ++ ys) (items-empty (c - length xs)) ∙ append-nil xs)

  pub length-full : (xs : List T) → length (filled_slots xs) ≡ length xs
  length-full xs = length-map xs (λ (x : T). Some x)

  pub length-front : (xs : List T) (c : ℕ) → length xs ≤ c → length (packed_slots xs c) ≡ c
  length-front xs c h =
      let e : List (Option T) = replicate (c - length xs) None in
      omega (
        arith,
        length-append (filled_slots xs) e,
        length-full xs,
        length-replicate {A = Option T} (c - length xs) None,
      )

  pub full-same : (xs ys : List T) → filled_slots xs ≡ filled_slots ys → xs ≡ ys
  full-same xs ys e = sym (items-full-alone xs) ∙ (ap items_in e ∙ items-full-alone ys)

  pub slot-full : (xs : List T) (s : List (Option T)) (i : ℕ) (d : T) → i < length xs
      → slot (filled_slots xs ++ s) i ≡ Some (get_or xs i d)
  slot-full xs s i d h =
      let n : i < length (filled_slots xs) = omega (arith, length-full xs) in
      get_or_append_left (filled_slots xs) s None i n ∙ get_or-map (λ (x : T). Some x) xs i d None h

  pub front-push : (xs : List T) (c : ℕ) (v : T) → length xs < c
      → set (packed_slots xs c) (length xs)
      (Some v) ≡ packed_slots (xs ++ v ∷ []) c
  front-push xs c v h =
      let k : ℕ = c - length xs - 1 in
      let e : c - length xs ≡ suc k = omega arith in
      let m : k ≡ c - length (xs ++ v ∷ []) = omega (arith, length_push xs v) in
      ap (λ (n : ℕ). set (filled_slots xs ++ replicate n None) (length xs) (Some v)) e
      ∙ (set_at (filled_slots xs) None (replicate k None) (Some v) (length xs) (length-full xs)
      ∙ rw (← m) (simp (append_assoc, map_push)))

  pub full-take : (xs : List T) (s : List (Option T)) (i : ℕ) (d : T) → i < length xs
      → set (filled_slots xs ++ s) i None ≡ filled_slots
      (take i xs) ++ (None ∷ (filled_slots (drop (suc i) xs) ++ s))
  full-take [] s i d h = absurd (omega arith)
  full-take (x ∷ xs) s zero d h = refl
  full-take (x ∷ xs) s (suc i) d h = let l : i < length xs = omega arith in
      ap (λ (r : List (Option T)). Some x ∷ r) (full-take xs s i d l)

  pub front-pop : (xs : List T) (c : ℕ) (v : T) → length (xs ++ v ∷ []) ≤ c
      → set (packed_slots (xs ++ v ∷ []) c) (length xs) None ≡ packed_slots xs c
  front-pop xs c v h =
      let n : length (xs ++ v ∷ []) ≡ length xs + 1 = length_push xs v in
      let k : ℕ = c - length (xs ++ v ∷ []) in
      let m : suc k ≡ c - length xs = omega arith in
      ap (λ (r : List (Option T)). set (r ++ replicate k None) (length xs) None)
      (map_push (λ (x : T). Some x) xs v)
      ∙ (ap (λ (r : List (Option T)). set r (length xs) None)
      (append_assoc (filled_slots xs) (Some v ∷ []) (replicate k None))
      ∙ (set_at (filled_slots xs) (Some v) (replicate k None) None (length xs) (length-full xs)
      ∙ ap (λ (q : ℕ). filled_slots xs ++ replicate q None) m))

  pub front-grow : (xs : List T) (c d : ℕ) → length xs ≤ c → c ≤ d
      → packed_slots xs c ++ replicate (d - c) None ≡ packed_slots xs d
  front-grow xs c d h l =
      let m : (c - length xs) + (d - c) ≡ d - length xs = omega arith in
      append_assoc (filled_slots xs) (replicate (c - length xs) None) (replicate (d - c) None)
      ∙ ap (λ (r : List (Option T)). filled_slots xs ++ r)
      (replicate-append-replicate (c - length xs) (d - c) None
      ∙ ap (λ (q : ℕ). replicate q None) m)

  pub slot-get : (xs : List T) (s : List (Option T)) (i : ℕ) → i < length xs
      → slot (filled_slots xs ++ s) i ≡ slice_get xs i
  slot-get [] s i h = absurd (omega arith)
  slot-get (x ∷ xs) s zero h = refl
  slot-get (x ∷ xs) s (suc i) h = slot-get xs s i (omega arith)

  pub get-some : (xs : List T) (i : ℕ) → i < length xs → IsSome (slice_get xs i)
  get-some [] i h = absurd (omega arith)
  get-some (x ∷ xs) zero h = refl
  get-some (x ∷ xs) (suc i) h = get-some xs i (omega arith)

module _ {T A : Type 0} where
  -- `RestoresInvariant b a xs c` holds if `b` is the block of a list with the items `xs`, the
  -- capacity `c` and the allocator `a`.
  pub record RestoresInvariant (b : Block T A) (a : A) (xs : List T) (c : ℕ) : Type 0 where
    pub thin : IsListBlock b a
    pub items : items_in b.slots ≡ xs
    pub cap : length b.slots ≡ c

  pub settled : (b : Block T A) (a : A) (xs : List T) (c : ℕ) → b.slots ≡ packed_slots xs c
      → b.len ≡ length xs → length xs ≤ c → IsAllocatedBy b.alloc a → RestoresInvariant b a xs c
  settled b a xs c e n h f =
      let i : items_in b.slots ≡ xs = ap items_in e ∙ items-front xs c in
      let l : length b.slots ≡ c = ap length e ∙ length-front xs c h in
      record {
        thin = record {
          packed = record {
            slots = e ∙ (ap (λ (ys : List T). packed_slots ys c) (sym i)
                ∙ ap (λ (q : ℕ). packed_slots (items_in b.slots) q) (sym l));
            len = n ∙ ap length (sym i);
          };
          from = f;
        };
        items = i;
        cap = l;
      }

  pub list_view-becomes : {w v : ListView T A} → w ≡ v
      → (b' : Block T A) {xs : List T} {c : ℕ} {k : Cost}
      → length b'.slots ≡ c → items_in b'.slots ≡ xs → b'.cost ≡ k
      → list_view b' w.alloc ≡ record v { items = xs; capacity = c; cost = k }
  list_view-becomes is b' slots items cost = cc

  pub list_view-keeps : {w v : ListView T A} → w ≡ v → (b' : Block T A) {xs : List T} {k : Cost}
      → length b'.slots ≡ w.capacity → items_in b'.slots ≡ xs → b'.cost ≡ k
      → list_view b' w.alloc ≡ record v { items = xs; cost = k }
  list_view-keeps is b' slots items cost = cc

  pub thin-room : (b : Block T A) (a : A) → IsListBlock b a
      → length (items_in b.slots) ≤ length b.slots
  thin-room b a t =
      let xs : List T = items_in b.slots in
      let e : List (Option T) = replicate (length b.slots - length xs) None in
      omega (arith, ap length t.packed.slots, length-append (filled_slots xs) e, length-full xs)

  pub thin-packed : (b : Block T A) (a : A) (n : ℕ) → IsListBlock b a
      → length (items_in b.slots) ≡ n → IsPacked b.slots n
  thin-packed b a n t long = record { slots = t.packed.slots; len = sym long }

  pub from-same : (b b' : Block T A) (a : A) → IsAllocatedBy b.alloc a → b'.alloc ≡ b.alloc
      → IsAllocatedBy b'.alloc a
  from-same b b' a f e = λ x h. f x (sym e ∙ h)

  -- `IsWritten b b' s n k` holds if the block `b'` is the block `b` with the slots `s`, the stored
  -- length `n` and the cost `k`.
  abbrev pub IsWritten : Block T A → Block T A → List (Option T) → ℕ → Cost → Type 0
  IsWritten b b' s n k = block_view b' ≡ record (block_view b) { slots = s; len = n; cost = k }

  -- The lemmas `restores-..` say that a step leaves the block of a list, and with which items.
  pub restores-front : {b : Block T A} {a : A} → IsListBlock b a
      → (b' : Block T A) (xs : List T) (c : ℕ)
      {s : List (Option T)} {n : ℕ} {k : Cost} → IsWritten b b' s n k → s ≡ packed_slots xs c
      → n ≡ length xs → length xs ≤ c → RestoresInvariant b' a xs c
  restores-front {b} {a} t b' xs c w e n h = settled b' a xs c (ap (λ v. v.slots) w ∙ e)
      (ap (λ v. v.len) w ∙ n) h (from-same b b' a t.from (ap (λ v. v.alloc) w))

  pub restores-push : {b : Block T A} {a : A} → IsListBlock b a → (b' : Block T A) (v : T) (i : ℕ)
      {k : Cost} → i ≡ b.len → i < length b.slots
      → IsWritten b b' (set b.slots i (Some v)) (i + 1) k
      → RestoresInvariant b' a (items_in b.slots ++ v ∷ []) (length b.slots)
  restores-push {b} t b' v i o h w =
      let xs : List T = items_in b.slots in
      let c : ℕ = length b.slots in
      let l : length xs < c = omega (arith, t.packed.len) in
      restores-front t b' (xs ++ v ∷ []) c w
      (ap (λ (q : ℕ). set b.slots q (Some v)) (o ∙ t.packed.len)
      ∙ (ap (λ (r : List (Option T)). set r (length xs) (Some v)) t.packed.slots
      ∙ front-push xs c v l))
      (omega (arith, t.packed.len, length_push xs v)) (omega (arith, length_push xs v))

  pub last-item : (b : Block T A) (a : A) (v : T) (j : ℕ) → IsListBlock b a → j + 1 ≡ b.len
      → slot b.slots j ≡ Some v → items_in b.slots ≡ take j (items_in b.slots) ++ v ∷ []
  last-item b a v j t o w =
      let xs : List T = items_in b.slots in
      let ys : List T = take j xs in
      let l : j < length xs = omega (arith, t.packed.len) in
      let x : Some v ≡ Some (get_or xs j v) = sym w
      ∙ (ap (λ (r : List (Option T)). slot r j) t.packed.slots
      ∙ slot-full xs (replicate (length b.slots - length xs) None) j v l) in
      let y : v ≡ get_or xs j v = cc in
      let z : drop (j + 1) xs ≡ [] =
      ap (λ (q : ℕ). drop q xs) (let q : j + 1 ≡ length xs = omega arith in q)
      ∙ drop-length xs in
      sym (take-append-drop j xs) ∙ ap (λ (r : List T). ys ++ r)
      (drop_more xs j v l
      ∙ (ap (λ (r : List T). get_or xs j v ∷ r) z ∙ ap (λ (r : T). r ∷ []) (sym y)))

  pub restores-pop : {b : Block T A} {a : A} → IsListBlock b a → (b' : Block T A) (v : T) (j : ℕ)
      {k : Cost} → j + 1 ≡ b.len → slot b.slots j ≡ Some v
      → IsWritten b b' (set b.slots j None) j k
      → RestoresInvariant b' a (take j (items_in b.slots)) (length b.slots)
  restores-pop {b} {a} t b' v j o slot_is w =
      let xs : List T = items_in b.slots in
      let c : ℕ = length b.slots in
      let ys : List T = take j xs in
      let l : j < length xs = omega (arith, t.packed.len) in
      let m : length ys ≡ j = length-take-le j xs (omega arith) in
      let e : xs ≡ ys ++ v ∷ [] = last-item b a v j t o slot_is in
      let k : length (ys ++ v ∷ []) ≤ c = omega (arith, thin-room b a t, ap length e) in
      restores-front t b' ys c w
      (ap (λ (r : List (Option T)). set r j None)
      (t.packed.slots ∙ ap (λ (r : List T). packed_slots r c) e)
      ∙ (ap (λ (q : ℕ). set (packed_slots (ys ++ v ∷ []) c) q None) (sym m) ∙ front-pop ys c v k))
      (sym m) (omega (arith, length_push ys v))

  thin-slot : (b : Block T A) (a : A) (i : ℕ) → IsListBlock b a → i < length (items_in b.slots)
      → slot b.slots i ≡ slice_get (items_in b.slots) i
  thin-slot b a i t h =
      ap (λ (r : List (Option T)). slot r i) t.packed.slots ∙ slot-get (items_in b.slots)
      (replicate (length b.slots - length (items_in b.slots)) None) i h

  pub thin-filled : (b : Block T A) (a : A) (i : ℕ) → IsListBlock b a
      → i < length (items_in b.slots)
      → IsSome (slot b.slots i)
  thin-filled b a i t h = rw (thin-slot b a i t h) (get-some (items_in b.slots) i h)

  pub thin-run : (b : Block T A) (a : A) (xs : List T) (n : ℕ) → IsListBlock b a → n ≡ b.len
      → filled_slots xs ≡ slice_range b.slots 0 n → xs ≡ items_in b.slots
  thin-run b a xs n t len run =
      let ys : List T = items_in b.slots in
      let all : n - 0 ≡ length (filled_slots ys) =
      omega (arith, len, t.packed.len, length-full ys) in
      full-same xs ys (run ∙ (ap (λ (r : List (Option T)). take (n - 0) r) t.packed.slots
      ∙ (ap (λ (k : ℕ). take k (packed_slots ys (length b.slots))) all
      ∙ take-append_seam (filled_slots ys)
      (empty_slots (length b.slots - length ys)))))

  pub thin-get : (b : Block T A) (a : A) (i : ℕ) (v : T) → IsListBlock b a
      → i < length (items_in b.slots) → slot b.slots i ≡ Some v
      → slice_get (items_in b.slots) i ≡ Some v
  thin-get b a i v t h e = sym (thin-slot b a i t h) ∙ e

  pub kept-filled : (b : Block T A) (a : A) (i j : ℕ) (s : List (Option T)) → IsListBlock b a
      → i < j
      → j < length (items_in b.slots) → s ≡ set b.slots i None → IsSome (slot s j)
  kept-filled b a i j s t n h e = let ne : j ≢ i = omega arith in
      rw (ap (λ (r : List (Option T)). slot r j) e ∙ get_or-set_other b.slots i j None None ne)
      (thin-filled b a j t h)
