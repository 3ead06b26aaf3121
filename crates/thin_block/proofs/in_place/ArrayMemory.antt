-- These lemmas move the gap of an allocation that is resized as an array. The gap is directly
-- before the values, or directly after them.
use Rattle.std.proofs.Common.{◌≡◌, ℕ, None, Some, ◌+◌, ◌-◌, ◌*◌, ◌≤◌, List, ◌∷◌, [], ◌++◌, length}
use Rattle.std.proofs.Common.{refl, sym, ap, ◌∙◌, arith, append_assoc, Option, take, drop as rest}
use native.Mathlib.Nat.{add_comm}
use seplogic.Ra.Ura.{Ura}
use base.Fml.{Fml, fsep, froom}
use base.Fraction.{full_share}
use base.Logic.{ent, sep}
use mir.Syntax.{Ty, ty_array}
use types.Kit.{‵, ◌⊛◌, ◌$◌, ◌∵◌, !, qed, move, use1, use2, split, fsplit3, fjoin3, rewrite, done}
use types.Logic.{Logic, sem}
use denote.Array.{Array}
use denote.Memory.{part_at}
use denote.RawPtr.{Ptr, block_ptr}
use Rattle.core.specs.Allocator.{array_of, block_with_items}
use Rattle.core.proofs.mem.Param.{El, R, el_x, elτ}
use Rattle.core.proofs.ptr.Rows.{add_times}
use Rattle.std.proofs.lemmas.List.{length-take, length-append, take-append-drop, length-drop}
use Rattle.std.proofs.lemmas.List.{length-map, length-replicate, map-append}
use Rattle.std.proofs.lemmas.List.{replicate-append-replicate}
use Rattle.std.specs.Mem.{type_size}
use Rattle.thin_block.specs.InPlace.{gapped_items}
use Rattle.thin_block.specs.Ownership.{slots_own}
use Rattle.thin_block.specs.Slots.{filled_slots, empty_slots}
use Rattle.thin_block.proofs.SlotMemory.{cut, glue, to_items, of_items, to_raw, of_raw, of_room}
use Rattle.thin_block.proofs.SlotMemory.{to_room}

-- In this module, an allocation for `c` values begins at the offset `o` of the allocation `b`. It
-- has a gap of `k` values, and `n` values `items`.
module _ {M : Type 1} {𝓤 : Ura M} (𝓛 : Logic 𝓤) (E : El) (t : Ty → Ptr → Fml) (b o k n c : ℕ)
    (items : List (el_x E)) (count : length items ≡ n) (enough : k ≤ n) (room : k + n ≤ c) where
  open 𝓛 use {H}

  abbrev s : ℕ
  s = type_size (R E)

  -- `ys` are the last `k` values, and `xs` are the values before them.
  abbrev pub xs : List (el_x E)
  xs = take (n - k) items

  abbrev pub ys : List (el_x E)
  ys = rest (n - k) items

  abbrev m : ℕ
  m = c - (k + n)

  abbrev from : ℕ
  from = o + k * s

  abbrev there : ℕ
  there = n * s + o

  abbrev past_all : ℕ
  past_all = k * s + there

  abbrev Slots : ℕ → List (Option (el_x E)) → Fml
  Slots at l = slots_own (R E) l b at

  -- `Others` is the memory that the change leaves as it is, and the right to free the allocation.
  abbrev pub Others : Fml
  Others = fsep (Slots from (filled_slots xs)) (fsep (Slots past_all (empty_slots m))
      (t (array_of (R E) c) (block_ptr b o)))

  -- `Last at` are the last values at the offset `at`, and `Gap at` is the gap.
  abbrev Last : ℕ → Fml
  Last at = part_at (Array (R E) k) full_share ys b at

  abbrev Gap : ℕ → Fml
  Gap at = froom (ty_array (elτ E) k) b at

  long : length ys ≡ k
  long = omega (arith, length-drop (n - k) items)

  parted : filled_slots items ++ empty_slots m
      ≡ filled_slots xs ++ (filled_slots ys ++ empty_slots m)
  parted = ap (λ (l : List (el_x E)). filled_slots l ++ empty_slots m)
      (sym (take-append-drop (n - k) items))
      ∙ (ap (λ (l : List (Option (el_x E))). l ++ empty_slots m) (map-append Some xs ys)
      ∙ append_assoc (filled_slots xs) (filled_slots ys) (empty_slots m))

  at_last : there ≡ length (filled_slots xs) * s + from
  at_last =
      let short : n ≡ length xs + k = omega (arith, length-take (n - k) items) in
      let all : n * s ≡ length xs * s + k * s =
      ap (λ (j : ℕ). j * s) short ∙ add_times (length xs) k s in
      let same : length (filled_slots xs) * s ≡ length xs * s =
      ap (λ (j : ℕ). j * s) (length-map xs Some) in
      omega arith

  sized : length (filled_slots ys) * s ≡ k * s
  sized = ap (λ (j : ℕ). j * s) (length-map ys Some ∙ long)

  at_end : past_all ≡ length (filled_slots ys) * s + there
  at_end = ap (λ (j : ℕ). j + there) (sym sized)

  at_next : from ≡ length (filled_slots ys) * s + o
  at_next = add_comm o (k * s) ∙ ap (λ (j : ℕ). j + o) (sym sized)

  -- Separates the gap before the values and the last values from the rest.
  pub before_out : ent 𝓤 (sem 𝓛 (gapped_items t (R E) (block_ptr b o) k n c items))
      (sep 𝓤 (sem 𝓛 (Last there)) (sep 𝓤 (sem 𝓛 (Gap o)) (sem 𝓛 Others)))
  before_out = qed 𝓛 (‵ (gapped_items t (R E) (block_ptr b o) k n c items) ∷ []) ∵ fsplit3 ! $
      use1 𝓛 (‵ (Gap o)) (𝓛.laws.raw-room (ty_array (elτ E) k) b o) $ move ! (1 ∷ []) $
      rewrite ! 0 (λ (l : List (Option (el_x E))). ‵ (Slots from l)) parted refl $
      use1 𝓛 (‵ (Slots from (filled_slots xs)) ⊛ ‵ (Slots there (filled_slots ys ++ empty_slots m)))
      (cut E 𝓛 b (filled_slots xs) (filled_slots ys ++ empty_slots m) from there at_last) $
      split ! $ move ! (1 ∷ []) $
      use1 𝓛 (‵ (Slots there (filled_slots ys)) ⊛ ‵ (Slots past_all (empty_slots m)))
      (cut E 𝓛 b (filled_slots ys) (empty_slots m) there past_all at_end) $ split ! $
      use1 𝓛 (‵ (Last there)) (to_items E 𝓛 b k ys there long) $
      -- The context is now: the last values; the empty slots; the other values; the gap; the right
      -- to free the allocation.
      move ! (2 ∷ 1 ∷ 4 ∷ []) $ fjoin3 ! $ move ! (1 ∷ 2 ∷ 0 ∷ []) $ done !

  -- Undoes `before_out`.
  pub before_in : ent 𝓤 (sep 𝓤 (sem 𝓛 (Last there)) (sep 𝓤 (sem 𝓛 (Gap o)) (sem 𝓛 Others)))
      (sem 𝓛 (gapped_items t (R E) (block_ptr b o) k n c items))
  before_in = qed 𝓛 (‵ (Last there) ∷ ‵ (Gap o) ∷ ‵ Others ∷ []) ∵
      use1 𝓛 (‵ (Slots there (filled_slots ys))) (of_items E 𝓛 b k ys there) $ move ! (2 ∷ []) $
      fsplit3 ! $
      -- The context is now: the values before the last ones; the empty slots; the right to free the
      -- allocation; the last values; the gap.
      move ! (3 ∷ 1 ∷ []) $ use2 𝓛 (‵ (Slots there (filled_slots ys ++ empty_slots m)))
      (glue E 𝓛 b (filled_slots ys) (empty_slots m) there past_all at_end) $ move ! (1 ∷ 0 ∷ []) $
      use2 𝓛 (‵ (Slots from (filled_slots xs ++ (filled_slots ys ++ empty_slots m))))
      (glue E 𝓛 b (filled_slots xs) (filled_slots ys ++ empty_slots m) from there at_last) $
      rewrite ! 0 (λ (l : List (Option (el_x E))). ‵ (Slots from l)) (sym parted) refl $
      move ! (2 ∷ []) $
      use1 𝓛 (‵ (froom (array_of (R E) k) b o)) (𝓛.laws.room-raw (ty_array (elτ E) k) b o) $
      move ! (0 ∷ 1 ∷ 2 ∷ []) $ fjoin3 ! $ done !

  -- `spare` is the number of values after the last value if the gap is not before the values.
  abbrev spare : ℕ
  spare = c - n

  abbrev Whole : Fml
  Whole = block_with_items t (R E) (block_ptr b o) n c (ys ++ xs)

  spares : empty_slots {T = el_x E} k ++ empty_slots m ≡ empty_slots spare
  spares = replicate-append-replicate k m None
      ∙ ap (λ (j : ℕ). empty_slots j) (let e : k + m ≡ spare = omega arith in e)

  at_spare : past_all ≡ length (empty_slots {T = el_x E} k) * s + there
  at_spare = ap (λ (j : ℕ). j * s + there) (sym (length-replicate k None))

  turned : there ≡ o + n * s
  turned = add_comm (n * s) o

  counted : length (ys ++ xs) ≡ n
  counted = omega (arith, length-append ys xs, length-take (n - k) items, long)

  -- If the last values are stored in the gap, all values form one array.
  pub after_in : ent 𝓤 (sep 𝓤 (sem 𝓛 (Last o)) (sep 𝓤 (sem 𝓛 (Gap there)) (sem 𝓛 Others)))
      (sem 𝓛 Whole)
  after_in =
      qed 𝓛 (‵ (Last o) ∷ ‵ (Gap there) ∷ ‵ Others ∷ []) ∵
      use1 𝓛 (‵ (Slots o (filled_slots ys))) (of_items E 𝓛 b k ys o) $ move ! (2 ∷ []) $
      fsplit3 ! $
      -- The context is now: the other values; the empty slots; the right to free the allocation;
      -- the values in the gap; the memory that is now the gap.
      move ! (3 ∷ 0 ∷ []) $ use2 𝓛 (‵ (Slots o (filled_slots ys ++ filled_slots xs)))
      (glue E 𝓛 b (filled_slots ys) (filled_slots xs) o from at_next) $
      rewrite ! 0 (λ (l : List (Option (el_x E))). ‵ (Slots o l)) (sym (map-append Some ys xs))
      refl $
      use1 𝓛 (‵ (part_at (Array (R E) n) full_share (ys ++ xs) b o))
      (to_items E 𝓛 b n (ys ++ xs) o counted) $
      move ! (3 ∷ []) $ use1 𝓛 (‵ (Slots there (empty_slots k))) (of_room E 𝓛 b k there) $
      move ! (0 ∷ 2 ∷ []) $ use2 𝓛 (‵ (Slots there (empty_slots k ++ empty_slots m)))
      (glue E 𝓛 b (empty_slots k) (empty_slots m) there past_all at_spare) $
      rewrite ! 0 (λ (l : List (Option (el_x E))). ‵ (Slots there l)) spares refl $
      use1 𝓛 (‵ (froom (array_of (R E) spare) b there)) (to_raw E 𝓛 b spare there) $
      rewrite ! 0 (λ (j : ℕ). ‵ (froom (array_of (R E) spare) b j)) turned refl $
      move ! (1 ∷ 0 ∷ 2 ∷ []) $ fjoin3 ! $ done !

  -- Undoes `after_in`.
  pub after_out : ent 𝓤 (sem 𝓛 Whole)
      (sep 𝓤 (sem 𝓛 (Last o)) (sep 𝓤 (sem 𝓛 (Gap there)) (sem 𝓛 Others)))
  after_out = qed 𝓛 (‵ Whole ∷ []) ∵ fsplit3 ! $
      use1 𝓛 (‵ (Slots o (filled_slots (ys ++ xs)))) (of_items E 𝓛 b n (ys ++ xs) o) $
      rewrite ! 0 (λ (l : List (Option (el_x E))). ‵ (Slots o l)) (map-append Some ys xs) refl $
      use1 𝓛 (‵ (Slots o (filled_slots ys)) ⊛ ‵ (Slots from (filled_slots xs)))
      (cut E 𝓛 b (filled_slots ys) (filled_slots xs) o from at_next) $ split ! $
      use1 𝓛 (‵ (Last o)) (to_items E 𝓛 b k ys o long) $ move ! (2 ∷ []) $
      rewrite ! 0 (λ (j : ℕ). ‵ (froom (array_of (R E) spare) b j)) (sym turned) refl $
      use1 𝓛 (‵ (Slots there (empty_slots spare))) (of_raw E 𝓛 b spare there) $
      rewrite ! 0 (λ (l : List (Option (el_x E))). ‵ (Slots there l)) (sym spares) refl $
      use1 𝓛 (‵ (Slots there (empty_slots k)) ⊛ ‵ (Slots past_all (empty_slots m)))
      (cut E 𝓛 b (empty_slots k) (empty_slots m) there past_all at_spare) $ split ! $
      use1 𝓛 (‵ (Gap there)) (to_room E 𝓛 b k there) $
      -- The context is now: the gap; the empty slots; the last values; the other values; the right
      -- to free the allocation.
      move ! (3 ∷ 1 ∷ 4 ∷ []) $ fjoin3 ! $ move ! (2 ∷ 1 ∷ 0 ∷ []) $ done !

-- In this module, the memory for `n` values is used as an allocation with a gap of `k` values, and
-- no value.
module _ {M : Type 1} {𝓤 : Ura M} (𝓛 : Logic 𝓤) (E : El) (t : Ty → Ptr → Fml) (b o k n : ℕ)
    (enough : k ≤ n) where
  open 𝓛 use {H}

  abbrev bytes : ℕ
  bytes = type_size (R E)

  abbrev Free : ℕ → ℕ → Fml
  Free at i = slots_own (R E) (empty_slots i) b at

  abbrev spare' : ℕ
  spare' = n - (k + 0)

  parted' : empty_slots {T = el_x E} n ≡ empty_slots k ++ empty_slots spare'
  parted' = sym (replicate-append-replicate k spare' None
      ∙ ap (λ (i : ℕ). empty_slots i) (let e : k + spare' ≡ n = omega arith in e))

  at_spare' : o + k * bytes ≡ length (empty_slots {T = el_x E} k) * bytes + o
  at_spare' = add_comm o (k * bytes)
      ∙ ap (λ (i : ℕ). i * bytes + o) (sym (length-replicate k None))

  abbrev Token : Fml
  Token = t (array_of (R E) n) (block_ptr b o)

  abbrev Empty : Fml
  Empty = gapped_items t (R E) (block_ptr b o) k 0 n []

  pub memory_in : ent 𝓤 (sep 𝓤 (H.room (array_of (R E) n) b o) (sem 𝓛 Token)) (sem 𝓛 Empty)
  memory_in =
      qed 𝓛 (‵ (froom (array_of (R E) n) b o) ∷ ‵ Token ∷ []) ∵
      use1 𝓛 (‵ (Free o n)) (of_raw E 𝓛 b n o) $
      rewrite ! 0 (λ (l : List (Option (el_x E))). ‵ (slots_own (R E) l b o)) parted' refl $
      use1 𝓛 (‵ (Free o k) ⊛ ‵ (Free (o + k * bytes) spare'))
      (cut E 𝓛 b (empty_slots k) (empty_slots spare') o (o + k * bytes) at_spare') $ split ! $
      use1 𝓛 (‵ (froom (array_of (R E) k) b o)) (to_raw E 𝓛 b k o) $ fjoin3 ! $ done !

  -- Undoes `memory_in`.
  pub memory_out : ent 𝓤 (sem 𝓛 Empty) (sep 𝓤 (H.room (array_of (R E) n) b o) (sem 𝓛 Token))
  memory_out =
      qed 𝓛 (‵ Empty ∷ []) ∵ fsplit3 ! $ use1 𝓛 (‵ (Free o k)) (of_raw E 𝓛 b k o) $
      use2 𝓛 (‵ (slots_own (R E) (empty_slots k ++ empty_slots spare') b o))
      (glue E 𝓛 b (empty_slots k) (empty_slots spare') o (o + k * bytes) at_spare') $
      rewrite ! 0 (λ (l : List (Option (el_x E))). ‵ (slots_own (R E) l b o)) (sym parted') refl $
      use1 𝓛 (‵ (froom (array_of (R E) n) b o)) (to_raw E 𝓛 b n o) $ done !
