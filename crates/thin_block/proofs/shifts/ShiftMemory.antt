-- These lemmas are about moving adjacent items within a block. Before the move, they separate the
-- memory of the slots that the move affects from the memory of the other slots. After the move,
-- they join the memory of all slots again.
use Rattle.std.proofs.Common.{◌≡◌, ◌⊎◌, Bool, true, false, ℕ, Some, None, ◌+◌, ◌-◌, ◌*◌, ◌<◌, ◌≤◌}
use Rattle.std.proofs.Common.{List, [], ◌∷◌, ◌++◌, length, refl, sym, ap, ◌∙◌, arith, append_assoc}
use Rattle.std.proofs.Common.{Option, take}
use mathlib.Core.Logic.{inl, inr, ⊎_elim}
use seplogic.Ra.Ura.{Ura}
use base.Fml.{Fml, ftrue, fsep, froom}
use base.Fraction.{full_share}
use base.Logic.{ent, sep}
use mir.Syntax.{ty_array}
use types.Kit.{‵, ◌⊛◌, ◌$◌, ◌∵◌, !, qed, by, move, keep, use1, use2, split, split3, rewrite, fsplit}
use types.Kit.{fjoin, done}
use types.Logic.{Logic, sem}
use denote.Array.{Array}
use denote.Memory.{part_at}
use denote.RawPtr.{block_ptr}
use denote.Steps.{nothing}
use Rattle.core.specs.Ptr.{memory_before_copy, memory_after_copy}
use Rattle.core.proofs.mem.Param.{El, R, el_x, elτ}
use Rattle.core.proofs.ptr.Rows.{add_times}
use Rattle.std.proofs.lemmas.List.{length-append, length-take, length-map, length-replicate}
use Rattle.std.specs.Prelude.{drop}
use Rattle.thin_block.specs.Ownership.{slots_own}
use Rattle.thin_block.specs.Shifts.{IsShifted}
use Rattle.thin_block.specs.Slots.{AreEmpty, filled_slots, empty_slots, slot, slot_range}
use Rattle.thin_block.specs.Slots.{write_slots, move_slots}
use Rattle.thin_block.proofs.SlotMemory.{Slot, sz, cut, glue, around, run_out, run_in, to_items}
use Rattle.thin_block.proofs.SlotMemory.{of_items, to_room, of_room}
use Rattle.thin_block.proofs.SlotsLemmas.{empty-run, parted-run, run-split, length-run, moved-left}
use Rattle.thin_block.proofs.SlotsLemmas.{moved-right, moved-over, moved-back}

pub further : (a d c s o : ℕ) → c ≡ d + a → c * s + o ≡ d * s + (a * s + o)
further a d c s o e = let sum = add_times d a s in
    let same : c * s ≡ (d + a) * s = ap (λ (k : ℕ). k * s) e in omega arith

written_over : {T : Type 0} (s new : List (Option T)) (i n : ℕ) → length new ≡ n
    → write_slots i new s ≡ take i s ++ (new ++ drop (i + n) s)
written_over s new i n long = ap (λ (k : ℕ). take i s ++ (new ++ drop (i + k) s)) long

module _ (E : El) {M : Type 1} {𝓤 : Ura M} (𝓛 : Logic 𝓤) (b o : ℕ) (slots : List (Slot E))
    (from to k : ℕ) (xs : List (el_x E)) (items : slot_range from k slots ≡ filled_slots xs)
    (long : length xs ≡ k) where
  abbrev s : ℕ
  s = sz E

  abbrev S : Type 0
  S = List (Slot E)

  abbrev Row : ℕ → S → Fml
  Row at ys = slots_own (R E) ys b at

  abbrev src : ℕ
  src = from * s + o

  abbrev dst : ℕ
  dst = to * s + o

  abbrev Items : ℕ → Fml
  Items at = part_at (Array (R E) k) full_share xs b at

  abbrev Room : ℕ → ℕ → Fml
  Room n at = froom (ty_array (elτ E) n) b at

  -- `Moves Was Is` holds if the memory of all slots can be split into `Was` and a rest before a
  -- move of items, and `Is` and the same rest can be joined into the memory of all slots after the
  -- move.
  pub record Moves (Was Is : Fml) : Type 1 where
    pub Rest : Fml
    pub out : ent 𝓤 (sem 𝓛 (Row o slots)) (sep 𝓤 (sem 𝓛 Was) (sem 𝓛 Rest))
    pub back : ent 𝓤 (sep 𝓤 (sem 𝓛 Is) (sem 𝓛 Rest)) (sem 𝓛 (Row o (move_slots from to k slots)))

  full_long : length (filled_slots xs) ≡ k
  full_long = length-map xs Some ∙ long

  empty_long : (n : ℕ) → length (empty_slots {T = el_x E} n) ≡ n
  empty_long n = length-replicate n None

  -- Proves `Moves Was Is` from the slots `i..i + n` alone, which the move turns from `old` into
  -- `new`. `Kept` is the part of their memory that the move leaves alone.
  moves_by : (i n : ℕ) (old new : S) (Was Is Kept : Fml) → i + n ≤ length slots
      → slot_range i n slots ≡ old → length new ≡ n
      → move_slots from to k (take i slots ++ (old ++ drop (i + n) slots))
      ≡ take i slots ++ (new ++ drop (i + n) slots)
      → ent 𝓤 (sem 𝓛 (Row (i * s + o) old)) (sep 𝓤 (sem 𝓛 Was) (sem 𝓛 Kept))
      → ent 𝓤 (sep 𝓤 (sem 𝓛 Is) (sem 𝓛 Kept)) (sem 𝓛 (Row (i * s + o) new)) → Moves Was Is
  moves_by i n old new Was Is Kept le is count goes splits joins =
      let Others : Fml = around E 𝓛 b o slots i n in
      let whole : slots ≡ take i slots ++ (old ++ drop (i + n) slots) = parted-run slots i n
      ∙ ap (λ (l : S). take i slots ++ (l ++ drop (i + n) slots)) is in
      let result : write_slots i new slots ≡ move_slots from to k slots =
      written_over slots new i n count
      ∙ (sym goes ∙ ap (λ (l : S). move_slots from to k l) (sym whole)) in
      record {
        Rest = fsep Kept Others;
        out = qed 𝓛 (‵ (Row o slots) ∷ []) ∵ use1 𝓛 (‵ (Row (i * s + o) old) ⊛ ‵ Others)
            (run_out E 𝓛 b o slots i n le old is) $ split ! $ use1 𝓛 (‵ Was ⊛ ‵ Kept) splits $
            split ! $ move ! (1 ∷ 2 ∷ []) $ fjoin ! $ move ! (1 ∷ 0 ∷ []) $ done !;
        back = qed 𝓛 (‵ Is ∷ ‵ (fsep Kept Others) ∷ []) ∵ move ! (1 ∷ []) $ fsplit ! $
            move ! (2 ∷ 0 ∷ []) $ use2 𝓛 (‵ (Row (i * s + o) new)) joins $
            use2 𝓛 (‵ (Row o (write_slots i new slots))) (run_in E 𝓛 b o slots i n le new count) $
            rewrite ! 0 (λ (l : S). ‵ (Row o l)) result refl $ done !;
      }

  -- The items move down into the `d` empty slots directly before them.
  pub slides_down : (d : ℕ) → from ≡ to + d → from + k ≤ length slots
      → slot_range to d slots ≡ empty_slots d
      → Moves (memory_before_copy (R E) false d k (block_ptr b src) (block_ptr b dst) xs)
      (memory_after_copy (R E) false d k (block_ptr b src) (block_ptr b dst) xs)
  slides_down d apart within gap =
      let n : ℕ = d + k in
      let le : to + n ≤ length slots = omega arith in
      let pre : S = take to slots in
      let post : S = drop (to + n) slots in
      let front : to ≡ length pre = omega (arith, length-take to slots) in
      let is : slot_range to n slots ≡ empty_slots d ++ filled_slots xs = run-split slots to d k
      ∙ (λ m. gap m ++ (ap (λ (i : ℕ). slot_range i k slots) (sym apart) ∙ items) m) in
      let at : src ≡ length (empty_slots {T = el_x E} d) * s + dst =
      further to d from s o (omega arith)
      ∙ ap (λ (m : ℕ). m * s + dst) (sym (empty_long d)) in
      moves_by to n (empty_slots d ++ filled_slots xs)
      (filled_slots xs ++ empty_slots d) _ _ ftrue le is
      (omega (arith, length-append (filled_slots xs) (empty_slots d), full_long, empty_long d))
      (ap (λ (l : S). move_slots from to k (pre ++ l))
      (append_assoc (empty_slots d) (filled_slots xs) post)
      ∙ (moved-left from to k d pre (filled_slots xs) post front apart (sym full_long)
      ∙ sym (ap (λ (l : S). pre ++ l) (append_assoc (filled_slots xs) (empty_slots d) post))))
      (qed 𝓛 (‵ (Row dst (empty_slots d ++ filled_slots xs)) ∷ []) ∵
      use1 𝓛 (‵ (Row dst (empty_slots d)) ⊛ ‵ (Row src (filled_slots xs)))
      (cut E 𝓛 b (empty_slots d) (filled_slots xs) dst src at) $ split ! $
      use1 𝓛 (‵ (Room d dst)) (to_room E 𝓛 b d dst) $ move ! (1 ∷ []) $
      use1 𝓛 (‵ (Items src)) (to_items E 𝓛 b k xs src long) $ fjoin ! $ nothing ! $
      move ! (1 ∷ 0 ∷ []) $ done !)
      (qed 𝓛 (‵ (fsep (Items dst) (Room d (k * s + dst))) ∷ ‵ ftrue ∷ []) ∵ keep ! (0 ∷ []) $
      fsplit ! $ use1 𝓛 (‵ (Row dst (filled_slots xs))) (of_items E 𝓛 b k xs dst) $
      move ! (1 ∷ []) $
      use1 𝓛 (‵ (Row (k * s + dst) (empty_slots d))) (of_room E 𝓛 b d (k * s + dst)) $
      move ! (1 ∷ 0 ∷ []) $
      by ! (glue E 𝓛 b (filled_slots xs) (empty_slots d) dst (k * s + dst)
      (ap (λ (m : ℕ). m * s + dst) (sym full_long))))

  -- The items move up into the `d` empty slots directly after them.
  pub slides_up : (d : ℕ) → to ≡ from + d → to + k ≤ length slots
      → slot_range (from + k) d slots ≡ empty_slots d
      → Moves (memory_before_copy (R E) true d k (block_ptr b src) (block_ptr b dst) xs)
      (memory_after_copy (R E) true d k (block_ptr b src) (block_ptr b dst) xs)
  slides_up d apart within gap =
      let n : ℕ = k + d in
      let le : from + n ≤ length slots = omega arith in
      let pre : S = take from slots in
      let post : S = drop (from + n) slots in
      let front : from ≡ length pre = omega (arith, length-take from slots) in
      let is : slot_range from n slots ≡ filled_slots xs ++ empty_slots d = run-split slots from k d
      ∙ (λ m. items m ++ gap m) in
      let at : dst ≡ length (empty_slots {T = el_x E} d) * s + src =
      further from d to s o (omega arith)
      ∙ ap (λ (m : ℕ). m * s + src) (sym (empty_long d)) in
      moves_by from n (filled_slots xs ++ empty_slots d)
      (empty_slots d ++ filled_slots xs) _ _ ftrue le is
      (omega (arith, length-append (empty_slots d) (filled_slots xs), full_long, empty_long d))
      (ap (λ (l : S). move_slots from to k (pre ++ l))
      (append_assoc (filled_slots xs) (empty_slots d) post)
      ∙ (moved-right from to k d pre (filled_slots xs) post front apart (sym full_long)
      ∙ sym (ap (λ (l : S). pre ++ l) (append_assoc (empty_slots d) (filled_slots xs) post))))
      (qed 𝓛 (‵ (Row src (filled_slots xs ++ empty_slots d)) ∷ []) ∵
      use1 𝓛 (‵ (Row src (filled_slots xs)) ⊛ ‵ (Row (k * s + src) (empty_slots d)))
      (cut E 𝓛 b (filled_slots xs) (empty_slots d) src (k * s + src)
      (ap (λ (m : ℕ). m * s + src) (sym full_long))) $ split ! $
      use1 𝓛 (‵ (Items src)) (to_items E 𝓛 b k xs src long) $ move ! (1 ∷ []) $
      use1 𝓛 (‵ (Room d (k * s + src))) (to_room E 𝓛 b d (k * s + src)) $ move ! (1 ∷ 0 ∷ []) $
      fjoin ! $ nothing ! $ move ! (1 ∷ 0 ∷ []) $ done !)
      (qed 𝓛 (‵ (fsep (Items dst) (Room d src)) ∷ ‵ ftrue ∷ []) ∵ keep ! (0 ∷ []) $ fsplit ! $
      use1 𝓛 (‵ (Row dst (filled_slots xs))) (of_items E 𝓛 b k xs dst) $ move ! (1 ∷ []) $
      use1 𝓛 (‵ (Row src (empty_slots d))) (of_room E 𝓛 b d src) $
      by ! (glue E 𝓛 b (empty_slots d) (filled_slots xs) src dst at))

  cut3 : (ys mid zs : S) (lo hi : ℕ) → length ys ≡ k → hi ≡ length mid * s + (k * s + lo)
      → ent 𝓤 (sem 𝓛 (Row lo (ys ++ (mid ++ zs))))
      (sep 𝓤 (sem 𝓛 (Row lo ys)) (sep 𝓤 (sem 𝓛 (Row hi zs)) (sem 𝓛 (Row (k * s + lo) mid))))
  cut3 ys mid zs lo hi count at =
      qed 𝓛 (‵ (Row lo (ys ++ (mid ++ zs))) ∷ []) ∵
      use1 𝓛 (‵ (Row lo ys) ⊛ ‵ (Row (k * s + lo) (mid ++ zs)))
      (cut E 𝓛 b ys (mid ++ zs) lo (k * s + lo) (ap (λ (n : ℕ). n * s + lo) (sym count))) $
      split ! $ move ! (1 ∷ []) $
      use1 𝓛 (‵ (Row (k * s + lo) mid) ⊛ ‵ (Row hi zs)) (cut E 𝓛 b mid zs (k * s + lo) hi at) $
      split ! $ move ! (2 ∷ 1 ∷ 0 ∷ []) $ done !

  glue3 : (ys mid zs : S) (lo hi : ℕ) → length ys ≡ k → hi ≡ length mid * s + (k * s + lo)
      → ent 𝓤 (sep 𝓤 (sem 𝓛 (Row lo ys)) (sep 𝓤 (sem 𝓛 (Row hi zs)) (sem 𝓛 (Row (k * s + lo) mid))))
      (sem 𝓛 (Row lo (ys ++ (mid ++ zs))))
  glue3 ys mid zs lo hi count at =
      qed 𝓛 (‵ (Row lo ys) ∷ ‵ (Row hi zs) ∷ ‵ (Row (k * s + lo) mid) ∷ []) ∵ move ! (2 ∷ 1 ∷ []) $
      use2 𝓛 (‵ (Row (k * s + lo) (mid ++ zs))) (glue E 𝓛 b mid zs (k * s + lo) hi at)
      $ move ! (1 ∷ 0 ∷ []) $
      by ! (glue E 𝓛 b ys (mid ++ zs) lo (k * s + lo) (ap (λ (n : ℕ). n * s + lo) (sym count)))

  -- `Was` and `Is` are the memory before and after the move: the items at one address, and empty
  -- slots at the other.
  abbrev pub Was : Fml
  Was = fsep (Items src) (Room k dst)

  abbrev pub Is : Fml
  Is = fsep (Items dst) (Room k src)

  around3 : (lo hi m : ℕ) → hi ≡ lo + k + m → (mid : S) → length mid ≡ m
      → hi * s + o ≡ length mid * s + (k * s + (lo * s + o))
  around3 lo hi m e mid count =
      let first = add_times (lo + k) m s in
      let second = add_times lo k s in
      let whole : hi * s ≡ (lo + k + m) * s = ap (λ (n : ℕ). n * s) e in
      let same : length mid * s ≡ m * s = ap (λ (n : ℕ). n * s) count in
      omega arith

  flat : (ys mid zs post : S) → (ys ++ (mid ++ zs)) ++ post ≡ ys ++ (mid ++ (zs ++ post))
  flat ys mid zs post = append_assoc ys (mid ++ zs) post
      ∙ ap (λ (l : S). ys ++ l) (append_assoc mid zs post)

  -- The items move up, past `m` slots, into empty slots.
  goes_over : (m : ℕ) → to ≡ from + k + m → to + k ≤ length slots
      → slot_range to k slots ≡ empty_slots k → Moves Was Is
  goes_over m apart within gap =
      let n : ℕ = k + (m + k) in
      let le : from + n ≤ length slots = omega arith in
      let mid : S = slot_range (from + k) m slots in
      let pre : S = take from slots in
      let post : S = drop (from + n) slots in
      let count : length mid ≡ m = length-run slots (from + k) m (omega arith) in
      let is : slot_range from n slots ≡ filled_slots xs ++ (mid ++ empty_slots k) =
      run-split slots from k (m + k)
      ∙ (λ i. items i ++ (run-split slots (from + k) m k
      ∙ ap (λ (l : S). mid ++ l) (ap (λ (j : ℕ). slot_range j k slots) (sym apart) ∙ gap)) i) in
      let at : dst ≡ length mid * s + (k * s + src) = around3 from to m apart mid count in
      let front : from ≡ length pre = omega (arith, length-take from slots) in
      let target : to ≡ from + k + length mid = omega arith in
      moves_by from n (filled_slots xs ++ (mid ++ empty_slots k))
      (empty_slots k ++ (mid ++ filled_slots xs)) Was Is
      (Row (k * s + src) mid) le is
      (omega (
        arith,
        length-append (empty_slots k) (mid ++ filled_slots xs),
        length-append mid (filled_slots xs),
        full_long,
        empty_long k,
        count,
      ))
      (ap (λ (l : S). move_slots from to k (pre ++ l))
      (flat (filled_slots xs) mid (empty_slots k) post)
      ∙ (moved-over from to k pre (filled_slots xs) mid post front target (sym full_long)
      ∙ sym (ap (λ (l : S). pre ++ l) (flat (empty_slots k) mid (filled_slots xs) post))))
      (qed 𝓛 (‵ (Row src (filled_slots xs ++ (mid ++ empty_slots k))) ∷ []) ∵
      use1 𝓛 (‵ (Row src (filled_slots xs)) ⊛ ‵ (Row dst (empty_slots k)) ⊛
      ‵ (Row (k * s + src) mid))
      (cut3 (filled_slots xs) mid (empty_slots k) src dst full_long at) $ split3 ! $
      use1 𝓛 (‵ (Items src)) (to_items E 𝓛 b k xs src long) $ move ! (1 ∷ []) $
      use1 𝓛 (‵ (Room k dst)) (to_room E 𝓛 b k dst) $ move ! (1 ∷ 0 ∷ []) $ fjoin ! $ done !)
      (qed 𝓛 (‵ Is ∷ ‵ (Row (k * s + src) mid) ∷ []) ∵ fsplit ! $
      use1 𝓛 (‵ (Row dst (filled_slots xs))) (of_items E 𝓛 b k xs dst) $ move ! (1 ∷ []) $
      use1 𝓛 (‵ (Row src (empty_slots k))) (of_room E 𝓛 b k src) $
      by ! (glue3 (empty_slots k) mid (filled_slots xs) src dst (empty_long k) at))

  -- The items move down, past `m` slots, into empty slots.
  goes_back : (m : ℕ) → from ≡ to + k + m → from + k ≤ length slots
      → slot_range to k slots ≡ empty_slots k → Moves Was Is
  goes_back m apart within gap =
      let n : ℕ = k + (m + k) in
      let le : to + n ≤ length slots = omega arith in
      let mid : S = slot_range (to + k) m slots in
      let pre : S = take to slots in
      let post : S = drop (to + n) slots in
      let count : length mid ≡ m = length-run slots (to + k) m (omega arith) in
      let is : slot_range to n slots ≡ empty_slots k ++ (mid ++ filled_slots xs) =
      run-split slots to k (m + k)
      ∙ (λ i. gap i ++ (run-split slots (to + k) m k
      ∙ ap (λ (l : S). mid ++ l) (ap (λ (j : ℕ). slot_range j k slots) (sym apart) ∙ items)) i) in
      let at : src ≡ length mid * s + (k * s + dst) = around3 to from m apart mid count in
      let front : to ≡ length pre = omega (arith, length-take to slots) in
      let source : from ≡ to + k + length mid = omega arith in
      moves_by to n (empty_slots k ++ (mid ++ filled_slots xs))
      (filled_slots xs ++ (mid ++ empty_slots k)) Was Is
      (Row (k * s + dst) mid) le is
      (omega (
        arith,
        length-append (filled_slots xs) (mid ++ empty_slots k),
        length-append mid (empty_slots k),
        full_long,
        empty_long k,
        count,
      ))
      (ap (λ (l : S). move_slots from to k (pre ++ l))
      (flat (empty_slots k) mid (filled_slots xs) post)
      ∙ (moved-back from to k pre (filled_slots xs) mid post front source (sym full_long)
      ∙ sym (ap (λ (l : S). pre ++ l) (flat (filled_slots xs) mid (empty_slots k) post))))
      (qed 𝓛 (‵ (Row dst (empty_slots k ++ (mid ++ filled_slots xs))) ∷ []) ∵
      use1 𝓛 (‵ (Row dst (empty_slots k)) ⊛ ‵ (Row src (filled_slots xs)) ⊛
      ‵ (Row (k * s + dst) mid))
      (cut3 (empty_slots k) mid (filled_slots xs) dst src (empty_long k) at) $ split3 ! $
      use1 𝓛 (‵ (Room k dst)) (to_room E 𝓛 b k dst) $ move ! (1 ∷ []) $
      use1 𝓛 (‵ (Items src)) (to_items E 𝓛 b k xs src long) $ fjoin ! $ done !)
      (qed 𝓛 (‵ Is ∷ ‵ (Row (k * s + dst) mid) ∷ []) ∵ fsplit ! $ move ! (1 ∷ []) $
      use1 𝓛 (‵ (Row src (empty_slots k))) (of_room E 𝓛 b k src) $ move ! (1 ∷ []) $
      use1 𝓛 (‵ (Row dst (filled_slots xs))) (of_items E 𝓛 b k xs dst) $
      by ! (glue3 (filled_slots xs) mid (empty_slots k) dst src full_long at))

  -- `Bare` states that each slot to which an item is moved is empty, or is one of the slots from
  -- which the items are moved.
  abbrev pub Bare : Type 0
  Bare = (i : ℕ) → to ≤ i → i < to + k → (i < from) ⊎ (from + k ≤ i) → slot slots i ≡ None

  pub apart : from + k ≤ length slots → to + k ≤ length slots → Bare → (from + k ≤ to)
      ⊎ (to + k ≤ from) → Moves Was Is
  apart source target bare far =
      ⊎_elim (λ (p : from + k ≤ to). goes_over (to - (from + k)) (omega arith) target
      (empty-run slots to k target
      (λ i h j. bare i h j (inr (let q : from + k ≤ i = omega arith in q)))))
      (λ (p : to + k ≤ from). goes_back (from - (to + k)) (omega arith) source
      (empty-run slots to k target
      (λ i h j. bare i h j (inl (let q : i < from = omega arith in q))))) far

  -- `distance up` is the number of slots by which the items are moved.
  abbrev pub distance : Bool → ℕ
  distance true = to - from
  distance false = from - to

  abbrev Way : Bool → Type 1
  Way up = Moves (memory_before_copy (R E) up (distance up) k (block_ptr b src) (block_ptr b dst)
      xs) (memory_after_copy (R E) up (distance up) k (block_ptr b src) (block_ptr b dst) xs)

  -- `GapAbove up` states, if the items move up, that the slots above them up to `to + k` are empty.
  abbrev pub GapAbove : Bool → Type 0
  GapAbove up = up ≡ true → (from ≤ to) × AreEmpty slots (from + k) (to - from)

  -- `GapBelow up` states, if the items move down, that the slots below them from `to` on are empty.
  abbrev pub GapBelow : Bool → Type 0
  GapBelow up = up ≡ false → (to ≤ from) × AreEmpty slots to (from - to)

  pub slides : from + k ≤ length slots → to + k ≤ length slots → (up : Bool) → GapAbove up
      → GapBelow up → Way up
  slides source target true above below =
      let gap = above refl in let le : from ≤ to = gap.0 in
      let within : from + k + (to - from) ≤ length slots = omega arith in
      slides_up (to - from) (omega arith) target
      (empty-run slots (from + k) (to - from) within gap.1)
  slides source target false above below =
      let gap = below refl in let le : to ≤ from = gap.0 in
      let within : to + (from - to) ≤ length slots = omega arith in
      slides_down (from - to) (omega arith) source
      (empty-run slots to (from - to) within gap.1)

  pub shifted : (up : Bool) → GapAbove up → GapBelow up → IsShifted (R E) up (distance up)
      (block_ptr b src) (block_ptr b dst)
  shifted true above below = let le : from ≤ to = (above refl).0 in
      ap (block_ptr b) (further from (to - from) to s o (omega arith))
  shifted false above below = let le : to ≤ from = (below refl).0 in
      ap (block_ptr b) (further to (from - to) from s o (omega arith))
