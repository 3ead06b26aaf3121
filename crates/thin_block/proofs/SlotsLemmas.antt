-- These lemmas are about lists of slots. `slot_range` selects adjacent slots, `write_slots`
-- replaces slots, and `move_slots` moves items. `IsPacked s n` states that exactly the first `n`
-- slots of `s` are filled.
use Rattle.std.proofs.Common.{◌⊎◌, ◌≡◌, ℕ, zero, suc, ◌+◌, ◌-◌, ◌<◌, ◌≤◌, List, [], ◌∷◌, ◌++◌}
use Rattle.std.proofs.Common.{length, Some, None, refl, sym, ap, subst, ◌∙◌, arith, append_assoc}
use lib.ListN.{set, get_or}
use lib.Seq.{set_split, drop-cons, take-add}
use borrow.Author.Tests.{clash}
use Rattle.std.proofs.lemmas.Bool.{cases_eq}
use Rattle.std.proofs.lemmas.List.{take-append-drop, drop-drop, set_at, get_or-append_right}
use Rattle.std.proofs.lemmas.List.{get_or-drop, length-replicate, length-map, length-append}
use Rattle.std.proofs.lemmas.List.{length-take, length-drop, take_at, drop_at, drop-replicate}
use Rattle.std.proofs.lemmas.List.{replicate-append-replicate}
use Rattle.std.specs.Prelude.{Option, IsSome, take, drop}
use Rattle.thin_block.specs.Lends.{overwrite_items}
use Rattle.thin_block.specs.Slots.{filled_slots, empty_slots, slot, items_in, IsPacked, slot_range}
use Rattle.thin_block.specs.Slots.{write_slots, clear_slots, move_slots}

pub same-or-not : (i j : ℕ) → (i ≡ j) ⊎ (i ≡ j → ⊥)
same-or-not i j = cases_eq i j

pub bare-long : (T : Type 0) (k : ℕ) → length (empty_slots {T = T} k) ≡ k
bare-long T k = length-replicate k (let o : Option T = None in o)

module _ {T : Type 0} where
  pub empty-slot : (k i : ℕ) → slot (empty_slots {T = T} k) i ≡ None
  empty-slot zero i = refl
  empty-slot (suc k) zero = refl
  empty-slot (suc k) (suc i) = empty-slot k i

  pub the-item : (x : Option T) → IsSome x → (y : T) × (x ≡ Some y)
  the-item (Some y) is = (y, refl)
  the-item None is = absurd (clash is)

  pub filled-within : (s : List (Option T)) (i : ℕ) → IsSome (slot s i) → i < length s
  filled-within [] i is = absurd (clash is)
  filled-within (x ∷ s) zero is = omega arith
  filled-within (x ∷ s) (suc i) is = let low = filled-within s i is in omega arith

  pub full-run : (s : List (Option T)) (i k : ℕ) → i + k ≤ length s
      → ((j : ℕ) → i ≤ j → j < i + k → IsSome (slot s j))
      → (xs : List T) × (slot_range i k s ≡ filled_slots xs)
  full-run [] zero zero le filled = ([], refl)
  full-run [] i k le filled = absurd (omega arith)
  full-run (x ∷ s) (suc i) k le filled = full-run s i k (omega arith)
      (λ j p q. filled (suc j) (omega arith) (omega arith))
  full-run (x ∷ s) zero zero le filled = ([], refl)
  full-run (x ∷ s) zero (suc k) le filled =
      let item = the-item x (filled zero (omega arith) (omega arith)) in
      let rest = full-run s zero k (omega arith)
      (λ j p q. filled (suc j) (omega arith) (omega arith)) in
      (item.0 ∷ rest.0, λ n. item.1 n ∷ rest.1 n)

  pub empty-run : (s : List (Option T)) (i k : ℕ) → i + k ≤ length s
      → ((j : ℕ) → i ≤ j → j < i + k → slot s j ≡ None) → slot_range i k s ≡ empty_slots k
  empty-run [] zero zero le bare = refl
  empty-run [] i k le bare = absurd (omega arith)
  empty-run (x ∷ s) (suc i) k le bare = empty-run s i k (omega arith)
      (λ j p q. bare (suc j) (omega arith) (omega arith))
  empty-run (x ∷ s) zero zero le bare = refl
  empty-run (x ∷ s) zero (suc k) le bare =
      λ n. bare zero (omega arith) (omega arith) n ∷ empty-run s zero k (omega arith)
      (λ j p q. bare (suc j) (omega arith) (omega arith)) n

  pub length-run : (s : List (Option T)) (i k : ℕ) → i + k ≤ length s
      → length (slot_range i k s) ≡ k
  length-run s i k le = omega (arith, length-take k (drop i s), length-drop i s)

  pub length-written : (i : ℕ) (ys s : List (Option T)) → i + length ys ≤ length s
      → length (write_slots i ys s) ≡ length s
  length-written i ys s le =
      omega (
        arith,
        length-append (take i s) (ys ++ drop (i + length ys) s),
        length-append ys (drop (i + length ys) s),
        length-take i s,
        length-drop (i + length ys) s,
      )

  pub over-written : (s : List (Option T)) (i : ℕ) (ws : List T) → i + length ws ≤ length s
      → ((j : ℕ) → i ≤ j → j < i + length ws → IsSome (slot s j))
      → overwrite_items s i ws ≡ write_slots i (filled_slots ws) s
  over-written [] zero [] le filled = refl
  over-written [] i ws le filled = absurd (omega arith)
  over-written (x ∷ s) (suc i) ws le filled =
      let more : suc (i + length (filled_slots ws)) ≡ suc i + length (filled_slots ws) =
      omega arith in
      ap (λ (l : List (Option T)). x ∷ l)
      (over-written s i ws (let le' : suc i + length ws ≤ suc (length s) = le in omega arith)
      (λ j low high. filled (suc j) (omega arith) (omega arith)))
      ∙ ap (λ (k : ℕ). x ∷ (take i s ++ (filled_slots ws ++ drop k (x ∷ s)))) more
  over-written (None ∷ s) zero [] le filled = refl
  over-written (None ∷ s) zero (w ∷ ws) le filled = let wrong : IsSome (let none : Option T = None in
      none) = filled zero (omega arith) (omega arith) in absurd (clash wrong)
  over-written (Some x ∷ s) zero [] le filled = refl
  over-written (Some x ∷ s) zero (w ∷ ws) le filled =
      let more : suc (0 + length (filled_slots ws)) ≡ 0 + suc (length (filled_slots ws)) =
      omega arith in
      ap (λ (l : List (Option T)). Some w ∷ l)
      (over-written s zero ws (let le' : 0 + suc (length ws) ≤ suc (length s) = le in omega arith)
      (λ j low high. filled (suc j) (omega arith) (omega arith)))
      ∙ ap (λ (k : ℕ). Some w ∷ (filled_slots ws ++ drop k (Some x ∷ s))) more

  pub written-none : (i : ℕ) (s : List (Option T)) → write_slots i [] s ≡ s
  written-none i s = ap (λ (k : ℕ). take i s ++ drop k s) (let e : i + 0 ≡ i = omega arith in
      e) ∙ take-append-drop i s

  pub written-one : (i : ℕ) (ys s : List (Option T)) (k : ℕ) (y : Option T) → k ≡ i + length ys
      → k < length s → set (write_slots i ys s) k y ≡ write_slots i (ys ++ y ∷ []) s
  written-one i ys s k y e within =
      let at : length (take i s ++ ys) ≡ k =
      omega (arith, length-append (take i s) ys, length-take i s) in
      let rest : drop (i + length ys) s ≡ get_or s k None ∷ drop (suc k) s =
      ap (λ (n : ℕ). drop n s) (sym e) ∙ drop-cons s k None within in
      let long : suc k ≡ i + length (ys ++ y ∷ []) = omega (arith, length-append ys (y ∷ [])) in
      ap (λ (l : List (Option T)). set (take i s ++ (ys ++ l)) k y) rest
      ∙ (ap (λ (l : List (Option T)). set l k y)
      (sym (append_assoc (take i s) ys (get_or s k None ∷ drop (suc k) s)))
      ∙ (set_at (take i s ++ ys) (get_or s k None) (drop (suc k) s) y k at
      ∙ rw (← long) (simp append_assoc)))

  pub slot-written : (i : ℕ) (ys s : List (Option T)) (k : ℕ) → i ≤ length s → i + length ys ≤ k
      → slot (write_slots i ys s) k ≡ slot s k
  slot-written i ys s k low past =
      let front : length (take i s) ≡ i = omega (arith, length-take i s) in
      get_or-append_right (take i s) (ys ++ drop (i + length ys) s) i k None front (omega arith)
      ∙ (get_or-append_right ys (drop (i + length ys) s) (length ys) (k - i) None refl (omega arith)
      ∙ (get_or-drop (i + length ys) s (k - i - length ys) None
      ∙ ap (λ (n : ℕ). slot s n)
      (let e : i + length ys + (k - i - length ys) ≡ k = omega arith in e)))

  pub parted-run : (s : List (Option T)) (i k : ℕ)
      → s ≡ take i s ++ (slot_range i k s ++ drop (i + k) s)
  parted-run s i k =
      sym (take-append-drop i s)
      ∙ ap (λ (l : List (Option T)). take i s ++ l) (sym (take-append-drop k (drop i s))
      ∙ ap (λ (l : List (Option T)). slot_range i k s ++ l) (drop-drop k i s))

  pub run-split : (s : List (Option T)) (i a k : ℕ)
      → slot_range i (a + k) s ≡ slot_range i a s ++ slot_range (i + a) k s
  run-split s i a k = take-add a k (drop i s)
      ∙ ap (λ (l : List (Option T)). slot_range i a s ++ take k l) (drop-drop a i s)

  pub written-single : (s : List (Option T)) (i : ℕ) (x : T) → i < length s
      → write_slots i (filled_slots (x ∷ [])) s ≡ set s i (Some x)
  written-single s i x within =
      ap (λ (k : ℕ). take i s ++ (Some x ∷ drop k s)) (let e : i + 1 ≡ suc i = omega arith in e)
      ∙ sym (set_split s i (Some x) within)

  pub written-at : (i : ℕ) (pre ys old post : List (Option T)) → i ≡ length pre
      → length ys ≡ length old → write_slots i ys (pre ++ (old ++ post)) ≡ pre ++ (ys ++ post)
  written-at i pre ys old post e n =
      let rest : drop (i + length ys) (pre ++ (old ++ post)) ≡ post =
      ap (λ (l : (List (Option T))). drop (i + length ys) l) (sym (append_assoc pre old post))
      ∙ drop_at (pre ++ old) post (i + length ys) (length-append pre old ∙ omega arith) in
      λ m. take_at pre (old ++ post) i (sym e) m ++ (ys ++ rest m)

  pub run-at : (i k : ℕ) (pre ys post : List (Option T)) → i ≡ length pre → k ≡ length ys
      → slot_range i k (pre ++ (ys ++ post)) ≡ ys
  run-at i k pre ys post e n = ap (λ (l : List (Option T)). take k l)
      (drop_at pre (ys ++ post) i (sym e)) ∙ take_at ys post k (sym n)

  module _ (from to k : ℕ) where
    moved-by : (s ys bare result : List (Option T)) → slot_range from k s ≡ ys
        → clear_slots from k s ≡ bare
        → write_slots to ys bare ≡ result → move_slots from to k s ≡ result
    unfolding move_slots
    moved-by s ys bare result e f g = (λ n. write_slots to (e n) (f n)) ∙ g

  pub length-moved : (from to k : ℕ) (s : List (Option T)) → from + k ≤ length s → to + k ≤ length s
      → length (move_slots from to k s) ≡ length s
  unfolding move_slots
  length-moved from to k s source target =
      let left : length (clear_slots from k s) ≡ length s =
      length-written from (empty_slots k) s (omega (arith, bare-long T k)) in
      length-written to (slot_range from k s) (clear_slots from k s)
      (omega (arith, left, length-run s from k source)) ∙ left

  empty-turn : (a k : ℕ) (post : List (Option T))
      → empty_slots a ++ (empty_slots k ++ post) ≡ empty_slots k ++ (empty_slots a ++ post)
  empty-turn a k post =
      let turned : a + k ≡ k + a = omega arith in
      sym (append_assoc (empty_slots a) (empty_slots k) post)
      ∙ (ap (λ (e : List (Option T)). e ++ post) (replicate-append-replicate a k None
      ∙ rw turned (sym (replicate-append-replicate k a None)))
      ∙ append_assoc (empty_slots k) (empty_slots a) post)

  module _ (from to k d : ℕ) where
    pub moved-left : (pre ys post : List (Option T)) → to ≡ length pre → from ≡ to + d
        → k ≡ length ys
        → move_slots from to k (pre ++ (empty_slots d ++ (ys ++ post)))
        ≡ pre ++ (ys ++ (empty_slots d ++ post))
    moved-left pre ys post t f n =
        let Row : Type 0 = List (Option T) in
        let s : Row = pre ++ (empty_slots d ++ (ys ++ post)) in
        let e : s ≡ (pre ++ empty_slots d) ++ (ys ++ post) =
        sym (append_assoc pre (empty_slots d) (ys ++ post)) in
        let l : from ≡ length (pre ++ empty_slots {T = T} d) =
        omega (arith, length-append pre (empty_slots d), bare-long T d) in
        let m : length (empty_slots {T = T} k) ≡ length ys = bare-long T k ∙ n in
        moved-by from to k s ys (pre ++ (empty_slots k ++ (empty_slots d ++ post))) _
        (ap (λ (r : Row). slot_range from k r) e ∙ run-at from k (pre ++ empty_slots d) ys post l n)
        (ap (λ (r : Row). clear_slots from k r) e
        ∙ (written-at from (pre ++ empty_slots d) (empty_slots k) ys post l m
        ∙ (append_assoc pre (empty_slots d) (empty_slots k ++ post) ∙ ap (λ (r : Row). pre ++ r)
        (empty-turn d k post))))
        (written-at to pre ys (empty_slots k) (empty_slots d ++ post) t (sym m))

  module _ (from to k d : ℕ) where
    pub moved-right : (pre ys post : List (Option T)) → from ≡ length pre → to ≡ from + d
        → k ≡ length ys
        → move_slots from to k (pre ++ (ys ++ (empty_slots d ++ post)))
        ≡ pre ++ (empty_slots d ++ (ys ++ post))
    moved-right pre ys post f t n =
        let Row : Type 0 = List (Option T) in
        let s : Row = pre ++ (ys ++ (empty_slots d ++ post)) in
        let l : to ≡ length (pre ++ empty_slots {T = T} d) =
        omega (arith, length-append pre (empty_slots d), bare-long T d) in
        let m : length (empty_slots {T = T} k) ≡ length ys = bare-long T k ∙ n in
        moved-by from to k s ys ((pre ++ empty_slots d) ++ (empty_slots k ++ post)) _
        (run-at from k pre ys (empty_slots d ++ post) f n)
        (written-at from pre (empty_slots k) ys (empty_slots d ++ post) f m
        ∙ (ap (λ (r : Row). pre ++ r) (empty-turn k d post)
        ∙ sym (append_assoc pre (empty_slots d) (empty_slots k ++ post))))
        (written-at to (pre ++ empty_slots d) ys (empty_slots k) post l (sym m)
        ∙ append_assoc pre (empty_slots d) (ys ++ post))

  module _ (from to k : ℕ) where
    pub moved-over : (pre ys mid post : List (Option T)) → from ≡ length pre
        → to ≡ from + k + length mid → k ≡ length ys
        → move_slots from to k (pre ++ (ys ++ (mid ++ (empty_slots k ++ post))))
        ≡ pre ++ (empty_slots k ++ (mid ++ (ys ++ post)))
    moved-over pre ys mid post f t n =
        let Row : Type 0 = List (Option T) in
        let front : Row = pre ++ (empty_slots k ++ mid) in
        let joined : (r : Row) → front ++ r ≡ pre ++ (empty_slots k ++ (mid ++ r)) =
        λ r. simp append_assoc in
        let m : length (empty_slots {T = T} k) ≡ length ys = bare-long T k ∙ n in
        let l : to ≡ length front =
        omega (
          arith,
          m,
          length-append pre (empty_slots k ++ mid),
          length-append (empty_slots k) mid,
        ) in
        moved-by from to k _ ys (front ++ (empty_slots k ++ post)) _
        (run-at from k pre ys (mid ++ (empty_slots k ++ post)) f n)
        (written-at from pre (empty_slots k) ys (mid ++ (empty_slots k ++ post)) f m
        ∙ sym (joined (empty_slots k ++ post)))
        (written-at to front ys (empty_slots k) post l (sym m) ∙ joined (ys ++ post))

  module _ (from to k : ℕ) where
    pub moved-back : (pre ys mid post : List (Option T)) → to ≡ length pre
        → from ≡ to + k + length mid → k ≡ length ys
        → move_slots from to k (pre ++ (empty_slots k ++ (mid ++ (ys ++ post))))
        ≡ pre ++ (ys ++ (mid ++ (empty_slots k ++ post)))
    moved-back pre ys mid post t f n =
        let Row : Type 0 = List (Option T) in
        let front : Row = pre ++ (empty_slots k ++ mid) in
        let joined : (r : Row) → front ++ r ≡ pre ++ (empty_slots k ++ (mid ++ r)) =
        λ r. simp append_assoc in
        let m : length (empty_slots {T = T} k) ≡ length ys = bare-long T k ∙ n in
        let l : from ≡ length front =
        omega (
          arith,
          m,
          n,
          length-append pre (empty_slots k ++ mid),
          length-append (empty_slots k) mid,
        ) in
        moved-by from to k _ ys (pre ++ (empty_slots k ++ (mid ++ (empty_slots k ++ post)))) _
        (ap (λ (r : Row). slot_range from k r) (sym (joined (ys ++ post)))
        ∙ run-at from k front ys post l n)
        (ap (λ (r : Row). clear_slots from k r) (sym (joined (ys ++ post)))
        ∙ (written-at from front (empty_slots k) ys post l m ∙ joined (empty_slots k ++ post)))
        (written-at to pre ys (empty_slots k) (mid ++ (empty_slots k ++ post)) t (sym m))

  full-filled : (xs : List T) (rest : List (Option T)) (i : ℕ) → i < length xs
      → IsSome (slot (filled_slots xs ++ rest) i)
  full-filled [] rest i low = absurd (omega arith)
  full-filled (x ∷ xs) rest zero low = refl
  full-filled (x ∷ xs) rest (suc i) low =
      full-filled xs rest i (let low' : suc i < suc (length xs) = low in omega arith)

  tail-split : (xs : List T) (a b c : ℕ) → c ≡ a + b
      → filled_slots xs ++ empty_slots c ≡ (filled_slots xs ++ empty_slots a) ++ empty_slots b
  tail-split xs a b c e =
      rw e (ap (λ (l : List (Option T)). filled_slots xs ++ l)
      (sym (replicate-append-replicate a b None))
      ∙ sym (append_assoc (filled_slots xs) (empty_slots a) (empty_slots b)))

module _ {T : Type 0} (s : List (Option T)) (n : ℕ) (packed : IsPacked s n) where
  abbrev xs : List T
  xs = items_in s

  abbrev Row : Type 0
  Row = List (Option T)

  full-long : length (filled_slots xs) ≡ n
  full-long = length-map xs Some ∙ sym packed.len

  pub packed-parted : s ≡ filled_slots xs ++ empty_slots (length s - n)
  packed-parted = packed.slots
      ∙ ap (λ (k : ℕ). filled_slots xs ++ empty_slots (length s - k)) (sym packed.len)

  pub packed-le : n ≤ length s
  packed-le =
      let part = length-append (filled_slots xs) (empty_slots {T = T} (length s - n)) in
      omega (arith, full-long, ap length packed-parted, part)

  pub packed-filled : (i : ℕ) → i < n → IsSome (slot s i)
  packed-filled i low =
      subst (λ (l : Row). IsSome (slot l i)) (sym packed.slots)
      (full-filled xs (empty_slots (length s - length xs)) i (omega arith))

  pub packed-run : slot_range 0 n s ≡ filled_slots xs
  packed-run = ap (λ (l : Row). take n l) packed-parted
      ∙ take_at (filled_slots xs) (empty_slots (length s - n)) n full-long

  packed-rest : drop n s ≡ empty_slots (length s - n)
  packed-rest = ap (λ (l : Row). drop n l) packed-parted
      ∙ drop_at (filled_slots xs) (empty_slots (length s - n)) n full-long

  pub packed-emptied : clear_slots 0 n s ≡ empty_slots (length s)
  packed-emptied =
      let le = packed-le in
      let long : 0 + length (empty_slots {T = T} n) ≡ n = omega (arith, bare-long T n) in
      ap (λ (k : ℕ). empty_slots n ++ drop k s) long
      ∙ (ap (λ (l : Row). empty_slots n ++ l) packed-rest
      ∙ (replicate-append-replicate n (length s - n) None
      ∙ ap (λ (k : ℕ). empty_slots k) (let e : n + (length s - n) ≡ length s = omega arith in e)))

  pub packed-carried : (c : ℕ)
      → write_slots 0 (slot_range 0 n s) (empty_slots c) ≡ filled_slots xs ++ empty_slots (c - n)
  packed-carried c =
      let long : 0 + length (filled_slots xs) ≡ n = omega (arith, full-long) in
      ap (λ (ys : Row). ys ++ drop (0 + length ys) (empty_slots c)) packed-run
      ∙ (ap (λ (k : ℕ). filled_slots xs ++ drop k (empty_slots c)) long
      ∙ ap (λ (l : Row). filled_slots xs ++ l)
      (drop-replicate n c None))

  pub packed-long : (c : ℕ) → n ≤ c → length (filled_slots xs ++ empty_slots {T = T} (c - n)) ≡ c
  packed-long c enough = omega
      (arith, full-long, length-append (filled_slots xs) (empty_slots (c - n)), bare-long T (c - n))

  pub packed-grown : (c : ℕ) → length s ≤ c
      → write_slots 0 (slot_range 0 n s) (empty_slots c) ≡ s ++ empty_slots (c - length s)
  packed-grown c more =
      let le = packed-le in
      packed-carried c ∙ (tail-split xs (length s - n) (c - length s) (c - n) (omega arith)
      ∙ ap (λ (l : Row). l ++ empty_slots (c - length s)) (sym packed-parted))

  pub packed-shrunk : (c : ℕ) → n ≤ c → c ≤ length s
      → write_slots 0 (slot_range 0 n s) (empty_slots c) ≡ take c s
  packed-shrunk c enough less =
      let kept : Row = filled_slots xs ++ empty_slots (c - n) in
      let split : s ≡ kept ++ empty_slots (length s - c) =
      packed-parted ∙ tail-split xs (c - n) (length s - c)
      (length s - n) (omega arith) in
      let long : length kept ≡ c = packed-long c enough in
      packed-carried c ∙ sym (ap (λ (l : Row). take c l) split
      ∙ take_at kept (empty_slots (length s - c)) c long)
