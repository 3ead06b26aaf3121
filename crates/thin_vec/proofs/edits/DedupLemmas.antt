-- These lemmas state what an open block and a list contain after the duplicates among their items
-- were removed. `R` describes the calls to the test that compares two items.
--
-- The argument has four parts.
--
-- 1. As long as no item is removed, each item is tested against its neighbor, and none is moved. If
--    no item is removed at all, the block is done (`deduped-ends`). Otherwise the first item to be
--    removed is dropped, which leaves a gap.
-- 2. From then on, each kept item is moved once, across the gap. `DedupsSome` says this of a part
--    of the items. Such parts follow each other (`dedups-start`, `dedups-then`), and each call of
--    `dedup_next` is one: it removes an item (`dedups-goes`), keeps one (`dedups-one`), or keeps
--    several (`dedups-run`), and then removes the next one. So the moves are the kept items that
--    follow the first removed one (`deduped-goes`), as `moves_of_retain` counts.
-- 3. The test of the block is a wrapper around the closure of the caller, and returns the opposite.
--    What the contract says of the wrapper, it also says of the closure (`deduped-through`).
-- 4. Of the tests follow the items and the flags of `dedup` (`pairs-compare`), and for each method
--    that no item is added and none is moved twice (`few-deduped`, `deduped-moves`). What `dedup`
--    leaves is also what std's `Vec` says that it leaves (`filtered-dedup`).
use Rattle.std.proofs.Common.{◌≡◌, ℕ, suc, ◌+◌, ◌<◌, ◌≤◌, Bool, true, false, List, [], ◌∷◌, ◌++◌, length, take, drop, refl, sym, ap, subst, ◌∙◌, arith, append_assoc}
use Rattle.std.proofs.lemmas.List.{append-nil, same_from_push}
use Rattle.std.proofs.Math.Bool.{not-not}
use Rattle.std.specs.List.{dedup, dedup_from, items_where_true}
use Rattle.std.specs.List.Retain.{DiffersFromLast, IsFiltered, ReturnsInTurn}
use Rattle.std.specs.Prelude.{MatchBool, map, not}
use Rattle.thin_block.specs.Cost.{Cost, add_moves}
use Rattle.thin_vec.specs.Edits.Retain.{moves_of_retain}
use Rattle.thin_vec.specs.Edits.Dedup.{TestsEachAgainstLast, TestsAllAgainstLast, IsDedupedBy, dedup_flags, dedup_flags_from}
use Rattle.thin_vec.specs.List.Capacity.{MovesAtMost}
use Rattle.thin_vec.specs.OpenView.{OpenView}
use Rattle.thin_vec.specs.OpenBlock.Dedup.{Differs, Removes, TestsLast, TestsNext, DedupsMiddle, TestsPairsUpTo, DedupsSome, found}
use Rattle.thin_vec.specs.ThinVec.{ListView}
use Rattle.thin_vec.proofs.RetainLemmas.{cons-head, cons-tail, moves_of_retain-few, moving-more, moving-none}
use Rattle.thin_vec.proofs.OpenBlockLemmas.{last-of}
use Rattle.thin_vec.proofs.open_block.PairTestLemmas.{OnPairs, all-stay, by-answer, count_kept, count_kept-all, count_kept-found, count_kept-join, last-append, last-goes, last-some, last-stays, map-answer, moved-all, next-ends, next-kept, run-end, run-left}

module _ {S T : Type 0} (R : OnPairs S T) where
  -- The following definitions and lemmas are about open blocks.

  module _ {A : Type 0} (v w : OpenView T A) where
    -- `Moved front cost` holds if `w` is the open block `v` with the front items `front` and the
    -- cost `cost`. Its first gap and its middle items may also differ from those of `v`.
    abbrev Moved : List T → Cost → Type 0
    Moved front cost = w ≡ record v
        { front = front; gap_before = w.gap_before; middle = w.middle; cost = cost }

    moved : {f f' : List T} {k k' : Cost} → f ≡ f' → k ≡ k'
        → record v { front = f; gap_before = w.gap_before; middle = w.middle; cost = k }
        ≡ record v { front = f'; gap_before = w.gap_before; middle = w.middle; cost = k' }
    moved e n =
        λ i. record v { front = e i; gap_before = w.gap_before; middle = w.middle; cost = n i }

    module _ (s t : S) where
      -- This makes a `DedupsSome` of its parts.
      dedups-of : (before : List T) (first : T) (done : List T) (removed : List Bool) (kept : List T)
          → v.front ≡ before ++ first ∷ [] → v.middle ≡ done ++ w.middle
          → TestsEachAgainstLast (Removes R) s first done removed kept t → 0 < w.gap_before
          → Moved (before ++ kept) (add_moves (count_kept removed) v.cost) → DedupsSome R s v t w
      dedups-of before first done removed kept was middle asked gap_before now =
          record {
            before = before;
            first = first;
            done = done;
            removed = removed;
            kept = kept;
            was = was;
            middle = middle;
            asked = asked;
            gap_before = gap_before;
            now = now;
          }

    -- The lemmas `dedups-goes`, `-one` and `-run` are the cases of `dedup_next`. The first middle
    -- item of `v` is `x`. In the first case, it is removed.
    pub dedups-goes : {s t : S} (x y : T) (front : List T)
        → TestsLast R s x v.front false t y front → v.middle ≡ x ∷ w.middle → 0 < w.gap_before
        → Moved front v.cost → DedupsSome R s v t w
    dedups-goes {s} {t} x y front a middle gap_before now =
        dedups-of s t a.before a.kept (x ∷ []) (true ∷ []) (a.kept_left ∷ []) a.was middle
        (last-goes R s t a.kept x y a.kept_left a.asked) gap_before
        (now ∙ moved (λ i. a.now i) (sym (moving-none v.cost)))

    -- In this module, `x` is kept as `y`. The tests of the items after it leave it as `z`.
    module _ {s t : S} (x y z : T) (front : List T) (a : TestsLast R s x v.front true t y front)
      where
        -- Of the items `xs`, the tests keep `more`.
        dedups-kept : (q : S) (xs : List T) (f : List Bool) (more : List T)
            → TestsEachAgainstLast (Removes R) t y xs f (z ∷ more) q
            → v.middle ≡ x ∷ (xs ++ w.middle) → 0 < w.gap_before
            → Moved (front ++ z ∷ more) (add_moves (suc (count_kept f)) v.cost)
            → DedupsSome R s v q w
        dedups-kept q xs f more asked middle gap_before now =
            dedups-of s q a.before a.kept (x ∷ xs) (false ∷ f) (a.kept_left ∷ z ∷ more) a.was middle
            (last-append R t q y f (z ∷ more) xs asked
            (x ∷ []) s a.kept (false ∷ []) (a.kept_left ∷ [])
            (last-stays R s t a.kept x y a.kept_left a.asked))
            gap_before
            (now ∙ moved (ap (λ (l : List T). l ++ z ∷ more) a.now
            ∙ append_assoc a.before (a.kept_left ∷ []) (z ∷ more)) refl)

        -- The next item, if there is one, is removed.
        pub dedups-one : {u : S} (ys zs : List T) → TestsNext R t y ys false u z zs
            → v.middle ≡ x ∷ ys → w.middle ≡ drop 1 zs → 0 < w.gap_before
            → Moved (front ++ z ∷ []) (add_moves 1 v.cost) → DedupsSome R s v u w
        dedups-one {u} ys zs n whole middle gap_before now =
            let e = next-ends R t y ys u z zs n in
            dedups-kept u e.0 (found zs) [] e.2
            (whole ∙ ap (λ (l : List T). x ∷ l)
            (e.1 ∙ ap (λ (l : List T). e.0 ++ l) (sym middle)))
            gap_before
            (now ∙ moved refl
            (ap (λ (k : ℕ). add_moves (suc k) v.cost) (sym (count_kept-found zs))))

        -- The next item is kept, too. It is the first of `m` kept neighbors, which are moved
        -- together.
        pub dedups-run : {m : ℕ} {u q : S} {ws : List T} (ys zs : List T)
            → TestsNext R t y ys true u z zs → v.middle ≡ x ∷ ys
            → (r : TestsPairsUpTo R m u zs q ws) → w.middle ≡ drop 1 (drop m ws)
            → 0 < w.gap_before
            → Moved ((front ++ z ∷ []) ++ take m ws) (add_moves m (add_moves 1 v.cost))
            → DedupsSome R s v q w
        dedups-run {m} {u} {q} {ws} ys zs n whole r middle gap_before now =
            let k = next-kept R t y ys u z zs n in
            let flags = all-stay r.more ++ found r.end in
            let heads : k.1 ∷ k.2 ≡ r.first ∷ (r.done ++ drop 1 r.end) = sym k.5 ∙ r.was in
            let rest : drop 1 r.end ≡ w.middle = sym (middle ∙ ap (drop 1) (run-end R r)) in
            let paid : 1 + m ≡ suc (suc (count_kept flags)) = omega (
              arith,
              r.count,
              count_kept-join (all-stay r.more) (found r.end),
              count_kept-all r.more,
              count_kept-found r.end,
            ) in
            dedups-kept q (k.0 ∷ r.done) (false ∷ flags) r.kept
            (last-append R u q k.1 flags r.kept r.done
            (subst (λ (l : T). TestsEachAgainstLast (Removes R) u l r.done flags r.kept q)
            (sym (cons-head heads)) r.asked)
            (k.0 ∷ []) t y (false ∷ []) (z ∷ []) (last-stays R t u y k.0 k.1 z k.3))
            (whole ∙ ap (λ (l : List T). x ∷ l) (k.4 ∙ ap (λ (l : List T). k.0 ∷ l)
            (cons-tail heads ∙ ap (λ (l : List T). r.done ++ l) rest)))
            gap_before
            (now ∙ moved (append_assoc front (z ∷ []) (take m ws)
            ∙ ap (λ (l : List T). front ++ z ∷ l) (run-left R r))
            (moving-more m 1 v.cost ∙ ap (λ (k : ℕ). add_moves k v.cost) paid))

  -- The series of tests begins with the last front item as the last kept one.
  pub dedups-start : {A : Type 0} (s : S) (v : OpenView T A) → 0 < length v.front
      → 0 < v.gap_before → DedupsSome R s v s v
  dedups-start s v some gap_before =
      let p = last-of v.front some in
      record {
        before = p.0;
        first = p.1;
        done = [];
        removed = [];
        kept = p.1 ∷ [];
        was = p.2;
        middle = refl;
        asked = (refl, refl, refl);
        gap_before = gap_before;
        now = λ i. record v { front = p.2 i; cost = sym (moving-none v.cost) i };
      }

  -- A part follows another part: the last item that the first part kept is the one against which
  -- the second part tests its first item.
  pub dedups-then : {A : Type 0} {s t u : S} {v w z : OpenView T A} → DedupsSome R s v t w
      → DedupsSome R t w u z → DedupsSome R s v u z
  dedups-then {s = s} {t} {u} {v} {w} {z} h k =
      let p = last-of h.kept (last-some R h.done s t h.first h.removed h.kept h.asked) in
      let e : (h.before ++ p.0) ++ p.1 ∷ [] ≡ k.before ++ k.first ∷ [] =
      append_assoc h.before p.0 (p.1 ∷ [])
      ∙ (ap (λ (l : List T). h.before ++ l) (sym p.2)
      ∙ (sym (ap (λ u. u.front) h.now) ∙ k.was)) in
      let ends = same_from_push (h.before ++ p.0) k.before p.1 k.first e in
      record {
        before = h.before;
        first = h.first;
        done = h.done ++ k.done;
        removed = h.removed ++ k.removed;
        kept = p.0 ++ k.kept;
        was = h.was;
        middle = h.middle ∙ (ap (λ (l : List T). h.done ++ l) k.middle
            ∙ sym (append_assoc h.done k.done z.middle));
        asked = last-append R t u p.1 k.removed k.kept k.done
            (subst (λ (l : T). TestsEachAgainstLast (Removes R) t l k.done k.removed k.kept u)
            (sym ends.1) k.asked)
            h.done s h.first h.removed p.0
            (subst (λ (l : List T). TestsEachAgainstLast (Removes R) s h.first h.done h.removed l t)
            p.2 h.asked);
        gap_before = k.gap_before;
        now = cc (
          k.now,
          h.now,
          ends.0,
          append_assoc h.before p.0 k.kept,
          moving-more (count_kept k.removed) (count_kept h.removed) v.cost,
          count_kept-join h.removed k.removed,
        );
      }

  module _ {A : Type 0} (v w : OpenView T A) (m : ℕ) (s t : S) (ys : List T)
      (r : TestsPairsUpTo R m s v.middle t ys) where
    -- `RunPassed` holds if the front items of `w` are the `m` kept items, and the cost is that of
    -- `v`. The first gap and the middle items may differ from those of `v`.
    abbrev RunPassed : Type 0
    RunPassed = Moved v w (take m ys) v.cost

    -- The lemmas `deduped-goes` and `deduped-ends` are the cases of `dedup_middle`. Here, `value`
    -- is the first item to be removed, and the part `h` tests all items after it.
    pub deduped-goes : (value : T) (u : S) (z : OpenView T A) → RunPassed
        → drop m ys ≡ value ∷ w.middle
        → DedupsSome R t w u z → z.middle ≡ [] → DedupsMiddle R s v u z
    deduped-goes value u z p k h none =
        let removed = all-stay r.more ++ found r.end in
        let end : r.end ≡ value ∷ w.middle = sym (run-end R r) ∙ k in
        let here : w.front ≡ r.kept = ap (λ x. x.front) p ∙ run-left R r in
        let flags : removed ++ h.removed ≡ all-stay r.more ++ true ∷ h.removed =
        ap (λ (l : List T). (all-stay r.more ++ found l) ++ h.removed) end
        ∙ append_assoc (all-stay r.more) (true ∷ []) h.removed in
        let up : moves_of_retain (map not (removed ++ h.removed)) ≡ count_kept h.removed =
        ap (λ f. moves_of_retain (map not f)) flags ∙ moved-all r.more (true ∷ h.removed) in
        let all : drop 1 r.end ≡ h.done = ap (drop 1) end
        ∙ (h.middle ∙ (ap (λ (l : List T). h.done ++ l) none ∙ append-nil h.done)) in
        let asked : TestsEachAgainstLast (Removes R) s r.first (r.done ++ h.done)
        (removed ++ h.removed) (h.before ++ h.kept) u =
        last-append R t u h.first h.removed h.kept h.done h.asked r.done s r.first removed h.before
        (subst (λ (l : List T). TestsEachAgainstLast (Removes R) s r.first r.done removed l t)
        (sym here ∙ h.was) r.asked) in
        record {
          removed = removed ++ h.removed;
          asked = subst (λ (l : List T). TestsAllAgainstLast (Removes R) s l (removed ++ h.removed)
              z.front u)
              (ap (λ (l : List T). r.first ∷ (r.done ++ l)) (sym all) ∙ sym r.was)
              (subst (λ (l : List T). TestsEachAgainstLast (Removes R) s r.first (r.done ++ h.done)
              (removed ++ h.removed) l u) (sym (ap (λ x. x.front) h.now)) asked);
          now = h.now ∙ (λ i. let x = p i in record x {
            front = sym (ap (λ y. y.front) h.now) i;
            gap_before = z.gap_before;
            middle = none i;
            cost = add_moves (sym up i) x.cost;
          });
        }

    -- No item is to be removed.
    pub deduped-ends : RunPassed → drop m ys ≡ [] → w.middle ≡ [] → DedupsMiddle R s v t w
    deduped-ends p k none =
        let removed = all-stay r.more ++ found r.end in
        let end : r.end ≡ [] = sym (run-end R r) ∙ k in
        let up : moves_of_retain (map not removed) ≡ 0 =
        ap (λ (l : List T). moves_of_retain (map not (all-stay r.more ++ found l))) end
        ∙ moved-all r.more [] in
        record {
          removed = removed;
          asked = subst (λ (l : List T). TestsAllAgainstLast (Removes R) s l removed w.front t)
              (sym (append-nil (r.first ∷ r.done))
              ∙ (ap (λ (l : List T). r.first ∷ (r.done ++ l)) (ap (drop 1) (sym end)) ∙ sym r.was))
              (subst (λ (l : List T). TestsEachAgainstLast (Removes R) s r.first r.done removed l t)
              (sym (ap (λ x. x.front) p ∙ run-left R r)) r.asked);
          now = p ∙ (λ i. record v {
            front = sym (ap (λ x. x.front) p) i;
            gap_before = w.gap_before;
            middle = none i;
            cost = (sym (moving-none v.cost) ∙ ap (λ (n : ℕ). add_moves n v.cost) (sym up)) i;
          });
        }

-- In this module, `R` describes the calls to a closure, and `J` is the type of a wrapper around it
-- that returns the opposite. `inside` maps each state of the wrapper to the state of the closure
-- inside it.
module _ {J S T : Type 0} (R : OnPairs S T) (inside : J → S) where
  -- `through` describes the calls to the wrapper.
  abbrev through : OnPairs J T
  through s x k b t y l = R (inside s) x k (not b) (inside t) y l

  last-through : (xs : List T) (s t : J) (k : T) (f : List Bool) (ys : List T)
      → TestsEachAgainstLast (Removes through) s k xs f ys t
      → TestsEachAgainstLast R (inside s) k xs f ys (inside t)
  last-through [] s t k f ys h = (h.0, h.1, ap inside h.2)
  last-through (x ∷ xs) s t k f ys h = (
    h.0,
    h.1,
    h.2,
    inside h.3,
    h.4,
    subst (λ (b : Bool). R (inside s) x k b (inside h.3) h.1 h.2) (not-not h.0) h.5,
    h.6,
    map-answer h.0 (λ p. last-through xs h.3 t h.2 h.4 ys p)
        (λ q. (q.0, last-through xs h.3 t h.1 h.4 q.0 q.1, q.2)) h.7,
  )

  pairs-through : (xs : List T) (s t : J) (f : List Bool) (ys : List T)
      → TestsAllAgainstLast (Removes through) s xs f ys t
      → TestsAllAgainstLast R (inside s) xs f ys (inside t)
  pairs-through [] s t f ys h = (h.0, h.1, ap inside h.2)
  pairs-through (x ∷ xs) s t f ys h = last-through xs s t x f ys h

  pub deduped-through : {A : Type 0} (s : J) (v w : ListView T A)
      → IsDedupedBy (Removes through) s v w → IsDedupedBy R (inside s) v w
  deduped-through s v w h = record {
    removed = h.removed;
    last = inside h.last;
    calls = pairs-through v.items s h.last h.removed w.items h.calls;
    cost = h.cost;
  }

-- In this module, the function `E` says whether an item is a duplicate of the last kept item.
module _ {S T : Type 0} (E : T → T → Bool) where
  last-compares : (xs : List T) (s t : S) (k : T) (f : List Bool) (ys : List T)
      → TestsEachAgainstLast (Removes (Differs E)) s k xs f ys t
      → (f ≡ dedup_flags_from E k xs) × (ys ≡ dedup_from E k xs)
  last-compares [] s t k f ys h = (h.0, h.1)
  last-compares (x ∷ xs) s t k f ys h =
      elim h.0 as (λ b. b ≡ E x k → f ≡ b ∷ h.4
      → MatchBool b (TestsEachAgainstLast (Removes (Differs E)) h.3 h.2 xs h.4 ys t)
      ((zs : List T) × TestsEachAgainstLast (Removes (Differs E)) h.3 h.1 xs h.4 zs t
      × (ys ≡ h.2 ∷ zs))
      → (f ≡ dedup_flags_from E k (x ∷ xs)) × (ys ≡ dedup_from E k (x ∷ xs))) [
        | true ↦ λ e st m. let r = last-compares xs h.3 t h.2 h.4 ys m in
            rw (← e, ← h.5.2) (st ∙ ap (λ l. true ∷ l) r.0, r.1)
        | false ↦ λ e st m. let r = last-compares xs h.3 t h.1 h.4 m.0 m.1 in
            rw (← e, ← h.5.1, ← h.5.2) (st ∙ ap (λ l. false ∷ l) r.0, m.2 ∙ ap (λ l. h.2 ∷ l) r.1)
      ]
      (sym (not-not h.0) ∙ (ap not h.5.0 ∙ not-not (E x k))) h.6 h.7

  pub pairs-compare : (xs : List T) (s t : S) (f : List Bool) (ys : List T)
      → TestsAllAgainstLast (Removes (Differs E)) s xs f ys t
      → (f ≡ dedup_flags E xs) × (ys ≡ dedup E xs)
  pairs-compare [] s t f ys h = (h.0, h.1)
  pairs-compare (x ∷ xs) s t f ys h = last-compares xs s t x f ys h

module _ {T : Type 0} (E : T → T → Bool) where
  -- These are the flags with which `DiffersFromLast` describes a `dedup` of the items after `k`.
  filtered-after : (k : T) (p xs : List T) → (kept : List Bool) × (q : List T)
      × (length kept ≡ length xs) × ReturnsInTurn (DiffersFromLast E) (k ∷ p) kept xs q
      × (dedup_from E k xs ≡ k ∷ items_where_true kept xs)
  filtered-after k p [] = ([], k ∷ p, refl, refl, refl)
  filtered-after k p (x ∷ xs) =
      elim (E x k) as (λ b. E x k ≡ b → (kept : List Bool) × (q : List T)
      × (length kept ≡ suc (length xs))
      × ReturnsInTurn (DiffersFromLast E) (k ∷ p) kept (x ∷ xs) q
      × (dedup_from E k (x ∷ xs) ≡ k ∷ items_where_true kept (x ∷ xs))) [
        | true ↦ λ e. let r = filtered-after k p xs in
            (false ∷ r.0, r.1, ap suc r.2, (k ∷ p, (e, refl), r.3), rw e r.4)
        | false ↦ λ e. let r = filtered-after x [] xs in
            (true ∷ r.0, r.1, ap suc r.2, (x ∷ [], (e, refl), r.3), rw e (ap (λ l. k ∷ l) r.4))
      ]
      refl

  -- What `dedup` leaves is what the clause `filtered` says in the words of std.
  pub filtered-dedup : (xs : List T) → IsFiltered (DiffersFromLast E) [] xs (dedup E xs)
  filtered-dedup [] = ([], [], refl, refl, refl)
  filtered-dedup (x ∷ xs) =
      let r = filtered-after x [] xs in
      (true ∷ r.0, r.1, ap suc r.2, (x ∷ [], (refl, refl), r.3), r.4)

module _ {S T : Type 0} (R : OnPairs S T) where
  few-last : (xs : List T) (s t : S) (k : T) (removed : List Bool) (ys : List T)
      → TestsEachAgainstLast R s k xs removed ys t → length ys ≤ suc (length xs)
  few-last [] s t k removed ys h = omega (arith, ap length h.1)
  few-last (x ∷ xs) s t k removed ys h =
      by-answer h.0 _ _ (length ys ≤ suc (suc (length xs)))
      (λ m. omega (arith, few-last xs h.3 t h.2 h.4 ys m))
      (λ m. omega (arith, few-last xs h.3 t h.1 h.4 m.0 m.1, ap length m.2)) h.7

  few-pairs : (xs : List T) (s t : S) (removed : List Bool) (ys : List T)
      → TestsAllAgainstLast R s xs removed ys t → length ys ≤ length xs
  few-pairs [] s t removed ys h = omega (arith, ap length h.1)
  few-pairs (x ∷ xs) s t removed ys h = few-last xs s t x removed ys h

  -- A list of less than two items is left as it is.
  pub deduped-short : {A : Type 0} (s : S) (v : ListView T A) → length v.items < 2
      → IsDedupedBy R s v v
  deduped-short s v short = record {
    removed = [];
    last = s;
    calls = none v.items short;
    cost = sym (moving-none v.cost);
  }
    where
      none : (xs : List T) → length xs < 2 → TestsAllAgainstLast R s xs [] xs s
      none [] short = (refl, refl, refl)
      none (x ∷ []) short = (refl, refl, refl)
      none (x ∷ y ∷ xs) short = absurd (omega (arith, short))

  pub few-deduped : {A : Type 0} (s : S) (v w : ListView T A) → IsDedupedBy R s v w
      → length w.items ≤ length v.items
  few-deduped s v w h = few-pairs v.items s h.last h.removed w.items h.calls

  -- As many flags are false as items are kept after the first.
  kept-last : (xs : List T) (s t : S) (k : T) (removed : List Bool) (ys : List T)
      → TestsEachAgainstLast R s k xs removed ys t → suc (count_kept removed) ≡ length ys
  kept-last [] s t k removed ys h = omega (arith, ap count_kept h.0, ap length h.1)
  kept-last (x ∷ xs) s t k removed ys h =
      one h.0 h.6 h.7 (λ l zs m. kept-last xs h.3 t l h.4 zs m)
    where
      one : (b : Bool) → removed ≡ b ∷ h.4
          → MatchBool b (TestsEachAgainstLast R h.3 h.2 xs h.4 ys t)
          ((zs : List T) × TestsEachAgainstLast R h.3 h.1 xs h.4 zs t × (ys ≡ h.2 ∷ zs))
          → ((l : T) (zs : List T) → TestsEachAgainstLast R h.3 l xs h.4 zs t
          → suc (count_kept h.4) ≡ length zs)
          → suc (count_kept removed) ≡ length ys
      one true e m kept = let k = kept h.2 ys m in omega (arith, ap count_kept e, k)
      one false e m kept =
          let k = kept h.1 m.0 m.1 in omega (arith, ap count_kept e, k, ap length m.2)

  few-moves : (xs : List T) (s t : S) (removed : List Bool) (ys : List T)
      → TestsAllAgainstLast R s xs removed ys t → moves_of_retain (map not removed) ≤ length ys
  few-moves [] s t removed ys h =
      omega (arith, ap (λ f. moves_of_retain (map not f)) h.0, ap length h.1)
  few-moves (x ∷ xs) s t removed ys h =
      omega (arith, moves_of_retain-few (map not removed), kept-last xs s t x removed ys h)

  -- Each item that stays is moved at most once.
  pub deduped-moves : {A : Type 0} (s : S) (v w : ListView T A) → IsDedupedBy R s v w
      → MovesAtMost (length w.items) v.cost w.cost
  deduped-moves s v w h = record {
    moves = moves_of_retain (map not h.removed);
    few = few-moves v.items s h.last h.removed w.items h.calls;
    cost = h.cost;
  }
