-- These lemmas are about lists of results (a result says whether a test keeps an item), and about
-- the items that `retain` keeps. `R` describes the calls to the closure, and `s` and `t` are its
-- states.
use Rattle.std.proofs.Common.{◌≡◌, ℕ, suc, ◌+◌, ◌<◌, ◌≤◌, Bool, true, false, List, [], ◌∷◌, ◌++◌, length, drop, take, refl, sym, ap, ◌∙◌, arith}
use Rattle.std.proofs.Math.Dec.{eqb-suc-zero}
use Rattle.std.proofs.lemmas.List.{drop_at, take_at}
use Rattle.std.specs.Prelude.{◌==◌, cond, if◌then◌else◌}
use Rattle.std.specs.List.{filter, items_where_true}
use Rattle.std.specs.List.Retain.{IsFiltered, RetainsInTurn, ReturnsInTurn}
use Rattle.std.proofs.lemmas.Fn.{filter_same}
use Rattle.thin_block.specs.Cost.{Cost, add_moves}
use Rattle.thin_vec.specs.Edits.Retain.{TestResults, IsRetained, IsRetainedMut, KeepsInTurn, flags_of, items_where, moves_of_retain, all_kept, count_true}
use Rattle.thin_vec.specs.List.Capacity.{MovesAtMost}
use Rattle.thin_vec.specs.OpenBlock.Retain.{TestsInTurn}
use Rattle.thin_vec.specs.ThinVec.{ListView}

-- Adding `b` moves, and then `a` moves, is adding `b + a` moves.
pub moving-more : (a b : ℕ) (c : Cost) → add_moves a (add_moves b c) ≡ add_moves (b + a) c
moving-more a b c = let e : c.moves + b + a ≡ c.moves + (b + a) = omega arith in
    λ i. record { blocks = c.blocks; grown = c.grown; moves = e i }

-- Adding no moves leaves a cost unchanged.
pub moving-none : (c : Cost) → add_moves 0 c ≡ c
moving-none c = let e : c.moves + 0 ≡ c.moves = omega arith in
    λ i. record { blocks = c.blocks; grown = c.grown; moves = e i }

moving-if : (b : Bool) (a k : ℕ) (c : Cost)
    → (if b then add_moves a c else add_moves k (add_moves a c))
    ≡ add_moves (a + (if b then 0 else k)) c
moving-if true a k c = let e : a ≡ a + 0 = omega arith in ap (λ n. add_moves n c) e
moving-if false a k c = moving-more k a c

-- Adding nothing in one case, and no moves in the other, leaves a cost unchanged.
pub moving-zero : (b : Bool) (c : Cost) → (if b then c else add_moves 0 c) ≡ c
moving-zero true c = refl
moving-zero false c = moving-none c

-- Equal lists have equal first items.
pub cons-head : {X : Type 0} {x y : X} {xs ys : List X} → x ∷ xs ≡ y ∷ ys → x ≡ y
cons-head e = cc

-- Equal lists have equal items after the first.
pub cons-tail : {X : Type 0} {x y : X} {xs ys : List X} → x ∷ xs ≡ y ∷ ys → xs ≡ ys
cons-tail e = ap (drop 1) e

-- A list with an item is not empty.
pub cons-not-nil : {X : Type 0} {x : X} {xs : List X} → x ∷ xs ≡ [] → ⊥
cons-not-nil e = let n = ap length e in omega (arith, n)

-- A list of the length 1 consists of one item.
pub single : {X : Type 0} (xs : List X) → length xs ≡ 1 → (x : X) × (xs ≡ x ∷ [])
single [] e = absurd (omega (arith, e))
single (x ∷ []) e = (x, refl)
single (x ∷ y ∷ xs) e = absurd (omega (arith, e))

-- A list whose length is not above 0 is empty.
pub none-left : {X : Type 0} (xs : List X) → (0 < length xs → ⊥) → xs ≡ []
none-left [] none = refl
none-left (x ∷ xs) none = absurd (none (omega arith))

-- If two joined lists are equal, and their first parts are equally long, both parts are equal.
pub same-parts : {X : Type 0} (a b c d : List X) → length a ≡ length c → a ++ b ≡ c ++ d → (a ≡ c)
    × (b ≡ d)
same-parts a b c d n e = (
  sym (take_at a b (length c) n) ∙ (ap (take (length c)) e ∙ take_at c d (length c) refl),
  sym (drop_at a b (length c) n) ∙ (ap (drop (length c)) e ∙ drop_at c d (length c) refl),
)

-- At most the kept items are moved.
pub moves_of_retain-few : (stays : List Bool) → moves_of_retain stays ≤ count_true stays
moves_of_retain-few [] = omega arith
moves_of_retain-few (true ∷ stays) = let few = moves_of_retain-few stays in omega (arith, few)
moves_of_retain-few (false ∷ stays) = omega arith

module _ {T : Type 0} where
  -- The kept items of `a ++ b` are the kept items of `a`, and then the kept items of `b`.
  pub items_where-append : (a b : TestResults T)
      → items_where true (a ++ b) ≡ items_where true a ++ items_where true b
  items_where-append [] b = refl
  items_where-append ((true, x) ∷ a) b = ap (λ (l : List T). x ∷ l) (items_where-append a b)
  items_where-append ((false, x) ∷ a) b = items_where-append a b

  -- The removed items of `a ++ b` are the removed items of `a`, and then the removed items of `b`.
  pub gone-append : (a b : TestResults T)
      → items_where false (a ++ b) ≡ items_where false a ++ items_where false b
  gone-append [] b = refl
  gone-append ((true, x) ∷ a) b = gone-append a b
  gone-append ((false, x) ∷ a) b = ap (λ (l : List T). x ∷ l) (gone-append a b)

  -- If each item is kept, none is removed.
  pub gone-stay : (xs : List T) → items_where false (all_kept xs) ≡ []
  gone-stay [] = refl
  gone-stay (x ∷ xs) = gone-stay xs

  -- The number of the kept items of `a ++ b` is the sum of both numbers.
  pub count_true-append : (a b : TestResults T) → count_true (flags_of (a ++ b)) ≡ count_true
      (flags_of a) + count_true (flags_of b)
  count_true-append [] b = omega arith
  count_true-append ((true, x) ∷ a) b = let e = count_true-append a b in omega arith
  count_true-append ((false, x) ∷ a) b = count_true-append a b

  -- If each item is kept, the kept items are all items.
  pub items_where-stay : (xs : List T) → items_where true (all_kept xs) ≡ xs
  items_where-stay [] = refl
  items_where-stay (x ∷ xs) = ap (λ (l : List T). x ∷ l) (items_where-stay xs)

  -- If each item is kept, their number is the length of the list.
  pub count_true-stay : (xs : List T) → count_true (flags_of (all_kept xs)) ≡ length xs
  count_true-stay [] = refl
  count_true-stay (x ∷ xs) = ap suc (count_true-stay xs)

  -- Items that are kept before the first removed one are not moved.
  pub moves_of_retain-stay : (xs : List T) (a : TestResults T)
      → moves_of_retain (flags_of (all_kept xs ++ a))
      ≡ moves_of_retain (flags_of a)
  moves_of_retain-stay [] a = refl
  moves_of_retain-stay (x ∷ xs) a = moves_of_retain-stay xs a

  -- A kept item moves if an item before it was removed.
  moves-append : (a b : TestResults T) → moves_of_retain (flags_of (a ++ b))
      ≡ moves_of_retain (flags_of a) + (if length (items_where false a) == 0 then moves_of_retain
      (flags_of b) else count_true (flags_of b))
  moves-append [] b = omega arith
  moves-append ((true, x) ∷ a) b = moves-append a b
  moves-append ((false, x) ∷ a) b =
      count_true-append a b
      ∙ sym (ap (λ t. count_true (flags_of a)
      + (if t then moves_of_retain (flags_of b) else count_true (flags_of b)))
      (eqb-suc-zero (length (items_where false a))))

  -- A search after the results `done` keeps `k` items. They move if an item was removed before.
  pub paid-more : (done new : TestResults T) (k : ℕ) (c : Cost)
      → moves_of_retain (flags_of new) ≡ 0 → count_true (flags_of new) ≡ k
      → (if length (items_where false done) == 0 then add_moves (moves_of_retain (flags_of done)) c
      else add_moves k (add_moves (moves_of_retain (flags_of done)) c))
      ≡ add_moves (moves_of_retain (flags_of (done ++ new))) c
  paid-more done new k c still count =
      let some = length (items_where false done) == 0 in
      let paid = moves_of_retain (flags_of done) in
      moving-if some paid k c
      ∙ ((λ i. add_moves (paid + (if some then sym still i else sym count i)) c)
      ∙ ap (λ n. add_moves n c) (sym (moves-append done new)))

module _ {T : Type 0} where
  kept-first : (b : Bool) (y : T) (a : TestResults T)
      → items_where true ((b, y) ∷ a) ≡ cond b (y ∷ items_where true a) (items_where true a)
  kept-first true y a = refl
  kept-first false y a = refl

  -- The results for a list are those for its first item and for the others.
  pub keeps-cons : {b : Bool} {flags later : List Bool} {ys zs : List T} (y : T) (a : TestResults T)
      → flags ≡ b ∷ later → ys ≡ cond b (y ∷ zs) zs
      → (later ≡ flags_of a) × (zs ≡ items_where true a)
      → (flags ≡ flags_of ((b, y) ∷ a)) × (ys ≡ items_where true ((b, y) ∷ a))
  keeps-cons {b} y a first kept rest = (
    first ∙ ap (λ l. b ∷ l) rest.0,
    kept ∙ (ap (λ l. cond b (y ∷ l) l) rest.1 ∙ sym (kept-first b y a)),
  )

module _ {S T : Type 0} (R : S → T → Bool → S → T → Type 0) where
  keeps-results : (xs : List T) (s t : S) (a : TestResults T) → TestsInTurn R s xs a t
      → KeepsInTurn R s xs (flags_of a) (items_where true a)
  keeps-results [] s t a h = rw h.0 (refl, refl)
  keeps-results (x ∷ xs) s t a h = rw h.6 (
    h.0,
    h.2,
    h.1,
    h.4,
    flags_of h.3,
    items_where true h.3,
    keeps-results xs h.2 t h.3 h.5,
    refl,
    kept-first h.0 h.1 h.3,
  )

  -- If tests in turn had the results `a`, and the list `w` has the kept items and the cost that
  -- follow from `a`, then `IsRetainedMut` holds.
  pub retained-results : {A : Type 0} (s t : S) (v w : ListView T A) (a : TestResults T)
      → TestsInTurn R s v.items a t → w.items ≡ items_where true a
      → w.cost ≡ add_moves (moves_of_retain (flags_of a)) v.cost → IsRetainedMut R s v w
  retained-results s t v w a asked items cost =
      record { flags = flags_of a; calls = rw items (keeps-results v.items s t a asked); cost = cost }

  -- `IsRetainedMut` implies std's `RetainsInTurn`.
  pub retained-in-turn : {A : Type 0} (s : S) (v w : ListView T A) → IsRetainedMut R s v w
      → RetainsInTurn R s v.items w.items
  retained-in-turn s v w h = in-turn v.items s h.flags w.items h.calls
    where
      in-turn : (xs : List T) (s : S) (flags : List Bool) (ys : List T)
          → KeepsInTurn R s xs flags ys → RetainsInTurn R s xs ys
      in-turn [] s flags ys h = h.1
      in-turn (x ∷ xs) s flags ys h =
          (h.0, h.1, h.2, h.3, h.5, in-turn xs h.1 h.4 h.5 h.6, h.8)

  -- As many flags are true as items are kept, which are at most all items.
  kept-count : (xs : List T) (s : S) (flags : List Bool) (ys : List T) → KeepsInTurn R s xs flags ys
      → (count_true flags ≡ length ys) × (length ys ≤ length xs)
  kept-count [] s flags ys h = rw (h.0, h.1) (refl, omega arith)
  kept-count (x ∷ xs) s flags ys h =
      rw (h.7, h.8) (one h.0 h.4 h.5 (kept-count xs h.1 h.4 h.5 h.6))
    where
      one : (b : Bool) (flags : List Bool) (ys : List T)
          → (count_true flags ≡ length ys) × (length ys ≤ length xs)
          → (count_true (b ∷ flags) ≡ length (cond b (h.2 ∷ ys) ys))
          × (length (cond b (h.2 ∷ ys) ys) ≤ suc (length xs))
      one true flags ys more = (ap suc more.0, omega (arith, more.1))
      one false flags ys more = (more.0, omega (arith, more.1))

  -- `retain_mut` leaves no more items than there were.
  pub few-retained : {A : Type 0} (s : S) (v w : ListView T A) → IsRetainedMut R s v w
      → length w.items ≤ length v.items
  few-retained s v w h = (kept-count v.items s h.flags w.items h.calls).1

  -- Each item that stays is moved at most once.
  pub retained-moves : {A : Type 0} (s : S) (v w : ListView T A) → IsRetainedMut R s v w
      → MovesAtMost (length w.items) v.cost w.cost
  retained-moves s v w h = record {
    moves = moves_of_retain h.flags;
    few = omega (
      arith,
      moves_of_retain-few h.flags,
      (kept-count v.items s h.flags w.items h.calls).0,
    );
    cost = h.cost;
  }

-- In the following modules, `J` is the type of a wrapper around a closure that returns what the
-- closure returns. `inside` maps each state of the wrapper to the state of the closure inside it.

module _ {J S T : Type 0} (R : S → T → Bool → S → T → Type 0) (inside : J → S) where
  keeps-through : (xs : List T) (s : J) (flags : List Bool) (ys : List T)
      → KeepsInTurn (λ s x b t y. R (inside s) x b (inside t) y) s xs flags ys
      → KeepsInTurn R (inside s) xs flags ys
  keeps-through [] s flags ys h = h
  keeps-through (x ∷ xs) s flags ys h =
      (h.0, inside h.1, h.2, h.3, h.4, h.5, keeps-through xs h.1 h.4 h.5 h.6, h.7, h.8)

  -- What holds of the calls to the wrapper holds of the calls to the closure inside it.
  pub retained-through : {A : Type 0} (s : J) (v w : ListView T A)
      → IsRetainedMut (λ s x b t y. R (inside s) x b (inside t) y) s v w
      → IsRetainedMut R (inside s) v w
  retained-through s v w h = record {
    flags = h.flags;
    calls = keeps-through v.items s h.flags w.items h.calls;
    cost = h.cost;
  }

-- In this module, the closure only reads the item.
module _ {J S T : Type 0} (R : S → T → Bool → S → Type 0) (inside : J → S) where
  -- `reads` describes the calls to the wrapper.
  abbrev reads : J → T → Bool → J → T → Type 0
  reads s x b t y = R (inside s) x b (inside t) × (y ≡ x)

  told : (xs : List T) (s : J) (flags : List Bool) (ys : List T) → KeepsInTurn reads s xs flags ys
      → (length flags ≡ length xs) × ((t : S) × ReturnsInTurn R (inside s) flags xs t)
      × (ys ≡ items_where_true flags xs)
  told [] s flags ys h = rw h.0 (refl, (inside s, refl), h.1)
  told (x ∷ xs) s flags ys h =
      let more = told xs h.1 h.4 h.5 h.6 in
      rw h.7 (
        ap suc more.0,
        (more.1.0, (inside h.1, h.3.0, more.1.1)),
        h.8 ∙ first h.0 h.2 h.3.1 h.5 more.2,
      )
    where
      -- `y` is the first item as the call left it.
      first : (b : Bool) (y : T) → y ≡ x → (zs : List T) → zs ≡ items_where_true h.4 xs
          → cond b (y ∷ zs) zs ≡ items_where_true (b ∷ h.4) (x ∷ xs)
      first true y e zs f = λ i. e i ∷ f i
      first false y e zs f = f

  -- If the closure only reads the item, `IsRetainedMut` of the wrapper implies `IsRetained` of the
  -- closure.
  pub retained-reads : {A : Type 0} (s : J) (v w : ListView T A) → IsRetainedMut reads s v w
      → IsRetained R (inside s) v w
  retained-reads s v w h =
      let t = told v.items s h.flags w.items h.calls in
      record {
        flags = h.flags;
        last = t.1.0;
        count = t.0;
        calls = t.1.1;
        items = t.2;
        cost = h.cost;
      }

module _ {S T : Type 0} (R : S → T → Bool → S → Type 0) where
  -- `IsRetained` implies std's `IsFiltered`.
  pub retained_filtered : {A : Type 0} (s : S) (v w : ListView T A) → IsRetained R s v w
      → IsFiltered R s v.items w.items
  retained_filtered s v w h = (h.flags, h.last, h.count, h.calls, h.items)

  -- If each call of the closure returns `test` of the item, and leaves the state of the closure
  -- unchanged, `retain` keeps what `filter test` keeps.
  pub retained_filter : {A : Type 0} (test : T → Bool) {s : S} {v w : ListView T A}
      → ((x : T) (b : Bool) (t : S) → R s x b t → (b ≡ test x) × (t ≡ s))
      → IsRetained R s v w → w.items ≡ filter test v.items
  retained_filter test {s} {v} {w} says h =
      filter_same R test s says v.items w.items (retained_filtered s v w h)

  -- This is `retained_filter` for a closure that changes its state. Each call keeps `I` true.
  pub retained_filter_keeping : {A : Type 0} (I : S → Type 0) (test : T → Bool) {s : S}
      {v w : ListView T A} → ((s : S) (x : T) (b : Bool) (t : S) → I s → R s x b t → (b ≡ test x)
      × I t) → I s → IsRetained R s v w → w.items ≡ filter test v.items
  retained_filter_keeping I test {s} {v} says i h =
      h.items ∙ kept h.flags v.items s h.last i h.count h.calls
    where
      kept : (flags : List Bool) (xs : List T) (s t : S) → I s → length flags ≡ length xs
          → ReturnsInTurn R s flags xs t → items_where_true flags xs ≡ filter test xs
      kept [] [] s t i n calls = refl
      kept [] (x ∷ xs) s t i n calls = absurd (omega (arith, n))
      kept (b ∷ flags) [] s t i n calls = absurd (omega (arith, n))
      kept (true ∷ flags) (x ∷ xs) s t i n calls =
          let one = says s x true calls.0 i calls.1 in
          rw (← one.0) (ap (λ l. x ∷ l)
          (kept flags xs calls.0 t one.1 (omega (arith, n)) calls.2))
      kept (false ∷ flags) (x ∷ xs) s t i n calls =
          let one = says s x false calls.0 i calls.1 in
          rw (← one.0) (kept flags xs calls.0 t one.1 (omega (arith, n)) calls.2)

  -- The contract of `retain` says what that of `retain_mut` says of a closure that writes nothing.
  pub retained_mut : {A : Type 0} {s : S} {v w : ListView T A} → IsRetained R s v w
      → IsRetainedMut (λ s x b t y. R s x b t × (y ≡ x)) s v w
  retained_mut {s = s} {v} {w} h = record {
    flags = h.flags;
    calls = rw h.items (keeps h.flags v.items s h.last h.count h.calls);
    cost = h.cost;
  }
    where
      first : (b : Bool) (flags : List Bool) (x : T) (xs : List T)
          → items_where_true (b ∷ flags) (x ∷ xs)
          ≡ cond b (x ∷ items_where_true flags xs) (items_where_true flags xs)
      first true flags x xs = refl
      first false flags x xs = refl

      keeps : (flags : List Bool) (xs : List T) (s t : S) → length flags ≡ length xs
          → ReturnsInTurn R s flags xs t
          → KeepsInTurn (λ s x b t y. R s x b t × (y ≡ x)) s xs flags (items_where_true flags xs)
      keeps [] [] s t n h = (refl, refl)
      keeps [] (x ∷ xs) s t n h = absurd (omega (arith, n))
      keeps (b ∷ flags) [] s t n h = absurd (omega (arith, n))
      keeps (b ∷ flags) (x ∷ xs) s t n h = (
        b,
        h.0,
        x,
        (h.1, refl),
        flags,
        items_where_true flags xs,
        keeps flags xs h.0 t (omega (arith, n)) h.2,
        refl,
        first b flags x xs,
      )
