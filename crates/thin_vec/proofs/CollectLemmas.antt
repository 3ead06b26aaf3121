-- These lemmas are for the proofs of other crates. They say which items the lists have that std's
-- `collect`, `partition`, `unzip` and `try_collect` make, and begin with the clause `ran` of the
-- call. Those that std has for a `Vec` have its names and its arguments; `R`, the item type, is one
-- more in front, for which an answer writes `_`. (Of `partition`, `unzip` and `try_collect`, the
-- clauses `runs` and `bound` say nothing of the items of a `ThinVec`: they presume that to collect
-- all items costs as much as to collect all but one, and then to add this one.)
use Rattle.std.proofs.Common.{◌≡◌, ℕ, Bool, true, false, ap, length, Option, Result, Ok, Err, None, IfOk, refl, subst, sym, ◌∙◌, List, ◌++◌, [], ◌∷◌, append_assoc, append-nil, map-id}
use Rattle.std.proofs.lemmas.Iterator.{YieldsList, items_from_drains, maps}
use Rattle.std.proofs.lemmas.List.{length-map, map-append}
use Rattle.std.specs.Bool.{MatchBool}
use Rattle.std.specs.Borrow.{RattleType}
use Rattle.std.specs.Fn.{Called, CalledAt}
use Rattle.std.specs.Iterator.{AlwaysYields, Drains, DrainsIf, Partitions, TryCollects, Unzips, Yields}
use Rattle.std.specs.Iterator.Adapters.{map_callee, map_source}
use Rattle.std.specs.List.{AllZip, FoldsTo, filter}
use Rattle.std.specs.Prelude.{cond, map, not, ⊤}
use Rattle.thin_block.specs.Growth.{doubling}
use Rattle.thin_vec.specs.List.Extend.{ExtendsList, IsCollectedFrom}
use Rattle.thin_vec.specs.ThinVec.{ListView}
use denote.Param.Members.{Mut}
use denote.Ref.{Bor}

module _ {S T B A E : Type 0} {steps : S → Option T → S → Type 0} {v : T → B} {s : S} {all : List B}
    (R : RattleType) where
  -- After a `collect`, the items are those that the iterator yielded, as `v` reads them. For
  -- references, `v` is `λ x. x.now`.
  pub map_from_collect : (r : Result (ListView T A) E)
      → IfOk r (λ w. (xs : List T) × DrainsIf steps ⊤ s xs × IsCollectedFrom R xs w)
      → YieldsList steps v s all → IfOk r (λ w. map v w.items ≡ all)
  map_from_collect (Ok w) ran yields =
      ap (map v) ran.2.0 ∙ items_from_drains ran.0 ran.1 yields
  map_from_collect (Err e) ran yields = tt

  -- After a `collect`, there are as many items as the iterator yielded.
  pub length_from_collect : (r : Result (ListView T A) E) (n : ℕ)
      → IfOk r (λ w. (xs : List T) × DrainsIf steps ⊤ s xs × IsCollectedFrom R xs w)
      → YieldsList steps v s all → length all ≡ n → IfOk r (λ w. length w.items ≡ n)
  length_from_collect (Ok w) n ran yields count =
      ran.2.1 ∙ (sym (length-map ran.0 v)
      ∙ (ap length (items_from_drains ran.0 ran.1 yields) ∙ count))
  length_from_collect (Err e) n ran yields count = tt

drained : {S T B : Type 0} {steps : S → Option T → S → Type 0} {v : T → B} {s : S} {all : List B}
    (xs : List T) → Drains steps s xs → YieldsList steps v s all → map v xs ≡ all
drained xs d yields = items_from_drains xs (d.1.0, d.1.1, λ _. (d.0, d.1.2)) yields

-- In this module, `seen w` is what `v` reads of the items of a list. The closure `f` answers as
-- `test` does, and stays the same.
module _ {T B F : Type 0} (A : Type 0) (R : RattleType) (v : T → B)
    (g : Mut F (Bor T × Unit {0}) Bool) (test : B → Bool) (f : F)
    (k : (x : T) (b : Bool) (q : F) → CalledAt g f x b q → (q ≡ f) × (b ≡ test (v x))) where
  abbrev seen : ListView T A → List B
  seen w = map v w.items

  abbrev Adds : ListView T A → T → ListView T A → Type 0
  Adds u x w = ExtendsList doubling R u (x ∷ []) w

  abbrev Sorts : F × (ListView T A × ListView T A) → T → F × (ListView T A × ListView T A) → Type 0
  Sorts p x q = (b : Bool) × CalledAt g p.0 x b q.0
      × MatchBool b (Adds p.1.0 x q.1.0 × (q.1.1 ≡ p.1.1)) (Adds p.1.1 x q.1.1 × (q.1.0 ≡ p.1.0))

  grown : (u w : ListView T A) (x : T) (ys : List B) → Adds u x w
      → seen w ++ ys ≡ seen u ++ (v x ∷ ys)
  grown u w x ys h = ap (λ l. map v l ++ ys) h.0
      ∙ (ap (λ l. l ++ ys) (map-append v u.items (x ∷ [])) ∙ append_assoc (seen u) (v x ∷ []) ys)

  placed : (b : Bool) (p q : ListView T A × ListView T A) (x : T) (ys zs : List B)
      → MatchBool b (Adds p.0 x q.0 × (q.1 ≡ p.1)) (Adds p.1 x q.1 × (q.0 ≡ p.0))
      → (seen q.0 ++ ys ≡ seen p.0 ++ cond b (v x ∷ ys) ys)
      × (seen q.1 ++ zs ≡ seen p.1 ++ cond (not b) (v x ∷ zs) zs)
  placed true p q x ys zs h = (grown p.0 q.0 x ys h.0, ap (λ u. seen u ++ zs) h.1)
  placed false p q x ys zs h = (ap (λ u. seen u ++ ys) h.1, grown p.1 q.1 x zs h.0)

  sorted : (xs : List T) (p q : F × (ListView T A × ListView T A)) → p.0 ≡ f → FoldsTo Sorts p xs q
      → (seen q.1.0 ≡ seen p.1.0 ++ filter test (map v xs))
      × (seen q.1.1 ≡ seen p.1.1 ++ filter (λ y. not (test y)) (map v xs))
  sorted [] p q same c = (
    ap (λ w. seen w.1.0) (sym c) ∙ sym (append-nil _),
    ap (λ w. seen w.1.1) (sym c) ∙ sym (append-nil _),
  )
  sorted (x ∷ xs) p q same c =
      let yes = filter test (map v xs) in
      let no = filter (λ y. not (test y)) (map v xs) in
      let answer = k x c.1.0 c.0.0 (subst (λ w. CalledAt g w x c.1.0 c.0.0) same c.1.1) in
      let rest = sorted xs c.0 q answer.0 c.2 in
      let here = placed c.1.0 p.1 c.0.1 x yes no c.1.2 in (
        rest.0 ∙ (here.0 ∙ ap (λ b. seen p.1.0 ++ cond b (v x ∷ yes) yes) answer.1),
        rest.1 ∙ (here.1 ∙ ap (λ b. seen p.1.1 ++ cond (not b) (v x ∷ no) no) answer.1),
      )

-- After a `partition`, the first list has the items for which `test` is true, and the second list
-- has the others, as `v` reads them.
pub parts_from_yields_List : {S T B F A E : Type 0} {steps : S → Option T → S → Type 0} {v : T → B}
    {s : S} {all : List B} (R : RattleType) (g : Mut F (Bor T × Unit {0}) Bool) (test : B → Bool)
    {f : F} (r : Result (ListView T A × ListView T A) E)
    → IfOk r (Partitions steps g (IsCollectedFrom R) (ExtendsList doubling R) s f)
    → YieldsList steps v s all
    → ((x : T) (b : Bool) (q : F) → CalledAt g f x b q → (q ≡ f) × (b ≡ test (v x)))
    → IfOk r (λ w. (map v w.0.items ≡ filter test all)
    × (map v w.1.items ≡ filter (λ y. not (test y)) all))
parts_from_yields_List {A = A} {v = v} R g test {f} (Ok w) ran yields k =
    let parts = sorted A R v g test f k ran.0 (f, (ran.1, ran.2)) (ran.3, (w.0, w.1)) refl ran.7 in
    let same = drained ran.0 ran.4 yields in (
      parts.0 ∙ (ap (λ l. map v l ++ filter test (map v ran.0)) ran.5.0 ∙ ap (filter test) same),
      parts.1 ∙ (ap (λ l. map v l ++ filter (λ y. not (test y)) (map v ran.0)) ran.6.0
          ∙ ap (filter (λ y. not (test y))) same),
    )
parts_from_yields_List R g test (Err e) ran yields k = tt

-- If `v` is `λ x. x`, `parts_from_yields_List` is about the items themselves.
pub items_from_parts : {T U A E : Type 0} (r : Result (ListView T A × ListView U A) E)
    (xs : List T) (ys : List U)
    → IfOk r (λ w. (map (λ x. x) w.0.items ≡ xs) × (map (λ y. y) w.1.items ≡ ys))
    → IfOk r (λ w. (w.0.items ≡ xs) × (w.1.items ≡ ys))
items_from_parts (Ok w) xs ys parts = (sym (map-id _) ∙ parts.0, sym (map-id _) ∙ parts.1)
items_from_parts (Err e) xs ys parts = tt

module _ {T U A : Type 0} (R Q : RattleType) where
  abbrev AddsBoth : ListView T A × ListView U A → T × U → ListView T A × ListView U A → Type 0
  AddsBoth p x q = ExtendsList doubling R p.0 (x.0 ∷ []) q.0
      × ExtendsList doubling Q p.1 (x.1 ∷ []) q.1

  halved : (xs : List (T × U)) (p q : ListView T A × ListView U A) → FoldsTo AddsBoth p xs q
      → (q.0.items ≡ p.0.items ++ map (λ x. x.0) xs) × (q.1.items ≡ p.1.items ++ map (λ x. x.1) xs)
  halved [] p q c = (
    ap (λ w. w.0.items) (sym c) ∙ sym (append-nil _),
    ap (λ w. w.1.items) (sym c) ∙ sym (append-nil _),
  )
  halved (x ∷ xs) p q c =
      let rest = halved xs c.0 q c.2 in (
        rest.0 ∙ (ap (λ l. l ++ map (λ y. y.0) xs) c.1.0.0 ∙ append_assoc p.0.items (x.0 ∷ []) _),
        rest.1 ∙ (ap (λ l. l ++ map (λ y. y.1) xs) c.1.1.0 ∙ append_assoc p.1.items (x.1 ∷ []) _),
      )

-- After an `unzip`, the first list has the first fields of the pairs that the iterator yielded, and
-- the second list has the second fields. `R` and `Q` are the item types.
pub items_from_unzip : {S T U A E : Type 0} {steps : S → Option (T × U) → S → Type 0} {s : S}
    {all : List (T × U)} (R Q : RattleType) (r : Result (ListView T A × ListView U A) E)
    → IfOk r (Unzips steps (IsCollectedFrom R) (ExtendsList doubling R) (IsCollectedFrom Q)
    (ExtendsList doubling Q) s)
    → YieldsList steps (λ x. x) s all
    → IfOk r (λ w. (w.0.items ≡ map (λ x. x.0) all) × (w.1.items ≡ map (λ x. x.1) all))
items_from_unzip R Q (Ok w) ran yields =
    let halves = halved R Q ran.0 (ran.1, ran.2) (w.0, w.1) ran.6 in
    let same = sym (map-id ran.0) ∙ drained ran.0 ran.3 yields in (
      halves.0 ∙ (ap (λ l. l ++ map (λ x. x.0) ran.0) ran.4.0 ∙ ap (map (λ x. x.0)) same),
      halves.1 ∙ (ap (λ l. l ++ map (λ x. x.1) ran.0) ran.5.0 ∙ ap (map (λ x. x.1)) same),
    )
items_from_unzip R Q (Err e) ran yields = tt

module _ {X E : Type 0} (A : Type 0) (R : RattleType) where
  abbrev AddsOk : ListView X A → Result X E → ListView X A → Type 0
  AddsOk u x w = (y : X) × (Ok y ≡ x) × ExtendsList doubling R u (y ∷ []) w

  all_ok : (xs : List (Result X E)) (u w : ListView X A) → FoldsTo AddsOk u xs w
      → (ys : List X) × (w.items ≡ u.items ++ ys) × (xs ≡ map Ok ys)
  all_ok [] u w c = ([], ap (λ l. l.items) (sym c) ∙ sym (append-nil _), refl)
  all_ok (x ∷ xs) u w c =
      let rest = all_ok xs c.0 w c.2 in (
        c.1.0 ∷ rest.0,
        rest.1 ∙ (ap (λ l. l ++ rest.0) c.1.2.0 ∙ append_assoc u.items (c.1.0 ∷ []) rest.0),
        ap (λ z. z ∷ xs) (sym c.1.1) ∙ ap (λ l. Ok c.1.0 ∷ l) rest.2,
      )

-- In this module, `Reads` relates whatever the closure `f` returns in an `Ok` to what it was given.
module _ {S T B X E F : Type 0} (steps : S → Option T → S → Type 0) (v : T → B)
    (g : Mut F (T × Unit {0}) (Result X E)) (Reads : B → X → Type 0) (f : F)
    (k : (x : T) (y : X) (q : F) → Called g f (x, tt) (Ok y) q → (q ≡ f) × Reads (v x) y) where
  zipped : (ys : List X) (all : List B) (s t u : _) → map_callee s ≡ f
      → AlwaysYields steps v (map_source s) all → Yields (maps steps g) s (map Ok ys) t
      → maps steps g t None u → AllZip Reads all ys
  zipped [] [] s t u same yields is end = tt
  zipped [] (b ∷ all) s t u same yields is end = absurd (yields.0 (map_source u)
      (subst (λ j. steps (map_source j) None (map_source u)) (sym is) end.0))
  zipped (y ∷ ys) [] s t u same yields c end = absurd (yields c.1.0 (map_source c.0) c.1.1)
  zipped (y ∷ ys) (b ∷ all) s t u same yields c end =
      let next = yields.1 c.1.0 (map_source c.0) c.1.1 in
      let called = subst (λ w. Called g w (c.1.0, tt) (Ok y) (map_callee c.0)) same c.1.2 in
      let answer = k c.1.0 y (map_callee c.0) called in
      (subst (λ z. Reads z y) next.0 answer.1, zipped ys all c.0 t u answer.0 next.1 c.2 end)

-- After a `try_collect` that follows a `map`, `Reads` relates each item of the source, as `v` reads
-- it, to the item of the list that was made of it, if it relates each argument of the closure to
-- what the closure returns for it in an `Ok`.
pub zip_from_try_collect : {S T B X A E F D : Type 0} {steps : S → Option T → S → Type 0}
    {v : T → B} {all : List B} {s : _} (R : RattleType)
    (g : Mut F (T × Unit {0}) (Result X E)) (Reads : B → X → Type 0) {f : F}
    (r : Result (ListView X A) D)
    → IfOk r (TryCollects (maps steps g) (λ x y. y ≡ x) (IsCollectedFrom R)
    (ExtendsList doubling R) s)
    → YieldsList steps v (map_source s) all → map_callee s ≡ f
    → ((x : T) (y : X) (q : F) → Called g f (x, tt) (Ok y) q → (q ≡ f) × Reads (v x) y)
    → IfOk r (λ w. AllZip Reads all w.items)
zip_from_try_collect {A = A} {steps = steps} {v} {all} {s} R g Reads {f} (Ok w) ran yields same k =
    let read = all_ok A R ran.0 ran.1 w ran.4 in
    let items : w.items ≡ read.0 = read.1 ∙ ap (λ l. l ++ read.0) ran.3.0 in
    let taken = subst (λ l. Yields (maps steps g) s l ran.2.1.0) read.2 ran.2.1.1 in
    subst (AllZip Reads all) (sym items)
    (zipped steps v g Reads f k read.0 all s ran.2.1.0 ran.2.0 same yields.runs taken ran.2.1.2)
zip_from_try_collect R g Reads (Err e) ran yields same k = tt
