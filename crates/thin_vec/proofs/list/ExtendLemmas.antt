-- These lemmas are for calls that append the items of an iterator to a list.
use Rattle.std.proofs.Common.{true, ◌≡◌, ℕ, ◌+◌, ◌-◌, ◌<◌, ◌≤◌, List, [], ◌∷◌, ◌++◌, length, length-append, Option, None, Some, refl, sym, ap, subst, ◌∙◌, arith, false}
use Rattle.std.proofs.lemmas.Bool.{false≢true}
use Rattle.std.proofs.lemmas.List.{map-append}
use Rattle.std.specs.Align.{type_align}
use Rattle.std.specs.Mem.{type_size}
use Rattle.std.specs.Borrow.{RattleType}
use Rattle.std.proofs.iter.runs.Made.{run, to_end}
use Rattle.std.specs.Iterator.{Count, Drains, Yields}
use Rattle.std.specs.Iterator.Runs.{SomeRun, WholeRun}
use Rattle.std.specs.declared.result.Result.{Result}
use Rattle.std.specs.declared.result.Result.TheVariants.{Ok, Err}
use Rattle.std.specs.Prelude.{OnErr, OnOk, IfErr, IsSome, MatchOption}
use Rattle.std.specs.Option.{option_to_list}
use lib.ListN.{set}
use Rattle.thin_block.specs.Block.{BlockView}
use Rattle.thin_block.specs.declared.errors.ThinVecError.{ThinVecError}
use Rattle.thin_block.specs.Cost.{add_moves}
use Rattle.thin_block.specs.Growth.{exact_capacity}
use Rattle.thin_block.specs.Slots.{filled_slots, write_slots}
use Rattle.thin_block.proofs.SlotsLemmas.{written-one}
use Rattle.thin_vec.specs.List.Extend.{YieldsAndCanContinue}
use Rattle.thin_vec.specs.ThinVec.{IsNew, ListView, capacity_after_reserve_exact}
use Rattle.thin_vec.specs.declared.errors.ExtendRefused.{ExtendRefused}
use Rattle.thin_vec.proofs.RetainLemmas.{moving-more, moving-none}
use Rattle.thin_vec.proofs.ListBlockLemmas.{length-full}

module _ {S X : Type 0} (steps : S → Option X → S → Type 0) where
  pub yields-more : (s t u : S) (xs : List X) (x : X) → Yields steps s xs t → steps t (Some x) u
      → Yields steps s (xs ++ x ∷ []) u
  yields-more s t u [] x e now = (u, subst (λ r. steps r (Some x) u) (sym e) now, λ _. u)
  yields-more s t u (y ∷ ys) x e now = (e.0, e.1, yields-more e.0 t u ys x e.2 now)

  pub yields-join : (s t u : S) (xs ys : List X) → Yields steps s xs t → Yields steps t ys u
      → Yields steps s (xs ++ ys) u
  yields-join s t u [] ys e more = subst (λ r. Yields steps r ys u) (sym e) more
  yields-join s t u (x ∷ xs) ys e more = (e.0, e.1, yields-join e.0 t u xs ys e.2 more)

  pub yields-first : (s u : S) (xs ys : List X) → Yields steps s (xs ++ ys) u
      → (t : S) × Yields steps s xs t
  yields-first s u [] ys e = (s, refl)
  yields-first s u (x ∷ xs) ys e =
      let more = yields-first e.0 u xs ys e.2 in (more.0, (e.0, e.1, more.1))

  pub run-of : (s : S) (P : List X → Type 0) → (xs : List X) × Drains steps s xs × P xs
      → WholeRun steps s (λ p. P p.items)
  run-of s P all = (run steps s all.0 true (to_end steps s all.0 all.1), refl, refl, all.2)

  pub run-of-ok : {E : Type 0} (s : S) (P : List X → Type 0) (r : Result (Unit {0}) E)
      → OnOk r ((xs : List X) × Drains steps s xs × P xs)
      → OnOk r (WholeRun steps s (λ p. P p.items))
  run-of-ok s P (Ok _) all = run-of s P all
  run-of-ok s P (Err _) all = tt

module _ {S X : Type 0} (steps : S → Option X → S → Type 0) (s : S) where
  pub run-given : (xs : List X) (o : Option X) (t : S) (P : List X → Type 0)
      → Yields steps s (xs ++ option_to_list o) t → P (xs ++ option_to_list o)
      → SomeRun steps s (λ p. P p.items)
  run-given xs o t P gave h =
      (run steps s (xs ++ option_to_list o) false (t, gave, λ e. absurd (false≢true e)), refl, h)

  -- `can` says when `next` may be called again, and `remaining` bounds how many items are left.
  pub run-given-err : {E : Type 0} (can : S → Type 0) (remaining : S → Count)
      (hand : E → Option X) (rest : E → S) (P : List X → Type 0) (r : Result (Unit {0}) E)
      → IfErr r (λ e. (xs : List X) × P xs
      × YieldsAndCanContinue steps can remaining s (xs ++ option_to_list (hand e)) (rest e))
      → IfErr r (λ e. SomeRun steps s
      (λ p. (xs : List X) × P xs × (p.items ≡ xs ++ option_to_list (hand e))))
  run-given-err can remaining hand rest P (Ok _) all = tt
  run-given-err can remaining hand rest P (Err e) all =
      run-given all.0 (hand e) (rest e)
      (λ l. (xs : List X) × P xs × (l ≡ xs ++ option_to_list (hand e)))
      all.2.gave (all.0, all.1, refl)

pub match-some : {X : Type 0} (P Q : Type 0) (o : Option X) → IsSome o → P
    → MatchOption o Q (λ _. P)
match-some P Q (Some x) some p = p
match-some P Q None some p = absurd (false≢true some)

pub full-in-hand : {T S : Type 0} (P : Type 0) (Q : ExtendRefused T S → Type 0)
    (r : Result (Unit {0}) (ExtendRefused T S)) → IfErr r (λ error. IsSome error.in_hand)
    → OnErr r P → IfErr r (λ error. MatchOption error.in_hand (Q error) (λ _. P))
full-in-hand P Q (Ok _) some at_capacity = tt
full-in-hand P Q (Err error) some at_capacity =
    match-some P (Q error) error.in_hand some at_capacity

-- With an item in hand, the list had no room for one more.
pub fails-in-hand : {T S : Type 0} (Q : ExtendRefused T S → ℕ → Type 0)
    (P : ℕ → ThinVecError → Type 0) (r : Result (Unit {0}) (ExtendRefused T S))
    → IfErr r (λ error. IsSome error.in_hand) → IfErr r (λ error. P 1 error.cause)
    → IfErr r (λ error. (k : ℕ) × MatchOption error.in_hand (Q error k) (λ _. k ≡ 1)
    × P k error.cause)
fails-in-hand Q P (Ok _) some fails = tt
fails-in-hand Q P (Err error) some fails =
    (1, match-some (1 ≡ 1) (Q error 1) error.in_hand some refl, fails)

-- A call that appends items makes the list no shorter, whether it succeeds or fails.
pub placed-longer : {T E : Type 0} (old new : List T) (r : Result (Unit {0}) E)
    (P : List T → Type 0) (Q : E → List T → Type 0)
    → OnOk r ((xs : List T) × P xs × (new ≡ old ++ xs))
    → IfErr r (λ e. (xs : List T) × (new ≡ old ++ xs) × Q e xs) → length old ≤ length new
placed-longer old new (Ok _) P Q all _ =
    omega (arith, ap length all.2, length-append old all.0)
placed-longer old new (Err e) P Q _ all =
    omega (arith, ap length all.1, length-append old all.0)

module _ {T : Type 0} where
  module _ (s s' r : List (Option T)) where
    pub written-more : (i k : ℕ) (xs : List T) (x : T) → s ≡ write_slots i (filled_slots xs) r
        → k ≡ i + length xs
        → k < length r → s' ≡ set s k (Some x) → s' ≡ write_slots i (filled_slots (xs ++ x ∷ [])) r
    written-more i k xs x e at within e' =
        let long : k ≡ i + length (filled_slots xs) = omega (arith, at, length-full xs) in
        e' ∙ (ap (λ (l : List (Option T)). set l k (Some x)) e
        ∙ (written-one i (filled_slots xs) r k (Some x) long within
        ∙ ap (λ (l : List (Option T)). write_slots i l r)
        (sym (map-append (λ (y : T). Some y) xs (x ∷ [])))))

module _ {T A : Type 0} where
  pub put-none : (v : BlockView T A) (n : ℕ) → n ≡ 0 → v ≡ record v { cost = add_moves n v.cost }
  put-none v n none = λ i. record v
      { cost = (sym (moving-none v.cost) ∙ ap (λ (k : ℕ). add_moves k v.cost) (sym none)) i }

  pub put-more : (u : BlockView T A) {v w : BlockView T A} {s : List (Option T)} (n k : ℕ)
      → k ≡ n + 1
      → w ≡ record v { slots = s; cost = add_moves 1 v.cost }
      → v ≡ record u { slots = v.slots; cost = add_moves n u.cost }
      → w ≡ record u { slots = w.slots; cost = add_moves k u.cost }
  put-more u {w = w} n k one put was = λ i. record {
    slots = w.slots;
    len = (ap (λ (z : BlockView T A). z.len) put ∙ ap (λ (z : BlockView T A). z.len) was) i;
    alloc = (ap (λ (z : BlockView T A). z.alloc) put ∙ ap (λ (z : BlockView T A). z.alloc) was) i;
    cost = (ap (λ (z : BlockView T A). z.cost) put
        ∙ (ap (λ (z : BlockView T A). add_moves 1 z.cost) was
        ∙ (moving-more 1 n u.cost ∙ ap (λ (m : ℕ). add_moves m u.cost) (sym one)))) i;
  }

pub spare-kept : {T A : Type 0} (v w : ListView T A) (xs : List T)
    → w ≡ record v { items = v.items ++ xs; cost = add_moves (length xs) v.cost }
    → w ≡ record v
    { items = w.items; cost = add_moves (length w.items - length v.items) v.cost }
spare-kept v w xs is =
    let many : length xs ≡ length w.items - length v.items =
    omega (arith, ap (λ z. length z.items) is, length-append v.items xs) in
    cc

pub exact-new : {T A : Type 0} (R : RattleType) (v : ListView T A) (a : A) (h : ℕ) → IsNew v a
    → capacity_after_reserve_exact R v h ≡ exact_capacity (type_size R) (type_align R) 0 h
exact-new R v a h new =
    let all : length v.items + h ≡ h = omega (arith, ap length new.items) in
    ap (λ (n : ℕ). exact_capacity (type_size R) (type_align R) n (length v.items + h)) new.capacity
    ∙ ap (λ (n : ℕ). exact_capacity (type_size R) (type_align R) 0 n) all
