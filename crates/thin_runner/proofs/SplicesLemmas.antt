-- Lemmas for `Replaces` and `StopsBetween`. A call to `extend` is a splice at the end of the list.
use Rattle.std.proofs.Common.{◌≡◌, ◌≤◌, ℕ, ◌-◌, ◌*◌, ◌<◌, List, [], ◌∷◌, ◌++◌, None, Option, Some, ap, append_assoc, arith, drop, inl, inr, length, refl, subst, sym, take, ◌∙◌}
use Rattle.std.proofs.lemmas.Bool.{false≢true}
use Rattle.std.proofs.Math.Seq.{drop-length, take-length}
use Rattle.std.proofs.lemmas.List.{append-nil, length-drop, take-append-drop}
use Rattle.std.specs.Iterator.{Count, at_most, size}
use Rattle.std.specs.Iterator.SizeHint.{IsWithinCount}
use Rattle.std.specs.Borrow.{RattleType}
use Rattle.std.specs.declared.iter.Iterator.{can_next-default}
use Rattle.std.specs.Option.{option_to_list}
use Rattle.std.specs.Prelude.{◌⊎◌, IsSome, MatchOption}
use Rattle.thin_vec.specs.List.Extend.{CostsInserting, IsAfterExtend}
use Rattle.thin_vec.specs.List.Capacity.{PreservesList}
use Rattle.thin_vec.specs.Edits.Splice.{IsAfterSplice, SpliceErrorAccountsFor}
use Rattle.thin_vec.specs.declared.SpliceRefused.{SpliceRefused}
use Rattle.thin_vec.specs.Growth.{GrowthRule}
use Rattle.thin_vec.specs.ThinVec.{HasRoomFor, ListView}
use Rattle.thin_vec.specs.declared.ThinVecError.{ThinVecError}
use Rattle.thin_runner.specs.Hinted.{HintedSteps, hinted_claim, hinted_count, hinted_items}
use Rattle.thin_runner.specs.commands.Splices.{Replaces, SplicesCapacity, StopsBetween, without_range}
use Rattle.thin_runner.specs.declared.hinted.Hinted.{Hinted}
use Rattle.thin_runner.proofs.HintedLemmas.{yields-claim, yields-items}

some-none : {T : Type 0} {x : T} → Some x ≡ None → ⊥
some-none e = cc

pub at-some-in-hand : {X : Type 0} (P Q : Type 0) (o : Option X) → MatchOption o P (λ _. Q)
    → IsSome o → Q
at-some-in-hand P Q (Some x) q some = q
at-some-in-hand P Q None p some = absurd (false≢true some)

pub at-no-in-hand : {X : Type 0} (P Q : Type 0) (o : Option X) → MatchOption o P (λ _. Q)
    → o ≡ None → P
at-no-in-hand P Q (Some x) q none = absurd (some-none none)
at-no-in-hand P Q None p none = p

no-items : {T : Type 0} (xs : List T) → length xs ≡ 0 → xs ≡ []
no-items [] none = refl
no-items (x ∷ xs) none = absurd (omega (arith, none))

module _ {T A : Type 0} (s : Hinted T A) (placed : List T)
    (error : SpliceRefused T (Hinted T A) A) where
  -- `finish` failed with `error`, after it had moved the items `placed` from `s` into the list.
  abbrev pub Broke : Type 0
  Broke = SpliceErrorAccountsFor (HintedSteps {T = T} {A = A})
      (can_next-default (Hinted T A) T) hinted_count s
      placed error

  pub stopped-items : Broke → hinted_items s ≡ placed
      ++ (error.held.items ++ (option_to_list error.in_hand ++ hinted_items error.rest))
  stopped-items (inl gave) =
      let held = error.held.items in let one = option_to_list error.in_hand in
      let rest = error.rest in
      yields-items s rest ((placed ++ held) ++ one) gave.0.gave
      ∙ (append_assoc (placed ++ held) one (hinted_items rest)
      ∙ append_assoc placed held (one ++ hinted_items rest))
  stopped-items (inr ended) =
      let held = error.held.items in let in_hand = error.in_hand in let rest = error.rest in
      let left : option_to_list in_hand ++ hinted_items rest ≡ [] =
      ap (λ (o : Option T). option_to_list o ++ hinted_items rest) ended.0 ∙ ended.2.2.0.1 in
      yields-items s ended.2.0 (placed ++ held) ended.2.1
      ∙ (ap (λ (l : List T). (placed ++ held) ++ l) (ended.2.2.0.0 ∙ sym left)
      ∙ append_assoc placed held (option_to_list in_hand ++ hinted_items rest))

  pub stopped-claim : Broke → hinted_claim error.rest ≡ hinted_claim s
  stopped-claim (inl gave) =
      yields-claim s error.rest ((placed ++ error.held.items) ++ option_to_list error.in_hand)
      gave.0.gave
  stopped-claim (inr ended) =
      ended.2.2.1 ∙ yields-claim s ended.2.0 (placed ++ error.held.items) ended.2.1

  pub stopped-ended : Broke → error.in_hand ≡ None → 0 < length error.held.items
      → hinted_items error.rest ≡ []
  stopped-ended (inl gave) none some = absurd (omega (arith, ap length (gave.1 none), some))
  stopped-ended (inr ended) none some = ended.2.2.0.1

-- These lemmas are about the items `tail` after a range that ends at index `b` of the items `xs`.
module _ {T : Type 0} (xs tail : List T) (b : ℕ) (is : tail ≡ drop b xs) where
  pub tail-count : length tail ≡ length xs - b
  tail-count = ap length is ∙ length-drop b xs

  pub some-tail : b < length xs → 0 < length tail
  some-tail more = omega (arith, tail-count, more)

  pub no-tail : b ≡ length xs → tail ≡ []
  no-tail all = no-items tail (omega (arith, tail-count, all))

module _ {T A : Type 0} {rule : GrowthRule} {R : RattleType} {tail : List T} {k : ℕ}
    {v w : ListView T A} {limit : Count} where
  -- A call to `extend` is like a splice at the end of the list.
  pub extends-splices : tail ≡ [] → (HasRoomFor v (size limit) → w.capacity ≡ v.capacity)
      → (h : ℕ) × IsWithinCount h limit × IsAfterExtend rule R v h w
      → SplicesCapacity rule R tail k v w limit
  extends-splices none room grew = record {
    had_room = room;
    at_end = λ _. grew;
    before_tail = λ some. absurd (omega (arith, some, ap length none));
  }

  pub finishes-splices : (HasRoomFor v (size limit)
      → (w.capacity ≡ v.capacity) × (w.cost.blocks ≡ v.cost.blocks))
      → (tail ≡ [] → (h : ℕ) × IsWithinCount h limit × IsAfterExtend rule R v h w)
      → (0 < length tail → (h : ℕ) × IsAfterSplice rule R k (length tail) v h w limit)
      → SplicesCapacity rule R tail k v w limit
  finishes-splices room at_end before_tail = record {
    had_room = λ fit. (room fit).0;
    at_end = at_end;
    before_tail = before_tail;
  }

module _ {T A : Type 0} {rule : GrowthRule} {R : RattleType} {old : ListView T A} {a b : ℕ} where
  -- The clauses of `extend` and `finish` speak of a list `v` that is `old` without the range
  -- `a..b`.
  pub replaces : {new v : ListView T A} {placed tail : List T} {left : Count} {most extra k : ℕ}
      → new.items ≡ (take a old.items ++ placed) ++ drop b old.items
      → SplicesCapacity rule R tail k v new left
      → CostsInserting extra v new → PreservesList R v new → v ≡ without_range old a b
      → left ≡ at_most most
      → extra ≡ 2 * (length old.items - b) → tail ≡ drop b old.items → k ≡ b - a
      → Replaces rule R old a b placed most new
  replaces {new} {v} {placed} {tail} {left} {most} {extra} {k} items grows cost keeps same count double
      after width =
      record {
        items = items;
        capacity = subst (λ (q : ℕ). SplicesCapacity rule R (drop b old.items) q
            (without_range old a b) new (at_most most)) width
            (subst (λ (l : List T). SplicesCapacity rule R l k (without_range old a b) new
            (at_most most)) after
            (subst (λ (u : ListView T A). SplicesCapacity rule R tail k u new (at_most most)) same
            (subst (λ (n : Count). SplicesCapacity rule R tail k v new n) count grows)));
        cost = subst (λ (u : ListView T A). CostsInserting (2 * (length old.items - b)) u new) same
            (subst (λ (n : ℕ). CostsInserting n v new) double cost);
        keeps = subst (λ (u : ListView T A). PreservesList R u new) same keeps;
      }

  pub replaces-of : {v w : ListView T A} {placed : List T} {most : ℕ} → v ≡ w
      → Replaces rule R old a b placed most v → Replaces rule R old a b placed most w
  replaces-of {placed = placed} {most} same =
      subst (λ (u : ListView T A). Replaces rule R old a b placed most u) same

  pub stops-of : {v w : ListView T A} {xs held : List T} {lower : ℕ} {cause : ThinVecError}
      {in_hand : Option T} {rest : Hinted T A} → v ≡ w
      → StopsBetween rule R old a b xs held lower cause in_hand rest v
      → StopsBetween rule R old a b xs held lower cause in_hand rest w
  stops-of {xs = xs} {held} {lower} {cause} {in_hand} {rest} same =
      subst (λ (u : ListView T A). StopsBetween rule R old a b xs held lower cause in_hand rest u)
      same

-- These lemmas are about the empty range at the end of a list.
module _ {T A : Type 0} (old : ListView T A) where
  pub without_range-end : without_range old (length old.items) (length old.items) ≡ old
  without_range-end = λ i. record old { items = take-append-drop (length old.items) old.items i }

  pub places-end : (P : Type 0) (most : ℕ) → (most ≡ 0 → P) → (HasRoomFor old most → P)
      → (most ≤ length old.items - length old.items) ⊎ ((length old.items ≡ length old.items)
      × HasRoomFor (without_range old (length old.items) (length old.items)) most) → P
  places-end P most none fits (inl few) = none (omega (arith, few))
  places-end P most none fits (inr room) =
      fits (subst (λ (v : ListView T A). HasRoomFor v most) without_range-end room.1)

pub at-end : {T : Type 0} (xs ys : List T)
    → (take (length xs) xs ++ ys) ++ drop (length xs) xs ≡ xs ++ ys
at-end xs ys =
    (λ i. (take-length xs i ++ ys) ++ drop-length xs i) ∙ append-nil (xs ++ ys)
