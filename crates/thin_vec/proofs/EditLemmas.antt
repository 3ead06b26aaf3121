-- Lemmas about calls to `dedup_by`, `dedup_by_key` and `extract_if`. Most of them require that the
-- closure changes no item.
use Rattle.std.proofs.Common.{◌≡◌, Bool, true, false, List, [], ◌∷◌, refl, ◌∙◌}
use Rattle.std.proofs.lemmas.Fn.{dedup_same}
use Rattle.std.specs.List.{dedup}
use Rattle.std.specs.List.Retain.{DedupsFrom, DedupsAll, IsDeduped}
use Rattle.std.specs.Prelude.{cond, filter, not}
use Rattle.thin_vec.specs.Edits.Dedup.{TestsEachAgainstLast, TestsAllAgainstLast, IsDedupedBy}
use Rattle.thin_vec.specs.Edits.ExtractIf.{ExtractsInTurn}
use Rattle.thin_vec.specs.ThinVec.{ListView}
use Rattle.thin_vec.proofs.open_block.PairTestLemmas.{map-answer}

-- The following lemmas are about `dedup_by` and `dedup_by_key`.

-- In this module, `R` describes the calls to a closure that compares two items. `R` has seven
-- arguments: the state of the closure before the call, the two items, the result of the call, the
-- state after the call, and the two items as the call left them.
module _ {S T : Type 0} (R : S → T → T → Bool → S → T → T → Type 0) where
  dedups-from : (xs : List T) (s : S) (k : T) (removed : List Bool) (ys : List T) (t : S)
      → TestsEachAgainstLast R s k xs removed ys t → DedupsFrom R s k xs ys
  dedups-from [] s k removed ys t h = h.1
  dedups-from (x ∷ xs) s k removed ys t h = (
    h.0,
    h.3,
    h.1,
    h.2,
    h.5,
    map-answer h.0 (λ m. dedups-from xs h.3 h.2 h.4 ys t m)
        (λ m. (m.0, dedups-from xs h.3 h.1 h.4 m.0 t m.1, m.2)) h.7,
  )

  dedups-all : (xs : List T) (s : S) (removed : List Bool) (ys : List T) (t : S)
      → TestsAllAgainstLast R s xs removed ys t → DedupsAll R s xs ys
  dedups-all [] s removed ys t h = h.1
  dedups-all (x ∷ xs) s removed ys t h = dedups-from xs s x removed ys t h

  -- `IsDedupedBy` implies std's `IsDeduped`.
  pub deduped_deduped : {A : Type 0} (s : S) (v w : ListView T A) → IsDedupedBy R s v w
      → IsDeduped R s v.items w.items
  deduped_deduped s v w h =
      record { told = dedups-all v.items s h.removed w.items h.last h.calls }

  -- If each call of the closure returns `same` of the two items, and changes neither them nor its
  -- state, the call leaves what std's `dedup` leaves.
  pub deduped_dedup : {A : Type 0} (same : T → T → Bool) {s : S} {v w : ListView T A}
      → ((x y : T) (b : Bool) (t : S) (x' y' : T) → R s x y b t x' y'
      → (b ≡ same x y) × (t ≡ s) × (x' ≡ x) × (y' ≡ y))
      → IsDedupedBy R s v w → w.items ≡ dedup same v.items
  deduped_dedup same {s} {v} {w} says h =
      dedup_same R same s says v.items w.items (deduped_deduped s v w h)

-- The following lemma is about `extract_if`.

cond-not : {X : Type 0} (b : Bool) (x y : X) → cond b x y ≡ cond (not b) y x
cond-not true x y = refl
cond-not false x y = refl

-- If the closure answers by `test` alone and changes no item, the items are divided by `filter`.
module _ {S T : Type 0} (R : S → T → Bool → S → T → Type 0) (test : T → Bool)
    (says : (s : S) (x : T) (b : Bool) (t : S) (y : T) → R s x b t y → (b ≡ test x) × (y ≡ x)) where
  -- `extract_if` yields what `filter test` keeps, and leaves the others.
  pub extracts_filter : (s : S) (xs yielded kept : List T) (t : S)
      → ExtractsInTurn R s xs yielded kept t
      → (yielded ≡ filter test xs) × (kept ≡ filter (λ x. not (test x)) xs)
  extracts_filter s [] yielded kept t e = (e.0, e.1)
  extracts_filter s (x ∷ xs) yielded kept t e =
      let said = says s x e.0 e.1 e.2 e.3 in
      let on = extracts_filter e.1 xs e.4 e.5 t e.6 in (
        e.7 ∙ (λ i. cond (said.0 i) (said.1 i ∷ on.0 i) (on.0 i)),
        e.8
            ∙ (cond-not e.0 e.5 (e.2 ∷ e.5)
            ∙ (λ i. cond (not (said.0 i)) (said.1 i ∷ on.1 i) (on.1 i))),
      )
