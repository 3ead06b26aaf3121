-- The closure halves the later number, and compares it with the number that was kept before. So the
-- list keeps what `dedup` keeps of the list of all halves.
use Rattle.std.proofs.Common.{◌≡◌, ◌/◌, Bool, true, false, List, [], ◌∷◌, ap, map, refl, rules, slice_index_or, slice_set, subst, ◌∙◌}
use Rattle.std.specs.List.{dedup, dedup_from}
use Rattle.std.specs.List.Retain.{DedupsFrom, DedupsAll}
use Rattle.std.specs.Prelude.{◌==◌, MatchBool, cond}
use Rattle.thin_vec.proofs.EditLemmas.{deduped_deduped}
use Rattle.thin_vec.specs.Edits.Dedup.{IsDedupedBy}
use Rattle.thin_vec.specs.ThinVec.{ListView}
use Rattle.thin_examples.proofs.remove.keep_halves.Goals as goal

-- The relation `R` describes the calls of the closure. This module assumes that each call for a
-- later item `x` and a kept item `k` replaces `x` with `f x`, does not change `k`, and returns
-- `same (f x) k`.
module _ {S T : Type 0} (R : S → T → T → Bool → S → T → T → Type 0) (f : T → T)
    (same : T → T → Bool)
    (says : (s : S) (x k : T) (b : Bool) (t : S) (x' k' : T) → R s x k b t x' k'
    → (b ≡ same (f x) k) × (x' ≡ f x) × (k' ≡ k)) where
  -- `Kept k xs zs` holds if `zs` is the list `k ∷ map f xs` without repeated items. An item is
  -- repeated if `same` returns true for this item and the last item that was kept before it.
  abbrev Kept : T → List T → List T → Type 0
  Kept k xs zs = zs ≡ dedup_from same k (map f xs)

  -- One step in the proof of `kept_from`: `Kept k (x ∷ xs) zs` follows from `Kept` for the
  -- remaining items `xs`. The closure changes `x` to `x'` and the last kept item `k` to `k'`, and
  -- returns `b`.
  one : (b : Bool) (x k x' k' : T) (xs zs : List T) → b ≡ same (f x) k → x' ≡ f x → k' ≡ k
      → MatchBool b (Kept k' xs zs) ((ys : List T) × Kept x' xs ys × (zs ≡ k' ∷ ys))
      → Kept k (x ∷ xs) zs
  one true x k x' k' xs zs b-is x-is k-is m = m
      ∙ (ap (λ y. dedup_from same y (map f xs)) k-is
      ∙ ap (λ c. cond c (dedup_from same k (map f xs)) (k ∷ dedup_from same (f x) (map f xs)))
      b-is)
  one false x k x' k' xs zs b-is x-is k-is m = m.2
      ∙ ((λ i. k-is i ∷ (m.1 ∙ ap (λ y. dedup_from same y (map f xs)) x-is) i)
      ∙ ap (λ c. cond c (dedup_from same k (map f xs)) (k ∷ dedup_from same (f x) (map f xs)))
      b-is)

  -- If `k` is the last kept item, and `dedup_by` turns the list `k ∷ xs` into `zs`, then `zs` is
  -- `k ∷ map f xs` without repeated items.
  kept_from : (xs : List T) (s : S) (k : T) (zs : List T) → DedupsFrom R s k xs zs → Kept k xs zs
  kept_from [] s k zs h = h
  kept_from (x ∷ xs) s k zs h =
      let says_one = says s x k h.0 h.1 h.2 h.3 h.4 in
      one h.0 x k h.2 h.3 xs zs says_one.0 says_one.1 says_one.2
      ((elim h.0 as (λ b.
      MatchBool b (DedupsFrom R h.1 h.3 xs zs)
      ((ys : List T) × DedupsFrom R h.1 h.2 xs ys × (zs ≡ h.3 ∷ ys))
      → MatchBool b (Kept h.3 xs zs) ((ys : List T) × Kept h.2 xs ys × (zs ≡ h.3 ∷ ys))) [
        | true ↦ λ m. kept_from xs h.1 h.3 zs m
        | false ↦ λ m. (m.0, kept_from xs h.1 h.2 m.0 m.1, m.2)
      ]) h.5)

  -- The closure applies `f` to each item except the first, `x`. Suppose that the items of the list
  -- `v` are `xs` with `f x` in place of `x`, and that `dedup_by` turns `v` into the list `w`. Then
  -- the items of `w` are `dedup same (map f xs)`, as if `f` had been applied to every item before
  -- the call. (If `xs` is empty, `x` does not matter.)
  deduped_mapped : {A : Type 0} {s : S} {v w : ListView T A} (xs : List T) (x : T)
      → x ≡ slice_index_or xs 0 x → v.items ≡ slice_set xs 0 (f x) → IsDedupedBy R s v w
      → w.items ≡ dedup same (map f xs)
  deduped_mapped {s = s} {v} {w} [] x first is h =
      subst (λ l. DedupsAll R s l w.items) is (deduped_deduped R s v w h).told
  deduped_mapped {s = s} {v} {w} (y ∷ ys) x first is h =
      kept_from ys s (f x) w.items
      (subst (λ l. DedupsAll R s l w.items) is (deduped_deduped R s v w h).told)
      ∙ ap (λ z. dedup_from same (f z) (map f ys)) first

pub returns-clause-items : goal.returns-clause-items
returns-clause-items g c = deduped_mapped _ (λ number. number / 2) (λ later kept. later == kept)
    (λ s x k b t x' k' call. search rules) c.args.list.now.items c.index_mut.result.now
    c.index_mut.ensures.value refl c.dedup_by.ensures.deduped
