-- A call of `retain` whose closure always returns true changes neither the items nor the cost.
use Rattle.std.proofs.Common.{◌≡◌, Bool, true, List, [], ◌∷◌, ap, arith, length, refl, sym, ◌∙◌}
use Rattle.std.proofs.lemmas.List.{nil_from_length}
use Rattle.std.specs.List.{items_where_true}
use Rattle.std.specs.List.Retain.{ReturnsInTurn}
use Rattle.thin_vec.specs.Cost.{add_moves}
use Rattle.thin_vec.proofs.RetainLemmas.{moving-none}
use Rattle.thin_vec.specs.Edits.Retain.{IsRetained, moves_of_retain}
use Rattle.thin_vec.specs.ThinVec.{ListView}

module _ {S T : Type 0} (R : S → T → Bool → S → Type 0)
    (always : (s : S) (x : T) (b : Bool) (t : S) → R s x b t → b ≡ true) where
  all-kept : (flags : List Bool) (xs : List T) (s t : S) → length flags ≡ length xs
      → ReturnsInTurn R s flags xs t
      → (items_where_true flags xs ≡ xs) × (moves_of_retain flags ≡ 0)
  all-kept [] xs s t n h = (sym (nil_from_length xs (sym n)), refl)
  all-kept (b ∷ flags) [] s t n h = absurd (omega (arith, n))
  all-kept (b ∷ flags) (x ∷ xs) s t n h =
      let more = all-kept flags xs h.0 t (omega (arith, n)) h.2 in
      rw (always s x b h.0 h.1) (ap (λ l. x ∷ l) more.0, more.1)

  -- The list keeps its items.
  pub keeps-items : {A : Type 0} (s : S) (v w : ListView T A) → IsRetained R s v w
      → w.items ≡ v.items
  keeps-items s v w r = r.items ∙ (all-kept r.flags v.items s r.last r.count r.calls).0

  -- No item is moved.
  pub keeps-cost : {A : Type 0} (s : S) (v w : ListView T A) → IsRetained R s v w
      → w.cost ≡ v.cost
  keeps-cost s v w r =
      r.cost
      ∙ (ap (λ m. add_moves m v.cost) (all-kept r.flags v.items s r.last r.count r.calls).1
      ∙ moving-none v.cost)
