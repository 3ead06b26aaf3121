-- The entries that a test keeps are sorted as before, and are those of the new row.
use Rattle.std.proofs.Common.{◌≡◌, ℕ, Bool, true, false, T, List, [], ◌∷◌, sym, ap, subst, ◌∙◌, nat_cmp}
use Rattle.std.specs.FinMap.{entries, entries-from_sorted, from_sorted}
use Rattle.std.specs.FinMap.Entries.{below_all}
use Rattle.std.specs.List.{items_where_true}
use Rattle.std.specs.List.Retain.{IsFiltered}
use Rattle.thin_rows.specs.Entries.{IsSortedByColumn}
use Rattle.thin_rows.specs.Table.{Columns}
use Rattle.thin_rows.proofs.EntriesLemmas.{both_hold, hold_both}

module _ {V : Type 0} where
  kept_above : (c : ℕ) (flags : List Bool) (es : List (ℕ × V)) → T (below_all nat_cmp c es)
      → T (below_all nat_cmp c (items_where_true flags es))
  kept_above c [] es h = tt
  kept_above c (b ∷ flags) [] h = tt
  kept_above c (true ∷ flags) (e ∷ es) h =
      hold_both _ _ (both_hold _ _ h).0 (kept_above c flags es (both_hold _ _ h).1)
  kept_above c (false ∷ flags) (e ∷ es) h = kept_above c flags es (both_hold _ _ h).1

  kept_rise : (flags : List Bool) (es : List (ℕ × V)) → IsSortedByColumn es
      → IsSortedByColumn (items_where_true flags es)
  kept_rise [] es h = tt
  kept_rise (b ∷ flags) [] h = tt
  kept_rise (true ∷ flags) (e ∷ es) h = hold_both _ _
      (kept_above e.0 flags es (both_hold _ _ h).0) (kept_rise flags es (both_hold _ _ h).1)
  kept_rise (false ∷ flags) (e ∷ es) h = kept_rise flags es (both_hold _ _ h).1

  module _ {S : Type 0} (R : S → ℕ × V → Bool → S → Type 0) (s : S) (es fs : List (ℕ × V))
      (kept : IsFiltered R s es fs) (sorted : IsSortedByColumn es) where
    pub kept_sorted : IsSortedByColumn fs
    kept_sorted = subst IsSortedByColumn (sym kept.4) (kept_rise kept.0 es sorted)

    pub kept_row : (row : Columns V) → from_sorted es ≡ row
        → IsFiltered R s (entries row) (entries (from_sorted {R = nat_cmp} fs))
    kept_row row is =
        subst (λ l. IsFiltered R s l (entries (from_sorted {R = nat_cmp} fs)))
        (sym (entries-from_sorted nat_cmp es sorted) ∙ ap entries is)
        (subst (IsFiltered R s es) (sym (entries-from_sorted nat_cmp fs kept_sorted)) kept)
