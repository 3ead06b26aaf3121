-- Clones of the entries of a row are the entries of a clone of the row. If clones equal their
-- values, clones of rows and tables equal these.
use Rattle.std.proofs.Common.{◌≡◌, ℕ, T, List, [], ◌∷◌, sym, ap, subst, ◌∙◌, nat_cmp, is_lt}
use Rattle.std.proofs.lemmas.List.Elements.{same_from_all_zip}
use Rattle.std.specs.FinMap.{entries, entries-from_sorted, from_sorted, same_entries_map}
use Rattle.std.specs.FinMap.Entries.{below_all}
use Rattle.std.specs.List.{AllZip}
use Rattle.thin_vec.specs.List.Clones.{ClonesEqual}
use Rattle.thin_rows.specs.Entries.{IsSortedByColumn}
use Rattle.thin_rows.specs.Table.{Columns, IsClonedRow, IsClonedTable, Table}
use Rattle.thin_rows.proofs.EntriesLemmas.{both_hold, hold_both}

module _ {V : Type 0} (clones : V → V → Type 0) where
  -- `AreClones es fs` states that the entries `fs` are clones of the entries `es`.
  abbrev pub AreClones : List (ℕ × V) → List (ℕ × V) → Type 0
  AreClones = AllZip (λ e f. (f.0 ≡ e.0) × clones e.1 f.1)

  clones_above : (c : ℕ) (es fs : List (ℕ × V)) → AreClones es fs → T (below_all nat_cmp c es)
      → T (below_all nat_cmp c fs)
  clones_above c [] [] all h = tt
  clones_above c [] (f ∷ fs) all h = absurd all
  clones_above c (e ∷ es) [] all h = absurd all
  clones_above c (e ∷ es) (f ∷ fs) all h = hold_both _ _
      (subst (λ k. T (is_lt (nat_cmp c k))) (sym all.0.0) (both_hold _ _ h).0)
      (clones_above c es fs all.1 (both_hold _ _ h).1)

  pub clones_rise : (es fs : List (ℕ × V)) → AreClones es fs → IsSortedByColumn es
      → IsSortedByColumn fs
  clones_rise [] [] all h = tt
  clones_rise [] (f ∷ fs) all h = absurd all
  clones_rise (e ∷ es) [] all h = absurd all
  clones_rise (e ∷ es) (f ∷ fs) all h = hold_both _ _
      (subst (λ k. T (below_all nat_cmp k fs)) (sym all.0.0)
      (clones_above e.0 es fs all.1 (both_hold _ _ h).0))
      (clones_rise es fs all.1 (both_hold _ _ h).1)

  pub cloned_row : (es fs : List (ℕ × V)) (row : Columns V) → AreClones es fs
      → IsSortedByColumn es → from_sorted es ≡ row → IsClonedRow clones row (from_sorted fs)
  cloned_row es fs row all sorted is =
      subst (λ l. AreClones l (entries (from_sorted {R = nat_cmp} fs)))
      (sym (entries-from_sorted nat_cmp es sorted) ∙ ap entries is)
      (subst (AreClones es) (sym (entries-from_sorted nat_cmp fs (clones_rise es fs all sorted)))
      all)

  module _ (equal : ClonesEqual clones) where
    pub same_row : (r s : Columns V) → IsClonedRow clones r s → s ≡ r
    same_row r s all = same_entries_map s r (same_from_all_zip _ (entries r) (entries s) all
        (λ e f like i. (like.0 i, equal e.1 f.1 like.1 i)))

    pub same_table : (t u : Table V) → IsClonedTable clones t u → u ≡ t
    same_table t u all = same_from_all_zip _ t u all same_row
