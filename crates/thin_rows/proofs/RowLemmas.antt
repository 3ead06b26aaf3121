-- A list of entries represents a finite map. These lemmas say how an edit of the list changes it.
use Rattle.std.proofs.Common.{◌≡◌, ℕ, List, [], None, Some, cond, get_or, insert, length, remove, set, sym, ap, subst, ◌∙◌, nat_cmp, Equal, arith}
use Rattle.std.proofs.lemmas.Bool.Decides.{nat_tests}
use Rattle.std.specs.Cmp.{nat_cmp_total, ranked}
use Rattle.std.specs.FinMap as map
use Rattle.std.specs.FinMap.{entries-from_sorted, entries-insert, find, from_sorted, empty_of_len, get-from_sorted, get-remove, len-entries, nat_cmp-IsAntisymmetric, put, same_entries_map, same_map}
use Rattle.std.specs.FinMap.Entries.{find-where_key, is_sorted-put, is_sorted-where_key, where_key}
use Rattle.std.specs.Ordering.{eq_by_cmp}
use Rattle.thin_rows.specs.Entries.{IsInsertionPoint, IsFoundAt, IsSortedByColumn}
use Rattle.thin_rows.proofs.EntriesLemmas.{find_at, find_gap, put_at, put_gap, stays, without_at, without_gap}

alike : (c q k : ℕ) → nat_cmp q k ≡ Equal → stays c k ≡ stays c q
alike c q k e = ap (stays c) (sym (ranked q k Equal (sym e)))

turned : {X : Type 0} (c q : ℕ) (x y : X) → cond (stays c q) x y ≡ cond (eq_by_cmp nat_cmp q c) y x
turned c q x y = grind (arith, nat_tests)

module _ {V : Type 0} (es : List (ℕ × V)) (sorted : IsSortedByColumn es) where
  abbrev row : map.FinMap nat_cmp V
  row = from_sorted es

  pub len_is : map.len row ≡ length es
  len_is = len-entries row ∙ ap length (entries-from_sorted nat_cmp es sorted)

  module _ (c : ℕ) where
    module _ (v : V) (new : List (ℕ × V)) (is_put : put nat_cmp c v es ≡ new) where
      put_rises : IsSortedByColumn new
      put_rises = subst IsSortedByColumn is_put (is_sorted-put nat_cmp nat_cmp_total c v es sorted)

      put_is : from_sorted new ≡ map.insert row c v
      put_is = same_entries_map _ _ (entries-from_sorted nat_cmp new put_rises
          ∙ (sym is_put ∙ (ap (put nat_cmp c v) (sym (entries-from_sorted nat_cmp es sorted))
          ∙ sym (entries-insert nat_cmp_total row c v))))

    -- Here `new` contains the entries of `es` of the other columns than `c`.
    module _ (new : List (ℕ × V)) (is_left : where_key nat_cmp (stays c) es ≡ new) where
      left_rises : IsSortedByColumn new
      left_rises = subst IsSortedByColumn is_left (is_sorted-where_key nat_cmp (stays c) es sorted)

      left_finds : (q : ℕ) → map.get {R = nat_cmp} (from_sorted new) q
          ≡ map.get (map.remove row c) q
      left_finds q = get-from_sorted nat_cmp new q left_rises
          ∙ (sym (ap (find nat_cmp q) is_left) ∙ (find-where_key nat_cmp (stays c) q (alike c q) es
          ∙ (turned c q _ None
          ∙ (ap (cond (eq_by_cmp nat_cmp q c) None) (sym (get-from_sorted nat_cmp es q sorted))
          ∙ sym (get-remove nat_cmp_total row c q)))))

      left_is : from_sorted new ≡ map.remove row c
      left_is = same_map nat_cmp_total nat_cmp-IsAntisymmetric (from_sorted new)
          (map.remove row c) left_finds

    -- Here `es` has an entry of column `c`, at the index `at`.
    module _ (at : ℕ) (place : IsFoundAt es c at) where
      pub get_at : (d : ℕ × V) → map.get row c ≡ Some (get_or es at d).1
      get_at d = get-from_sorted nat_cmp es c sorted ∙ find_at c es at d sorted place

      pub set_rises : (v : V) → IsSortedByColumn (set es at (c, v))
      set_rises v = put_rises v _ (put_at c es at v sorted place)

      pub set_is : (v : V) → from_sorted (set es at (c, v)) ≡ map.insert row c v
      set_is v = put_is v _ (put_at c es at v sorted place)

      pub remove_rises : IsSortedByColumn (remove es at)
      remove_rises = left_rises _ (without_at c es at sorted place)

      pub remove_is : from_sorted (remove es at) ≡ map.remove row c
      remove_is = left_is _ (without_at c es at sorted place)

    -- Here `es` has no entry of column `c`, and one would be inserted at the index `at`.
    module _ (at : ℕ) (gap : IsInsertionPoint es c at) where
      pub get_gap : map.get row c ≡ None
      get_gap = get-from_sorted nat_cmp es c sorted ∙ find_gap c es at gap

      pub insert_rises : (v : V) → IsSortedByColumn (insert es at (c, v))
      insert_rises v = put_rises v _ (put_gap c es at v gap)

      pub insert_is : (v : V) → from_sorted (insert es at (c, v)) ≡ map.insert row c v
      insert_is v = put_is v _ (put_gap c es at v gap)

      pub unchanged : row ≡ map.remove row c
      unchanged = left_is es (without_gap c es at gap)

pub none_stored : {V : Type 0} → from_sorted {R = nat_cmp} [] ≡ map.empty {X = V}
none_stored = empty_of_len _ (len_is [] tt)
