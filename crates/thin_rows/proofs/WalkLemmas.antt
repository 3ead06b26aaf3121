-- The list of all entries of a table: what it contains, and in which order. Proofs of other crates
-- cite these lemmas.
use Rattle.std.proofs.Common.{◌≡◌, ℕ, zero, suc, ◌+◌, ◌-◌, ◌<◌, List, [], ◌∷◌, ◌++◌, AllPairs, Bool, Bor, Contains, IsTrue, Option, is_some, not, true, false, true≢false, ◌↔◌, Some, None, inl, inr, length, length-append, get_or, ap, refl, sym, subst, ◌∙◌, arith, slice_index_or}
use Rattle.std.specs.FinMap as columns
use Rattle.std.specs.FinMap.{entries_sorted}
use Rattle.std.proofs.iter.runs.Sources.{from_front}
use Rattle.std.proofs.lemmas.Bool.{cases_lt}
use Rattle.std.proofs.lemmas.List.{get_or-append_right}
use Rattle.std.proofs.lemmas.List.Elements.{Contains-append_cases, Contains-append_left, Contains-append_right, Contains-get_or}
use lib.ListN.{get_or-append}
use Rattle.thin_rows.specs.Entries.{IsSortedByColumn}
use Rattle.thin_rows.specs.Table.{Columns, Table, entries_from, entries_in_row, entries_of, value_at}
use Rattle.thin_rows.specs.Walk.{IsBefore, YieldsEntriesInOrder, YieldsFirstEntry, entry_of}
use Rattle.thin_rows.proofs.EntriesLemmas.{columns_rise}
use Rattle.thin_rows.proofs.TableLemmas.{IsAmong, is_listed, later, listed, outside}

pairs_joined : {X : Type 0} (R : X → X → Type 0) (xs ys : List X) → AllPairs R xs
    → AllPairs R ys → ((x y : X) → Contains xs x → Contains ys y → R x y)
    → AllPairs R (xs ++ ys)
pairs_joined R xs ys in_xs in_ys across i j d before inside =
    let long = length-append xs ys in
    elim (cases_lt j (length xs)) [
      | inl front ↦ rw (get_or-append xs ys d i (omega arith), get_or-append xs ys d j front)
          (in_xs i j d before front)
      | inr back ↦ elim (cases_lt i (length xs)) [
        | inl front ↦ rw (
          get_or-append xs ys d i front,
          get_or-append_right xs ys (length xs) j d refl back,
        )
            (across _ _ (Contains-get_or xs i d front)
            (Contains-get_or ys (j - length xs) d (omega (arith, long))))
        | inr rest ↦ rw (
          get_or-append_right xs ys (length xs) i d refl rest,
          get_or-append_right xs ys (length xs) j d refl back,
        )
            (in_ys (i - length xs) (j - length xs) d (omega arith) (omega (arith, long)))
      ]
    ]

module _ {V : Type 0} where
  length-in_row : (i : ℕ) (es : List (ℕ × V)) → length (entries_in_row i es) ≡ length es
  length-in_row i [] = refl
  length-in_row i (e ∷ es) = ap suc (length-in_row i es)

  nth_in_row : (i : ℕ) (es : List (ℕ × V)) (k : ℕ) (d : ℕ × ℕ × V) → k < length es
      → get_or (entries_in_row i es) k d
      ≡ (i, (get_or es k (d.1, d.2)).0, (get_or es k (d.1, d.2)).1)
  nth_in_row i [] k d inside = absurd (omega arith)
  nth_in_row i (e ∷ es) zero d inside = refl
  nth_in_row i (e ∷ es) (suc k) d inside = nth_in_row i es k d (omega arith)

  from_row : (i : ℕ) (es : List (ℕ × V)) (e : ℕ × ℕ × V) → Contains (entries_in_row i es) e
      → (e.0 ≡ i) × IsAmong es (e.1, e.2)
  from_row i [] e among = absurd (omega (arith, among.1))
  from_row i (f ∷ es) e among = at (from_row i es e) among.0 among.1 among.2
    where
      at : (Contains (entries_in_row i es) e → (e.0 ≡ i) × IsAmong es (e.1, e.2)) → (k : ℕ)
          → k < suc (length (entries_in_row i es))
          → slice_index_or ((i, f.0, f.1) ∷ entries_in_row i es) k e ≡ e
          → (e.0 ≡ i) × IsAmong (f ∷ es) (e.1, e.2)
      at from_rest zero inside same =
          (sym (ap (λ t. t.0) same), (0, omega arith, λ d i. ((same i).1, (same i).2)))
      at from_rest (suc k) inside same =
          let rest = from_rest (k, omega arith, same) in
          (rest.0, later f es (e.1, e.2) rest.1)

  into_row : (i : ℕ) (es : List (ℕ × V)) (j : ℕ) (v : V) → IsAmong es (j, v)
      → Contains (entries_in_row i es) (i, j, v)
  into_row i es j v among = (
    among.0,
    omega (arith, among.1, length-in_row i es),
    nth_in_row i es among.0 (i, j, v) among.1
        ∙ (λ t. (i, (among.2 (j, v) t).0, (among.2 (j, v) t).1)),
  )

  among_is_value : (row : Columns V) (j : ℕ) (v : V) → IsAmong (columns.entries row) (j, v)
      → columns.get row j ≡ Some v
  among_is_value row j v among = subst (λ (e : ℕ × V). columns.get row e.0 ≡ Some e.1)
      (among.2 (j, v)) (listed row among.0 (j, v) among.1)

  from_rows : (i : ℕ) (rows : Table V) (e : ℕ × ℕ × V) → Contains (entries_from i rows) e
      → (k : ℕ) × (e.0 ≡ i + k) × (value_at rows k e.1 ≡ Some e.2)
  from_rows i [] e among = absurd (omega (arith, among.1))
  from_rows i (row ∷ rows) e among = elim (Contains-append_cases
      (entries_in_row i (columns.entries row)) (entries_from (i + 1) rows) e among) [
        | inl here ↦ (let first = from_row i (columns.entries row) e here in
            (0, omega (arith, first.0), among_is_value row e.1 e.2 first.1))
        | inr there ↦ (let rest = from_rows (i + 1) rows e there in
            (suc rest.0, omega (arith, rest.1), rest.2))
      ]

  into_rows : (i : ℕ) (rows : Table V) (k j : ℕ) (v : V) → value_at rows k j ≡ Some v
      → Contains (entries_from i rows) (i + k, j, v)
  into_rows i [] k j v there = cc (outside {V = V} [] k j (omega arith))
  into_rows i (row ∷ rows) zero j v there =
      let same : i ≡ i + 0 = omega arith in
      subst (λ a. Contains (entries_from i (row ∷ rows)) (a, j, v)) same
      (Contains-append_left (entries_in_row i (columns.entries row)) (entries_from (i + 1) rows)
      (i, j, v) (into_row i (columns.entries row) j v (is_listed row j v there)))
  into_rows i (row ∷ rows) (suc k) j v there =
      let same : i + 1 + k ≡ i + suc k = omega arith in
      subst (λ a. Contains (entries_from i (row ∷ rows)) (a, j, v)) same
      (Contains-append_right (entries_in_row i (columns.entries row)) (entries_from (i + 1) rows)
      (i + 1 + k, j, v) (into_rows (i + 1) rows k j v there))

  pub walked : (t : Table V) (i j : ℕ) (v : V) → Contains (entries_of t) (i, j, v)
      → value_at t i j ≡ Some v
  walked t i j v among =
      let found = from_rows 0 t (i, j, v) among in
      let same : found.0 ≡ i = omega (arith, found.1) in
      subst (λ k. value_at t k j ≡ Some v) same found.2

  pub is_walked : (t : Table V) (i j : ℕ) (v : V) → value_at t i j ≡ Some v
      → Contains (entries_of t) (i, j, v)
  is_walked t i j v there =
      let same : 0 + i ≡ i = omega arith in
      subst (λ a. Contains (entries_of t) (a, j, v)) same (into_rows 0 t i j v there)

  row_rises : (i : ℕ) (es : List (ℕ × V)) → IsSortedByColumn es
      → AllPairs IsBefore (entries_in_row i es)
  row_rises i es sorted k m d before inside =
      let within : m < length es = omega (arith, inside, length-in_row i es) in
      rw (nth_in_row i es k d (omega arith), nth_in_row i es m d within)
      (inr (refl, columns_rise es sorted k m (d.1, d.2) before within))

  rows_rise : (i : ℕ) (rows : Table V) → AllPairs IsBefore (entries_from i rows)
  rows_rise i [] = λ k m d before inside. absurd (omega arith)
  rows_rise i (row ∷ rows) = pairs_joined IsBefore (entries_in_row i (columns.entries row))
      (entries_from (i + 1) rows) (row_rises i (columns.entries row) (entries_sorted row))
      (rows_rise (i + 1) rows)
      (λ e f first rest. inl (let here = from_row i (columns.entries row) e first in
      let there = from_rows (i + 1) rows f rest in omega (arith, here.0, there.1)))

  pub entries_rise : (t : Table V) → AllPairs IsBefore (entries_of t)
  entries_rise t = rows_rise 0 t

  pub yields_in_order : YieldsEntriesInOrder V
  yields_in_order = from_front YieldsFirstEntry entry_of (λ rest. rest)
      (λ s t none. ap length none.0) (λ s item t some. some)

  pub none_left : (s t : List (ℕ × ℕ × V)) (r : Option (ℕ × ℕ × Bor V)) (b : Bool)
      → is_some r ≡ not b → YieldsFirstEntry s r t → IsTrue b ↔ (s ≡ [])
  none_left s t None true told steps = (λ yes. steps.0, λ empty. refl)
  none_left s t None false told steps = absurd (true≢false (sym told))
  none_left s t (Some item) true told steps = absurd (true≢false told)
  none_left s t (Some item) false told steps = (
    λ yes. absurd (true≢false (sym yes)),
    λ empty. let both : [] ≡ entry_of item ∷ t = sym empty ∙ steps in cc,
  )

pub ruleset walk = (walked, is_walked, entries_rise)
