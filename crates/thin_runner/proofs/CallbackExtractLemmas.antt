-- An `ExtractIf` whose closure asks a judge: what `next` returns, and which items the list has
-- afterwards.
use Rattle.std.proofs.Common.{◌≡◌, ℕ, zero, suc, ◌+◌, ◌-◌, ◌≤◌, ◌==◌, Bool, true, false, List, [], ◌∷◌, ◌++◌, Option, None, Some, length, take, drop, refl, arith, ap, subst, sym, ◌∙◌, append_assoc}
use Rattle.std.proofs.lemmas.List.{append-nil, length-append, length-drop, length-map, length-take}
use Rattle.std.specs.List.Retain.{ExtractsNext}
use Rattle.std.specs.Option.{option_to_list}
use Rattle.std.specs.Prelude.{MatchBool, if◌then◌else◌, not, replicate, slice_range}
use Rattle.thin_vec.proofs.RetainLemmas.{gone-append, gone-stay, items_where-append, items_where-stay, moves_of_retain-stay, moving-none, paid-more, count_true-append, count_true-stay}
use Rattle.thin_vec.specs.Cost.{Cost, add_moves}
use Rattle.thin_vec.specs.Edits.Retain.{TestResults, flags_of, items_where, moves_of_retain, all_kept, count_true}
use Rattle.thin_vec.specs.ThinVec.{ListView}
use Rattle.thin_runner.proofs.CallbackLemmas.{AsksJudge, few-left}
use Rattle.thin_runner.specs.commands.Filters.{keep_outside, extract_results, filtered_list}
use Rattle.thin_runner.specs.commands.Ranges.{ends_taken}
use Rattle.thin_runner.specs.declared.command.Step.TheVariants.{Front}

module _ {T : Type 0} where
  -- The result for the item that a call to `next` returned, if it returned one.
  abbrev pub goes : Option T → TestResults T
  goes None = []
  goes (Some x) = (false, x) ∷ []

  -- The results of `k` calls to `next` on an iterator that yields the items `xs`.
  abbrev pub handed_out : ℕ → List T → List (Option T)
  handed_out k xs = ends_taken xs (replicate k Front)

  gone-after : (xs : List T) (a : TestResults T)
      → items_where false (all_kept xs ++ a) ≡ items_where false a
  gone-after [] a = refl
  gone-after (x ∷ xs) a = gone-after xs a

  none-some : {x : T} → None ≡ Some x → ⊥
  none-some e = cc

  gone-goes : (item : Option T) → items_where false (goes item) ≡ option_to_list item
  gone-goes None = refl
  gone-goes (Some x) = refl

  left-goes : (item : Option T) → items_where true (goes item) ≡ []
  left-goes None = refl
  left-goes (Some x) = refl

  still-goes : (item : Option T) → moves_of_retain (flags_of (goes item)) ≡ 0
  still-goes None = refl
  still-goes (Some x) = refl

  few-goes : (item : Option T) → count_true (flags_of (goes item)) ≡ 0
  few-goes None = refl
  few-goes (Some x) = refl

module _ {S T J : Type 0} (R : S → T → Bool → S → T → Type 0) (judge_of : S → J)
    (ask : J → T → Bool × T × J) (told : AsksJudge R judge_of ask) where
  none-left : (j : J) (k : ℕ) → extract_results ask j k [] ≡ []
  none-left j zero = refl
  none-left j (suc k) = refl

  -- The first of `k + 1` calls to `next` returns `item`, and leaves the closure in the state `t`.
  module _ (t : S) (k : ℕ) (item : Option T) (rest : List T) where
    pub extracts-by : (s : S) (xs kept : List T) → ExtractsNext R s xs item t kept rest
        → extract_results ask (judge_of s) (suc k) xs
        ≡ all_kept kept ++ (goes item ++ extract_results ask (judge_of t) k rest)
    extracts-by s [] kept e =
        sym ((λ i. all_kept (e.2 i) ++ (goes (e.0 i) ++ extract_results ask (judge_of t) k (e.3 i)))
        ∙ none-left (judge_of t) k)
    extracts-by s (x ∷ xs) kept e =
        subst (λ a. (not a.0, a.1) ∷ extract_results ask a.2 (if a.0 then k else suc k) xs
        ≡ all_kept kept ++ (goes item ++ extract_results ask (judge_of t) k rest))
        (told s x e.0 e.1 e.2 e.3)
        (by_test e.0 (λ ks n. extracts-by e.1 xs ks n) e.4)
      where
        by_test : (b : Bool)
            → ((ks : List T) → ExtractsNext R e.1 xs item t ks rest
            → extract_results ask (judge_of e.1) (suc k) xs
            ≡ all_kept ks ++ (goes item ++ extract_results ask (judge_of t) k rest))
            → MatchBool b ((item ≡ Some e.2) × (t ≡ e.1) × (kept ≡ []) × (rest ≡ xs))
            ((ks : List T) × ExtractsNext R e.1 xs item t ks rest × (kept ≡ e.2 ∷ ks))
            → (not b, e.2) ∷ extract_results ask (judge_of e.1) (if b then k else suc k) xs
            ≡ all_kept kept ++ (goes item ++ extract_results ask (judge_of t) k rest)
        by_test true by m =
            sym (λ i. all_kept (m.2 i)
            ++ (goes (m.0 i) ++ extract_results ask (judge_of (m.1 i)) k (m.3 i)))
        by_test false by m =
            ap (λ l. (true, e.2) ∷ l) (by m.0 m.1)
            ∙ sym (ap (λ l. all_kept l ++ (goes item ++ extract_results ask (judge_of t) k rest))
            m.2)

    rest-none : (s : S) (xs kept : List T) → ExtractsNext R s xs item t kept rest
        → item ≡ None → rest ≡ []
    rest-none s [] kept e none = e.3
    rest-none s (x ∷ xs) kept e none =
        by_test e.0 (λ ks n. rest-none e.1 xs ks n none) e.4
      where
        by_test : (b : Bool) → ((ks : List T) → ExtractsNext R e.1 xs item t ks rest → rest ≡ [])
            → MatchBool b ((item ≡ Some e.2) × (t ≡ e.1) × (kept ≡ []) × (rest ≡ xs))
            ((ks : List T) × ExtractsNext R e.1 xs item t ks rest × (kept ≡ e.2 ∷ ks)) → rest ≡ []
        by_test true by m = let wrong = m.0 in absurd (none-some (sym none ∙ wrong))
        by_test false by m = by m.0 m.1

    pub handed-by : (s : S) (xs kept : List T) → ExtractsNext R s xs item t kept rest
        → handed_out (suc k) (items_where false (extract_results ask (judge_of s) (suc k) xs))
        ≡ item ∷ handed_out k (items_where false (extract_results ask (judge_of t) k rest))
    handed-by s xs kept e =
        ap (λ l. handed_out (suc k) (items_where false l)) (extracts-by s xs kept e)
        ∙ (ap (handed_out (suc k))
        (gone-after kept (goes item ++ extract_results ask (judge_of t) k rest))
        ∙ first item (rest-none s xs kept e))
      where
        first : (o : Option T) → (o ≡ None → rest ≡ [])
            → handed_out (suc k)
            (items_where false (goes o ++ extract_results ask (judge_of t) k rest))
            ≡ o ∷ handed_out k (items_where false (extract_results ask (judge_of t) k rest))
        first (Some x) none = refl
        first None none =
            let empty : items_where false (extract_results ask (judge_of t) k rest) ≡ [] =
            ap (λ l. items_where false (extract_results ask (judge_of t) k l)) (none refl)
            ∙ ap (items_where false) (none-left (judge_of t) k) in
            subst (λ l. handed_out (suc k) l ≡ None ∷ handed_out k l) (sym empty) refl

-- The state of an `ExtractIf` between two calls to `next`.
pub record Stand (T : Type 0) : Type 0 where
  -- The results for the untested items of the range.
  pub left : TestResults T
  -- The items before the range, followed by the items of the range that have been kept so far.
  pub front : List T
  -- The number of items that have been yielded so far.
  pub out : ℕ
  pub paid : Cost

-- `results` are the results for the items of the range, `start` are the items before it, and
-- `before` is the cost of the list at the start.
module _ {T : Type 0} (results : TestResults T) (start : List T) (before : Cost) where
  -- The calls so far made the results `done`, and the results of the later calls are left.
  pub record IsExtracting (at : Stand T) : Type 0 where
    pub done : TestResults T
    pub split : results ≡ done ++ at.left
    pub front : at.front ≡ start ++ items_where true done
    pub out : at.out ≡ length (items_where false done)
    pub paid : at.paid ≡ add_moves (moves_of_retain (flags_of done)) before

  paid-next : (at : Stand T) (h : IsExtracting at) (now : TestResults T) (k : ℕ)
      → moves_of_retain (flags_of now) ≡ 0 → count_true (flags_of now) ≡ k
      → (if at.out == 0 then at.paid else add_moves k at.paid)
      ≡ add_moves (moves_of_retain (flags_of (h.done ++ now))) before
  paid-next at h now k still moved =
      (λ i. if h.out i == 0 then h.paid i else add_moves k (h.paid i))
      ∙ paid-more h.done now k before still moved

  pub extracting-none : (at : Stand T) → at.left ≡ results → at.front ≡ start → at.out ≡ 0
      → at.paid ≡ before → IsExtracting at
  extracting-none at all same none free =
      record {
        done = [];
        split = sym all;
        front = same ∙ sym (append-nil start);
        out = none;
        paid = free ∙ sym (moving-none before);
      }

  module _ (at next : Stand T) where
    pub extracting-step : (kept : List T) (item : Option T) → IsExtracting at
        → at.left ≡ all_kept kept ++ (goes item ++ next.left) → next.front ≡ at.front ++ kept
        → next.out ≡ at.out + length (option_to_list item)
        → next.paid ≡ (if at.out == 0 then at.paid else add_moves (length kept) at.paid)
        → IsExtracting next
    extracting-step kept item h asks more out charge =
        let now = all_kept kept ++ goes item in
        let stays : items_where true now ≡ kept =
        items_where-append (all_kept kept) (goes item)
        ∙ ((λ i. items_where-stay kept i ++ left-goes item i) ∙ append-nil kept) in
        let go : items_where false now ≡ option_to_list item =
        gone-append (all_kept kept) (goes item) ∙ (λ i. gone-stay kept i ++ gone-goes item i) in
        let still : moves_of_retain (flags_of now) ≡ 0 = moves_of_retain-stay kept (goes item)
        ∙ still-goes item in
        let moved : count_true (flags_of now) ≡ length kept =
        omega (
          arith,
          count_true-append (all_kept kept) (goes item),
          count_true-stay kept,
          few-goes item,
        ) in
        record {
          done = h.done ++ now;
          split = h.split
              ∙ (ap (λ l. h.done ++ l)
              (asks ∙ sym (append_assoc (all_kept kept) (goes item) next.left))
              ∙ sym (append_assoc h.done now next.left));
          front = more
              ∙ ((λ i. h.front i ++ sym stays i)
              ∙ (append_assoc start (items_where true h.done) (items_where true now)
              ∙ ap (λ l. start ++ l) (sym (items_where-append h.done now))));
          out = omega (
            arith,
            out,
            h.out,
            ap length (gone-append h.done now),
            length-append (items_where false h.done) (items_where false now),
            ap length go,
          );
          paid = charge ∙ paid-next at h now (length kept) still moved;
        }

-- An `ExtractIf` on the range `a..b` turns the list `v` into `w`, by the results `results`.
module _ {T A : Type 0} (v w : ListView T A) (a b : ℕ) (results : TestResults T) where
  -- The list after an extraction that ended in the state `at`, with the untested items `rest`.
  pub record IsLeft (at : Stand T) (rest tail : List T) : Type 0 where
    pub items : w.items ≡ at.front ++ (rest ++ tail)
    pub cost : w.cost ≡ (if at.out == 0 then at.paid else add_moves (length rest
        + length tail) at.paid)
    pub capacity : w.capacity ≡ v.capacity
    pub alloc : w.alloc ≡ v.alloc

  pub extracting-ends : (at : Stand T) (rest tail : List T)
      → IsExtracting results (take a v.items) v.cost at → at.left ≡ all_kept rest
      → tail ≡ drop b v.items
      → IsLeft at rest tail → w ≡ filtered_list v (keep_outside v.items a b results)
  extracting-ends at rest tail h none same_tail left_is =
      let front = take a v.items in
      let after = all_kept rest ++ all_kept tail in
      let all : keep_outside v.items a b results ≡ all_kept front ++ (h.done ++ after) =
      (λ i. all_kept front
      ++ ((h.split ∙ ap (λ l. h.done ++ l) none) i ++ all_kept (sym same_tail i)))
      ∙ ap (λ l. all_kept front ++ l) (append_assoc h.done (all_kept rest) (all_kept tail)) in
      let ends : items_where true after ≡ rest ++ tail =
      items_where-append (all_kept rest) (all_kept tail)
      ∙ (λ i. items_where-stay rest i ++ items_where-stay tail i) in
      let left : items_where true (all_kept front ++ (h.done ++ after)) ≡ front
      ++ (items_where true h.done ++ (rest ++ tail)) =
      items_where-append (all_kept front) (h.done ++ after)
      ∙ (λ i. items_where-stay front i
      ++ (items_where-append h.done after ∙ ap (λ l. items_where true h.done ++ l) ends) i) in
      let still : moves_of_retain (flags_of after) ≡ 0 =
      moves_of_retain-stay rest (all_kept tail)
      ∙ (ap (λ l. moves_of_retain (flags_of l)) (sym (append-nil (all_kept tail)))
      ∙ moves_of_retain-stay tail []) in
      let moved : count_true (flags_of after) ≡ length rest + length tail =
      omega (
        arith,
        count_true-append (all_kept rest) (all_kept tail),
        count_true-stay rest,
        count_true-stay tail,
      ) in
      let now = left_is.items
      ∙ (ap (λ l. l ++ (rest ++ tail)) h.front
      ∙ (append_assoc front (items_where true h.done) (rest ++ tail)
      ∙ sym (ap (items_where true) all ∙ left))) in
      let count : moves_of_retain (flags_of (h.done ++ after))
      ≡ moves_of_retain (flags_of (keep_outside v.items a b results)) =
      sym (ap (λ l. moves_of_retain (flags_of l)) all
      ∙ moves_of_retain-stay front (h.done ++ after)) in
      let paid = left_is.cost
      ∙ (paid-next results front v.cost at h after (length rest + length tail) still moved
      ∙ ap (λ m. add_moves m v.cost) count) in
      λ i. record {
        items = now i;
        capacity = left_is.capacity i;
        alloc = left_is.alloc i;
        cost = paid i;
      }

-- An extraction does not increase the length of a list.
module _ {T J : Type 0} (ask : J → T → Bool × T × J) where
  stay-length : (xs : List T) → length (all_kept xs) ≡ length xs
  stay-length xs = length-map xs (λ (x : T). (true, x))

  extracting-length : (j : J) (k : ℕ) (xs : List T) → length (extract_results ask j k xs)
      ≡ length xs
  extracting-length j zero xs = stay-length xs
  extracting-length j (suc k) [] = refl
  extracting-length j (suc k) (x ∷ xs) =
      ap suc (extracting-length (ask j x).2 (if (ask j x).0 then k else suc k) xs)

  pub few-extracted : (j : J) (k : ℕ) (xs : List T) (a b : ℕ) → a ≤ b → b ≤ length xs
      → length (items_where true
      (keep_outside xs a b (extract_results ask j k (slice_range xs a b))))
      ≤ length xs
  few-extracted j k xs a b order within =
      let middle = extract_results ask j k (slice_range xs a b) in
      omega (
        arith,
        order,
        within,
        few-left (keep_outside xs a b middle),
        length-append (all_kept (take a xs)) (middle ++ all_kept (drop b xs)),
        length-append middle (all_kept (drop b xs)),
        stay-length (take a xs),
        stay-length (drop b xs),
        extracting-length j k (slice_range xs a b),
        length-take a xs,
        length-drop b xs,
        length-take (b - a) (drop a xs),
        length-drop a xs,
      )
