-- These lemmas are about the capacity and the cost of a list after pushes
-- (`capacity_after_pushes` and `cost_after_pushes`). They are also meant for other crates.
use Rattle.thin_block.proofs.ResultLemmas.{some-same}
use Rattle.std.proofs.Common.{◌≡◌, ℕ, zero, suc, ◌+◌, ◌*◌, ◌<◌, ◌≤◌, true, false, Some, ap, arith, eqb, inl, inr, length, refl, subst, sym, ◌∙◌, ◌-◌}
use Rattle.std.specs.Borrow.{RattleType}
use Rattle.std.proofs.lemmas.Bool.{cases_lt}
use Rattle.std.proofs.lemmas.Bool.Decides.{nat_tests}
use Rattle.thin_block.specs.Cost.{Cost, add_realloc, add_moves}
use Rattle.thin_block.specs.Growth.{GrowthRule, IsLawful}
use Rattle.thin_block.proofs.CapacityLemmas.{ruled-same, ruled-grows}
use Rattle.thin_vec.specs.ThinVec.{ListView, capacity_after_reserve, cost_after_resize}
use Rattle.std.specs.Option.{option_map_or}
use Rattle.std.proofs.lemmas.Option.{option_and_then_some}
use Rattle.std.specs.Prelude.{◌⊎◌, option_and_then}
use Rattle.thin_vec.specs.List.Extend.{IsAfterPushes, capacity_after_pushes, cost_after_pushes}
use Rattle.thin_vec.proofs.RetainLemmas.{moving-more, moving-none}
use Rattle.thin_vec.proofs.GrowthLemmas.{IsChosenByRule, IsKeptOrGrown, cost_after_resize-more, grown, grown-kept, kept-join}

module _ (rule : GrowthRule) (R : RattleType) where
  -- A push changes the capacity as the rule says.
  pub pushes-next : (c n d e : ℕ) → capacity_after_pushes rule R c n ≡ Some d
      → grown rule R d (suc n) ≡ Some e → capacity_after_pushes rule R c (suc n) ≡ Some e
  unfolding capacity_after_pushes
  pushes-next c n d e was grew = ap (option_and_then (λ (u : ℕ). grown rule R u (suc n))) was ∙ grew

  -- A push onto a list with the length `n` makes the length `m`.
  pub pushes-grew : (c n m d e : ℕ) → capacity_after_pushes rule R c n ≡ Some d
      → m ≡ n + 1 → grown rule R d (n + 1) ≡ Some e → capacity_after_pushes rule R c m ≡ Some e
  pushes-grew c n m d e was one grew =
      let next : n + 1 ≡ suc n = omega arith in
      subst (λ (k : ℕ). capacity_after_pushes rule R c k ≡ Some e)
      (let same : suc n ≡ m = omega arith in same)
      (pushes-next c n d e was (subst (λ (k : ℕ). grown rule R d k ≡ Some e) next grew))

  -- Pushes into empty slots do not change the capacity.
  pub pushes-kept : (c n m d : ℕ) → capacity_after_pushes rule R c n ≡ Some d → n ≤ m → m ≤ d
      → capacity_after_pushes rule R c m ≡ Some d
  pushes-kept c n zero d was more room =
      subst (λ (k : ℕ). capacity_after_pushes rule R c k ≡ Some d)
      (let none : n ≡ 0 = omega arith in none) was
  pushes-kept c n (suc m) d was more room =
      elim (cases_lt n (suc m)) [
        | inl less ↦ pushes-next c m d d (pushes-kept c n m d was (omega arith) (omega arith))
            (ruled-same rule _ _ d (suc m) room)
        | inr all ↦ subst (λ (k : ℕ). capacity_after_pushes rule R c k ≡ Some d)
            (let same : n ≡ suc m = omega arith in same) was
      ]

  -- If the pushes up to the length `m` had room, so had those up to a smaller length.
  pub pushes-before : (c n m d : ℕ) → capacity_after_pushes rule R c m ≡ Some d → n ≤ m
      → (e : ℕ) × (capacity_after_pushes rule R c n ≡ Some e)
  unfolding capacity_after_pushes
  pushes-before c n zero d e less = (
    d,
    subst (λ (k : ℕ). capacity_after_pushes rule R c k ≡ Some d)
        (let none : 0 ≡ n = omega arith in none) e,
  )
  pushes-before c n (suc m) d e less =
      elim (cases_lt n (suc m)) [
        | inl more ↦
            option_and_then_some (λ (u : ℕ). grown rule R u (suc m))
            (capacity_after_pushes rule R c m) d e
            (λ u was grew. pushes-before c n m u was (omega arith))
        | inr all ↦ (
          d,
          subst (λ (k : ℕ). capacity_after_pushes rule R c k ≡ Some d)
              (let same : suc m ≡ n = omega arith in same) e,
        )
      ]

  -- Pushes up to the capacity `c` do not change it.
  pub pushes-none : (c n : ℕ) → n ≤ c → capacity_after_pushes rule R c n ≡ Some c
  unfolding capacity_after_pushes
  pushes-none c n room = pushes-kept c 0 n c refl (omega arith) room

  -- A push onto a full list copies its items.
  pub paid-full : (c n : ℕ) (k : Cost) → capacity_after_pushes rule R c n ≡ Some n
      → cost_after_pushes rule R c (suc n) k ≡ add_realloc n (cost_after_pushes rule R c n k)
  unfolding cost_after_pushes
  paid-full c n k full =
      let at : eqb n n ≡ true = grind (arith, nat_tests) in
      let t : option_map_or (λ (d : ℕ). eqb d n) (capacity_after_pushes rule R c n) false ≡ true =
      ap (λ o. option_map_or (λ (d : ℕ). eqb d n) o false) full ∙ at in
      rw t refl

  paid-spare : (c n d : ℕ) (k : Cost) → capacity_after_pushes rule R c n ≡ Some d → n < d
      → cost_after_pushes rule R c (suc n) k ≡ cost_after_pushes rule R c n k
  unfolding cost_after_pushes
  paid-spare c n d k was room =
      let at : eqb d n ≡ false = grind (arith, nat_tests) in
      let t : option_map_or (λ (d : ℕ). eqb d n) (capacity_after_pushes rule R c n) false ≡ false =
      ap (λ o. option_map_or (λ (d : ℕ). eqb d n) o false) was ∙ at in
      rw t refl

  -- Pushes into empty slots cost only moves.
  pub paid-kept : (c n m d : ℕ) (k : Cost) → capacity_after_pushes rule R c n ≡ Some d → n ≤ m
      → m ≤ d → cost_after_pushes rule R c m k ≡ cost_after_pushes rule R c n k
  paid-kept c n zero d k was more room =
      ap (λ (q : ℕ). cost_after_pushes rule R c q k) (let none : 0 ≡ n = omega arith in none)
  paid-kept c n (suc m) d k was more room =
      elim (cases_lt n (suc m)) [
        | inl less ↦
            paid-spare c m d k (pushes-kept c n m d was (omega arith) (omega arith)) (omega arith)
            ∙ paid-kept c n m d k was (omega arith) (omega arith)
        | inr all ↦
            ap (λ (q : ℕ). cost_after_pushes rule R c q k)
            (let same : suc m ≡ n = omega arith in same)
      ]

  -- Pushes up to the capacity `c` request no memory, and copy no item.
  pub paid-none : (c n : ℕ) (k : Cost) → n ≤ c → cost_after_pushes rule R c n k ≡ k
  unfolding capacity_after_pushes cost_after_pushes
  paid-none c n k room = paid-kept c 0 n c k refl (omega arith) room

  -- The first push onto a full list, whose capacity is `c`.
  pub pushes-first : (c d : ℕ) → capacity_after_pushes rule R c (suc c) ≡ Some d
      → grown rule R c (suc c) ≡ Some d
  unfolding capacity_after_pushes
  pushes-first c d e =
      sym (ap (option_and_then (λ (u : ℕ). grown rule R u (suc c)))
      (pushes-none c c (let all : c ≤ c = omega arith in all))) ∙ e

  module _ {T A : Type 0} where
    -- No item was pushed.
    pub after-none : (v w : ListView T A) → length v.items ≤ v.capacity → w ≡ v
        → IsAfterPushes rule R v w
    after-none v w room same =
        let none : 0 ≡ length v.items - length v.items = omega arith in
        let paid = paid-none v.capacity (length v.items) v.cost room in
        subst (λ z. IsAfterPushes rule R v z) (sym same) (record {
          capacity = pushes-none v.capacity (length v.items) room;
          cost = sym (moving-none v.cost) ∙ (λ i. add_moves (none i) (sym paid i));
        })

    -- Items are moved into the empty slots of the list `u`, which becomes `w`.
    pub after-filled : (v u w : ListView T A) → IsAfterPushes rule R v u
        → length v.items ≤ length u.items → length u.items ≤ length w.items
        → length w.items ≤ w.capacity → w.capacity ≡ u.capacity
        → w.cost ≡ add_moves (length w.items - length u.items) u.cost → IsAfterPushes rule R v w
    after-filled v u w was low high room kept moved =
        let all : (length u.items - length v.items) + (length w.items - length u.items)
        ≡ length w.items - length v.items = omega arith in
        let here = was.capacity ∙ ap Some (sym kept) in
        let same = paid-kept v.capacity (length u.items) (length w.items) w.capacity v.cost here high
        room in
        record {
          capacity = pushes-kept v.capacity (length u.items) (length w.items) w.capacity here high
              room;
          cost = moved
              ∙ (ap (λ (k : Cost). add_moves (length w.items - length u.items) k) was.cost
              ∙ (moving-more (length w.items - length u.items) (length u.items - length v.items) _
              ∙ (λ i. add_moves (all i) (sym same i))));
        }

    -- An item is pushed onto the full list `w`, which becomes `z`.
    pub after-pushed : (v w z : ListView T A) → IsAfterPushes rule R v w
        → length w.items ≡ w.capacity → length v.items ≤ length w.items
        → length z.items ≡ length w.items + 1 → w.capacity < z.capacity
        → capacity_after_reserve rule R w 1 ≡ Some z.capacity
        → z.cost ≡ add_moves 1 (cost_after_resize w z.capacity) → IsAfterPushes rule R v z
    after-pushed v w z was full low long more grew moved =
        let n = length w.items in let k = cost_after_pushes rule R v.capacity n v.cost in
        let all : (n - length v.items) + 1 ≡ length z.items - length v.items = omega arith in
        let next : suc n ≡ length z.items = omega arith in
        let copies = paid-full v.capacity n v.cost (was.capacity ∙ ap Some (sym full)) in
        let now : add_realloc n k ≡ cost_after_pushes rule R v.capacity (length z.items) v.cost =
        sym copies ∙ ap (λ (q : ℕ). cost_after_pushes rule R v.capacity q v.cost) next in
        record {
          capacity = pushes-grew v.capacity n (length z.items) w.capacity z.capacity was.capacity
              long grew;
          cost = moved
              ∙ (ap (λ (q : Cost). add_moves 1 q) (cost_after_resize-more w z.capacity more)
              ∙ (ap (λ (q : Cost). add_moves 1 (add_realloc n q)) was.cost
              ∙ (moving-more 1 (n - length v.items) (add_realloc n k)
              ∙ (λ i. add_moves (all i) (now i)))));
        }

module _ (rule : GrowthRule) (R : RattleType) (law : IsLawful rule) where
  -- Pushes leave no fewer slots than items.
  pushes-room : (c n d : ℕ) → capacity_after_pushes rule R c n ≡ Some d → n ≤ d
  unfolding capacity_after_pushes
  pushes-room c zero d e = omega arith
  pushes-room c (suc n) d e =
      option_and_then_some (λ (u : ℕ). grown rule R u (suc n)) (capacity_after_pushes rule R c n) d e
      (λ u was grew. elim (cases_lt u (suc n)) [
        | inl more ↦ (ruled-grows rule _ _ u (suc n) d law more grew).enough
        | inr spare ↦
            let same : d ≡ u = some-same (sym grew ∙ ruled-same rule _ _ u (suc n) spare) in
            omega arith
      ])

  -- `PushCosts c n d k q` bounds the cost `q` after pushes up to the length `n`, which changed the
  -- capacity from `c` to `d`. The cost before was `k`.
  pub record PushCosts (c n d : ℕ) (k q : Cost) : Type 0 where
    pub moves : q.moves ≡ k.moves
    pub never_less : (c ≤ d) × (k.blocks ≤ q.blocks) × (k.grown ≤ q.grown)
    pub kept : d ≡ c → (q.blocks ≡ k.blocks) × (q.grown ≡ k.grown)
    pub on_growth : c < d → (k.blocks < q.blocks) × (k.grown + c ≤ q.grown)
    pub copied : q.grown + c ≤ k.grown + d
    pub requests : q.blocks ≤ k.blocks + (n - c)

  -- The list with the length `n` and the capacity `n` grows to the capacity `d`.
  costs-full : (c n d : ℕ) (k q : Cost) → n < d → 2 * n ≤ d → PushCosts c n n k q
      → PushCosts c (suc n) d k (add_realloc n q)
  costs-full c n d k q more doubled p =
      let low = p.never_less in let paid = p.copied in let few = p.requests in
      record {
        moves = p.moves;
        never_less = (omega arith, omega arith, omega arith);
        kept = λ same. absurd (omega arith);
        on_growth = λ _. (omega arith, omega arith);
        copied = omega arith;
        requests = omega arith;
      }

  costs-spare : (c n d : ℕ) (k q : Cost) → PushCosts c n d k q → PushCosts c (suc n) d k q
  costs-spare c n d k q p = record {
    moves = p.moves;
    never_less = p.never_less;
    kept = p.kept;
    on_growth = p.on_growth;
    copied = p.copied;
    requests = omega (arith, p.requests);
  }

  -- The cost after pushes satisfies `PushCosts`.
  pub pushes-costs : (c n d : ℕ) (k : Cost) → capacity_after_pushes rule R c n ≡ Some d
      → PushCosts c n d k (cost_after_pushes rule R c n k)
  unfolding capacity_after_pushes cost_after_pushes
  pushes-costs c zero d k e =
      let same : d ≡ c = sym (some-same e) in
      record {
        moves = refl;
        never_less = (omega arith, omega arith, omega arith);
        kept = λ _. (refl, refl);
        on_growth = λ more. absurd (omega arith);
        copied = omega arith;
        requests = omega arith;
      }
  pushes-costs c (suc n) d k e =
      option_and_then_some (λ (u : ℕ). grown rule R u (suc n)) (capacity_after_pushes rule R c n) d e
      (λ u was grew. elim (cases_lt u (suc n)) [
        | inl more ↦
            let room = pushes-room c n u was in
            let full : u ≡ n = omega arith in
            let g = ruled-grows rule _ _ u (suc n) d law more grew in
            let here = was ∙ ap Some full in
            subst (PushCosts c (suc n) d k) (sym (paid-full rule R c n k here))
            (costs-full c n d k (cost_after_pushes rule R c n k) (omega (arith, g.enough))
            (omega (arith, g.doubled)) (pushes-costs c n n k here))
        | inr spare ↦
            let same : d ≡ u = some-same (sym grew ∙ ruled-same rule _ _ u (suc n) spare) in
            let here = was ∙ ap Some (sym same) in
            subst (PushCosts c (suc n) d k)
            (sym (paid-spare rule R c n u k was (omega arith)))
            (costs-spare c n d k (cost_after_pushes rule R c n k) (pushes-costs c n d k here))
      ])

  -- The capacity after pushes satisfies `IsKeptOrGrown`.
  pub pushes-at_least : (c n d : ℕ) → capacity_after_pushes rule R c n ≡ Some d
      → IsKeptOrGrown rule R c d
  unfolding capacity_after_pushes
  pushes-at_least c zero d e = inl (sym (some-same e))
  pushes-at_least c (suc n) d e =
      option_and_then_some (λ (u : ℕ). grown rule R u (suc n)) (capacity_after_pushes rule R c n) d e
      (λ u was grew. kept-join rule R law c u d (pushes-at_least c n u was)
      (grown-kept rule R law u (suc n) d grew))

  -- The capacity after pushes is the one before them, or one that the rule chose for at most as
  -- many items as there are.
  pub pushes-ruled : (c n d : ℕ) → capacity_after_pushes rule R c n ≡ Some d
      → (d ≡ c) ⊎ IsChosenByRule rule R d n
  unfolding capacity_after_pushes
  pushes-ruled c zero d e = inl (sym (some-same e))
  pushes-ruled c (suc n) d e =
      option_and_then_some (λ (u : ℕ). grown rule R u (suc n)) (capacity_after_pushes rule R c n) d e
      (λ u was grew. elim (cases_lt u (suc n)) [
        | inl more ↦ inr (u, suc n, more, (let all : suc n ≤ suc n = omega arith in all), grew)
        | inr spare ↦
            let same : d ≡ u = some-same (sym grew ∙ ruled-same rule _ _ u (suc n) spare) in
            later c n d (pushes-ruled c n d (was ∙ ap Some (sym same)))
      ])
    where
      later : (c n d : ℕ) → (d ≡ c) ⊎ IsChosenByRule rule R d n
          → (d ≡ c) ⊎ IsChosenByRule rule R d (suc n)
      later c n d (inl e) = inl e
      later c n d (inr p) = inr (p.0, p.1, p.2, omega (arith, p.3), p.4)
