-- If `len` is at most the old length, `truncate` keeps the first `len` items. Otherwise `reserve`
-- makes room, and clones of `value` and finally `value` itself are appended.
use Rattle.std.proofs.lemmas.Grind.{common_steps}
use Rattle.std.proofs.Common.{◌≡◌, ◌-◌, [], ◌∷◌, ◌++◌, Err, Ok, Some, ap, append_assoc, arith, inl, inr, length, length-append, refl, replicate, subst, sym, take, take_all, ◌∙◌, ℕ}
use Rattle.std.proofs.lemmas.Bool.{false≢true}
use Rattle.std.proofs.lemmas.List.{get_or-replicate, length-replicate, length_push}
use denote.Param.{param}
use Rattle.thin_block.specs.declared.errors.ThinVecError.TheVariants.{OutOfMemory}
use Rattle.std.specs.Borrow.{RattleType}
use Rattle.thin_block.specs.Growth.{GrowthRule}
use Rattle.thin_vec.specs.ThinVec.{ListView, capacity_after_reserve}
use Rattle.thin_vec.specs.List.Capacity.{OverflowsIff}
use Rattle.thin_vec.proofs.edits.SpliceLemmas.{any-err}
use Rattle.thin_vec.proofs.list.ClonesLemmas.{cut-back, equal-repeated, grew}
use Rattle.thin_vec.proofs.list.ReservesLemmas.{capacity-kept, keeps-join, keeps-kept, tells-ok, tells-then}
use Rattle.thin_vec.proofs.list.ThinVec.resize.Goals as goal

-- `reserve` gave the list the capacity `c`, which the growth rule chose.
reserved : {T A : Type 0} (rule : GrowthRule) (R : RattleType) (v : ListView T A) (len : ℕ)
    {old c : ℕ}
    → old ≡ length v.items → capacity_after_reserve rule R v (len - old) ≡ Some c
    → capacity_after_reserve rule R v (len - length v.items) ≡ Some c
reserved rule R v len same named =
    ap (λ n. capacity_after_reserve rule R v (len - n)) (sym same) ∙ named

pub returns-clause-items : goal.returns-clause-items
returns-clause-items g c =
    let x = c.args.value in
    let placed = c.push_repeated_reserved.ensures.items in
    let pushed = c.push_reserved.ensures.items in
    let same = c.reserve.ensures.items in
    record {
      shorter = λ less. absurd (omega (arith, less, c.len-old.ensures.value, c.if-len-old.false));
      longer = λ _. (
        placed.copies,
        placed.cloned,
        pushed ∙ (ap (λ l. l ++ x ∷ []) (placed.items ∙ ap (λ l. l ++ placed.copies) same)
            ∙ append_assoc c.args.self.now.items placed.copies (x ∷ [])),
      );
      len = omega (
        arith,
        ap length pushed,
        length_push c.push_repeated_reserved.new.self.items x,
        ap length placed.items,
        length-append c.reserve.new.self.items placed.copies,
        ap length same,
      );
    }

pub returns-clause-items_if_clones_equal : goal.returns-clause-items_if_clones_equal
returns-clause-items_if_clones_equal g c = λ equal.
    let old = c.args.self.now.items in
    let x = c.args.value in
    let placed = c.push_repeated_reserved in
    let all : take c.args.len old ≡ old =
    take_all c.args.len old (omega (arith, c.len-old.ensures.value, c.if-len-old.false)) in
    equal-repeated g.T.Clone.is_clone placed.result (c.args.len - c.len-old.result) equal
    placed.ensures.items c.push_reserved.ensures.items
    (omega arith)
    ∙ (ap (λ xs. xs ++ replicate (c.args.len - c.len-old.result) x)
    (c.reserve.ensures.items ∙ sym all)
    ∙ ap (λ n. take c.args.len old ++ replicate (c.args.len - n) x) c.len-old.ensures.value)

pub returns-clause-err : goal.returns-clause-err
returns-clause-err g c = search (arith, ◌∙◌)

pub returns-in_err-reserve-clause-cost : goal.returns-in_err-reserve-clause-cost
returns-in_err-reserve-clause-cost g c = search (arith, ◌∙◌)

pub returns-in_err-reserve-clause-err : goal.returns-in_err-reserve-clause-err
returns-in_err-reserve-clause-err g c =
    any-err c.from_residual.result (λ _. inl (
      λ room. false≢true
          (c.in_err-reserve.ensures.succeeds (omega (arith, room, c.len-old.ensures.value))),
      c.in_err-reserve.ensures.err,
    ))

pub returns-in_err-reserve-clause-err_items : goal.returns-in_err-reserve-clause-err_items
returns-in_err-reserve-clause-err_items g c = search (arith, ◌∙◌)

pub returns-in_err-reserve-clause-items : goal.returns-in_err-reserve-clause-items
returns-in_err-reserve-clause-items g c = search (arith, ◌∙◌)

pub returns-in_err-reserve-clause-items_if_clones_equal :
    goal.returns-in_err-reserve-clause-items_if_clones_equal
returns-in_err-reserve-clause-items_if_clones_equal g c = search (arith, ◌∙◌)

pub returns-then-len-old-clause-items : goal.returns-then-len-old-clause-items
returns-then-len-old-clause-items g c = grind (arith, common_steps)

pub returns-then-len-old-clause-capacity : goal.returns-then-len-old-clause-capacity
returns-then-len-old-clause-capacity g c =
    capacity-kept (param 0 g.row.T) c.args.self.now g.G.Growth.rule _ c.truncate.new.self
    (omega (arith, c.len-old.ensures.value, c.if-len-old.true, c.len-old.ensures.bounds.room))
    (ap (λ v. v.capacity) c.truncate.ensures.changes)

pub returns-then-len-old-clause-overflow : goal.returns-then-len-old-clause-overflow
returns-then-len-old-clause-overflow g c =
    tells-ok _ _ _ (returns-then-len-old-clause-capacity g c)

pub returns-in_err-reserve-clause-overflow : goal.returns-in_err-reserve-clause-overflow
returns-in_err-reserve-clause-overflow g c =
    subst (λ n. OverflowsIff (capacity_after_reserve g.G.Growth.rule (param 0 g.row.T)
    c.args.self.now (c.args.len - n)) c.from_residual.result) c.len-old.ensures.value
    (search (arith, ◌∙◌))

pub returns-then-push_repeated_reserved-count-clause-err :
    goal.returns-then-push_repeated_reserved-count-clause-err
returns-then-push_repeated_reserved-count-clause-err g c =
    let v = c.args.self.now in
    let named = reserved g.G.Growth.rule (param 0 g.row.T) v c.args.len c.len-old.ensures.value
    c.in_ok-reserve.ensures.capacity in
    let w = c.truncate-then-push_repeated_reserved-count in
    let placed = c.push_repeated_reserved in
    inr (grew g.T.Clone.is_infallible (replicate (c.args.len - length v.items - 1) c.args.value)
    v c.reserve.new.self w.new.self named c.reserve.ensures.items c.in_ok-reserve.ensures.cost
    (ap (λ z. z.capacity) w.ensures.changes ∙ ap (λ z. z.capacity) placed.ensures.changes)
    (cut-back c.reserve.new.self.items placed.ensures.items.copies w.ensures.items
    placed.ensures.items.items
    (c.len-old.ensures.value ∙ ap length (sym c.reserve.ensures.items))) (record {
      at = placed.result;
      in_bounds = omega (arith, length-replicate (c.args.len - length v.items - 1) c.args.value);
      fallible = λ d. subst (λ x. ¬ (g.T.Clone.is_infallible x))
          (sym (get_or-replicate (c.args.len - length v.items - 1) placed.result c.args.value d
          (omega (arith, c.if-push_repeated_reserved-count.true, c.len-old.ensures.value))))
          (placed.ensures.stopped_at c.if-push_repeated_reserved-count.true);
      cost = ap (λ z. z.cost) w.ensures.changes ∙ ap (λ z. z.cost) placed.ensures.changes;
    }))

pub returns-then-push_repeated_reserved-count-clause-overflow :
    goal.returns-then-push_repeated_reserved-count-clause-overflow
returns-then-push_repeated_reserved-count-clause-overflow g c =
    tells-then _ _ (Err OutOfMemory) (reserved g.G.Growth.rule (param 0 g.row.T) c.args.self.now
    c.args.len c.len-old.ensures.value c.in_ok-reserve.ensures.capacity) refl

pub returns-clause-capacity : goal.returns-clause-capacity
returns-clause-capacity g c =
    reserved g.G.Growth.rule (param 0 g.row.T) c.args.self.now c.args.len c.len-old.ensures.value
    (c.in_ok-reserve.ensures.capacity ∙ ap Some (sym (c.push_reserved.ensures.capacity
    ∙ ap (λ z. z.capacity) c.push_repeated_reserved.ensures.changes)))

pub returns-clause-preserved : goal.returns-clause-preserved
returns-clause-preserved g c =
    let placed = c.push_repeated_reserved.ensures in
    keeps-join c.reserve.ensures.preserved
    (keeps-join (keeps-kept (param 0 g.row.T) c.reserve.new.self c.push_repeated_reserved.new.self
    (ap (λ z. z.alloc) placed.changes) (ap (λ z. z.capacity) placed.changes)
    (ap (λ z. z.cost.blocks) placed.changes, ap (λ z. z.cost.grown) placed.changes) placed.bounds)
    c.push_reserved.ensures.preserved)

pub returns-clause-overflow : goal.returns-clause-overflow
returns-clause-overflow g c =
    tells-then _ _ (Ok tt) (reserved g.G.Growth.rule (param 0 g.row.T) c.args.self.now
    c.args.len c.len-old.ensures.value c.in_ok-reserve.ensures.capacity) tt
