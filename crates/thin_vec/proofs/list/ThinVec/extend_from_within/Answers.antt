-- If all items of the range can be cloned, their clones are appended. If every clone equals its
-- original, the appended items are the items of the range.
use Rattle.std.proofs.Common.{◌++◌, ap, arith, inl, inr, length, subst, sym, take_all, ◌∙◌}
use Rattle.std.proofs.lemmas.Bool.{false≢true}
use Rattle.std.proofs.lemmas.List.Elements.{same_from_all_zip}
use Rattle.std.specs.List.{AllZip}
use Rattle.std.specs.Prelude.{All, HoldsAt, slice_range}
use Rattle.thin_vec.proofs.edits.SpliceLemmas.{any-err}
use Rattle.thin_vec.proofs.list.ClonesLemmas.{cut-back, grew, length-range, not-all}
use Rattle.thin_vec.proofs.list.ThinVec.extend_from_within.Goals.{After-truncate}
use Rattle.thin_vec.proofs.list.ThinVec.extend_from_within.Goals as goal

-- If no clone can fail, the loop makes all clones.
fails : (g : _) (c : After-truncate g) → All g.T.Clone.is_infallible
    (slice_range c.args.self.now.items c.args.start c.args.end) → ⊥
fails g c all =
    let same = c.reserve.ensures.items in
    let xs = c.reserve.new.self.items in
    let less = c.if-push_clones_within-end.true in
    not-all g.T.Clone.is_infallible (slice_range xs c.args.start c.args.end)
    c.push_clones_within.result
    (omega (
      arith,
      length-range xs c.args.start c.args.end
          (omega (arith, ap length same, c.requires.in_bounds)),
    ))
    (c.push_clones_within.ensures.stopped_at less)
    (subst (λ l. All g.T.Clone.is_infallible (slice_range l c.args.start c.args.end)) (sym same)
    all)

pub returns-then-push_clones_within-end-clause-succeeds :
    goal.returns-then-push_clones_within-end-clause-succeeds
returns-then-push_clones_within-end-clause-succeeds g c = λ _ all. absurd (fails g c all)

pub returns-then-push_clones_within-end-clause-err :
    goal.returns-then-push_clones_within-end-clause-err
returns-then-push_clones_within-end-clause-err g c =
    let v = c.args.self.now in
    let range = slice_range v.items c.args.start c.args.end in
    let placed = c.push_clones_within in
    let less = c.if-push_clones_within-end.true in
    inr (grew g.T.Clone.is_infallible range v c.reserve.new.self c.truncate.new.self
    c.in_ok-reserve.ensures.capacity c.reserve.ensures.items c.in_ok-reserve.ensures.cost
    (ap (λ z. z.capacity) c.truncate.ensures.changes ∙ ap (λ z. z.capacity) placed.ensures.changes)
    (cut-back c.reserve.new.self.items placed.ensures.items.0 c.truncate.ensures.items
    placed.ensures.items.1 c.len-len.ensures.value) (record {
      at = placed.result;
      in_bounds = omega (arith, length-range v.items c.args.start c.args.end c.requires.in_bounds);
      fallible = subst (λ l. HoldsAt (λ x. ¬ (g.T.Clone.is_infallible x))
          (slice_range l c.args.start c.args.end) placed.result) c.reserve.ensures.items
          (placed.ensures.stopped_at less);
      cost = ap (λ z. z.cost) c.truncate.ensures.changes
          ∙ ap (λ z. z.cost) placed.ensures.changes;
    }))

pub returns-then-push_clones_within-end-clause-err_if_infallible :
    goal.returns-then-push_clones_within-end-clause-err_if_infallible
returns-then-push_clones_within-end-clause-err_if_infallible g c = λ all. absurd (fails g c all)

pub returns-clause-items : goal.returns-clause-items
returns-clause-items g c =
    let same = c.reserve.ensures.items in
    let placed = c.push_clones_within.ensures.items in
    let range = slice_range c.reserve.new.self.items c.args.start c.args.end in (
      placed.0,
      placed.1 ∙ ap (λ l. l ++ placed.0) same,
      subst (λ l. AllZip g.T.Clone.is_clone l placed.0)
          (take_all c.push_clones_within.result range (omega (
            arith,
            length-range c.reserve.new.self.items c.args.start c.args.end
                (omega (arith, ap length same, c.requires.in_bounds)),
          )) ∙ ap (λ l. slice_range l c.args.start c.args.end) same)
          placed.2,
    )

pub returns-clause-items_if_clones_equal : goal.returns-clause-items_if_clones_equal
returns-clause-items_if_clones_equal g c = λ equal.
    let placed = returns-clause-items g c in
    placed.1 ∙ ap (λ ys. c.args.self.now.items ++ ys)
    (same_from_all_zip g.T.Clone.is_clone _ placed.0 placed.2 equal)

pub returns-in_err-reserve-clause-err : goal.returns-in_err-reserve-clause-err
returns-in_err-reserve-clause-err g c =
    any-err c.from_residual.result (λ _. inl (
      λ room. false≢true (c.in_err-reserve.ensures.succeeds room),
      c.in_err-reserve.ensures.err,
    ))
