-- Each iteration adds a clone of the next row. The rows fit into a block, because the rows of the
-- table do.
use Rattle.std.proofs.Common.{arith, refl, subst, take_all, ◌∙◌}
use Rattle.std.proofs.lemmas.List.Elements.{all_zip_more}
use Rattle.thin_rows.specs.Table.{IsClonedRow, IsClonedTable}
use Rattle.thin_rows.proofs.ClonesLemmas.{same_table}
use Rattle.thin_rows.proofs.RowTypeLemmas.{cause_if_fits, cause_passed}
use Rattle.thin_rows.proofs.table.Rows.clone.Goals as goal

pub returns-in_err-rows-clause-cause : goal.returns-in_err-rows-clause-cause
returns-in_err-rows-clause-cause g c =
    cause_passed c.from_residual.result c.in_err-rows.field-0.0 c.from_residual.ensures.1
    (cause_if_fits _ _ _ c.len.result c.in_err-rows.field-0.0 refl refl c.len.ensures.fits
    c.in_err-rows.ensures.overflow)

pub loop-source-preserved : goal.loop-source-preserved
loop-source-preserved g c =
    let before = c.loop-source.invariant in
    let told = c.push_reserved.ensures in (
      rw told.items (all_zip_more (IsClonedRow g.V.Clone.is_clone) c.as_slice-sources.result.now
          c.loop-source.rows.items c.loop-source.source-index _ _ c.loop-source-test.true
          c.source-item.is before.0 c.in_ok-clone.ensures.entries),
      omega (arith, told.len, before.1),
      told.capacity ∙ before.2,
    )

pub returns-clause-table_if_clones_equal : goal.returns-clause-table_if_clones_equal
returns-clause-table_if_clones_equal g c equal =
    let rows = c.loop-source.rows.items in
    same_table g.V.Clone.is_clone equal c.args.self.now rows
    (subst (λ sources. IsClonedTable g.V.Clone.is_clone sources rows)
    (take_all c.loop-source.source-index c.as_slice-sources.result.now c.loop-source-test.false
    ∙ (c.as_slice-sources.ensures.value ∙ c.self.view_is))
    c.loop-source.invariant.0)
