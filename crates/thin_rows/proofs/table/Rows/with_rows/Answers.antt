-- `Row` and the type in the contract of `with_capacity` have the same size and alignment.
use Rattle.std.proofs.Common.{◌≡◌, ◌∙◌, ap, arith, refl, replicate}
use Rattle.std.specs.FinMap as map
use Rattle.thin_rows.proofs.RowTypeLemmas.{error_tells, made_tells}
use Rattle.thin_rows.proofs.table.Rows.with_rows.Goals as goal

pub returns-clause-table : goal.returns-clause-table
returns-clause-table g c =
    let all : c.loop.counter ≡ c.args.rows = omega
    (arith, c.loop-test.false, c.loop.auto.counter-end) in
    c.loop.invariant.0 ∙ ap (λ n. replicate n map.empty) all

pub returns-in_err-empty_rows-clause-overflow : goal.returns-in_err-empty_rows-clause-overflow
returns-in_err-empty_rows-clause-overflow g c =
    error_tells _ _ c.args.rows c.in_err-empty_rows.field-0.0 c.from_residual.result refl refl
    c.from_residual.ensures.1 c.in_err-empty_rows.ensures.overflow

pub returns-clause-overflow : goal.returns-clause-overflow
returns-clause-overflow g c =
    made_tells _ _ c.args.rows _ _ refl refl c.in_ok-empty_rows.ensures.overflow
