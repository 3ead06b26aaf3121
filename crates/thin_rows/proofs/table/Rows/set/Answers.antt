-- If `set` fails on the row, the table does not change.
use Rattle.std.proofs.Common.{◌≡◌, subst, ℕ, List, OnErr, Result, Ok, Err, Some, slice_get, slice_set, sym, ap, ◌∙◌}
use Rattle.std.proofs.lemmas.List.{set-get_or}
use Rattle.std.proofs.lemmas.Option.{get_or_from_slice_get}
use denote.Param.{param}
use Rattle.std.specs.FinMap as map
use Rattle.thin_vec.specs.List.Capacity.{OverflowsIff, map_cause}
use Rattle.thin_rows.specs.EntryType.{capacity_after_insert}
use Rattle.thin_rows.specs.Table.{row_at}
use Rattle.thin_rows.proofs.table.Rows.set.Goals as goal

left : {X Y E : Type 0} (result : Result Y E) (xs : List X) (i : ℕ) (old new : X)
    → slice_get xs i ≡ Some old → OnErr result (new ≡ old) → OnErr result (slice_set xs i new ≡ xs)
left (Ok _) xs i old new there same = tt
left (Err _) xs i old new there same = ap (slice_set xs i) (same
    ∙ sym (get_or_from_slice_get xs i old old there)) ∙ set-get_or xs i old

pub returns-clause-err : goal.returns-clause-err
returns-clause-err g c =
    rw (← c.self.view_is)
    (left c.set.result c.self.inside.rows.items c.args.row c.index_mut.result.now
    c.set.new.self c.index_mut.ensures.found c.set.ensures.err)

pub returns-clause-overflow : goal.returns-clause-overflow
returns-clause-overflow g c =
    let table = c.self.inside.rows.items in
    let there : row_at table c.args.row ≡ c.index_mut.result.now =
    get_or_from_slice_get table c.args.row c.index_mut.result.now map.empty
    c.index_mut.ensures.found in
    rw (← c.self.view_is)
    (subst (λ row. OnErr c.set.result (OverflowsIff
    (capacity_after_insert (param 0 g.row.V) (map.len row)) (map_cause c.set.result)))
    (sym there) c.set.ensures.overflow)
