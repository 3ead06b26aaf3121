-- The search is correct because the columns of the entries are strictly increasing.
use Rattle.std.proofs.Common.{rules}
use Rattle.std.proofs.lemmas.List.Sorted.{answers_always}
use Rattle.thin_rows.proofs.EntriesLemmas.{searched}
use Rattle.thin_rows.proofs.row.search.Goals as goal

pub returns : goal.returns
returns g c =
    let told = c.binary_search_by_key.ensures in
    let by_column = told.position (λ entry. entry.0)
    (answers_always _ _ _ (λ f a r h called. search rules)) in
    let place = searched c.args.column c.args.entries.now c.requires.sorted
    c.binary_search_by_key.result told.bound by_column in
    record { ok = place.0; err = place.1 }
