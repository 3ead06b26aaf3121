-- After `splice_by`, the list has the value that `finish` has written to it.
use Rattle.std.proofs.Common.{◌≡◌, ◌++◌, List, Option, drop, rules, subst, take}
use Rattle.std.specs.Iterator.Runs.{WholeRun}
use Rattle.std.specs.Prelude.{OnOk}
use Rattle.std.specs.declared.result.Result.{Result}
use Rattle.thin_examples.proofs.replace.splice_by.Goals as goal

-- The statement "if `r` is `Ok`, then `items` consists of `front`, all items that `s` yields, and
-- `tail`, in this order" remains true if `s`, `front` and `tail` are replaced with equal values.
run_between : {S T X E : Type 0} (steps : S → Option T → S → Type 0) (r : Result X E)
    (items : List T) {s s' : S} {front front' tail tail' : List T} → s ≡ s' → front ≡ front'
    → tail ≡ tail' → OnOk r (WholeRun steps s (λ p. items ≡ (front ++ p.items) ++ tail))
    → OnOk r (WholeRun steps s' (λ p. items ≡ (front' ++ p.items) ++ tail'))
run_between {S} {T} steps r items same first last run =
    subst (λ (u : S × (List T × List T)). OnOk r (WholeRun steps u.0
    (λ p. items ≡ (u.1.0 ++ p.items) ++ u.1.1))) (λ i. (same i, (first i, last i))) run

pub returns : goal.returns
returns g c =
    let steps = g.I.Iterator.next_gives in
    let old = c.args.list.now.items in
    let left : c.finish.new.self.0 ≡ c.list-1.given.0 = search rules in
    record {
      runs = subst (λ list. OnOk c.finish.result (WholeRun steps c.args.iter
          (λ p. list.items ≡ (take c.args.range.0 old ++ p.items) ++ drop c.args.range.1 old)))
          left
          (run_between steps c.finish.result c.finish.new.self.0.items c.splice.ensures.value
          c.splice.ensures.front c.splice.ensures.tail c.finish.ensures.runs);
    }
