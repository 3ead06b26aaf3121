-- The closure of `hand_over_odd` tests whether a number is odd, so `filter` says what is moved.
use Rattle.std.proofs.Common.{ℕ, ◌%◌, ◌==◌, ◌-◌, ◌++◌, Bool, ap, arith, rules, ◌∙◌}
use Rattle.std.proofs.lemmas.List.{append-nil, drop_all, take_all}
use Rattle.std.specs.Prelude.{filter, not}
use Rattle.thin_vec.proofs.EditLemmas.{extracts_filter}
use Rattle.thin_examples.proofs.transfer.hand_over_odd.Goals as goal

-- `odd number` is true if `number` is odd.
abbrev odd : ℕ → Bool
odd number = number % 2 == 1

pub returns-clause-items : goal.returns-clause-items
returns-clause-items g c =
    let m = c.in_ok-hand_over_where.ensures.moved in
    let xs = c.args.list.now.items in
    let said = extracts_filter _ odd (λ s x b t y k. search rules) _ _ m.0 m.1 m.2 m.3 in
    let all = take_all (c.len-len.result - 0) xs (omega (arith, c.len-len.ensures.value)) in
    let last = drop_all c.len-len.result xs (omega (arith, c.len-len.ensures.value)) in
    m.4
    ∙ ((λ i. said.1 i ++ last i)
    ∙ (append-nil _ ∙ ap (filter (λ number. not (odd number))) all))

pub returns-clause-other_items : goal.returns-clause-other_items
returns-clause-other_items g c =
    let m = c.in_ok-hand_over_where.ensures.moved in
    let xs = c.args.list.now.items in
    let said = extracts_filter _ odd (λ s x b t y k. search rules) _ _ m.0 m.1 m.2 m.3 in
    let all = take_all (c.len-len.result - 0) xs (omega (arith, c.len-len.ensures.value)) in
    m.5 ∙ ap (λ l. c.args.other.now.items ++ l) (said.0 ∙ ap (filter odd) all)
