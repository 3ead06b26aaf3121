-- The second exchange undoes the first (`replaced-undone`), and cannot fail: both lists have had
-- room for their old items.
use Rattle.std.proofs.Common.{◌≡◌, ℕ, ◌+◌, ◌-◌, ◌≤◌, ◌∙◌, ◌++◌, List, Result, Ok, Err, IsOk, OnOk, ap, arith, drop, length, length-append, slice_range, take, true≢false, sym}
use Rattle.std.proofs.lemmas.List.{length-drop, length-take-le}
use Rattle.std.specs.List.{replace_range}
use Rattle.thin_vec.proofs.CallerLemmas.{replaced-range, replaced-undone}
use Rattle.thin_examples.proofs.replace.swap_back.Goals as goal

given : {T E P : Type 0} (r : Result T E) → IsOk r → OnOk r P → P
given (Ok x) ok p = p
given (Err e) ok p = absurd (true≢false (sym ok))

lengths : {T : Type 0} (xs new : List T) (i j : ℕ) → i ≤ j → j ≤ length xs
    → (length (replace_range xs i j new) + (j - i) ≡ length xs + length new)
    × (length (slice_range xs i j) ≡ j - i)
lengths xs new i j order within = (
  omega (
    arith,
    order,
    within,
    length-append (take i xs ++ new) (drop j xs),
    length-append (take i xs) new,
    length-take-le i xs (omega (arith, order, within)),
    length-drop j xs,
  ),
  length-take-le (j - i) (drop i xs) (omega (arith, order, within, length-drop i xs)),
)

undone : (g : _) (c : goal.After-swap_range-2 g)
    → (c.swap_range-2.new.self.items ≡ c.args.lines.now.items)
    × (c.swap_range-2.new.other.items ≡ c.args.other.now.items)
undone g c =
    let xs = c.args.lines.now.items in
    let new = c.args.other.now.items in
    let i = c.args.start in
    let j = c.args.end in
    let order = c.requires.start_le_end in
    let within = c.requires.in_bounds in
    let first = c.in_ok-swap_range.ensures in
    let again = c.swap_range-2.ensures in
    let count = c.len-count.ensures.value in
    let sizes = lengths xs new i j order within in
    let length-own = ap length first.items in
    let length-others = ap length first.other_items in
    let own = first.preserved in
    let others = first.other_preserved in
    let ok = again.succeeds
    (omega (
      arith,
      count,
      order,
      sizes.0,
      sizes.1,
      length-own,
      length-others,
      own.never_less,
      own.within.0.room,
      own.within.1.room,
    ))
    (omega (
      arith,
      count,
      order,
      sizes.1,
      length-others,
      others.never_less,
      others.within.0.room,
      others.within.1.room,
    )) in (
      given _ ok again.items
          ∙ ((λ k. replace_range (first.items k) i (i + count k) (first.other_items k))
          ∙ replaced-undone xs new i j order within),
      given _ ok again.other_items
          ∙ ((λ k. slice_range (first.items k) i (i + count k))
          ∙ replaced-range xs new i j order within),
    )

pub returns-clause-items : goal.returns-clause-items
returns-clause-items g c = (undone g c).0

pub returns-clause-other_items : goal.returns-clause-other_items
returns-clause-other_items g c = (undone g c).1
