-- When the borrow ends, the item at `index` is the value that was written through the reference.
use Rattle.std.proofs.Common.{◌≡◌, ap, arith, drop, get_or, length, refl, sym, take, ◌∙◌}
use Rattle.std.proofs.lemmas.List.{get_or_at, length-take-le, set_at}
use Rattle.std.proofs.lemmas.Option.{none-some}
use lib.ListN.{length-set, set}
use Rattle.thin_vec.proofs.BoundsLemmas.{bounds-like}
use Rattle.thin_vec.proofs.list.ThinVec.insert_mut.Goals as goal

pub returns : goal.returns
returns g c =
    let xs = c.args.self.now.items in
    let i = c.args.index in
    let v = c.args.value in
    let new = c.insert.new.self in
    let put = c.in_ok-insert.ensures.items in
    let at : length (take i xs) ≡ i = length-take-le i xs c.requires.in_bounds in
    let y = c.index_mut.result.now in
    let kept = c.insert.ensures.preserved in (
      (
        refl,
        λ w _. record {
          items = ap (λ l. set l i w) put ∙ set_at (take i xs) v (drop i xs) w i at;
          capacity = c.in_ok-insert.ensures.capacity;
          cost = c.in_ok-insert.ensures.cost;
          had_room = c.insert.ensures.had_room;
          preserved = record {
            alloc = kept.alloc;
            never_less = kept.never_less;
            cheap = kept.cheap;
            within = (
              kept.within.0,
              bounds-like _ _ new kept.within.1 refl
                  (omega (arith, length-set new.items i w, kept.within.1.room)),
            );
          };
        },
        tt,
      ),
      record {
        writes_back = tt;
        value = c.index_mut.ensures.value
            ∙ (ap (λ l. get_or l i y) put ∙ get_or_at (take i xs) v (drop i xs) y i at);
        succeeds = λ _. refl;
        overflow = λ none. absurd (none-some _ (sym none ∙ c.in_ok-insert.ensures.capacity));
        cause = tt;
        value_returned = tt;
        bounds_before = kept.within.0;
      },
    )
