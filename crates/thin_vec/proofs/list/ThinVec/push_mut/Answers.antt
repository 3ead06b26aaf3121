-- When the borrow ends, the last item of the list is the final value of the reference.
use Rattle.std.proofs.Common.{[], ap, arith, get_or, refl, sym, ◌∙◌}
use Rattle.std.proofs.lemmas.List.{get_or_at, set_at}
use Rattle.std.proofs.lemmas.Option.{none-some}
use lib.ListN.{length-set, set}
use Rattle.thin_vec.proofs.BoundsLemmas.{bounds-like}
use Rattle.thin_vec.proofs.list.ThinVec.push_mut.Goals as goal

pub returns : goal.returns
returns g c =
    let xs = c.args.self.now.items in
    let i = c.len-len.result in
    let v = c.args.value in
    let new = c.push.new.self in
    let put = c.in_ok-push.ensures.items in
    let at = sym c.len-len.ensures.value in
    let y = c.index_mut.result.now in
    let kept = c.push.ensures.preserved in (
      (
        refl,
        λ w _. record {
          items = ap (λ l. set l i w) put ∙ set_at xs v [] w i at;
          capacity = c.in_ok-push.ensures.capacity;
          cost = c.in_ok-push.ensures.cost;
          had_room = c.push.ensures.had_room;
          preserved = record {
            alloc = kept.alloc;
            never_less = kept.never_less;
            cheap = kept.cheap;
            within = (
              kept.within.0,
              bounds-like _ _ new kept.within.1 refl
                  (omega (arith, length-set new.items i w, kept.within.1.room)),
            );
          };
        },
        tt,
      ),
      record {
        writes_back = tt;
        value = c.index_mut.ensures.value
            ∙ (ap (λ l. get_or l i y) put ∙ get_or_at xs v [] y i at);
        succeeds = λ _. refl;
        overflow = λ none. absurd (none-some _ (sym none ∙ c.in_ok-push.ensures.capacity));
        cause = tt;
        value_returned = tt;
        bounds_before = kept.within.0;
      },
    )
