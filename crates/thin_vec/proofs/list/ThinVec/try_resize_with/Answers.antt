-- If the list does not become longer, its capacity does not change. Otherwise, `reserve` determines
-- the new capacity, and each iteration of the loop appends one result of `make`.
use Rattle.std.proofs.Common.{◌≡◌, [], ◌∷◌, ◌+◌, ◌-◌, ◌++◌, Ok, Some, ap, append_assoc, arith, inl, inr, length, length-append, of_calls, refl, subst, sym, take, take_all, ◌∙◌}
use Rattle.std.proofs.SliceLists.{chained_more}
use Rattle.std.proofs.iter.Next.{called}
use Rattle.std.proofs.lemmas.Bool.{false≢true}
use Rattle.std.proofs.lemmas.List.{append-nil, length_push}
use Rattle.std.proofs.lemmas.Result.{err_from_is_err_and}
use Rattle.std.specs.Fn.{Called}
use denote.Param.{param}
use Rattle.thin_block.specs.Cost.{add_moves}
use Rattle.thin_vec.specs.List.Capacity.{CostsMoves, FailsForRoom}
use Rattle.thin_vec.specs.ThinVec.{capacity_after_reserve, cost_after_resize}
use Rattle.thin_vec.proofs.RetainLemmas.{moving-more, moving-none}
use Rattle.thin_vec.proofs.edits.SpliceLemmas.{any-err}
use Rattle.thin_vec.proofs.list.ReservesLemmas.{capacity-kept, keeps-join, lacks-room}
use Rattle.thin_vec.proofs.list.ThinVec.try_resize_with.Goals as goal

pub returns-then-len-old-clause-items : goal.returns-then-len-old-clause-items
returns-then-len-old-clause-items g c =
    ([], c.args.make, c.truncate.ensures.items ∙ sym (append-nil _), refl)

pub returns-then-len-old-clause-capacity : goal.returns-then-len-old-clause-capacity
returns-then-len-old-clause-capacity g c =
    capacity-kept (param 0 g.row.T) c.args.self.now g.G.Growth.rule _ c.truncate.new.self
    (omega (arith, c.len-old.ensures.value, c.if-len-old.true, c.len-old.ensures.bounds.room))
    (ap (λ v. v.capacity) c.truncate.ensures.changes)

pub returns-in_err-reserve-clause-items : goal.returns-in_err-reserve-clause-items
returns-in_err-reserve-clause-items g c =
    let old = c.args.self.now.items in
    let all : take c.args.len old ≡ old =
    take_all c.args.len old (omega (arith, c.len-old.ensures.value, c.if-len-old.false)) in
    ([], c.args.make, c.reserve.ensures.items ∙ (sym all ∙ sym (append-nil _)), refl)

pub returns-in_err-reserve-clause-err : goal.returns-in_err-reserve-clause-err
returns-in_err-reserve-clause-err g c =
    let v = c.args.self.now in
    let rule = g.G.Growth.rule in
    let T = param 0 g.row.T in
    let cause = c.in_err-reserve.field-0.0 in
    let failed = c.in_err-reserve.ensures in
    let converted = err_from_is_err_and c.from_residual.result c.from_residual.ensures.1 in
    let why = lacks-room T v rule (c.args.len - c.len-old.result) cause
    (λ room. false≢true (failed.succeeds room)) failed.overflow.overflow in
    rw converted.1 (inl (
      cause,
      subst (λ n. FailsForRoom rule T v (c.args.len - n) cause) c.len-old.ensures.value why,
      converted.2,
      failed.err,
    ))

pub returns-in_err-reserve-clause-err_len : goal.returns-in_err-reserve-clause-err_len
returns-in_err-reserve-clause-err_len g c =
    any-err c.from_residual.result (λ _. omega (
      arith,
      ap length c.reserve.ensures.items,
      c.len-old.ensures.value,
      c.if-len-old.false,
    ))

pub loop-make-init : goal.loop-make-init
loop-make-init g c =
    let v = c.args.self.now in
    let old = c.len-old.ensures.value in
    let same = ap length c.reserve.ensures.items in
    record {
      within = omega (arith, same, old, c.if-len-old.false);
      room = omega (arith, c.in_ok-reserve.ensures.room, same, old, c.if-len-old.false);
      made = (
        [],
        c.reserve.ensures.items ∙ sym (append-nil v.items),
        c.in_ok-reserve.ensures.cost ∙ sym (moving-none _),
        refl,
      );
      capacity = ap (λ n. capacity_after_reserve g.G.Growth.rule (param 0 g.row.T) v
          (c.args.len - n)) (sym old) ∙ c.in_ok-reserve.ensures.capacity;
      had_room = λ room. ap (λ z. z.capacity)
          (c.reserve.ensures.had_room (omega (arith, room, old)));
      preserved = c.reserve.ensures.preserved;
      callable = search of_calls;
    }

pub loop-make-preserved : goal.loop-make-preserved
loop-make-preserved g c =
    let v = c.args.self.now in
    let was = c.loop-make.invariant in
    let xs = was.made.0 in
    let x = c.in_ok-item.item in
    let put = c.push_reserved.ensures in
    let one : length xs + 1 ≡ length (xs ++ x ∷ []) = omega (arith, length_push xs x) in
    record {
      within = omega (arith, put.len, c.loop-make-test.true);
      room = omega (arith, was.room, put.capacity);
      made = (
        xs ++ x ∷ [],
        put.items ∙ (ap (λ l. l ++ x ∷ []) was.made.1 ∙ append_assoc v.items xs (x ∷ [])),
        put.cost
            ∙ (ap (add_moves 1) was.made.2
            ∙ (moving-more 1 (length xs) (cost_after_resize v c.loop-make.self.capacity)
            ∙ (λ i. add_moves (one i) (cost_after_resize v (sym put.capacity i))))),
        chained_more (λ f y f'. Called g.F.FnMut f tt (Ok y) f') c.args.make xs c.loop-make.make x
            _ was.made.3
            (subst (λ r. Called g.F.FnMut c.loop-make.make tt r c.make.new.self) c.in_ok-item.was
            (called g.F.FnMut c.make.ensures refl)),
      );
      capacity = was.capacity ∙ ap Some (sym put.capacity);
      had_room = λ room. put.capacity ∙ was.had_room room;
      preserved = keeps-join was.preserved put.preserved;
      callable = search of_calls;
    }

pub returns-in_err-item-clause-items : goal.returns-in_err-item-clause-items
returns-in_err-item-clause-items g c =
    let was = c.loop-make.invariant in
    let old = c.args.self.now.items in
    let all : take c.args.len old ≡ old =
    take_all c.args.len old (omega (arith, c.len-old.ensures.value, c.if-len-old.false)) in
    (was.made.0, c.loop-make.make, was.made.1 ∙ ap (λ l. l ++ was.made.0) (sym all), was.made.3)

pub returns-in_err-item-clause-err : goal.returns-in_err-item-clause-err
returns-in_err-item-clause-err g c =
    let was = c.loop-make.invariant in
    let error = err_from_is_err_and c.from_residual-in_err-item.result
    c.from_residual-in_err-item.ensures.1 in
    rw (error.1, error.2) (inr (record {
      made = was.made.0;
      items = was.made.1;
      capacity = was.capacity;
      cost = was.made.2;
      before = c.loop-make.make;
      calls = was.made.3;
      after = c.make.new.self;
      failed = subst (λ r. Called g.F.FnMut c.loop-make.make tt r c.make.new.self)
          c.in_err-item.was (called g.F.FnMut c.make.ensures refl);
    }))

pub returns-in_err-item-clause-err_len : goal.returns-in_err-item-clause-err_len
returns-in_err-item-clause-err_len g c =
    any-err c.from_residual-in_err-item.result (λ _. omega (arith, c.loop-make-test.true))

pub returns-clause-items : goal.returns-clause-items
returns-clause-items g c =
    let was = c.loop-make.invariant in
    let old = c.args.self.now.items in
    let all : take c.args.len old ≡ old =
    take_all c.args.len old (omega (arith, c.len-old.ensures.value, c.if-len-old.false)) in
    (was.made.0, c.loop-make.make, was.made.1 ∙ ap (λ l. l ++ was.made.0) (sym all), was.made.3)

pub returns-clause-len : goal.returns-clause-len
returns-clause-len g c =
    omega (arith, c.loop-make.invariant.within, c.loop-make-test.false)

pub returns-clause-cost : goal.returns-clause-cost
returns-clause-cost g c =
    let was = c.loop-make.invariant in
    let v = c.args.self.now in
    let count : length was.made.0 ≡ c.args.len - length v.items =
    omega (
      arith,
      was.within,
      c.loop-make-test.false,
      ap length was.made.1,
      length-append v.items was.made.0,
    ) in
    subst (λ n. CostsMoves n v c.loop-make.self) count was.made.2
