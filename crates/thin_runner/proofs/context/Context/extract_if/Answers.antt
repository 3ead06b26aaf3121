-- Each call to `next` asks the judge in the closure. The items that were not tested stay in the
-- list.
use Rattle.std.proofs.Common.{ℕ, ◌≡◌, ◌+◌, ◌-◌, ◌++◌, ◌∷◌, [], false, suc, take, slice_range, ap, arith, length, refl, rules, sym, ◌∙◌, append_assoc}
use Rattle.std.proofs.lemmas.List.{append-nil}
use Rattle.std.specs.Prelude.{◌==◌, if◌then◌else◌}
use Rattle.thin_vec.specs.Cost.{add_moves}
use Rattle.thin_vec.specs.Edits.ExtractIf.{extract_block, extract_closure, extract_rest}
use Rattle.thin_vec.specs.Edits.Retain.{items_where, all_kept}
use Rattle.thin_runner.specs.commands.Filters.{extract_results}
use Rattle.thin_runner.proofs.CallbackExtractLemmas.{extracting-ends, extracting-none, extracting-step, extracts-by, goes, handed-by, handed_out}
use Rattle.thin_runner.proofs.context.Context.extract_if.Goals as goal

pub loop-init : goal.loop-init
loop-init g c =
    let ask = g.J.Judge.model.take in
    let a = c.args in
    let e = c.extract_if-extract.ensures in
    let extract = c.extract_if-extract.result in
    let block = extract_block extract in
    let free : block.cost ≡ a.list.now.cost =
    sym (ap (λ n. if n == 0 then block.cost else add_moves
    (length block.middle + length block.tail) block.cost) e.gap)
    ∙ ap (λ v. v.cost) e.after_drop in
    let results =
    extract_results ask a.self.judge a.count (slice_range a.list.now.items a.start a.end) in
    let all : a.count - 0 ≡ a.count = omega arith in
    let none : c.reserve.new.self.items ≡ [] = c.reserve.ensures.items
    ∙ c.new-answers.ensures.items in
    let same : extract_results ask (extract_closure extract).0 (a.count - 0) (extract_rest extract)
    ≡ results =
    λ i. extract_results ask (e.value i).0 (all i) (e.rest i) in
    record {
      room = omega (arith, c.in-Ok.ensures.ok, c.reserve.ensures.len, c.new-answers.ensures.len);
      answers = λ i. none i ++ handed_out (all i) (items_where false (same i));
      extracting = extracting-none results (take a.start a.list.now.items) a.list.now.cost
          _ same e.front e.gap free;
      tail = e.tail;
      lender = refl;
      capacity = ap (λ v. v.capacity) e.after_drop;
      alloc = ap (λ v. v.alloc) e.after_drop;
    }

pub loop-preserved : goal.loop-preserved
loop-preserved g c =
    let ask = g.J.Judge.model.take in
    let a = c.args in
    let at = c.loop.invariant in
    let steps = c.next.ensures.steps in
    let s = steps.extracts in
    let was = c.loop.extract in
    let now = c.next.new.self in
    let k = a.count - (c.loop.counter + 1) in
    let results =
    extract_results ask a.self.judge a.count (slice_range a.list.now.items a.start a.end) in
    let one : a.count - c.loop.counter ≡ suc k = omega (arith, c.loop-test.true) in
    let left = extract_results ask (extract_closure now).0 k (extract_rest now) in
    let next : extract_results ask (extract_closure was).0 (a.count - c.loop.counter)
    (extract_rest was)
    ≡ all_kept s.kept ++ (goes c.next.result ++ left) =
    ap (λ n. extract_results ask (extract_closure was).0 n (extract_rest was)) one
    ∙ extracts-by _ (λ f. f.0) ask
    (λ f x b f' y called. ap (λ z. (b, z, f'.0)) (sym called.leaves)
    ∙ (called.called.met ∙ ap (ask f.0) called.shows)) _ k _ _ _ _ s.kept s.asked in
    let handed : handed_out (a.count - c.loop.counter)
    (items_where false (extract_results ask (extract_closure was).0 (a.count - c.loop.counter)
    (extract_rest was)))
    ≡ c.next.result ∷ handed_out k (items_where false left) =
    ap (λ n. handed_out n (items_where false
    (extract_results ask (extract_closure was).0 n (extract_rest was)))) one
    ∙ handed-by _ (λ f. f.0) ask
    (λ f x b f' y called. ap (λ z. (b, z, f'.0)) (sym called.leaves)
    ∙ (called.called.met ∙ ap (ask f.0) called.shows)) _ k _ _ _ _ s.kept s.asked in
    record {
      room = omega (
        arith,
        c.in-Ok-push.ensures.len,
        c.in-Ok-push.ensures.capacity,
        at.room,
        c.loop-test.true,
      );
      answers = ap (λ l. l ++ handed_out k (items_where false left)) c.in-Ok-push.ensures.items
          ∙ (append_assoc c.loop.answers.items (c.next.result ∷ [])
          (handed_out k (items_where false left))
          ∙ (ap (λ l. c.loop.answers.items ++ l) (sym handed) ∙ at.answers));
      extracting = extracting-step results (take a.start a.list.now.items) a.list.now.cost
          _ _ s.kept c.next.result at.extracting next s.front s.gap_before s.cost;
      tail = s.tail ∙ at.tail;
      lender = steps.lender ∙ at.lender;
      capacity = ap (λ v. v.capacity) steps.after_drop ∙ at.capacity;
      alloc = ap (λ v. v.alloc) steps.after_drop ∙ at.alloc;
    }

pub returns : goal.returns
returns g c =
    let ask = g.J.Judge.model.take in
    let a = c.args in
    let at = c.loop.invariant in
    let end = c.loop.extract in
    let results =
    extract_results ask a.self.judge a.count (slice_range a.list.now.items a.start a.end) in
    let none : a.count - c.loop.counter ≡ 0 =
    omega (arith, c.loop-test.false, c.loop.auto.counter-end) in
    let left = λ (n : ℕ). extract_results ask (extract_closure end).0 n (extract_rest end) in
    let stays : left (a.count - c.loop.counter) ≡ all_kept (extract_rest end) = ap left none in
    let all = sym (append-nil c.loop.answers.items)
    ∙ (sym (ap (λ n. c.loop.answers.items ++ handed_out n (items_where false (left n))) none)
    ∙ at.answers) in
    record {
      allowed = (
        (c.requires.start_le_end, c.requires.in_bounds),
        (
          all,
          extracting-ends a.list.now _ a.start a.end results _ (extract_rest end)
              (extract_block end).tail
              at.extracting stays at.tail (record {
                items = search rules;
                cost = search rules;
                capacity = search rules;
                alloc = search rules;
              }),
        ),
      );
    }
