-- `answers` contains the results so far, and has room for those of the remaining calls.
use Rattle.std.proofs.Common.{◌≡◌, ◌++◌, ◌≤◌, ◌+◌, ◌-◌, drop, take, false, slice_range, vec_len}
use Rattle.std.specs.Vec.{vec_capacity}
use Rattle.thin_vec.specs.Edits.ExtractIf.{extract_block, extract_closure, extract_lender, extract_rest, list_after_extract_if}
use Rattle.thin_vec.specs.Edits.Retain.{items_where}
use Rattle.thin_runner.specs.commands.Filters.{extract_results}
use Rattle.thin_runner.proofs.CallbackExtractLemmas.{IsExtracting, handed_out}
use Rattle.thin_runner.proofs.context.Context.extract_if.Given as goal

abbrev pub invariant-loop : goal.invariant-loop
invariant-loop g l =
    let ask = g.J.Judge.model.take in
    let results = extract_results ask l.fn.self.judge l.fn.count
    (slice_range l.fn.list.items l.fn.start l.fn.end) in
    let left = extract_results ask (extract_closure l.extract).0 (l.fn.count - l.counter)
    (extract_rest l.extract) in
    record {
      room : vec_len l.answers + (l.fn.count - l.counter) ≤ vec_capacity l.answers;
      answers : l.answers.items ++ handed_out (l.fn.count - l.counter) (items_where false left)
          ≡ handed_out l.fn.count (items_where false results);
      extracting : IsExtracting results (take l.fn.start l.fn.list.items) l.fn.list.cost (record {
        left = left;
        front = (extract_block l.extract).front;
        out = (extract_block l.extract).gap_before;
        paid = (extract_block l.extract).cost;
      });
      tail : (extract_block l.extract).tail ≡ drop l.fn.end l.fn.list.items;
      lender : extract_lender l.extract ≡ extract_lender l.initial.extract;
      capacity : (list_after_extract_if l.extract).capacity ≡ l.fn.list.capacity;
      alloc : (list_after_extract_if l.extract).alloc ≡ l.fn.list.alloc;
    }
