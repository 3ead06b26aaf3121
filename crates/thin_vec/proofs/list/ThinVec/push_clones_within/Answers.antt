-- Appending the clone of an item does not change the items of the range.
use Rattle.std.proofs.Common.{[], ◌∷◌, ◌+◌, ◌++◌, ap, append_assoc, arith, get_or, length, ◌∙◌}
use Rattle.std.proofs.lemmas.List.{length_push}
use Rattle.std.proofs.lemmas.List.Elements.{all_zip_more}
use Rattle.std.specs.Prelude.{slice_range}
use Rattle.thin_block.specs.Cost.{add_moves}
use Rattle.thin_vec.proofs.RetainLemmas.{moving-more}
use Rattle.thin_vec.proofs.list.ClonesLemmas.{get-range, length-range}
use Rattle.thin_vec.proofs.list.ThinVec.push_clones_within.Goals as goal

pub loop-i-preserved : goal.loop-i-preserved
loop-i-preserved g c =
    let was = c.loop-i.invariant in
    let xs = c.args.self.now.items in
    let i = c.loop-i.i in
    let x = c.index.result.now in
    let y = c.in-Ok.item in
    let clones = was.items.0 in
    let pushed = c.push_reserved.ensures in
    let is = get-range xs c.args.start c.args.end c.requires.in_bounds clones i x (omega arith)
    (c.index.ensures ∙ ap (λ l. get_or l (c.args.start + i) x) was.items.1) in
    record {
      items = (
        clones ++ y ∷ [],
        pushed.items ∙ (ap (λ l. l ++ y ∷ []) was.items.1 ∙ append_assoc xs clones (y ∷ [])),
        all_zip_more g.T.Clone.is_clone (slice_range xs c.args.start c.args.end) clones i x y
            (omega (arith, length-range xs c.args.start c.args.end c.requires.in_bounds)) is
            was.items.2 c.in-Ok.ensures.cases,
      );
      len = ap length pushed.items ∙ (length_push _ y ∙ omega (arith, was.len));
      capacity = pushed.capacity ∙ was.capacity;
      alloc = pushed.preserved.alloc ∙ was.alloc;
      cost = pushed.cost
          ∙ (ap (λ d. add_moves 1 d) was.cost ∙ moving-more 1 i c.args.self.now.cost);
      within = pushed.preserved.within.1;
    }
