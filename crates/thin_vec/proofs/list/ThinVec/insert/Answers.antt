-- `insert` fails if `reserve(1)` fails, and its error has the same cause. Otherwise,
-- `insert_reserved` inserts the item.
use Rattle.std.proofs.Common.{◌+◌, ◌-◌, ◌∙◌, ap, arith, length, sym}
use Rattle.std.proofs.lemmas.Bool.{false≢true}
use Rattle.std.proofs.lemmas.List.Edits.{length-insert}
use denote.Param.{param}
use Rattle.thin_block.specs.Cost.{add_moves}
use Rattle.thin_vec.specs.ThinVec.{cost_after_resize}
use Rattle.thin_vec.proofs.list.ReservesLemmas.{keeps-join, lacks-room}
use Rattle.thin_vec.proofs.list.ThinVec.insert.Goals as goal

pub returns-in-Err-clause-cause : goal.returns-in-Err-clause-cause
returns-in-Err-clause-cause g c =
    lacks-room (param 0 g.row.T) c.args.self.now g.G.Growth.rule 1 c.in-Err.cause
    (λ room. false≢true (c.in-Err.ensures.succeeds room)) c.in-Err.ensures.overflow.overflow

pub returns-clause-len : goal.returns-clause-len
returns-clause-len g c =
    omega (
      arith,
      ap length c.insert_reserved.ensures.items,
      length-insert c.reserve.new.self.items c.args.index c.args.value
          (omega (arith, c.requires.in_bounds, ap length c.reserve.ensures.items)),
      ap length c.reserve.ensures.items,
    )

pub returns-clause-cost : goal.returns-clause-cost
returns-clause-cost g c =
    let v = c.args.self.now in
    c.insert_reserved.ensures.cost
    ∙ (ap (λ xs. add_moves (length xs - c.args.index + 1) c.reserve.new.self.cost)
    c.reserve.ensures.items
    ∙ ap (add_moves (length v.items - c.args.index + 1))
    (c.in_default.ensures.cost ∙ ap (cost_after_resize v) (sym c.insert_reserved.ensures.capacity)))

pub returns-clause-preserved : goal.returns-clause-preserved
returns-clause-preserved g c =
    keeps-join c.reserve.ensures.preserved c.insert_reserved.ensures.preserved

pub returns-clause-doubles : goal.returns-clause-doubles
returns-clause-doubles g c = rw c.insert_reserved.ensures.capacity c.in_default.ensures.doubles
