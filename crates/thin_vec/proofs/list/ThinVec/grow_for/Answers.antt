-- By the law `IsLawful`, a capacity that the growth rule chooses is larger than the old capacity.
use Rattle.std.proofs.Common.{arith, sym, ◌∙◌}
use Rattle.thin_vec.proofs.list.ThinVec.grow_for.Goals as goal

pub grow_to-requires-clause-cap_grows : goal.grow_to-requires-clause-cap_grows
grow_to-requires-clause-cap_grows g c =
    let len = c.len.ensures.value in let cap = c.capacity.ensures.value in
    let want = c.in-Some.ensures in
    let more = g.met.G.Growth.law _ _ c.capacity.result c.in-Some.want c.in-Some-next_capacity.next
    (omega (arith, want, len, cap, c.requires.no_room)) (omega (arith, want))
    (sym c.next_capacity.ensures.value ∙ c.in-Some-next_capacity.is) in
    omega (arith, more.enough, want, len, c.requires.no_room)
