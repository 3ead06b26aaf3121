-- `forget` removes all but the newest `count` of the changes that undo edits. After the call,
-- repeated calls to `undo` restore the first `count` of the texts that they would have restored
-- before it.
use Rattle.std.proofs.Common.{◌≡◌, ℕ, ◌-◌, ap, arith, drop, length, rules, sym, take, ◌∙◌}
use Rattle.std.proofs.lemmas.List.{take_all}
use Rattle.programs.proofs.ChangesLemmas.{AllFit-drop, length-texts_of, texts_of-drop}
use Rattle.programs.specs.Changes.{texts_of}
use Rattle.programs.specs.History.{History}
use Rattle.programs.proofs.editor.editor.Editor.forget.Goals as goal

pub invariant_of-self : goal.invariant_of-self
invariant_of-self g c =
    let past = c.self.inside.past.items in
    let oldest = c.len-then-count-len.result - c.args.count in
    let kept : c.drop-drain.new.self.0.items ≡ drop oldest past = search rules in
    (rw kept (AllFit-drop oldest past _ c.self.invariant.0), c.self.invariant.1)

pub returns-then-count-len-clause-past : goal.returns-then-count-len-clause-past
returns-then-count-len-clause-past g c =
    let past = c.self.inside.past.items in
    let text = c.self.inside.text.items in
    let oldest = c.len-then-count-len.result - c.args.count in
    let kept : c.drop-drain.new.self.0.items ≡ drop oldest past = search rules in
    let left : length past - oldest ≡ c.args.count = omega arith in
    rw kept
    (texts_of-drop oldest past text
    ∙ (ap (λ (k : ℕ). take k (texts_of past text)) left
    ∙ ap (λ (h : History _). take c.args.count h.past) c.self.view_is))

pub returns-else-count-len-clause-past : goal.returns-else-count-len-clause-past
returns-else-count-len-clause-past g c =
    let all = length-texts_of c.self.inside.past.items c.self.inside.text.items in
    let same = ap (λ (h : History _). length h.past) c.self.view_is in
    sym (take_all c.args.count c.args.self.now.past (omega (arith, all, same)))
