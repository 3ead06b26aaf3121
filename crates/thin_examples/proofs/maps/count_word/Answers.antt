-- Another list of bytes is another key.
use Rattle.std.proofs.Common.{◌≡◌, ◌≢◌, ◌∙◌, List, ap, false, nat_cmp, rules, sym, ℕ, ⊎_elim}
use Rattle.std.proofs.lemmas.Bool.{cases_Bool}
use Rattle.std.proofs.lemmas.Map.Lookups.{exact_bytes}
use Rattle.std.specs.BTreeMap.Entry.{map_with_value}
use Rattle.std.specs.Cmp.{Equal-is}
use Rattle.std.specs.Cmp.Lexicographic.{slice_cmp}
use Rattle.std.specs.Option.{option_map_or}
use Rattle.std.specs.Ordering.{is_eq}
use Rattle.thin_examples.specs.CountsByList.{count_of}
use Rattle.thin_examples.proofs.maps.count_word.Goals as goal

tells : (word other : List ℕ) → other ≢ word → is_eq (slice_cmp nat_cmp word other) ≡ false
tells word other apart = ⊎_elim
    (λ same. absurd (apart (sym (exact_bytes word other ((Equal-is _).0 same)))))
    (λ differs. differs) (cases_Bool (is_eq (slice_cmp nat_cmp word other)))

pub returns-clause-others : goal.returns-clause-others
returns-clause-others c other apart =
    let key = record c.args.word { items = other } in
    let kept = λ (w : ℕ). ap (λ count. option_map_or (λ (n : ℕ). n) count 0)
    ((c.in_ok-counts.ensures.update.0 w).2 key (tells c.args.word.items other apart)) in
    let left : c.counts-3-1.given.0 ≡ map_with_value c.in_ok-counts.field-0 c.saturating_add.result =
    search rules in
    ap (λ m. count_of m other) left ∙ kept c.saturating_add.result
