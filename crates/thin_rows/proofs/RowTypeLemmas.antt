-- The capacity that a list chooses is the same for all item types of the same size and alignment.
use Rattle.std.proofs.Common.{◌≡◌, ◌↔◌, if◌then◌else◌, nat_le, ℕ, Bool, true, false, IfErr, IsErrOf, IsTrue, None, Some, Option, Result, Ok, Err, ap, refl, sym, ◌∙◌}
use Rattle.std.specs.Borrow.{RattleType}
use Rattle.std.specs.Mem.{type_size}
use Rattle.std.specs.Align.{type_align}
use Rattle.std.specs.Result.{IsErrAnd}
use Rattle.thin_vec.specs.declared.ThinVecError.{ThinVecError}
use Rattle.thin_vec.specs.declared.ThinVecError.TheVariants.{CapacityOverflow, OutOfMemory}
use Rattle.thin_vec.specs.List.Capacity.{OverflowsIff, OverflowsIffTooLarge}
use Rattle.thin_vec.specs.Capacity.{fits}
use Rattle.thin_vec.specs.Growth.{GrowthRule, checked_capacity, exact_capacity, grown_capacity}

exact_of_same : (R S : RattleType) (c w : ℕ) → type_size R ≡ type_size S
    → type_align R ≡ type_align S
    → exact_capacity (type_size R) (type_align R) c w
    ≡ exact_capacity (type_size S) (type_align S) c w
exact_of_same R S c w size align = λ i. exact_capacity (size i) (align i) c w

pub ruled_of_same : (rule : GrowthRule) (s a : ℕ) {c d v w : ℕ} → c ≡ d → v ≡ w
    → grown_capacity rule s a c v ≡ grown_capacity rule s a d w
ruled_of_same rule s a capacity want = λ i. grown_capacity rule s a (capacity i) (want i)

no_error : {X E P : Type 0} {x : X} {e : E} → IsErrOf (Ok x) e → P
no_error same = cc

pub same_cause : {X E : Type 0} {d e : E} → IsErrOf {T = X} (Err d) e → d ≡ e
same_cause same = cc

pub error_tells : {X Y : Type 0} (R S : RattleType) (w : ℕ) (cause : ThinVecError)
    (result : Result Y ThinVecError) → type_size S ≡ type_size R → type_align S ≡ type_align R
    → IsErrAnd result (λ e. e ≡ cause) → OverflowsIffTooLarge {X = X} R w (Err cause)
    → OverflowsIffTooLarge S w result
error_tells R S w cause (Ok y) size align passed told = absurd passed
error_tells R S w cause (Err e) size align passed told = record {
  overflow = (
    λ over. exact_of_same S R 0 w size align
        ∙ told.overflow.0 (ap Err (sym passed ∙ same_cause over)),
    λ none. ap Err (passed ∙ same_cause (told.overflow.1
        (sym (exact_of_same S R 0 w size align) ∙ none))),
  );
}

pub failure_tells : {Y : Type 0} {a b : Option ℕ} {cause : ThinVecError} → a ≡ b
    → (cause ≡ CapacityOverflow) ↔ (b ≡ None)
    → OverflowsIff a (let r : Result Y ThinVecError = Err cause in r)
failure_tells same told = record {
  overflow = (
    λ over. same ∙ told.0 (same_cause over),
    λ none. ap Err (told.1 (sym same ∙ none)),
  );
}

pub made_tells : {X Y : Type 0} (R S : RattleType) (w : ℕ) (x : X) (y : Y)
    → type_size S ≡ type_size R → type_align S ≡ type_align R
    → OverflowsIffTooLarge R w (Ok x) → OverflowsIffTooLarge S w (Ok y)
made_tells R S w x y size align told = record {
  overflow = (
    λ over. no_error over,
    λ none. no_error (told.overflow.1 (sym (exact_of_same S R 0 w size align) ∙ none)),
  );
}

never_too_large : (is_zero is_fit : Bool) (n : ℕ) → is_fit ≡ true
    → (if is_zero then Some 0 else (if is_fit then Some n else None)) ≡ None → ⊥
never_too_large true is_fit n fit none = cc
never_too_large false true n fit none = cc
never_too_large false false n fit none = cc

capacity_named : (s a n : ℕ) → IsTrue (fits s a n) → exact_capacity s a 0 n ≡ None → ⊥
unfolding exact_capacity checked_capacity
capacity_named s a n fit none = never_too_large (nat_le n 0) (fits s a n) n fit none

-- If so many items of one type fit into a block, a list of another type of the same size and
-- alignment fails to get room for them only for want of memory.
pub cause_if_fits : {X : Type 0} (R : RattleType) (s a n : ℕ) (cause : ThinVecError)
    → s ≡ type_size R → a ≡ type_align R → IsTrue (fits s a n)
    → OverflowsIffTooLarge {X = X} R n (Err cause) → cause ≡ OutOfMemory
cause_if_fits R s a n OutOfMemory size align fit told = refl
cause_if_fits R s a n CapacityOverflow size align fit told = absurd (capacity_named s a n fit
    ((λ i. exact_capacity (size i) (align i) 0 n) ∙ told.overflow.0 refl))

pub cause_passed : {Y : Type 0} (result : Result Y ThinVecError) (cause : ThinVecError)
    → IsErrAnd result (λ e. e ≡ cause) → cause ≡ OutOfMemory
    → IfErr result (λ e. e ≡ OutOfMemory)
cause_passed (Ok y) cause passed known = tt
cause_passed (Err e) cause passed known = passed ∙ known
