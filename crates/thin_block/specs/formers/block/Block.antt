-- This file defines the type former of `Block`. The type former states which values a block
-- contains. Because of this type former, the prover accepts a type `T` that has a field of the type
-- `Block<T, A>`.
use Rattle.std.specs.Prelude.{◌≡◌, ℕ, suc, max, ◌+◌, ◌<◌, ◌≤◌, ◌^◌, List, [], ◌∷◌, map, length, Option}
use Rattle.std.specs.declared.option.Option.TheVariants.{Some, None}
use mathlib.Core.Path.{PathP, refl, sym, ap, ◌∙◌}
use mathlib.Core.HLevel.{is_prop→PathP}
use mathlib.Core.Former.{Former, Count, Row, over, this, list, list_count, list_get, children}
use native.Mathlib.Bridge.{le_prop}
use native.Mathlib.Omega.{arith}
use lib.ListN.{length-map}
use mir.Syntax.{Ty}
use mir.Raw.{raw}
use prog.Memory.{size}
use base.Stored.{Gv, gcons, code_l, Coded-set, coded_bool}
use base.Fraction.{full_share}
use base.Fml.{Fml, fsep}
use denote.RattleType.{RattleType}
use denote.Memory.{lone}
use denote.RawPtr.{Ptr, block_ptr, null_ptr, room_for}
use denote.Sharing.{beside}
use denote.Struct.Struct.{Struct}
use denote.Struct.Owning.{shape, to}
use denote.HoleLaws.{Alike}
use denote.HolePlaces.{Recodes}
use denote.Hole.Carrier.{listed}
use denote.Param.Weighed.{Weighed, most, none_max, List-puts}
use denote.Param.Nested.{deepest}
use Rattle.core.specs.declared.alloc.Allocator.{Ghosts}
use Rattle.std_alloc.specs.Vec.Recursive.{lies_placed, lent_at_placed, codes_placed}
use Rattle.std.specs.Option.{is_some}
use Rattle.thin_block.specs.Ownership.{is_nonempty, is_nonempty_same, block_shares, block_owns, header_owns, header_shares, slot_owns, slot_shares, slots_own, slots_share}
use Rattle.thin_block.specs.Cost.{no_cost}
use Rattle.thin_block.specs.Slots.{items_in}
use Rattle.std.specs.Mem.{type_size}
use Rattle.std.specs.Coded.{coded_option}
use Rattle.thin_block.specs.declared.block.Block.{Block}
use Rattle.thin_block.specs.contracts.block.Block as C

-- `on_slot h x` is the slot `x` after the function `h` has been applied to its item. An empty slot
-- remains empty.
abbrev pub on_slot : {X Y : Type 0} → (X → Y) → Option X → Option Y
on_slot h None = None
on_slot h (Some x) = Some (h x)

-- The type former `g` states which values of a type `X` an item contains. From `g`, this module
-- constructs the type former of slots.
module _ (g : Former {0}) where
  -- `slot_count a n` is `n` plus the number of values in a slot of the shape `a`. A shape is a slot
  -- without its values.
  abbrev pub slot_count : Option g.Shape → Count → Count
  slot_count None n = n
  slot_count (Some a) n = g.count a n

  -- `slot_put X o n t` prepends the values in the slot `o` to the row `t` of `n` values. All values
  -- have the type `X`.
  abbrev pub slot_put : (X : Type 0) (o : Option (g.Of X)) (n : Count) → Row X n
      → Row X (slot_count (on_slot (g.shape X) o) n)
  slot_put X None n t = t
  slot_put X (Some y) n t = g.put X y n t

  -- `slot_get X a n v` splits the row `v` of values of the type `X` into a slot of the shape `a`
  -- and a row of the last `n` values.
  abbrev pub slot_get : (X : Type 0) (a : Option g.Shape) (n : Count) → Row X (slot_count a n)
      → Option (g.Of X) × Row X n
  slot_get X None n v = (None, v)
  slot_get X (Some a) n v = let r : g.Of X × Row X n = g.get X a n v in (Some r.0, r.1)

  -- The next three lemmas are laws of type formers: `slot_get` undoes `slot_put`, `slot_put` undoes
  -- `slot_get`, and it does not matter whether a map comes before or after `slot_get`.
  pub slot_get-put : (X : Type 0) (o : Option (g.Of X)) (n : Count) (t : Row X n)
      → slot_get X (on_slot (g.shape X) o) n (slot_put X o n t) ≡ (o, t)
  slot_get-put X None n t = refl
  slot_get-put X (Some y) n t = λ i. (Some (g.get-put X y n t i).0, (g.get-put X y n t i).1)

  pub slot_put-get : (X : Type 0) (a : Option g.Shape) (n : Count) (v : Row X (slot_count a n))
      → ◌≡◌ {A = (b : Option g.Shape) × Row X (slot_count b n)} (
        on_slot (g.shape X) (slot_get X a n v).0,
        slot_put X (slot_get X a n v).0 n
            (slot_get X a n v).1,
      ) (a, v)
  slot_put-get X None n v = refl
  slot_put-get X (Some a) n v = λ i. (Some (g.put-get X a n v i).0, (g.put-get X a n v i).1)

  pub slot_get-map : (X Y : Type 0) (h : X → Y) (a : Option g.Shape) (n : Count)
      (v : Row X (slot_count a n))
      → slot_get Y a n (over h (slot_count a n) v) ≡ (
        on_slot (g.map X Y h) (slot_get X a n v).0,
        over h n (slot_get X a n v).1,
      )
  slot_get-map X Y h None n v = refl
  slot_get-map X Y h (Some a) n v =
      λ i. (Some (g.get-map X Y h a n v i).0, (g.get-map X Y h a n v i).1)

  -- `slot_former` is the type former of slots.
  abbrev pub slot_former : Former {0}
  slot_former = record {
    Of = λ X. Option (g.Of X);
    Shape = Option g.Shape;
    count = slot_count;
    shape = λ X. on_slot (g.shape X);
    put = slot_put;
    get = slot_get;
    map = λ X Y h. on_slot (g.map X Y h);
    get-put = slot_get-put;
    put-get = slot_put-get;
    get-map = slot_get-map;
  }

module _ {g : Former {0}} (w : Weighed g) where
  -- `slot_weight X μ x` is the greatest depth of a value in the slot `x`, or 0 if the slot is
  -- empty. `μ` returns the depth of a value of the type `X`.
  abbrev pub slot_weight : (X : Type 0) → (X → ℕ) → Option (g.Of X) → ℕ
  slot_weight X μ None = 0
  slot_weight X μ (Some y) = w.weight X μ y

  -- The depth of a row is the greatest depth of a value in the row, or 0 if the row is empty.
  pub slot_puts : (X : Type 0) (μ : X → ℕ) (o : Option (g.Of X)) (n : Count) (t : Row X n)
      → deepest μ (slot_count g (on_slot (g.shape X) o) n) (slot_put g X o n t) ≡ max
      (slot_weight X μ o) (deepest μ n t)
  slot_puts X μ None n t = none_max (deepest μ n t)
  slot_puts X μ (Some y) n t = w.puts X μ y n t

  -- `weighed_slot` adds depths to the type former of slots.
  abbrev pub weighed_slot : Weighed (slot_former g)
  weighed_slot = record { weight = slot_weight; puts = slot_puts }

module _ {X Y Z : Type 0} (d : Block X Z) where
  -- `CanHold ys` holds if `ys` is a possible list of slots for the block `d`, which is a parameter
  -- of this module. This means that the length of `ys` is at least the stored length of `d`, and
  -- that `ys` is empty exactly when `d` has no allocation.
  abbrev pub CanHold : List (Option Y) → Type 0
  CanHold ys = (d.len ≤ length ys) × (is_some d.alloc ≡ is_nonempty ys) × (length ys < 2 ^ 63)

  -- `holding ys p` is the block `d` of this module with the slots `ys` instead of its own slots.
  -- `p` is a proof that `d` may have these slots.
  abbrev pub holding : (ys : List (Option Y)) → CanHold ys → Block Y Z
  holding ys sound = record {
    at = d.at;
    item = record {};
    handle = record {};
    slots = ys;
    len = d.len;
    alloc = d.alloc;
    cost = d.cost;
    sound = sound;
  }

  pub can_hold_as_many : (ys : List (Option Y)) → length ys ≡ length d.slots → CanHold ys
  can_hold_as_many ys e = (
    let le = d.sound.0 in omega (arith, e, le),
    d.sound.1 ∙ sym (is_nonempty_same d.slots ys e),
    let small = d.sound.2 in omega (arith, e, small),
  )

  -- If the lists `ys` and `zs` are equal, then the proofs of `CanHold` for them are equal.
  pub CanHold-along : (ys zs : List (Option Y)) (e : ys ≡ zs) (p : CanHold ys) (q : CanHold zs)
      → PathP (λ i. CanHold (e i)) p q
  CanHold-along ys zs e = is_prop→PathP (λ i. CanHold (e i))
      (λ i p q j. (le_prop p.0 q.0 j, Coded-set coded_bool _ _ p.1 q.1 j, le_prop p.2 q.2 j))

  abbrev pub holding_along : (ys zs : List (Option Y)) (e : ys ≡ zs) (p : CanHold ys)
      (q : CanHold zs)
      → holding ys p ≡ holding zs q
  holding_along ys zs e p q = λ i. holding (e i) (CanHold-along ys zs e p q i)

-- `mapped h d` is the block `d` after the function `h` has been applied to each of its items.
abbrev pub mapped : {X Y Z : Type 0} → (X → Y) → Block X Z → Block Y Z
mapped h d = holding d (map (on_slot h) d.slots)
    (can_hold_as_many d (map (on_slot h) d.slots) (length-map d.slots (on_slot h)))

module _ (g : Former {0}) (Z : Type 0) where
  pub length_got : (X : Type 0) (a : List (Option g.Shape)) (n : Count)
      (v : Row X (list_count (slot_former g) a n))
      → length (list_get (slot_former g) X a n v).0 ≡ length a
  length_got X [] n v = refl
  length_got X (a ∷ as') n v =
      ap suc (length_got X as' n ((slot_former g).get X a (list_count (slot_former g) as' n) v).1)

  -- `got X a n v` splits the row `v` of values of the type `X` into a block of the shape `a` and a
  -- row of the last `n` values. A shape is a block without its values.
  abbrev pub got : (X : Type 0) (a : Block g.Shape Z) (n : Count)
      → Row X (list_count (slot_former g) a.slots n) → Block (g.Of X) Z × Row X n
  got X a n v = let r : List (Option (g.Of X)) × Row X n = list_get (slot_former g) X a.slots n v in
      (holding a r.0 (can_hold_as_many a r.0 (length_got X a.slots n v)), r.1)

  -- The next three lemmas are the same laws for blocks.
  pub got-put : (X : Type 0) (d : Block (g.Of X) Z) (n : Count) (t : Row X n)
      → got X (mapped (g.shape X) d) n ((list (slot_former g)).put X d.slots n t) ≡ (d, t)
  got-put X d n t = λ i. (
    holding_along d _ _ (λ j. ((list (slot_former g)).get-put X d.slots n t j).0)
        (got X (mapped (g.shape X) d) n ((list (slot_former g)).put X d.slots n t)).0.sound
        d.sound i,
    ((list (slot_former g)).get-put X d.slots n t i).1,
  )

  pub put-got : (X : Type 0) (a : Block g.Shape Z) (n : Count)
      (v : Row X (list_count (slot_former g) a.slots n))
      → ◌≡◌ {A = (b : Block g.Shape Z) × Row X (list_count (slot_former g) b.slots n)} (
        mapped (g.shape X) (got X a n v).0,
        (list (slot_former g)).put X (got X a n v).0.slots n
            (got X a n v).1,
      ) (a, v)
  put-got X a n v = λ i. (
    holding_along a _ _ (λ j. ((list (slot_former g)).put-get X a.slots n v j).0)
        (mapped (g.shape X) (got X a n v).0).sound a.sound i,
    ((list (slot_former g)).put-get X a.slots n v i).1,
  )

  pub got-map : (X Y : Type 0) (h : X → Y) (a : Block g.Shape Z) (n : Count)
      (v : Row X (list_count (slot_former g) a.slots n))
      → got Y a n (over h (list_count (slot_former g) a.slots n) v)
      ≡ (mapped (g.map X Y h) (got X a n v).0, over h n (got X a n v).1)
  got-map X Y h a n v =
      λ i. (
        holding_along a _ _ (λ j. ((list (slot_former g)).get-map X Y h a.slots n v j).0)
            (got Y a n (over h (list_count (slot_former g) a.slots n) v)).0.sound
            (mapped (g.map X Y h) (got X a n v).0).sound i,
        ((list (slot_former g)).get-map X Y h a.slots n v i).1,
      )

  -- `the_former` is the type former of blocks.
  abbrev pub the_former : Former {0}
  the_former = record {
    Of = λ X. Block (g.Of X) Z;
    Shape = Block g.Shape Z;
    count = λ a. list_count (slot_former g) a.slots;
    shape = λ X. mapped (g.shape X);
    put = λ X d. (list (slot_former g)).put X d.slots;
    get = got;
    map = λ X Y h. mapped (g.map X Y h);
    get-put = got-put;
    put-get = put-got;
    get-map = got-map;
  }

-- `the_weighed` is the type former of blocks, with a depth for each block: the depth of its deepest
-- item, or 0 if the block contains no items.
abbrev pub the_weighed : {g : Former {0}} → Weighed g → (Z : Type 0) → Weighed (the_former g Z)
the_weighed w Z = record {
  weight = λ X μ d. most (slot_weight w X μ) d.slots;
  puts = λ X μ d. List-puts (weighed_slot w) X μ d.slots;
}

-- `the_empty Z z` is a block without slots and without an allocation. Its allocator has the type
-- `Z`, and `z` is not used.
abbrev pub the_empty : (Z : Type 0) → Z → Block ⊥ Z
the_empty Z z = record {
  at = null_ptr;
  item = record {};
  handle = record {};
  slots = [];
  len = 0;
  alloc = None;
  cost = no_cost;
  sound = (omega arith, refl, omega arith);
}

-- Under the type former `this`, each item counts as one value. So the values in the slots `xs` are
-- the items in these slots, in order.
pub items_listed : (X : Type 0) (xs : List (Option X))
    → listed _ (children (list (slot_former this)) X xs) ≡ items_in xs
items_listed X [] = refl
items_listed X (None ∷ xs) = items_listed X xs
items_listed X (Some x ∷ xs) = ap (λ l. x ∷ l) (items_listed X xs)

-- `the_items Z X d` is the list of the items in the block `d`, in order.
abbrev pub the_items : (Z X : Type 0) → Block X Z → List X
the_items Z X d = items_in d.slots

-- Under the type former `this`, each item counts as one value. So the values in the block `d` are
-- the items of `d`, in order.
pub the_items_listed : (Z X : Type 0) (d : Block X Z)
    → listed _ (children (the_former this Z) X d) ≡ the_items Z X d
the_items_listed Z X d = items_listed X d.slots

pub codes_of : {X Y : Type 0} (c : X → Gv) (c' : Y → Gv) (h : X → Y) → ((x : X) → c' (h x) ≡ c x)
    → (xs : List X) → code_l c' (map h xs) ≡ code_l c xs
codes_of = codes_placed

first : {a b c : Gv} → a ≡ b → gcons a c ≡ gcons b c
first {c = c} e = λ i. gcons (e i) c

second : {a b c : Gv} → a ≡ b → gcons c a ≡ gcons c b
second {c = c} e = λ i. gcons c (e i)

module _ (R R' : RattleType) (h : R.Denot → R'.Denot) (a : Alike R R' h) where
  abbrev width : type_size R' ≡ type_size R
  width = λ i. size (lone (a.mir_same i))

  -- The next lemmas assume that each item `y` has the same layout and owns the same memory as
  -- `h y`.
  place_placed : (x : Option R.Denot) (b o : ℕ) → slot_owns R' (on_slot h x) b o ≡ slot_owns R x b o
  place_placed None b o = λ i. room_for (raw (lone (a.mir_same i))) (block_ptr b o)
  place_placed (Some x) b o = lies_placed R R' h a full_share (block_ptr b o) x

  places_placed : (xs : List (Option R.Denot)) (b o : ℕ)
      → slots_own R' (map (on_slot h) xs) b o ≡ slots_own R xs b o
  places_placed [] b o = refl
  places_placed (x ∷ xs) b o =
      (λ i. fsep (place_placed x b o i) (slots_own R' (map (on_slot h) xs) b (o + width i)))
      ∙ ap (fsep (slot_owns R x b o)) (places_placed xs b (o + type_size R))

  pub block_placed : {D : Type 0} (t : D → Ty → Ptr → Fml) (p : Ptr) (n : ℕ)
      (xs : List (Option R.Denot)) (w : Option D) → block_owns t R' p n (map (on_slot h) xs)
      w ≡ block_owns t R p n xs w
  block_placed t null_ptr n xs w = refl
  block_placed t (block_ptr b o) n xs None = refl
  block_placed t (block_ptr b o) n xs (Some w) =
      λ i. fsep (header_owns (t w) (record R { mir = a.mir_same i }) n
      (length-map xs (on_slot h) i) b o)
      (places_placed xs b (o + 16) i)

  -- The next lemmas assume that shared references to `y` and to `h y` lend the same memory.
  place_lent_placed : (x : Option R.Denot) (p : Ptr)
      → slot_shares R' (on_slot h x) p ≡ slot_shares R x p
  place_lent_placed None p = refl
  place_lent_placed (Some x) p = lent_at_placed R R' h a p x

  places_lent_placed : (xs : List (Option R.Denot)) (b o : ℕ) → slots_share R' (map (on_slot h) xs)
      b o ≡ slots_share R xs b o
  places_lent_placed [] b o = refl
  places_lent_placed (x ∷ xs) b o =
      (λ i. beside (place_lent_placed x (block_ptr b o) i)
      (slots_share R' (map (on_slot h) xs) b (o + width i)))
      ∙ ap (beside (slot_shares R x (block_ptr b o))) (places_lent_placed xs b (o + type_size R))

  pub block_lent_placed : {D : Type 0} (p : Ptr) (n : ℕ) (xs : List (Option R.Denot)) (w : Option D)
      → block_shares R' p n (map (on_slot h) xs) w ≡ block_shares R p n xs w
  block_lent_placed null_ptr n xs w = refl
  block_lent_placed (block_ptr b o) n xs None = refl
  block_lent_placed (block_ptr b o) n xs (Some w) =
      λ i. beside (header_shares (record R { mir = a.mir_same i }) n
      (length-map xs (on_slot h) i) b o)
      (places_lent_placed xs b (o + 16) i)

module _ (A : RattleType) (G : Ghosts A.Denot) (R R' : RattleType) (h : R.Denot → R'.Denot) where
  -- If `h` changes neither the layout of an item, nor what the item owns, nor what a shared
  -- reference to the item lends, then applying `h` to all items of a block changes none of these
  -- for the block.
  pub the_places : Alike R R' h → Alike (C.the_row R A G) (C.the_row R' A G)
      ((the_former this A.Denot).map R.Denot R'.Denot h)
  the_places a = record {
    mir_same = refl;
    own_same = λ d i vs. fsep ((Struct (shape (C.the_type R A G))).own_val (to (C.the_type R A G) d)
        vs) (block_placed R R' h a G.dealloc_token d.at d.len d.slots d.alloc i);
    shr_same = λ d i b o κ. beside
        ((Struct (shape (C.the_type R A G))).shr_at (to (C.the_type R A G) d) b o)
        (block_lent_placed R R' h a d.at d.len d.slots d.alloc i) κ;
  }

  slot_recoded : Recodes R R' h → (x : Option R.Denot) → (coded_option R'.coded).code (on_slot h x)
      ≡ (coded_option R.coded).code x
  slot_recoded e None = refl
  slot_recoded e (Some x) = second (e x)

  -- If `h` does not change the encoding of any item, it does not change the encoding of a block.
  pub the_codes_placed : Recodes R R' h → Recodes (C.the_row R A G) (C.the_row R' A G)
      ((the_former this A.Denot).map R.Denot R'.Denot h)
  the_codes_placed e d =
      second (first (codes_placed (coded_option R.coded).code (coded_option R'.coded).code
      (on_slot h) (slot_recoded e) d.slots))
