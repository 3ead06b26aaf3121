-- These definitions are for the contracts of `ExtractIf`. They name the parts of an `ExtractIf`,
-- and they say what a call to `next` changes. (std: `Vec::extract_if`)
use Rattle.std.specs.Prelude.{◌≡◌, ◌+◌, ◌-◌, ◌==◌, ◌++◌, ◌∷◌, [], Bool, List, None, Option, cond, drop, if◌then◌else◌, length, slice_range, take, ℕ}
use Rattle.std.specs.List.Retain.{ExtractsNext}
use Rattle.std.specs.Option.{option_to_list}
use Rattle.std.specs.Iterator.{Yields, YieldsThen}
use Rattle.std.specs.Borrow.{GName}
use Rattle.thin_block.specs.Cost.{add_moves}
use Rattle.thin_block.specs.declared.growth.Growth.{Ghosts}
use Rattle.thin_vec.specs.List.Capacity.{MovesAtMost}
use Rattle.thin_vec.specs.OpenView.{OpenView}
use Rattle.thin_vec.specs.ThinVec.{ListView}
use Rattle.thin_vec.specs.declared.edits.extract_if.ExtractState.{ExtractState}
use Rattle.thin_vec.specs.declared.edits.extract_if.ExtractIf.{ExtractIf}
use Rattle.thin_vec.specs.declared.edits.holder.IntoInner.{Ghosts as IntoInnerGhosts}

-- `R f x b g y` states that the closure was called with the item `x` and returned the Boolean value
-- `b`. The call changed the state of the closure from `f` to `g`, and the item from `x` to `y`.
module _ {T F : Type 0} (R : F → T → Bool → F → T → Type 0) where
  -- `ExtractsInTurn f xs yielded kept g` holds if the closure, at first in the state `f`, was
  -- called once for each item of `xs`, in order, and the calls left it in the state `g`. The list
  -- `yielded` has the items for which it returned true, and `kept` has the others, as the calls
  -- left them.
  abbrev pub ExtractsInTurn : F → List T → List T → List T → F → Type 0
  ExtractsInTurn f [] yielded kept g = (yielded ≡ []) × (kept ≡ []) × (g ≡ f)
  ExtractsInTurn f (x ∷ xs) yielded kept g =
      (b : Bool) × (u : F) × (y : T) × R f x b u y
      × (ys : List T) × (zs : List T) × ExtractsInTurn u xs ys zs g
      × (yielded ≡ cond b (y ∷ ys) ys) × (kept ≡ cond b zs (y ∷ zs))

-- `R` says what a call of the closure does, as for `ExtractsInTurn`.
module _ {T F A : Type 0} (R : F → T → Bool → F → T → Type 0) where
  -- `ExtractsOne old item new` describes a call to `next` that returned `item`. An `ExtractState`
  -- is what an `ExtractIf` owns: its open block, `block`, and its closure, `picks.pick`. The values
  -- `old` and `new` are those before and after the call.
  pub record ExtractsOne (old : ExtractState T F A) (item : Option T)
      (new : ExtractState T F A) : Type 0 where
    pub kept : List T
    pub asked : ExtractsNext R old.picks.pick old.block.middle item new.picks.pick kept
        new.block.middle
    pub count : length old.block.middle ≡ length kept + length
        (option_to_list item) + length new.block.middle
    pub front : new.block.front ≡ old.block.front ++ kept
    pub gap_before : new.block.gap_before ≡ old.block.gap_before + length (option_to_list item)
    pub tail : new.block.tail ≡ old.block.tail
    pub capacity : new.block.capacity ≡ old.block.capacity
    pub alloc : new.block.alloc ≡ old.block.alloc
    -- A kept item is moved if an item was yielded before it.
    pub cost : new.block.cost ≡ (if old.block.gap_before == 0 then old.block.cost else add_moves
        (length kept) old.block.cost)

module _ {T F A G H : Type 0} {g : Ghosts G} {h : IntoInnerGhosts H (ExtractState T F A)} where
  -- `extract_block e` is the open block that the `ExtractIf` `e` owns. Its front contains the items
  -- before the range, followed by the tested items that were kept, as the closure left them. Its
  -- gap has one slot for each item that `e` has yielded. Its tail contains the items after the
  -- range.
  abbrev pub extract_block : ExtractIf T F A G H g h → OpenView T A
  extract_block e = (h.inner e.holder).block

  -- `extract_rest e` contains the items of the range that have not been tested yet.
  abbrev pub extract_rest : ExtractIf T F A G H g h → List T
  extract_rest e = (extract_block e).middle

  -- `list_after_extract_if e` is the list that the `ExtractIf` `e` leaves if it is dropped now: its
  -- items are those that have not been yielded. If any item was yielded, the drop moves each item
  -- after the gap once, and the cost includes these moves.
  abbrev pub list_after_extract_if : ExtractIf T F A G H g h → ListView T A
  list_after_extract_if e = record {
    items = (extract_block e).front ++ (extract_rest e ++ (extract_block e).tail);
    capacity = (extract_block e).capacity;
    alloc = e.list.now.alloc;
    cost = if (extract_block e).gap_before == 0 then (extract_block e).cost else add_moves
        (length (extract_rest e) + length (extract_block e).tail) (extract_block e).cost;
  }

  -- `extract_closure e` is the closure that the `ExtractIf` owns, in its present state.
  abbrev pub extract_closure : ExtractIf T F A G H g h → F
  extract_closure e = (h.inner e.holder).picks.pick

  -- `extract_list e` is the list that the `ExtractIf` `e` borrows, as it is until `e` is dropped.
  -- It stays as it is if `e` is leaked (this is tested, not proved).
  abbrev pub extract_list : ExtractIf T F A G H g h → ListView T A
  extract_list e = e.list.now

  -- `extract_lender e` is the ghost name of the reference to the list that the `ExtractIf` borrows.
  -- References with equal ghost names borrow the same list.
  abbrev pub extract_lender : ExtractIf T F A G H g h → GName
  extract_lender e = e.list.ghost_name

  -- `ExtractSteps R old item new` holds if a call to `next` returned `item` and changed the
  -- `ExtractIf` from `old` to `new`. `R` describes the calls to the closure.
  pub record ExtractSteps (R : F → T → Bool → F → T → Type 0) (old : ExtractIf T F A G H g h)
      (item : Option T) (new : ExtractIf T F A G H g h) : Type 0 where
    pub extracts : ExtractsOne R (h.inner old.holder) item (h.inner new.holder)
    pub lender : extract_lender new ≡ extract_lender old
    pub meanwhile : extract_list new ≡ extract_list old
    -- If `new` is dropped, the list has the items `extracts.kept`, and the items that `new` has not
    -- tested, in place of those that `old` had not tested. Capacity and allocator stay.
    pub after_drop : list_after_extract_if new ≡ record (list_after_extract_if old) {
      items = ((extract_block old).front ++ extracts.kept)
          ++ (extract_rest new ++ (extract_block old).tail);
      cost = (list_after_extract_if new).cost;
    }

  -- `ExtractLeaves R first yielded later` states what calls to `next` leave, after they yielded the
  -- items `yielded` and changed the `ExtractIf` from `first` to `later`.
  pub record ExtractLeaves (R : F → T → Bool → F → T → Type 0) (first : ExtractIf T F A G H g h)
      (yielded : List T) (later : ExtractIf T F A G H g h) : Type 0 where
    pub lender : extract_lender later ≡ extract_lender first
    pub meanwhile : extract_list later ≡ extract_list first
    -- The closure was called for the items `tested`, from the first on. Those that were not yielded
    -- are `kept`, at the end of the front.
    pub tested : List T
    pub kept : List T
    pub rest : extract_rest first ≡ tested ++ extract_rest later
    pub calls : ExtractsInTurn R (extract_closure first) tested yielded kept (extract_closure later)
    pub count : length kept + length yielded + length (extract_rest later)
        ≡ length (extract_rest first)
    pub front : (extract_block later).front ≡ (extract_block first).front ++ kept
    pub gone : (extract_block later).gap_before
        ≡ (extract_block first).gap_before + length yielded
    pub tail : (extract_block later).tail ≡ (extract_block first).tail
    -- If `later` is dropped, the list has the items `kept`, and the items that `later` has not
    -- tested, in place of those that `first` had not tested. Capacity and allocator stay.
    pub after_drop : list_after_extract_if later ≡ record (list_after_extract_if first) {
      items = ((extract_block first).front ++ kept)
          ++ (extract_rest later ++ (extract_block first).tail);
      cost = (list_after_extract_if later).cost;
    }
    -- From `first` on, and with the moves of the drop, at most each item after the front of `first`
    -- that stays in the list is moved, once. If no item was yielded, the calls cost nothing.
    pub moves_at_most : MovesAtMost (length kept + length (extract_rest later)
        + length (extract_block first).tail) (extract_block first).cost
        (list_after_extract_if later).cost
    pub unmoved : yielded ≡ []
        → (list_after_extract_if later).cost ≡ (list_after_extract_if first).cost

  -- `LeavesKept R pick v start end yielded last` says what the `ExtractIf` `last` leaves if it is
  -- dropped now. `ExtractsRange` has the meaning of the arguments.
  pub record LeavesKept (R : F → T → Bool → F → T → Type 0) (pick : F) (v : ListView T A)
      (start end : ℕ) (yielded : List T) (last : ExtractIf T F A G H g h) : Type 0 where
    -- The closure was called once for each item of the range, in order. It returned true for the
    -- items `yielded`, and false for the items `kept`. Both are as the calls left them.
    pub kept : List T
    pub calls : ExtractsInTurn R pick (slice_range v.items start end) yielded kept
        (extract_closure last)
    -- The items `kept` are in the place of the range. Capacity and allocator are those of `v`.
    pub after_drop : list_after_extract_if last ≡ record v {
      items = (take start v.items ++ kept) ++ drop end v.items;
      cost = (list_after_extract_if last).cost;
    }
    -- The items `kept` and those after the range are moved at most once each: those that follow a
    -- yielded item. (`cost` of each call of `next` says so. If none was yielded, none is moved: the
    -- field `unmoved` of `walk`.)
    pub moves_at_most : MovesAtMost (length kept + (length v.items - end)) v.cost
        (list_after_extract_if last).cost

  -- `ExtractKeepsAlong R e` states what calls to `next` on the `ExtractIf` `e` leave, as long as
  -- they yield items. `R` describes the calls to the closure.
  abbrev pub ExtractKeepsAlong : (F → T → Bool → F → T → Type 0) → ExtractIf T F A G H g h
      → Type 0
  ExtractKeepsAlong R first =
      (yielded : List T) (later : ExtractIf T F A G H g h)
      → Yields (ExtractSteps R) first yielded later → ExtractLeaves R first yielded later

  -- `ExtractsToEnd R e` states what calls to `next` on the `ExtractIf` `e` leave if the last of
  -- them returns `None`: then every item has been tested. `R` describes the calls to the closure.
  abbrev pub ExtractsToEnd : (F → T → Bool → F → T → Type 0) → ExtractIf T F A G H g h → Type 0
  ExtractsToEnd R first =
      (yielded : List T) (last : ExtractIf T F A G H g h)
      → YieldsThen (ExtractSteps R) first yielded None last
      → ExtractLeaves R first yielded last × (extract_rest last ≡ [])

  -- `ExtractsRange R pick v start end e` says what becomes of the list `v`, from whose range
  -- `start..end` the `ExtractIf` `e` extracts. Calls to `next` yielded the items `yielded`, and
  -- then returned `None`. `R` describes the calls to the closure, whose first state is `pick`.
  abbrev pub ExtractsRange : (F → T → Bool → F → T → Type 0) → F → ListView T A → ℕ → ℕ
      → ExtractIf T F A G H g h → Type 0
  ExtractsRange R pick v start end first =
      (yielded : List T) (last : ExtractIf T F A G H g h)
      → YieldsThen (ExtractSteps R) first yielded None last
      → LeavesKept R pick v start end yielded last
