-- These lemmas separate the memory of some slots of a block from the memory of the other slots, and
-- convert the memory of slots into arrays, slice elements or uninitialized memory.
use Rattle.std.proofs.Common.{◌≡◌, true, ℕ, zero, suc, None, ◌+◌, ◌*◌, ◌^◌, ◌<◌, ◌≤◌, List, [], ◌∷◌}
use Rattle.std.proofs.Common.{◌++◌, length, refl, sym, ap, ◌∙◌, arith, take, Option}
use mathlib.Core.Logic.{⊎_elim}
use native.Mathlib.Nat.{zero-mul, suc-mul}
use lib.ListN.{set, get_or, length-set, drop, take-append-drop, length-take, length-drop}
use lib.Seq.{drop-cons, drop-drop, set_split, set_comm, get_or-take, take-set-lt, drop-set-lt}
use seplogic.Ra.Ura.{Ura}
use base.Fml.{Fml, ftrue, fsep, froom}
use base.Fraction.{full_share}
use base.Logic.{ent, sep, emp, via, id⊢, guard, mono_r}
use mir.Raw.{raw as bare}
use mir.Syntax.{ty_array}
use types.Kit.{‵, ◌⊛◌, given, ◌$◌, ◌∵◌, !, qed, by, move, keep, use1, use2, use3, split, split3}
use types.Kit.{learn, rewrite, frame as keeps, fsplit, fjoin, done, drop as skip, check}
use types.Logic.{Logic, sem}
use types.SemTy.{cells}
use denote.Array.{Array}
use denote.Index.{row}
use denote.Memory.{part_at, mem}
use denote.RattleType.{RattleType}
use denote.Steps.{nothing}
use Rattle.core.proofs.mem.Param.{El, R, el_x, elτ}
use Rattle.core.proofs.ptr.Rows.{times_below}
use Rattle.core.proofs.ptr.Rows as arrays
use Rattle.core.proofs.str.Laws.{order}
use Rattle.std.specs.Mem.{type_size}
use Rattle.thin_block.specs.Ownership.{fits_block, slot_owns, slots_own}
use Rattle.thin_block.specs.Slots.{filled_slots, empty_slots, slot_range, write_slots}
use Rattle.thin_block.proofs.sizes.SizesLemmas.{fits_tells}

pub reach : (Rw : RattleType) (i c : ℕ) → fits_block Rw c ≡ true → i ≤ c → i * type_size Rw < 2 ^ 63
reach Rw i c fits le =
    let small = (fits_tells Rw c fits).room in
    let all : c * type_size Rw < 2 ^ 63 = omega arith in
    times_below i c (type_size Rw) (2 ^ 63) le all

module _ (E : El) where
  abbrev pub Slot : Type 0
  Slot = Option (el_x E)

  -- `sz` is the size of an item in bytes.
  abbrev pub sz : ℕ
  sz = type_size (R E)

module _ (E : El) {M : Type 1} {𝓤 : Ura M} (𝓛 : Logic 𝓤) (b : ℕ) where
  open 𝓛 use {H}

  abbrev s : ℕ
  s = sz E

  abbrev Row : ℕ → List (Slot E) → Fml
  Row o xs = slots_own (R E) xs b o

  pub cut : (xs ys : List (Slot E)) (o at : ℕ) → at ≡ length xs * s + o
      → ent 𝓤 (sem 𝓛 (Row o (xs ++ ys))) (sep 𝓤 (sem 𝓛 (Row o xs)) (sem 𝓛 (Row at ys)))
  cut [] ys o at e = qed 𝓛 (‵ (Row o ys) ∷ []) ∵ rewrite ! 0 (λ (k : ℕ). ‵ (Row k ys)) {x = at}
      (omega (arith, zero-mul s)) refl $ nothing ! $ done !
  cut (x ∷ xs) ys o at e =
      let more : at ≡ suc (length xs) * s + o = e in
      qed 𝓛 (‵ (Row o (x ∷ xs ++ ys)) ∷ []) ∵ fsplit ! $ move ! (1 ∷ []) $
      use1 𝓛 (‵ (Row (o + s) xs) ⊛ ‵ (Row at ys))
      (cut xs ys (o + s) at (omega (arith, suc-mul (length xs) s))) $ split ! $
      move ! (2 ∷ 0 ∷ []) $ fjoin ! $ done !

  pub glue : (xs ys : List (Slot E)) (o at : ℕ) → at ≡ length xs * s + o
      → ent 𝓤 (sep 𝓤 (sem 𝓛 (Row o xs)) (sem 𝓛 (Row at ys))) (sem 𝓛 (Row o (xs ++ ys)))
  glue [] ys o at e = qed 𝓛 (‵ ftrue ∷ ‵ (Row at ys) ∷ []) ∵ skip ! $
      rewrite ! 0 (λ (k : ℕ). ‵ (Row k ys)) {x = o} (omega (arith, zero-mul s)) refl $ done !
  glue (x ∷ xs) ys o at e =
      let more : at ≡ suc (length xs) * s + o = e in
      qed 𝓛 (‵ (Row o (x ∷ xs)) ∷ ‵ (Row at ys) ∷ []) ∵ fsplit ! $ move ! (1 ∷ 2 ∷ []) $
      use2 𝓛 (‵ (Row (o + s) (xs ++ ys)))
      (glue xs ys (o + s) at (omega (arith, suc-mul (length xs) s))) $
      move ! (1 ∷ 0 ∷ []) $ fjoin ! $ done !

  module _ (o : ℕ) (xs : List (Slot E)) (i : ℕ) where
    before : i ≤ length xs → i * s + o ≡ length (take i xs) * s + o
    before le = let long : i ≡ length (take i xs) = omega (arith, length-take i xs) in
        ap (λ k. k * s + o) long

    -- `besides` is the memory of all slots except slot `i`.
    abbrev pub besides : Fml
    besides = fsep (Row o (take i xs)) (Row (i * s + o + s) (drop (suc i) xs))

    pub slot_out : i < length xs
        → ent 𝓤 (sem 𝓛 (Row o xs))
        (sep 𝓤 (sem 𝓛 (slot_owns (R E) (get_or xs i None) b (i * s + o))) (sem 𝓛 besides))
    slot_out lt = qed 𝓛 (‵ (Row o xs) ∷ []) ∵
        rewrite ! 0 (λ (l : List (Slot E)). ‵ (Row o l))
        (sym (take-append-drop i xs) ∙ ap (λ l. take i xs ++ l) (drop-cons xs i None lt)) refl $
        use1 𝓛 (‵ (Row o (take i xs)) ⊛ ‵ (Row (i * s + o) (get_or xs i None ∷ drop (suc i) xs)))
        (cut (take i xs) (get_or xs i None ∷ drop (suc i) xs) o (i * s + o)
        (before (omega arith))) $
        split ! $ move ! (1 ∷ []) $ fsplit ! $ move ! (2 ∷ 1 ∷ []) $ fjoin ! $
        move ! (1 ∷ []) $ done !

    pub slot_in : i < length xs → (x : Slot E)
        → ent 𝓤 (sep 𝓤 (sem 𝓛 (slot_owns (R E) x b (i * s + o))) (sem 𝓛 besides))
        (sem 𝓛 (Row o (set xs i x)))
    slot_in lt x = qed 𝓛 (‵ (slot_owns (R E) x b (i * s + o)) ∷ ‵ besides ∷ []) ∵ move ! (1 ∷ []) $
        fsplit ! $ move ! (2 ∷ 1 ∷ []) $ fjoin ! $ move ! (1 ∷ 0 ∷ []) $
        use2 𝓛 (‵ (Row o (take i xs ++ x ∷ drop (suc i) xs)))
        (glue (take i xs) (x ∷ drop (suc i) xs) o (i * s + o) (before (omega arith))) $
        rewrite ! 0 (λ (l : List (Slot E)). ‵ (Row o l)) (sym (set_split xs i x lt)) refl $ done !

    module _ (k : ℕ) where
      -- `around` is the memory of all slots except the slots `i..i + k`.
      abbrev pub around : Fml
      around = fsep (Row o (take i xs)) (Row (k * s + (i * s + o)) (drop (i + k) xs))

      pub run_out : i + k ≤ length xs → (ys : List (Slot E)) → slot_range i k xs ≡ ys
          → ent 𝓤 (sem 𝓛 (Row o xs)) (sep 𝓤 (sem 𝓛 (Row (i * s + o) ys)) (sem 𝓛 around))
      run_out le ys is =
          let rest = drop (i + k) xs in
          let long : k ≡ length (slot_range i k xs) =
          omega (arith, length-take k (drop i xs), length-drop i xs) in
          let parted : xs ≡ take i xs ++ (slot_range i k xs ++ rest) = sym (take-append-drop i xs)
          ∙ ap (λ l. take i xs ++ l) (sym (take-append-drop k (drop i xs))
          ∙ ap (λ l. slot_range i k xs ++ l) (drop-drop k i xs)) in
          qed 𝓛 (‵ (Row o xs) ∷ []) ∵ rewrite ! 0 (λ (l : List (Slot E)). ‵ (Row o l)) parted refl $
          use1 𝓛 (‵ (Row o (take i xs)) ⊛ ‵ (Row (i * s + o) (slot_range i k xs ++ rest)))
          (cut (take i xs) (slot_range i k xs ++ rest) o (i * s + o) (before (omega arith))) $
          split ! $ move ! (1 ∷ []) $
          use1 𝓛 (‵ (Row (i * s + o) (slot_range i k xs)) ⊛ ‵ (Row (k * s + (i * s + o)) rest))
          (cut (slot_range i k xs) rest (i * s + o) (k * s + (i * s + o))
          (ap (λ k. k * s + (i * s + o)) long)) $
          split ! $ rewrite ! 0 (λ (l : List (Slot E)). ‵ (Row (i * s + o) l)) is refl $
          move ! (2 ∷ 1 ∷ []) $ fjoin ! $ move ! (1 ∷ []) $ done !

      pub run_in : i + k ≤ length xs → (ys : List (Slot E)) → length ys ≡ k
          → ent 𝓤 (sep 𝓤 (sem 𝓛 (Row (i * s + o) ys)) (sem 𝓛 around))
          (sem 𝓛 (Row o (write_slots i ys xs)))
      run_in le ys long =
          let rest = drop (i + k) xs in
          qed 𝓛 (‵ (Row (i * s + o) ys) ∷ ‵ around ∷ []) ∵ move ! (1 ∷ []) $
          fsplit ! $ move ! (2 ∷ 1 ∷ []) $
          use2 𝓛 (‵ (Row (i * s + o) (ys ++ rest)))
          (glue ys rest (i * s + o) (k * s + (i * s + o))
          (ap (λ k. k * s + (i * s + o)) (sym long))) $ move ! (1 ∷ 0 ∷ []) $
          use2 𝓛 (‵ (Row o (take i xs ++ (ys ++ rest))))
          (glue (take i xs) (ys ++ rest) o (i * s + o) (before (omega arith))) $
          rewrite ! 0 (λ (k : ℕ). ‵ (Row o (take i xs ++ (ys ++ drop (i + k) xs))))
          (sym long) refl $ done !

  abbrev E' : arrays.El
  E' = record { row = E.row; laws = E.laws }

  to_row : (xs : List (el_x E)) (o : ℕ) → ent 𝓤 (sem 𝓛 (Row o (filled_slots xs)))
      (sem 𝓛 (row (R E) full_share xs b o))
  to_row [] o = id⊢ 𝓤 (emp 𝓤)
  to_row (x ∷ xs) o = mono_r 𝓤 (sem 𝓛 (part_at (R E) full_share x b o)) (to_row xs (o + s))

  of_row : (xs : List (el_x E)) (o : ℕ) → ent 𝓤 (sem 𝓛 (row (R E) full_share xs b o))
      (sem 𝓛 (Row o (filled_slots xs)))
  of_row [] o = id⊢ 𝓤 (emp 𝓤)
  of_row (x ∷ xs) o = mono_r 𝓤 (sem 𝓛 (part_at (R E) full_share x b o)) (of_row xs (o + s))

  pub to_items : (k : ℕ) (xs : List (el_x E)) (o : ℕ) → length xs ≡ k
      → ent 𝓤 (sem 𝓛 (Row o (filled_slots xs))) (sem 𝓛 (part_at (Array (R E) k) full_share xs b o))
  to_items k xs o long = qed 𝓛 (‵ (Row o (filled_slots xs)) ∷ []) ∵
      use1 𝓛 (‵ (row (R E) full_share xs b o))
      (to_row xs o) $ by ! (arrays.whole E' 𝓛 full_share k xs b o long)

  pub of_items : (k : ℕ) (xs : List (el_x E)) (o : ℕ)
      → ent 𝓤 (sem 𝓛 (part_at (Array (R E) k) full_share xs b o)) (sem 𝓛 (Row o (filled_slots xs)))
  of_items k xs o = qed 𝓛 (‵ (part_at (Array (R E) k) full_share xs b o) ∷ []) ∵
      use1 𝓛 (given (length xs ≡ k) (‵ (row (R E) full_share xs b o)))
      (arrays.apart E' 𝓛 full_share k xs b o) $ learn ! (λ _. by ! (of_row xs o))

  pub counted : (k : ℕ) (xs : List (el_x E)) (o : ℕ)
      → ent 𝓤 (sem 𝓛 (part_at (Array (R E) k) full_share xs b o))
      (guard 𝓤 (length xs ≡ k) (sem 𝓛 (part_at (Array (R E) k) full_share xs b o)))
  counted k xs o = qed 𝓛 (‵ (part_at (Array (R E) k) full_share xs b o) ∷ []) ∵
      use1 𝓛 (given (length xs ≡ k) (‵ (row (R E) full_share xs b o)))
      (arrays.apart E' 𝓛 full_share k xs b o) $
      learn ! (λ long. check ! long $ by ! (arrays.whole E' 𝓛 full_share k xs b o long))

  pub to_cells : (xs : List (el_x E)) (o : ℕ) → ent 𝓤 (sem 𝓛 (Row o (filled_slots xs)))
      (sem 𝓛 (cells (mem (R E)) xs b o))
  to_cells [] o = id⊢ 𝓤 (emp 𝓤)
  to_cells (x ∷ xs) o = mono_r 𝓤 (sem 𝓛 (part_at (R E) full_share x b o)) (to_cells xs (o + s))

  pub of_cells : (xs : List (el_x E)) (o : ℕ) → ent 𝓤 (sem 𝓛 (cells (mem (R E)) xs b o))
      (sem 𝓛 (Row o (filled_slots xs)))
  of_cells [] o = id⊢ 𝓤 (emp 𝓤)
  of_cells (x ∷ xs) o = mono_r 𝓤 (sem 𝓛 (part_at (R E) full_share x b o)) (of_cells xs (o + s))

  pub of_room : (k o : ℕ) → ent 𝓤 (H.room (ty_array (elτ E) k) b o) (sem 𝓛 (Row o (empty_slots k)))
  of_room zero o = qed 𝓛 (‵ (froom (ty_array (elτ E) 0) b o) ∷ []) ∵ keep ! [] $ done !
  of_room (suc k) o = qed 𝓛 (‵ (froom (ty_array (elτ E) (suc k)) b o) ∷ []) ∵
      use1 𝓛 (‵ (froom (elτ E) b o) ⊛ ‵ (froom (ty_array (elτ E) k) b (o + s)))
      (𝓛.laws.room_uncons (elτ E) k b o) $ split ! $
      use1 𝓛 (‵ (slot_owns (R E) None b o)) (𝓛.laws.room-raw (elτ E) b o) $ keeps ! $
      by ! (of_room k (o + s))

  pub to_room : (k o : ℕ) → ent 𝓤 (sem 𝓛 (Row o (empty_slots k))) (H.room (ty_array (elτ E) k) b o)
  to_room zero o = 𝓛.laws.room_nil (elτ E) b o
  to_room (suc k) o = qed 𝓛 (‵ (Row o (empty_slots (suc k))) ∷ []) ∵ fsplit ! $
      use1 𝓛 (‵ (froom (elτ E) b o)) (𝓛.laws.raw-room (elτ E) b o) $ move ! (1 ∷ []) $
      use1 𝓛 (‵ (froom (ty_array (elτ E) k) b (o + s))) (to_room k (o + s)) $ move ! (1 ∷ []) $
      by ! (𝓛.laws.room_cons (elτ E) k b o)

  -- `bare` erases the field names from a type.
  pub of_raw : (k o : ℕ)
      → ent 𝓤 (H.room (bare (ty_array (elτ E) k)) b o) (sem 𝓛 (Row o (empty_slots k)))
  of_raw k o = via 𝓤 (H.room (ty_array (elτ E) k) b o)
      (𝓛.laws.raw-room (ty_array (elτ E) k) b o) (of_room k o)

  pub to_raw : (k o : ℕ)
      → ent 𝓤 (sem 𝓛 (Row o (empty_slots k))) (H.room (bare (ty_array (elτ E) k)) b o)
  to_raw k o = via 𝓤 (H.room (ty_array (elτ E) k) b o) (to_room k o)
      (𝓛.laws.room-raw (ty_array (elτ E) k) b o)

  -- If `i < j`, then `Others o xs i j` is the memory of all slots except `i` and `j`.
  abbrev Others : ℕ → List (Slot E) → ℕ → ℕ → Fml
  Others o xs i j = fsep (besides o (take j xs) i) (Row (j * s + o + s) (drop (suc j) xs))

  front_long : (xs : List (Slot E)) (j : ℕ) → j < length xs → length (take j xs) ≡ j
  front_long xs j within = omega (arith, length-take j xs)

  ordered_out : (o : ℕ) (xs : List (Slot E)) (i j : ℕ) → i < j → j < length xs
      → ent 𝓤 (sem 𝓛 (Row o xs))
      (sep 𝓤 (sem 𝓛 (slot_owns (R E) (get_or xs i None) b (i * s + o)))
      (sep 𝓤 (sem 𝓛 (slot_owns (R E) (get_or xs j None) b (j * s + o))) (sem 𝓛 (Others o xs i j))))
  ordered_out o xs i j first within =
      let front : List (Slot E) = take j xs in
      let low : i < length front = omega (arith, front_long xs j within) in
      qed 𝓛 (‵ (Row o xs) ∷ []) ∵
      use1 𝓛 (‵ (slot_owns (R E) (get_or xs j None) b (j * s + o)) ⊛ ‵ (besides o xs j))
      (slot_out o xs j within) $ split ! $ move ! (1 ∷ []) $ fsplit ! $
      use1 𝓛 (‵ (slot_owns (R E) (get_or front i None) b (i * s + o)) ⊛ ‵ (besides o front i))
      (slot_out o front i low) $ split ! $
      rewrite ! 0 (λ (x : Slot E). ‵ (slot_owns (R E) x b (i * s + o)))
      (get_or-take j xs i None first) refl $
      move ! (1 ∷ 2 ∷ []) $ fjoin ! $ move ! (1 ∷ 2 ∷ 0 ∷ []) $ done !

  ordered_in : (o : ℕ) (xs : List (Slot E)) (i j : ℕ) → i < j → j < length xs → (x y : Slot E)
      → ent 𝓤 (sep 𝓤 (sem 𝓛 (slot_owns (R E) x b (i * s + o)))
      (sep 𝓤 (sem 𝓛 (slot_owns (R E) y b (j * s + o))) (sem 𝓛 (Others o xs i j))))
      (sem 𝓛 (Row o (set (set xs i x) j y)))
  ordered_in o xs i j first within x y =
      let front : List (Slot E) = take j xs in
      let low : i < length front = omega (arith, front_long xs j within) in
      let low' : j < length (set xs i x) = omega (arith, length-set xs i x) in
      qed 𝓛 (‵ (slot_owns (R E) x b (i * s + o)) ∷ ‵ (slot_owns (R E) y b (j * s + o)) ∷ ‵
      (Others o xs i j) ∷ []) ∵ move ! (2 ∷ []) $ fsplit ! $ move ! (2 ∷ 0 ∷ []) $
      use2 𝓛 (‵ (Row o (set front i x))) (slot_in o front i low x) $
      rewrite ! 0 (λ (l : List (Slot E)). ‵ (Row o l)) (sym (take-set-lt j xs i x first)) refl $
      rewrite ! 1 (λ (l : List (Slot E)). ‵ (Row (j * s + o + s) l))
      (sym (drop-set-lt (suc j) xs i x (omega arith))) refl $ fjoin ! $ move ! (1 ∷ 0 ∷ []) $
      by ! (slot_in o (set xs i x) j low' y)

  -- `Two o xs i j` states that the slots `i` and `j` of `xs` can be separated from the other slots,
  -- changed, and put back. Slot 0 begins at the offset `o`.
  pub record Two (o : ℕ) (xs : List (Slot E)) (i j : ℕ) : Type 1 where
    pub Rest : Fml
    pub out : ent 𝓤 (sem 𝓛 (Row o xs))
        (sep 𝓤 (sem 𝓛 (slot_owns (R E) (get_or xs i None) b (i * s + o)))
        (sep 𝓤 (sem 𝓛 (slot_owns (R E) (get_or xs j None) b (j * s + o))) (sem 𝓛 Rest)))
    pub back : (x y : Slot E)
        → ent 𝓤 (sep 𝓤 (sem 𝓛 (slot_owns (R E) x b (i * s + o)))
        (sep 𝓤 (sem 𝓛 (slot_owns (R E) y b (j * s + o))) (sem 𝓛 Rest)))
        (sem 𝓛 (Row o (set (set xs i x) j y)))

  in_order : (o : ℕ) (xs : List (Slot E)) (i j : ℕ) → i < j → j < length xs → Two o xs i j
  in_order o xs i j first within =
      record {
        Rest = Others o xs i j;
        out = ordered_out o xs i j first within;
        back = ordered_in o xs i j first within;
      }

  turned : (o : ℕ) (xs : List (Slot E)) (i j : ℕ) → j < i → i < length xs → Two o xs i j
  turned o xs i j first within =
      let P : Slot E → ℕ → Fml = λ x k. slot_owns (R E) x b (k * s + o) in
      let Rest : Fml = Others o xs j i in
      record {
        Rest = Rest;
        out = qed 𝓛 (‵ (Row o xs) ∷ []) ∵ use1 𝓛
            (‵ (P (get_or xs j None) j) ⊛ ‵ (P (get_or xs i None) i) ⊛ ‵ Rest)
            (ordered_out o xs j i first within) $ split3 ! $ move ! (1 ∷ 0 ∷ []) $ done !;
        back = λ x y. qed 𝓛 (‵ (P x i) ∷ ‵ (P y j) ∷ ‵ Rest ∷ []) ∵ move ! (1 ∷ 0 ∷ []) $
            use3 𝓛 (‵ (Row o (set (set xs j y) i x))) (ordered_in o xs j i first within y x) $
            rewrite ! 0 (λ (l : List (Slot E)). ‵ (Row o l))
            (set_comm xs j i y x (λ e. absurd (let e' : j ≡ i = e in omega arith))) refl $
            done !;
      }

  pub two_slots : (o : ℕ) (xs : List (Slot E)) (i j : ℕ) → (i ≡ j → ⊥) → i < length xs
      → j < length xs → Two o xs i j
  two_slots o xs i j apart low low' = ⊎_elim (λ (p : i < j). in_order o xs i j p low')
      (λ (p : j ≤ i). turned o xs i j (omega arith) low) (order i j)
