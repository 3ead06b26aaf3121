-- These lemmas convert the memory of items into memory of words, and back. Here, a word is a struct
-- of `m` items, which takes 8 or 16 bytes.
use Rattle.std.proofs.Common.{◌≡◌, ℕ, zero, suc, Some, ◌+◌, ◌-◌, ◌*◌, ◌≤◌, List, [], ◌∷◌, ◌++◌}
use Rattle.std.proofs.Common.{length, map, take, drop as rest, refl, sym, ap, ◌∙◌, arith, zero-mul}
use Rattle.std.proofs.Common.{suc-mul, Option, w64}
use native.Mathlib.Nat.{mul_assoc}
use seplogic.Ra.Ura.{Ura}
use base.Fml.{Fml, ftrue, froom}
use base.Fraction.{full_share}
use base.Logic.{SProp, ent, sep, apply∗}
use mir.Raw.{raw as bare}
use mir.Syntax.{Ty, ty_int, ty_array}
use prog.Memory.{size, align, up}
use prog.RawLaws.{size-raw}
use contract.Monad.{conj, conj_r}
use types.Kit.{‵, raw, ◌⊛◌, ◌$◌, ◌∵◌, !, qed, by, move, keep, use0, use1, use2, use3, split, split3}
use types.Kit.{join, fsplit, fjoin, rewrite, assume, done}
use types.Logic.{Logic, sem}
use denote.Array.{Array, Array-Lawful}
use denote.Builtin.{u64}
use denote.Exit.{yes}
use denote.Memory.{part_at}
use denote.Param.{layout, param, number, ArrayAt, arg}
use denote.Param.Laws.{Laws, param_laws, array_at_laws, arg_laws}
use denote.RattleType.{RattleType}
use denote.RawPtr.Room.{past, room_cut, room_glue}
use denote.Steps.{nothing}
use denote.Struct.Declared.{shape}
use denote.Struct.Laws.{u64-laws}
use denote.Struct.Members.{Member, parts_at, rooms_for}
use denote.Struct.Parts.{shape_of, PartsBack, RoomBack, Struct-parts_free}
use denote.Struct.Recorded.{Recorded-part}
use denote.Struct.Struct.{Struct}
use Rattle.core.specs.Simd.{first_chunks}
use Rattle.core.proofs.mem.Param.{El, R, el_x}
use Rattle.core.proofs.ptr.Rows.{add_times}
use Rattle.std.proofs.lemmas.List.{length-take, take-append-drop, length-drop, length-map}
use Rattle.std.proofs.lemmas.List.{map-append}
use Rattle.std.specs.Mem.{type_size}
use Rattle.thin_block.specs.Ownership.{slots_own, word_of, word_wand, word_wands, slots_wand}
use Rattle.thin_block.specs.Slots.{filled_slots, empty_slots}
use Rattle.thin_block.specs.Words.{word, chunks_at}
use Rattle.thin_block.specs.contracts.words.Word.{the_row, the_type}
use Rattle.thin_block.proofs.HeaderMemory.{alignment}
use Rattle.thin_block.proofs.SlotMemory.{cut, glue, to_items, of_items, to_raw, of_raw}
use Rattle.thin_block.proofs.words.Word.TheLaws.{the_row_laws}
use Rattle.thin_block.proofs.words.WordRooms.{past_is, ways_in, ways_out}
use Rattle.thin_block.proofs.words.WordsLemmas.{InWords, nameless}

-- `number_of_items m` is the const argument of the type `Word`: the number of items in a word.
abbrev pub number_of_items : ℕ → RattleType
number_of_items m = param 1 (number m)

-- `word_row T m` is the type of a word that consists of `m` items of the type `T`.
abbrev pub word_row : RattleType → ℕ → RattleType
word_row T m = the_row (param 0 T) (number_of_items m)

-- `word_el T L m` combines the type of words of `m` items with the laws of this type.
abbrev pub word_el : (T : RattleType) → Laws T → ℕ → El
word_el T L m = record {
  row = word_row T m;
  laws = the_row_laws (param 0 T) (number_of_items m) (param_laws 0 T L) refl;
}

-- `array_el T L m` is the type argument of a call to `resize_array`, with its laws: the type of
-- these words, with its layout.
abbrev pub array_el : (T : RattleType) → Laws T → ℕ → El
array_el T L m = record {
  row = arg (word_of (layout T) m) yes (word_row T m);
  laws = arg_laws (word_of (layout T) m) yes (word_row T m) (word_el T L m).laws refl;
}

-- `words_made T m n xs` is the list of the first `n` words of `m` items that are made from `xs`.
abbrev pub words_made : (T : RattleType) (m n : ℕ) → List T.Denot → List (word_row T m).Denot
words_made T m n xs = map (word (param 0 T) (number_of_items m)) (first_chunks m n xs)

pub chunks_long : {X : Type 0} (m n : ℕ) (xs : List X) → length (first_chunks m n xs) ≡ n
chunks_long m zero xs = refl
chunks_long m (suc n) xs = ap suc (chunks_long m n (rest m xs))

pub words_long : (T : RattleType) (m n : ℕ) (xs : List T.Denot)
    → length (words_made T m n xs) ≡ n
words_long T m n xs = length-map (first_chunks m n xs) (word (param 0 T) (number_of_items m))
    ∙ chunks_long m n xs

module _ {M : Type 1} {𝓤 : Ura M} (𝓛 : Logic 𝓤) (T : RattleType) (L : Laws T) (m k b : ℕ)
    (hd : InWords (size (layout T)) (align (layout T)) m k) where
  open 𝓛 use {H}

  abbrev E : El
  E = record { row = T; laws = L }

  abbrev W : El
  W = word_el T L m

  abbrev N : RattleType
  N = number_of_items m

  abbrev X : Type 0
  X = el_x E

  abbrev σ : Ty
  σ = layout T

  abbrev τ' : Ty
  τ' = bare σ

  abbrev s : ℕ
  s = size σ

  abbrev u' : ℕ
  u' = size (word_of τ' m)

  hd' : InWords (size τ') (align τ') m k
  hd' = nameless σ m k hd

  wide : u' ≡ m * s
  wide = hd'.size ∙ ap (λ (n : ℕ). m * n) (size-raw σ)

  named : u' ≡ type_size (R W)
  named = size-raw (layout W.row)

  -- `fields` lists the two fields of a word: the array of its `m` items, and an array of length 0.
  abbrev fields : List Member
  fields = record { row = ArrayAt (R E) N; ty = ty_array σ m }
      ∷ record { row = Array u64 0; ty = ty_array (ty_int w64) 0 } ∷ []

  abbrev Tuple : RattleType
  Tuple = Struct (shape_of (the_type (R E) N).name fields)

  -- In memory, a word is the same as the tuple of its fields.
  as_tuple : (v : W.row.Denot) (o : ℕ) → part_at W.row full_share v b o
      ≡ part_at Tuple full_share (v.items, (v.aligned, tt)) b o
  as_tuple v o =
      let D = the_type (R E) N in
      Recorded-part (Struct (shape D)) D.D D.to D.to_one full_share v b o

  module _ (o : ℕ) where
    abbrev first : ℕ
    first = o + up (align σ) 0

    abbrev second : ℕ
    second = o + up 8 (up (align σ) 0 + m * s)

    at_start : first ≡ o
    at_start = let z = (alignment σ).zero_up in omega arith

    abbrev Rooms : SProp 𝓤
    Rooms = rooms_for 𝓤 H fields zero b o

    -- Memory for the items alone can be converted into memory for the word, because the array of
    -- items is the only field that takes any bytes.
    way_out : ent 𝓤 (RoomBack 𝓤 H (the_type (R E) N).name fields b o) (sem 𝓛 (word_wand τ' m b o))
    way_out =
        qed 𝓛 (raw (RoomBack 𝓤 H (the_type (R E) N).name fields b o) ∷ []) ∵
        assume {P = H.room (word_of τ' m) b o} ! (‵ (froom (ty_array τ' m) b o)) $
        use1 𝓛 (‵ (froom (ty_array σ m) b o)) (𝓛.laws.raw-room (ty_array σ m) b o) $
        rewrite ! 0 (λ (n : ℕ). ‵ (froom (ty_array σ m) b n)) (sym at_start) refl $
        nothing ! $ use0 𝓛 (‵ (froom (ty_array (ty_int w64) 0) b second))
        (𝓛.laws.room_nil (ty_int w64) b second) $ join ! $ move ! (1 ∷ 0 ∷ []) $ join ! $
        use2 𝓛 (‵ (froom (layout W.row) b o)) (apply∗ 𝓤 Rooms (H.room (layout W.row) b o)) $
        by ! (𝓛.laws.room-raw (layout W.row) b o)

    -- Splits a word in memory into its items and the right to convert their memory back.
    pub word_out : (xs : List X) → ent 𝓤 (sem 𝓛 (part_at (R W) full_share (word (R E) N xs) b o))
        (sep 𝓤 (sem 𝓛 (part_at (Array (R E) m) full_share xs b o)) (sem 𝓛 (word_wand τ' m b o)))
    word_out xs =
        let ν = (the_type (R E) N).name in
        let Back = RoomBack 𝓤 H ν fields b o in
        qed 𝓛 (‵ (part_at (R W) full_share (word (R E) N xs) b o) ∷ []) ∵
        rewrite ! 0 (λ (f : Fml). ‵ f) (as_tuple (word (R E) N xs) o) refl $
        use1 𝓛 (‵ (parts_at full_share fields zero (xs, ([], tt)) b o) ⊛ raw
        (conj 𝓤 (PartsBack 𝓛 full_share ν fields b o) Back))
        (Struct-parts_free 𝓛 ν fields (
          (array_at_laws 1 (R E) (param_laws 0 T L) m).lawful 𝓛,
          (Array-Lawful 𝓛 u64 (u64-laws.lawful 𝓛) 0, tt),
        ) (xs, ([], tt)) b o) $ split ! $
        fsplit ! $ move ! (2 ∷ []) $
        use1 𝓛 (raw Back) (conj_r 𝓤 (PartsBack 𝓛 full_share ν fields b o) Back) $
        use1 𝓛 (‵ (word_wand τ' m b o)) way_out $ keep ! (1 ∷ 0 ∷ []) $
        rewrite ! 0 (λ (n : ℕ). ‵ (part_at (Array (R E) m) full_share xs b n)) at_start refl $
        done !

  abbrev chunks : ℕ → List X → List (List X)
  chunks n xs = first_chunks m n xs

  abbrev words : ℕ → List X → List W.row.Denot
  words n xs = words_made T m n xs

  parted : (xs : List X) → filled_slots xs ≡ filled_slots (take m xs) ++ filled_slots (rest m xs)
  parted xs = ap filled_slots (sym (take-append-drop m xs))
      ∙ map-append Some (take m xs) (rest m xs)

  module _ (n : ℕ) (xs : List X) (o : ℕ) (long : length xs ≡ suc n * m) where
    first_long : length (take m xs) ≡ m
    first_long = omega (arith, length-take m xs, suc-mul n m)

    rest_long : length (rest m xs) ≡ n * m
    rest_long = omega (arith, length-drop m xs, suc-mul n m)

    next : o + u' ≡ length (filled_slots (take m xs)) * s + o
    next =
        let same : length (filled_slots (take m xs)) * s ≡ m * s =
        ap (λ (n : ℕ). n * s) (length-map (take m xs) Some ∙ first_long) in
        let e = wide in omega arith

  -- Groups the slots of `xs` into `n` words, each with one of the `w` rights. `j` rights are left
  -- over.
  to_runs : (n w j : ℕ) (xs : List X) (o at : ℕ) → length xs ≡ n * m → w ≡ j + n → at ≡ n * u' + o
      → ent 𝓤 (sep 𝓤 (sem 𝓛 (slots_own (R E) (filled_slots xs) b o))
      (sem 𝓛 (word_wands τ' m w b o)))
      (sep 𝓤 (sem 𝓛 (chunks_at (R E) N (chunks n xs) b o)) (sem 𝓛 (word_wands τ' m j b at)))
  to_runs zero w j [] o at long ew ea =
      qed 𝓛 (‵ ftrue ∷ ‵ (word_wands τ' m w b o) ∷ []) ∵
      rewrite ! 1 (λ (n : ℕ). ‵ (word_wands τ' m n b o)) {x = j} (omega (arith, ew)) refl $
      rewrite ! 1 (λ (n : ℕ). ‵ (word_wands τ' m j b n)) {x = at}
      (omega (arith, ea, zero-mul u')) refl $
      done !
  to_runs zero w j (x ∷ xs) o at long ew ea = absurd (omega (arith, long, zero-mul m))
  to_runs (suc n) w j xs o at long ew ea =
      let c : List X = take m xs in
      let far : ℕ = o + u' in
      qed 𝓛 (‵ (slots_own (R E) (filled_slots xs) b o) ∷ ‵ (word_wands τ' m w b o) ∷ []) ∵
      rewrite ! 0 (λ (l : List (Option X)). ‵ (slots_own (R E) l b o)) (parted xs) refl $
      use1 𝓛 (‵ (slots_own (R E) (filled_slots c) b o) ⊛
      ‵ (slots_own (R E) (filled_slots (rest m xs)) b far))
      (cut E 𝓛 b (filled_slots c) (filled_slots (rest m xs)) o far (next n xs o long)) $ split ! $
      use1 𝓛 (‵ (part_at (Array (R E) m) full_share c b o))
      (to_items E 𝓛 b m c o (first_long n xs o long)) $ move ! (2 ∷ []) $
      rewrite ! 0 (λ (n : ℕ). ‵ (word_wands τ' m n b o)) {x = suc (j + n)}
      (omega (arith, ew)) refl $
      fsplit ! $
      -- The context is now: the right to convert the first word; the rights for all later words;
      -- the items of the first word; the slots with the items of the other words.
      move ! (2 ∷ 0 ∷ []) $ fjoin ! $ move ! (2 ∷ 1 ∷ []) $
      use2 𝓛 (‵ (chunks_at (R E) N (chunks n (rest m xs)) b far) ⊛ ‵ (word_wands τ' m j b at))
      (to_runs n (j + n) j (rest m xs) far at (rest_long n xs o long) refl
      (omega (arith, ea, suc-mul n u'))) $ split ! $ move ! (2 ∷ 0 ∷ []) $ fjoin ! $ done !

  -- Converts `n` words into slots that hold `xs`, and adds their rights to the `j` rights after
  -- them.
  of_runs : (n w j : ℕ) (xs : List X) (o at : ℕ) → length xs ≡ n * m → w ≡ j + n → at ≡ n * u' + o
      → ent 𝓤 (sep 𝓤 (sem 𝓛 (slots_own (R W) (filled_slots (words n xs)) b o))
      (sem 𝓛 (word_wands τ' m j b at)))
      (sep 𝓤 (sem 𝓛 (slots_own (R E) (filled_slots xs) b o)) (sem 𝓛 (word_wands τ' m w b o)))
  of_runs zero w j [] o at long ew ea =
      qed 𝓛 (‵ ftrue ∷ ‵ (word_wands τ' m j b at) ∷ []) ∵
      rewrite ! 1 (λ (n : ℕ). ‵ (word_wands τ' m j b n)) {x = o}
      (omega (arith, ea, zero-mul u')) refl $
      rewrite ! 1 (λ (n : ℕ). ‵ (word_wands τ' m n b o)) {x = w} (omega (arith, ew)) refl $ done !
  of_runs zero w j (x ∷ xs) o at long ew ea = absurd (omega (arith, long, zero-mul m))
  of_runs (suc n) w j xs o at long ew ea =
      let c : List X = take m xs in
      let far : ℕ = o + u' in
      let others : List W.row.Denot = words n (rest m xs) in
      qed 𝓛 (‵ (slots_own (R W) (filled_slots (words (suc n) xs)) b o) ∷ ‵ (word_wands τ' m j b at)
      ∷ []) ∵
      fsplit ! $
      use1 𝓛 (‵ (part_at (Array (R E) m) full_share c b o) ⊛ ‵ (word_wand τ' m b o))
      (word_out o c) $
      split ! $ use1 𝓛 (‵ (slots_own (R E) (filled_slots c) b o)) (of_items E 𝓛 b m c o) $
      move ! (2 ∷ 3 ∷ []) $
      rewrite ! 0 (λ (n : ℕ). ‵ (slots_own (R W) (filled_slots others) b (o + n)))
      (sym named) refl $
      use2 𝓛 (‵ (slots_own (R E) (filled_slots (rest m xs)) b far) ⊛
      ‵ (word_wands τ' m (j + n) b far))
      (of_runs n (j + n) j (rest m xs) far at (rest_long n xs o long) refl
      (omega (arith, ea, suc-mul n u'))) $ split ! $
      -- The context is now: the slots of the words after the first; the rights for these words,
      -- with the `j` rights from before; the slots of the first word; the right for the first word.
      move ! (2 ∷ 0 ∷ []) $
      use2 𝓛 (‵ (slots_own (R E) (filled_slots c ++ filled_slots (rest m xs)) b o))
      (glue E 𝓛 b (filled_slots c) (filled_slots (rest m xs)) o far (next n xs o long)) $
      rewrite ! 0 (λ (l : List (Option X)). ‵ (slots_own (R E) l b o)) (sym (parted xs)) refl $
      move ! (2 ∷ 1 ∷ []) $ fjoin ! $
      rewrite ! 0 (λ (n : ℕ). ‵ (word_wands τ' m n b o))
      (let more : suc (j + n) ≡ w = omega (arith, ew) in more) refl $ move ! (1 ∷ 0 ∷ []) $ done !

  -- The next lemmas are about the memory of empty slots.
  module _ (j v pad at far : ℕ) (whole : j + pad ≡ v * m) (end : far ≡ at + j * size τ') where
    abbrev Spare : Fml
    Spare = froom (ty_array τ' pad) b far

    end_at : far ≡ past τ' j at
    end_at = end ∙ sym (past_is τ' j at)

    -- Converts `j` empty slots and the spare memory after the last slot into `v` empty words.
    spare_words : ent 𝓤 (sep 𝓤 (sem 𝓛 (slots_own (R E) (empty_slots j) b at))
        (sep 𝓤 (sem 𝓛 (word_wands τ' m v b at)) (sem 𝓛 Spare)))
        (sem 𝓛 (slots_own (R W) (empty_slots v) b at))
    spare_words =
        qed 𝓛 (‵ (slots_own (R E) (empty_slots j) b at) ∷ ‵ (word_wands τ' m v b at) ∷ ‵ Spare
        ∷ []) ∵
        use1 𝓛 (‵ (froom (ty_array τ' j) b at)) (to_raw E 𝓛 b j at) $ move ! (2 ∷ []) $
        rewrite ! 0 (λ (n : ℕ). ‵ (froom (ty_array τ' pad) b n)) end_at refl $
        move ! (1 ∷ 0 ∷ []) $ use2 𝓛 (‵ (froom (ty_array τ' (j + pad)) b at))
        (room_glue 𝓛 τ' j pad b at) $
        rewrite ! 0 (λ (n : ℕ). ‵ (froom (ty_array τ' n) b at)) whole refl $
        use2 𝓛 (‵ (froom (ty_array (word_of τ' m) v) b at)) (ways_in 𝓛 τ' m k b hd' v at) $
        by ! (of_raw W 𝓛 b v at)

    -- Undoes `spare_words`.
    spare_slots : ent 𝓤 (sem 𝓛 (slots_own (R W) (empty_slots v) b at))
        (sep 𝓤 (sem 𝓛 (slots_own (R E) (empty_slots j) b at))
        (sep 𝓤 (sem 𝓛 (word_wands τ' m v b at)) (sem 𝓛 Spare)))
    spare_slots =
        qed 𝓛 (‵ (slots_own (R W) (empty_slots v) b at) ∷ []) ∵
        use1 𝓛 (‵ (froom (ty_array (word_of τ' m) v) b at)) (to_raw W 𝓛 b v at) $
        use1 𝓛 (‵ (froom (ty_array τ' (v * m)) b at) ⊛ ‵ (word_wands τ' m v b at))
        (ways_out 𝓛 τ' m k b hd' v at) $ split ! $
        rewrite ! 0 (λ (n : ℕ). ‵ (froom (ty_array τ' n) b at)) (sym whole) refl $
        use1 𝓛 (‵ (froom (ty_array τ' j) b at) ⊛ ‵ (froom (ty_array τ' pad) b (past τ' j at)))
        (room_cut 𝓛 τ' j pad b at) $ split ! $
        use1 𝓛 (‵ (slots_own (R E) (empty_slots j) b at)) (of_raw E 𝓛 b j at) $ move ! (1 ∷ []) $
        rewrite ! 0 (λ (n : ℕ). ‵ (froom (ty_array τ' pad) b n)) (sym end_at) refl $
        move ! (1 ∷ 2 ∷ 0 ∷ []) $ done !

  -- In this module, the `c` slots of a block occupy `w` words. The first `n` words hold the items
  -- `xs`, and the other `v` words contain the `j` empty slots.
  module _ (xs : List X) (n j v w c o : ℕ) (long : length xs ≡ n * m) (all : c ≡ length xs + j)
      (total : w ≡ v + n) (le : c ≤ w * m) where
    abbrev after : ℕ
    after = n * type_size (R W) + o

    abbrev pad' : ℕ
    pad' = w * m - c

    at_after : after ≡ n * u' + o
    at_after = ap (λ (x : ℕ). n * x + o) (sym named)

    same_bytes : n * u' ≡ length xs * s
    same_bytes = ap (λ (x : ℕ). n * x) wide
        ∙ (sym (mul_assoc n m s) ∙ ap (λ (x : ℕ). x * s) (sym long))

    last : after ≡ length (filled_slots xs) * s + o
    last =
        let same = ap (λ (x : ℕ). x * s) (length-map xs Some) in
        let e = same_bytes in let a = at_after in omega arith

    whole : j + pad' ≡ v * m
    whole =
        let summed : w * m ≡ v * m + n * m = ap (λ (x : ℕ). x * m) total ∙ add_times v n m in
        omega arith

    end : o + c * size τ' ≡ after + j * size τ'
    end =
        let summed : c * size τ' ≡ length xs * size τ' + j * size τ' =
        ap (λ (x : ℕ). x * size τ') all ∙ add_times (length xs) j (size τ') in
        let same : length xs * size τ' ≡ length xs * s =
        ap (λ (x : ℕ). length xs * x) (size-raw σ) in
        let e = same_bytes in let a = at_after in omega arith

    -- Groups the filled slots by word, and converts the empty slots into empty words.
    pub words_in : ent 𝓤 (sep 𝓤 (sem 𝓛 (slots_own (R E) (filled_slots xs ++ empty_slots j) b o))
        (sem 𝓛 (slots_wand τ' m w c b o)))
        (sep 𝓤 (sem 𝓛 (chunks_at (R E) N (chunks n xs) b o))
        (sem 𝓛 (slots_own (R W) (empty_slots v) b after)))
    words_in =
        qed 𝓛 (‵ (slots_own (R E) (filled_slots xs ++ empty_slots j) b o)
        ∷ ‵ (slots_wand τ' m w c b o) ∷ []) ∵
        use1 𝓛 (‵ (slots_own (R E) (filled_slots xs) b o) ⊛
        ‵ (slots_own (R E) (empty_slots j) b after))
        (cut E 𝓛 b (filled_slots xs) (empty_slots j) o after last) $ split ! $ move ! (2 ∷ []) $
        fsplit ! $
        -- The context is now: the right, for each word, to convert memory for its items into memory
        -- for the word (`word_wands`); the unused memory after the last slot; the filled slots; the
        -- empty slots.
        move ! (2 ∷ 0 ∷ []) $
        use2 𝓛 (‵ (chunks_at (R E) N (chunks n xs) b o) ⊛ ‵ (word_wands τ' m v b after))
        (to_runs n w v xs o after long total at_after) $ split ! $ move ! (3 ∷ 1 ∷ 2 ∷ []) $
        use3 𝓛 (‵ (slots_own (R W) (empty_slots v) b after))
        (spare_words j v pad' after (o + c * size τ') whole end) $ move ! (1 ∷ 0 ∷ []) $ done !

    last_word : after ≡ length (filled_slots (words n xs)) * type_size (R W) + o
    last_word = ap (λ (x : ℕ). x * type_size (R W) + o)
        (sym (length-map (words n xs) Some ∙ words_long T m n xs))

    pub words_joined : ent 𝓤 (sep 𝓤 (sem 𝓛 (slots_own (R W) (filled_slots (words n xs)) b o))
        (sem 𝓛 (slots_own (R W) (empty_slots v) b after)))
        (sem 𝓛 (slots_own (R W) (filled_slots (words n xs) ++ empty_slots v) b o))
    words_joined = glue W 𝓛 b (filled_slots (words n xs)) (empty_slots v) o after last_word

    -- Converts words into slots, with the right (`slots_wand`) to convert the slots back into
    -- words.
    pub words_back : ent 𝓤
        (sem 𝓛 (slots_own (R W) (filled_slots (words n xs) ++ empty_slots v) b o))
        (sep 𝓤 (sem 𝓛 (slots_own (R E) (filled_slots xs ++ empty_slots j) b o))
        (sem 𝓛 (slots_wand τ' m w c b o)))
    words_back =
        qed 𝓛 (‵ (slots_own (R W) (filled_slots (words n xs) ++ empty_slots v) b o) ∷ []) ∵
        use1 𝓛 (‵ (slots_own (R W) (filled_slots (words n xs)) b o) ⊛
        ‵ (slots_own (R W) (empty_slots v) b after))
        (cut W 𝓛 b (filled_slots (words n xs)) (empty_slots v) o after last_word) $ split ! $
        move ! (1 ∷ []) $
        use1 𝓛 (‵ (slots_own (R E) (empty_slots j) b after) ⊛ ‵ (word_wands τ' m v b after) ⊛ ‵
        (froom (ty_array τ' pad') b (o + c * size τ')))
        (spare_slots j v pad' after (o + c * size τ') whole end) $ split3 ! $
        -- The context is now: the empty slots; the rights (`word_wands`) to convert them back; the
        -- memory after the last slot; the words that hold items.
        move ! (3 ∷ 1 ∷ []) $
        use2 𝓛 (‵ (slots_own (R E) (filled_slots xs) b o) ⊛ ‵ (word_wands τ' m w b o))
        (of_runs n w v xs o after long total at_after) $ split ! $ move ! (0 ∷ 2 ∷ []) $
        use2 𝓛 (‵ (slots_own (R E) (filled_slots xs ++ empty_slots j) b o))
        (glue E 𝓛 b (filled_slots xs) (empty_slots j) o after last) $ move ! (1 ∷ 2 ∷ []) $
        fjoin ! $
        move ! (1 ∷ 0 ∷ []) $ done !
