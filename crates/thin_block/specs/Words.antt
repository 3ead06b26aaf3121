-- This file describes how memory for items is converted into memory for words. A word is a value of
-- the struct `Word`, which holds `m` items of the type `T`.
use Rattle.std.specs.Prelude.{ℕ, ◌+◌, List, [], ◌∷◌, map}
use base.Fraction.{full_share}
use base.Fml.{Fml, ftrue, ffalse, fsep}
use prog.Memory.{size}
use denote.RattleType.{RattleType}
use denote.Memory.{part_at}
use denote.Param.{ArrayAt, value_of}
use denote.RawPtr.{Ptr, block_ptr, null_ptr}
use Rattle.thin_block.specs.Ownership.{erased_type, word_wand, word_of, slots_own}
use Rattle.thin_block.specs.Slots.{filled_slots}
use Rattle.thin_block.specs.contracts.words.Word.{the_row}

module _ (T M : RattleType) where
  -- `word xs` is the word that holds the items `xs`.
  abbrev pub word : List T.Denot → (the_row T M).Denot
  word xs = record { items = xs; aligned = [] }

  -- `chunk_at xs b o` contains the items `xs` of one word at the offset `o` of the allocation `b`,
  -- and the right to convert their memory into memory for the word.
  abbrev pub chunk_at : List T.Denot → ℕ → ℕ → Fml
  chunk_at xs b o = fsep (part_at (ArrayAt T M) full_share xs b o)
      (word_wand (erased_type T) (value_of M) b o)

  -- `chunks_at xss b o` contains the items of adjacent words, and the rights to convert their
  -- memory into memory for words. Each list in `xss` contains the items of one word. The first word
  -- is at the offset `o` of the allocation `b`.
  abbrev pub chunks_at : List (List T.Denot) → ℕ → ℕ → Fml
  chunks_at [] b o = ftrue
  chunks_at (xs ∷ xss) b o = fsep (chunk_at xs b o)
      (chunks_at xss b (o + size (word_of (erased_type T) (value_of M))))

  -- `chunks_from xss p` is `chunks_at` from the pointer `p` onward.
  abbrev pub chunks_from : List (List T.Denot) → Ptr → Fml
  chunks_from xss null_ptr = ffalse
  chunks_from xss (block_ptr b o) = chunks_at xss b o

  -- `words_from xss p` describes several adjacent words in memory, starting at the pointer `p`.
  -- Each word holds the items of one list in `xss`.
  abbrev pub words_from : List (List T.Denot) → Ptr → Fml
  words_from xss null_ptr = ffalse
  words_from xss (block_ptr b o) = slots_own (the_row T M) (filled_slots (map word xss)) b o
