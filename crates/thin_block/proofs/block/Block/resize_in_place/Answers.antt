-- `resize_in_place` computes the number of words of the new block. This file proves that this
-- number does not exceed `usize::MAX`.
use Rattle.std.proofs.Common.{arith}
use Rattle.thin_block.proofs.sizes.SizesLemmas.{fits_tells}
use Rattle.thin_block.proofs.words.WordsLemmas.{words_told}
use denote.Param.{param}
use Rattle.thin_block.proofs.block.Block.resize_in_place.Goals as goal

-- The size of the new block in words, `K + cap.div_ceil(M)`, does not overflow: `K` is at most 2,
-- and `cap` is less than `2 ^ 63`.
pub overflow_add-wanted : goal.overflow_add-wanted
overflow_add-wanted g c =
    let T = param 0 g.row.T in
    let small = (fits_tells T c.args.cap c.requires.fits).few in
    let words = (words_told T g.row.M g.row.K c.requires.in_words).counts.few c.args.cap in
    let most = c.requires.nonzero.1 in
    record { fits = omega (arith, c.div_ceil-wanted.ensures) }
