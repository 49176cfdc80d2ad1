-- A set of numbers that lies in words of 64 bits, and the joints of a `JointSet`. Assumes nothing: these are definitions.
use Rattle.std.specs.Prelude.{ℕ, ◌/◌, ◌%◌, ◌^◌, List, ◌==◌, slice_index}
use Rattle.sets.specs.Sets.{Set}
use Rattle.sets.specs.declared.joint_set.JointSet.{JointSet}

-- the numbers of the bits that are 1 in a word, from the lowest
unfoldable pub bits : ℕ → Set
bits w i = w / 2 ^ i % 2 == 1

-- the same over many words, 64 bits each
unfoldable pub bits_of : List ℕ → Set
bits_of ws j = bits (slice_index ws (j / 64)) (j % 64)

-- the joints that are in the set
abbrev pub members : JointSet → Set
members s = bits_of s.words
