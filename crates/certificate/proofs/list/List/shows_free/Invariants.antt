use Rattle.std.proofs.Common.{◌≡◌, ℕ, ◌<◌, true, None, Ok}
use Rattle.sets.specs.Sets.{first}
use Rattle.frame.specs.Views.{frame_of, set_of}
use Rattle.certificate.specs.Lists.{width, crowded, list_in}
use Rattle.certificate.proofs.Cuts.{Cut}
use Rattle.certificate.proofs.list.List.shows_free.Given as goal

abbrev pub invariant-rows : goal.invariant-rows
invariant-rows l =
    (l.verdict ≡ Ok tt)
    × ((i : ℕ) → i < l.k-iterator.count → set_of l.set i ≡ true → first (frame_of l.self.frame).joints (crowded (frame_of l.self.frame) (set_of l.set) i (list_in (frame_of l.self.frame) l.self.numbers.now i)) ≡ None)
    × Cut (width (frame_of l.self.frame)) l.k-iterator.count l.self.numbers.now l.k-iterator.iter.rest.now
    × (l.k-iterator.iter.size ≡ width (frame_of l.self.frame))
