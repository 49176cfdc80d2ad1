use Rattle.std.proofs.Common.{◌≡◌, ℕ, Bool, ◌&&◌, nat_lt, true, false, Some, None, Option, MatchOption, sym, refl, ◌∙◌, rules}
use Rattle.std.specs.Option.{option_map}
use Rattle.sets.specs.Sets.{Set, all}
use Rattle.sets.specs.Words.{members}
use Rattle.sets.specs.declared.ids.Ends.{Ends}
use Rattle.frame.specs.Frame.{Frame, size, bar_at, lookup, among}
use Rattle.frame.specs.Views.{frame_of, bar_of}
use Rattle.frame.proofs.Among.{among_is}
use Rattle.frame.proofs.Frames.{taken, untaken}
use Rattle.frame.proofs.views.Frame.is_among.Goals as goal

-- what is said of the ends that a bar has, if it has any, is said of the bar
looked_up :
    (f : Frame) (js : Set) (k : ℕ) (o : Option Ends) (r : Bool) → MatchOption o (r ≡ false) (λ e. r ≡ (js e.one.0 && js e.two.0)) →
    option_map bar_of o ≡ lookup f k → r ≡ (nat_lt k (size f) && among f js all k)
looked_up f js k None r says at = let past : nat_lt k (size f) ≡ false = untaken _ _ (sym at) in rw past says
looked_up f js k (Some e) r says at =
    let t = taken (nat_lt k (size f)) (bar_at f k) (bar_of e) (sym at) in
    rw t.0 (says ∙ among_is f js all k (bar_of e) true (sym t.1) refl)

pub returns : goal.returns
returns c =
    let js = members c.args.joints.now in
    let said : MatchOption c.ends.result (c.is_some_and.result ≡ false) (λ (e : Ends). c.is_some_and.result ≡ (js e.one.0 && js e.two.0)) = search rules in
    looked_up (frame_of c.args.self.now) js c.args.bar.0 c.ends.result c.is_some_and.result said c.ends.ensures
