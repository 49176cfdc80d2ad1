-- Tight groups on a board: where two joints have three empty slots, the groups with both that are tight are just the groups that are shut.
-- Where the two ends of a bar have four, no tight group has both.
use Rattle.std.proofs.Common.{◌≡◌, ℕ, ◌+◌, ◌*◌, ◌<◌, ◌≤◌, true, ◌&&◌, ◌∙◌, inl, inr, arith}
use Rattle.std.proofs.lemmas.Bool.{cases_Bool, and_parts, and_from, cond-true, cond-false}
use Rattle.sets.specs.Sets.{Set, count}
use Rattle.sets.proofs.Counts.{count_two}
use Rattle.frame.specs.Frame.{Frame, bar_at, induced, Free}
use Rattle.frame.proofs.Among.{induced_also}
use Rattle.pebble.specs.Slots.{Slots, SameItems, Settled, room}
use Rattle.pebble.specs.Groups.{Shut, TightWith}
use Rattle.pebble.specs.Laws.{Asked, ThreeGather, ReachedTight, FourFree, ThreeAlways, FourthFails, FourthFrees, FourthSpoils, UnreachingTight}
use Rattle.pebble.proofs.Bars.{moves_orient}
use Rattle.pebble.proofs.Orientations.{room_bounds, room_counts, closed_from_counts}
use Rattle.pebble.proofs.Sums.{TwoOf, over_two_le, over_two_only, over_two_rest}

-- the two joints that are asked about, in a group with both
asked_two : (f : Frame) (xs js : Set) (slots : Slots) (u v : ℕ) → Asked f xs slots u v → js u ≡ true → js v ≡ true → TwoOf f.joints js u v
asked_two f xs js slots u v a e d =
    record { i_below = a.u_inside; j_below = a.v_inside; differ = a.differ; has_i = e; has_j = d }

-- a group with two different joints has two at least
two_joints : (n : ℕ) (js : Set) (u v : ℕ) → TwoOf n js u v → 2 ≤ count n js
two_joints n js u v p = count_two n js u v p.i_below p.j_below p.differ p.has_i p.has_j

-- the bars among a group that is shut, and the empty slots at the two joints, are twice the joints
shut_counts :
    (f : Frame) (xs js : Set) (slots : Slots) (u v : ℕ) → Asked f xs slots u v → TwoOf f.joints js u v → Shut f.joints slots u v js →
    induced f js xs + (room slots u + room slots v) ≡ 2 * count f.joints js
shut_counts f xs js slots u v a p s =
    omega (arith, room_counts f xs js slots a.oriented s.closed, over_two_only f.joints js (room slots) u v p s.full)

-- so a group with both joints that is shut is tight if these have three empty slots
tight_from_shut :
    (f : Frame) (xs js : Set) (slots : Slots) (u v : ℕ) → Asked f xs slots u v → js u ≡ true → js v ≡ true → Shut f.joints slots u v js →
    room slots u + room slots v ≡ 3 → TightWith f xs u v js
tight_from_shut f xs js slots u v a e d s three =
    let p = asked_two f xs js slots u v a e d in
    record {
      tight = record { several = two_joints f.joints js u v p; exact = omega (arith, shut_counts f xs js slots u v a p s) };
      has_u = e;
      has_v = d;
    }

-- and a tight group with both is shut, if they have three empty slots or more, which are then just three
shut_from_tight :
    (f : Frame) (xs js : Set) (slots : Slots) (u v : ℕ) → Asked f xs slots u v → 3 ≤ room slots u + room slots v → TightWith f xs u v js →
    Shut f.joints slots u v js × (room slots u + room slots v ≡ 3)
shut_from_tight f xs js slots u v a three t =
    let p = asked_two f xs js slots u v a t.has_u t.has_v in
    let exact = t.tight.exact in
    let least = over_two_le f.joints js (room slots) u v p in
    let most = room_bounds f xs js slots a.oriented in (
      record {
        closed = closed_from_counts f xs js slots a.oriented (omega arith);
        full = over_two_rest f.joints js (room slots) u v p (omega arith);
      },
      omega arith,
    )

-- a free set leaves three empty slots at the two joints of a group that is shut
pub three_gather : ThreeGather
unfolding Free
three_gather f xs group slots u v a r =
    let p = asked_two f xs group slots u v a r.has_u r.has_v in
    omega (arith, shut_counts f xs group slots u v a p r.shut, a.free group (two_joints f.joints group u v p))

-- the least group that is shut is the least that is tight, and the largest is the largest
pub reached_tight : ReachedTight
reached_tight f xs group slots u v a r three =
    record {
      tight = tight_from_shut f xs group slots u v a r.has_u r.has_v r.shut three;
      least = λ js t j b. r.least js (shut_from_tight f xs js slots u v a (omega arith) t).0.closed t.has_u t.has_v j;
    }

pub unreaching_tight : UnreachingTight
unreaching_tight f xs js group slots u v a three t g =
    record {
      tight =
          tight_from_shut f xs group slots u v a
          (inside js t u a.u_inside t.has_u) (inside js t v a.v_inside t.has_v) g.shut (shut_from_tight f xs js slots u v a three t).1;
      largest = inside;
    }
  where
    inside : (is : Set) → TightWith f xs u v is → (j : ℕ) → j < f.joints → is j ≡ true → group j ≡ true
    inside is s = g.largest is (shut_from_tight f xs is slots u v a three s).0

-- a group with both ends of a bar, where four slots are empty, has room for the bar
pub four_free : FourFree
unfolding Free
four_free f xs slots k a b e four js two =
    elim (cases_Bool (js (bar_at f k).one && js (bar_at f k).two)) [
      | inl y ↦
          omega (
            arith,
            induced_also f js xs k b e,
            cond-true {A = ℕ} _ 1 0 y,
            room_bounds f xs js slots a.oriented,
            over_two_le f.joints js (room slots) (bar_at f k).one (bar_at f k).two (ends y),
          )
      | inr n ↦ omega (arith, induced_also f js xs k b e, cond-false {A = ℕ} _ 1 0 n, a.free js two)
    ]
  where
    ends : (js (bar_at f k).one && js (bar_at f k).two) ≡ true → TwoOf f.joints js (bar_at f k).one (bar_at f k).two
    ends y = let has = and_parts _ _ y in asked_two f xs js slots (bar_at f k).one (bar_at f k).two a has.0 has.1

-- after moves the same bars lie on the board, so that the same can be asked
asked_then :
    (f : Frame) (xs : Set) (before after : Slots) (u v : ℕ) → Asked f xs before u v → Settled f.joints after → SameItems before after → Asked f xs after u v
asked_then f xs before after u v a st same =
    record { oriented = moves_orient f xs before after a.oriented st same; free = a.free; u_inside = a.u_inside; v_inside = a.v_inside; differ = a.differ }

pub three_always : ThreeAlways
three_always f xs group before after u v wanted empty a st few short =
    omega (arith, three_gather f xs group after u v (asked_then f xs before after u v a st short.same) short.group_is, short.short, short.counted)

pub fourth_fails : FourthFails
fourth_fails f xs group before after u v empty a st short =
    let now_asked = asked_then f xs before after u v a st short.same in
    let three : room after u + room after v ≡ 3 = omega (arith, three_gather f xs group after u v now_asked short.group_is, short.short, short.counted) in
    (short.counted ∙ three, reached_tight f xs group after u v now_asked short.group_is three)

pub fourth_frees : FourthFrees
fourth_frees f xs before after k a st b e enough =
    four_free f xs after k (asked_then f xs before after (bar_at f k).one (bar_at f k).two a st enough.same) b e (omega (arith, enough.enough))

-- a tight group with both ends of a bar has no room for it
pub fourth_spoils : FourthSpoils
unfolding Free
fourth_spoils f xs group before after k empty a st b e short free =
    let t = (fourth_fails f xs group before after (bar_at f k).one (bar_at f k).two empty a st short).1.tight in
    omega (
      arith,
      free group t.tight.several,
      t.tight.exact,
      induced_also f group xs k b e,
      cond-true {A = ℕ} (group (bar_at f k).one && group (bar_at f k).two) 1 0 (and_from _ _ t.has_u t.has_v),
    )
