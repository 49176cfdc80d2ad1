-- The links backwards from joint to slot, the search along them, and the joints that it leaves.
use Rattle.std.proofs.Common.{◌≡◌, ℕ, zero, suc, ◌+◌, ◌-◌, ◌*◌, ◌/◌, ◌<◌, ◌≤◌, min, true, false, cond, eqb, ltb, List, map, length, get_or, set, replicate, Some, None, Option, sym, refl, ap, ◌∙◌, subst, inl, inr, add-zero, add-suc, add-one, arith}
use mathlib.Core.Path.{fun_ext}
use Rattle.std.proofs.lemmas.Bool.{cases_Bool, cases_eq, cases_lt, both_ways, eq-eqb, ne_eqb, eqb-true, cond-true, cond-false, ltb-false}
use Rattle.std.proofs.lemmas.List.{get_or-set_same, get_or-set_other, get_or-replicate, get_or_past, length-set, length-replicate}
use Rattle.std.proofs.lemmas.Bool.Decides.{nat_tests}
use Rattle.std.proofs.lemmas.List.FromFn.{get_or-map-range_with_len, length-map-range_with_len}
use Rattle.std.specs.List.{range_with_len}
use Rattle.sets.specs.Sets.{Set, Within, below, less, count}
use Rattle.sets.proofs.Counts.{count_le, count_less}
use Rattle.pebble.specs.declared.item.Item.{Item}
use Rattle.pebble.specs.Slots.{Slots, slot, Lies, AtEnds, Apart, Closed, other, room}
use Rattle.pebble.specs.Groups.{Shut, Unreaching}
use Rattle.pebble.specs.Links.{outlets, goes, leads, last, Linked, Searchable, Dropped}
use Rattle.pebble.proofs.Searches.{other_seen, other_in}
use Rattle.pebble.proofs.Tables.{lies_inside}

-- one number more to look at: the last is that one, or the last so far
last_more : (n : ℕ) (s : Set) → last (n + 1) s ≡ cond (s n) (Some n) (last n s)
unfolding last
last_more n s = rw (add-one n) refl

-- where nothing past n is in the set, the last below n is the last below any more
last_longer : (n m : ℕ) (s : Set) → ((i : ℕ) → n ≤ i → s i ≡ false) → last (n + m) s ≡ last n s
unfolding last
last_longer n zero s h = rw (add-zero n) refl
last_longer n (suc m) s h = rw (add-suc n m) (rw (h (n + m) (omega arith)) (last_longer n m s h))

-- one past a number, and 0 where there is none
abbrev pub past : Option ℕ → ℕ
past None = 0
past (Some s) = s + 1

-- what the answer says: the number is below the bound and in the set
last_is : (n : ℕ) (s : Set) (k : ℕ) → last n s ≡ Some k → (k < n) × (s k ≡ true)
unfolding last
last_is zero s k e = cc
last_is (suc n) s k e =
    elim (cases_Bool (s n)) [
      | inl y ↦ let same : n ≡ k = cc (rw y at e) in (omega arith, ap s (sym same) ∙ y)
      | inr o ↦ let r = last_is n s k (rw o at e) in (omega arith, r.1)
    ]

-- and none past it is in the set
last_past : (n : ℕ) (s : Set) (i : ℕ) → past (last n s) ≤ i → i < n → s i ≡ false
unfolding last
last_past zero s i h l = absurd (omega arith)
last_past (suc n) s i h l =
    elim (cases_Bool (s n)) [
      | inl y ↦ absurd (omega (arith, rw y at h))
      | inr o ↦ elim (cases_lt i n) [ inl b ↦ last_past n s i (rw o at h) b | inr g ↦ let e : i ≡ n = omega arith in ap s e ∙ o ]
    ]

-- one past the last number below n is no more than n
past_last : (n : ℕ) (s : Set) → past (last n s) ≤ n
unfolding last
past_last zero s = omega arith
past_last (suc n) s = elim (cases_Bool (s n)) [ inl y ↦ rw y (omega arith) | inr o ↦ rw o (omega (arith, past_last n s)) ]

-- a slot that leads to a joint holds an item whose other end is that joint
goes_item : (o : Option Item) (j w : ℕ) → goes o j w ≡ true → (x : Item) × (o ≡ Some x) × (other x j ≡ w)
goes_item None j w h = absurd (both_ways false refl h)
goes_item (Some x) j w h = (x, refl, eqb-true (other x j) w h)

leads_item : (slots : Slots) (w t : ℕ) → leads slots w t ≡ true → (x : Item) × Lies slots t x × (other x (t / 2) ≡ w)
leads_item slots w t = goes_item (slot slots t) (t / 2) w

-- where the item in a slot leads
leads_to : (slots : Slots) (w t : ℕ) (x : Item) → Lies slots t x → leads slots w t ≡ eqb (other x (t / 2)) w
leads_to slots w t x lies = ap (λ o. goes o (t / 2) w) lies

-- whole tables in which the slots below p are linked
pub record Linking (slots : Slots) (p : ℕ) (lasts befores : List (Option ℕ)) : Type 0 where
  pub lasts_long : length lasts ≡ 512
  pub befores_long : length befores ≡ 1024
  pub linked : Linked slots p lasts befores

-- no slot is linked yet
pub linking_none : (slots : Slots) (lasts befores : List (Option ℕ)) → lasts ≡ replicate 512 None → befores ≡ replicate 1024 None → Linking slots 0 lasts befores
unfolding last
linking_none slots lasts befores e d = record {
  lasts_long = ap length e ∙ length-replicate {A = Option ℕ} 512 None;
  befores_long = ap length d ∙ length-replicate {A = Option ℕ} 1024 None;
  linked = record { heads = λ w b. ap (λ l. get_or l w None) e ∙ get_or-replicate 512 w None None b; tails = λ t x b lies. absurd (omega arith) };
}

-- slot p is empty: there is nothing to link
pub linking_empty :
    (slots : Slots) (p : ℕ) (lasts befores then_lasts then_befores : List (Option ℕ)) → Linking slots p lasts befores → slot slots p ≡ None →
    then_lasts ≡ lasts → then_befores ≡ befores → Linking slots (p + 1) then_lasts then_befores
linking_empty slots p lasts befores then_lasts then_befores h empty e d =
    subst (λ a. Linking slots (p + 1) a then_befores) (sym e) (subst (λ b. Linking slots (p + 1) lasts b) (sym d) same)
  where
    same : Linking slots (p + 1) lasts befores
    same = record {
      lasts_long = h.lasts_long;
      befores_long = h.befores_long;
      linked = record {
        heads = λ w b. h.linked.heads w b ∙ sym (last_more p (leads slots w) ∙ cond-false _ _ _ (ap (λ o. goes o (p / 2) w) empty));
        tails = λ t x b lies. elim (cases_lt t p) [
          | inl l ↦ h.linked.tails t x l lies
          | inr g ↦ let at : t ≡ p = omega arith in cc (lies, empty, ap (slot slots) at)
        ];
      };
    }

-- slot p holds an item that leads to joint k: it is the last one that does, and the one before it is what was the last
pub linking_item :
    (slots : Slots) (p : ℕ) (lasts befores then_lasts then_befores : List (Option ℕ)) (x : Item) (k : ℕ) → Linking slots p lasts befores → p < 1024 → k < 512 →
    Lies slots p x → k ≡ other x (p / 2) → then_lasts ≡ set lasts k (Some p) → then_befores ≡ set befores p (get_or lasts k None) →
    Linking slots (p + 1) then_lasts then_befores
linking_item slots p lasts befores then_lasts then_befores x k h short small lies to e d = record {
  lasts_long = ap length e ∙ (length-set lasts k (Some p) ∙ h.lasts_long);
  befores_long = ap length d ∙ (length-set befores p (get_or lasts k None) ∙ h.befores_long);
  linked = record { heads = λ w b. ap (λ l. get_or l w None) e ∙ heads w b; tails = λ t y b there. ap (λ l. get_or l t None) d ∙ tails t y b there };
}
  where
    heads : (w : ℕ) → w < 512 → get_or (set lasts k (Some p)) w None ≡ last (p + 1) (leads slots w)
    heads w b =
        elim (cases_eq w k) [
          | inl at ↦
              ap (λ i. get_or (set lasts k (Some p)) i None) at ∙ get_or-set_same lasts k (Some p) None (omega (arith, h.lasts_long))
              ∙ sym (last_more p (leads slots w) ∙ cond-true _ _ _ (leads_to slots w p x lies ∙ eq-eqb _ _ (sym to ∙ sym at)))
          | inr differ ↦
              get_or-set_other lasts k w (Some p) None differ ∙ h.linked.heads w b
              ∙ sym (last_more p (leads slots w) ∙ cond-false _ _ _ (leads_to slots w p x lies ∙ ne_eqb _ _ (λ at. differ (sym at ∙ sym to))))
        ]

    tails : (t : ℕ) (y : Item) → t < p + 1 → Lies slots t y → get_or (set befores p (get_or lasts k None)) t None ≡ last t (leads slots (other y (t / 2)))
    tails t y b there =
        elim (cases_eq t p) [
          | inl at ↦
              let same : x ≡ y = cc (lies, there, ap (slot slots) at) in
              let leading : k ≡ other y (t / 2) = to ∙ (ap (λ z. other z (p / 2)) same ∙ ap (λ i. other y (i / 2)) (sym at)) in
              ap (λ i. get_or (set befores p (get_or lasts k None)) i None) at ∙ get_or-set_same befores p (get_or lasts k None) None (omega (arith, h.befores_long))
              ∙ (h.linked.heads k small ∙ (ap (λ i. last i (leads slots k)) (sym at) ∙ ap (λ i. last t (leads slots i)) leading))
          | inr earlier ↦ get_or-set_other befores p t (get_or lasts k None) None earlier ∙ h.linked.tails t y (omega arith) there
        ]

-- the other end of an item is one of the joints of the board
other_inside : (slots : Slots) (n s : ℕ) (x : Item) (j : ℕ) → Apart n slots → Lies slots s x → other x j < n
other_inside slots n s x j apart lies = let a = apart s x lies in grind (arith, nat_tests)

-- and so one of the table
pub other_small : (slots : Slots) (n s : ℕ) (x : Item) (j k : ℕ) → n ≤ 512 → Apart n slots → Lies slots s x → k ≡ other x j → k < 512
other_small slots n s x j k few apart lies e = omega (arith, other_inside slots n s x j apart lies)

-- what a search may count on: every slot is linked, the joint is one of the table, and all items lie in slots of the table
pub record Searching (slots : Slots) (lasts befores : List (Option ℕ)) (j : ℕ) : Type 0 where
  pub inside : (t : ℕ) (x : Item) → Lies slots t x → t < 1024
  pub linked : Linked slots 1024 lasts befores
  pub joint : j < 512

pub searching : (slots : Slots) (lasts befores : List (Option ℕ)) (j : ℕ) → length slots ≡ 1024 → Searchable slots lasts befores j → Searching slots lasts befores j
searching slots lasts befores j whole h = record { inside = inside; linked = h.linked; joint = h.joint }
  where
    inside : (t : ℕ) (x : Item) → Lies slots t x → t < 1024
    inside t x lies = elim (cases_lt t 1024) [ inl l ↦ l | inr g ↦ cc (lies, get_or_past slots t None (omega arith)) ]

-- where the slots of all joints of a board are linked, all slots are: the others are empty
pub linked_all :
    (slots : Slots) (n : ℕ) (lasts befores : List (Option ℕ)) (j : ℕ) → n ≤ 512 → AtEnds slots → Apart n slots → Linked slots (2 * n) lasts befores → j < 512 →
    Searching slots lasts befores j
linked_all slots n lasts befores j few ends apart h small = record {
  inside = λ t x lies. omega (arith, inside t x lies);
  linked = record { heads = λ w b. h.heads w b ∙ sym (longer w); tails = λ t x b lies. h.tails t x (inside t x lies) lies };
  joint = small;
}
  where
    inside : (t : ℕ) (x : Item) → Lies slots t x → t < 2 * n
    inside t x lies = omega (arith, lies_inside n slots t x ends apart lies)

    longer : (w : ℕ) → last 1024 (leads slots w) ≡ last (2 * n) (leads slots w)
    longer w =
        let all : 1024 ≡ 2 * n + (1024 - 2 * n) = omega arith in
        ap (λ i. last i (leads slots w)) all
        ∙ last_longer (2 * n) (1024 - 2 * n) (leads slots w) (λ i g. elim (cases_Bool (leads slots w i)) [ inl y ↦ absurd (omega (arith, inside i _ (leads_item slots w i y).1)) | inr o ↦ o ])

-- what the search knows at the start of a turn: the slot that comes next leads to joint j, and the slots past it have been looked at
pub record Sofar (slots : Slots) (rest : Set) (j : ℕ) (next : Option ℕ) (left : Set) : Type 0 where
  pub link : (s : ℕ) → next ≡ Some s → leads slots j s ≡ true
  pub dropped : Dropped slots rest j (past next) left

-- the same of each joint whose last slot is the one that the search began with
abbrev pub SofarFrom : (slots : Slots) (lasts : List (Option ℕ)) (rest : Set) (first next : Option ℕ) (left : Set) → Type 0
SofarFrom slots lasts rest first next left = (j : ℕ) → j < 512 → first ≡ get_or lasts j None → Sofar slots rest j next left

-- what is out stays out
stays_out : (left then_left : Set) → Within then_left left → (i : ℕ) → left i ≡ false → then_left i ≡ false
stays_out left then_left shrank i o = elim (cases_Bool (then_left i)) [ inl y ↦ absurd (both_ways _ o (shrank i y)) | inr n ↦ n ]

-- of a joint, where f is taken out of a set: it was out before, or is f, or is still in
ways : (s : Set) (f i : ℕ) (P : Type 0) → (s i ≡ false → P) → (i ≡ f → P) → (less s f i ≡ true → P) → P
ways s f i P out here still =
    elim (cases_Bool (s i)) [
      | inl y ↦ elim (cases_eq i f) [ inl e ↦ here e | inr d ↦ still (grind (arith, nat_tests)) ]
      | inr o ↦ out o
    ]

-- a set without f lies within the set, and has not f
less_within : (s : Set) (f : ℕ) → Within (less s f) s
less_within s f i y = grind (arith, nat_tests)

less_out : (s : Set) (f : ℕ) → less s f f ≡ false
less_out s f = grind (arith, nat_tests)

-- a set is the same without a joint that was out
less_same : (s t : Set) (f : ℕ) → s f ≡ false → t ≡ less s f → t ≡ s
less_same s t f out e = e ∙ fun_ext (λ i. elim (cases_eq i f) [ inl at ↦ let o : s i ≡ false = ap s at ∙ out in grind (arith, nat_tests) | inr d ↦ grind (arith, nat_tests) ])

-- a search may start from any joint
pub also_from : (slots : Slots) (lasts befores : List (Option ℕ)) (i j : ℕ) → Searching slots lasts befores i → j < 512 → Searching slots lasts befores j
also_from slots lasts befores i j h small = record { inside = h.inside; linked = h.linked; joint = small }

-- a slot that leads to a joint is one of the table
pub led_inside : (slots : Slots) (lasts befores : List (Option ℕ)) (j t : ℕ) → Searching slots lasts befores j → leads slots j t ≡ true → t < 1024
led_inside slots lasts befores j t h y = let r = leads_item slots j t y in h.inside t r.0 r.1

-- no slot has been looked at
sofar_none :
    (slots : Slots) (rest : Set) (lasts befores : List (Option ℕ)) (j : ℕ) → Searching slots lasts befores j → Sofar slots rest j (get_or lasts j None) rest
sofar_none slots rest lasts befores j h = record {
  link = λ s e. (last_is 1024 (leads slots j) s (sym first ∙ e)).1;
  dropped = record {
    shrank = λ i y. y;
    here = λ t p y. absurd (both_ways _ (last_past 1024 (leads slots j) t (subst (λ o. past o ≤ t) first p) (inside t y)) y);
    behind = λ i t y o. absurd (both_ways _ o y);
    sound = λ js closed out i y o. absurd (both_ways _ o y);
  };
}
  where
    first : get_or lasts j None ≡ last 1024 (leads slots j)
    first = h.linked.heads j h.joint

    inside : (t : ℕ) → leads slots j t ≡ true → t < 1024
    inside t = led_inside slots lasts befores j t h

-- the same of each joint whose last slot is the one that the search begins with
pub sofar_first :
    (slots : Slots) (rest : Set) (lasts befores : List (Option ℕ)) (i : ℕ) → Searching slots lasts befores i →
    SofarFrom slots lasts rest (get_or lasts i None) (get_or lasts i None) rest
sofar_first slots rest lasts befores i h j small e =
    subst (λ o. Sofar slots rest j o rest) (sym e) (sofar_none slots rest lasts befores j (also_from slots lasts befores i j h small))

-- joint f, which is taken out, was out already
dropped_same : (slots : Slots) (rest : Set) (j p f : ℕ) (left then_left : Set) → Dropped slots rest j p left → left f ≡ false → then_left ≡ less left f → Dropped slots rest j p then_left
dropped_same slots rest j p f left then_left h out e = subst (Dropped slots rest j p) (sym (less_same left then_left f out e)) h

-- the joint of slot s, which leads to j, is taken out, and what lies behind it
dropped_more :
    (slots : Slots) (rest : Set) (j p s : ℕ) (left then_left : Set) → Dropped slots rest j p left → leads slots j s ≡ true →
    Dropped slots (less left (s / 2)) (s / 2) 0 then_left → Dropped slots rest j p then_left
dropped_more slots rest j p s left then_left h leading call = record {
  shrank = λ i y. h.shrank i (within i y);
  here = λ t l y. out (t / 2) (h.here t l y);
  behind = λ i t y o to. ways left (s / 2) i _ (λ n. out (t / 2) (h.behind i t y n to)) (λ e. call.here t (omega arith) (subst (λ w. leads slots w t ≡ true) e to)) (λ m. call.behind i t m o to);
  sound = λ js closed n i y o.
      let from : js (s / 2) ≡ false = outside js closed n in
      ways left (s / 2) i _ (λ m. h.sound js closed n i y m) (λ e. ap js e ∙ from) (λ m. call.sound js closed from i m o);
}
  where
    within : Within then_left left
    within i y = less_within left (s / 2) i (call.shrank i y)

    out : (i : ℕ) → left i ≡ false → then_left i ≡ false
    out = stays_out left then_left within

    -- a closed group without j has not the joint of a slot that leads to j
    outside : (js : Set) → Closed slots js → js j ≡ false → js (s / 2) ≡ false
    outside js closed n =
        let x = leads_item slots j s leading in
        elim (cases_Bool (js (s / 2))) [
          | inl y ↦ absurd (both_ways _ n (ap js (sym x.2) ∙ other_in x.0 (s / 2) js (closed s x.0 x.1 y)))
          | inr o ↦ o
        ]

-- what the link of a slot that leads to j says
follow :
    (slots : Slots) (lasts befores : List (Option ℕ)) (j s : ℕ) → Searching slots lasts befores j → leads slots j s ≡ true → get_or befores s None ≡ last s (leads slots j)
follow slots lasts befores j s h leading =
    let x = leads_item slots j s leading in
    h.linked.tails s x.0 (h.inside s x.0 x.1) x.1 ∙ ap (λ w. last s (leads slots w)) x.2

-- the link of a slot is to an earlier one
pub falls :
    (slots : Slots) (lasts befores : List (Option ℕ)) (j s : ℕ) → Searching slots lasts befores j → leads slots j s ≡ true → past (get_or befores s None) < s + 1
falls slots lasts befores j s h leading = rw (follow slots lasts befores j s h leading) (omega (arith, past_last s (leads slots j)))

-- slot s is done, and the link is followed to the one before it
sofar_next :
    (slots : Slots) (rest : Set) (lasts befores : List (Option ℕ)) (j s : ℕ) (left : Set) → Searching slots lasts befores j → leads slots j s ≡ true →
    Dropped slots rest j (s + 1) left → left (s / 2) ≡ false → Sofar slots rest j (get_or befores s None) left
sofar_next slots rest lasts befores j s left h leading d out = record {
  link = λ t e. (last_is s (leads slots j) t (sym (follow slots lasts befores j s h leading) ∙ e)).1;
  dropped = record {
    shrank = d.shrank;
    here = λ t p y. elim (cases_lt t s) [
      | inl l ↦ absurd (both_ways _ (last_past s (leads slots j) t (subst (λ o. past o ≤ t) (follow slots lasts befores j s h leading) p) l) y)
      | inr g ↦ elim (cases_eq t s) [ inl e ↦ ap (λ i. left (i / 2)) e ∙ out | inr more ↦ d.here t (omega arith) y ]
    ];
    behind = d.behind;
    sound = d.sound;
  };
}

-- slot s comes next, and its joint was out already
pub sofar_out :
    (slots : Slots) (rest : Set) (lasts befores : List (Option ℕ)) (j s : ℕ) (next : Option ℕ) (left then_left : Set) → Searching slots lasts befores j →
    Sofar slots rest j next left → next ≡ Some s → false ≡ left (s / 2) → then_left ≡ less left (s / 2) → Sofar slots rest j (get_or befores s None) then_left
sofar_out slots rest lasts befores j s next left then_left h so e out gone =
    let d : Dropped slots rest j (s + 1) left = subst (λ o. Dropped slots rest j (past o) left) e so.dropped in
    sofar_next slots rest lasts befores j s then_left h (so.link s e) (dropped_same slots rest j (s + 1) (s / 2) left then_left d (sym out) gone)
    (ap (λ k. k (s / 2)) gone ∙ less_out left (s / 2))

-- slot s comes next, and its joint was taken out, and what lies behind it
pub sofar_taken :
    (slots : Slots) (rest : Set) (lasts befores : List (Option ℕ)) (j s : ℕ) (next : Option ℕ) (left fewer then_left : Set) → Searching slots lasts befores j →
    Sofar slots rest j next left → next ≡ Some s → fewer ≡ less left (s / 2) → Dropped slots fewer (s / 2) 0 then_left → Sofar slots rest j (get_or befores s None) then_left
sofar_taken slots rest lasts befores j s next left fewer then_left h so e gone behind =
    let d : Dropped slots rest j (s + 1) left = subst (λ o. Dropped slots rest j (past o) left) e so.dropped in
    let call : Dropped slots (less left (s / 2)) (s / 2) 0 then_left = subst (λ k. Dropped slots k (s / 2) 0 then_left) gone behind in
    sofar_next slots rest lasts befores j s then_left h (so.link s e) (dropped_more slots rest j (s + 1) s left then_left d (so.link s e) call)
    (stays_out (less left (s / 2)) then_left call.shrank (s / 2) (less_out left (s / 2)))

-- slot s comes next, and its joint was still in and is taken out: the call for it may be made, with fewer joints in
pub sofar_call :
    (slots : Slots) (rest : Set) (lasts befores : List (Option ℕ)) (j s : ℕ) (next : Option ℕ) (left fewer : Set) → Searching slots lasts befores j →
    Sofar slots rest j next left → next ≡ Some s → true ≡ left (s / 2) → fewer ≡ less left (s / 2) → (count 512 fewer < count 512 rest) × Searchable slots lasts befores (s / 2)
sofar_call slots rest lasts befores j s next left fewer h so e was gone =
    let inside = led_inside slots lasts befores j s h (so.link s e) in
    let small : s / 2 < 512 = omega arith in
    let all : count 512 left ≤ count 512 rest = count_le 512 left rest (λ k _ y. so.dropped.shrank k y) in
    let one_less : count 512 fewer + 1 ≡ count 512 left = ap (λ f. count 512 f + 1) gone ∙ count_less 512 left (s / 2) small (sym was) in
    (omega arith, record { linked = h.linked; joint = small })

-- what is left of the joints of a board, once the joints below j have been looked at: with a joint that is out each one is out whose items
-- lead to it, no joint below j with an empty slot is in but u and v, and no joint of a group that is shut is out
pub record Kept (n : ℕ) (slots : Slots) (u v j : ℕ) (rest : Set) : Type 0 where
  pub inside : (i : ℕ) → rest i ≡ true → i < n
  pub behind : (i t : ℕ) → i < n → rest i ≡ false → leads slots i t ≡ true → rest (t / 2) ≡ false
  pub full : (i : ℕ) → i < j → rest i ≡ true → (i ≡ u → ⊥) → (i ≡ v → ⊥) → room slots i ≡ 0
  pub sound : (js : Set) → Shut n slots u v js → (i : ℕ) → i < n → rest i ≡ false → js i ≡ false

-- no joint has been looked at
pub kept_none : (n : ℕ) (slots : Slots) (u v : ℕ) (rest : Set) → n ≤ 512 → rest ≡ below (min n 512) → Kept n slots u v 0 rest
kept_none n slots u v rest few e = record {
  inside = λ i y. let b : below (min n 512) i ≡ true = ap (λ s. s i) (sym e) ∙ y in grind (arith, nat_tests);
  behind = λ i t l o to. absurd (still i l o);
  full = λ i l y. absurd (omega arith);
  sound = λ js shut i l o. absurd (still i l o);
}
  where
    still : (i : ℕ) → i < n → rest i ≡ false → ⊥
    still i l o = let b : below (min n 512) i ≡ false = ap (λ s. s i) (sym e) ∙ o in grind (arith, nat_tests)

-- where joint j is full or u or v, or not in, one joint more has been looked at
kept_one :
    (n : ℕ) (slots : Slots) (u v j : ℕ) (rest : Set) → Kept n slots u v j rest → (rest j ≡ true → (j ≡ u → ⊥) → (j ≡ v → ⊥) → room slots j ≡ 0) →
    Kept n slots u v (j + 1) rest
kept_one n slots u v j rest h here = record {
  inside = h.inside;
  behind = h.behind;
  full = λ i l. elim (cases_lt i j) [ inl b ↦ h.full i b | inr g ↦ let e : i ≡ j = omega arith in subst (λ k. rest k ≡ true → (k ≡ u → ⊥) → (k ≡ v → ⊥) → room slots k ≡ 0) (sym e) here ];
  sound = h.sound;
}

-- joint j is full, or is u or v
pub kept_passed : (n : ℕ) (slots : Slots) (u v j : ℕ) (rest : Set) → Kept n slots u v j rest → outlets slots u v j ≡ false → Kept n slots u v (j + 1) rest
kept_passed n slots u v j rest h closed =
    kept_one n slots u v j rest h (λ _ not_u not_v. elim (cases_Bool (ltb 0 (room slots j))) [ inl y ↦ absurd (grind (arith, nat_tests)) | inr o ↦ omega (arith, ltb-false 0 (room slots j) o) ])

-- joint j, which is taken out, was out already
pub kept_out :
    (n : ℕ) (slots : Slots) (u v j : ℕ) (rest left : Set) → Kept n slots u v j rest → rest j ≡ false → left ≡ less rest j → Kept n slots u v (j + 1) left
kept_out n slots u v j rest left h out gone =
    subst (Kept n slots u v (j + 1)) (sym (less_same rest left j out gone)) (kept_one n slots u v j rest h (λ y. absurd (both_ways _ out y)))

-- joint j has an empty slot, and is neither u nor v: it is taken out, and what lies behind it
pub kept_dropped :
    (n : ℕ) (slots : Slots) (u v j : ℕ) (rest fewer left : Set) → Kept n slots u v j rest → j < n → outlets slots u v j ≡ true →
    fewer ≡ less rest j → Dropped slots fewer j 0 left → Kept n slots u v (j + 1) left
kept_dropped n slots u v j rest fewer left h small outlet gone behind = record {
  inside = λ i y. h.inside i (within i y);
  behind = λ i t l o to. ways rest j i _ (λ m. out (t / 2) (h.behind i t l m to)) (λ e. call.here t (omega arith) (subst (λ w. leads slots w t ≡ true) e to)) (λ m. call.behind i t m o to);
  full = λ i l y. elim (cases_eq i j) [
    | inl e ↦ absurd (both_ways _ (stays_out (less rest j) left call.shrank j (less_out rest j)) (ap left (sym e) ∙ y))
    | inr d ↦ h.full i (omega arith) (within i y)
  ];
  sound = λ js shut i l o. ways rest j i _ (λ m. h.sound js shut i l m) (λ e. ap js e ∙ outside js shut) (λ m. call.sound js shut.closed (outside js shut) i m o);
}
  where
    call : Dropped slots (less rest j) j 0 left
    call = subst (λ k. Dropped slots k j 0 left) gone behind

    within : Within left rest
    within i y = less_within rest j i (call.shrank i y)

    out : (i : ℕ) → rest i ≡ false → left i ≡ false
    out = stays_out rest left within

    -- a shut group has not j
    outside : (js : Set) → Shut n slots u v js → js j ≡ false
    outside js shut =
        let empty : (0 < room slots j) × (j ≡ u → ⊥) × (j ≡ v → ⊥) = grind (arith, nat_tests) in
        elim (cases_Bool (js j)) [ inl y ↦ absurd (omega (arith, shut.full j small y empty.1 empty.2)) | inr o ↦ o ]

-- all joints have been looked at
pub kept_all : (n : ℕ) (slots : Slots) (u v j : ℕ) (rest : Set) → AtEnds slots → Apart n slots → n ≤ j → Kept n slots u v j rest → Unreaching n slots u v rest
kept_all n slots u v j rest ends apart all h = record {
  shut = record {
    closed = λ s x lies y. other_seen slots s x (s / 2) rest ends lies refl y (there s x lies y);
    full = λ i l. h.full i (omega arith);
  };
  inside = h.inside;
  largest = λ js shut i l y. elim (cases_Bool (rest i)) [ inl m ↦ m | inr o ↦ absurd (both_ways _ (h.sound js shut i l o) y) ];
}
  where
    there : (s : ℕ) (x : Item) → Lies slots s x → rest (s / 2) ≡ true → rest (other x (s / 2)) ≡ true
    there s x lies y =
        elim (cases_Bool (rest (other x (s / 2)))) [
          | inl m ↦ m
          | inr o ↦ absurd (both_ways _ (h.behind (other x (s / 2)) s (other_inside slots n s x (s / 2) apart lies) o (leads_to slots (other x (s / 2)) s x lies ∙ eq-eqb _ _ refl)) y)
        ]

-- in a loop over the joints below n the joint of a turn is as many as there were turns before
pub turn_of : (n j x : ℕ) → (j < length (map (λ k. k) (range_with_len 0 n))) × (x ≡ get_or (map (λ k. k) (range_with_len 0 n)) j x) → (x < n) × (x ≡ j)
turn_of n j x h =
    let small : j < n = omega (arith, h.0, length-map-range_with_len (λ k. k) 0 n) in
    let same : x ≡ j = h.1 ∙ get_or-map-range_with_len (λ k. k) 0 n j j x small (omega arith) in
    (omega arith, same)
