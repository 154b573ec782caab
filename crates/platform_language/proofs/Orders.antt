-- The least and the greatest of values, and what follows of their order.
use Rattle.std.proofs.Common.{◌≡◌, ◌⊎◌, inl, inr, Bool, true, false, List, [], ◌∷◌, map, Option, None, Some, Contains, refl, sym, ◌∙◌, ap, arith}
use Rattle.std.proofs.lemmas.List.Elements.{Contains-append_right, Contains-append_cases, Contains-push_cases}
use Rattle.std.proofs.lemmas.List.Sorted.{IsPermutation-sym, IsPermutation-map, Contains-permutation}
use Rattle.platform_language.specs.Platforms.Platforms.{PlatformData}
use Rattle.platform_language.specs.Expressions.{Expression, Negated, parts_of}
use Rattle.platform_language.specs.Values.{lesser, greater, mirror, least, greatest, value, values}
use Rattle.platform_language.specs.Laws.{at_most, IsLeast, IsGreatest, AllIsLeast, AnyIsGreatest, OrderIsFree, OppositesChangePlaces}

abbrev Value : Type 0
Value = Option Bool

none_among : (v : Value) → Contains [] v → ⊥
none_among v (k, below, is) = omega (arith, below)

first_among : (v : Value) (vs : List Value) → Contains (v ∷ vs) v
first_among v vs = (0, omega arith, refl)

later_among : (v : Value) (vs : List Value) (w : Value) → Contains vs w → Contains (v ∷ vs) w
later_among v vs w among = Contains-append_right (v ∷ []) vs w among

among_cases : (v : Value) (vs : List Value) (w : Value) → Contains (v ∷ vs) w
    → (v ≡ w) ⊎ Contains vs w
among_cases v vs w among =
    elim (Contains-append_cases (v ∷ []) vs w among) [
      | inl one ↦ elim (Contains-push_cases [] v w one) [ inl none ↦ absurd (none_among w none) | inr same ↦ inl same ]
      | inr later ↦ inr later
    ]

-- the order

trans : (a b c : Value) → at_most a b ≡ true → at_most b c ≡ true → at_most a c ≡ true
trans (Some false) b c x y = refl
trans None None c x y = y
trans None (Some true) (Some true) x y = refl
trans None (Some true) None x y = absurd (cc)
trans None (Some true) (Some false) x y = absurd (cc)
trans None (Some false) c x y = absurd (cc)
trans (Some true) (Some true) c x y = y
trans (Some true) None c x y = absurd (cc)
trans (Some true) (Some false) c x y = absurd (cc)

both : (a b : Value) → at_most a b ≡ true → at_most b a ≡ true → a ≡ b
both (Some false) (Some false) x y = refl
both (Some false) None x y = absurd (cc)
both (Some false) (Some true) x y = absurd (cc)
both None None x y = refl
both None (Some false) x y = absurd (cc)
both None (Some true) x y = absurd (cc)
both (Some true) (Some true) x y = refl
both (Some true) None x y = absurd (cc)
both (Some true) (Some false) x y = absurd (cc)

to_true : (a : Value) → at_most a (Some true) ≡ true
to_true None = refl
to_true (Some false) = refl
to_true (Some true) = refl

lesser_left : (a b : Value) → at_most (lesser a b) a ≡ true
lesser_left (Some false) b = refl
lesser_left (Some true) b = to_true b
lesser_left None (Some false) = refl
lesser_left None (Some true) = refl
lesser_left None None = refl

lesser_right : (a b : Value) → at_most (lesser a b) b ≡ true
lesser_right (Some false) b = refl
lesser_right (Some true) (Some true) = refl
lesser_right (Some true) (Some false) = refl
lesser_right (Some true) None = refl
lesser_right None (Some false) = refl
lesser_right None (Some true) = refl
lesser_right None None = refl

greater_left : (a b : Value) → at_most a (greater a b) ≡ true
greater_left (Some false) b = refl
greater_left (Some true) b = refl
greater_left None (Some false) = refl
greater_left None (Some true) = refl
greater_left None None = refl

greater_right : (a b : Value) → at_most b (greater a b) ≡ true
greater_right (Some true) b = to_true b
greater_right (Some false) (Some true) = refl
greater_right (Some false) (Some false) = refl
greater_right (Some false) None = refl
greater_right None (Some false) = refl
greater_right None (Some true) = refl
greater_right None None = refl

lesser_one : (a b : Value) → (lesser a b ≡ a) ⊎ (lesser a b ≡ b)
lesser_one (Some false) b = inl refl
lesser_one (Some true) b = inr refl
lesser_one None (Some false) = inr refl
lesser_one None (Some true) = inl refl
lesser_one None None = inl refl

greater_one : (a b : Value) → (greater a b ≡ a) ⊎ (greater a b ≡ b)
greater_one (Some true) b = inl refl
greater_one (Some false) b = inr refl
greater_one None (Some true) = inr refl
greater_one None (Some false) = inl refl
greater_one None None = inl refl

-- the least

among_all : (v least : Value) (vs : List Value) → (lesser v least ≡ v) ⊎ (lesser v least ≡ least)
    → (least ≡ Some true) ⊎ Contains vs least
    → (lesser v least ≡ Some true) ⊎ Contains (v ∷ vs) (lesser v least)
among_all v least vs (inl same) among = inr (rw same (first_among v vs))
among_all v least vs (inr same) (inl is) = inl (same ∙ is)
among_all v least vs (inr same) (inr among) = inr (rw same (later_among v vs least among))

pub all_is_least : AllIsLeast
all_is_least [] = record { below = λ v there. absurd (none_among v there); among = inl refl }
all_is_least (v ∷ vs) =
    let it = all_is_least vs in
    let l = least vs in
    record {
      below = λ w among.
          elim (among_cases v vs w among) [
            | inl same ↦ (let P : Value → Type 0 = λ x. at_most (lesser v l) x ≡ true in
                rw (sym same) (lesser_left v l))
            | inr later ↦ trans (lesser v l) l w (lesser_right v l) (it.below w later)
          ];
      among = among_all v l vs (lesser_one v l) it.among;
    }

-- the greatest

among_any : (v greatest : Value) (vs : List Value) → (greater v greatest ≡ v) ⊎ (greater v greatest ≡ greatest)
    → (greatest ≡ Some false) ⊎ Contains vs greatest
    → (greater v greatest ≡ Some false) ⊎ Contains (v ∷ vs) (greater v greatest)
among_any v greatest vs (inl same) among = inr (rw same (first_among v vs))
among_any v greatest vs (inr same) (inl is) = inl (same ∙ is)
among_any v greatest vs (inr same) (inr among) = inr (rw same (later_among v vs greatest among))

pub any_is_greatest : AnyIsGreatest
any_is_greatest [] = record { above = λ v there. absurd (none_among v there); among = inl refl }
any_is_greatest (v ∷ vs) =
    let it = any_is_greatest vs in
    let g = greatest vs in
    record {
      above = λ w among.
          elim (among_cases v vs w among) [
            | inl same ↦ rw (sym same) (greater_left v g)
            | inr later ↦ trans w g (greater v g) (it.above w later) (greater_right v g)
          ];
      among = among_any v g vs (greater_one v g) it.among;
    }

-- values are the least and the greatest of their kind

least_below : (vs ws : List Value) (a b : Value) → IsLeast vs a → IsLeast ws b
    → ((v : Value) → Contains ws v → Contains vs v) → at_most a b ≡ true
least_below vs ws a b x y within =
    elim y.among [ inl is ↦ rw is (to_true a) | inr among ↦ x.below b (within b among) ]

from_false : (a : Value) → at_most (Some false) a ≡ true
from_false a = refl

greatest_above : (vs ws : List Value) (a b : Value) → IsGreatest vs a → IsGreatest ws b
    → ((v : Value) → Contains ws v → Contains vs v) → at_most b a ≡ true
greatest_above vs ws a b x y within =
    elim y.among [ inl is ↦ rw is (from_false a) | inr among ↦ x.above b (within b among) ]

listed : (p : PlatformData) (es : List Expression) → values p (parts_of es) ≡ map (value p) es
listed p [] = refl
listed p (e ∷ es) = ap (λ vs. value p e ∷ vs) (listed p es)

pub order_is_free : OrderIsFree
order_is_free p es fs moved =
    let vs = map (value p) es in
    let ws = map (value p) fs in
    let to = IsPermutation-map (value p) es fs moved in
    let back = IsPermutation-sym vs ws to in
    let forth = λ (v : Value) (among : Contains vs v). Contains-permutation vs ws v to among in
    let hence = λ (v : Value) (among : Contains ws v). Contains-permutation ws vs v back among in
    let l = both (least vs) (least ws)
    (least_below vs ws (least vs) (least ws) (all_is_least vs) (all_is_least ws) hence)
    (least_below ws vs (least ws) (least vs) (all_is_least ws) (all_is_least vs) forth) in
    let g = both (greatest vs) (greatest ws)
    (greatest_above ws vs (greatest ws) (greatest vs) (any_is_greatest ws) (any_is_greatest vs) forth)
    (greatest_above vs ws (greatest vs) (greatest ws) (any_is_greatest vs) (any_is_greatest ws) hence) in (
      ap least (listed p es) ∙ l ∙ ap least (sym (listed p fs)),
      ap greatest (listed p es) ∙ g ∙ ap greatest (sym (listed p fs)),
    )

-- opposites

mirror_lesser : (a b : Value) → mirror (lesser a b) ≡ greater (mirror a) (mirror b)
mirror_lesser (Some false) b = refl
mirror_lesser (Some true) b = refl
mirror_lesser None (Some false) = refl
mirror_lesser None (Some true) = refl
mirror_lesser None None = refl

mirror_greater : (a b : Value) → mirror (greater a b) ≡ lesser (mirror a) (mirror b)
mirror_greater (Some false) b = refl
mirror_greater (Some true) b = refl
mirror_greater None (Some false) = refl
mirror_greater None (Some true) = refl
mirror_greater None None = refl

not_all : (p : PlatformData) (es : List Expression)
    → mirror (least (values p (parts_of es))) ≡ greatest (values p (parts_of (map Negated es)))
not_all p [] = refl
not_all p (e ∷ es) =
    mirror_lesser (value p e) (least (values p (parts_of es)))
    ∙ ap (greater (mirror (value p e))) (not_all p es)

not_any : (p : PlatformData) (es : List Expression)
    → mirror (greatest (values p (parts_of es))) ≡ least (values p (parts_of (map Negated es)))
not_any p [] = refl
not_any p (e ∷ es) =
    mirror_greater (value p e) (greatest (values p (parts_of es)))
    ∙ ap (lesser (mirror (value p e))) (not_any p es)

pub opposites : OppositesChangePlaces
opposites p es = (not_all p es, not_any p es)
