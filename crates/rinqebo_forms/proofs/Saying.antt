-- The values of all elements of a list, read one by one up to the end or the first that has none.
use Rattle.std.proofs.Common.{◌≡◌, ℕ, suc, ◌+◌, ◌<◌, ◌≤◌, List, [], ◌∷◌, ◌++◌, length, map, take, drop, get_or, Option, None, Some, option_and_then, option_map, refl, sym, ap, ◌∙◌}
use Rattle.std.proofs.Math.Seq.{drop-cons}
use Rattle.std.proofs.lemmas.List.{map-append, map_more, take_all, take-append-drop}
use Rattle.rinqebo_forms.specs.Requests.{all_said}

-- every element has a value
pub said_by : {V A B : Type 0} (seen : V → A) (f : A → Option B) (values : List V) (ys : List B)
    → map Some ys ≡ map (λ v. f (seen v)) values → all_said f (map seen values) ≡ Some ys
unfolding all_said
said_by seen f [] [] is = refl
said_by seen f [] (y ∷ ys) is = absurd (cc)
said_by seen f (v ∷ values) [] is = absurd (cc)
said_by seen f (v ∷ values) (y ∷ ys) is =
    let head : f (seen v) ≡ Some y = cc in
    let tail : map Some ys ≡ map (λ u. f (seen u)) values = cc in
    rw (head, said_by seen f values ys tail) refl

none_then : {A B : Type 0} (o : Option A) (g : A → B → B) (rest : Option B) → rest ≡ None
    → option_and_then (λ a. option_map (g a) rest) o ≡ None
none_then None g rest is = refl
none_then (Some a) g rest is = rw is refl

-- an element has no value
silent_by : {V A B : Type 0} (seen : V → A) (f : A → Option B) (front : List V) (x : V) (back : List V)
    → f (seen x) ≡ None → all_said f (map seen (front ++ x ∷ back)) ≡ None
unfolding all_said
silent_by seen f [] x back is = rw is refl
silent_by seen f (v ∷ front) x back is =
    none_then (f (seen v)) (λ y ys. y ∷ ys) (all_said f (map seen (front ++ x ∷ back)))
    (silent_by seen f front x back is)

pub said_step : {V A B : Type 0} (seen : V → A) (f : A → Option B) (values : List V) (n : ℕ)
    (done after : List B) (x : V) (b : B) → n < length values → x ≡ get_or values n x → f (seen x) ≡ Some b
    → map Some done ≡ map (λ v. f (seen v)) (take n values) → after ≡ done ++ b ∷ []
    → map Some after ≡ map (λ v. f (seen v)) (take (n + 1) values)
said_step seen f values n done after x b within at is gave pushed =
    ap (map Some) pushed
    ∙ map-append Some done (b ∷ [])
    ∙ ap (λ rs. rs ++ Some b ∷ []) gave
    ∙ ap (λ r. map (λ v. f (seen v)) (take n values) ++ r ∷ []) (sym is ∙ ap (λ v. f (seen v)) at)
    ∙ sym (map_more (λ v. f (seen v)) values n x within)

pub said_all : {V A B : Type 0} (seen : V → A) (f : A → Option B) (values : List V) (n : ℕ) (done : List B)
    → length values ≤ n → map Some done ≡ map (λ v. f (seen v)) (take n values)
    → all_said f (map seen values) ≡ Some done
said_all seen f values n done passed gave =
    said_by seen f values done (gave ∙ ap (map (λ v. f (seen v))) (take_all n values passed))

pub said_none : {V A B : Type 0} (seen : V → A) (f : A → Option B) (values : List V) (n : ℕ) (x : V)
    → n < length values → x ≡ get_or values n x → f (seen x) ≡ None → all_said f (map seen values) ≡ None
said_none seen f values n x within at is =
    let split : values ≡ take n values ++ (x ∷ drop (suc n) values) =
    sym (take-append-drop n values)
    ∙ ap (λ rest. take n values ++ rest) (drop-cons values n x within)
    ∙ ap (λ v. take n values ++ (v ∷ drop (suc n) values)) (sym at) in
    ap (λ vs. all_said f (map seen vs)) split ∙ silent_by seen f (take n values) x (drop (suc n) values) is
