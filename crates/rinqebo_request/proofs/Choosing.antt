-- The first text of some that there is.
use Rattle.std.proofs.Common.{◌≡◌, ◌∙◌, ◌&&◌, [], map, Bool, Bor, List, None, Option, Some, ap, ap₂, is_some, not, option_map, refl, true, false, unwrap_or, ℕ}
use Rattle.std.specs.Option.{option_or}

pub now_or : (o : Option (Bor (List ℕ))) (d : Bor (List ℕ)) → (unwrap_or o d).now ≡ unwrap_or (option_map (λ t. t.now) o) d.now
now_or None d = refl
now_or (Some t) d = refl

or_now : (o p : Option (Bor (List ℕ))) → option_map (λ t. t.now) (option_or o p) ≡ option_or (option_map (λ t. t.now) o) (option_map (λ t. t.now) p)
or_now None p = refl
or_now (Some t) p = refl

-- the first of two texts, or a third one
pub chosen : (first second either : Option (Bor (List ℕ))) (d result : Bor (List ℕ)) (a b : Option (List ℕ))
    → either ≡ option_or first second → result ≡ unwrap_or either d
    → option_map (λ t. t.now) first ≡ a → option_map (λ t. t.now) second ≡ b
    → result.now ≡ unwrap_or (option_or a b) d.now
chosen first second either d result a b is result_is first_is second_is =
    ap (λ (t : Bor (List ℕ)). t.now) result_is ∙ now_or either d
    ∙ ap (λ o. unwrap_or o d.now) (ap (λ o. option_map (λ t. t.now) o) is ∙ or_now first second ∙ ap₂ option_or first_is second_is)

-- a text, or another one
pub chosen_one : (first : Option (Bor (List ℕ))) (d result : Bor (List ℕ)) (a : Option (List ℕ)) → result ≡ unwrap_or first d
    → option_map (λ t. t.now) first ≡ a → result.now ≡ unwrap_or a d.now
chosen_one first d result a result_is first_is =
    ap (λ (t : Bor (List ℕ)). t.now) result_is ∙ now_or first d ∙ ap (λ o. unwrap_or o d.now) first_is

pub some_kept : {A B : Type 0} (f : A → B) (o : Option A) → is_some (option_map f o) ≡ is_some o
some_kept f None = refl
some_kept f (Some x) = refl

-- texts, or none
pub texts_or : (o : Option (Bor (List (Bor (List ℕ))))) (d result : Bor (List (Bor (List ℕ)))) (a : Option (List (List ℕ))) → d.now ≡ []
    → result ≡ unwrap_or o d → option_map (λ texts. map (λ t. t.now) texts.now) o ≡ a
    → map (λ t. t.now) result.now ≡ unwrap_or a []
texts_or None d result a none is are =
    ap (λ (texts : Bor (List (Bor (List ℕ)))). map (λ t. t.now) texts.now) is ∙ ap (map (λ t. t.now)) none ∙ ap (λ o. unwrap_or o []) are
texts_or (Some texts) d result a none is are =
    ap (λ (texts : Bor (List (Bor (List ℕ)))). map (λ t. t.now) texts.now) is ∙ ap (λ o. unwrap_or o []) are

pub none_of : {A : Type 0} (o : Option A) → is_some o ≡ false → o ≡ None
none_of None is = refl
none_of (Some x) is = absurd (cc)

-- colours without `NO_COLOR`, and with it
pub coloured : (b : Bool) (t : Option (List ℕ)) → None ≡ t → b ≡ (b && not (is_some t))
coloured true t none = ap (λ (o : Option (List ℕ)). not (is_some o)) none
coloured false t none = refl

pub uncoloured : (b : Bool) (x : List ℕ) (t : Option (List ℕ)) → Some x ≡ t → false ≡ (b && not (is_some t))
uncoloured true x t some = ap (λ (o : Option (List ℕ)). not (is_some o)) some
uncoloured false x t some = refl
