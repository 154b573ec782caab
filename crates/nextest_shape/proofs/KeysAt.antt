-- The keys at a path, step by step.
use Rattle.std.proofs.Common.{◌≡◌, ℕ, ◌+◌, ◌<◌, List, [], ◌∷◌, length, drop, get_or, map, Option, unwrap_or, Bor, refl, sym, ap, ◌∙◌, arith}
use Rattle.std.proofs.lemmas.List.{drop_more}
use Rattle.nextest_shape.specs.declared.shape.Shape.{Shape}
use Rattle.nextest_shape.specs.Form.{TextForm, Form, a_map, FieldForms}
use Rattle.nextest_shape.specs.Keys.{key_texts, or_others, keys_at, field_keys_at, first_keys_at}
use Rattle.nextest_shape.specs.View.{shape_view, shapes_view}

-- the keys below a part of a map
pub keys_in_map : (f : Form) (names : TextForm) (fs : FieldForms) (g : Form) (path : List (List ℕ)) (part : List ℕ)
    (rest : List (List ℕ)) (found : Option (List (List ℕ))) → f ≡ a_map names fs g → path ≡ part ∷ rest
    → found ≡ field_keys_at fs part rest → unwrap_or found (keys_at g rest) ≡ keys_at f path
keys_in_map f names fs g path part rest found is goes told =
    ap (λ o. unwrap_or o (keys_at g rest)) told
    ∙ sym (ap (keys_at (a_map names fs g)) goes)
    ∙ sym (ap (λ h. keys_at h path) is)

-- the keys of a map itself
pub keys_of_map : (f : Form) (names : TextForm) (fs : FieldForms) (g : Form) (path : List (List ℕ))
    → f ≡ a_map names fs g → path ≡ [] → key_texts fs ≡ keys_at f path
keys_of_map f names fs g path is ends =
    sym (ap (keys_at (a_map names fs g)) ends) ∙ sym (ap (λ h. keys_at h path) is)

or_first : (keys others : List (List ℕ)) → (length keys ≡ 0 → ⊥) → or_others keys others ≡ keys
or_first [] others some = absurd (some refl)
or_first (k ∷ ks) others some = refl

-- the first form with keys
pub first_here : (shapes : List Shape) (i : ℕ) (s : Shape) (path keys all : List (List ℕ)) → i < length shapes
    → s ≡ get_or shapes i s → keys ≡ keys_at (shape_view s) path → (length keys ≡ 0 → ⊥)
    → first_keys_at (shapes_view (drop i shapes)) path ≡ all → keys ≡ all
first_here shapes i s path keys all within is told some left =
    let rest = drop (i + 1) shapes in
    let at : drop i shapes ≡ s ∷ rest = drop_more shapes i s within ∙ ap (λ x. x ∷ rest) (sym is) in
    sym (or_first keys (first_keys_at (shapes_view rest) path) some)
    ∙ ap (λ ks. or_others ks (first_keys_at (shapes_view rest) path)) told
    ∙ sym (ap (λ xs. first_keys_at (shapes_view xs) path) at)
    ∙ left

-- texts behind references, where there are none and where there are some
pub no_texts : (bs : List (Bor (List ℕ))) → length bs ≡ 0 → map (λ b. b.now) bs ≡ []
no_texts [] h = refl
no_texts (b ∷ bs) h = absurd (omega (arith, h))

pub some_texts : (bs : List (Bor (List ℕ))) → (length bs ≡ 0 → ⊥) → length (map (λ b. b.now) bs) ≡ 0 → ⊥
some_texts [] some h = some refl
some_texts (b ∷ bs) some h = absurd (omega (arith, h))
