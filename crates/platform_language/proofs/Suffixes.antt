-- What is before the `)` that ends a text.
use Rattle.std.proofs.Common.{◌≡◌, ◌≢◌, ◌==◌, ◌+◌, ◌-◌, ℕ, Bool, true, false, List, [], ◌∷◌, ◌++◌, Option, None, Some, option_map, length, take, MatchOption, Bor, if◌then◌else◌, refl, sym, ◌∙◌, ap, lit<}
use Rattle.std.proofs.lemmas.Bool.{eqb-true}
use Rattle.std.specs.Str.Pattern.{FindsCharSuffix}
use Rattle.std.proofs.lemmas.Str.Pattern.{strip_suffix_char}
use Rattle.platform_language.specs.Texts.{before_close}

pub own_front : (front : List ℕ) → before_close (front ++ (41 ∷ [])) ≡ Some front
own_front [] = refl
own_front (c ∷ []) = refl
own_front (c ∷ d ∷ front) = ap (option_map (λ l. c ∷ l)) (own_front (d ∷ front))

one_front : (c : ℕ) (front : List ℕ) (b : Bool) → (c == 41) ≡ b → (if b then Some [] else None) ≡ Some front
    → (c ∷ []) ≡ front ++ (41 ∷ [])
one_front c front true is e =
    let byte : c ≡ 41 = eqb-true c 41 is in
    let none : [] ≡ front = cc in
    rw (sym none, byte) refl
one_front c front false is e = absurd (cc)

more_front : (c : ℕ) (rest front : List ℕ) (found : Option (List ℕ)) → before_close rest ≡ found
    → ((f : List ℕ) → before_close rest ≡ Some f → rest ≡ f ++ (41 ∷ []))
    → option_map (λ l. c ∷ l) found ≡ Some front → c ∷ rest ≡ front ++ (41 ∷ [])
more_front c rest front None is known e = absurd (cc)
more_front c rest front (Some f) is known e =
    let same : c ∷ f ≡ front = cc in rw (sym same) (ap (λ l. c ∷ l) (known f is))

pub front_is : (text front : List ℕ) → before_close text ≡ Some front → text ≡ front ++ (41 ∷ [])
front_is [] front e = absurd (cc)
front_is (c ∷ []) front e = one_front c front (c == 41) refl e
front_is (c ∷ d ∷ rest) front e = more_front c (d ∷ rest) front _ refl (front_is (d ∷ rest)) e

no_front : (text : List ℕ) (found : Option (List ℕ)) → before_close text ≡ found
    → ((front : List ℕ) → text ≢ front ++ (41 ∷ [])) → found ≡ None
no_front text None e none = refl
no_front text (Some front) e none = absurd (none front (front_is text front e))

known : (text : List ℕ) (found : Option (Bor (List ℕ)))
    → MatchOption found ((front : List ℕ) → text ≢ front ++ (41 ∷ [])) (λ x. text ≡ x.now ++ (41 ∷ []))
    → option_map (λ front. front.now) found ≡ before_close text
known text None none = sym (no_front text (before_close text) refl none)
known text (Some x) is = sym (ap before_close is ∙ own_front x.now)

-- What `strip_suffix` gives.
pub stripped : (text : List ℕ) (found : Option (Bor (List ℕ)))
    → MatchOption found (FindsCharSuffix 41 text None)
    (λ x. (n : ℕ) × FindsCharSuffix 41 text (Some n) × (x.now ≡ take (length text - n) text)
    × (length x.now + n ≡ length text))
    → option_map (λ front. front.now) found ≡ before_close text
stripped text found is = known text found (strip_suffix_char 41 text found is (lit< tt))
