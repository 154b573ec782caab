-- The features that names name, one after another.
use Rattle.std.proofs.Common.{◌≡◌, ◌∙◌, ◌↔◌, ◌⊎◌, ◌||◌, ◌<◌, ◌≤◌, ◌+◌, [], Bool, Bor, IsTrue, List, ap, drop, false, get_or, inl, inr, length, map, refl, sym, true, ℕ}
use Rattle.std.proofs.lemmas.Bool.{false≢true}
use Rattle.std.proofs.lemmas.List.{at_drop_more, drop_all}
use Rattle.std.specs.BTreeSet.{BTreeSet}
use Rattle.std.specs.List.{list_any}
use Rattle.std.specs.Str.{bytes_eq}
use Rattle.nextest_elements.specs.Experimental.{experimental_text}
use Rattle.nextest_elements.specs.declared.experimental.ConfigExperimental.{ConfigExperimental}
use Rattle.nextest_elements.specs.declared.experimental.ConfigExperimental.TheVariants.{SetupScripts, WrapperScripts}
use Rattle.nextest_rules.specs.KnownView.{features_view, is_feature}
use Rattle.rinqebo_forms.specs.Features.{AreAdded}
use Rattle.rinqebo_request.specs.Requests.{HasNamed, is_named}
use Rattle.rinqebo_request.specs.Variables.{IsSwitchedOn}
use Rattle.rinqebo_request.specs.declared.environment.Environment.{Environment}
use Rattle.rinqebo_request.specs.declared.features.TheConstants.{FEATURES}

or_either : (a b : Bool) → IsTrue (a || b) → IsTrue a ⊎ IsTrue b
or_either true b is = inl refl
or_either false b is = inr is

or_left : (a b : Bool) → IsTrue a → IsTrue (a || b)
or_left true b is = refl
or_left false b is = absurd (cc)

or_right : (a b : Bool) → IsTrue b → IsTrue (a || b)
or_right true b is = refl
or_right false b is = is

-- a feature is the one of a name exactly if it has the name
same_name : (feature named : ConfigExperimental) → is_feature feature named ≡ bytes_eq (experimental_text named) (experimental_text feature)
same_name SetupScripts SetupScripts = refl
same_name WrapperScripts WrapperScripts = refl
same_name SetupScripts WrapperScripts = refl
same_name WrapperScripts SetupScripts = refl

among_all : (feature : ConfigExperimental) → IsTrue (list_any (is_feature feature) FEATURES)
among_all SetupScripts = refl
among_all WrapperScripts = refl

none_before : {P Q : Type 0} (b : Bool) → b ≡ false → IsTrue b ⊎ (P × Q) → Q
none_before b off (inl is) = absurd (false≢true (sym off ∙ is))
none_before b off (inr both) = both.1

-- the features that variables enable, and then those that names name
pub all_named : (environment : Environment) (names : List (List ℕ)) (start mid end : BTreeSet ConfigExperimental) → start.keys ≡ []
    → AreAdded (IsSwitchedOn environment) FEATURES start mid → HasNamed names mid end
    → (feature : ConfigExperimental) → IsTrue (features_view end feature) ↔ (IsSwitchedOn environment feature ⊎ IsTrue (is_named names feature))
all_named environment names start mid end none added named feature =
    let start_is : features_view start feature ≡ false = ap (list_any (is_feature feature)) none in
    let on : IsTrue (features_view mid feature) → IsSwitchedOn environment feature =
    λ is. none_before (features_view start feature) start_is ((added feature).0 is) in
    let back : IsSwitchedOn environment feature → IsTrue (features_view mid feature) =
    λ is. (added feature).1 (inr (among_all feature, is)) in
    let split : IsTrue (features_view mid feature) ⊎ IsTrue (is_named names feature) → IsSwitchedOn environment feature ⊎ IsTrue (is_named names feature) =
    λ either. elim either [ inl is ↦ inl (on is) | inr is ↦ inr is ] in (
      (λ is. split (or_either _ _ (sym (named feature) ∙ is))),
      (λ either. elim either [
        | inl is ↦ named feature ∙ or_left _ _ (back is)
        | inr is ↦ named feature ∙ or_right _ _ is
      ]),
    )

either_false : IsTrue false ⊎ (IsTrue false × Unit {0}) → false ≡ true
either_false (inl is) = is
either_false (inr both) = both.0

kept_one : (a b : Bool) → (IsTrue a → IsTrue b ⊎ (IsTrue false × Unit {0})) → (IsTrue b → IsTrue a) → a ≡ b
kept_one true true there back = refl
kept_one true false there back = sym (either_false (there refl))
kept_one false true there back = back refl
kept_one false false there back = refl

-- one feature more
one_named : (f k : ConfigExperimental) (a b : Bool) → (IsTrue a ↔ (IsTrue b ⊎ (IsTrue (is_feature f k || false) × Unit {0}))) → a ≡ (is_feature f k || b)
one_named SetupScripts SetupScripts a b holds = holds.1 (inr (refl, tt))
one_named WrapperScripts WrapperScripts a b holds = holds.1 (inr (refl, tt))
one_named SetupScripts WrapperScripts a b holds = kept_one a b holds.0 (λ is. holds.1 (inl is))
one_named WrapperScripts SetupScripts a b holds = kept_one a b holds.0 (λ is. holds.1 (inl is))

moved : (t v r : Bool) → ((t || v) || r) ≡ (v || (t || r))
moved true true r = refl
moved true false r = refl
moved false v r = refl

-- one name more was read
pub one_more : (names : List (Bor (List ℕ))) (i : ℕ) (d : Bor (List ℕ)) (f k : ConfigExperimental) (b a : Bool) → i < length names
    → experimental_text k ≡ (get_or names i d).now
    → (IsTrue a ↔ (IsTrue b ⊎ (IsTrue (is_feature f k || false) × Unit {0})))
    → (a || is_named (map (λ name. name.now) (drop (i + 1) names)) f) ≡ (b || is_named (map (λ name. name.now) (drop i names)) f)
one_more names i d f k b a below has holds =
    let left = is_named (map (λ name. name.now) (drop (i + 1) names)) f in
    let is : is_feature f k ≡ bytes_eq (get_or names i d).now (experimental_text f) =
    same_name f k ∙ ap (λ text. bytes_eq text (experimental_text f)) has in
    let more : is_named (map (λ name. name.now) (drop i names)) f ≡ (bytes_eq (get_or names i d).now (experimental_text f) || left) =
    at_drop_more (λ (rest : List (Bor (List ℕ))). is_named (map (λ name. name.now) rest) f) names i d below in
    ap (λ x. x || left) (one_named f k a b holds) ∙ moved (is_feature f k) b left ∙ ap (λ t. b || (t || left)) is
    ∙ ap (λ x. b || x) (sym more)

or_false : (b : Bool) → (b || false) ≡ b
or_false true = refl
or_false false = refl

-- all names were read
pub no_more : (names : List (Bor (List ℕ))) (i : ℕ) (f : ConfigExperimental) (b : Bool) → length names ≤ i
    → b ≡ (b || is_named (map (λ name. name.now) (drop i names)) f)
no_more names i f b above = rw (drop_all i names above) (sym (or_false b))
