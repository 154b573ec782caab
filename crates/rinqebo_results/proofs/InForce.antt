-- Keys, as code holds them and as definitions have them.
use Rattle.std.proofs.Common.{◌≡◌, ◌==◌, ◌||◌, ◌∙◌, ℕ, List, [], ◌∷◌, Bool, Bor, ap, codes, length, map, refl, sym}
use Rattle.std.proofs.lemmas.List.{length-map}
use Rattle.std.specs.List.{list_any}
use Rattle.std.specs.Str.{bytes_eq}
use Rattle.nextest_documents.specs.Layers.{keys_view}
use Rattle.rinqebo_results.specs.InForce.{asks_for_default}

-- one of what is made of some things passes a test
any_made : {X Y : Type 0} (p : Y → Bool) (f : X → Y) (xs : List X) → list_any p (map f xs) ≡ list_any (λ x. p (f x)) xs
any_made p f [] = refl
any_made p f (x ∷ xs) = ap (λ b. p (f x) || b) (any_made p f xs)

-- whether the default filter is used
pub asks_here : (keys : List (Bor (List ℕ)))
    → ((length keys == 0) || list_any (λ key. bytes_eq key.now (codes "default-filter")) keys)
    ≡ asks_for_default (keys_view keys)
asks_here keys =
    sym (λ i. (length-map keys (λ key. key.now) i == 0)
    || any_made (λ name. bytes_eq name (codes "default-filter")) (λ key. key.now) keys i)
