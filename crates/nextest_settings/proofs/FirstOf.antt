-- The first value that a function gives, where something is left out of a list.
use Rattle.std.proofs.Common.{◌≡◌, ◌∙◌, List, [], ◌∷◌, ◌++◌, Option, None, Some, IsSome, refl, sym, ap}
use Rattle.std.specs.List.{cons_option, filter_map}
use Rattle.std.specs.Option.{option_or}
use Rattle.nextest_tree.specs.Schema.{first}
use Rattle.nextest_settings.specs.Chains.{first_of}

pub first_cons : {Y : Type 0} (o : Option Y) (ys : List Y) → first (cons_option o ys) ≡ option_or o (first ys)
first_cons None ys = refl
first_cons (Some y) ys = refl

pub or_assoc : {Y : Type 0} (a b c : Option Y) → option_or a (option_or b c) ≡ option_or (option_or a b) c
or_assoc None b c = refl
or_assoc (Some y) b c = refl

firsts : {X Y : Type 0} (f : X → Option Y) (xs zs : List X)
    → first_of f (xs ++ zs) ≡ option_or (first_of f xs) (first_of f zs)
firsts f [] zs = refl
firsts f (x ∷ xs) zs =
    first_cons (f x) (filter_map f (xs ++ zs))
    ∙ ap (option_or (f x)) (firsts f xs zs)
    ∙ or_assoc (f x) (first_of f xs) (first_of f zs)
    ∙ ap (λ o. option_or o (first_of f zs)) (sym (first_cons (f x) (filter_map f xs)))

skipped : {Y : Type 0} (o before after : Option Y) → (IsSome o → before ≡ None → ⊥)
    → option_or before (option_or o after) ≡ option_or before after
skipped None before after unchosen = refl
skipped (Some y) (Some z) after unchosen = refl
skipped (Some y) None after unchosen = absurd (unchosen refl refl)

-- what is not the first that f gives may go
pub first_without : {X Y : Type 0} (f : X → Option Y) (xs : List X) (x : X) (ys : List X)
    → (IsSome (f x) → first_of f xs ≡ None → ⊥) → first_of f (xs ++ x ∷ ys) ≡ first_of f (xs ++ ys)
first_without f xs x ys unchosen =
    firsts f xs (x ∷ ys)
    ∙ ap (option_or (first_of f xs)) (first_cons (f x) (filter_map f ys))
    ∙ skipped (f x) (first_of f xs) (first_of f ys) unchosen
    ∙ sym (firsts f xs ys)
