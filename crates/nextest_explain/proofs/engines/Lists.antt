-- Tests of lists.
use Rattle.std.proofs.Common.{◌≡◌, ◌||◌, Bool, List, [], ◌∷◌, Vec, Global, map, refl, ap}
use Rattle.std.specs.List.{list_any}
use Rattle.nextest_explain.specs.declared.engines.expr.Term as expr
use Rattle.nextest_explain.specs.Engines.FilterValues.{term_of, lists_of}
use Rattle.nextest_explain.specs.Engines.Filters.{is_default_term, asks_default}

-- A test of what a function makes of each element.
list_any_map : {X Y : Type 0} (p : X → Bool) (f : Y → X) (ys : List Y)
    → list_any p (map f ys) ≡ list_any (λ y. p (f y)) ys
list_any_map p f [] = refl
list_any_map p f (y ∷ ys) = ap (λ b. p (f y) || b) (list_any_map p f ys)

-- Whether lists of terms ask for the default filter, term by term.
pub asks_default_by_terms : (lists : List (Vec expr.Term Global))
    → asks_default (lists_of lists)
    ≡ list_any (λ terms. list_any (λ term. is_default_term (term_of term)) terms.items) lists
asks_default_by_terms [] = refl
asks_default_by_terms (terms ∷ lists) =
    rw (list_any_map is_default_term term_of terms.items)
    (ap (λ b. list_any (λ term. is_default_term (term_of term)) terms.items || b) (asks_default_by_terms lists))
