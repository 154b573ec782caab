-- What marks in memory ask about, and what their views do.
use Rattle.std.proofs.Common.{◌≡◌, Bool, ◌||◌, List, [], ◌∷◌, map, refl, ap, ◌∙◌}
use Rattle.std.specs.List.{list_any}
use Rattle.filter_language.specs.declared.mark.Mark as mark
use Rattle.filter_language.specs.declared.mark.Mark.TheVariants.{Predicate, Not, Open, Close, And, Or, Minus}
use Rattle.filter_language.specs.declared.mark.Question as question
use Rattle.filter_language.specs.declared.mark.Question.TheVariants.{All, Nothing, Default, Platform, Matches}
use Rattle.filter_language.specs.Asks.{mark_is_default, asks_default_filter}
use Rattle.filter_language.specs.FilterMarks.{is_default, asks_default}
use Rattle.filter_language.specs.Grammar.{mark_view}

-- A test passes for one of the views where it passes for one of what they are of.
pub any_of_views : {X Y : Type 0} (p : Y → Bool) (f : X → Y) (xs : List X)
    → list_any p (map f xs) ≡ list_any (λ x. p (f x)) xs
any_of_views p f [] = refl
any_of_views p f (x ∷ xs) = ap (λ b. p (f x) || b) (any_of_views p f xs)

question_default : {M L : Type 0} (meaning : M → L) (q : question.Question M)
    → mark_is_default (mark_view meaning (Predicate q)) ≡ asks_default q
question_default meaning All = refl
question_default meaning Nothing = refl
question_default meaning Default = refl
question_default meaning (Platform p) = refl
question_default meaning (Matches m) = refl

mark_default : {M L : Type 0} (meaning : M → L) (m : mark.Mark M)
    → mark_is_default (mark_view meaning m) ≡ is_default m
mark_default meaning (Predicate q) = question_default meaning q
mark_default meaning Not = refl
mark_default meaning Open = refl
mark_default meaning Close = refl
mark_default meaning And = refl
mark_default meaning Or = refl
mark_default meaning Minus = refl

-- The views of marks name the default filter where the marks do.
pub default_is_asked : {M L : Type 0} (meaning : M → L) (marks : List (mark.Mark M))
    → asks_default_filter (map (mark_view meaning) marks) ≡ list_any is_default marks
default_is_asked meaning [] = refl
default_is_asked meaning (m ∷ marks) =
    ap (λ b. b || asks_default_filter (map (mark_view meaning) marks)) (mark_default meaning m)
    ∙ ap (λ b. is_default m || b) (default_is_asked meaning marks)
