-- The least and the greatest of the values of parts, part by part.
use Rattle.std.proofs.Common.{◌≡◌, ℕ, zero, suc, ◌+◌, ◌<◌, Bool, true, false, List, [], ◌∷◌, map, take, length, get_or, Option, None, Some, refl, sym, ◌∙◌, ap, arith}
use Rattle.platform_language.specs.Platforms.Platforms.{PlatformData}
use Rattle.platform_language.specs.declared.expression.Expression as expression
use Rattle.platform_language.specs.Expressions.{expression_view, parts_view}
use Rattle.platform_language.specs.Values.{lesser, greater, least, greatest, value, values}

-- what a part in memory says of a platform
abbrev pub said : PlatformData → expression.Expression → Option Bool
said p e = value p (expression_view e)

pub values_said : (p : PlatformData) (parts : List expression.Expression)
    → values p (parts_view parts) ≡ map (said p) parts
values_said p [] = refl
values_said p (e ∷ parts) = ap (λ vs. said p e ∷ vs) (values_said p parts)

lesser_true : (a : Option Bool) → lesser a (Some true) ≡ a
lesser_true None = refl
lesser_true (Some true) = refl
lesser_true (Some false) = refl

lesser_assoc : (a b c : Option Bool) → lesser a (lesser b c) ≡ lesser (lesser a b) c
lesser_assoc (Some false) b c = refl
lesser_assoc (Some true) b c = refl
lesser_assoc None (Some false) c = refl
lesser_assoc None (Some true) c = refl
lesser_assoc None None (Some false) = refl
lesser_assoc None None (Some true) = refl
lesser_assoc None None None = refl

greater_false : (a : Option Bool) → greater a (Some false) ≡ a
greater_false None = refl
greater_false (Some true) = refl
greater_false (Some false) = refl

greater_assoc : (a b c : Option Bool) → greater a (greater b c) ≡ greater (greater a b) c
greater_assoc (Some true) b c = refl
greater_assoc (Some false) b c = refl
greater_assoc None (Some true) c = refl
greater_assoc None (Some false) c = refl
greater_assoc None None (Some true) = refl
greater_assoc None None (Some false) = refl
greater_assoc None None None = refl

-- the least and the greatest of the first parts
abbrev pub least_of : PlatformData → ℕ → List expression.Expression → Option Bool
least_of p n parts = least (map (said p) (take n parts))

abbrev pub greatest_of : PlatformData → ℕ → List expression.Expression → Option Bool
greatest_of p n parts = greatest (map (said p) (take n parts))

least_more : (p : PlatformData) (parts : List expression.Expression) (n : ℕ) (d : expression.Expression)
    → n < length parts
    → least_of p (suc n) parts ≡ lesser (least_of p n parts) (said p (get_or parts n d))
least_more p [] n d below = absurd (omega (arith, below))
least_more p (e ∷ parts) zero d below = lesser_true (said p e)
least_more p (e ∷ parts) (suc n) d below =
    ap (lesser (said p e)) (least_more p parts n d (omega (arith, below)))
    ∙ lesser_assoc (said p e) (least_of p n parts) (said p (get_or parts n d))

greatest_more : (p : PlatformData) (parts : List expression.Expression) (n : ℕ) (d : expression.Expression)
    → n < length parts
    → greatest_of p (suc n) parts ≡ greater (greatest_of p n parts) (said p (get_or parts n d))
greatest_more p [] n d below = absurd (omega (arith, below))
greatest_more p (e ∷ parts) zero d below = greater_false (said p e)
greatest_more p (e ∷ parts) (suc n) d below =
    ap (greater (said p e)) (greatest_more p parts n d (omega (arith, below)))
    ∙ greater_assoc (said p e) (greatest_of p n parts) (said p (get_or parts n d))

next : (n : ℕ) → n + 1 ≡ suc n
next n = omega arith

pub least_next : (p : PlatformData) (parts : List expression.Expression) (n : ℕ) (d : expression.Expression)
    → n < length parts
    → least_of p (n + 1) parts ≡ lesser (least_of p n parts) (said p (get_or parts n d))
least_next p parts n d below = ap (λ k. least_of p k parts) (next n) ∙ least_more p parts n d below

pub greatest_next : (p : PlatformData) (parts : List expression.Expression) (n : ℕ)
    (d : expression.Expression) → n < length parts
    → greatest_of p (n + 1) parts ≡ greater (greatest_of p n parts) (said p (get_or parts n d))
greatest_next p parts n d below = ap (λ k. greatest_of p k parts) (next n) ∙ greatest_more p parts n d below

take_all : (parts : List expression.Expression) → take (length parts) parts ≡ parts
take_all [] = refl
take_all (e ∷ parts) = ap (λ l. e ∷ l) (take_all parts)

pub least_all : (p : PlatformData) (parts : List expression.Expression)
    → least_of p (length parts) parts ≡ least (values p (parts_view parts))
least_all p parts = ap least (ap (map (said p)) (take_all parts) ∙ sym (values_said p parts))

pub greatest_all : (p : PlatformData) (parts : List expression.Expression)
    → greatest_of p (length parts) parts ≡ greatest (values p (parts_view parts))
greatest_all p parts = ap greatest (ap (map (said p)) (take_all parts) ∙ sym (values_said p parts))

-- One part more, and all parts.
pub least_step : (p : PlatformData) (parts : List expression.Expression) (n : ℕ) (d : expression.Expression)
    (v w r : Option Bool)
    → n < length parts → v ≡ least_of p n parts → w ≡ said p (get_or parts n d) → r ≡ lesser v w
    → r ≡ least_of p (n + 1) parts
least_step p parts n d v w r below x y z =
    z ∙ ap (λ a. lesser a w) x ∙ ap (lesser (least_of p n parts)) y ∙ sym (least_next p parts n d below)

pub greatest_step : (p : PlatformData) (parts : List expression.Expression) (n : ℕ)
    (d : expression.Expression) (v w r : Option Bool)
    → n < length parts → v ≡ greatest_of p n parts → w ≡ said p (get_or parts n d) → r ≡ greater v w
    → r ≡ greatest_of p (n + 1) parts
greatest_step p parts n d v w r below x y z =
    z ∙ ap (λ a. greater a w) x ∙ ap (greater (greatest_of p n parts)) y ∙ sym (greatest_next p parts n d below)

pub least_end : (p : PlatformData) (parts : List expression.Expression) (n : ℕ) (v : Option Bool) → n ≡ length parts
    → v ≡ least_of p n parts → v ≡ least (values p (parts_view parts))
least_end p parts n v is x = x ∙ ap (λ k. least_of p k parts) is ∙ least_all p parts

pub greatest_end : (p : PlatformData) (parts : List expression.Expression) (n : ℕ) (v : Option Bool) → n ≡ length parts
    → v ≡ greatest_of p n parts → v ≡ greatest (values p (parts_view parts))
greatest_end p parts n v is x = x ∙ ap (λ k. greatest_of p k parts) is ∙ greatest_all p parts
