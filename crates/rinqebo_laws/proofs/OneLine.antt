-- Texts of one line have one line feed.
use Rattle.std.proofs.Common.{◌≡◌, ◌+◌, ◌==◌, ℕ, suc, cond, List, [], ◌∷◌, ◌++◌, flat_map, length, refl, ap, ap₂, ◌∙◌, arith}
use Rattle.std.proofs.lemmas.Bool.{ne_eqb}
use Rattle.std.proofs.lemmas.List.Sums.{sum_by-append}
use Rattle.rinqebo_laws.specs.Lines.{HasNo, IsOneLine, line_feed, line_feeds}

pub feeds-append : (a b : List ℕ) → line_feeds (a ++ b) ≡ line_feeds a + line_feeds b
feeds-append a b = sum_by-append (λ byte. cond (byte == line_feed) 1 0) a b

pub no_feeds : (text : List ℕ) → HasNo line_feed text → line_feeds text ≡ 0
no_feeds [] h = refl
no_feeds (b ∷ bs) h = rw (ne_eqb b line_feed h.0) (no_feeds bs h.1)

pub one_feed : (text : List ℕ) → IsOneLine text → line_feeds text ≡ 1
one_feed text h =
    ap line_feeds h.ends ∙ feeds-append h.line (line_feed ∷ []) ∙ ap (λ n. n + 1) (no_feeds h.line h.no_feed)

pub one_more : (n : ℕ) → 1 + n ≡ suc n
one_more n = omega arith

-- a line each
pub feeds_each : {X : Type 0} (f : X → List ℕ) → ((x : X) → IsOneLine (f x)) → (xs : List X)
    → line_feeds (flat_map f xs) ≡ length xs
feeds_each f h [] = refl
feeds_each f h (x ∷ xs) =
    feeds-append (f x) (flat_map f xs) ∙ ap₂ (λ n m. n + m) (one_feed (f x) (h x)) (feeds_each f h xs)
    ∙ one_more (length xs)
