-- The package of a binary's id.
use Rattle.std.proofs.Common.{◌≡◌, ◌≤◌, ◌<◌, ◌+◌, ℕ, zero, suc, List, [], ◌∷◌, ◌++◌, Option, None, Some, length, take, drop, MatchOption, Bor, codes, refl, sym, ◌∙◌, ap, arith}
use Rattle.std.specs.Str.Pattern.{FindsText, LacksTextAt}
use Rattle.filter_language.specs.Values.{package_name}
use Rattle.filter_language.proofs.PartsOfTexts.{after_none}

-- An id that does not begin with `::` has its first byte in the package.
first_byte : (c : ℕ) (id : List ℕ) → LacksTextAt (codes "::") (c ∷ id) 0 → package_name (c ∷ id) ≡ c ∷ package_name id
first_byte c id lacks = rw (after_none (codes "::") (c ∷ id) lacks) refl

whole : (id : List ℕ) → ((k : ℕ) → k ≤ length id → LacksTextAt (codes "::") id k) → package_name id ≡ id
whole [] lacks = refl
whole (c ∷ id) lacks =
    first_byte c id (lacks 0 (omega arith))
    ∙ ap (λ l. c ∷ l) (whole id (λ k below rest e. lacks (suc k) (omega (arith, below)) rest e))

before : (i : ℕ) (id behind : List ℕ) → ((k : ℕ) → k < i → LacksTextAt (codes "::") id k)
    → drop i id ≡ codes "::" ++ behind → package_name id ≡ take i id
before zero id behind lacks is = ap package_name is
before (suc i) [] behind lacks is = absurd (cc)
before (suc i) (c ∷ id) behind lacks is =
    first_byte c id (lacks 0 (omega arith))
    ∙ ap (λ l. c ∷ l) (before i id behind (λ k below rest e. lacks (suc k) (omega (arith, below)) rest e) is)

pub package_parts : (id : List ℕ) (found : Option (Bor (List ℕ) × Bor (List ℕ)))
    → MatchOption found (FindsText (codes "::") id None)
    (λ x. (i : ℕ) × (j : ℕ) × FindsText (codes "::") id (Some (i, j)) × (x.0.now ≡ take i id)
    × (x.1.now ≡ drop j id) × (i ≤ j) × (length x.0.now ≡ i) × (length x.1.now + j ≡ length id))
    → MatchOption found (package_name id ≡ id) (λ parts. package_name id ≡ parts.0.now)
package_parts id None h = whole id h
package_parts id (Some x) h = before h.0 id (drop h.1 id) h.2.0 h.2.1.split ∙ sym h.3
