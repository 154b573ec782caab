-- Tests that decide whether what is seen of two values is equal.
use Rattle.std.proofs.Common.{◌≡◌, ◌&&◌, Bool, true, false, List, [], ◌∷◌, map, refl, ap}
use Rattle.std.specs.Bool.{Decides}
use Rattle.std.specs.Cmp.Lexicographic.{pointwise}
use Rattle.std.proofs.lemmas.Bool.Decides.{Decides-and, Decides-like}

-- what never holds
pub never : {P : Type 0} → (P → ⊥) → Decides false P
never n = (λ e. cc, λ p. absurd (n p))

-- what always holds
pub always : {P : Type 0} → P → Decides true P
always p = (λ e. p, λ q. refl)

-- two heads and two tails make two lists
cons_both : {V : Type 0} (v w : V) (vs ws : List V) → (v ≡ w) × (vs ≡ ws) → v ∷ vs ≡ w ∷ ws
cons_both v w vs ws p = λ i. p.0 i ∷ p.1 i

-- equal lists have equal heads and tails
both_of_cons : {V : Type 0} (v w : V) (vs ws : List V) → v ∷ vs ≡ w ∷ ws → (v ≡ w) × (vs ≡ ws)
both_of_cons v w vs ws e = (cc, cc)

-- where a test decides whether what is seen of two elements is equal, it does so for lists
pub seen_decide : {X V : Type 0} (E : X → X → Bool) (seen other : X → V)
    → ((a b : X) → Decides (E a b) (seen a ≡ other b))
    → (xs ys : List X) → Decides (pointwise E xs ys) (map seen xs ≡ map other ys)
seen_decide E seen other each [] [] = always refl
seen_decide E seen other each [] (y ∷ ys) = never (λ e. cc)
seen_decide E seen other each (x ∷ xs) [] = never (λ e. cc)
seen_decide E seen other each (x ∷ xs) (y ∷ ys) =
    Decides-like (E x y && pointwise E xs ys) (cons_both (seen x) (other y) (map seen xs) (map other ys))
    (both_of_cons (seen x) (other y) (map seen xs) (map other ys))
    (Decides-and (E x y) (pointwise E xs ys) (each x y) (seen_decide E seen other each xs ys))

-- the same, where both are seen alike
pub mapped_decides : {X V : Type 0} (E : X → X → Bool) (seen : X → V)
    → ((a b : X) → Decides (E a b) (seen a ≡ seen b))
    → (xs ys : List X) → Decides (pointwise E xs ys) (map seen xs ≡ map seen ys)
mapped_decides E seen each xs ys = seen_decide E seen seen each xs ys

-- two parts make a pair
pub pair_both : {A B : Type 0} (a c : A) (b d : B) → (a ≡ c) × (b ≡ d) → ◌≡◌ {A = A × B} (a, b) (c, d)
pair_both a c b d p = λ i. (p.0 i, p.1 i)

-- equal pairs have equal parts
pub both_of_pair : {A B : Type 0} (p q : A × B) → p ≡ q → (p.0 ≡ q.0) × (p.1 ≡ q.1)
both_of_pair p q e = (ap (λ r. r.0) e, ap (λ r. r.1) e)
