-- What reaches what.
use Rattle.std.proofs.Common.{◌≡◌, ℕ, ◌<◌, List, [], ◌∷◌, length, map, get_or, refl, sym, ap, ◌∙◌, arith}
use Rattle.std.proofs.lemmas.List.{length-map, get_or-map}
use Rattle.filter_inputs.specs.declared.packages.edges.Edge.{Edge}
use Rattle.filter_inputs.specs.declared.packages.edges.Direction.TheVariants.{Dependencies, Dependents}
use Rattle.filter_inputs.specs.Packages.Edges.{DependsOn, Reaches, itself, onward, oriented}

-- who reaches b reaches what b reaches
pub reaches_through : {edges : List Edge} {a b c : ℕ} → Reaches edges a b → Reaches edges b c → Reaches edges a c
reaches_through (itself a) q = q
reaches_through {c = c} (onward a x b d r) q = onward a x c d (reaches_through r q)

pub reaches_next : {edges : List Edge} {a b c : ℕ} → Reaches edges a b → DependsOn edges b c → Reaches edges a c
reaches_next {b = b} {c = c} r d = reaches_through r (onward b c c d (itself c))

-- ---- the other way

abbrev pub turned : List Edge → List Edge
turned edges = map (oriented Dependents) edges

depends_turned : (edges : List Edge) (a b : ℕ) → DependsOn (turned edges) a b → DependsOn edges b a
depends_turned edges a b (k, within, is) =
    let d : Edge = record { from = b; to = a } in
    let inside : k < length edges = omega (arith, length-map edges (oriented Dependents)) in
    let same : get_or (turned edges) k (oriented Dependents d) ≡ oriented Dependents (get_or edges k d) =
    get_or-map (oriented Dependents) edges k d (oriented Dependents d) inside in
    (k, inside, ap (oriented Dependents) (sym same ∙ is))

turned_depends : (edges : List Edge) (a b : ℕ) → DependsOn edges b a → DependsOn (turned edges) a b
turned_depends edges a b (k, within, is) =
    let d : Edge = record { from = b; to = a } in
    let same : get_or (turned edges) k (oriented Dependents d) ≡ oriented Dependents (get_or edges k d) =
    get_or-map (oriented Dependents) edges k d (oriented Dependents d) within in
    (k, omega (arith, length-map edges (oriented Dependents)), same ∙ ap (oriented Dependents) is)

pub reaches_turned : (edges : List Edge) {a b : ℕ} → Reaches (turned edges) a b → Reaches edges b a
reaches_turned edges (itself a) = itself a
reaches_turned edges (onward a x b d r) = reaches_next (reaches_turned edges r) (depends_turned edges a x d)

pub turned_reaches : (edges : List Edge) {a b : ℕ} → Reaches edges a b → Reaches (turned edges) b a
turned_reaches edges (itself a) = itself a
turned_reaches edges (onward a x b d r) = reaches_next (turned_reaches edges r) (turned_depends edges x a d)

pub unturned : (edges : List Edge) → map (oriented Dependencies) edges ≡ edges
unturned [] = refl
unturned (e ∷ es) = ap (λ rest. e ∷ rest) (unturned es)
