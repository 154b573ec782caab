-- What is read from a text of whole lines is read from one that goes on.
use Rattle.std.proofs.Common.{◌≡◌, ℕ, List, [], Some, None, option_map, option_and_then, ap, inl, inr}
use Rattle.toml_parser.specs.Lexical.{Read}
use Rattle.nextest_places.proofs.GoesOn.{GoesOn, Left}

-- the same value, and more behind it
abbrev pub Kept : List ℕ → {A : Type 0} → Read A → Read A → Type 0
Kept behind None s = Unit {0}
Kept behind (Some p) s = (y : List ℕ) × GoesOn behind p.1 y × (s ≡ Some (p.0, y))

-- the same, where the first may have read the last newline
abbrev pub KeptLeft : List ℕ → {A : Type 0} → Read A → Read A → Type 0
KeptLeft behind None s = Unit {0}
KeptLeft behind (Some p) s = (y : List ℕ) × Left behind p.1 y × (s ≡ Some (p.0, y))

pub kept_bind : {behind : List ℕ} → {A B : Type 0} (r s : Read A) (f h : A × List ℕ → Read B)
    → Kept behind r s → ((v : A) (x y : List ℕ) → GoesOn behind x y → Kept behind (f (v, x)) (h (v, y)))
    → Kept behind (option_and_then f r) (option_and_then h s)
kept_bind None s f h k then = tt
kept_bind (Some p) s f h k then = let (y, g, e) = k in rw e (then p.0 p.1 y g)

pub kept_map : (behind : List ℕ) → {A B : Type 0} (r s : Read A) (f : A → B) → Kept behind r s
    → Kept behind (option_map (λ p. (f p.0, p.1)) r) (option_map (λ p. (f p.0, p.1)) s)
kept_map behind None s f k = tt
kept_map behind (Some p) s f k = let (y, g, e) = k in (y, g, ap (option_map (λ p. (f p.0, p.1))) e)

pub left_map : (behind : List ℕ) → {A B : Type 0} (r s : Read A) (f : A → B) → Kept behind r s
    → KeptLeft behind (option_map (λ p. (f p.0, p.1)) r) (option_map (λ p. (f p.0, p.1)) s)
left_map behind None s f k = tt
left_map behind (Some p) s f k = let (y, g, e) = k in (y, inr g, ap (option_map (λ p. (f p.0, p.1))) e)

-- what reads nothing at the end of the text
pub or_end : {behind : List ℕ} → {A : Type 0} (f h : List ℕ → Read A) → f [] ≡ None
    → ((x y : List ℕ) → GoesOn behind x y → Kept behind (f x) (h y)) → (x y : List ℕ) → Left behind x y
    → Kept behind (f x) (h y)
or_end f h none keeps x y (inl over) = rw (over, none) tt
or_end f h none keeps x y (inr g) = keeps x y g
