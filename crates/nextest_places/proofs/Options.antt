-- What was read, where something was.
use Rattle.std.proofs.Common.{◌≡◌, ℕ, List, Option, Some, None, option_and_then, refl, sym, ◌∙◌}
use Rattle.std.proofs.lemmas.Option.{none-some, same_Some}
use Rattle.toml_parser.specs.Lexical.{Read}
use Rattle.nextest_places.proofs.GoesOn.{GoesOn}
use Rattle.nextest_places.proofs.Kept.{Kept}
use Rattle.nextest_places.proofs.Values.{KeptRest}

pub bind_some : {A B : Type 0} (o : Option A) (f : A → Option B) (y : B) → option_and_then f o ≡ Some y
    → (x : A) × (o ≡ Some x) × (f x ≡ Some y)
bind_some None f y h = absurd (none-some y h)
bind_some (Some x) f y h = (x, refl, h)

-- what both texts give
pub kept_same : (behind : List ℕ) → {A : Type 0} (r s : Read A) (p q : A × List ℕ) → Kept behind r s
    → r ≡ Some p → s ≡ Some q → (p.0 ≡ q.0) × GoesOn behind p.1 q.1
kept_same behind None s p q k e f = absurd (none-some p e)
kept_same behind (Some v) s p q k e f =
    let (y, g, is) = k in
    let one : v ≡ p = same_Some v p e in
    let two : (v.0, y) ≡ q = same_Some (v.0, y) q (sym is ∙ f) in
    rw (← one, ← two) (refl, g)

pub rest_same : (behind : List ℕ) (r s : Option (List ℕ)) (x z : List ℕ) → KeptRest behind r s
    → r ≡ Some x → s ≡ Some z → GoesOn behind x z
rest_same behind None s x z k e f = absurd (none-some x e)
rest_same behind (Some v) s x z k e f =
    let (y, g, is) = k in
    let one : v ≡ x = same_Some v x e in
    let two : y ≡ z = same_Some y z (sym is ∙ f) in
    rw (← one, ← two) g
