use Rattle.std.proofs.Common.{◌≡◌, List, [], ◌∷◌, map, refl, ap}
use Rattle.nextest_settings.proofs.setup_scripts.SetupScripts.iter.Goals as goal

fused : {A B C : Type 0} (f : A → B) (h : B → C) (xs : List A) → map h (map f xs) ≡ map (λ x. h (f x)) xs
fused f h [] = refl
fused f h (x ∷ xs) = ap (λ ys. h (f x) ∷ ys) (fused f h xs)

pub returns-clause-scripts : goal.returns-clause-scripts
returns-clause-scripts g c = rw (fused, c.deref.ensures.value) refl
