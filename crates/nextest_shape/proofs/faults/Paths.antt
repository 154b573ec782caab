-- Paths with one more step.
use Rattle.std.proofs.Common.{◌≡◌, ℕ, List, [], ◌∷◌, ◌++◌, fold, refl, ap, ◌∙◌}
use Rattle.nextest_places.specs.declared.step.Step.{Step}
use Rattle.nextest_tree.specs.Schema.{below}
use Rattle.nextest_shape.specs.Faults.Found.{path_text, step_text}

from : (p : List ℕ) (path : List Step) (step : Step)
    → fold (λ q s. below q (step_text s)) p (path ++ step ∷ [])
    ≡ below (fold (λ q s. below q (step_text s)) p path) (step_text step)
from p [] step = refl
from p (first ∷ path) step = from (below p (step_text first)) path step

-- one more step is one more key
pub one_more : (path : List Step) (step : Step) → path_text (path ++ step ∷ []) ≡ below (path_text path) (step_text step)
one_more path step = from [] path step

-- the path that is one key longer
pub key_more : (path longer : List Step) (step : Step) (k : List ℕ) → longer ≡ path ++ step ∷ [] → step_text step ≡ k
    → path_text longer ≡ below (path_text path) k
key_more path longer step k is named = ap path_text is ∙ one_more path step ∙ ap (below (path_text path)) named
