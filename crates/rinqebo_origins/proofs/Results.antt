-- What is made of results.
use Rattle.std.proofs.Common.{◌≡◌, ◌∙◌, Result, Ok, Err, IfOk}

-- what is made of a result, by an equation
pub ok_same : {T E X : Type 0} (f : T → X) (r : Result T E) (a b : X) → a ≡ b → IfOk r (λ t. f t ≡ a)
    → IfOk r (λ t. f t ≡ b)
ok_same f (Ok t) a b same is = is ∙ same
ok_same f (Err e) a b same is = tt
