-- Faults that are added.
use Rattle.std.proofs.Common.{◌≡◌, ℕ, List, [], ◌∷◌, ◌++◌, map, Option, Some, option_map, sym, ap, ◌∙◌, append_assoc, subst}
use Rattle.std.proofs.lemmas.List.{append-nil, map-append}
use Rattle.nextest_places.specs.declared.step.Step.{Step}
use Rattle.nextest_tree.specs.declared.fault.ElementCause.{ElementCause}
use Rattle.nextest_tree.specs.Schema.{Fault, FaultCause, at, below}
use Rattle.nextest_shape.specs.declared.faults.found.FoundFault.{FoundFault}
use Rattle.nextest_shape.specs.Faults.Found.{Adds, Sees, cause_view, found_view, path_text, step_text}
use Rattle.nextest_shape.proofs.faults.Paths.{key_more}

-- nothing is added
pub adds_none : (old : List FoundFault) → Adds old old []
adds_none old = sym (append-nil (map found_view old))

-- one list after another
pub adds_more : (old middle new : List FoundFault) (xs ys : List Fault) → Adds old middle xs → Adds middle new ys
    → Adds old new (xs ++ ys)
adds_more old middle new xs ys first second =
    second ∙ ap (λ t. t ++ map (λ f. Some f) ys) first
    ∙ append_assoc (map found_view old) (map (λ f. Some f) xs) (map (λ f. Some f) ys)
    ∙ ap (λ t. map found_view old ++ t) (sym (map-append (λ f. Some f) xs ys))

-- of all faults that are to be added these are left
abbrev pub Left : List FoundFault → List FoundFault → (rest all : List Fault) → Type 0
Left old now rest all =
    map found_view now ++ map (λ f. Some f) rest ≡ map found_view old ++ map (λ f. Some f) all

-- some of those that are left are added
pub left_more : (old now new : List FoundFault) (xs rest left all : List Fault) → Left old now left all
    → left ≡ xs ++ rest → Adds now new xs → Left old new rest all
left_more old now new xs rest left all is parts added =
    ap (λ t. t ++ map (λ f. Some f) rest) added
    ∙ append_assoc (map found_view now) (map (λ f. Some f) xs) (map (λ f. Some f) rest)
    ∙ ap (λ t. map found_view now ++ t)
    (sym (map-append (λ f. Some f) xs rest) ∙ ap (map (λ f. Some f)) (sym parts))
    ∙ is

-- none is left
pub left_none : (old now : List FoundFault) (left all : List Fault) → Left old now left all → left ≡ []
    → Adds old now all
left_none old now left all is none =
    sym (append-nil (map found_view now)) ∙ ap (λ l. map found_view now ++ map (λ f. Some f) l) (sym none) ∙ is

-- one fault, at its path
pub added_at : (old new : List FoundFault) (one : FoundFault) (path : List Step) (cause : ElementCause)
    (spec : Option FaultCause) → new ≡ old ++ one ∷ [] → one.path.items ≡ path → one.cause ≡ cause
    → Sees (cause_view cause) spec → Adds old new (at (path_text path) spec)
added_at old new one path cause spec is at_path same sees =
    let mk : FaultCause → Fault = λ c. record { path = path_text path; cause = c } in
    let view : found_view one ≡ Some (mk sees.cause) =
    (λ i. option_map (λ c. let f : Fault = record { path = path_text (at_path i); cause = c } in f) (cause_view (same i)))
    ∙ ap (option_map mk) sees.seen in
    ap (map found_view) is ∙ map-append found_view old (one ∷ [])
    ∙ ap (λ v. map found_view old ++ v ∷ []) view
    ∙ sym (ap (λ s. map found_view old ++ map (λ f. Some f) (at (path_text path) s)) sees.meant)

-- what is added at a path with one step more
pub added_below : (f : List ℕ → List Fault) (old new : List FoundFault) (p longer : List Step) (step : Step)
    (k : List ℕ) → longer ≡ p ++ step ∷ [] → step_text step ≡ k → Adds old new (f (path_text longer))
    → Adds old new (f (below (path_text p) k))
added_below f old new p longer step k is named added =
    subst (λ q. Adds old new (f q)) (key_more p longer step k is named) added
