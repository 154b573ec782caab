-- What is found in a text, beside what the text writes.
use Rattle.std.proofs.Common.{◌≡◌, ℕ, ◌↔◌, List, Some, None, refl, sym, ap, ◌∙◌, subst}
use Rattle.std.specs.Prelude.{MatchOption}
use Rattle.std.proofs.lemmas.Option.{none-some, some_pair_parts}
use Rattle.filter_engine.specs.GlobTexts.{Leading, found_with}

-- What is found is what is written, and nothing else is.
abbrev pub Tells : {A : Type 0} → Leading A → (A → List ℕ → Type 0) → Type 0
Tells {A = A} found Writes = (a : A) (rest : List ℕ) → Writes a rest ↔ (found ≡ Some (a, rest))

module _ {A : Type 0} (Writes : A → List ℕ → Type 0) where
  -- Nothing is written.
  pub tells_none : ((a : A) (rest : List ℕ) → Writes a rest → ⊥) → Tells None Writes
  tells_none never = λ a rest. (λ w. absurd (never a rest w), λ e. absurd (cc))

  -- One thing is written.
  pub tells_one : (a : A) (rest : List ℕ)
      → ((b : A) (left : List ℕ) → Writes b left ↔ ((b ≡ a) × (left ≡ rest))) → Tells (Some (a, rest)) Writes
  tells_one a rest one = λ b left. (
    λ w. let same = (one b left).0 w in cc,
    λ e. let parts = some_pair_parts a b rest left e in (one b left).1 (sym parts.0, sym parts.1),
  )

  -- What is found is the one thing that is written.
  pub one_told : (a : A) (rest : List ℕ) → Tells (Some (a, rest)) Writes → (b : A) (left : List ℕ)
      → Writes b left ↔ ((b ≡ a) × (left ≡ rest))
  one_told a rest tells b left = (
    λ w. let parts = some_pair_parts a b rest left ((tells b left).0 w) in (sym parts.0, sym parts.1),
    λ (same : (b ≡ a) × (left ≡ rest)). (tells b left).1 (cc),
  )

  -- What is found is written.
  pub told : (a : A) (rest : List ℕ) → Tells (Some (a, rest)) Writes → Writes a rest
  told a rest tells = (tells a rest).1 refl

  -- Where nothing is found, nothing is written.
  pub never_told : Tells None Writes → (a : A) (rest : List ℕ) → Writes a rest → ⊥
  never_told tells a rest w = none-some (a, rest) ((tells a rest).0 w)

  -- What is found is the one thing that can be written.
  pub tells_only : (found : Leading A)
      → MatchOption found ((a : A) (rest : List ℕ) → Writes a rest → ⊥) (λ f. Writes f.0 f.1)
      → ((a b : A) (r s : List ℕ) → Writes a r → Writes b s → (a ≡ b) × (r ≡ s)) → Tells found Writes
  tells_only None never same = tells_none never
  tells_only (Some (a, rest)) here same = tells_one a rest (λ b left. (
    λ w. same b a left rest w here,
    λ (is : (b ≡ a) × (left ≡ rest)). subst (λ x. Writes x left) (sym is.0) (subst (Writes a) (sym is.1) here),
  ))

-- What is written can be said otherwise.
pub tells_same : {A : Type 0} (V W : A → List ℕ → Type 0) (found : Leading A)
    → ((a : A) (rest : List ℕ) → V a rest ↔ W a rest) → Tells found W → Tells found V
tells_same V W found same tells a rest =
    (λ v. (tells a rest).0 ((same a rest).0 v), λ e. (same a rest).1 ((tells a rest).1 e))

-- What is found behind a step.
pub tells_behind : {A B : Type 0} (step : A → B) (Writes : B → List ℕ → Type 0) (Rest : A → List ℕ → Type 0)
    (found : Leading A)
    → ((b : B) (left : List ℕ) → Writes b left ↔ ((next : A) × (b ≡ step next) × Rest next left))
    → Tells found Rest → Tells (found_with step found) Writes
tells_behind {A = A} step Writes Rest None splits tells =
    tells_none Writes (λ b left w. let found = (splits b left).0 w in never_told Rest tells found.0 left found.2)
tells_behind {A = A} step Writes Rest (Some (a, rest)) splits tells =
    tells_one Writes (step a) rest (λ b left. (
      λ w.
          let found = (splits b left).0 w in
          let same = (one_told Rest a rest tells found.0 left).0 found.2 in
          (found.1 ∙ ap step same.0, same.1),
      λ (same : (b ≡ step a) × (left ≡ rest)). (splits b left).1
          (a, same.0, (one_told Rest a rest tells a left).1 (refl, same.1)),
    ))
