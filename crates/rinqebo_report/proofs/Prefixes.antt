-- Prefixes of texts.
use Rattle.std.proofs.Common.{◌≡◌, ℕ, List, [], ◌∷◌, ◌++◌, Option, None, Some, MatchOption, Bor, refl, sym, ◌∙◌, ap, eq-eqb, inl, inr}
use Rattle.std.proofs.lemmas.Bool.Decides.{eqb_tells}
use Rattle.std.specs.Str.Pattern.{FindsTextPrefix, StripsPrefix}
use Rattle.rinqebo_report.specs.OriginText.{after_prefix}

-- What follows a prefix that was put before a text is the text.
pub after_own : (prefix rest : List ℕ) → after_prefix prefix (prefix ++ rest) ≡ Some rest
after_own [] rest = refl
after_own (c ∷ prefix) rest = rw (eq-eqb c c refl) (after_own prefix rest)

-- A text is its prefix and what follows it.
pub after_is : (prefix text rest : List ℕ) → after_prefix prefix text ≡ Some rest → text ≡ prefix ++ rest
after_is [] text rest e = cc
after_is (c ∷ prefix) [] rest e = absurd (cc)
after_is (c ∷ prefix) (d ∷ text) rest e =
    elim (eqb_tells c d) [
      | inl same ↦ (let behind : text ≡ prefix ++ rest = after_is prefix text rest (rw same.0 at e) in
          let first : c ≡ d = same.1 in cc)
      | inr other ↦ absurd (let none : None ≡ Some rest = rw other.0 at e in cc)
    ]

-- A text that is not a prefix and a rest has nothing after the prefix.
pub after_none : (prefix text : List ℕ) → ((rest : List ℕ) → text ≡ prefix ++ rest → ⊥)
    → after_prefix prefix text ≡ None
after_none prefix text none =
    let P : Option (List ℕ) → Type 0 = λ found. after_prefix prefix text ≡ found → found ≡ None in
    let cases : (found : Option (List ℕ)) → P found =
    λ found. elim found as P [
      | None ↦ (λ e. refl)
      | Some rest ↦ (λ e. absurd (none rest (after_is prefix text rest e)))
    ] in
    cases (after_prefix prefix text) refl

-- What `strip_prefix` gives.
pub stripped : (prefix text : List ℕ) (found : Option (Bor (List ℕ)))
    → MatchOption found (FindsTextPrefix prefix text None) (λ rest. StripsPrefix (FindsTextPrefix prefix) text rest.now)
    → MatchOption found (after_prefix prefix text ≡ None) (λ rest. after_prefix prefix text ≡ Some rest.now)
stripped prefix text None none = after_none prefix text none
stripped prefix text (Some rest) (n, found, is, fits) =
    ap (after_prefix prefix) found.1 ∙ after_own prefix _ ∙ ap Some (sym is)
