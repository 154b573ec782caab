-- Blanks in front of a text.
use Rattle.std.proofs.Common.{◌≡◌, ◌==◌, ◌&&◌, ℕ, false, List, [], ◌∷◌, ◌++◌, None, Some, is_some, codes, refl, sym, inl, inr}
use Rattle.std.proofs.lemmas.Bool.Decides.{eqb_tells}
use Rattle.filter_language.specs.Texts.{after_prefix, skipped}
use Rattle.filter_language.proofs.PartsOfTexts.{after_is}

-- A text that does not begin with a byte begins with another.
begins_not : (d c : ℕ) (text : List ℕ) → after_prefix (d ∷ []) (c ∷ text) ≡ None → (c == d) ≡ false
begins_not d c text none =
    elim (eqb_tells d c) [
      | inl same ↦ absurd (let clash : Some text ≡ None = rw same.0 at none in cc)
      | inr other ↦ elim (eqb_tells c d) [ inl same ↦ absurd (other.1 (sym same.1)) | inr it ↦ it.0 ]
    ]

-- A return that no line feed follows is not a blank.
no_return : (c : ℕ) (text : List ℕ) → after_prefix (codes "\r\n") (c ∷ text) ≡ None
    → ((c == 13) && is_some (after_prefix (codes "\n") text)) ≡ false
no_return c text none =
    elim (eqb_tells c 13) [
      | inl same ↦ (
          let is : c ≡ 13 = same.1 in
          let after : after_prefix (codes "\n") text ≡ None = rw is at none in
          rw (same.0, after) refl
          )
      | inr other ↦ rw other.0 refl
    ]

pub no_blank : (text : List ℕ) → after_prefix (codes " ") text ≡ None → after_prefix (codes "\n") text ≡ None
    → after_prefix (codes "\r\n") text ≡ None → skipped text ≡ text
no_blank [] x y z = refl
no_blank (c ∷ text) x y z = rw (begins_not 32 c text x, begins_not 10 c text y, no_return c text z) refl

pub behind_space : (text rest : List ℕ) → after_prefix (codes " ") text ≡ Some rest → skipped text ≡ skipped rest
behind_space text rest e = let is : text ≡ codes " " ++ rest = after_is (codes " ") text rest e in rw is refl

pub behind_line : (text rest : List ℕ) → after_prefix (codes "\n") text ≡ Some rest → skipped text ≡ skipped rest
behind_line text rest e = let is : text ≡ codes "\n" ++ rest = after_is (codes "\n") text rest e in rw is refl

pub behind_return : (text rest : List ℕ) → after_prefix (codes "\r\n") text ≡ Some rest → skipped text ≡ skipped rest
behind_return text rest e = let is : text ≡ codes "\r\n" ++ rest = after_is (codes "\r\n") text rest e in rw is refl
