-- Prefixes and parts of texts.
use Rattle.std.proofs.Common.{◌≡◌, ℕ, Bool, true, false, ◌||◌, List, [], ◌∷◌, ◌++◌, Option, None, Some, is_some, MatchOption, Bor, refl, sym, ◌∙◌, ap, eq-eqb, inl, inr}
use Rattle.std.proofs.lemmas.Bool.Decides.{eqb_tells}
use Rattle.std.specs.Str.Iter.{HasSubslice}
use Rattle.std.specs.Str.Pattern.{FindsTextPrefix, StripsPrefix, FindsText, HasMatch}
use Rattle.std.specs.Bool.{MatchBool}
use Rattle.std.proofs.lemmas.Str.Pattern.{contains_text}
use Rattle.nextest_explain.specs.Engines.Texts.{after_prefix, has_part}

-- What follows a prefix that was put before a text is the text.
pub after_own : (prefix rest : List ℕ) → after_prefix prefix (prefix ++ rest) ≡ Some rest
after_own [] rest = refl
after_own (c ∷ prefix) rest = rw (eq-eqb c c refl) (after_own prefix rest)

-- A text is its prefix and what follows it.
pub after_is : (prefix text rest : List ℕ) → after_prefix prefix text ≡ Some rest → text ≡ prefix ++ rest
after_is [] text rest e = cc
after_is (c ∷ prefix) [] rest e = absurd (cc)
after_is (c ∷ prefix) (d ∷ text) rest e =
    elim (eqb_tells c d) [
      | inl same ↦ (let behind : text ≡ prefix ++ rest = after_is prefix text rest (rw same.0 at e) in
          let first : c ≡ d = same.1 in cc)
      | inr other ↦ absurd (let none : None ≡ Some rest = rw other.0 at e in cc)
    ]

-- A text that is not a prefix and a rest has nothing after the prefix.
pub after_none : (prefix text : List ℕ) → ((rest : List ℕ) → text ≡ prefix ++ rest → ⊥)
    → after_prefix prefix text ≡ None
after_none prefix text none =
    let P : Option (List ℕ) → Type 0 = λ found. after_prefix prefix text ≡ found → found ≡ None in
    let cases : (found : Option (List ℕ)) → P found =
    λ found. elim found as P [
      | None ↦ (λ e. refl)
      | Some rest ↦
          (λ e. absurd (none rest (after_is prefix text rest e)))
    ] in
    cases (after_prefix prefix text) refl

-- What `strip_prefix` gives.
pub stripped : (prefix text : List ℕ) (found : Option (Bor (List ℕ)))
    → MatchOption found (FindsTextPrefix prefix text None) (λ rest. StripsPrefix (FindsTextPrefix prefix) text rest.now)
    → MatchOption found (after_prefix prefix text ≡ None) (λ rest. after_prefix prefix text ≡ Some rest.now)
stripped prefix text None none = after_none prefix text none
stripped prefix text (Some rest) (n, found, is, fits) =
    ap (after_prefix prefix) found.1 ∙ after_own prefix _ ∙ ap Some (sym is)

-- Anything or true is true.
or_true : (b : Bool) → (b || true) ≡ true
or_true true = refl
or_true false = refl

-- A text that begins with a part has it.
has_part_first : (part text : List ℕ) → is_some (after_prefix part text) ≡ true → has_part part text ≡ true
has_part_first part [] e = e
has_part_first part (c ∷ text) e = ap (λ b. b || has_part part text) e

-- A part that is in a text is found.
has_part_between : (part before behind : List ℕ) → has_part part (before ++ (part ++ behind)) ≡ true
has_part_between part [] behind = has_part_first part (part ++ behind) (ap is_some (after_own part behind))
has_part_between part (c ∷ before) behind =
    rw (has_part_between part before behind) (or_true (is_some (after_prefix part (c ∷ (before ++ (part ++ behind))))))

-- A text that a part begins has it in front of a rest.
begins : (part text : List ℕ) (found : Option (List ℕ)) → after_prefix part text ≡ found
    → is_some found ≡ true → HasSubslice text part
begins part text None e is = absurd (cc)
begins part text (Some rest) e _ = ([], rest, after_is part text rest e)

-- What is found in a text with one more byte in front is at its front or further on.
stands_on : (part text : List ℕ) (c : ℕ) (first : Bool) → is_some (after_prefix part (c ∷ text)) ≡ first
    → (has_part part text ≡ true → HasSubslice text part) → (first || has_part part text) ≡ true
    → HasSubslice (c ∷ text) part
stands_on part text c true is further e = begins part (c ∷ text) _ refl is
stands_on part text c false is further e = let found = further e in (c ∷ found.0, found.1, ap (λ l. c ∷ l) found.2)

-- What is found is in the text.
has_part_stands : (part text : List ℕ) → has_part part text ≡ true → HasSubslice text part
has_part_stands part [] e = begins part [] _ refl e
has_part_stands part (c ∷ text) e = stands_on part text c _ refl (has_part_stands part text) e

-- Two tests that tell each other are one.
same_answer : (a b : Bool) → (a ≡ true → b ≡ true) → (b ≡ true → a ≡ true) → a ≡ b
same_answer true b forth back = sym (forth refl)
same_answer false true forth back = back refl
same_answer false false forth back = refl

-- What `contains` answers.
pub contains_is : (part text : List ℕ) (found : Bool)
    → MatchBool found (HasMatch (FindsText part) text) (FindsText part text None) → found ≡ has_part part text
contains_is part text found h =
    let known = contains_text found part text h in
    same_answer found (has_part part text)
    (λ e. let at = known.0 e in rw at.2 (has_part_between part at.0 at.1))
    (λ e. known.1 (has_part_stands part text e))
