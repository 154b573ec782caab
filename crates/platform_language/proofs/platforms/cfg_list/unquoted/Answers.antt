-- A quote is taken off at the front, and one at the end.
use Rattle.std.proofs.Common.{◌≡◌, ◌≢◌, ◌∙◌, sym, ap, subst, lit<, MatchOption, Option, None, Some, Bor, List, ℕ, [], ◌∷◌, ◌++◌}
use Rattle.std.proofs.lemmas.Str.Pattern.{strip_prefix_char, strip_suffix_char}
use Rattle.platform_language.specs.Platforms.CfgLines.{quoted}
use Rattle.platform_language.proofs.platforms.cfg_list.unquoted.Goals as goal

abbrev Unquotes : List ℕ → Option (Bor (List ℕ)) → Type 0
Unquotes text found = MatchOption found ((value : List ℕ) → text ≢ quoted value) (λ value. text ≡ quoted value.now)

closed : (text inner : List ℕ) (found : Option (Bor (List ℕ))) → text ≡ 34 ∷ inner
    → MatchOption found ((front : List ℕ) → inner ≢ front ++ (34 ∷ [])) (λ x. inner ≡ x.now ++ (34 ∷ []))
    → Unquotes text found
closed text inner None opened unclosed = λ value same.
    let behind : 34 ∷ inner ≡ quoted value = sym opened ∙ same in
    let inside : inner ≡ value ++ (34 ∷ []) = cc in
    unclosed value inside
closed text inner (Some x) opened closes = opened ∙ ap (λ t. 34 ∷ t) closes

pub returns-in_err-strip_prefix : goal.returns-in_err-strip_prefix
returns-in_err-strip_prefix c =
    let unopened = strip_prefix_char 34 c.args.text.now None c.in_err-strip_prefix.ensures.cases (lit< tt) in
    subst (Unquotes c.args.text.now) (sym c.from_residual.ensures) (λ value. unopened (value ++ (34 ∷ [])))

pub returns : goal.returns
returns c =
    let inner = c.in_ok-strip_prefix.field-0 in
    let opened = strip_prefix_char 34 c.args.text.now (Some inner) c.in_ok-strip_prefix.ensures.cases (lit< tt) in
    closed c.args.text.now inner.now c.strip_suffix.result opened
    (strip_suffix_char 34 inner.now c.strip_suffix.result c.strip_suffix.ensures.cases (lit< tt))
