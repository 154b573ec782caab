-- Texts cut behind a character and before a rest.
use Rattle.std.proofs.Common.{◌≡◌, ◌-◌, ℕ, Bool, true, false, List, [], ◌∷◌, ◌++◌, Option, None, Some, MatchOption, Bor, length, take, drop, refl, sym, ◌∙◌, ap, arith, zero-add}
use Rattle.std.specs.Prelude.{chars, unwrap_or}
use Rattle.std.specs.Char.{encode_utf8, len_utf8}
use Rattle.std.specs.Str.{IsUtf8, bytes_eq}
use Rattle.std.specs.Str.Iter.{chars_rest, chars_steps}
use Rattle.std.specs.Str.Pattern.{FindsTextSuffix, StripsSuffix}
use Rattle.std.specs.declared.str.Chars.{Chars}
use Rattle.std.proofs.lemmas.List.{take-append-drop, append_cancel_left}
use Rattle.std.proofs.lemmas.Slice.Eq.{bytes_eq-Decides}
use Rattle.std.proofs.lemmas.Str.{chars-nil, chars_past_char, drop_past_char}
use Rattle.filter_language.specs.Arguments.{behind_first}
use Rattle.filter_language.specs.Predicates.{before_rest}

behind_none : (text : List ℕ) → length text ≡ 0 → text ≡ behind_first (chars text) text
behind_none [] e = ap (λ cs. behind_first cs []) (sym chars-nil)
behind_none (c ∷ text) e = absurd (omega (arith, e))

-- What is left of a text behind its first character.
pub behind_is : (text : List ℕ) (s t : Chars) (r : Option ℕ) → IsUtf8 text → chars_rest s ≡ text
    → chars_steps s r t → chars_rest t ≡ behind_first (chars text) text
behind_is text s t None utf8 is steps =
    ap chars_rest steps.0.1 ∙ is ∙ behind_none text (sym (ap length is) ∙ steps.0.0)
behind_is text s t (Some c) utf8 is steps =
    let begins : text ≡ encode_utf8 c ++ chars_rest t = sym is ∙ steps.0 in
    sym (drop_past_char text (chars_rest t) 0 c begins)
    ∙ ap (λ n. drop n text) (zero-add (len_utf8 c))
    ∙ ap (λ cs. behind_first cs text) (sym (chars_past_char text (chars_rest t) c utf8 begins))

test_pick : (text rest whole : List ℕ) (b : Bool) → bytes_eq (drop (length text - length rest) text) rest ≡ b
    → (b ≡ true → whole ≡ take (length text - length rest) text) → (b ≡ false → whole ≡ text)
    → whole ≡ before_rest text rest
test_pick text rest whole true is cut same = rw is (cut refl)
test_pick text rest whole false is cut same = rw is (same refl)

-- What is in a text before a rest.
pub front_is : (text rest : List ℕ) (found : Option (Bor (List ℕ))) (d : Bor (List ℕ)) → d.now ≡ text
    → MatchOption found (FindsTextSuffix rest text None) (λ x. StripsSuffix (FindsTextSuffix rest) text x.now)
    → (unwrap_or found d).now ≡ before_rest text rest
front_is text rest None d whole none =
    test_pick text rest d.now _ refl
    (λ e. absurd (none (take (length text - length rest) text) (
    sym (take-append-drop (length text - length rest) text)
    ∙ ap (λ l. take (length text - length rest) text ++ l)
    ((bytes_eq-Decides (drop (length text - length rest) text) rest).0 e)
    )))
    (λ e. whole)
front_is text rest (Some x) d whole (n, fits, is, long) =
    let cut : text ≡ take (length text - length rest) text ++ rest = rw fits.0 at fits.1 in
    let same : drop (length text - length rest) text ≡ rest =
    append_cancel_left (take (length text - length rest) text) _ _
    (take-append-drop (length text - length rest) text ∙ cut) in
    let test : bytes_eq (drop (length text - length rest) text) rest ≡ true =
    (bytes_eq-Decides (drop (length text - length rest) text) rest).1 same in
    test_pick text rest x.now true test (λ e. is ∙ ap (λ k. take (length text - k) text) fits.0) (λ e. absurd (cc))
