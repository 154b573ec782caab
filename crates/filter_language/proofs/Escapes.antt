-- An escape is read exactly if it is spelled.
use Rattle.std.proofs.Common.{◌≡◌, ◌&&◌, ℕ, Bool, true, false, List, [], ◌∷◌, ◌++◌, Option, None, Some, length, nat_lt, option_map, codes, refl, sym, ◌∙◌, ap, inl, inr, if◌then◌else◌, append_assoc}
use Rattle.std.proofs.lemmas.Bool.Decides.{eqb_tells}
use Rattle.std.specs.List.{list_all}
use Rattle.std.specs.Option.{option_or, option_and_then}
use Rattle.std.specs.Char.{is_digit}
use Rattle.std.specs.Str.Parse.{digits_value}
use Rattle.filter_language.specs.Texts.{after_prefix, front_until, rest_until}
use Rattle.filter_language.specs.Lexing.{spelled}
use Rattle.filter_language.specs.Arguments.{hex_in, scalar_in, braced_in, unicode_in, escape_in}
use Rattle.filter_language.specs.Writing.{is_none_of, SpellsEscape, line_feed, carriage_return, tab, backslash, slash, parenthesis, comma, of_number}
use Rattle.filter_language.proofs.PartsOfTexts.{after_is}
use Rattle.filter_language.proofs.Spelled.{both_true, parts, front_of, rest_of}

-- Hex digits have no `}`.
no_brace : (c : ℕ) → is_digit c 16 ≡ true → is_none_of (codes "}") c ≡ true
no_brace c is = elim (eqb_tells 125 c) [
  | inl same ↦ absurd (let clash : is_digit 125 16 ≡ true = rw (← same.1) at is in cc)
  | inr other ↦ rw other.0 refl
]

no_braces : (digits : List ℕ) → list_all (λ c. is_digit c 16) digits ≡ true
    → list_all (is_none_of (codes "}")) digits ≡ true
no_braces [] is = refl
no_braces (c ∷ digits) is =
    let it = both_true (is_digit c 16) (list_all (λ d. is_digit d 16) digits) is in
    rw (no_brace c it.0) (no_braces digits it.1)

all_hex : (digits : List ℕ) (number : ℕ) (b : Bool)
    → ((nat_lt 0 (length digits) && nat_lt (length digits) 7) && list_all (λ c. is_digit c 16) digits) ≡ b
    → (if b then Some (digits_value 16 digits) else None) ≡ Some number
    → list_all (λ c. is_digit c 16) digits ≡ true
all_hex digits number true is e =
    (both_true (nat_lt 0 (length digits) && nat_lt (length digits) 7) (list_all (λ c. is_digit c 16) digits) is).1
all_hex digits number false is e = absurd (cc)

-- What is spelled is read.
braced : (digits rest : List ℕ) (number c : ℕ) → hex_in digits ≡ Some number → scalar_in number ≡ Some c
    → braced_in (digits ++ (125 ∷ rest)) ≡ Some (c, rest)
braced digits rest number c hex is =
    let none = no_braces digits (all_hex digits number _ refl hex) in
    let behind : rest_until (codes "}") (digits ++ (125 ∷ rest)) ≡ 125 ∷ rest =
    rest_of (codes "}") digits 125 rest none refl in
    let front : front_until (codes "}") (digits ++ (125 ∷ rest)) ≡ digits =
    front_of (codes "}") digits 125 rest none refl in
    let found : option_and_then scalar_in (hex_in (front_until (codes "}") (digits ++ (125 ∷ rest)))) ≡ Some c =
    ap (λ l. option_and_then scalar_in (hex_in l)) front ∙ ap (option_and_then scalar_in) hex ∙ is in
    ap (λ l. option_and_then {T = List ℕ} {U = ℕ × List ℕ} (λ r. option_map {U = ℕ × List ℕ} (λ d. (d, r))
    (option_and_then scalar_in (hex_in (front_until (codes "}") (digits ++ (125 ∷ rest))))))
    (after_prefix (codes "}") l)) behind
    ∙ ap (option_map {U = ℕ × List ℕ} (λ d. (d, rest))) found

pub escape_read : (c : ℕ) (escape rest : List ℕ) → SpellsEscape c escape → escape_in (escape ++ rest) ≡ Some (c, rest)
escape_read c escape rest line_feed = refl
escape_read c escape rest carriage_return = refl
escape_read c escape rest tab = refl
escape_read c escape rest backslash = refl
escape_read c escape rest slash = refl
escape_read c escape rest parenthesis = refl
escape_read c escape rest comma = refl
escape_read c escape rest (of_number digits number d hex is) =
    ap (λ l. braced_in l) (append_assoc digits (codes "}") rest) ∙ braced digits rest number d hex is

-- What is read is spelled.
abbrev Begins : List ℕ → ℕ → List ℕ → Type 0
Begins text c rest = (escape : List ℕ) × SpellsEscape c escape × (text ≡ escape ++ rest)

abbrev Found : Type 0
Found = Option (ℕ × List ℕ)

one_of : (a b : Found) (text : List ℕ) (c : ℕ) (rest : List ℕ) → (a ≡ Some (c, rest) → Begins text c rest)
    → (b ≡ Some (c, rest) → Begins text c rest) → option_or a b ≡ Some (c, rest) → Begins text c rest
one_of None b text c rest first second is = second is
one_of (Some x) b text c rest first second is = first is

by_prefix : (d : ℕ) (spelling text : List ℕ) (c : ℕ) (rest : List ℕ) (found : Option (List ℕ))
    → SpellsEscape d spelling → after_prefix spelling text ≡ found
    → option_map {U = ℕ × List ℕ} (λ r. (d, r)) found ≡ Some (c, rest) → Begins text c rest
by_prefix d spelling text c rest None spells is e = absurd (cc)
by_prefix d spelling text c rest (Some r) spells is e =
    let pair : (d, r) ≡ (c, rest) = cc in
    let character : d ≡ c = ap (λ (x : ℕ × List ℕ). x.0) pair in
    let behind : r ≡ rest = ap (λ (x : ℕ × List ℕ). x.1) pair in
    (spelling, rw (← character) spells, after_is spelling text rest (is ∙ ap Some behind))

fixed : (d : ℕ) (spelling text : List ℕ) (c : ℕ) (rest : List ℕ) → SpellsEscape d spelling
    → spelled d spelling text ≡ Some (c, rest) → Begins text c rest
fixed d spelling text c rest spells e = by_prefix d spelling text c rest _ spells refl e

by_scalar : (digits text inside r : List ℕ) (c number : ℕ) (rest : List ℕ) (found : Option ℕ)
    → scalar_in number ≡ found → hex_in digits ≡ Some number → text ≡ codes "u{" ++ inside
    → inside ≡ digits ++ (125 ∷ r)
    → option_map {U = ℕ × List ℕ} (λ d. (d, r)) found ≡ Some (c, rest) → Begins text c rest
by_scalar digits text inside r c number rest None is hex whole split e = absurd (cc)
by_scalar digits text inside r c number rest (Some d) is hex whole split e =
    let pair : (d, r) ≡ (c, rest) = cc in
    let character : d ≡ c = ap (λ (x : ℕ × List ℕ). x.0) pair in
    let behind : r ≡ rest = ap (λ (x : ℕ × List ℕ). x.1) pair in (
      codes "u{" ++ (digits ++ codes "}"),
      of_number digits number c hex (is ∙ ap Some character),
      whole ∙ ap (λ l. codes "u{" ++ l) (split ∙ ap (λ l. digits ++ (125 ∷ l)) behind
          ∙ sym (append_assoc digits (codes "}") rest)),
    )

by_number : (digits text inside r : List ℕ) (c : ℕ) (rest : List ℕ) (found : Option ℕ)
    → hex_in digits ≡ found → text ≡ codes "u{" ++ inside → inside ≡ digits ++ (125 ∷ r)
    → option_map {U = ℕ × List ℕ} (λ d. (d, r)) (option_and_then scalar_in found) ≡ Some (c, rest)
    → Begins text c rest
by_number digits text inside r c rest None is whole split e = absurd (cc)
by_number digits text inside r c rest (Some number) is whole split e =
    by_scalar digits text inside r c number rest (scalar_in number) refl is whole split e

by_close : (text inside : List ℕ) (c : ℕ) (rest : List ℕ) (found : Option (List ℕ))
    → after_prefix (codes "}") (rest_until (codes "}") inside) ≡ found → text ≡ codes "u{" ++ inside
    → option_and_then {T = List ℕ} {U = ℕ × List ℕ} (λ r. option_map {U = ℕ × List ℕ} (λ d. (d, r))
    (option_and_then scalar_in (hex_in (front_until (codes "}") inside)))) found ≡ Some (c, rest)
    → Begins text c rest
by_close text inside c rest None is whole e = absurd (cc)
by_close text inside c rest (Some r) is whole e =
    let split : inside ≡ front_until (codes "}") inside ++ (125 ∷ r) =
    parts (codes "}") inside ∙ ap (λ l. front_until (codes "}") inside ++ l)
    (after_is (codes "}") (rest_until (codes "}") inside) r is) in
    by_number (front_until (codes "}") inside) text inside r c rest (hex_in (front_until (codes "}") inside)) refl
    whole split e

by_open : (text : List ℕ) (c : ℕ) (rest : List ℕ) (found : Option (List ℕ)) → after_prefix (codes "u{") text ≡ found
    → option_and_then braced_in found ≡ Some (c, rest) → Begins text c rest
by_open text c rest None is e = absurd (cc)
by_open text c rest (Some inside) is e =
    by_close text inside c rest _ refl (after_is (codes "u{") text inside is) e

numbered : (text : List ℕ) (c : ℕ) (rest : List ℕ) → unicode_in text ≡ Some (c, rest) → Begins text c rest
numbered text c rest e = by_open text c rest (after_prefix (codes "u{") text) refl e

pub escape_spelled : (text : List ℕ) (c : ℕ) (rest : List ℕ) → escape_in text ≡ Some (c, rest) → Begins text c rest
escape_spelled text c rest =
    one_of _ _ text c rest (fixed 10 (codes "n") text c rest line_feed)
    (one_of _ _ text c rest (fixed 13 (codes "r") text c rest carriage_return)
    (one_of _ _ text c rest (fixed 9 (codes "t") text c rest tab)
    (one_of _ _ text c rest (fixed 92 (codes "\\") text c rest backslash)
    (one_of _ _ text c rest (fixed 47 (codes "/") text c rest slash)
    (one_of _ _ text c rest (fixed 41 (codes ")") text c rest parenthesis)
    (one_of _ _ text c rest (fixed 44 (codes ",") text c rest comma) (numbered text c rest)))))))
