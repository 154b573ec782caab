-- The tests of texts say what the grammar of identifiers says.
use native.Mathlib.Numerals.{unary_clauses}
use Rattle.std.proofs.Common.{◌≡◌, ◌≢◌, ◌↔◌, ℕ, ◌+◌, ◌<◌, ◌≤◌, Bool, true, false, ◌||◌, ◌&&◌, eqb, IsTrue, Option, Some, None, Result, Ok, Err, IfErr, IfNone, IfSome, Bor, List, [], ◌∷◌, ◌++◌, length, drop, get_or, Contains, codes, refl, sym, ◌∙◌, ap, subst, inl, inr, ⊎_elim, is_some, is_ok, arith, append_assoc, if◌then◌else◌}
use Rattle.std.proofs.Math.Bool.{or-false}
use Rattle.std.proofs.lemmas.Bool.{cases_Bool, false≢true, and_parts, and_from, eqb-true, cases_lt, false_from_ne_true}
use Rattle.std.proofs.lemmas.Bool.Decides.{Decides-eqb}
use Rattle.std.proofs.lemmas.List.{drop_all}
use Rattle.std.proofs.lemmas.List.Sums.{split_at_first, passes_at_first}
use Rattle.std.proofs.lemmas.Slice.Eq.{starts_is}
use Rattle.std.proofs.lemmas.Str.{is_utf8-from_IsUtf8, chars_past_char}
use Rattle.std.specs.Char.{encode_utf8}
use Rattle.std.specs.List.{list_all, before_first, after_first, position_or_len}
use Rattle.std.specs.Option.{option_or}
use Rattle.std.specs.Str.{IsUtf8, chars}
use Rattle.unicode_ident.specs.Ident.{is_xid_start, is_xid_continue}
use Rattle.nextest_elements.specs.Identifier.{ContinuesPart, HasOrganisationPart, HasToolParts, IsOrganisationIdentifier, IsToolIdentifier, Form, plain, of_organisation, of_tool, HasForm, IsIdentifier, are_part_characters, is_part, has_tool_prefix, tool_of, name_of, has_tool_form, has_organisation_prefix, organisation_name_of, has_organisation_form, form_of, is_identifier, StartsBadly, HasBadCharacter, HasPartFlaw, has_owner_prefix, HasFlaw}
use Rattle.nextest_elements.specs.declared.identifier.InvalidIdentifier.{InvalidIdentifier}
use Rattle.nextest_elements.specs.declared.identifier.InvalidIdentifier.TheVariants as causes
use Rattle.nextest_elements.proofs.IdentifierParts.{test_by_continues, IsPart-from_is_part, is_part-from_IsPart, colon, at_sign, lacks_byte, part_fills, before_colon, after_colon}

-- ---- identifiers of tools

-- a text with the prefix is the prefix and what follows it
prefix_then : (text : List ℕ) → has_tool_prefix text ≡ true → text ≡ codes "@tool:" ++ drop 6 text
prefix_then text h = (starts_is Decides-eqb text (codes "@tool:") _ refl).0 h

prefix_of : (text rest : List ℕ) → text ≡ codes "@tool:" ++ rest → has_tool_prefix text ≡ true
prefix_of text rest e = (starts_is Decides-eqb text (codes "@tool:") _ refl).1 rest e

-- a text that begins with an at sign is not a part
at_sign_is_no_part : (text : List ℕ) → get_or text 0 0 ≡ 64 → is_part text ≡ false
at_sign_is_no_part text h =
    false_from_ne_true (is_part text) (λ part.
    lacks_byte 64 at_sign text (IsPart-from_is_part text part) 0 (part_fills text (IsPart-from_is_part text part)) h)

-- A text with the prefix of tools is not a part.
pub prefix_is_no_part : (text : List ℕ) → has_tool_prefix text ≡ true → is_part text ≡ false
prefix_is_no_part text h = at_sign_is_no_part text (ap (λ t. get_or t 0 0) (prefix_then text h))

regroup : (tool name : List ℕ) → codes "@tool:" ++ tool ++ codes ":" ++ name ≡ codes "@tool:" ++ (tool ++ 58 ∷ name)
regroup tool name = append_assoc (codes "@tool:" ++ tool) (codes ":") name
    ∙ append_assoc (codes "@tool:") tool (58 ∷ name)

-- What a tool's identifier is after its prefix.
after_prefix : (text tool name : List ℕ) → HasToolParts text tool name → drop 6 text ≡ tool ++ 58 ∷ name
after_prefix text tool name parts = ap (λ t. drop 6 t) (parts.spelled ∙ regroup tool name)

-- The parts of a tool's identifier are what is around the first colon after the prefix.
pub tool_of_parts : (text tool name : List ℕ) → HasToolParts text tool name → tool_of text ≡ tool
tool_of_parts text tool name parts =
    ap (λ t. before_first (λ b. eqb b 58) t) (after_prefix text tool name parts)
    ∙ before_colon tool name (lacks_byte 58 colon tool parts.tool_is_part)

pub name_of_parts : (text tool name : List ℕ) → HasToolParts text tool name → name_of text ≡ name
name_of_parts text tool name parts =
    ap (λ t. after_first (λ b. eqb b 58) t) (after_prefix text tool name parts)
    ∙ after_colon tool name (lacks_byte 58 colon tool parts.tool_is_part)

empty_is_no_part : is_part [] ≡ false
empty_is_no_part = false_from_ne_true (is_part [])
    (λ part. let fills : 0 < 0 = part_fills [] (IsPart-from_is_part [] part) in omega (arith, fills))

no_colon_no_name : (text : List ℕ) → length (drop 6 text) ≤ position_or_len (λ b. eqb b 58) (drop 6 text)
    → is_part (name_of text) ≡ false
no_colon_no_name text past =
    let none : name_of text ≡ [] =
    drop_all (position_or_len (λ b. eqb b 58) (drop 6 text) + 1) (drop 6 text) (omega arith) in
    subst (λ t. is_part t ≡ false) (sym none) empty_is_no_part

-- a text of a tool's form is not a part
tool_form_is_no_part : (text : List ℕ) → has_tool_form text ≡ true → is_part text ≡ false
tool_form_is_no_part text h = prefix_is_no_part text (and_parts (has_tool_prefix text) _ h).0

tool_parts_by_form : (text : List ℕ) → has_tool_form text ≡ true → HasToolParts text (tool_of text) (name_of text)
tool_parts_by_form text h =
    let prefixed = and_parts (has_tool_prefix text) _ h in
    let parts = and_parts (is_part (tool_of text)) (is_part (name_of text)) prefixed.1 in
    let at : ℕ = position_or_len (λ b. eqb b 58) (drop 6 text) in
    let inside : at < length (drop 6 text) =
    ⊎_elim (λ l. l) (λ past. absurd (false≢true (sym (no_colon_no_name text past) ∙ parts.1)))
    (cases_lt at (length (drop 6 text))) in
    let colon_at : get_or (drop 6 text) at 0 ≡ 58 =
    eqb-true _ 58 (passes_at_first (λ b. eqb b 58) (drop 6 text) 0 inside) in
    let split : drop 6 text ≡ tool_of text ++ 58 ∷ name_of text =
    subst (λ b. drop 6 text ≡ tool_of text ++ b ∷ name_of text) colon_at
    (split_at_first (λ b. eqb b 58) (drop 6 text) 0 inside) in
    record {
      spelled = prefix_then text prefixed.0 ∙ ap (λ t. codes "@tool:" ++ t) split
          ∙ sym (regroup (tool_of text) (name_of text));
      tool_is_part = IsPart-from_is_part (tool_of text) parts.0;
      name_is_part = IsPart-from_is_part (name_of text) parts.1;
    }

form_by_tool_parts : (text tool name : List ℕ) → HasToolParts text tool name → has_tool_form text ≡ true
form_by_tool_parts text tool name parts =
    and_from (has_tool_prefix text) _ (prefix_of text (tool ++ 58 ∷ name) (parts.spelled ∙ regroup tool name))
    (and_from (is_part (tool_of text)) _
    (subst (λ t. is_part t ≡ true) (sym (tool_of_parts text tool name parts))
    (is_part-from_IsPart tool parts.tool_is_part))
    (subst (λ t. is_part t ≡ true) (sym (name_of_parts text tool name parts))
    (is_part-from_IsPart name parts.name_is_part)))

-- A text has a tool's form exactly if it is a tool's identifier.
pub tool_form_law : (text : List ℕ) → IsTrue (has_tool_form text) ↔ IsToolIdentifier text
tool_form_law text = (
  λ h. (tool_of text, name_of text, tool_parts_by_form text h),
  λ tool. form_by_tool_parts
      text tool.0 tool.1 tool.2,
)

-- ---- identifiers of the organisation

-- a text with the prefix is the prefix and what follows it
organisation_prefix_then : (text : List ℕ) → has_organisation_prefix text ≡ true → text ≡ codes "@org:" ++ drop 5 text
organisation_prefix_then text h = (starts_is Decides-eqb text (codes "@org:") _ refl).0 h

organisation_prefix_of : (text rest : List ℕ) → text ≡ codes "@org:" ++ rest → has_organisation_prefix text ≡ true
organisation_prefix_of text rest e = (starts_is Decides-eqb text (codes "@org:") _ refl).1 rest e

-- A text with the prefix of the organisation is not a part.
pub organisation_prefix_is_no_part : (text : List ℕ) → has_organisation_prefix text ≡ true → is_part text ≡ false
organisation_prefix_is_no_part text h =
    at_sign_is_no_part text (ap (λ t. get_or t 0 0) (organisation_prefix_then text h))

-- no text has both prefixes: their second bytes differ
one_prefix : (text : List ℕ) → has_tool_prefix text ≡ true → has_organisation_prefix text ≡ false
one_prefix text tool =
    false_from_ne_true (has_organisation_prefix text) (λ organisation.
    let t : get_or text 1 0 ≡ 116 = ap (λ t. get_or t 1 0) (prefix_then text tool) in
    let o : get_or text 1 0 ≡ 111 = ap (λ t. get_or t 1 0) (organisation_prefix_then text organisation) in
    omega (arith, t, o))

-- a text of the organisation's form is not a part
organisation_form_is_no_part : (text : List ℕ) → has_organisation_form text ≡ true → is_part text ≡ false
organisation_form_is_no_part text h =
    organisation_prefix_is_no_part text (and_parts (has_organisation_prefix text) _ h).0

-- a text of a tool's form is none of the organisation's
one_form : (text : List ℕ) → has_tool_form text ≡ true → has_organisation_form text ≡ false
one_form text h = ap (λ b. b && is_part (organisation_name_of text))
    (one_prefix text (and_parts (has_tool_prefix text) _ h).0)

-- What follows the prefix of the organisation's identifier is its name.
pub organisation_name_of_part : (text name : List ℕ) → HasOrganisationPart text name → organisation_name_of text ≡ name
organisation_name_of_part text name part = ap (λ t. drop 5 t) part.spelled

organisation_part_by_form : (text : List ℕ) → has_organisation_form text ≡ true
    → HasOrganisationPart text (organisation_name_of text)
organisation_part_by_form text h =
    let parts = and_parts (has_organisation_prefix text) _ h in
    record {
      spelled = organisation_prefix_then text parts.0;
      name_is_part =
          IsPart-from_is_part (organisation_name_of text) parts.1;
    }

form_by_organisation_part : (text name : List ℕ) → HasOrganisationPart text name → has_organisation_form text ≡ true
form_by_organisation_part text name part =
    and_from (has_organisation_prefix text) _ (organisation_prefix_of text name part.spelled)
    (subst (λ t. is_part t ≡ true) (sym (organisation_name_of_part text name part))
    (is_part-from_IsPart name part.name_is_part))

-- A text has the organisation's form exactly if it is an identifier of the organisation.
pub organisation_form_law : (text : List ℕ) → IsTrue (has_organisation_form text) ↔ IsOrganisationIdentifier text
organisation_form_law text = (
  λ h. (organisation_name_of text, organisation_part_by_form text h),
  λ found. form_by_organisation_part
      text found.0 found.1,
)

-- ---- the form of a text

-- the form of a text by three tests: that it is a part, an identifier of the organisation, and one of a tool
abbrev form_by : Bool → Bool → Bool → (o tool name : List ℕ) → Option Form
form_by part organisation tool o t n =
    option_or (if part then Some plain else None)
    (option_or (if organisation then Some (of_organisation o) else None) (if tool then Some (of_tool t n) else None))

by_some_form : (part organisation tool : Bool) (o t n : List ℕ)
    → is_some (form_by part organisation tool o t n) ≡ (part || (organisation || tool))
by_some_form true organisation tool o t n = refl
by_some_form false true tool o t n = refl
by_some_form false false true o t n = refl
by_some_form false false false o t n = refl

identifier_test : (text : List ℕ)
    → is_identifier text ≡ (is_part text || (has_organisation_form text || has_tool_form text))
unfolding is_identifier form_of
identifier_test text = by_some_form (is_part text) (has_organisation_form text) (has_tool_form text)
    (organisation_name_of text) (tool_of text) (name_of text)

form_at : (text : List ℕ) (form : Form) (part organisation tool : Bool) → is_part text ≡ part
    → has_organisation_form text ≡ organisation → has_tool_form text ≡ tool
    → form_by part organisation tool (organisation_name_of text) (tool_of text) (name_of text) ≡ Some form
    → HasForm text form
form_at text form true organisation tool is_plain is_organisation is_tool h =
    let same : plain ≡ form = cc in
    subst (λ f. HasForm text f) same (IsPart-from_is_part text is_plain)
form_at text form false true tool is_plain is_organisation is_tool h =
    let same : of_organisation (organisation_name_of text) ≡ form = cc in
    subst (λ f. HasForm text f) same (organisation_part_by_form text is_organisation)
form_at text form false false true is_plain is_organisation is_tool h =
    let same : of_tool (tool_of text) (name_of text) ≡ form = cc in
    subst (λ f. HasForm text f) same (tool_parts_by_form text is_tool)
form_at text form false false false is_plain is_organisation is_tool h = cc

-- The form of a text is one that it has.
pub form_to : (text : List ℕ) (form : Form) → form_of text ≡ Some form → HasForm text form
unfolding form_of
form_to text form h = form_at text form (is_part text) (has_organisation_form text) (has_tool_form text) refl
    refl refl h

-- A form that a text has is its form.
pub form_from : (text : List ℕ) (form : Form) → HasForm text form → form_of text ≡ Some form
unfolding form_of
form_from text plain part =
    ap (λ b. form_by b (has_organisation_form text) (has_tool_form text) (organisation_name_of text)
    (tool_of text) (name_of text)) (is_part-from_IsPart text part)
form_from text (of_organisation name) part =
    let is : has_organisation_form text ≡ true = form_by_organisation_part text name part in
    ap (λ b. form_by b (has_organisation_form text) (has_tool_form text) (organisation_name_of text)
    (tool_of text) (name_of text)) (organisation_form_is_no_part text is)
    ∙ ap (λ b. form_by false b (has_tool_form text) (organisation_name_of text) (tool_of text) (name_of text)) is
    ∙ ap (λ o. Some (of_organisation o)) (organisation_name_of_part text name part)
form_from text (of_tool tool name) parts =
    let is : has_tool_form text ≡ true = form_by_tool_parts text tool name parts in
    ap (λ b. form_by b (has_organisation_form text) (has_tool_form text) (organisation_name_of text)
    (tool_of text) (name_of text)) (tool_form_is_no_part text is)
    ∙ ap (λ b. form_by false b (has_tool_form text) (organisation_name_of text) (tool_of text) (name_of text))
    (one_form text is)
    ∙ ap (λ b. form_by false false b (organisation_name_of text) (tool_of text) (name_of text)) is
    ∙ ap (λ t. Some (of_tool t (name_of text))) (tool_of_parts text tool name parts)
    ∙ ap (λ n. Some (of_tool tool n)) (name_of_parts text tool name parts)

-- A text passes the test of identifiers exactly if it is one.
pub is_identifier_law : (text : List ℕ) → IsTrue (is_identifier text) ↔ IsIdentifier text
unfolding is_identifier
is_identifier_law text = (
  λ h. some_form (form_of text) refl h,
  λ identifier. ap (λ f. is_some f)
      (form_from text identifier.0 identifier.1),
)
  where
    some_form : (form : Option Form) → form_of text ≡ form → IsTrue (is_some form) → IsIdentifier text
    some_form (Some form) is h = (form, form_to text form is)
    some_form None is h = absurd (false≢true h)

-- ---- what the code finds

-- Without a prefix only a part is an identifier.
pub plain_identifier : (text : List ℕ) → has_tool_prefix text ≡ false → has_organisation_prefix text ≡ false
    → is_part text ≡ is_identifier text
plain_identifier text tool organisation =
    sym (identifier_test text
    ∙ ap (λ b. is_part text || ((b && is_part (organisation_name_of text)) || has_tool_form text)) organisation
    ∙ ap (λ b. is_part text || (b && (is_part (tool_of text) && is_part (name_of text)))) tool
    ∙ or-false (is_part text))

-- With that of tools only a text of a tool's form is one.
pub tool_prefixed_identifier : (text : List ℕ) → has_tool_prefix text ≡ true → has_tool_form text ≡ is_identifier text
tool_prefixed_identifier text h =
    sym (identifier_test text
    ∙ ap (λ b. b || (has_organisation_form text || has_tool_form text)) (prefix_is_no_part text h)
    ∙ ap (λ b. (b && is_part (organisation_name_of text)) || has_tool_form text) (one_prefix text h))

-- With that of the organisation only a text of its form is one.
pub organisation_prefixed_identifier : (text : List ℕ) → has_tool_prefix text ≡ false
    → has_organisation_prefix text ≡ true → has_organisation_form text ≡ is_identifier text
organisation_prefixed_identifier text tool h =
    sym (identifier_test text
    ∙ ap (λ b. b || (has_organisation_form text || has_tool_form text)) (organisation_prefix_is_no_part text h)
    ∙ ap (λ b. has_organisation_form text || (b && (is_part (tool_of text) && is_part (name_of text)))) tool
    ∙ or-false (has_organisation_form text))

-- With the prefix of tools, what is around the colon says whether it is one of a tool.
pub tool_form_by_parts : (text : List ℕ) → has_tool_prefix text ≡ true
    → (is_part (tool_of text) && is_part (name_of text)) ≡ has_tool_form text
tool_form_by_parts text h = sym (ap (λ b. b && (is_part (tool_of text) && is_part (name_of text))) h)

-- With it and no colon a text is not a tool's identifier.
pub unsplit_tool_form : (text : List ℕ)
    → (IsTrue (has_tool_prefix text) → position_or_len (λ b. eqb b 58) (drop 6 text) ≡ length (drop 6 text))
    → false ≡ has_tool_form text
unsplit_tool_form text e =
    sym (false_from_ne_true (has_tool_form text) (λ h.
    let prefixed = and_parts (has_tool_prefix text) _ h in
    let parts = and_parts (is_part (tool_of text)) (is_part (name_of text)) prefixed.1 in
    false≢true (sym (no_colon_no_name text (let same = e prefixed.0 in omega (arith, same))) ∙ parts.1)))

-- What follows the prefix of the organisation says whether the text is one of it.
pub organisation_form_by_part : (text : List ℕ) → has_organisation_prefix text ≡ true
    → is_part (organisation_name_of text) ≡ has_organisation_form text
organisation_form_by_part text h = sym (ap (λ b. b && is_part (organisation_name_of text)) h)

-- Without it the text is none.
pub unsplit_organisation_form : (text : List ℕ) → has_organisation_prefix text ≡ false
    → false ≡ has_organisation_form text
unsplit_organisation_form text h = sym (ap (λ b. b && is_part (organisation_name_of text)) h)

-- A text's characters say whether it is a part.
pub part_by_characters : (text cs : List ℕ) → IsUtf8 text → chars text ≡ cs → are_part_characters cs ≡ is_part text
unfolding is_part
part_by_characters text cs utf8 e =
    sym (ap (λ b. b && are_part_characters (chars text)) (is_utf8-from_IsUtf8 text utf8) ∙ ap are_part_characters e)

-- A text with no character is not a part.
pub empty_no_part : (text : List ℕ) → length text ≡ 0 → false ≡ is_part text
empty_no_part text e = sym
    (false_from_ne_true (is_part text)
    (λ part. let fills : 0 < length text = part_fills text (IsPart-from_is_part text part) in omega (arith, fills)))

-- After a first character that may begin a part, the others decide.
pub part_after_first : (text rest : List ℕ) (first : ℕ) → IsUtf8 text → text ≡ encode_utf8 first ++ rest
    → (is_xid_start first && list_all (λ c. is_xid_continue c || eqb c 45) (chars rest)) ≡ is_part text
part_after_first text rest first utf8 e =
    part_by_characters text (first ∷ chars rest) utf8 (chars_past_char text rest first utf8 e)

-- A tool's identifier begins with the prefix, and a colon follows.
tool_identifier_splits : (text : List ℕ) → IsToolIdentifier text
    → (has_tool_prefix text ≡ true) × (position_or_len (λ b. eqb b 58) (drop 6 text) < length (drop 6 text))
tool_identifier_splits text tool =
    let prefixed = and_parts (has_tool_prefix text) _ (form_by_tool_parts text tool.0 tool.1 tool.2) in
    let parts = and_parts (is_part (tool_of text)) (is_part (name_of text)) prefixed.1 in (
      prefixed.0,
      ⊎_elim (λ l. l) (λ past. absurd (false≢true (sym (no_colon_no_name text past) ∙ parts.1)))
          (cases_lt (position_or_len (λ b. eqb b 58) (drop 6 text)) (length (drop 6 text))),
    )

parts_of_prefixed : (text : List ℕ) → IsIdentifier text → has_tool_prefix text ≡ true
    → HasToolParts text (tool_of text) (name_of text)
parts_of_prefixed text identifier prefix =
    tool_parts_by_form text (tool_prefixed_identifier text prefix ∙ (is_identifier_law text).1 identifier)

-- Where nothing is split off, the text is not a tool's identifier.
pub unsplit_is_no_tool : (text : List ℕ) (r : Option (Bor (List ℕ) × Bor (List ℕ)))
    → IfNone r (IsTrue (has_tool_prefix text)
    → position_or_len (λ b. eqb b 58) (drop 6 text) ≡ length (drop 6 text)) → IfNone r (¬ IsToolIdentifier text)
unsplit_is_no_tool text None none = λ tool. let splits = tool_identifier_splits text tool in
    omega (arith, none splits.0, splits.1)
unsplit_is_no_tool text (Some parts) none = none

-- What is split off an identifier is its parts.
pub split_is_parts : (text : List ℕ) (r : Option (Bor (List ℕ) × Bor (List ℕ))) → IsIdentifier text
    → IfSome r (λ _. IsTrue (has_tool_prefix text))
    → IfSome r (λ parts. parts.0.now ≡ tool_of text) → IfSome r (λ parts. parts.1.now ≡ name_of text)
    → IfSome r (λ parts. HasToolParts text parts.0.now parts.1.now)
split_is_parts text None identifier prefix tool name = prefix
split_is_parts text (Some parts) identifier prefix tool name =
    subst (λ t. HasToolParts text t parts.1.now) (sym tool)
    (subst (λ n. HasToolParts text (tool_of text) n) (sym name) (parts_of_prefixed text identifier prefix))

-- Where nothing is split off behind the prefix of the organisation, the text is not an identifier of it.
pub unsplit_is_no_organisation : (text : List ℕ) (r : Option (Bor (List ℕ)))
    → IfNone r (has_organisation_prefix text ≡ false) → IfNone r (¬ IsOrganisationIdentifier text)
unsplit_is_no_organisation text None none =
    λ found. false≢true (unsplit_organisation_form text none ∙ (organisation_form_law text).1 found)
unsplit_is_no_organisation text (Some name) none = none

-- What is split off an identifier is the name of the organisation.
pub split_is_name : (text : List ℕ) (r : Option (Bor (List ℕ))) → IsIdentifier text
    → IfSome r (λ _. IsTrue (has_organisation_prefix text))
    → IfSome r (λ name. name.now ≡ organisation_name_of text) → IfSome r (λ name. HasOrganisationPart text name.now)
split_is_name text None identifier prefix name = prefix
split_is_name text (Some part) identifier prefix name =
    subst (λ n. HasOrganisationPart text n) (sym name)
    (organisation_part_by_form text (by_prefix (has_tool_prefix text) refl))
  where
    by_prefix : (tool : Bool) → has_tool_prefix text ≡ tool → has_organisation_form text ≡ true
    by_prefix true is = absurd (false≢true (sym (one_prefix text is) ∙ prefix))
    by_prefix false is = organisation_prefixed_identifier text is prefix ∙ (is_identifier_law text).1 identifier

-- No identifier of the organisation is one of a tool.
pub organisation_is_no_tool : (text : List ℕ) → IsOrganisationIdentifier text → ¬ IsToolIdentifier text
organisation_is_no_tool text found tool =
    false≢true (sym (one_form text ((tool_form_law text).1 tool)) ∙ (organisation_form_law text).1 found)

-- ---- flaws

-- Where not all characters continue a part, one of them does not.
pub bad_character_among : (cs : List ℕ) → list_all (λ c. is_xid_continue c || eqb c 45) cs ≡ false
    → (c : ℕ) × Contains cs c × (¬ ContinuesPart c)
bad_character_among [] h = absurd (false≢true (sym h))
bad_character_among (c ∷ cs) h =
    let test : ℕ → Bool = λ d. is_xid_continue d || eqb d 45 in
    elim (cases_Bool (test c)) [
      | inl good ↦
          let rest = bad_character_among cs (sym (ap (λ b. b && list_all test cs) good) ∙ h) in
          (rest.0, (rest.1.0 + 1, omega (arith, rest.1.1), simp unary_clauses rest.1.2), rest.2)
      | inr bad ↦ (c, (0, omega arith, refl), λ continues. false≢true (sym bad ∙ test_by_continues c continues))
    ]

-- A text whose first character may not begin a part starts badly.
pub starts_badly : (text rest : List ℕ) (first : ℕ) → IsUtf8 text → text ≡ encode_utf8 first ++ rest
    → is_xid_start first ≡ false → StartsBadly text
starts_badly text rest first utf8 e h =
    record { first = first; others = chars rest; spelled = chars_past_char text rest first utf8 e; no_start = h }

-- A text has a bad character where not all after the first continue a part.
pub has_bad_character : (text rest : List ℕ) (first : ℕ) → IsUtf8 text → text ≡ encode_utf8 first ++ rest
    → list_all (λ c. is_xid_continue c || eqb c 45) (chars rest) ≡ false → HasBadCharacter text
has_bad_character text rest first utf8 e h =
    let bad = bad_character_among (chars rest) h in
    record {
      first = first;
      others = chars rest;
      character = bad.0;
      spelled = chars_past_char text rest first utf8 e;
      stands = bad.1;
      no_continue = bad.2;
    }

-- What keeps a text without a prefix from being a part keeps it from being an identifier.
pub flaw_of_part : (text : List ℕ) (cause : InvalidIdentifier) → has_owner_prefix text ≡ false
    → HasPartFlaw text cause → HasFlaw text cause
flaw_of_part text causes.Empty unprefixed flaw = (unprefixed, flaw)
flaw_of_part text causes.BadStart unprefixed flaw = (unprefixed, flaw)
flaw_of_part text causes.BadCharacter unprefixed flaw = (unprefixed, flaw)
flaw_of_part text causes.BadToolForm unprefixed flaw = absurd flaw
flaw_of_part text causes.BadOrganisationForm unprefixed flaw = absurd flaw
flaw_of_part text causes.Memory unprefixed flaw = absurd flaw

-- The same of what a test answers.
pub flaws_of_part : {X : Type 0} (text : List ℕ) (r : Result X InvalidIdentifier) → has_owner_prefix text ≡ false
    → IfErr r (HasPartFlaw text) → IfErr r (HasFlaw text)
flaws_of_part text (Ok x) unprefixed flaw = flaw
flaws_of_part text (Err e) unprefixed flaw = flaw_of_part text e unprefixed flaw

-- A refusal of a text with the prefix of tools tells that it is not a tool's identifier.
pub flaws_of_tool_form : {X : Type 0} (text : List ℕ) (r : Result X InvalidIdentifier)
    → has_tool_prefix text ≡ true → is_ok r ≡ has_tool_form text
    → IfErr r (λ e. e ≡ causes.BadToolForm) → IfErr r (HasFlaw text)
flaws_of_tool_form text (Ok x) prefix verdict cause = cause
flaws_of_tool_form text (Err e) prefix verdict cause =
    subst (HasFlaw text) (sym cause) (prefix, λ tool. false≢true (verdict ∙ (tool_form_law text).1 tool))

-- A refusal of a text with the prefix of the organisation tells that it is not an identifier of it.
pub flaws_of_organisation_form : {X : Type 0} (text : List ℕ) (r : Result X InvalidIdentifier)
    → has_organisation_prefix text ≡ true → is_ok r ≡ has_organisation_form text
    → IfErr r (λ e. e ≡ causes.BadOrganisationForm) → IfErr r (HasFlaw text)
flaws_of_organisation_form text (Ok x) prefix verdict cause = cause
flaws_of_organisation_form text (Err e) prefix verdict cause =
    subst (HasFlaw text) (sym cause) (prefix, λ found. false≢true (verdict ∙ (organisation_form_law text).1 found))

-- A refusal for one of these causes is not one of memory.
pub not_memory : {X : Type 0} (cause : InvalidIdentifier) (r : Result X InvalidIdentifier)
    → (causes.Memory ≡ cause → ⊥) → IfErr r (λ e. e ≡ cause) → r ≢ Err causes.Memory
not_memory cause (Ok x) differs is same = cc
not_memory cause (Err e) differs is same = differs (let memory : causes.Memory ≡ e = cc in memory ∙ is)
