-- A text and a regex are read exactly if they are spelled.
use Rattle.std.proofs.Common.{◌≡◌, ◌≢◌, ◌<◌, ◌+◌, ℕ, zero, suc, true, false, List, [], ◌∷◌, ◌++◌, Option, None, Some, Result, Ok, Err, length, codes, refl, sym, ◌∙◌, ap, subst, arith, inl, inr, append_assoc, append-nil, length-append}
use Rattle.std.proofs.lemmas.Bool.Decides.{eqb_tells}
use Rattle.std.specs.List.{list_all}
use Rattle.std.specs.Char.{char_set_contains, encode_utf8}
use Rattle.filter_language.specs.Texts.{after_prefix, skipped, front_until, rest_until}
use Rattle.filter_language.specs.Places.{Misreading}
use Rattle.filter_language.specs.Arguments.{Turn, escape_in, escaped_turn, backslash_turn, text_turn, bare_turn, slash_turn, regex_turn, behind_turn, body_within, body_in, Body, filled, text_in, closed_regex, slashed, regex_in}
use Rattle.filter_language.specs.Writing.{is_none_of, SpellsEscape, SpellsText, no_text, plain, escaped, SpellsRegex, closing, escaped_slash, bare, SpellsFilled}
use Rattle.filter_language.proofs.PartsOfTexts.{after_is}
use Rattle.filter_language.proofs.Spelled.{both_true, not_true, parts, front_is_none, end_stays}
use Rattle.filter_language.proofs.Escapes.{escape_read, escape_spelled}

abbrev text_stops : List ℕ
text_stops = codes ",)\\"

abbrev regex_stops : List ℕ
regex_stops = codes "/\\"

-- What is spelled is read.

-- A byte that stops nothing counts to what was read before.
text_shift : (n : ℕ) (before : List ℕ) (c : ℕ) (rest : List ℕ) → is_none_of text_stops c ≡ true
    → body_within text_turn (suc n) before (c ∷ rest) ≡ body_within text_turn (suc n) (before ++ c ∷ []) rest
text_shift n before c rest none = ap (behind_turn (body_within text_turn n)) turn
  where
    turn : text_turn before (c ∷ rest) ≡ text_turn (before ++ c ∷ []) rest
    turn = rw (not_true (char_set_contains text_stops c) none)
        (ap (λ l. backslash_turn l (rest_until text_stops rest)
        (after_prefix (codes "\\") (rest_until text_stops rest)))
        (sym (append_assoc before (c ∷ []) (front_until text_stops rest))))

regex_shift : (n : ℕ) (before : List ℕ) (c : ℕ) (rest : List ℕ) → char_set_contains regex_stops c ≡ false
    → body_within regex_turn (suc n) before (c ∷ rest) ≡ body_within regex_turn (suc n) (before ++ c ∷ []) rest
regex_shift n before c rest none = ap (behind_turn (body_within regex_turn n)) turn
  where
    turn : regex_turn before (c ∷ rest) ≡ regex_turn (before ++ c ∷ []) rest
    turn = rw none
        (ap (λ l. slash_turn l (rest_until regex_stops rest)
        (after_prefix (codes "\\/") (rest_until regex_stops rest)))
        (sym (append_assoc before (c ∷ []) (front_until regex_stops rest))))

-- Three parts behind one another.
joined_parts : (before middle bytes : List ℕ) → ((before ++ []) ++ middle) ++ bytes ≡ before ++ (middle ++ bytes)
joined_parts before middle bytes =
    append_assoc (before ++ []) middle bytes ∙ ap (λ l. l ++ (middle ++ bytes)) (append-nil before)

shorter : (escape text rest : List ℕ) (n : ℕ) → length (92 ∷ ((escape ++ text) ++ rest)) < suc n
    → length (text ++ rest) < n
shorter escape text rest n less =
    let size : length ((escape ++ text) ++ rest) ≡ length escape + length (text ++ rest) =
    ap length (append_assoc escape text rest) ∙ length-append escape (text ++ rest) in
    omega (arith, less, size)

text_read : (bytes text : List ℕ) → SpellsText bytes text → (n : ℕ) (before rest : List ℕ)
    → length (text ++ (41 ∷ rest)) < n
    → body_within text_turn n before (text ++ (41 ∷ rest)) ≡ Ok (before ++ bytes, 41 ∷ rest)
text_read bytes text spells zero before rest less = absurd (omega (arith, less))
text_read bytes text no_text (suc n) before rest less = refl
text_read bytes text (plain c bs t none spells) (suc n) before rest less =
    text_shift n before c (t ++ (41 ∷ rest)) none
    ∙ text_read bs t spells (suc n) (before ++ c ∷ []) rest (omega (arith, less))
    ∙ ap (λ l. Ok (l, 41 ∷ rest)) (append_assoc before (c ∷ []) bs)
text_read bytes text (escaped c escape bs t is spells) (suc n) before rest less =
    let behind = (escape ++ t) ++ (41 ∷ rest) in
    let found : escape_in behind ≡ Some (c, t ++ (41 ∷ rest)) =
    ap escape_in (append_assoc escape t (41 ∷ rest)) ∙ escape_read c escape (t ++ (41 ∷ rest)) is in
    ap (λ f. behind_turn (body_within text_turn n) (escaped_turn (before ++ []) (92 ∷ behind) behind f)) found
    ∙ text_read bs t spells n ((before ++ []) ++ encode_utf8 c) rest (shorter escape t (41 ∷ rest) n less)
    ∙ ap (λ l. Ok (l, 41 ∷ rest)) (joined_parts before (encode_utf8 c) bs)

-- A regex of some bytes does not begin with its closing `/`.
no_slash : (bytes text rest : List ℕ) → SpellsRegex bytes text → bytes ≢ []
    → after_prefix (codes "/") (text ++ rest) ≡ None
no_slash bytes text rest closing some = absurd (some refl)
no_slash bytes text rest (escaped_slash bs t spells) some = refl
no_slash bytes text rest (bare c bs t other last spells) some = elim (eqb_tells 47 c) [
  | inl same ↦ absurd (other (sym same.1))
  | inr it ↦ rw it.0 refl
]

past_backslash : (n : ℕ) (before rest : List ℕ) → after_prefix (codes "/") rest ≡ None
    → body_within regex_turn (suc n) before (92 ∷ rest) ≡ body_within regex_turn n ((before ++ []) ++ codes "\\") rest
past_backslash n before rest none =
    ap (λ f. behind_turn (body_within regex_turn n) (slash_turn (before ++ []) (92 ∷ rest) f)) none

no_stop : (c : ℕ) → c ≢ 47 → c ≢ 92 → char_set_contains regex_stops c ≡ false
no_stop c x y = elim (eqb_tells 47 c) [
  | inl same ↦ absurd (x (sym same.1))
  | inr it ↦ elim (eqb_tells 92 c) [ inl same ↦ absurd (y (sym same.1)) | inr also ↦ rw (it.0, also.0) refl ]
]

regex_read : (bytes text : List ℕ) → SpellsRegex bytes text → (n : ℕ) (before rest : List ℕ)
    → length (text ++ rest) < n
    → body_within regex_turn n before (text ++ rest) ≡ Ok (before ++ bytes, 47 ∷ rest)
regex_read bytes text spells zero before rest less = absurd (omega (arith, less))
regex_read bytes text closing (suc n) before rest less = refl
regex_read bytes text (escaped_slash bs t spells) (suc n) before rest less =
    regex_read bs t spells n ((before ++ []) ++ codes "/") rest (omega (arith, less))
    ∙ ap (λ l. Ok (l, 47 ∷ rest)) (joined_parts before (codes "/") bs)
regex_read bytes text (bare c bs t other last spells) (suc n) before rest less = elim (eqb_tells 92 c) [
  | inl same ↦
      ap (λ d. body_within regex_turn (suc n) before (d ∷ (t ++ rest))) (sym same.1)
      ∙ past_backslash n before (t ++ rest) (no_slash bs t rest spells (last (sym same.1)))
      ∙ regex_read bs t spells n ((before ++ []) ++ codes "\\") rest (omega (arith, less))
      ∙ ap (λ l. Ok (l, 47 ∷ rest)) (joined_parts before (codes "\\") bs)
      ∙ ap (λ d. Ok (before ++ (d ∷ bs), 47 ∷ rest)) same.1
  | inr it ↦
      regex_shift n before c (t ++ rest) (no_stop c other (λ e. it.1 (sym e)))
      ∙ regex_read bs t spells (suc n) (before ++ c ∷ []) rest (omega (arith, less))
      ∙ ap (λ l. Ok (l, 47 ∷ rest)) (append_assoc before (c ∷ []) bs)
]

filled_ok : (bytes end : List ℕ) → bytes ≢ []
    → filled (Ok (bytes, end)) ≡ Ok (record { bytes = bytes; end = end; behind = end })
filled_ok [] end some = absurd (some refl)
filled_ok (c ∷ bytes) end some = refl

pub text_in_read : (bytes text rest : List ℕ) → SpellsFilled bytes text
    → text_in (text ++ (41 ∷ rest)) ≡ Ok (record { bytes = bytes; end = 41 ∷ rest; behind = 41 ∷ rest })
unfolding body_in
text_in_read bytes text rest is =
    ap filled (text_read bytes text is.1 (suc (length (text ++ (41 ∷ rest)))) [] rest (omega arith))
    ∙ filled_ok bytes (41 ∷ rest) is.0

pub regex_in_read : (bytes text rest : List ℕ) → SpellsRegex bytes text
    → regex_in (text ++ rest) ≡ Ok (record { bytes = bytes; end = 47 ∷ rest; behind = rest })
unfolding body_in
regex_in_read bytes text rest is =
    ap (slashed (text ++ rest)) (regex_read bytes text is (suc (length (text ++ rest))) [] rest (omega arith))

-- What is read is spelled.

plain_front : (front bytes text : List ℕ) → list_all (is_none_of text_stops) front ≡ true → SpellsText bytes text
    → SpellsText (front ++ bytes) (front ++ text)
plain_front [] bytes text none spells = spells
plain_front (c ∷ front) bytes text none spells =
    let it = both_true (is_none_of text_stops c) (list_all (is_none_of text_stops) front) none in
    plain c (front ++ bytes) (front ++ text) it.0 (plain_front front bytes text it.1 spells)

-- What was read in turns from a rest on, behind what was read before.
abbrev TextRead : List ℕ → List ℕ → List ℕ → List ℕ → Type 0
TextRead before rest bytes end = (more : List ℕ) × (text : List ℕ) × SpellsText more text
    × (bytes ≡ before ++ more) × (rest ≡ text ++ end) × (skipped end ≡ end)

abbrev whole_turn : ℕ → Result Turn Misreading → Result (List ℕ × List ℕ) Misreading
whole_turn n turn = behind_turn (body_within text_turn n) turn

ended_text : (before rest bytes end : List ℕ)
    → ◌≡◌ {A = List ℕ × List ℕ} (before ++ front_until text_stops rest, rest_until text_stops rest) (bytes, end)
    → TextRead before rest bytes end
ended_text before rest bytes end pair =
    let read : before ++ front_until text_stops rest ≡ bytes = ap (λ (x : List ℕ × List ℕ). x.0) pair in
    let behind : rest_until text_stops rest ≡ end = ap (λ (x : List ℕ × List ℕ). x.1) pair in
    let front = front_until text_stops rest in (
      front ++ [],
      front ++ [],
      plain_front front [] [] (front_is_none text_stops rest) no_text,
      sym read ∙ ap (λ l. before ++ l) (sym (append-nil front)),
      parts text_stops rest ∙ ap (λ l. l ++ rest_until text_stops rest) (sym (append-nil front))
          ∙ ap (λ l. (front ++ []) ++ l) behind,
      ap skipped (sym behind) ∙ end_stays rest ∙ behind,
    )

-- Behind an escape.
past_escape : (before front rest bytes end : List ℕ) (c : ℕ) (escape r : List ℕ)
    → list_all (is_none_of text_stops) front ≡ true → rest ≡ front ++ (92 ∷ (escape ++ r)) → SpellsEscape c escape
    → TextRead ((before ++ front) ++ encode_utf8 c) r bytes end → TextRead before rest bytes end
past_escape before front rest bytes end c escape r none split is (more, text, spells, read, whole, stay) = (
  front ++ (encode_utf8 c ++ more),
  front ++ (92 ∷ (escape ++ text)),
  plain_front front (encode_utf8 c ++ more) (92 ∷ (escape ++ text)) none (escaped c escape more text is spells),
  read ∙ append_assoc (before ++ front) (encode_utf8 c) more ∙ append_assoc before front (encode_utf8 c ++ more),
  split ∙ ap (λ l. front ++ (92 ∷ (escape ++ l))) whole
      ∙ ap (λ l. front ++ (92 ∷ l)) (sym (append_assoc escape text end))
      ∙ sym (append_assoc front (92 ∷ (escape ++ text)) end),
  stay,
)

behind_shorter : (front escape r rest : List ℕ) (n : ℕ) → rest ≡ front ++ (92 ∷ (escape ++ r)) → length rest < suc n
    → length r < n
behind_shorter front escape r rest n split less =
    let first : length rest ≡ length front + length (92 ∷ (escape ++ r)) =
    ap length split ∙ length-append front (92 ∷ (escape ++ r)) in
    let second : length (escape ++ r) ≡ length escape + length r = length-append escape r in
    omega (arith, less, first, second)

-- What more turns read is spelled.
abbrev TurnsSpell : ℕ → Type 0
TurnsSpell n = (before rest bytes end : List ℕ) → length rest < n
    → body_within text_turn n before rest ≡ Ok (bytes, end) → TextRead before rest bytes end

at_escape : (n : ℕ) → TurnsSpell n → (before rest bytes end behind : List ℕ) (found : Option (ℕ × List ℕ))
    → escape_in behind ≡ found → rest_until text_stops rest ≡ 92 ∷ behind → length rest < suc n
    → whole_turn n (escaped_turn (before ++ front_until text_stops rest) (rest_until text_stops rest) behind found)
    ≡ Ok (bytes, end)
    → TextRead before rest bytes end
at_escape n known before rest bytes end behind None is at less e = absurd (cc)
at_escape n known before rest bytes end behind (Some found) is at less e =
    let begins = escape_spelled behind found.0 found.1 is in
    let split : rest ≡ front_until text_stops rest ++ (92 ∷ (begins.0 ++ found.1)) =
    parts text_stops rest ∙ ap (λ l. front_until text_stops rest ++ l) (at ∙ ap (λ l. 92 ∷ l) begins.2) in
    past_escape before (front_until text_stops rest) rest bytes end found.0 begins.0 found.1
    (front_is_none text_stops rest) split begins.1
    (known ((before ++ front_until text_stops rest) ++ encode_utf8 found.0) found.1 bytes end
    (behind_shorter (front_until text_stops rest) begins.0 found.1 rest n split less) e)

at_turn : (n : ℕ) → TurnsSpell n → (before rest bytes end : List ℕ) (found : Option (List ℕ))
    → after_prefix (codes "\\") (rest_until text_stops rest) ≡ found → length rest < suc n
    → whole_turn n (backslash_turn (before ++ front_until text_stops rest) (rest_until text_stops rest) found)
    ≡ Ok (bytes, end)
    → TextRead before rest bytes end
at_turn n known before rest bytes end None is less e = ended_text before rest bytes end (cc)
at_turn n known before rest bytes end (Some behind) is less e =
    at_escape n known before rest bytes end behind (escape_in behind) refl
    (after_is (codes "\\") (rest_until text_stops rest) behind is) less e

turns_spell : (n : ℕ) → TurnsSpell n
turns_spell zero before rest bytes end less e = absurd (omega (arith, less))
turns_spell (suc n) before rest bytes end less e = at_turn n (turns_spell n) before rest bytes end _ refl less e

-- A body of a text and where it ends.
abbrev pub TextAt : List ℕ → Body → Type 0
TextAt start body = (text : List ℕ) × SpellsFilled body.bytes text × (start ≡ text ++ body.end)
    × (body.behind ≡ body.end) × (skipped body.end ≡ body.end)

from_filled : (start : List ℕ) (body : Body) (read : Result (List ℕ × List ℕ) Misreading)
    → ((bytes end : List ℕ) → read ≡ Ok (bytes, end) → TextRead [] start bytes end)
    → filled read ≡ Ok body → TextAt start body
from_filled start body (Ok ([], end)) known e = absurd (cc)
from_filled start body (Ok (c ∷ bytes, end)) known e =
    let it = known (c ∷ bytes) end refl in
    let same : record { bytes = c ∷ bytes; end = end; behind = end } ≡ body = cc in
    rw (← same) (it.1, ((λ no. absurd (cc)), subst (λ l. SpellsText l it.1) (sym it.3) it.2), it.4, refl, it.5)
from_filled start body (Err m) known e = absurd (cc)

pub text_in_spelled : (start : List ℕ) (body : Body) → text_in start ≡ Ok body → TextAt start body
unfolding body_in
text_in_spelled start body e =
    from_filled start body (body_in text_turn start)
    (λ bytes end is. turns_spell (suc (length start)) [] start bytes end (omega arith) is) e

-- The same of regexes, up to the closing `/`.
bytes_differ : (c : ℕ) → is_none_of regex_stops c ≡ true → (c ≢ 47) × (c ≢ 92)
bytes_differ c none = (
  λ e. (let clash : false ≡ true = rw e at none in cc),
  λ e. (let clash : false ≡ true = rw e at none in cc),
)

bare_front : (front bytes text : List ℕ) → list_all (is_none_of regex_stops) front ≡ true → SpellsRegex bytes text
    → SpellsRegex (front ++ bytes) (front ++ text)
bare_front [] bytes text none spells = spells
bare_front (c ∷ front) bytes text none spells =
    let it = both_true (is_none_of regex_stops c) (list_all (is_none_of regex_stops) front) none in
    let differ = bytes_differ c it.0 in
    bare c (front ++ bytes) (front ++ text) differ.0 (λ e. absurd (differ.1 e))
    (bare_front front bytes text it.1 spells)

abbrev RegexRead : List ℕ → List ℕ → List ℕ → List ℕ → Type 0
RegexRead before rest bytes behind = (more : List ℕ) × (text : List ℕ) × SpellsRegex more text
    × (bytes ≡ before ++ more) × (rest ≡ text ++ behind)

ended_regex : (before rest bytes end behind : List ℕ) → end ≡ 47 ∷ behind
    → ◌≡◌ {A = List ℕ × List ℕ} (before ++ front_until regex_stops rest, rest_until regex_stops rest) (bytes, end)
    → RegexRead before rest bytes behind
ended_regex before rest bytes end behind close pair =
    let read : before ++ front_until regex_stops rest ≡ bytes = ap (λ (x : List ℕ × List ℕ). x.0) pair in
    let last : rest_until regex_stops rest ≡ end = ap (λ (x : List ℕ × List ℕ). x.1) pair in
    let front = front_until regex_stops rest in (
      front ++ [],
      front ++ codes "/",
      bare_front front [] (codes "/") (front_is_none regex_stops rest) closing,
      sym read ∙ ap (λ l. before ++ l) (sym (append-nil front)),
      parts regex_stops rest ∙ ap (λ l. front ++ l) (last ∙ close) ∙ sym (append_assoc front (codes "/") behind),
    )

-- Behind a `\/`, and behind another `\`.
past_slash : (before front rest bytes next behind : List ℕ) → list_all (is_none_of regex_stops) front ≡ true
    → rest ≡ front ++ (92 ∷ (47 ∷ next)) → RegexRead ((before ++ front) ++ codes "/") next bytes behind
    → RegexRead before rest bytes behind
past_slash before front rest bytes next behind none split (more, text, spells, read, whole) = (
  front ++ (47 ∷ more),
  front ++ (92 ∷ (47 ∷ text)),
  bare_front front (47 ∷ more) (92 ∷ (47 ∷ text)) none (escaped_slash more text spells),
  read ∙ append_assoc (before ++ front) (codes "/") more ∙ append_assoc before front (47 ∷ more),
  split ∙ ap (λ l. front ++ (92 ∷ (47 ∷ l))) whole ∙ sym (append_assoc front (92 ∷ (47 ∷ text)) behind),
)

-- A `\` that no `/` follows is not the last byte.
not_last : (more text behind : List ℕ) → SpellsRegex more text
    → after_prefix (codes "\\/") (92 ∷ (text ++ behind)) ≡ None → more ≢ []
not_last more text behind closing other = absurd (cc)
not_last more text behind (escaped_slash bs t spells) other = λ nil. absurd (cc)
not_last more text behind (bare c bs t differs last spells) other = λ nil. absurd (cc)

bare_backslash : (front more text : List ℕ) → list_all (is_none_of regex_stops) front ≡ true → SpellsRegex more text
    → more ≢ [] → SpellsRegex (front ++ (92 ∷ more)) (front ++ (92 ∷ text))
bare_backslash front more text none spells some =
    bare_front front (92 ∷ more) (92 ∷ text) none (bare 92 more text (λ e. absurd (cc)) (λ e. some) spells)

past_bare : (before front rest bytes next behind : List ℕ) → list_all (is_none_of regex_stops) front ≡ true
    → rest ≡ front ++ (92 ∷ next) → after_prefix (codes "\\/") (92 ∷ next) ≡ None
    → RegexRead ((before ++ front) ++ codes "\\") next bytes behind → RegexRead before rest bytes behind
past_bare before front rest bytes next behind none split other (more, text, spells, read, whole) = (
  front ++ (92 ∷ more),
  front ++ (92 ∷ text),
  bare_backslash front more text none spells
      (not_last more text behind spells (sym (ap (λ l. after_prefix (codes "\\/") (92 ∷ l)) whole) ∙ other)),
  read ∙ append_assoc (before ++ front) (codes "\\") more ∙ append_assoc before front (92 ∷ more),
  split ∙ ap (λ l. front ++ (92 ∷ l)) whole ∙ sym (append_assoc front (92 ∷ text) behind),
)

slash_shorter : (front next rest : List ℕ) (n : ℕ) → rest ≡ front ++ (92 ∷ next) → length rest < suc n → length next < n
slash_shorter front next rest n split less =
    let size : length rest ≡ length front + length (92 ∷ next) =
    ap length split ∙ length-append front (92 ∷ next) in
    omega (arith, less, size)

abbrev RegexTurnsSpell : ℕ → Type 0
RegexTurnsSpell n = (before rest bytes end behind : List ℕ) → length rest < n → end ≡ 47 ∷ behind
    → body_within regex_turn n before rest ≡ Ok (bytes, end) → RegexRead before rest bytes behind

abbrev whole_regex_turn : ℕ → Result Turn Misreading → Result (List ℕ × List ℕ) Misreading
whole_regex_turn n turn = behind_turn (body_within regex_turn n) turn

at_bare : (n : ℕ) → RegexTurnsSpell n → (before rest bytes end behind : List ℕ) (found : Option (List ℕ))
    → after_prefix (codes "\\") (rest_until regex_stops rest) ≡ found
    → after_prefix (codes "\\/") (rest_until regex_stops rest) ≡ None → length rest < suc n → end ≡ 47 ∷ behind
    → whole_regex_turn n (bare_turn (before ++ front_until regex_stops rest) (rest_until regex_stops rest) found)
    ≡ Ok (bytes, end)
    → RegexRead before rest bytes behind
at_bare n known before rest bytes end behind None is other less close e =
    ended_regex before rest bytes end behind close (cc)
at_bare n known before rest bytes end behind (Some next) is other less close e =
    let at : rest_until regex_stops rest ≡ 92 ∷ next =
    after_is (codes "\\") (rest_until regex_stops rest) next is in
    let split : rest ≡ front_until regex_stops rest ++ (92 ∷ next) =
    parts regex_stops rest ∙ ap (λ l. front_until regex_stops rest ++ l) at in
    past_bare before (front_until regex_stops rest) rest bytes next behind (front_is_none regex_stops rest) split
    (sym (ap (after_prefix (codes "\\/")) at) ∙ other)
    (known ((before ++ front_until regex_stops rest) ++ codes "\\") next bytes end behind
    (slash_shorter (front_until regex_stops rest) next rest n split less) close e)

at_slash : (n : ℕ) → RegexTurnsSpell n → (before rest bytes end behind : List ℕ) (found : Option (List ℕ))
    → after_prefix (codes "\\/") (rest_until regex_stops rest) ≡ found → length rest < suc n → end ≡ 47 ∷ behind
    → whole_regex_turn n (slash_turn (before ++ front_until regex_stops rest) (rest_until regex_stops rest) found)
    ≡ Ok (bytes, end)
    → RegexRead before rest bytes behind
at_slash n known before rest bytes end behind None is less close e =
    at_bare n known before rest bytes end behind _ refl is less close e
at_slash n known before rest bytes end behind (Some next) is less close e =
    let at : rest_until regex_stops rest ≡ 92 ∷ (47 ∷ next) =
    after_is (codes "\\/") (rest_until regex_stops rest) next is in
    let split : rest ≡ front_until regex_stops rest ++ (92 ∷ (47 ∷ next)) =
    parts regex_stops rest ∙ ap (λ l. front_until regex_stops rest ++ l) at in
    let less' = slash_shorter (front_until regex_stops rest) (47 ∷ next) rest n split less in
    past_slash before (front_until regex_stops rest) rest bytes next behind (front_is_none regex_stops rest) split
    (known ((before ++ front_until regex_stops rest) ++ codes "/") next bytes end behind
    (omega (arith, less')) close e)

regex_turns_spell : (n : ℕ) → RegexTurnsSpell n
regex_turns_spell zero before rest bytes end behind less close e = absurd (omega (arith, less))
regex_turns_spell (suc n) before rest bytes end behind less close e =
    at_slash n (regex_turns_spell n) before rest bytes end behind _ refl less close e

abbrev pub RegexAt : List ℕ → Body → Type 0
RegexAt start body = (text : List ℕ) × SpellsRegex body.bytes text × (start ≡ text ++ body.behind)

from_closed : (start bytes end : List ℕ) (body : Body) (found : Option (List ℕ))
    → ((behind : List ℕ) → end ≡ 47 ∷ behind → RegexRead [] start bytes behind)
    → after_prefix (codes "/") end ≡ found → closed_regex start bytes end found ≡ Ok body → RegexAt start body
from_closed start bytes end body None known is e = absurd (cc)
from_closed start bytes end body (Some behind) known is e =
    let it = known behind (after_is (codes "/") end behind is) in
    let same : record { bytes = bytes; end = end; behind = behind } ≡ body = cc in
    rw (← same) (it.1, subst (λ l. SpellsRegex l it.1) (sym it.3) it.2, it.4)

from_slashed : (start : List ℕ) (body : Body) (read : Result (List ℕ × List ℕ) Misreading)
    → ((bytes end behind : List ℕ) → end ≡ 47 ∷ behind → read ≡ Ok (bytes, end) → RegexRead [] start bytes behind)
    → slashed start read ≡ Ok body → RegexAt start body
from_slashed start body (Ok (bytes, end)) known e =
    from_closed start bytes end body _ (λ behind close. known bytes end behind close refl) refl e
from_slashed start body (Err m) known e = absurd (cc)

pub regex_in_spelled : (start : List ℕ) (body : Body) → regex_in start ≡ Ok body → RegexAt start body
unfolding body_in
regex_in_spelled start body e =
    from_slashed start body (body_in regex_turn start)
    (λ bytes end behind close is. regex_turns_spell (suc (length start)) [] start bytes end behind
    (omega arith) close is)
    e
