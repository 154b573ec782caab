-- A predicate that is spelled in front of a rest is read.
use Rattle.std.proofs.Common.{◌≡◌, ℕ, Bool, true, false, List, [], ◌∷◌, ◌++◌, None, Some, Result, Ok, codes, refl, sym, ◌∙◌, ap, inl, inr, append_assoc}
use Rattle.std.proofs.lemmas.Bool.Decides.{eqb_tells}
use Rattle.std.specs.List.{list_all}
use Rattle.std.specs.Char.{char_set_contains}
use Rattle.std.specs.Str.{trim}
use Rattle.nextest_engines.specs.declared.queries.BuildPlatform.{BuildPlatform}
use Rattle.nextest_engines.specs.declared.queries.BuildPlatform.TheVariants.{Host, Target}
use Rattle.filter_language.specs.declared.words.Field.{Field}
use Rattle.filter_language.specs.declared.words.Field.TheVariants.{TestName, Package, Deps, Rdeps, BinaryId, BinaryName, Kind, Group}
use Rattle.filter_language.specs.declared.words.Sign.{Sign}
use Rattle.filter_language.specs.declared.words.Sign.TheVariants.{Equal, Contains, Glob, Regex}
use Rattle.filter_language.specs.declared.words.Word.{Word}
use Rattle.filter_language.specs.declared.words.Word.TheVariants.{All, Nothing, Default, Platform, Matches}
use Rattle.filter_language.specs.Texts.{after_prefix, is_blank, skipped, rest_until}
use Rattle.filter_language.specs.Formula.{Pattern, Question, Always, Never, TheDefault, OfPlatform, OfName}
use Rattle.filter_language.specs.Places.{Misreading}
use Rattle.filter_language.specs.Lexing.{word_in, inside_of, opened_in, close_of, no_close, closed_in, bare_close, closed_bare_in, after_one, operator_of}
use Rattle.filter_language.specs.Arguments.{Body, text_in, regex_in}
use Rattle.filter_language.specs.Predicates.{Compiler, PredicateRead, asking, platform_named, of_platform, platform_in, default_sign, sign_in, body_behind, meaning_of, before_rest, signed_in, matching_in, bare_in, worded_in, predicate_in, ◌>>=◌}
use Rattle.filter_language.specs.Writing.{AreBlanks, BeginsUnblank, is_none_of, SpellsFilled, SpellsBody, sign_spelling, BeginsUnsigned, SpellsArgument, field_word, platform_name, SpellsCall, SpellsQuestion}
use Rattle.filter_language.proofs.Spelled.{not_true, skips, stays_before, front_of, rest_of, before_own}
use Rattle.filter_language.proofs.BodiesRead.{text_in_read, regex_in_read}

-- The word as it is written.
abbrev pub word_bytes : Word → List ℕ
word_bytes All = codes "all"
word_bytes Nothing = codes "none"
word_bytes Default = codes "default"
word_bytes Platform = codes "platform"
word_bytes (Matches field) = field_word field

-- No operator is in front of a text, and a word is.
pub record Heads (text : List ℕ) (word : Word) (behind : List ℕ) : Type 0 where
  pub first : ℕ
  pub more : List ℕ
  pub begins : text ≡ first ∷ more
  pub unblank : (rest : List ℕ) → is_blank first rest ≡ false
  pub no_bar : after_prefix (codes "|") text ≡ None
  pub no_and : after_prefix (codes "&") text ≡ None
  pub no_not : after_one (codes "not ") (codes "!") text ≡ None
  pub no_open : after_prefix (codes "(") text ≡ None
  pub no_operator : operator_of text ≡ None
  pub is_word : word_in text ≡ Some (word, behind)

no_id : (blanks more : List ℕ) → AreBlanks blanks → after_prefix (codes "_id") (blanks ++ (40 ∷ more)) ≡ None
no_id [] more are = refl
no_id (c ∷ blanks) more are = elim (eqb_tells 95 c) [
  | inl same ↦ absurd (let clash : is_blank 95 blanks ≡ true = rw (← same.1) at are.0 in cc)
  | inr other ↦ rw other.0 refl
]

-- A word in front of a text, by the cases that compute.
head_of : (text : List ℕ) (word : Word) (behind : List ℕ) (c : ℕ) (more : List ℕ) → text ≡ c ∷ more
    → ((rest : List ℕ) → is_blank c rest ≡ false) → after_prefix (codes "|") text ≡ None
    → after_prefix (codes "&") text ≡ None → after_one (codes "not ") (codes "!") text ≡ None
    → after_prefix (codes "(") text ≡ None → operator_of text ≡ None → word_in text ≡ Some (word, behind)
    → Heads text word behind
head_of text word behind c more begins unblank no_bar no_and no_not no_open no_operator is_word = record {
  first = c;
  more = more;
  begins = begins;
  unblank = unblank;
  no_bar = no_bar;
  no_and = no_and;
  no_not = no_not;
  no_open = no_open;
  no_operator = no_operator;
  is_word = is_word;
}

heads : (word : Word) (blanks more : List ℕ) → AreBlanks blanks
    → Heads (word_bytes word ++ (blanks ++ (40 ∷ more))) word (blanks ++ (40 ∷ more))
heads All blanks more are = head_of _ _ _ _ _ refl (λ rest. refl) refl refl refl refl refl refl
heads Nothing blanks more are = head_of _ _ _ _ _ refl (λ rest. refl) refl refl refl refl refl refl
heads Default blanks more are = head_of _ _ _ _ _ refl (λ rest. refl) refl refl refl refl refl refl
heads Platform blanks more are = head_of _ _ _ _ _ refl (λ rest. refl) refl refl refl refl refl refl
heads (Matches TestName) blanks more are = head_of _ _ _ _ _ refl (λ rest. refl) refl refl refl refl refl refl
heads (Matches Package) blanks more are = head_of _ _ _ _ _ refl (λ rest. refl) refl refl refl refl refl refl
heads (Matches Deps) blanks more are = head_of _ _ _ _ _ refl (λ rest. refl) refl refl refl refl refl refl
heads (Matches Rdeps) blanks more are = head_of _ _ _ _ _ refl (λ rest. refl) refl refl refl refl refl refl
heads (Matches BinaryId) blanks more are = head_of _ _ _ _ _ refl (λ rest. refl) refl refl refl refl refl refl
heads (Matches BinaryName) blanks more are =
    head_of _ _ _ _ _ refl (λ rest. refl) refl refl refl refl refl (rw (no_id blanks more are) refl)
heads (Matches Kind) blanks more are = head_of _ _ _ _ _ refl (λ rest. refl) refl refl refl refl refl refl
heads (Matches Group) blanks more are = head_of _ _ _ _ _ refl (λ rest. refl) refl refl refl refl refl refl

-- A `(` behind blanks, and a `)` behind blanks.
opens : (blanks inside : List ℕ) → AreBlanks blanks → opened_in (blanks ++ (40 ∷ inside)) ≡ Ok inside
opens blanks inside are =
    ap (λ l. inside_of (blanks ++ (40 ∷ inside)) (after_prefix (codes "(") l)) (skips blanks (40 ∷ inside) are)

closes : (blanks rest : List ℕ) → AreBlanks blanks → closed_in (blanks ++ (41 ∷ rest)) ≡ Ok (41 ∷ rest, rest)
closes blanks rest are =
    ap (λ l. close_of (no_close l) (blanks ++ (41 ∷ rest)) l (after_prefix (codes ")") l))
    (skips blanks (41 ∷ rest) are)

-- A call in front of a rest.
pub call_text : (word blanks inside rest : List ℕ)
    → (word ++ (blanks ++ (40 ∷ (inside ++ codes ")")))) ++ rest ≡ word ++ (blanks ++ (40 ∷ (inside ++ (41 ∷ rest))))
call_text word blanks inside rest =
    append_assoc word (blanks ++ (40 ∷ (inside ++ codes ")"))) rest
    ∙ ap (λ l. word ++ l) (append_assoc blanks (40 ∷ (inside ++ codes ")")) rest)
    ∙ ap (λ l. word ++ (blanks ++ (40 ∷ l))) (append_assoc inside (codes ")") rest)

-- A predicate in front of a rest is read.
pub record IsAsked {L : Type 0} (compiler : Compiler L) (q : Question L) (text rest : List ℕ) : Type 0 where
  pub word : Word
  pub behind : List ℕ
  pub head : Heads text word behind
  pub found : PredicateRead L
  pub is_found : predicate_in compiler word text behind ≡ Ok found
  pub question : found.question ≡ q
  pub ends : found.rest ≡ rest

-- It is enough that its inside is read.
asked : {L : Type 0} (compiler : Compiler L) (q : Question L) (word : Word) (inside spelling rest : List ℕ)
    (found : PredicateRead L)
    → SpellsCall (word_bytes word) inside spelling
    → worded_in compiler word (spelling ++ rest) (inside ++ (41 ∷ rest)) ≡ Ok found
    → found.question ≡ q → found.rest ≡ rest → IsAsked compiler q (spelling ++ rest) rest
asked compiler q word inside spelling rest found (blanks, are, is) read question ends =
    let text : spelling ++ rest ≡ word_bytes word ++ (blanks ++ (40 ∷ (inside ++ (41 ∷ rest)))) =
    ap (λ l. l ++ rest) is ∙ call_text (word_bytes word) blanks inside rest in
    record {
      word = word;
      behind = blanks ++ (40 ∷ (inside ++ (41 ∷ rest)));
      head = rw text (heads word blanks (inside ++ (41 ∷ rest)) are);
      found = found;
      is_found = ap (λ r. r >>= worded_in compiler word (spelling ++ rest)) (opens blanks (inside ++ (41 ∷ rest)) are)
          ∙ read;
      question = question;
      ends = ends;
    }

bare_read : {L : Type 0} (q : Question L) (white rest : List ℕ) → trim white ≡ []
    → list_all (is_none_of (codes ")")) white ≡ true
    → bare_in q (white ++ (41 ∷ rest)) ≡ Ok (asking q (white ++ (41 ∷ rest)) (41 ∷ rest, rest))
bare_read {L} q white rest blank none =
    let inside = white ++ (41 ∷ rest) in
    let closed : closed_bare_in inside ≡ Ok (41 ∷ rest, rest) =
    ap (λ l. bare_close inside (trim l) (rest_until (codes ")") inside)) (front_of (codes ")") white 41 rest none refl)
    ∙ ap (λ l. bare_close inside l (rest_until (codes ")") inside)) blank
    ∙ ap (λ l. bare_close inside [] l) (rest_of (codes ")") white 41 rest none refl) in
    ap (λ r. r >>= (λ found. Ok (asking q inside found))) closed

platform_is : (p : BuildPlatform) → platform_named (platform_name p) ≡ Some p
platform_is Host = refl
platform_is Target = refl

-- The text behind blanks.
text_behind : (blanks text rest : List ℕ) → AreBlanks blanks → BeginsUnblank text
    → skipped ((blanks ++ text) ++ (41 ∷ rest)) ≡ text ++ (41 ∷ rest)
text_behind blanks text rest are is =
    ap skipped (append_assoc blanks text (41 ∷ rest)) ∙ skips blanks (text ++ (41 ∷ rest)) are
    ∙ stays_before text rest is

platform_read : (L : Type 0) (p : BuildPlatform) (blanks bytes text rest : List ℕ) → AreBlanks blanks
    → BeginsUnblank text → SpellsFilled bytes text → trim bytes ≡ platform_name p
    → platform_in {L = L} ((blanks ++ text) ++ (41 ∷ rest))
    ≡ Ok (asking (OfPlatform p) ((blanks ++ text) ++ (41 ∷ rest)) (41 ∷ rest, rest))
platform_read L p blanks bytes text rest are unblank spells name =
    let inside = (blanks ++ text) ++ (41 ∷ rest) in
    let then : Body → Result (PredicateRead L) Misreading = λ body. closed_in body.behind
    >>= (λ found. of_platform inside body.end found (platform_named (trim body.bytes))) in
    ap (λ l. text_in l >>= then) (text_behind blanks text rest are unblank)
    ∙ ap (λ r. r >>= then) (text_in_read bytes text rest spells)
    ∙ ap (λ l. of_platform {L = L} inside (41 ∷ rest) (41 ∷ rest, rest) (platform_named l)) name
    ∙ ap (of_platform {L = L} inside (41 ∷ rest) (41 ∷ rest, rest)) (platform_is p)

-- What is behind a sign is read.
record BodyIs (sign : Sign) (bytes start rest : List ℕ) : Type 0 where
  pub body : Body
  pub is_body : body_behind sign start ≡ Ok body
  pub same : body.bytes ≡ bytes
  pub closed : closed_in body.behind ≡ Ok (41 ∷ rest, rest)

text_body : (bytes text rest : List ℕ) → SpellsFilled bytes text
    → (body : Body) × (text_in (text ++ (41 ∷ rest)) ≡ Ok body) × (body.bytes ≡ bytes)
    × (closed_in body.behind ≡ Ok (41 ∷ rest, rest))
text_body bytes text rest is =
    (record { bytes = bytes; end = 41 ∷ rest; behind = 41 ∷ rest }, text_in_read bytes text rest is, refl, refl)

body_read : (sign : Sign) (bytes body rest : List ℕ) → SpellsBody sign bytes body
    → BodyIs sign bytes (body ++ (41 ∷ rest)) rest
body_read Equal bytes body rest is =
    let it = text_body bytes body rest is in
    record { body = it.0; is_body = it.1; same = it.2; closed = it.3 }
body_read Contains bytes body rest is =
    let it = text_body bytes body rest is in
    record { body = it.0; is_body = it.1; same = it.2; closed = it.3 }
body_read Glob bytes body rest is =
    let it = text_body bytes body rest is in
    record { body = it.0; is_body = it.1; same = it.2; closed = it.3 }
body_read Regex bytes body rest (text, blanks, spells, are, split) = record {
  body = record { bytes = bytes; end = 47 ∷ (blanks ++ (41 ∷ rest)); behind = blanks ++ (41 ∷ rest) };
  is_body = ap (λ l. regex_in (l ++ (41 ∷ rest))) split
      ∙ ap regex_in (append_assoc text blanks (41 ∷ rest))
      ∙ regex_in_read bytes text (blanks ++ (41 ∷ rest)) spells;
  same = refl;
  closed = closes blanks rest are;
}

-- The pattern that is read.
abbrev pattern_of : {L : Type 0} → Field → Sign → Bool → List ℕ → List ℕ → L → Pattern L
pattern_of field sign is_default bytes written meaning = record {
  field = field;
  sign = sign;
  is_default = is_default;
  text = bytes;
  written = written;
  meaning = meaning;
}

signed_read : {L : Type 0} (compiler : Compiler L) (field : Field) (sign : Sign) (is_default : Bool)
    (start inside bytes begin rest : List ℕ) (meaning : L)
    → BodyIs sign bytes begin rest → compiler field sign bytes ≡ Ok meaning
    → signed_in compiler field start inside (sign, is_default, begin)
    ≡ Ok (asking (OfName (pattern_of field sign is_default bytes (before_rest start rest) meaning)) inside
    (41 ∷ rest, rest))
signed_read {L} compiler field sign is_default start inside bytes begin rest meaning is means =
    let last : List ℕ → L → List ℕ × List ℕ → Result (PredicateRead L) Misreading =
    λ text m found. Ok (asking (OfName (pattern_of field sign is_default text (before_rest start found.1) m)) inside
    found) in
    let means' : compiler field sign is.body.bytes ≡ Ok meaning = ap (compiler field sign) is.same ∙ means in
    ap (λ r. r >>= (λ body. meaning_of sign begin body.end (compiler field sign body.bytes)
    >>= (λ m. closed_in body.behind >>= last body.bytes m))) is.is_body
    ∙ ap (λ r. meaning_of sign begin is.body.end r >>= (λ m. closed_in is.body.behind >>= last is.body.bytes m)) means'
    ∙ ap (λ r. r >>= last is.body.bytes meaning) is.closed
    ∙ ap (λ text. last text meaning (41 ∷ rest, rest)) is.same

-- The sign of an argument.
unsigned : (field : Field) (text more : List ℕ) → BeginsUnsigned text
    → sign_in field (text ++ more) ≡ (default_sign field, true, text ++ more)
unsigned field [] more is = absurd (is)
unsigned field (c ∷ text) more is =
    let none = not_true (char_set_contains (codes "=~#/") c) is in
    elim (eqb_tells 61 c) [
      | inl same ↦ absurd (let clash : true ≡ false = rw (← same.1) at none in cc)
      | inr no_equal ↦ elim (eqb_tells 126 c) [
        | inl same ↦ absurd (let clash : true ≡ false = rw (← same.1) at none in cc)
        | inr no_tilde ↦ elim (eqb_tells 35 c) [
          | inl same ↦ absurd (let clash : true ≡ false = rw (← same.1) at none in cc)
          | inr no_hash ↦ elim (eqb_tells 47 c) [
            | inl same ↦ absurd (let clash : true ≡ false = rw (← same.1) at none in cc)
            | inr no_slash ↦ rw (no_equal.0, no_tilde.0, no_hash.0, no_slash.0) refl
          ]
        ]
      ]
    ]

signed : (field : Field) (sign : Sign) (more : List ℕ)
    → sign_in field (sign_spelling sign ++ more) ≡ (sign, false, more)
signed field Equal more = refl
signed field Contains more = refl
signed field Glob more = refl
signed field Regex more = refl

sign_unblank : (sign : Sign) (more : List ℕ) → skipped (sign_spelling sign ++ more) ≡ sign_spelling sign ++ more
sign_unblank Equal more = refl
sign_unblank Contains more = refl
sign_unblank Glob more = refl
sign_unblank Regex more = refl

matching_read : {L : Type 0} (compiler : Compiler L) (field : Field) (sign : Sign) (is_default : Bool)
    (start bytes blanks argument rest : List ℕ) (meaning : L)
    → AreBlanks blanks → SpellsArgument field sign is_default bytes argument → compiler field sign bytes ≡ Ok meaning
    → matching_in compiler field start ((blanks ++ argument) ++ (41 ∷ rest))
    ≡ Ok (asking (OfName (pattern_of field sign is_default bytes (before_rest start rest) meaning))
    ((blanks ++ argument) ++ (41 ∷ rest)) (41 ∷ rest, rest))
matching_read compiler field sign true start bytes blanks argument rest meaning are
    (own, unblank, no_sign, spells) means =
    let inside = (blanks ++ argument) ++ (41 ∷ rest) in
    ap (λ l. signed_in compiler field start inside (sign_in field l)) (text_behind blanks argument rest are unblank)
    ∙ ap (signed_in compiler field start inside) (unsigned field argument (41 ∷ rest) no_sign)
    ∙ ap (λ s. signed_in compiler field start inside (s, true, argument ++ (41 ∷ rest))) (sym own)
    ∙ signed_read compiler field sign true start inside bytes (argument ++ (41 ∷ rest)) rest meaning
    (body_read sign bytes argument rest spells) means
matching_read compiler field sign false start bytes blanks argument rest meaning are (body, spells, split) means =
    let inside = (blanks ++ argument) ++ (41 ∷ rest) in
    let place : skipped inside ≡ sign_spelling sign ++ (body ++ (41 ∷ rest)) =
    ap skipped (append_assoc blanks argument (41 ∷ rest)) ∙ skips blanks (argument ++ (41 ∷ rest)) are
    ∙ ap (λ l. skipped (l ++ (41 ∷ rest))) split
    ∙ ap skipped (append_assoc (sign_spelling sign) body (41 ∷ rest))
    ∙ sign_unblank sign (body ++ (41 ∷ rest)) in
    ap (λ l. signed_in compiler field start inside (sign_in field l)) place
    ∙ ap (signed_in compiler field start inside) (signed field sign (body ++ (41 ∷ rest)))
    ∙ signed_read compiler field sign false start inside bytes (body ++ (41 ∷ rest)) rest meaning
    (body_read sign bytes body rest spells) means

pub question_read : {L : Type 0} (compiler : Compiler L) (q : Question L) (spelling rest : List ℕ)
    → SpellsQuestion compiler q spelling → IsAsked compiler q (spelling ++ rest) rest
question_read compiler Always spelling rest (white, blank, none, call) =
    asked compiler Always All white spelling rest _ call (bare_read Always white rest blank none) refl refl
question_read compiler Never spelling rest (white, blank, none, call) =
    asked compiler Never Nothing white spelling rest _ call (bare_read Never white rest blank none) refl refl
question_read compiler TheDefault spelling rest (white, blank, none, call) =
    asked compiler TheDefault Default white spelling rest _ call (bare_read TheDefault white rest blank none) refl refl
question_read {L} compiler (OfPlatform p) spelling rest (blanks, bytes, text, are, unblank, spells, name, call) =
    asked compiler (OfPlatform p) Platform (blanks ++ text) spelling rest _ call
    (platform_read L p blanks bytes text rest are unblank spells name) refl refl
question_read compiler (OfName p) spelling rest (blanks, argument, are, spells, call, written, means) =
    asked compiler (OfName p) (Matches p.field) (blanks ++ argument) spelling rest _ call
    (matching_read compiler p.field p.sign p.is_default (spelling ++ rest) p.text blanks argument rest p.meaning are
    spells means)
    (ap (λ l. OfName (pattern_of p.field p.sign p.is_default p.text l p.meaning))
    (before_own spelling rest ∙ sym written))
    refl
