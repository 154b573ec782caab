-- A predicate that is read is spelled in front of what follows it.
use Rattle.std.proofs.Common.{◌≡◌, ◌≢◌, ◌==◌, ℕ, Bool, true, false, List, [], ◌∷◌, ◌++◌, Option, None, Some, Result, Ok, Err, option_map, codes, refl, sym, ◌∙◌, ap, subst, append_assoc, if◌then◌else◌}
use Rattle.std.proofs.lemmas.Slice.Eq.{bytes_eq-Decides}
use Rattle.std.specs.List.{list_all}
use Rattle.std.specs.Option.{option_or}
use Rattle.std.specs.Str.{trim, bytes_eq}
use Rattle.nextest_engines.specs.declared.queries.BuildPlatform.{BuildPlatform}
use Rattle.nextest_engines.specs.declared.queries.BuildPlatform.TheVariants.{Host, Target}
use Rattle.filter_language.specs.declared.fault.FaultKind.{FaultKind}
use Rattle.filter_language.specs.declared.matchers.PatternFault.{PatternFault}
use Rattle.filter_language.specs.declared.words.Field.{Field}
use Rattle.filter_language.specs.declared.words.Field.TheVariants.{TestName, Package, Deps, Rdeps, BinaryId, BinaryName, Kind, Group}
use Rattle.filter_language.specs.declared.words.Sign.{Sign}
use Rattle.filter_language.specs.declared.words.Sign.TheVariants.{Equal, Contains, Glob, Regex}
use Rattle.filter_language.specs.declared.words.Word.{Word}
use Rattle.filter_language.specs.declared.words.Word.TheVariants.{All, Nothing, Default, Platform, Matches}
use Rattle.filter_language.specs.Texts.{after_prefix, is_blank, skipped, front_until, rest_until}
use Rattle.filter_language.specs.Formula.{Pattern, Question, Always, Never, TheDefault, OfPlatform, OfName}
use Rattle.filter_language.specs.Places.{Misreading}
use Rattle.filter_language.specs.Lexing.{spelled, field_in, word_in, inside_of, opened_in, close_of, no_close, closed_in, bare_close, closed_bare_in}
use Rattle.filter_language.specs.Arguments.{Body, text_in}
use Rattle.filter_language.specs.Predicates.{Compiler, PredicateRead, asking, platform_named, of_platform, platform_in, default_sign, sign_of, sign_in, body_behind, meaning_of, before_rest, signed_in, matching_in, bare_in, worded_in, predicate_in, ◌>>=◌}
use Rattle.filter_language.specs.Writing.{AreBlanks, BeginsUnblank, is_none_of, SpellsText, no_text, plain, escaped, SpellsFilled, SpellsRegex, closing, escaped_slash, bare, SpellsBody, sign_spelling, BeginsUnsigned, SpellsArgument, field_word, platform_name, SpellsCall, SpellsQuestion}
use Rattle.filter_language.proofs.PartsOfTexts.{after_is}
use Rattle.filter_language.proofs.Spelled.{skipped_are, skipped_unblank, blank_before, parts, front_is_none, before_own}
use Rattle.filter_language.proofs.BodiesRead.{text_in_spelled, regex_in_spelled}
use Rattle.filter_language.proofs.PredicatesRead.{word_bytes, call_text}

-- A step that went well.
pub bound_ok : {A B : Type 0} (read : Result A Misreading) (step : A → Result B Misreading) (b : B)
    → (read >>= step) ≡ Ok b → (a : A) × (read ≡ Ok a) × (step a ≡ Ok b)
bound_ok (Ok a) step b e = (a, refl, e)
bound_ok (Err m) step b e = absurd (cc)

abbrev first_same : {A B : Type 0} (a c : A) (b d : B) → ◌≡◌ {A = A × B} (a, b) (c, d) → a ≡ c
first_same {A} {B} a c b d e = ap (λ (x : A × B). x.0) e

abbrev second_same : {A B : Type 0} (a c : A) (b d : B) → ◌≡◌ {A = A × B} (a, b) (c, d) → b ≡ d
second_same {A} {B} a c b d e = ap (λ (x : A × B). x.1) e

-- Words.
from_prefix : {X : Type 0} (x y : X) (spelling text behind : List ℕ) (found : Option (List ℕ))
    → after_prefix spelling text ≡ found → option_map {U = X × List ℕ} (λ r. (x, r)) found ≡ Some (y, behind)
    → (x ≡ y) × (text ≡ spelling ++ behind)
from_prefix x y spelling text behind None is e = absurd (cc)
from_prefix {X} x y spelling text behind (Some r) is e =
    let pair : ◌≡◌ {A = X × List ℕ} (x, r) (y, behind) = cc in
    (first_same x y r behind pair, after_is spelling text behind (is ∙ ap Some (second_same x y r behind pair)))

pub one_way : {X : Type 0} (x y : X) (spelling text behind : List ℕ) → spelled x spelling text ≡ Some (y, behind)
    → (x ≡ y) × (text ≡ spelling ++ behind)
one_way x y spelling text behind e = from_prefix x y spelling text behind _ refl e

pub either_way : {X : Type 0} (P : Type 0) (a b : Option X) (x : X) → (a ≡ Some x → P) → (b ≡ Some x → P)
    → option_or a b ≡ Some x → P
either_way P None b x first second e = second e
either_way P (Some y) b x first second e = first e

field_way : (text behind : List ℕ) (field other : Field) → spelled field (field_word field) text ≡ Some (other, behind)
    → text ≡ field_word other ++ behind
field_way text behind field other e =
    let it = one_way field other (field_word field) text behind e in
    it.1 ∙ ap (λ f. field_word f ++ behind) it.0

field_spelled : (text behind : List ℕ) (field : Field) → field_in text ≡ Some (field, behind)
    → text ≡ field_word field ++ behind
field_spelled text behind field =
    either_way (text ≡ field_word field ++ behind) _ _ (field, behind) (field_way text behind BinaryId field)
    (either_way (text ≡ field_word field ++ behind) _ _ (field, behind) (field_way text behind BinaryName field)
    (either_way (text ≡ field_word field ++ behind) _ _ (field, behind) (field_way text behind TestName field)
    (either_way (text ≡ field_word field ++ behind) _ _ (field, behind) (field_way text behind Package field)
    (either_way (text ≡ field_word field ++ behind) _ _ (field, behind) (field_way text behind Deps field)
    (either_way (text ≡ field_word field ++ behind) _ _ (field, behind) (field_way text behind Rdeps field)
    (either_way (text ≡ field_word field ++ behind) _ _ (field, behind) (field_way text behind Kind field)
    (field_way text behind Group field)))))))

word_way : (text behind : List ℕ) (word other : Word) → spelled word (word_bytes word) text ≡ Some (other, behind)
    → text ≡ word_bytes other ++ behind
word_way text behind word other e =
    let it = one_way word other (word_bytes word) text behind e in
    it.1 ∙ ap (λ w. word_bytes w ++ behind) it.0

of_field : (text behind : List ℕ) (word : Word) (found : Option (Field × List ℕ)) → field_in text ≡ found
    → option_map {U = Word × List ℕ} (λ f. (Matches f.0, f.1)) found ≡ Some (word, behind)
    → text ≡ word_bytes word ++ behind
of_field text behind word None is e = absurd (cc)
of_field text behind word (Some f) is e =
    let pair : ◌≡◌ {A = Word × List ℕ} (Matches f.0, f.1) (word, behind) = cc in
    field_spelled text f.1 f.0 is ∙ ap (λ w. word_bytes w ++ f.1) (first_same (Matches f.0) word f.1 behind pair)
    ∙ ap (λ l. word_bytes word ++ l) (second_same (Matches f.0) word f.1 behind pair)

pub word_spelled : (text behind : List ℕ) (word : Word) → word_in text ≡ Some (word, behind)
    → text ≡ word_bytes word ++ behind
word_spelled text behind word =
    either_way (text ≡ word_bytes word ++ behind) _ _ (word, behind) (word_way text behind All word)
    (either_way (text ≡ word_bytes word ++ behind) _ _ (word, behind) (word_way text behind Nothing word)
    (either_way (text ≡ word_bytes word ++ behind) _ _ (word, behind) (word_way text behind Default word)
    (either_way (text ≡ word_bytes word ++ behind) _ _ (word, behind) (word_way text behind Platform word)
    (of_field text behind word (field_in text) refl))))

-- A `(` behind blanks, and a `)` behind blanks.
opened_found : (place inside : List ℕ) (found : Option (List ℕ)) → after_prefix (codes "(") (skipped place) ≡ found
    → inside_of place found ≡ Ok inside → skipped place ≡ 40 ∷ inside
opened_found place inside None is e = absurd (cc)
opened_found place inside (Some x) is e =
    let same : x ≡ inside = cc in after_is (codes "(") (skipped place) inside (is ∙ ap Some same)

pub opened_spelled : (place inside : List ℕ) → opened_in place ≡ Ok inside
    → (blanks : List ℕ) × AreBlanks blanks × (place ≡ blanks ++ (40 ∷ inside))
opened_spelled place inside e =
    let it = skipped_are place in
    (it.0, it.1, it.2 ∙ ap (λ l. it.0 ++ l) (opened_found place inside _ refl e))

closed_found : (kind : FaultKind) (place close : List ℕ) (pair : List ℕ × List ℕ) (found : Option (List ℕ))
    → after_prefix (codes ")") close ≡ found → close_of kind place close found ≡ Ok pair → close ≡ 41 ∷ pair.1
closed_found kind place close pair None is e = absurd (cc)
closed_found kind place close pair (Some x) is e =
    let both : ◌≡◌ {A = List ℕ × List ℕ} (close, x) pair = cc in
    let same : x ≡ pair.1 = ap (λ (p : List ℕ × List ℕ). p.1) both in
    after_is (codes ")") close pair.1 (is ∙ ap Some same)

closed_spelled : (place : List ℕ) (pair : List ℕ × List ℕ) → closed_in place ≡ Ok pair → skipped place ≡ 41 ∷ pair.1
closed_spelled place pair e = closed_found (no_close (skipped place)) place (skipped place) pair _ refl e

-- Sets without an argument.
bare_closed : (inside argument close : List ℕ) (pair : List ℕ × List ℕ) → bare_close inside argument close ≡ Ok pair
    → (argument ≡ []) × (close ≡ 41 ∷ pair.1)
bare_closed inside [] close pair e = (refl, closed_found _ close close pair _ refl e)
bare_closed inside (c ∷ argument) close pair e = absurd (cc)

-- What a question's inside spells, before its `)` and a rest.
abbrev AskedInside : {L : Type 0} → Compiler L → Word → List ℕ → List ℕ → PredicateRead L → Type 0
AskedInside compiler word start inside found = (written : List ℕ) × (inside ≡ written ++ (41 ∷ found.rest))
    × ((spelling : List ℕ) → start ≡ spelling ++ found.rest → SpellsCall (word_bytes word) written spelling
    → SpellsQuestion compiler found.question spelling)

bare_spelled : {L : Type 0} (q : Question L) (inside : List ℕ) (found : PredicateRead L) → bare_in q inside ≡ Ok found
    → (white : List ℕ) × (trim white ≡ []) × (list_all (is_none_of (codes ")")) white ≡ true)
    × (inside ≡ white ++ (41 ∷ found.rest)) × (found.question ≡ q)
bare_spelled q inside found e =
    let it = bound_ok (closed_bare_in inside) (λ pair. Ok (asking q inside pair)) found e in
    let same : asking q inside it.0 ≡ found = cc in
    let closed = bare_closed inside (trim (front_until (codes ")") inside)) (rest_until (codes ")") inside) it.0 it.1 in
    let rest : it.0.1 ≡ found.rest = ap (λ p. p.rest) same in (
      front_until (codes ")") inside,
      closed.0,
      front_is_none (codes ")") inside,
      parts (codes ")") inside ∙ ap (λ l. front_until (codes ")") inside ++ l)
          (closed.1 ∙ ap (λ l. 41 ∷ l) rest),
      sym (ap (λ p. p.question) same),
    )

-- Platforms.
platform_found : (name : List ℕ) (p : BuildPlatform) (host target : Bool) → bytes_eq name (codes "host") ≡ host
    → bytes_eq name (codes "target") ≡ target
    → (if host then Some Host else (if target then Some Target else None)) ≡ Some p → name ≡ platform_name p
platform_found name p true target is also e =
    let same : Host ≡ p = cc in (bytes_eq-Decides name (codes "host")).0 is ∙ ap platform_name same
platform_found name p false true is also e =
    let same : Target ≡ p = cc in (bytes_eq-Decides name (codes "target")).0 also ∙ ap platform_name same
platform_found name p false false is also e = absurd (cc)

platform_kept : (L : Type 0) (inside end : List ℕ) (pair : List ℕ × List ℕ) (name : List ℕ)
    (named : Option BuildPlatform) (found : PredicateRead L) → platform_named name ≡ named
    → of_platform {L = L} inside end pair named ≡ Ok found
    → (p : BuildPlatform) × (name ≡ platform_name p) × (found.question ≡ OfPlatform p) × (found.rest ≡ pair.1)
platform_kept L inside end pair name None found is e = absurd (cc)
platform_kept L inside end pair name (Some p) found is e =
    let same : asking {L = L} (OfPlatform p) inside pair ≡ found = cc in
    (p, platform_found name p _ _ refl refl is, sym (ap (λ f. f.question) same), sym (ap (λ f. f.rest) same))

-- A text of some bytes begins.
text_begins : (bytes text : List ℕ) → SpellsText bytes text → bytes ≢ []
    → (c : ℕ) × (more : List ℕ) × (text ≡ c ∷ more)
text_begins bytes text no_text some = absurd (some refl)
text_begins bytes text (plain c bs t none spells) some = (c, t, refl)
text_begins bytes text (escaped c escape bs t is spells) some = (92, escape ++ t, refl)

begins_unblank : (place text rest : List ℕ) (c : ℕ) (more : List ℕ) → text ≡ c ∷ more
    → skipped place ≡ text ++ (41 ∷ rest) → BeginsUnblank text
begins_unblank place text rest c more is begins = subst BeginsUnblank (sym is) (first (is_blank c more) refl)
  where
    whole : is_blank c (more ++ (41 ∷ rest)) ≡ false
    whole = skipped_unblank place c (more ++ (41 ∷ rest)) (begins ∙ ap (λ l. l ++ (41 ∷ rest)) is)

    first : (b : Bool) → is_blank c more ≡ b → is_blank c more ≡ false
    first false e = e
    first true e = absurd (
        let clash : true ≡ false = sym (blank_before c more (41 ∷ rest) e) ∙ whole in cc)

-- A text behind blanks, and its `)`.
record Inside (inside bytes rest : List ℕ) : Type 0 where
  blanks : List ℕ
  text : List ℕ
  are : AreBlanks blanks
  unblank : BeginsUnblank text
  spells : SpellsFilled bytes text
  split : inside ≡ (blanks ++ text) ++ (41 ∷ rest)
  begins : skipped inside ≡ text ++ (41 ∷ rest)

closes_at : (body : Body) (pair : List ℕ × List ℕ) → body.behind ≡ body.end → skipped body.end ≡ body.end
    → closed_in body.behind ≡ Ok pair → body.end ≡ 41 ∷ pair.1
closes_at body pair same stays e = sym stays ∙ ap skipped (sym same) ∙ closed_spelled body.behind pair e

text_inside : (inside : List ℕ) (body : Body) (pair : List ℕ × List ℕ) → text_in (skipped inside) ≡ Ok body
    → closed_in body.behind ≡ Ok pair → Inside inside body.bytes pair.1
text_inside inside body pair is closed =
    let at = text_in_spelled (skipped inside) body is in
    let last = closes_at body pair at.3 at.4 closed in
    let begins : skipped inside ≡ at.0 ++ (41 ∷ pair.1) = at.2 ∙ ap (λ l. at.0 ++ l) last in
    let first = text_begins body.bytes at.0 at.1.1 at.1.0 in
    let blank = skipped_are inside in
    record {
      blanks = blank.0;
      text = at.0;
      are = blank.1;
      unblank = begins_unblank inside at.0 pair.1 first.0 first.1 first.2 begins;
      spells = at.1;
      split = blank.2 ∙ ap (λ l. blank.0 ++ l) begins ∙ sym (append_assoc blank.0 at.0 (41 ∷ pair.1));
      begins = begins;
    }

platform_spelled : {L : Type 0} (compiler : Compiler L) (start inside : List ℕ) (found : PredicateRead L)
    → platform_in inside ≡ Ok found → AskedInside compiler Platform start inside found
platform_spelled {L} compiler start inside found e =
    let it = bound_ok (text_in (skipped inside)) (λ body. closed_in body.behind
    >>= (λ pair. of_platform inside body.end pair (platform_named (trim body.bytes)))) found e in
    let body = it.0 in
    let also = bound_ok (closed_in body.behind)
    (λ pair. of_platform {L = L} inside body.end pair (platform_named (trim body.bytes))) found it.2 in
    let pair = also.0 in
    let kept = platform_kept L inside body.end pair (trim body.bytes) _ found refl also.2 in
    let at = text_inside inside body pair it.1 also.1 in (
      at.blanks ++ at.text,
      at.split ∙ ap (λ r. (at.blanks ++ at.text) ++ (41 ∷ r)) (sym kept.3),
      λ spelling whole call. subst (λ q. SpellsQuestion compiler q spelling) (sym kept.2)
          (at.blanks, body.bytes, at.text, at.are, at.unblank, at.spells, kept.1, call),
    )

-- Patterns.

-- A sign that is written, or none.
abbrev SignIs : Field → List ℕ → Sign × Bool × List ℕ → Type 0
SignIs field argument (sign, true, begin) = (sign ≡ default_sign field) × (argument ≡ begin)
    × ((c : ℕ) (more : List ℕ) → argument ≡ c ∷ more → is_none_of (codes "=~#/") c ≡ true)
SignIs field argument (sign, false, begin) = argument ≡ sign_spelling sign ++ begin

none_of_both : {X : Type 0} (a b : Option X) → option_or a b ≡ None → (a ≡ None) × (b ≡ None)
none_of_both None b e = (refl, e)
none_of_both (Some x) b e = absurd (cc)

no_prefix : {X : Type 0} (x : X) (found : Option (List ℕ)) → option_map {U = X × List ℕ} (λ r. (x, r)) found ≡ None
    → found ≡ None
no_prefix x None e = refl
no_prefix x (Some r) e = absurd (cc)

other_byte : (more : List ℕ) (b : Bool) → (if b then Some more else None) ≡ None → b ≡ false
other_byte more false e = refl
other_byte more true e = absurd (cc)

begins_other : (d c : ℕ) (argument more : List ℕ) (sign : Sign) → argument ≡ c ∷ more
    → spelled sign (d ∷ []) argument ≡ None → (d == c) ≡ false
begins_other d c argument more sign is none =
    other_byte more (d == c) (sym (ap (after_prefix (d ∷ [])) is)
    ∙ no_prefix sign (after_prefix (d ∷ []) argument) none)

abbrev sign_found : List ℕ → Option (Sign × List ℕ)
sign_found argument =
    option_or (spelled Equal (codes "=") argument)
    (option_or (spelled Contains (codes "~") argument)
    (option_or (spelled Glob (codes "#") argument)
    (spelled Regex (codes "/") argument)))

sign_way : (argument begin : List ℕ) (sign other : Sign)
    → spelled sign (sign_spelling sign) argument ≡ Some (other, begin) → argument ≡ sign_spelling other ++ begin
sign_way argument begin sign other e =
    let it = one_way sign other (sign_spelling sign) argument begin e in
    it.1 ∙ ap (λ s. sign_spelling s ++ begin) it.0

written_sign : (argument begin : List ℕ) (sign : Sign) → sign_found argument ≡ Some (sign, begin)
    → argument ≡ sign_spelling sign ++ begin
written_sign argument begin sign =
    either_way (argument ≡ sign_spelling sign ++ begin) _ _ (sign, begin) (sign_way argument begin Equal sign)
    (either_way (argument ≡ sign_spelling sign ++ begin) _ _ (sign, begin) (sign_way argument begin Contains sign)
    (either_way (argument ≡ sign_spelling sign ++ begin) _ _ (sign, begin) (sign_way argument begin Glob sign)
    (sign_way argument begin Regex sign)))

no_sign : (argument : List ℕ) (c : ℕ) (more : List ℕ) → sign_found argument ≡ None → argument ≡ c ∷ more
    → is_none_of (codes "=~#/") c ≡ true
no_sign argument c more none is =
    let first = none_of_both (spelled Equal (codes "=") argument) _ none in
    let second = none_of_both (spelled Contains (codes "~") argument) _ first.1 in
    let third = none_of_both (spelled Glob (codes "#") argument) (spelled Regex (codes "/") argument) second.1 in
    rw (
      begins_other 61 c argument more Equal is first.0,
      begins_other 126 c argument more Contains is second.0,
      begins_other 35 c argument more Glob is third.0,
      begins_other 47 c argument more Regex is third.1,
    ) refl

sign_is : (field : Field) (argument : List ℕ) (found : Option (Sign × List ℕ)) → sign_found argument ≡ found
    → SignIs field argument (sign_of field argument found)
sign_is field argument None is = (refl, refl, λ c more begins. no_sign argument c more is begins)
sign_is field argument (Some found) is = written_sign argument found.1 found.0 is

-- What is read behind a sign is spelled.
abbrev BodyBefore : Sign → List ℕ → List ℕ → List ℕ → Type 0
BodyBefore sign bytes begin rest =
    (written : List ℕ) × SpellsBody sign bytes written × (begin ≡ written ++ (41 ∷ rest))

filled_before : (begin : List ℕ) (body : Body) (pair : List ℕ × List ℕ) → text_in begin ≡ Ok body
    → closed_in body.behind ≡ Ok pair
    → (written : List ℕ) × SpellsFilled body.bytes written × (begin ≡ written ++ (41 ∷ pair.1))
filled_before begin body pair is closed =
    let at = text_in_spelled begin body is in
    (at.0, at.1, at.2 ∙ ap (λ l. at.0 ++ l) (closes_at body pair at.3 at.4 closed))

body_before : (sign : Sign) (begin : List ℕ) (body : Body) (pair : List ℕ × List ℕ) → body_behind sign begin ≡ Ok body
    → closed_in body.behind ≡ Ok pair → BodyBefore sign body.bytes begin pair.1
body_before Equal begin body pair is closed = filled_before begin body pair is closed
body_before Contains begin body pair is closed = filled_before begin body pair is closed
body_before Glob begin body pair is closed = filled_before begin body pair is closed
body_before Regex begin body pair is closed =
    let at = regex_in_spelled begin body is in
    let blank = skipped_are body.behind in
    let last : body.behind ≡ blank.0 ++ (41 ∷ pair.1) =
    blank.2 ∙ ap (λ l. blank.0 ++ l) (closed_spelled body.behind pair closed) in (
      at.0 ++ blank.0,
      (at.0, blank.0, at.1, blank.1, refl),
      at.2 ∙ ap (λ l. at.0 ++ l) last ∙ sym (append_assoc at.0 blank.0 (41 ∷ pair.1)),
    )

regex_begins : (bytes text : List ℕ) → SpellsRegex bytes text → (c : ℕ) × (more : List ℕ) × (text ≡ c ∷ more)
regex_begins bytes text closing = (47, [], refl)
regex_begins bytes text (escaped_slash bs t spells) = (92, 47 ∷ t, refl)
regex_begins bytes text (bare c bs t other last spells) = (c, t, refl)

body_begins : (sign : Sign) (bytes written : List ℕ) → SpellsBody sign bytes written
    → (c : ℕ) × (more : List ℕ) × (written ≡ c ∷ more)
body_begins Equal bytes written is = text_begins bytes written is.1 is.0
body_begins Contains bytes written is = text_begins bytes written is.1 is.0
body_begins Glob bytes written is = text_begins bytes written is.1 is.0
body_begins Regex bytes written (text, blanks, spells, are, split) =
    let it = regex_begins bytes text spells in (it.0, it.1 ++ blanks, split ∙ ap (λ l. l ++ blanks) it.2)

abbrev ArgumentIn : Field → Sign → Bool → List ℕ → List ℕ → List ℕ → Type 0
ArgumentIn field sign is_default bytes inside rest = (blanks : List ℕ) × (argument : List ℕ) × AreBlanks blanks
    × SpellsArgument field sign is_default bytes argument × (inside ≡ (blanks ++ argument) ++ (41 ∷ rest))

argument_in : (field : Field) (sign : Sign) (is_default : Bool) (bytes inside begin rest : List ℕ)
    → SignIs field (skipped inside) (sign, is_default, begin) → BodyBefore sign bytes begin rest
    → ArgumentIn field sign is_default bytes inside rest
argument_in field sign true bytes inside begin rest (own, same, none) (written, spells, split) =
    let first = body_begins sign bytes written spells in
    let begins : skipped inside ≡ written ++ (41 ∷ rest) = same ∙ split in
    let blank = skipped_are inside in
    let unsigned : BeginsUnsigned (first.0 ∷ first.1) =
    none first.0 (first.1 ++ (41 ∷ rest)) (begins ∙ ap (λ l. l ++ (41 ∷ rest)) first.2) in (
      blank.0,
      written,
      blank.1,
      (
        own,
        begins_unblank inside written rest first.0 first.1 first.2 begins,
        subst BeginsUnsigned (sym first.2) unsigned,
        spells,
      ),
      blank.2 ∙ ap (λ l. blank.0 ++ l) begins ∙ sym (append_assoc blank.0 written (41 ∷ rest)),
    )
argument_in field sign false bytes inside begin rest same (written, spells, split) =
    let blank = skipped_are inside in (
      blank.0,
      sign_spelling sign ++ written,
      blank.1,
      (written, spells, refl),
      blank.2
          ∙ ap (λ l. blank.0 ++ l) (same ∙ ap (λ l. sign_spelling sign ++ l) split
          ∙ sym (append_assoc (sign_spelling sign) written (41 ∷ rest)))
          ∙ sym (append_assoc blank.0 (sign_spelling sign ++ written) (41 ∷ rest)),
    )

meaning_kept : {L : Type 0} (sign : Sign) (start end : List ℕ) (read : Result L PatternFault) (meaning : L)
    → meaning_of sign start end read ≡ Ok meaning → read ≡ Ok meaning
meaning_kept sign start end (Ok m) meaning e = let same : m ≡ meaning = cc in ap Ok same
meaning_kept sign start end (Err fault) meaning e = absurd (cc)

abbrev pattern_at : {L : Type 0} → Field → Sign → Bool → List ℕ → List ℕ → L → Pattern L
pattern_at field sign is_default bytes written meaning = record {
  field = field;
  sign = sign;
  is_default = is_default;
  text = bytes;
  written = written;
  meaning = meaning;
}

pattern_spelled : {L : Type 0} (compiler : Compiler L) (field : Field) (start inside : List ℕ) (sign : Sign)
    (is_default : Bool) (begin : List ℕ) (found : PredicateRead L)
    → SignIs field (skipped inside) (sign, is_default, begin)
    → signed_in compiler field start inside (sign, is_default, begin) ≡ Ok found
    → AskedInside compiler (Matches field) start inside found
pattern_spelled {L} compiler field start inside sign is_default begin found signs e =
    let last : List ℕ → L → List ℕ × List ℕ → Result (PredicateRead L) Misreading =
    λ bytes m pair. Ok (asking (OfName (pattern_at field sign is_default bytes (before_rest start pair.1) m)) inside
    pair) in
    let first = bound_ok (body_behind sign begin)
    (λ body. meaning_of sign begin body.end (compiler field sign body.bytes)
    >>= (λ m. closed_in body.behind >>= last body.bytes m)) found e in
    let body = first.0 in
    let second = bound_ok (meaning_of sign begin body.end (compiler field sign body.bytes))
    (λ m. closed_in body.behind >>= last body.bytes m) found first.2 in
    let meaning = second.0 in
    let third = bound_ok (closed_in body.behind) (last body.bytes meaning) found second.2 in
    let pair = third.0 in
    let same : asking (OfName
    (pattern_at field sign is_default body.bytes (before_rest start pair.1) meaning)) inside pair
    ≡ found = cc in
    let rest : pair.1 ≡ found.rest = ap (λ (p : PredicateRead L). p.rest) same in
    let at = argument_in field sign is_default body.bytes inside begin pair.1 signs
    (body_before sign begin body pair first.1 third.1) in (
      at.0 ++ at.1,
      at.4 ∙ ap (λ r. (at.0 ++ at.1) ++ (41 ∷ r)) rest,
      λ spelling whole call. subst (λ q. SpellsQuestion compiler q spelling)
          (ap (λ (p : PredicateRead L). p.question) same) (
            at.0,
            at.1,
            at.2,
            at.3,
            call,
            ap (λ r. before_rest start r) rest ∙ ap (λ s. before_rest s found.rest) whole
                ∙ before_own spelling found.rest,
            meaning_kept sign begin body.end (compiler field sign body.bytes) meaning second.1,
          ),
    )

matching_spelled : {L : Type 0} (compiler : Compiler L) (field : Field) (start inside : List ℕ)
    (found : PredicateRead L) → matching_in compiler field start inside ≡ Ok found
    → AskedInside compiler (Matches field) start inside found
matching_spelled compiler field start inside found e =
    let sign = sign_in field (skipped inside) in
    pattern_spelled compiler field start inside sign.0 sign.1 sign.2 found
    (sign_is field (skipped inside) (sign_found (skipped inside)) refl) e

worded_spelled : {L : Type 0} (compiler : Compiler L) (word : Word) (start inside : List ℕ) (found : PredicateRead L)
    → worded_in compiler word start inside ≡ Ok found → AskedInside compiler word start inside found
worded_spelled compiler All start inside found e =
    let it = bare_spelled Always inside found e in (
      it.0,
      it.3,
      λ spelling whole call. subst (λ q. SpellsQuestion compiler q spelling) (sym it.4)
          (it.0, it.1, it.2, call),
    )
worded_spelled compiler Nothing start inside found e =
    let it = bare_spelled Never inside found e in (
      it.0,
      it.3,
      λ spelling whole call. subst (λ q. SpellsQuestion compiler q spelling) (sym it.4)
          (it.0, it.1, it.2, call),
    )
worded_spelled compiler Default start inside found e =
    let it = bare_spelled TheDefault inside found e in (
      it.0,
      it.3,
      λ spelling whole call. subst (λ q. SpellsQuestion compiler q spelling) (sym it.4)
          (it.0, it.1, it.2, call),
    )
worded_spelled compiler Platform start inside found e = platform_spelled compiler start inside found e
worded_spelled compiler (Matches field) start inside found e = matching_spelled compiler field start inside found e

pub predicate_spelled : {L : Type 0} (compiler : Compiler L) (word : Word) (text behind : List ℕ)
    (found : PredicateRead L) → word_in text ≡ Some (word, behind)
    → predicate_in compiler word text behind ≡ Ok found
    → (spelling : List ℕ) × SpellsQuestion compiler found.question spelling × (text ≡ spelling ++ found.rest)
predicate_spelled compiler word text behind found is e =
    let it = bound_ok (opened_in behind) (worded_in compiler word text) found e in
    let open' = opened_spelled behind it.0 it.1 in
    let at = worded_spelled compiler word text it.0 found it.2 in
    let spelling = word_bytes word ++ (open'.0 ++ (40 ∷ (at.0 ++ codes ")"))) in
    let whole : text ≡ spelling ++ found.rest =
    word_spelled text behind word is
    ∙ ap (λ l. word_bytes word ++ l) (open'.2 ∙ ap (λ l. open'.0 ++ (40 ∷ l)) at.1)
    ∙ sym (call_text (word_bytes word) open'.0 at.0 found.rest) in
    (spelling, at.2 spelling whole (open'.0, open'.1, refl), whole)
