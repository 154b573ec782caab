-- How texts write marks: each is spelled behind blanks, one after another. Nothing here reads.
use Rattle.std.specs.Prelude.{◌≡◌, ◌≢◌, ℕ, Bool, true, false, not, ◌⊎◌, List, [], ◌∷◌, ◌++◌, Some, Ok, codes}
use Rattle.std.specs.List.{list_all}
use Rattle.std.specs.Char.{char_set_contains, encode_utf8}
use Rattle.std.specs.Str.{trim}
use Rattle.nextest_engines.specs.declared.queries.BuildPlatform.{BuildPlatform}
use Rattle.nextest_engines.specs.declared.queries.BuildPlatform.TheVariants.{Host, Target}
use Rattle.nextest_engines.specs.declared.queries.FiltersetKind.{FiltersetKind}
use Rattle.filter_language.specs.declared.words.Field.{Field}
use Rattle.filter_language.specs.declared.words.Field.TheVariants.{TestName, Package, Deps, Rdeps, BinaryId, BinaryName, Kind, Group}
use Rattle.filter_language.specs.declared.words.Sign.{Sign}
use Rattle.filter_language.specs.declared.words.Sign.TheVariants.{Equal, Contains, Glob, Regex}
use Rattle.filter_language.specs.Texts.{is_blank}
use Rattle.filter_language.specs.Formula.{Pattern, Question, Always, Never, TheDefault, OfPlatform, OfName, Formula}
use Rattle.filter_language.specs.Grammar.{Mark, Asked, NotMark, OpenMark, CloseMark, AndMark, OrMark, MinusMark, Spells, NestsWithin, WritesAFilter}
use Rattle.filter_language.specs.Bans.{are_allowed}
use Rattle.filter_language.specs.Arguments.{hex_in, scalar_in}
use Rattle.filter_language.specs.Predicates.{Compiler, default_sign}

-- Each byte is blank: a space, a line feed, or a carriage return with the line feed behind it.
abbrev pub AreBlanks : List ℕ → Type 0
AreBlanks [] = Unit {0}
AreBlanks (c ∷ text) = (is_blank c text ≡ true) × AreBlanks text

-- A text begins, and with no blank.
abbrev pub BeginsUnblank : List ℕ → Type 0
BeginsUnblank [] = ⊥
BeginsUnblank (c ∷ text) = is_blank c text ≡ false

-- A byte is none of some.
abbrev pub is_none_of : List ℕ → ℕ → Bool
is_none_of stops c = not (char_set_contains stops c)

-- A character is escaped so, behind a `\`.
pub data SpellsEscape : ℕ → List ℕ → Type 0 where
  line_feed : SpellsEscape 10 (codes "n")
  carriage_return : SpellsEscape 13 (codes "r")
  tab : SpellsEscape 9 (codes "t")
  backslash : SpellsEscape 92 (codes "\\")
  slash : SpellsEscape 47 (codes "/")
  parenthesis : SpellsEscape 41 (codes ")")
  comma : SpellsEscape 44 (codes ",")
  of_number : (digits : List ℕ) (number c : ℕ) → hex_in digits ≡ Some number
      → scalar_in number ≡ Some c → SpellsEscape c (codes "u{" ++ (digits ++ codes "}"))

-- Bytes are written so: a byte other than `,` `)` `\` as it is, and any character by an escape.
pub data SpellsText : List ℕ → List ℕ → Type 0 where
  no_text : SpellsText [] []
  plain : (c : ℕ) (bytes text : List ℕ) → is_none_of (codes ",)\\") c ≡ true
      → SpellsText bytes text → SpellsText (c ∷ bytes) (c ∷ text)
  escaped : (c : ℕ) (escape bytes text : List ℕ) → SpellsEscape c escape
      → SpellsText bytes text → SpellsText (encode_utf8 c ++ bytes) (codes "\\" ++ (escape ++ text))

-- The bytes of a regex are written so, up to its closing `/`: a `/` as `\/`, and another byte as
-- it is. No `\` is before the closing `/`.
pub data SpellsRegex : List ℕ → List ℕ → Type 0 where
  closing : SpellsRegex [] (codes "/")
  escaped_slash : (bytes text : List ℕ) → SpellsRegex bytes text
      → SpellsRegex (codes "/" ++ bytes) (codes "\\/" ++ text)
  bare : (c : ℕ) (bytes text : List ℕ) → c ≢ 47 → (c ≡ 92 → bytes ≢ [])
      → SpellsRegex bytes text → SpellsRegex (c ∷ bytes) (c ∷ text)

-- A text of at least one character.
abbrev pub SpellsFilled : List ℕ → List ℕ → Type 0
SpellsFilled bytes text = (bytes ≢ []) × SpellsText bytes text

-- What is behind a sign: a text, or a regex with blanks behind it.
abbrev pub SpellsBody : Sign → List ℕ → List ℕ → Type 0
SpellsBody Equal bytes body = SpellsFilled bytes body
SpellsBody Contains bytes body = SpellsFilled bytes body
SpellsBody Glob bytes body = SpellsFilled bytes body
SpellsBody Regex bytes body = (text : List ℕ) × (blanks : List ℕ) × SpellsRegex bytes text
    × AreBlanks blanks × (body ≡ text ++ blanks)

abbrev pub sign_spelling : Sign → List ℕ
sign_spelling Equal = codes "="
sign_spelling Contains = codes "~"
sign_spelling Glob = codes "#"
sign_spelling Regex = codes "/"

-- A text begins with none of the signs.
abbrev pub BeginsUnsigned : List ℕ → Type 0
BeginsUnsigned [] = ⊥
BeginsUnsigned (c ∷ text) = is_none_of (codes "=~#/") c ≡ true

-- An argument: a text by the field's own sign, which begins with no sign and no blank; or a sign
-- that is written, and its text or regex.
abbrev pub SpellsArgument : Field → Sign → Bool → List ℕ → List ℕ → Type 0
SpellsArgument field sign true bytes argument = (sign ≡ default_sign field)
    × BeginsUnblank argument × BeginsUnsigned argument × SpellsBody sign bytes argument
SpellsArgument field sign false bytes argument =
    (body : List ℕ) × SpellsBody sign bytes body × (argument ≡ sign_spelling sign ++ body)

abbrev pub field_word : Field → List ℕ
field_word TestName = codes "test"
field_word Package = codes "package"
field_word Deps = codes "deps"
field_word Rdeps = codes "rdeps"
field_word BinaryId = codes "binary_id"
field_word BinaryName = codes "binary"
field_word Kind = codes "kind"
field_word Group = codes "group"

abbrev pub platform_name : BuildPlatform → List ℕ
platform_name Host = codes "host"
platform_name Target = codes "target"

-- A word, blanks, and parentheses with something inside.
abbrev pub SpellsCall : List ℕ → List ℕ → List ℕ → Type 0
SpellsCall word inside spelling = (blanks : List ℕ) × AreBlanks blanks
    × (spelling ≡ word ++ (blanks ++ (codes "(" ++ (inside ++ codes ")"))))

-- A set without an argument: white space alone is in its parentheses.
abbrev pub SpellsBare : List ℕ → List ℕ → Type 0
SpellsBare word spelling = (white : List ℕ) × (trim white ≡ [])
    × (list_all (is_none_of (codes ")")) white ≡ true) × SpellsCall word white spelling

-- The set of what is built for a platform: a text that is its name, with white space around it.
abbrev pub SpellsPlatform : BuildPlatform → List ℕ → Type 0
SpellsPlatform p spelling = (blanks : List ℕ) × (bytes : List ℕ) × (text : List ℕ)
    × AreBlanks blanks × BeginsUnblank text × SpellsFilled bytes text
    × (trim bytes ≡ platform_name p) × SpellsCall (codes "platform") (blanks ++ text) spelling

-- The set of what a pattern matches, which has a meaning.
abbrev pub SpellsPattern : {L : Type 0} → Compiler L → Pattern L → List ℕ → Type 0
SpellsPattern compiler p spelling = (blanks : List ℕ) × (argument : List ℕ) × AreBlanks blanks
    × SpellsArgument p.field p.sign p.is_default p.text argument
    × SpellsCall (field_word p.field) (blanks ++ argument) spelling
    × (p.written ≡ spelling) × (compiler p.field p.sign p.text ≡ Ok p.meaning)

abbrev pub SpellsQuestion : {L : Type 0} → Compiler L → Question L → List ℕ → Type 0
SpellsQuestion compiler Always spelling = SpellsBare (codes "all") spelling
SpellsQuestion compiler Never spelling = SpellsBare (codes "none") spelling
SpellsQuestion compiler TheDefault spelling = SpellsBare (codes "default") spelling
SpellsQuestion compiler (OfPlatform p) spelling = SpellsPlatform p spelling
SpellsQuestion compiler (OfName p) spelling = SpellsPattern compiler p spelling

-- A mark is spelled so.
abbrev pub SpellsMark : {L : Type 0} → Compiler L → Mark L → List ℕ → Type 0
SpellsMark compiler (Asked q) spelling = SpellsQuestion compiler q spelling
SpellsMark compiler NotMark spelling = (spelling ≡ codes "not ") ⊎ (spelling ≡ codes "!")
SpellsMark compiler OpenMark spelling = spelling ≡ codes "("
SpellsMark compiler CloseMark spelling = spelling ≡ codes ")"
SpellsMark compiler AndMark spelling = (spelling ≡ codes "and ") ⊎ (spelling ≡ codes "&")
SpellsMark compiler OrMark spelling =
    (spelling ≡ codes "or ") ⊎ ((spelling ≡ codes "|") ⊎ (spelling ≡ codes "+"))
SpellsMark compiler MinusMark spelling = spelling ≡ codes "-"

-- A text writes marks: each behind blanks, and blanks at the end.
abbrev pub Writes : {L : Type 0} → Compiler L → List ℕ → List (Mark L) → Type 0
Writes compiler text [] = AreBlanks text
Writes compiler text (m ∷ marks) = (blanks : List ℕ) × (spelling : List ℕ) × (rest : List ℕ)
    × AreBlanks blanks × SpellsMark compiler m spelling × (text ≡ blanks ++ (spelling ++ rest))
    × Writes compiler rest marks

-- A text writes a filter: it writes marks that spell one, and that nests within the bound.
abbrev pub WritesFilter : {L : Type 0} → Compiler L → List ℕ → Formula L → Type 0
WritesFilter {L} compiler text f =
    (marks : List (Mark L)) × Writes compiler text marks × Spells marks f × NestsWithin f

-- A text is a filter for a kind, of these marks: it writes them, they write a filter that nests
-- within the bound, and each may be in a filter of the kind, as far as packages are known.
abbrev pub IsFilter : {L : Type 0} → Compiler L → Bool → FiltersetKind → List ℕ → List (Mark L)
    → Type 0
IsFilter compiler knows_packages kind text marks = Writes compiler text marks
    × WritesAFilter marks × (are_allowed kind knows_packages marks ≡ true)

-- A text is not a filter for a kind.
abbrev pub IsNoFilter : {L : Type 0} → Compiler L → Bool → FiltersetKind → List ℕ → Type 0
IsNoFilter {L} compiler knows_packages kind text =
    (marks : List (Mark L)) → ¬ (IsFilter compiler knows_packages kind text marks)
