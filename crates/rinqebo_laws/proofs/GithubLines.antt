-- Findings are commands of GitHub's workflows on a line each.
use Rattle.std.proofs.Common.{◌≡◌, ◌≢◌, ◌<◌, ◌≤◌, ◌%◌, ◌==◌, ◌||◌, not, ℕ, Bool, true, false, cond, List, [], ◌∷◌, ◌++◌, Option, None, Some, chars, codes, decimal, encode_utf8, flat_map, length, string_bytes, refl, append_assoc, arith}
use Rattle.std.proofs.lemmas.Bool.Decides.{nat_tests}
use Rattle.std.specs.Fmt.{digit_glyph}
use Rattle.std.specs.List.{AllByRecursion, list_all}
use Rattle.rinqebo_laws.proofs.Encoded.{all_each, digits_all, encoded_all, passing}
use Rattle.rinqebo_laws.proofs.OneLine.{feeds_each}
use Rattle.rinqebo_laws.specs.Lines.{HasNo, IsOneLine, carriage_return, colon, comma, line_feed, line_feeds}
use Rattle.nextest_documents.proofs.Lists.{all_append, all_map}
use Rattle.rinqebo_report.specs.Advice.{message_with_advice}
use Rattle.rinqebo_report.specs.Github.{columns_property, file_at, file_property, github_line, github_text, lines_property, message_char, path_property, properties_text, property_char, range_property}
use Rattle.rinqebo_report.specs.OriginText.{below}
use Rattle.rinqebo_report.specs.Pages.{level_word}
use Rattle.rinqebo_report.specs.declared.finding.Finding.{Finding}
use Rattle.rinqebo_report.specs.declared.finding.Level.{Level}
use Rattle.rinqebo_report.specs.declared.finding.Level.TheVariants as levels
use Rattle.rinqebo_report.specs.declared.origin.FileLines.{FileLines}
use Rattle.rinqebo_report.specs.declared.origin.FilePlace.{FilePlace}
use Rattle.rinqebo_report.specs.declared.origin.Range.{Range}
use Rattle.rinqebo_report.specs.declared.origin.Source.{Source}
use Rattle.rinqebo_report.specs.declared.report.Report.{Report}

-- whether a byte ends no line, no list of properties, and no property
abbrev in_line : ℕ → Bool
in_line b = not (b == 10 || b == 13)

abbrev in_properties : ℕ → Bool
in_properties b = not (b == 10 || b == 13 || b == 58)

abbrev in_value : ℕ → Bool
in_value b = not (b == 10 || b == 13 || b == 58 || b == 44)

abbrev AreIn : (ℕ → Bool) → List ℕ → Type 0
AreIn test text = AllByRecursion (λ b. test b ≡ true) text

joined : (test : ℕ → Bool) (a b : List ℕ) → AreIn test a → AreIn test b → AreIn test (a ++ b)
joined test a b h k = all_append (λ b. test b ≡ true) a b h k

-- a character of a message
message_in : (test : ℕ → Bool) → list_all test (codes "%250DA") ≡ true → ((b : ℕ) → 128 ≤ b → test b ≡ true)
    → (c : ℕ) → (c ≢ 10 → c ≢ 13 → test c ≡ true) → AreIn test (message_char c)
message_in test signs high c low =
    let sign = passing test (codes "%250DA") signs in
    let P : Bool → Bool → Bool → Type 0 = λ p r f. (c == 13) ≡ r → (c == 10) ≡ f
    → AreIn test (cond p (codes "%25") (cond r (codes "%0D") (cond f (codes "%0A") (encode_utf8 c)))) in
    let all : (p r f : Bool) → P p r f = λ p r f. elim p as (λ p. P p r f) [
      | true ↦ (λ d e. (sign.0, (sign.1.0, (sign.1.1.0, tt))))
      | false ↦ (elim r as (λ r. P false r f) [
        | true ↦ (λ d e. (sign.0, (sign.1.1.1.0, (sign.1.1.1.1.0, tt))))
        | false ↦ (elim f as (λ f. P false false f) [
          | true ↦ (λ d e. (sign.0, (sign.1.1.1.0, (sign.1.1.1.1.1.0, tt))))
          | false ↦ (λ d e. encoded_all (λ b. test b ≡ true) high c
              (λ small. low (grind (arith, nat_tests)) (grind (arith, nat_tests))))
        ])
      ])
    ] in
    all (c == 37) (c == 13) (c == 10) refl refl

message_line : (c : ℕ) → AreIn in_line (message_char c)
message_line c =
    message_in in_line refl (λ b high. grind (arith, nat_tests)) c (λ a b. grind (arith, nat_tests))

-- a character of a property
property_in : (c : ℕ) → AreIn in_value (property_char c)
property_in c =
    let P : Bool → Bool → Type 0 = λ a b. (c == 58) ≡ a → (c == 44) ≡ b
    → AreIn in_value (cond a (codes "%3A") (cond b (codes "%2C") (message_char c))) in
    let all : (a b : Bool) → P a b = λ a b. elim a as (λ a. P a b) [
      | true ↦ (λ d e. passing in_value (codes "%3A") refl)
      | false ↦ (elim b as (λ b. P false b) [
        | true ↦ (λ d e. passing in_value (codes "%2C") refl)
        | false ↦ (λ d e. message_in in_value refl (λ b high. grind (arith, nat_tests)) c
            (λ x y. grind (arith, nat_tests)))
      ])
    ] in
    all (c == 58) (c == 44) refl refl

value_in : (text : List ℕ) → AreIn in_value (flat_map property_char (chars text))
value_in text = all_each (λ b. in_value b ≡ true) property_char property_in (chars text)

-- properties
weaker : (b : ℕ) → in_value b ≡ true → in_properties b ≡ true
weaker b h = grind (arith, nat_tests)

value_here : (text : List ℕ) → AreIn in_properties (flat_map property_char (chars text))
value_here text =
    all_map (λ b. in_value b ≡ true) (λ b. in_properties b ≡ true) (flat_map property_char (chars text)) weaker
    (value_in text)

glyph_in : (n : ℕ) → n < 10 → in_properties (digit_glyph false n) ≡ true
glyph_in n h = grind (arith, nat_tests)

number_in : (n : ℕ) → AreIn in_properties (decimal n)
number_in n = digits_all (λ b. in_properties b ≡ true) 10 (λ n. glyph_in (n % 10) (omega arith)) n

sign : (text : List ℕ) → list_all in_properties text ≡ true → AreIn in_properties text
sign text h = passing in_properties text h

-- two numbers, each behind its name
numbers_in : (name other : List ℕ) (n m : ℕ) → AreIn in_properties name → AreIn in_properties other
    → AreIn in_properties (name ++ (decimal n ++ (other ++ (decimal m ++ codes ","))))
numbers_in name other n m h k =
    let add = joined in_properties in
    add name _ h (add (decimal n) _ (number_in n)
    (add other _ k (add (decimal m) _ (number_in m) (sign (codes ",") refl))))

lines_in : (lines : Option FileLines) → AreIn in_properties (lines_property lines)
lines_in None = tt
lines_in (Some lines) =
    numbers_in (codes "line=") (codes ",endLine=") lines.first lines.last (sign (codes "line=") refl)
    (sign (codes ",endLine=") refl)

columns_in : (range : Range) → AreIn in_properties (columns_property range)
columns_in range =
    let all : List ℕ = codes "col=" ++ (decimal range.start.column
    ++ (codes ",endColumn=" ++ (decimal range.end.column ++ codes ","))) in
    let P : Bool → Type 0 = λ b. AreIn in_properties (cond b all []) in
    elim (range.start.line == range.end.line) as P [
      | true ↦ numbers_in (codes "col=") (codes ",endColumn=") range.start.column range.end.column
          (sign (codes "col=") refl) (sign (codes ",endColumn=") refl)
      | false ↦ tt
    ]

range_in : (range : Option Range) (lines : Option FileLines) → AreIn in_properties (range_property range lines)
range_in None lines = lines_in lines
range_in (Some range) lines =
    let own : Option FileLines = Some (record { first = range.start.line; last = range.end.line }) in
    joined in_properties (lines_property own) (columns_property range) (lines_in own) (columns_in range)

path_in : (workspace : List ℕ) (place : FilePlace) (path : Option (List ℕ))
    → AreIn in_properties (path_property workspace place path)
path_in workspace place None = tt
path_in workspace place (Some path) =
    let add = joined in_properties in
    add (codes "file=") _ (sign (codes "file=") refl) (add _ _ (value_here (below workspace path))
    (add (codes ",") _ (sign (codes ",") refl) (range_in place.range place.lines)))

file_in : (workspace : List ℕ) (sources : List Source) (place : Option FilePlace)
    → AreIn in_properties (file_property workspace sources place)
file_in workspace sources None = tt
file_in workspace sources (Some place) = path_in workspace place (file_at sources place.source)

properties_in : (workspace : List ℕ) (sources : List Source) (finding : Finding)
    → AreIn in_properties (properties_text workspace sources finding)
properties_in workspace sources finding =
    let add = joined in_properties in
    add _ _ (file_in workspace sources finding.place)
    (add (codes "title=") _ (sign (codes "title=") refl) (value_here (string_bytes finding.code)))

-- a command
level_in : (level : Level) → AreIn in_line (level_word level)
level_in levels.Error = passing in_line (codes "error") refl
level_in levels.Warning = passing in_line (codes "warning") refl

in_a_line : (b : ℕ) → in_properties b ≡ true → in_line b ≡ true
in_a_line b h = grind (arith, nat_tests)

abbrev command_of : List ℕ → List ℕ → List ℕ → List ℕ
command_of level properties message =
    codes "::" ++ (level ++ (codes " " ++ (properties ++ (codes "::" ++ message))))

ends_behind : (level properties message end : List ℕ)
    → command_of level properties (message ++ end) ≡ command_of level properties message ++ end
ends_behind level properties message end = simp append_assoc refl

command_in : (workspace : List ℕ) (sources : List Source) (finding : Finding)
    → AreIn in_line (command_of (level_word finding.level) (properties_text workspace sources finding)
    (flat_map message_char (chars (message_with_advice finding))))
command_in workspace sources finding =
    let add = joined in_line in
    let properties : List ℕ = properties_text workspace sources finding in
    add (codes "::") _ (passing in_line (codes "::") refl) (add _ _ (level_in finding.level)
    (add (codes " ") _ (passing in_line (codes " ") refl)
    (add properties _ (all_map (λ b. in_properties b ≡ true) (λ b. in_line b ≡ true) properties in_a_line
    (properties_in workspace sources finding)) (add (codes "::") _ (passing in_line (codes "::") refl)
    (all_each (λ b. in_line b ≡ true) message_char message_line (chars (message_with_advice finding)))))))

no_feed_in : (b : ℕ) → in_line b ≡ true → b ≢ line_feed
no_feed_in b h = grind (arith, nat_tests)

no_return_in : (b : ℕ) → in_line b ≡ true → b ≢ carriage_return
no_return_in b h = grind (arith, nat_tests)

no_colon_in : (b : ℕ) → in_properties b ≡ true → b ≢ colon
no_colon_in b h = grind (arith, nat_tests)

no_comma_in : (b : ℕ) → in_value b ≡ true → b ≢ comma
no_comma_in b h = grind (arith, nat_tests)

pub github_is_one_line : (workspace : List ℕ) (sources : List Source) (finding : Finding)
    → IsOneLine (github_line workspace sources finding)
github_is_one_line workspace sources finding =
    let level : List ℕ = level_word finding.level in
    let properties : List ℕ = properties_text workspace sources finding in
    let message : List ℕ = flat_map message_char (chars (message_with_advice finding)) in
    let line : List ℕ = command_of level properties message in
    record {
      line = line;
      ends = ends_behind level properties message (10 ∷ []);
      no_feed = all_map (λ b. in_line b ≡ true) (λ b. b ≢ line_feed) line no_feed_in
          (command_in workspace sources finding);
      no_return = all_map (λ b. in_line b ≡ true) (λ b. b ≢ carriage_return) line no_return_in
          (command_in workspace sources finding);
    }

pub github_feeds : (workspace : List ℕ) (report : Report)
    → line_feeds (github_text workspace report) ≡ length report.findings.items
github_feeds workspace report =
    feeds_each (github_line workspace report.sources.items) (github_is_one_line workspace report.sources.items)
    report.findings.items

pub properties_no_colon : (workspace : List ℕ) (sources : List Source) (finding : Finding)
    → HasNo colon (properties_text workspace sources finding)
properties_no_colon workspace sources finding =
    all_map (λ b. in_properties b ≡ true) (λ b. b ≢ colon) (properties_text workspace sources finding) no_colon_in
    (properties_in workspace sources finding)

pub value_parts : (text : List ℕ)
    → HasNo colon (flat_map property_char (chars text)) × HasNo comma (flat_map property_char (chars text))
value_parts text = (
  all_map (λ b. in_properties b ≡ true) (λ b. b ≢ colon) (flat_map property_char (chars text)) no_colon_in
      (value_here text),
  all_map (λ b. in_value b ≡ true) (λ b. b ≢ comma) (flat_map property_char (chars text)) no_comma_in (value_in text),
)
