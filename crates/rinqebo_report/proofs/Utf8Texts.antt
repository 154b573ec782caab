-- Origins and parts of headers are UTF-8.
use Rattle.std.proofs.Common.{◌≡◌, ◌<◌, ◌≤◌, ◌+◌, ◌/◌, ◌%◌, ◌==◌, ◌||◌, ℕ, zero, suc, Bool, true, false, cond, List, [], ◌∷◌, ◌++◌, Option, None, Some, codes, decimal, drop, eqb, flat_map, get_or, length, option_and_then, option_map, refl, slice_get, String, string_bytes, subst, sym, take, unwrap_or, arith}
use Rattle.std.proofs.Math.Utf8.{scalar, scalars}
use Rattle.std.proofs.lemmas.Bool.{and_parts}
use Rattle.std.proofs.lemmas.Bool.Decides.{nat_tests}
use Rattle.std.proofs.lemmas.List.{drop_at, take_at, length-append}
use Rattle.std.proofs.lemmas.Str.{IsUtf8-append, IsUtf8-drop, IsUtf8-encode, IsUtf8-from_ascii, IsUtf8-nil, IsUtf8-string_bytes, IsCharBoundary-from_take, scalars-chars}
use Rattle.std.specs.declared.alloc.Global.{Global}
use Rattle.std.specs.Char.{encode_utf8, is_control}
use Rattle.std.specs.Fmt.{digit_glyph, digits, digits_onto}
use Rattle.std.specs.Str.{chars, IsUtf8}
use Rattle.std.specs.List.{AllByRecursion}
use Rattle.rinqebo_report.proofs.Prefixes.{after_is}
use Rattle.rinqebo_report.specs.declared.origin.FileLines.{FileLines}
use Rattle.rinqebo_report.specs.declared.origin.FilePlace.{FilePlace}
use Rattle.rinqebo_report.specs.declared.origin.Origin.{Origin}
use Rattle.rinqebo_report.specs.declared.origin.Origin.TheVariants as origins
use Rattle.rinqebo_report.specs.declared.origin.Part.{Part}
use Rattle.rinqebo_report.specs.declared.origin.Part.TheVariants.{Fields, Override, Script}
use Rattle.rinqebo_report.specs.declared.origin.Position.{Position}
use Rattle.rinqebo_report.specs.declared.origin.Range.{Range}
use Rattle.rinqebo_report.specs.declared.origin.Source.{Source}
use Rattle.rinqebo_report.specs.declared.origin.SourceKind.{SourceKind}
use Rattle.rinqebo_report.specs.declared.origin.SourceKind.TheVariants as kinds
use Rattle.rinqebo_report.specs.declared.origin.Written.{Written}
use Rattle.rinqebo_report.specs.declared.report.Asked.{Asked}
use Rattle.rinqebo_report.specs.declared.report.BuiltFor.{BuiltFor}
use Rattle.rinqebo_report.specs.declared.report.BuiltFor.TheVariants as platforms
use Rattle.rinqebo_report.specs.declared.report.RunMode.{RunMode}
use Rattle.rinqebo_report.specs.declared.report.RunMode.TheVariants as modes
use Rattle.rinqebo_report.specs.declared.report.TestRows.{TestRows}
use Rattle.rinqebo_report.specs.Headers.{mode_word, platform_word, host_text, triple_of, profiles_part, mode_part, names_part, platform_part, build_parts}
use Rattle.rinqebo_report.specs.Joined.{joined}
use Rattle.rinqebo_report.specs.OriginText.{after_prefix, behind_root, below, ends_with_slash, lines_text, origin_text, origin_texts, part_text, path_at, path_text, place_text, position_text, range_text, tool_at, tool_of, tool_text, written_text}
use Rattle.rinqebo_report.specs.TomlText.{is_bare, key_text, quoted, toml_char}

-- a byte of ASCII
byte_low : (d i : ℕ) → d < 128 → get_or (d ∷ []) i 0 < 128
byte_low d zero low = low
byte_low d (suc i) low = omega arith

byte : (d : ℕ) → d < 128 → IsUtf8 (d ∷ [])
byte d low = IsUtf8-from_ascii (d ∷ []) (λ i. byte_low d i low)

glyph_low : (n : ℕ) → n < 16 → digit_glyph false n < 128
glyph_low n low = grind (arith, nat_tests)

-- digits
digits_onto_utf8 : (k n : ℕ) (behind : List ℕ) → IsUtf8 behind → IsUtf8 (digits_onto k 10 false n behind)
digits_onto_utf8 zero n behind h = h
digits_onto_utf8 (suc k) n behind h =
    let digit : ℕ = digit_glyph false (n % 10) in
    let more : IsUtf8 (digit ∷ behind) =
    IsUtf8-append (digit ∷ []) behind (byte digit (glyph_low (n % 10) (omega arith))) h in
    let P : Bool → Type 0 = λ b. IsUtf8 (cond b (digit ∷ behind) (digits_onto k 10 false (n / 10) (digit ∷ behind))) in
    elim (eqb (n / 10) 0) as P [ true ↦ more | false ↦ digits_onto_utf8 k (n / 10) (digit ∷ behind) more ]

decimal_utf8 : (n : ℕ) → IsUtf8 (decimal n)
unfolding digits
decimal_utf8 n = digits_onto_utf8 64 n [] IsUtf8-nil

-- a character within quotes
char_utf8 : (c : ℕ) → scalar c ≡ true → IsUtf8 (toml_char c)
unfolding encode_utf8
char_utf8 c s =
    let escaped : List ℕ = 92 ∷ c ∷ [] in
    let control : List ℕ = codes "\\u00" ++ digit_glyph false (c / 16) ∷ digit_glyph false (c % 16) ∷ [] in
    let P : Bool → Bool → Type 0 = λ a b. (c == 34 || c == 92) ≡ a → is_control c ≡ b
    → IsUtf8 (cond a escaped (cond b control (encode_utf8 c))) in
    let all : (a b : Bool) → P a b = λ a b. elim a as (λ a. P a b) [
      | true ↦ (λ e f. IsUtf8-append (92 ∷ []) (c ∷ []) (byte 92 (omega arith)) (byte c (grind (arith, nat_tests))))
      | false ↦ (elim b as (λ b. P false b) [
        | true ↦ (λ e f.
            let low : c < 160 = grind (arith, nat_tests) in
            let last : ℕ = digit_glyph false (c % 16) in
            IsUtf8-append (codes "\\u00") _ (codes "\\u00", (refl, refl))
            (IsUtf8-append (digit_glyph false (c / 16) ∷ []) (last ∷ []) (byte _ (glyph_low (c / 16) (omega arith)))
            (byte last (glyph_low (c % 16) (omega arith)))))
        | false ↦ (λ e f. IsUtf8-encode c s)
      ])
    ] in
    all (c == 34 || c == 92) (is_control c) refl refl

chars_utf8 : (cs : List ℕ) → scalars cs ≡ true → IsUtf8 (flat_map toml_char cs)
chars_utf8 [] e = IsUtf8-nil
chars_utf8 (c ∷ cs) e =
    let both = and_parts (scalar c) (scalars cs) e in
    IsUtf8-append (toml_char c) (flat_map toml_char cs) (char_utf8 c both.0) (chars_utf8 cs both.1)

key_utf8 : (key : List ℕ) → IsUtf8 key → IsUtf8 (key_text key)
key_utf8 key h =
    let quote : IsUtf8 (34 ∷ []) = byte 34 (omega arith) in
    let inside : List ℕ = flat_map toml_char (chars key) in
    let all : IsUtf8 (quoted key) = IsUtf8-append (34 ∷ []) (inside ++ 34 ∷ []) quote
    (IsUtf8-append inside (34 ∷ []) (chars_utf8 (chars key) (scalars-chars key h)) quote) in
    let P : Bool → Type 0 = λ b. IsUtf8 (cond b key (quoted key)) in
    elim (is_bare key) as P [ true ↦ h | false ↦ all ]

-- what follows a prefix
behind_utf8 : (prefix text rest : List ℕ) → IsUtf8 prefix → IsUtf8 text → after_prefix prefix text ≡ Some rest
    → IsUtf8 rest
behind_utf8 prefix text rest p t e =
    let is : text ≡ prefix ++ rest = after_is prefix text rest e in
    let whole : IsUtf8 (prefix ++ rest) = subst IsUtf8 is t in
    let n : ℕ = length prefix in
    let front : take n (prefix ++ rest) ≡ prefix = take_at prefix rest n refl in
    subst IsUtf8 (drop_at prefix rest n refl)
    (IsUtf8-drop (prefix ++ rest) n whole (IsCharBoundary-from_take (prefix ++ rest) n whole
    (omega (arith, length-append prefix rest)) (subst IsUtf8 (sym front) p)))

-- what follows a prefix, or else another text
found_utf8 : (prefix text other : List ℕ) → IsUtf8 prefix → IsUtf8 text → IsUtf8 other
    → IsUtf8 (unwrap_or (after_prefix prefix text) other)
found_utf8 prefix text other p t o =
    let cases : (found : Option (List ℕ)) → after_prefix prefix text ≡ found → IsUtf8 (unwrap_or found other) =
    λ found. elim found as (λ found. after_prefix prefix text ≡ found → IsUtf8 (unwrap_or found other)) [
      | None ↦ (λ e. o)
      | Some rest ↦ (λ e. behind_utf8 prefix text rest p t e)
    ] in
    cases (after_prefix prefix text) refl

-- the path of a source
below_utf8 : (root path : List ℕ) → IsUtf8 root → IsUtf8 path → IsUtf8 (below root path)
below_utf8 root path r p =
    let slash : IsUtf8 (codes "/") = byte 47 (omega arith) in
    let rest_of : (found : Option (List ℕ)) → after_prefix root path ≡ found → (ends : Bool)
    → IsUtf8 (unwrap_or (option_and_then (behind_root ends) found) path) =
    λ found. elim found as (λ found. after_prefix root path ≡ found → (ends : Bool)
    → IsUtf8 (unwrap_or (option_and_then (behind_root ends) found) path)) [
      | None ↦ (λ e ends. p)
      | Some rest ↦ (λ e ends. elim ends as (λ ends. IsUtf8 (unwrap_or (behind_root ends rest) path)) [
        | true ↦ behind_utf8 root path rest r p e
        | false ↦ found_utf8 (codes "/") rest path slash (behind_utf8 root path rest r p e) p
      ])
    ] in
    let P : Bool → Type 0 = λ b. IsUtf8 (cond b path
    (unwrap_or (option_and_then (behind_root (ends_with_slash root)) (after_prefix root path)) path)) in
    elim (length root == 0) as P [
      | true ↦ p
      | false ↦ rest_of (after_prefix root path) refl (ends_with_slash root)
    ]

path_utf8 : (root : List ℕ) → IsUtf8 root → (path : Option (String Global)) → IsUtf8 (path_text root path)
unfolding encode_utf8
path_utf8 root r None = (codes "default table", (refl, refl))
path_utf8 root r (Some path) = below_utf8 root (string_bytes path) r (IsUtf8-string_bytes path)

position_utf8 : (position : Position) → IsUtf8 (position_text position)
position_utf8 position =
    let colon : IsUtf8 (codes ":") = byte 58 (omega arith) in
    IsUtf8-append (codes ":") _ colon (IsUtf8-append (decimal position.line) _ (decimal_utf8 position.line)
    (IsUtf8-append (codes ":") _ colon (decimal_utf8 position.column)))

lines_utf8 : (lines : Option FileLines) → IsUtf8 (lines_text lines)
lines_utf8 None = IsUtf8-nil
lines_utf8 (Some lines) =
    let last : List ℕ = codes "-" ++ decimal lines.last in
    let P : Bool → Type 0 = λ b. IsUtf8 (cond b [] last) in
    IsUtf8-append (codes ":") _ (byte 58 (omega arith)) (IsUtf8-append (decimal lines.first) _ (decimal_utf8 lines.first)
    (elim (lines.first == lines.last) as P [
      | true ↦ IsUtf8-nil
      | false ↦ IsUtf8-append (codes "-") (decimal lines.last) (byte 45 (omega arith)) (decimal_utf8 lines.last)
    ]))

range_utf8 : (range : Option Range) (lines : Option FileLines) → IsUtf8 (range_text range lines)
range_utf8 None lines = lines_utf8 lines
range_utf8 (Some range) lines = position_utf8 range.start

kind_utf8 : (kind : SourceKind) → IsUtf8 (tool_text (tool_of kind))
unfolding encode_utf8
kind_utf8 kinds.Default = IsUtf8-nil
kind_utf8 (kinds.Tool name) =
    IsUtf8-append (codes " (tool ") _ (codes " (tool ", (refl, refl))
    (IsUtf8-append (string_bytes name) (codes ")") (IsUtf8-string_bytes name) (byte 41 (omega arith)))
kind_utf8 kinds.Organisation = IsUtf8-nil
kind_utf8 kinds.Explicit = IsUtf8-nil
kind_utf8 kinds.Discovered = IsUtf8-nil

tool_utf8 : (found : Option Source) → IsUtf8 (tool_text (option_and_then (λ s. tool_of s.kind) found))
tool_utf8 None = IsUtf8-nil
tool_utf8 (Some source) = kind_utf8 source.kind

place_utf8 : (root : List ℕ) → IsUtf8 root → (sources : List Source) (place : FilePlace)
    → IsUtf8 (place_text root sources place)
place_utf8 root r sources place =
    IsUtf8-append (path_at root sources place.source) _
    (path_utf8 root r (option_and_then (λ s. s.path) (slice_get sources place.source)))
    (IsUtf8-append (range_text place.range place.lines) (tool_text (tool_at sources place.source))
    (range_utf8 place.range place.lines) (tool_utf8 (slice_get sources place.source)))

part_utf8 : (part : Part) → IsUtf8 (part_text part)
unfolding encode_utf8
part_utf8 Fields = IsUtf8-nil
part_utf8 (Override index) = IsUtf8-append (codes ".overrides.") _ (codes ".overrides.", (refl, refl)) (decimal_utf8 index)
part_utf8 (Script index) = IsUtf8-append (codes ".scripts.") _ (codes ".scripts.", (refl, refl)) (decimal_utf8 index)

written_utf8 : (root : List ℕ) → IsUtf8 root → (sources : List Source) (written : Written)
    → IsUtf8 (written_text root sources written)
unfolding encode_utf8
written_utf8 root r sources written =
    IsUtf8-append (place_text root sources written.place) _ (place_utf8 root r sources written.place)
    (IsUtf8-append (codes " profile.") _ (codes " profile.", (refl, refl))
    (IsUtf8-append (key_text (string_bytes written.profile)) (part_text written.part)
    (key_utf8 (string_bytes written.profile) (IsUtf8-string_bytes written.profile)) (part_utf8 written.part)))

origin_utf8 : (root : List ℕ) → IsUtf8 root → (sources : List Source) (origin : Origin)
    → IsUtf8 (origin_text root sources origin)
unfolding encode_utf8
origin_utf8 root r sources origins.BuiltIn = (codes "built in", (refl, refl))
origin_utf8 root r sources origins.DefaultTable = (codes "default table", (refl, refl))
origin_utf8 root r sources (origins.Written written) = written_utf8 root r sources written
origin_utf8 root r sources (origins.File place) = place_utf8 root r sources place

pub origins_utf8 : (root : List ℕ) → IsUtf8 root → (sources : List Source) (all : List Origin)
    → AllByRecursion IsUtf8 (origin_texts root sources all)
origins_utf8 root r sources [] = tt
origins_utf8 root r sources (origin ∷ all) = (origin_utf8 root r sources origin, origins_utf8 root r sources all)

-- parts of headers
others_utf8 : {X : Type 0} (s : List ℕ) (f : X → List ℕ) → IsUtf8 s → ((x : X) → IsUtf8 (f x)) → (xs : List X)
    → IsUtf8 (flat_map (λ x. s ++ f x) xs)
others_utf8 {X} s f h each [] = IsUtf8-nil
others_utf8 {X} s f h each (x ∷ xs) =
    IsUtf8-append (s ++ f x) _ (IsUtf8-append s (f x) h (each x)) (others_utf8 s f h each xs)

joined_utf8 : {X : Type 0} (s : List ℕ) (f : X → List ℕ) → IsUtf8 s → ((x : X) → IsUtf8 (f x)) → (xs : List X)
    → IsUtf8 (joined s f xs)
joined_utf8 {X} s f h each [] = IsUtf8-nil
joined_utf8 {X} s f h each (x ∷ xs) =
    IsUtf8-append (f x) (flat_map (λ y. s ++ f y) xs) (each x) (others_utf8 s f h each xs)

pub profiles_utf8 : (asked : Asked) → IsUtf8 (profiles_part asked)
unfolding encode_utf8
profiles_utf8 asked =
    IsUtf8-append (codes "profile ") _ (codes "profile ", (refl, refl))
    (IsUtf8-append (joined (codes " < ") string_bytes asked.chain.items) (codes ",")
    (joined_utf8 (codes " < ") string_bytes (codes " < ", (refl, refl)) (λ s. IsUtf8-string_bytes s) asked.chain.items)
    (byte 44 (omega arith)))

mode_word_utf8 : (mode : RunMode) → IsUtf8 (mode_word mode)
unfolding encode_utf8
mode_word_utf8 modes.Test = (codes "test", (refl, refl))
mode_word_utf8 modes.Benchmark = (codes "benchmark", (refl, refl))

pub mode_utf8 : (asked : Asked) → IsUtf8 (mode_part asked)
mode_utf8 asked = IsUtf8-append (mode_word asked.mode) (codes ",") (mode_word_utf8 asked.mode) (byte 44 (omega arith))

pub names_utf8 : (test : TestRows) → IsUtf8 (names_part test)
names_utf8 test =
    IsUtf8-append (string_bytes test.binary) _ (IsUtf8-string_bytes test.binary)
    (IsUtf8-append (codes " ") _ (byte 32 (omega arith))
    (IsUtf8-append (string_bytes test.name) (codes ",") (IsUtf8-string_bytes test.name) (byte 44 (omega arith))))

host_utf8 : (asked : Asked) → IsUtf8 (host_text asked)
unfolding encode_utf8
host_utf8 asked =
    let P : Bool → Type 0 = λ b. IsUtf8 (cond b (codes " (assumed)") []) in
    IsUtf8-append (string_bytes asked.host) _ (IsUtf8-string_bytes asked.host)
    (elim asked.assumes_host as P [ true ↦ (codes " (assumed)", (refl, refl)) | false ↦ IsUtf8-nil ])

platform_word_utf8 : (platform : BuiltFor) → IsUtf8 (platform_word platform)
unfolding encode_utf8
platform_word_utf8 platforms.Host = (codes "host", (refl, refl))
platform_word_utf8 platforms.Target = (codes "target", (refl, refl))

target_utf8 : (host : List ℕ) → IsUtf8 host → (target : Option (String Global))
    → IsUtf8 (unwrap_or (option_map string_bytes target) host)
target_utf8 host h None = h
target_utf8 host h (Some target) = IsUtf8-string_bytes target

triple_utf8 : (asked : Asked) (platform : BuiltFor) → IsUtf8 (triple_of asked platform)
triple_utf8 asked platforms.Host = host_utf8 asked
triple_utf8 asked platforms.Target = target_utf8 (host_text asked) (host_utf8 asked) asked.target

pub platform_utf8 : (asked : Asked) (test : TestRows) → IsUtf8 (platform_part asked test)
platform_utf8 asked test =
    IsUtf8-append (platform_word test.platform) _ (platform_word_utf8 test.platform)
    (IsUtf8-append (codes " ") (triple_of asked test.platform) (byte 32 (omega arith))
    (triple_utf8 asked test.platform))

builds_utf8 : (host : List ℕ) → IsUtf8 host → (target : Option (String Global))
    → AllByRecursion IsUtf8 (build_parts host (option_map string_bytes target))
unfolding encode_utf8
builds_utf8 host h None = (h, tt)
builds_utf8 host h (Some target) = (
  IsUtf8-append (codes "host ") _ (codes "host ", (refl, refl)) (IsUtf8-append host (codes ",") h (byte 44 (omega arith))),
  (
    IsUtf8-append (codes "target ") (string_bytes target) (codes "target ", (refl, refl)) (IsUtf8-string_bytes target),
    tt,
  ),
)

pub build_utf8 : (asked : Asked)
    → AllByRecursion IsUtf8 (build_parts (host_text asked) (option_map string_bytes asked.target))
build_utf8 asked = builds_utf8 (host_text asked) (host_utf8 asked) asked.target
