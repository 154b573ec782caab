-- The range of an origin is on its lines, so that origins that are the same are shown alike.
use Rattle.std.proofs.Common.{◌≡◌, ◌∙◌, ◌+◌, ◌++◌, ◌<◌, ◌≤◌, ◌==◌, ℕ, zero, suc, Bool, true, false, cond, List, [], ◌∷◌, Option, None, Some, IfSome, map, option_map, option_and_then, slice_get, take, drop, refl, sym, ap, subst, arith}
use Rattle.std.proofs.lemmas.Bool.{eqb-true}
use Rattle.std.proofs.lemmas.List.{take-append-drop, take-take}
use Rattle.std.proofs.lemmas.List.Sums.{sum_by-append}
use Rattle.std.proofs.lemmas.Str.{IsUtf8-take, chars-append}
use Rattle.std.specs.List.{AllByRecursion, AllZip, count_by}
use Rattle.std.specs.Option.{option_or}
use Rattle.std.specs.Str.{IsCharBoundary, IsUtf8, chars}
use Rattle.nextest_places.specs.Spans.Items.{EachIs}
use Rattle.nextest_places.specs.Spans.Positions.{is_line_feed, position_behind, position_of}
use Rattle.nextest_places.specs.Spans.Spans.{IsKeyOf, IsPathSpan, IsSpanOf, IsValueOf, StandsAt}
use Rattle.nextest_places.specs.declared.place.Lines.{Lines}
use Rattle.nextest_places.specs.declared.spans.item.Item.{Item}
use Rattle.nextest_places.specs.declared.spans.path_spans.PathSpan.{PathSpan}
use Rattle.nextest_places.specs.declared.spans.position.ColumnUnit.TheVariants.{Char}
use Rattle.nextest_places.specs.declared.spans.token.Span.{Span}
use Rattle.nextest_places.specs.declared.step.Step.{Step}
use Rattle.nextest_rules.specs.Rules.{RuleId}
use Rattle.nextest_settings.specs.Queries.{Origin as Decider, unwritten, by_profile, by_override, by_script}
use Rattle.nextest_sources.specs.Sources.{Source}
use Rattle.nextest_tables.specs.Written.{Name}
use Rattle.rinqebo_request.specs.Files.Origins.{AreLinesAt, IsFileAt, IsRangeAt, part_span, range_of}
use Rattle.rinqebo_request.specs.declared.files.layers.Layer.{Layer}
use Rattle.rinqebo_request.specs.declared.files.places.SpanPart.{SpanPart}
use Rattle.rinqebo_request.specs.declared.files.places.SpanPart.TheVariants as parts
use Rattle.rinqebo_laws.proofs.Origins.{decided_shown, has_steps, placed_shown, profile_shown}
use Rattle.rinqebo_laws.proofs.Places.{no_place, one_place}
use Rattle.rinqebo_laws.specs.Shown.{AreShownAlike, HasRangeOnLines, IsOnLines, IsRangeOnLines, ShownOrigin, built_in, default_table, line_shown, origin_shown, outside, single_line, under_profile}
use Rattle.rinqebo_report.specs.declared.origin.FileLines.{FileLines}
use Rattle.rinqebo_report.specs.declared.origin.Origin.{Origin}
use Rattle.rinqebo_report.specs.declared.origin.Origin.TheVariants as kinds
use Rattle.rinqebo_report.specs.declared.origin.Part.{Part}
use Rattle.rinqebo_report.specs.declared.origin.Part.TheVariants as fields
use Rattle.rinqebo_report.specs.declared.origin.Range.{Range}
use Rattle.rinqebo_report.specs.declared.origin.Written.{Written}
use Rattle.rinqebo_origins.specs.KnownOrigins.{AreOriginsAt}
use Rattle.rinqebo_origins.specs.Origins.{IsOriginOf, IsWrittenAt, PathStep, key_steps}
use Rattle.rinqebo_origins.specs.ProfileOrigins.{AreProfileOrigins, IsLayerOrigin, built_in as nothing_written, written}
use Rattle.rinqebo_origins.specs.RulePlaces.{Place, id_place}
use Rattle.rinqebo_origins.specs.TestOrigins.{AreOriginsBy, wrapping_places}

-- ---- ranges of a text

-- of two bytes, the later one is on the same line or on a later one
lines_rise : (text : List ℕ) (a b : ℕ) → IsUtf8 text → IsCharBoundary text a → a ≤ b
    → (position_of Char text a).line ≤ (position_of Char text b).line
unfolding position_behind
lines_rise text a b utf8 at less =
    let front = take a text in
    let rest = drop a (take b text) in
    let whole : take b text ≡ front ++ rest =
    sym (take-append-drop a (take b text)) ∙ ap (λ bytes. bytes ++ rest) (take-take a b text less) in
    let split : chars (take b text) ≡ chars front ++ chars rest =
    ap chars whole ∙ chars-append front rest (IsUtf8-take text a utf8 at) in
    let lines : count_by is_line_feed (chars (take b text))
    ≡ count_by is_line_feed (chars front) + count_by is_line_feed (chars rest) =
    ap (count_by is_line_feed) split ∙ sum_by-append (λ c. cond (is_line_feed c) 1 0) (chars front) (chars rest) in
    omega (arith, lines)

-- an item has some bytes
some_bytes : (text : List ℕ) (n : ℕ) (items : List Item) (i : ℕ) (item : Item) → EachIs text n items
    → slice_get items i ≡ Some item → item.span.start < item.span.end
some_bytes text n [] i item each is = absurd cc
some_bytes text n (x ∷ items) zero item each is =
    let same : x ≡ item = cc in subst (λ (it : Item). it.span.start < it.span.end) same each.0.span.some
some_bytes text n (x ∷ items) (suc i) item each is = some_bytes text (suc n) items i item each.1 is

-- the lines, as a report has them
abbrev lines_told : Lines → FileLines
lines_told lines = record { first = lines.first; last = lines.last }

module _ (text : List ℕ) (utf8 : IsUtf8 text) (path : List Step) (lines : Lines) (items : List Item)
    (each : EachIs text 0 items) where
  item_on : (span : Span) (item : Item) → IsSpanOf text items path lines span item
      → IsOnLines (lines_told lines) (range_of text span)
  item_on span item is =
      let less : span.start < span.end =
      subst (λ (s : Span). s.start < s.end) (sym is.span_is) (some_bytes text 0 items is.index item each is.among) in
      let rises = lines_rise text span.start span.end utf8 is.on_lines.start (omega (arith, less)) in
      record { begins = is.on_lines.first; rises = omega (arith, rises); ends = is.on_lines.last }

  -- the value at the path
  abbrev IsValue : Span → Type 0
  IsValue span = (node : _) × StandsAt path text node × IsValueOf text items path lines node span

  by_key : (key value : Option Span) → IfSome key (IsKeyOf text items path lines) → IfSome value IsValue
      → HasRangeOnLines (Some (lines_told lines)) (option_map (range_of text) (option_or key value))
  by_key None None is are = tt
  by_key None (Some span) is are = item_on span are.2.item are.2.is
  by_key (Some span) value is are = item_on span is.item is.is

  by_value : (key value : Option Span) → IfSome key (IsKeyOf text items path lines) → IfSome value IsValue
      → HasRangeOnLines (Some (lines_told lines)) (option_map (range_of text) (option_or value key))
  by_value None None is are = tt
  by_value (Some span) None is are = item_on span is.item is.is
  by_value key (Some span) is are = item_on span are.2.item are.2.is

part_on : (text : List ℕ) (utf8 : IsUtf8 text) (path : List Step) (part : SpanPart) (found : PathSpan)
    → IsPathSpan path text found
    → HasRangeOnLines (Some (lines_told found.lines)) (option_map (range_of text) (part_span part found))
part_on text utf8 path parts.Key found is =
    by_key text utf8 path found.lines is.items is.are.each found.key found.value is.key is.value
part_on text utf8 path parts.Value found is =
    by_value text utf8 path found.lines is.items is.are.each found.key found.value is.key is.value

-- the range of a path with a step is on its lines
range_on : (part : SpanPart) (text : Option (List ℕ)) → IfSome text IsUtf8 → (path : List Step) → (path ≡ [] → ⊥)
    → (lines : Option FileLines) (range : Option Range) → AreLinesAt text path lines
    → IsRangeAt part text path range → HasRangeOnLines lines range
range_on part None utf8 path some lines range are is = subst (HasRangeOnLines lines) (sym is) tt
range_on part (Some text) utf8 path some lines range are (None, none, is) =
    subst (HasRangeOnLines lines) (sym is) tt
range_on part (Some text) utf8 path some None range are (Some found, spans, is) =
    absurd (no_place path path text found.lines refl some are spans.place)
range_on part (Some text) utf8 path some (Some lines) range are (Some found, spans, is) =
    let same = one_place path path text (record { first = lines.first; last = lines.last }) found.lines refl are
    spans.place in
    let told : lines_told found.lines ≡ lines = λ i. record { first = sym same.0 i; last = sym same.1 i } in
    subst (λ (ls : FileLines). HasRangeOnLines (Some ls) range) told
    (subst (HasRangeOnLines (Some (lines_told found.lines))) (sym is) (part_on text utf8 path part found spans))

-- ---- origins

-- the text of a layer, if it has one, is one of characters
abbrev pub HasCharacters : Layer → Type 0
HasCharacters layer = IfSome layer.places IsUtf8

-- The layers are files, no two of them the same one, with texts of characters.
pub record AreFiles (layers : List Layer) : Type 0 where
  pub one : (file : Source) (n m : ℕ) → IsFileAt layers file n → IsFileAt layers file m → n ≡ m
  pub characters : AllByRecursion HasCharacters layers

characters_at : (layers : List Layer) (n : ℕ) → AllByRecursion HasCharacters layers
    → IfSome (option_and_then (λ (layer : Layer). layer.places) (slice_get layers n)) IsUtf8
characters_at [] n all = tt
characters_at (layer ∷ layers) zero all = all.0
characters_at (layer ∷ layers) (suc n) all = characters_at layers n all.1

each_on : {A : Type 0} (R : A → Origin → Type 0) → ((a : A) (o : Origin) → R a o → IsRangeOnLines o) → (all : List A)
    (origins : List Origin) → AllZip R all origins → AllByRecursion IsRangeOnLines origins
each_on R turn [] [] is = tt
each_on R turn [] (o ∷ origins) is = absurd is
each_on R turn (a ∷ all) [] is = absurd is
each_on R turn (a ∷ all) (o ∷ origins) is = (turn a o is.0, each_on R turn all origins is.1)

module _ (layers : List Layer) (files : AreFiles layers) where
  written_on : (at : ℕ) (profile : Name) (part : Part) (rest : List PathStep) (it : Written)
      → IsWrittenAt layers at profile part rest it → IsRangeOnLines (kinds.Written it)
  written_on at profile part rest it is =
      range_on parts.Value (option_and_then (λ (layer : Layer). layer.places) (slice_get layers at))
      (characters_at layers at files.characters) is.path (has_steps is.path profile part rest is.spelled) it.place.lines
      it.place.range is.place_reported.lines is.place_reported.range

  -- the origin of what is in a rule
  rule_on : (rest : List PathStep) (place : Place) (o : Origin) → IsOriginOf layers place rest o → IsRangeOnLines o
  rule_on rest place (kinds.Written it) is = written_on is.at place.profile place.part rest it is.is_written
  rule_on rest place kinds.BuiltIn is = tt
  rule_on rest place kinds.DefaultTable is = tt
  rule_on rest place (kinds.File it) is = absurd is

  rules_on : (rest : List PathStep) (places : List Place) (origins : List Origin)
      → AllZip (λ place. IsOriginOf layers place rest) places origins → AllByRecursion IsRangeOnLines origins
  rules_on rest places origins all =
      each_on (λ place. IsOriginOf layers place rest) (λ place o is. rule_on rest place o is) places origins all

  module _ (chain : List Name) (table : Option (List ℕ)) (name : List ℕ) where
    layer_on : (profile : Name) (n : ℕ) (o : Origin) → IsLayerOrigin layers profile table name n o → IsRangeOnLines o
    layer_on profile zero o is = subst IsRangeOnLines (sym is) tt
    layer_on profile (suc n) (kinds.Written it) is =
        written_on (suc n) profile fields.Fields (key_steps table name) it is
    layer_on profile (suc n) kinds.BuiltIn is = tt
    layer_on profile (suc n) kinds.DefaultTable is = tt
    layer_on profile (suc n) (kinds.File it) is = absurd is

    -- the origins of what a chain writes
    profile_on : (origins : List Origin) → AreProfileOrigins layers chain table name origins
        → AllByRecursion IsRangeOnLines origins
    profile_on origins (nothing_written none is) = subst (AllByRecursion IsRangeOnLines) (sym is) (tt, tt)
    profile_on origins (written no_rule report are some) =
        each_on (IsLayerOrigin layers are.profile table name) (λ n o is. layer_on are.profile n o is) are.positions
        origins are.told

  decided_on : (chain : List Name) (wrapping : Option RuleId) (table : Option (List ℕ)) (name : List ℕ)
      (decider : Option Decider) (origins : List Origin)
      → AreOriginsBy (record { layers = layers; chain = chain }) wrapping table name decider origins
      → AllByRecursion IsRangeOnLines origins
  decided_on chain wrapping table name None origins are = subst (AllByRecursion IsRangeOnLines) (sym are) tt
  decided_on chain wrapping table name (Some unwritten) origins are =
      subst (AllByRecursion IsRangeOnLines) (sym are) (tt, tt)
  decided_on chain wrapping table name (Some by_profile) origins are = profile_on chain table name origins are
  decided_on chain wrapping table name (Some (by_override id)) origins are =
      rules_on (key_steps table name) (id_place id ∷ []) origins are
  decided_on chain wrapping table name (Some by_script) origins are =
      rules_on (key_steps table name) (wrapping_places wrapping) origins are

  placed_on : (chain : List Name) (place : Option Place) (table : Option (List ℕ)) (name : List ℕ)
      (origins : List Origin) → AreOriginsAt (record { layers = layers; chain = chain }) place table name origins
      → AllByRecursion IsRangeOnLines origins
  placed_on chain None table name origins are = profile_on chain table name origins are
  placed_on chain (Some place) table name origins are = rules_on (key_steps table name) (place ∷ []) origins are

-- ---- the line of a value on one line

single_by : (lines : FileLines) (range : Range) → IsOnLines lines range → (one : Bool)
    → (lines.first == lines.last) ≡ one
    → ◌≡◌ {A = Option ℕ} (cond one (Some range.start.line) None) (cond one (Some lines.first) None)
single_by lines range on false is = refl
single_by lines range on true is =
    let same = eqb-true lines.first lines.last is in
    let line : range.start.line ≡ lines.first = omega (arith, same, on.begins, on.rises, on.ends) in
    ap Some line

single_is : (lines : Option FileLines) (range : Option Range) → HasRangeOnLines lines range
    → single_line lines range ≡ single_line lines None
single_is None range on = refl
single_is (Some lines) None on = refl
single_is (Some lines) (Some range) on = single_by lines range on (lines.first == lines.last) refl

-- the line of what is shown
abbrev line_by : ShownOrigin → Option ℕ
line_by built_in = None
line_by default_table = None
line_by (under_profile profile part source lines) = single_line lines None
line_by (outside source lines) = single_line lines None

line_is : (o : Origin) → IsRangeOnLines o → line_shown o ≡ line_by (origin_shown o)
line_is kinds.BuiltIn on = refl
line_is kinds.DefaultTable on = refl
line_is (kinds.Written it) on = single_is it.place.lines it.place.range on
line_is (kinds.File place) on = single_is place.lines place.range on

lines_are : (origins : List Origin) → AllByRecursion IsRangeOnLines origins
    → map line_shown origins ≡ map line_by (map origin_shown origins)
lines_are [] on = refl
lines_are (o ∷ origins) on =
    let one = line_is o on.0 in
    let more = lines_are origins on.1 in
    λ i. one i ∷ more i

alike : (xs ys : List Origin) → map origin_shown xs ≡ map origin_shown ys → AllByRecursion IsRangeOnLines xs
    → AllByRecursion IsRangeOnLines ys → AreShownAlike xs ys
alike xs ys same one other = record {
  shown = same;
  ranges = one;
  other_ranges = other;
  lines = lines_are xs one ∙ ap (map line_by) same ∙ sym (lines_are ys other);
}

-- where nothing is written
pub built_in_alike : (xs ys : List Origin) → xs ≡ kinds.BuiltIn ∷ [] → ys ≡ kinds.BuiltIn ∷ [] → AreShownAlike xs ys
built_in_alike xs ys one other =
    alike xs ys (ap (map origin_shown) (one ∙ sym other)) (subst (AllByRecursion IsRangeOnLines) (sym one) (tt, tt))
    (subst (AllByRecursion IsRangeOnLines) (sym other) (tt, tt))

-- ---- origins of one thing

module _ (layers : List Layer) (files : AreFiles layers) (chain : List Name) where
  -- those of what a chain writes
  pub profile_alike : (table : Option (List ℕ)) (name : List ℕ) (xs ys : List Origin)
      → AreProfileOrigins layers chain table name xs → AreProfileOrigins layers chain table name ys
      → AreShownAlike xs ys
  profile_alike table name xs ys one other =
      alike xs ys (profile_shown layers chain table name xs ys one other)
      (profile_on layers files chain table name xs one) (profile_on layers files chain table name ys other)

  -- those of one value, by what decides it
  pub decided_alike : (wrapping : Option RuleId) (table : Option (List ℕ)) (name : List ℕ) (decider : Option Decider)
      (xs ys : List Origin)
      → AreOriginsBy (record { layers = layers; chain = chain }) wrapping table name decider xs
      → AreOriginsBy (record { layers = layers; chain = chain }) wrapping table name decider ys → AreShownAlike xs ys
  decided_alike wrapping table name decider xs ys one other =
      alike xs ys (decided_shown layers files.one chain wrapping table name decider xs ys one other)
      (decided_on layers files chain wrapping table name decider xs one)
      (decided_on layers files chain wrapping table name decider ys other)

  -- and by the rule that it comes from, if it comes from one
  pub placed_alike : (place : Option Place) (table : Option (List ℕ)) (name : List ℕ) (xs ys : List Origin)
      → AreOriginsAt (record { layers = layers; chain = chain }) place table name xs
      → AreOriginsAt (record { layers = layers; chain = chain }) place table name ys → AreShownAlike xs ys
  placed_alike place table name xs ys one other =
      alike xs ys (placed_shown layers files.one chain place table name xs ys one other)
      (placed_on layers files chain place table name xs one) (placed_on layers files chain place table name ys other)
