-- What filters see of a test and of a binary, and of what their engines refuse.
use Rattle.std.specs.Prelude.{List, [], ℕ, ◌≤◌, length, Option, None, option_map, IfSome, string_bytes}
use Rattle.nextest_engines.specs.declared.queries.BuildPlatform.{BuildPlatform}
use Rattle.nextest_engines.specs.declared.queries.BuildPlatform.TheVariants.{Target}
use Rattle.nextest_engines.specs.declared.queries.BinaryQuery.{BinaryQuery}
use Rattle.nextest_engines.specs.declared.queries.TestQuery.{TestQuery}
use Rattle.nextest_engines.specs.declared.filters.FilterFault.{FilterFault}
use Rattle.nextest_engines.specs.declared.filters.FilterFault.TheVariants.{Refused, Memory}
use Rattle.nextest_engines.specs.declared.platforms.SpecFault.{SpecFault}
use Rattle.nextest_engines.specs.declared.platforms.SpecFault.TheVariants.{Refused, Memory}
use Rattle.nextest_engines.specs.declared.refusal.LabeledSpan.{LabeledSpan}
use Rattle.nextest_engines.specs.declared.refusal.Refusal.{Refusal}

-- A binary is what its query says of it, as bytes.
pub record Binary : Type 0 where
  pub package_id : List ℕ
  pub binary_id : List ℕ
  pub kind : List ℕ
  pub binary_name : List ℕ
  pub platform : BuildPlatform

-- A test is its binary and its name.
pub record Test : Type 0 where
  pub binary : Binary
  pub name : List ℕ

-- The test of a name in the binary of an id that is built for the target, of which no more is
-- known.
abbrev pub named_test : (binary_id name : List ℕ) → Test
named_test binary_id name = record {
  binary = record {
    package_id = [];
    binary_id = binary_id;
    kind = [];
    binary_name = [];
    platform = Target;
  };
  name = name;
}

-- The binary of a query.
abbrev pub binary_view : BinaryQuery → Binary
binary_view query = record {
  package_id = query.package_id.now;
  binary_id = query.binary_id.now;
  kind = query.kind.now;
  binary_name = query.binary_name.now;
  platform = query.platform;
}

-- The test of a query.
abbrev pub test_view : TestQuery → Test
test_view query = record { binary = binary_view query.binary_query; name = query.test_name.now }

-- A part of a text, from one byte to before another, and what is wrong with it.
pub record SpanText : Type 0 where
  pub start : ℕ
  pub end : ℕ
  pub label : List ℕ

-- All that a refusal of a text is: its message, and the part of the text that is at fault, if the
-- engine has one.
pub record RefusalText : Type 0 where
  pub message : List ℕ
  pub span : Option SpanText

-- the refusal that has a message and no span
abbrev pub without_span : List ℕ → RefusalText
without_span message = record { message = message; span = None }

-- a span, as bytes
abbrev pub span_view : LabeledSpan → SpanText
span_view span = record {
  start = span.bytes.start;
  end = span.bytes.end;
  label = string_bytes span.label;
}

-- a refusal, as bytes
abbrev pub refusal_view : Refusal → RefusalText
refusal_view refusal = record {
  message = string_bytes refusal.message;
  span = option_map span_view refusal.span;
}

-- A span lies in a text.
abbrev pub LiesIn : List ℕ → SpanText → Type 0
LiesIn text span = (span.start ≤ span.end) × (span.end ≤ length text)

-- The span of a refusal, where it has one, lies in a text.
abbrev pub PointsInto : List ℕ → RefusalText → Type 0
PointsInto text refusal = IfSome refusal.span (LiesIn text)

-- Where a filter is refused, something holds of the refusal.
abbrev pub IfFilterRefused : FilterFault → (RefusalText → Type 0) → Type 0
IfFilterRefused (Refused refusal) P = P (refusal_view refusal)
IfFilterRefused Memory P = Unit {0}

-- Where a platform spec is refused, something holds of the refusal.
abbrev pub IfSpecRefused : SpecFault → (RefusalText → Type 0) → Type 0
IfSpecRefused (Refused refusal) P = P (refusal_view refusal)
IfSpecRefused Memory P = Unit {0}
