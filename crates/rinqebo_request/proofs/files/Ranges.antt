-- The bytes of the key and of the value at a path begin and end with characters.
use Rattle.std.proofs.Common.{◌≡◌, ◌⊎◌, ℕ, List, inl, inr, Option, Some, None, subst}
use Rattle.std.specs.Option.{IfSome, option_or}
use Rattle.std.specs.Str.{IsCharBoundary}
use Rattle.std.proofs.lemmas.Option.{none-some, same_Some}
use Rattle.nextest_places.specs.Spans.Spans.{IsKeyOf, IsPathSpan, IsValueOf, StandsAt}
use Rattle.nextest_places.specs.declared.spans.path_spans.PathSpan.{PathSpan}
use Rattle.nextest_places.specs.declared.place.Lines.{Lines}
use Rattle.nextest_places.specs.declared.step.Step.{Step}
use Rattle.nextest_places.specs.declared.spans.item.Item.{Item}
use Rattle.nextest_places.specs.declared.spans.token.Span.{Span}
use Rattle.toml.specs.Data.{Data}
use Rattle.rinqebo_request.specs.Files.Origins.{part_span}
use Rattle.rinqebo_request.specs.declared.files.places.SpanPart.{SpanPart}
use Rattle.rinqebo_request.specs.declared.files.places.SpanPart.TheVariants as parts

-- some bytes of a text begin and end with characters
pub record AreWhole (text : List ℕ) (span : Span) : Type 0 where
  pub start : IsCharBoundary text span.start
  pub end : IsCharBoundary text span.end

of_key : (text : List ℕ) (items : List Item) (path : List Step) (lines : Lines) (key : Option Span) (span : Span)
    → IfSome key (IsKeyOf text items path lines) → key ≡ Some span → AreWhole text span
of_key text items path lines None span is same = absurd (none-some span same)
of_key text items path lines (Some own) span is same =
    subst (AreWhole text) (same_Some own span same) (record { start = is.is.on_lines.start; end = is.is.on_lines.end })

of_value : (text : List ℕ) (items : List Item) (path : List Step) (lines : Lines) (value : Option Span) (span : Span)
    → IfSome value (λ span. (node : Data) × StandsAt path text node × IsValueOf text items path lines node span)
    → value ≡ Some span → AreWhole text span
of_value text items path lines None span is same = absurd (none-some span same)
of_value text items path lines (Some own) span (node, stands, is) same =
    subst (AreWhole text) (same_Some own span same) (record { start = is.is.on_lines.start; end = is.is.on_lines.end })

either : (one other : Option Span) (span : Span) → option_or one other ≡ Some span → (one ≡ Some span) ⊎ (other ≡ Some span)
either None other span same = inr same
either (Some own) other span same = inl same

pub part_is_whole : (part : SpanPart) (text : List ℕ) (path : List Step) (found : PathSpan) (span : Span) → IsPathSpan path text found
    → part_span part found ≡ Some span → AreWhole text span
part_is_whole parts.Key text path found span is same =
    elim (either found.key found.value span same) [
      | inl key ↦ of_key text is.items path found.lines found.key span is.key key
      | inr value ↦ of_value text is.items path found.lines found.value span is.value value
    ]
part_is_whole parts.Value text path found span is same =
    elim (either found.value found.key span same) [
      | inl value ↦ of_value text is.items path found.lines found.value span is.value value
      | inr key ↦ of_key text is.items path found.lines found.key span is.key key
    ]
