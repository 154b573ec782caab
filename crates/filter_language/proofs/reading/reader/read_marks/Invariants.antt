use Rattle.std.proofs.Common.{◌≡◌, ◌≤◌, suc, length, [], None, Some, IfSome, is_none, option_map, map}
use denote.Text.{Utf8}
use denote.Shadow.{shadow}
use Rattle.filter_language.specs.Grammar.{mark_view}
use Rattle.filter_language.specs.Nesting.{shape_view, start_shape, shape_behind}
use Rattle.filter_language.specs.Bans.{are_allowed}
use Rattle.filter_language.specs.Filters.{marks_within}
use Rattle.filter_language.specs.Places.{misreading_view, StandsIn}
use Rattle.filter_language.proofs.Turns.{MarksOn}
use Rattle.filter_language.proofs.reading.reader.read_marks.Given as goal

abbrev pub invariant-marks : goal.invariant-marks
invariant-marks g l = record {
  utf8 : shadow (Utf8 l.place);
  left : length l.place ≤ length l.text;
  objection : IfSome l.objection (λ m. StandsIn l.text (misreading_view m));
  allowed : is_none l.objection
      ≡ are_allowed l.kind (g.E.Matchers.knows_packages l.engine) (map (mark_view g.E.Matchers.meaning) l.marks.items);
  shape : shape_behind start_shape (map (mark_view g.E.Matchers.meaning) l.marks.items) ≡ Some (shape_view l.nesting);
  whole : MarksOn (g.E.Matchers.compiled l.engine) (g.E.Matchers.knows_packages l.engine) l.kind
      (map (mark_view g.E.Matchers.meaning) l.marks.items, option_map misreading_view l.objection)
      (shape_view l.nesting) l.place
      (marks_within (g.E.Matchers.compiled l.engine) (g.E.Matchers.knows_packages l.engine) l.kind
      (suc (length l.text)) ([], None) start_shape l.text);
}

abbrev pub decreases-marks : goal.decreases-marks
decreases-marks g l = length l.place
