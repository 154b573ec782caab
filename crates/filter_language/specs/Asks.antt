-- What the predicates of a filter are about.
use Rattle.std.specs.Prelude.{Bool, true, false, List}
use Rattle.std.specs.List.{list_any}
use Rattle.filter_language.specs.declared.words.Field.{Field}
use Rattle.filter_language.specs.declared.words.Field.TheVariants.{TestName, Package, Deps, Rdeps, BinaryId, BinaryName, Kind, Group}
use Rattle.filter_language.specs.Formula.{Question, TheDefault, OfName}
use Rattle.filter_language.specs.Grammar.{Mark, Asked}

-- Whether two fields are one.
abbrev pub same_field : Field → Field → Bool
same_field TestName TestName = true
same_field Package Package = true
same_field Deps Deps = true
same_field Rdeps Rdeps = true
same_field BinaryId BinaryId = true
same_field BinaryName BinaryName = true
same_field Kind Kind = true
same_field Group Group = true
same_field _ _ = false

-- Whether a question is about a field.
abbrev pub question_is_about : {L : Type 0} → Field → Question L → Bool
question_is_about field (OfName p) = same_field p.field field
question_is_about field _ = false

-- Whether a mark is a predicate about a field.
abbrev pub mark_is_about : {L : Type 0} → Field → Mark L → Bool
mark_is_about field (Asked q) = question_is_about field q
mark_is_about field _ = false

-- Whether some predicate of a filter is about a field.
abbrev pub asks : {L : Type 0} → Field → List (Mark L) → Bool
asks field marks = list_any (mark_is_about field) marks

-- Whether a mark is `default()`.
abbrev pub mark_is_default : {L : Type 0} → Mark L → Bool
mark_is_default (Asked TheDefault) = true
mark_is_default _ = false

-- Whether some predicate of a filter is `default()`.
abbrev pub asks_default_filter : {L : Type 0} → List (Mark L) → Bool
asks_default_filter marks = list_any mark_is_default marks
