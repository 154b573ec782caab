-- The lines of rows: each setting with its value and where it comes from.
use Rattle.std.specs.Prelude.{ℕ, List, [], ◌∷◌, ◌++◌, Option, None, Some, codes}
use Rattle.std.specs.Fmt.{decimal}
use Rattle.std.specs.List.{flat_map}
use Rattle.nextest_config.specs.Headline.{Row}
use Rattle.nextest_config.specs.ValueTexts.{value_text}
use Rattle.nextest_rules.specs.Rules.{RuleId}
use Rattle.nextest_settings.specs.Queries.{Origin, unwritten, by_profile, by_override, by_script}
use Rattle.nextest_elements.specs.Settings.{settings, setting_name}
use Rattle.nextest_elements.specs.declared.setting.Setting.{Setting}
use Rattle.nextest_sources.specs.Sources.{Source, owner_of_source}
use Rattle.nextest_elements.specs.Owner.{Owner, nobody, a_tool, the_organisation}
use Rattle.nextest_explain.specs.declared.options.Places.{Places}
use Rattle.nextest_explain.specs.declared.options.Places.TheVariants.{Words, Whole}

-- A file is reported by its path as it is, and by who provides it, where that is not the
-- repository.
abbrev pub provided : List ℕ → Owner → List ℕ
provided path nobody = path
provided path (a_tool tool) = path ++ codes " provided by tool `" ++ tool ++ codes "`"
provided path the_organisation = path ++ codes " provided by organisation"

-- A source is reported by its file and its owner.
abbrev pub where_text : Source → List ℕ
where_text source = provided source.path (owner_of_source source.kind)

-- An override is reported by the profile under which it is, its position there, and its source.
abbrev pub override_text : RuleId → List ℕ
override_text rule =
    codes "override profile." ++ rule.profile ++ codes ".overrides." ++ decimal rule.index
    ++ codes " in " ++ where_text rule.source

-- An override, as lines show it: in one word, or whole.
abbrev pub told_override : Places → RuleId → List ℕ
told_override Words rule = codes "override"
told_override Whole rule = override_text rule

-- The place of a value: what decides it, and a dash where nothing does.
abbrev pub told_place : Places → Option Origin → List ℕ
told_place places None = codes "-"
told_place places (Some unwritten) = codes "default"
told_place places (Some by_profile) = codes "profile"
told_place places (Some (by_override rule)) = told_override places rule
told_place places (Some by_script) = codes "script"

-- The end of a line.
abbrev pub line_end : List ℕ
line_end = 10 ∷ []

-- A line has the name of a setting, its value in a row, and the place of that value.
abbrev pub line_of : Places → Row → Setting → List ℕ
line_of places row s =
    setting_name s ++ codes ": " ++ value_text s (row.value s)
    ++ codes " [" ++ told_place places (row.source s) ++ codes "]" ++ line_end

-- The lines of a row: one for each setting, in order.
abbrev pub row_lines : Places → Row → List ℕ
row_lines places row = flat_map (line_of places row) settings

-- The lines of rows: those of each row, in order.
abbrev pub lines_telling : Places → List Row → List ℕ
lines_telling places rows = flat_map (row_lines places) rows

-- The lines of rows, each with the whole place of its value.
abbrev pub lines_of : List Row → List ℕ
lines_of rows = lines_telling Whole rows
