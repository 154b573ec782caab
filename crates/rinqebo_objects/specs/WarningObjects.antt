-- The warnings of a load as JSON.
use Rattle.std.specs.Prelude.{ℕ, List, [], codes}
use Rattle.nextest_sources.specs.Sources.{Source}
use Rattle.nextest_sources.specs.Warnings.{Warning, unknown_keys, reserved_profiles, deprecated_scripts, empty_sections}
use Rattle.rinqebo_report.specs.Codes.Codes.{code_word}
use Rattle.rinqebo_report.specs.declared.codes.code.Code.{Code}
use Rattle.rinqebo_report.specs.declared.codes.code.Code.TheVariants as variants
use Rattle.rinqebo_report.specs.Documents.{count_data, list_data}
use Rattle.serde_json.specs.Data.{Data, null, string, object, no_members, member}

-- a warning of a code about a file, with names, a profile and a number
abbrev pub warning_of : Code → Source → List (List ℕ) → Data → Data → Data
warning_of code source names profile count =
    object (member (codes "code") (string (code_word code))
    (member (codes "count") count
    (member (codes "file") (string source.path)
    (member (codes "names") (list_data string names)
    (member (codes "profile") profile no_members)))))

-- a warning
abbrev pub warning_data : Warning → Data
warning_data (unknown_keys source paths) =
    warning_of variants.UnknownKey source paths null null
warning_data (reserved_profiles source names) =
    warning_of variants.ReservedProfile source names null null
warning_data (deprecated_scripts source) =
    warning_of variants.OldScriptTable source [] null null
warning_data (empty_sections source profile count) =
    warning_of variants.EmptyScriptRule source [] (string profile) (count_data count)

-- the warnings of a load, in their order
abbrev pub warnings_data : List Warning → Data
warnings_data warnings = list_data warning_data warnings
