-- What contracts see of the warnings that were collected.
use Rattle.std.specs.Prelude.{List, map, string_bytes}
use Rattle.nextest_sources.specs.Sources.{source_view}
use Rattle.nextest_sources.specs.Warnings.{Warning, unknown_keys, reserved_profiles, deprecated_scripts, empty_sections}
use Rattle.nextest_sources.specs.declared.warnings.ConfigWarning.{ConfigWarning}
use Rattle.nextest_sources.specs.declared.warnings.ConfigWarning.TheVariants as warnings
use Rattle.nextest_sources.specs.declared.warnings.DefaultConfigWarnings.{DefaultConfigWarnings}

-- a warning
abbrev pub warning_view : ConfigWarning → Warning
warning_view (warnings.UnknownConfigKeys source paths) =
    unknown_keys (source_view source) (map string_bytes paths.items)
warning_view (warnings.UnknownReservedProfiles source names) =
    reserved_profiles (source_view source) (map string_bytes names.items)
warning_view (warnings.DeprecatedScriptConfig source) = deprecated_scripts (source_view source)
warning_view (warnings.EmptyScriptSections source profile count) =
    empty_sections (source_view source) (string_bytes profile) count

-- the warnings that were collected, the latest last
abbrev pub warnings_view : DefaultConfigWarnings → List Warning
warnings_view w = map warning_view w.warnings.items
