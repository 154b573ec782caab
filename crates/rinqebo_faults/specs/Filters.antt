-- What is wrong with filters that are refused, in words.
use Rattle.std.specs.Prelude.{ℕ, List, ◌++◌, codes, Option, None, Some, if◌then◌else◌}
use Rattle.std.specs.Str.{bytes_eq}
use Rattle.filter_language.specs.Messages.{label}
use Rattle.filter_language.specs.declared.fault.FaultKind.TheVariants as kind

-- what to do about a refused filter that needs more than its text
abbrev pub filter_help : List ℕ → Option (List ℕ)
filter_help reason =
    if bytes_eq reason (label kind.NoPackageGraph)
    then Some (codes "pass `--metadata F`, where F has the output of `cargo metadata "
    ++ codes "--format-version 1`")
    else None
