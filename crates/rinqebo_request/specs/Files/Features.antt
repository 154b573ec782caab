-- Which experimental features a run has: those that words name, and those that the repository's
-- file switches on.
use Rattle.std.specs.BTreeSet.{BTreeSet}
use Rattle.std.specs.Prelude.{unwrap_or}
use Rattle.nextest_elements.specs.declared.experimental.ConfigExperimental.{ConfigExperimental}
use Rattle.nextest_rules.specs.KnownView.{features_view}
use Rattle.nextest_sources.specs.Sources.{outcome_view}
use Rattle.nextest_sources.specs.declared.sources.FileInput.{FileInput}
use Rattle.rinqebo_forms.specs.Features.{tree_read, AreFeaturesBy}
use Rattle.rinqebo_request.specs.declared.files.gathering.Gathered.{Gathered}

-- the repository's file: the one that a user named, or else the one of the workspace
abbrev pub repository_file : Gathered → FileInput
repository_file gathered = unwrap_or gathered.config_file gathered.paths.shared

-- The features of a run: it has one exactly if words name it, or where the repository's file is
-- a document whose `experimental` switches it on.
abbrev pub AreFeaturesOf : BTreeSet ConfigExperimental → Gathered → BTreeSet ConfigExperimental
    → Type 0
AreFeaturesOf named gathered features =
    AreFeaturesBy (features_view named) (tree_read (outcome_view (repository_file gathered).outcome))
    (features_view features)
