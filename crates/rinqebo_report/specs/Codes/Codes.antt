-- The table of codes: the word of each, the name that nextest-runner has for it, what it means, an
-- example, what to do, and the example corrected.
use Rattle.std.specs.Prelude.{ℕ, List, [], ◌∷◌, Option, None, Some, codes}
use Rattle.rinqebo_report.specs.declared.codes.code.Code.{Code}
use Rattle.rinqebo_report.specs.declared.codes.code.Code.TheVariants as variants

-- the word of a code
unfoldable pub code_word : Code → List ℕ
code_word variants.UnknownKey = codes "unknown-key"
code_word variants.ReservedProfile = codes "reserved-profile"
code_word variants.OldScriptTable = codes "old-script-table"
code_word variants.EmptyScriptRule = codes "empty-script-rule"
code_word variants.JunitWithoutPath = codes "junit-without-path"
code_word variants.SecondToolFile = codes "second-tool-file"
code_word variants.UnreadableFile = codes "unreadable-file"
code_word variants.NotToml = codes "not-toml"
code_word variants.WrongKind = codes "wrong-kind"
code_word variants.MissingKey = codes "missing-key"
code_word variants.InvalidValue = codes "invalid-value"
code_word variants.OutOfRange = codes "out-of-range"
code_word variants.MaxDelayBelowDelay = codes "max-delay-below-delay"
code_word variants.RefusedKey = codes "refused-key"
code_word variants.ForeignGroup = codes "foreign-group"
code_word variants.ForeignScript = codes "foreign-script"
code_word variants.TwoScriptTables = codes "two-script-tables"
code_word variants.FeatureOff = codes "feature-off"
code_word variants.DuplicateScript = codes "duplicate-script"
code_word variants.DefaultInherits = codes "default-inherits"
code_word variants.InheritsItself = codes "inherits-itself"
code_word variants.UnknownParent = codes "unknown-parent"
code_word variants.InheritanceCycle = codes "inheritance-cycle"
code_word variants.InvalidFilter = codes "invalid-filter"
code_word variants.InvalidPlatform = codes "invalid-platform"
code_word variants.RuleWithoutCondition = codes "rule-without-condition"
code_word variants.TwoFilters = codes "two-filters"
code_word variants.UnknownGroup = codes "unknown-group"
code_word variants.UnknownScript = codes "unknown-script"
code_word variants.WrongScriptKind = codes "wrong-script-kind"
code_word variants.ListWrapperFilter = codes "list-wrapper-filter"
code_word variants.UnknownProfile = codes "unknown-profile"
code_word variants.UnknownTest = codes "unknown-test"
code_word variants.SeveralTests = codes "several-tests"

-- the name that nextest-runner has for it, if it has one
unfoldable pub code_upstream : Code → Option (List ℕ)
code_upstream variants.UnknownKey = Some (codes "UnknownConfigKeys")
code_upstream variants.ReservedProfile = Some (codes "UnknownReservedProfiles")
code_upstream variants.OldScriptTable = Some (codes "DeprecatedScriptConfig")
code_upstream variants.EmptyScriptRule = Some (codes "EmptyScriptSections")
code_upstream variants.JunitWithoutPath = None
code_upstream variants.SecondToolFile = Some (codes "DuplicateToolConfigFile")
code_upstream variants.UnreadableFile = Some (codes "ReadError")
code_upstream variants.NotToml = Some (codes "BuildError")
code_upstream variants.WrongKind = Some (codes "DeserializeError")
code_upstream variants.MissingKey = Some (codes "DeserializeError")
code_upstream variants.InvalidValue = Some (codes "DeserializeError")
code_upstream variants.OutOfRange = Some (codes "DeserializeError")
code_upstream variants.MaxDelayBelowDelay = Some (codes "DeserializeError")
code_upstream variants.RefusedKey = Some (codes "DeserializeError")
code_upstream variants.ForeignGroup = Some (codes "InvalidTestGroupsDefined")
code_upstream variants.ForeignScript = Some (codes "InvalidConfigScriptsDefined")
code_upstream variants.TwoScriptTables = Some (codes "BothScriptAndScriptsDefined")
code_upstream variants.FeatureOff = Some (codes "ExperimentalFeaturesNotEnabled")
code_upstream variants.DuplicateScript = Some (codes "DuplicateConfigScriptNames")
code_upstream variants.DefaultInherits = Some (codes "InheritanceErrors")
code_upstream variants.InheritsItself = Some (codes "InheritanceErrors")
code_upstream variants.UnknownParent = Some (codes "InheritanceErrors")
code_upstream variants.InheritanceCycle = Some (codes "InheritanceErrors")
code_upstream variants.InvalidFilter = Some (codes "CompileErrors")
code_upstream variants.InvalidPlatform = Some (codes "CompileErrors")
code_upstream variants.RuleWithoutCondition = Some (codes "CompileErrors")
code_upstream variants.TwoFilters = Some (codes "CompileErrors")
code_upstream variants.UnknownGroup = Some (codes "UnknownTestGroups")
code_upstream variants.UnknownScript = Some (codes "ProfileScriptErrors")
code_upstream variants.WrongScriptKind = Some (codes "ProfileScriptErrors")
code_upstream variants.ListWrapperFilter = Some (codes "ProfileScriptErrors")
code_upstream variants.UnknownProfile = None
code_upstream variants.UnknownTest = None
code_upstream variants.SeveralTests = None

-- what it means
unfoldable pub code_meaning : Code → List ℕ
code_meaning variants.UnknownKey =
    codes "No table of a configuration has the key here, so it has no effect."
code_meaning variants.ReservedProfile =
    codes "Names of profiles that begin with `default-` are nextest's own."
code_meaning variants.OldScriptTable =
    codes "Setup scripts are in the table `script`, their place in earlier versions."
code_meaning variants.EmptyScriptRule =
    codes "A rule under `scripts` of a profile names no script, so it has no effect."
code_meaning variants.JunitWithoutPath =
    codes "A setting of the JUnit report has no effect if no `junit.path` is set."
code_meaning variants.SecondToolFile =
    codes "Two `--tool-config-file` options name one tool, which may provide one file."
code_meaning variants.UnreadableFile = codes "A file that an option names cannot be read."
code_meaning variants.NotToml = codes "The text of the file is not a TOML document."
code_meaning variants.WrongKind = codes "A value has another kind than its key takes."
code_meaning variants.MissingKey = codes "A table lacks a key that it has to have."
code_meaning variants.InvalidValue =
    codes "A string is not one that its key takes, or has another form."
code_meaning variants.OutOfRange = codes "A value is too small, too large or empty."
code_meaning variants.MaxDelayBelowDelay =
    codes "Delays grow from `delay` up to `max-delay`, which may not be the shorter one."
code_meaning variants.RefusedKey = codes "A table that refuses unknown keys has one."
code_meaning variants.ForeignGroup =
    codes "The name of a group begins as another file's: `@tool:NAME:`, `@org:` or neither."
code_meaning variants.ForeignScript =
    codes "The name of a script begins as another file's: `@tool:NAME:`, `@org:` or neither."
code_meaning variants.TwoScriptTables =
    codes "A file has the table `scripts` and its old spelling `script`."
code_meaning variants.FeatureOff =
    codes "A file uses an experimental feature that is not enabled."
code_meaning variants.DuplicateScript =
    codes "A setup script and a wrapper script have the same name."
code_meaning variants.DefaultInherits =
    codes "The profile `default` may not inherit from another profile."
code_meaning variants.InheritsItself = codes "A profile inherits from itself."
code_meaning variants.UnknownParent = codes "A profile inherits from a profile that no file has."
code_meaning variants.InheritanceCycle = codes "Profiles inherit from each other in a cycle."
code_meaning variants.InvalidFilter =
    codes "A filter is not an expression of the filter language."
code_meaning variants.InvalidPlatform =
    codes "A platform is neither the name of a target nor a `cfg` expression."
code_meaning variants.RuleWithoutCondition = codes "A rule has neither a platform nor a filter."
code_meaning variants.TwoFilters =
    codes "An override has `filter` and `default-filter`, of which it may have one."
code_meaning variants.UnknownGroup = codes "An override sets a group that no file defines."
code_meaning variants.UnknownScript = codes "A rule names a script that no file defines."
code_meaning variants.WrongScriptKind =
    codes "A rule names a script at a key that takes scripts of another kind."
code_meaning variants.ListWrapperFilter =
    codes "A list wrapper wraps a whole binary, so its filter may not use tests."
code_meaning variants.UnknownProfile = codes "No file has the given profile."
code_meaning variants.UnknownTest = codes "The list has no test of the given name."
code_meaning variants.SeveralTests = codes "Several tests have the given name."

-- the lines of an example
unfoldable pub code_example : Code → List (List ℕ)
code_example variants.UnknownKey = codes "[profile.default]" ∷ codes "retires = 2" ∷ []
code_example variants.ReservedProfile = codes "[profile.default-ci]" ∷ codes "retries = 2" ∷ []
code_example variants.OldScriptTable = codes "[script.db]" ∷ codes "command = 'make db'" ∷ []
code_example variants.EmptyScriptRule =
    codes "[[profile.ci.scripts]]" ∷ codes "filter = 'test(db)'" ∷ []
code_example variants.JunitWithoutPath =
    codes "[profile.ci.junit]" ∷ codes "report-name = 'ci'" ∷ []
code_example variants.SecondToolFile =
    codes "--tool-config-file lint:a.toml --tool-config-file lint:b.toml" ∷ []
code_example variants.UnreadableFile = codes "--config-file nextest.tml" ∷ []
code_example variants.NotToml = codes "retries: 2" ∷ []
code_example variants.WrongKind = codes "[profile.ci]" ∷ codes "retries = '2'" ∷ []
code_example variants.MissingKey = codes "[test-groups.db]" ∷ []
code_example variants.InvalidValue = codes "[profile.ci]" ∷ codes "status-level = 'loud'" ∷ []
code_example variants.OutOfRange = codes "[profile.ci]" ∷ codes "retries = -1" ∷ []
code_example variants.MaxDelayBelowDelay =
    codes "[profile.ci.retries]" ∷ codes "backoff = 'exponential'" ∷ codes "count = 2" ∷
    codes "delay = '10s'" ∷ codes "max-delay = '1s'" ∷ []
code_example variants.RefusedKey =
    codes "[scripts.setup.db]" ∷ codes "command = { command-line = 'make db', dir = 'x' }" ∷ []
code_example variants.ForeignGroup =
    codes "[test-groups.'@tool:lint:db']" ∷ codes "max-threads = 1" ∷ []
code_example variants.ForeignScript =
    codes "[scripts.setup.'@tool:lint:db']" ∷ codes "command = 'make db'" ∷ []
code_example variants.TwoScriptTables =
    codes "[script.db]" ∷ codes "command = 'make db'" ∷ codes "[scripts.setup.user]" ∷
    codes "command = 'make user'" ∷ []
code_example variants.FeatureOff = codes "[scripts.setup.db]" ∷ codes "command = 'make db'" ∷ []
code_example variants.DuplicateScript =
    codes "[scripts.setup.db]" ∷ codes "command = 'make db'" ∷ codes "[scripts.wrapper.db]" ∷
    codes "command = 'with-db'" ∷ []
code_example variants.DefaultInherits = codes "[profile.default]" ∷ codes "inherits = 'ci'" ∷ []
code_example variants.InheritsItself = codes "[profile.ci]" ∷ codes "inherits = 'ci'" ∷ []
code_example variants.UnknownParent =
    codes "[profile.ci]" ∷ codes "inherits = 'bse'" ∷ codes "[profile.base]" ∷ []
code_example variants.InheritanceCycle =
    codes "[profile.a]" ∷ codes "inherits = 'b'" ∷ codes "[profile.b]" ∷ codes "inherits = 'a'" ∷ []
code_example variants.InvalidFilter = codes "[profile.ci]" ∷ codes "default-filter = 'test(db'" ∷ []
code_example variants.InvalidPlatform =
    codes "[[profile.ci.overrides]]" ∷ codes "platform = 'cfg(unix'" ∷ codes "retries = 1" ∷ []
code_example variants.RuleWithoutCondition =
    codes "[[profile.ci.overrides]]" ∷ codes "retries = 1" ∷ []
code_example variants.TwoFilters =
    codes "[[profile.ci.overrides]]" ∷ codes "platform = 'cfg(unix)'" ∷ codes "filter = 'all()'" ∷
    codes "default-filter = 'all()'" ∷ []
code_example variants.UnknownGroup =
    codes "[test-groups.db]" ∷ codes "max-threads = 1" ∷ codes "[[profile.ci.overrides]]" ∷
    codes "filter = 'test(db)'" ∷ codes "test-group = 'bd'" ∷ []
code_example variants.UnknownScript =
    codes "[scripts.setup.db]" ∷ codes "command = 'make db'" ∷ codes "[[profile.ci.scripts]]" ∷
    codes "filter = 'test(db)'" ∷ codes "setup = 'bd'" ∷ []
code_example variants.WrongScriptKind =
    codes "[scripts.setup.db]" ∷ codes "command = 'make db'" ∷ codes "[[profile.ci.scripts]]" ∷
    codes "filter = 'test(db)'" ∷ codes "run-wrapper = 'db'" ∷ []
code_example variants.ListWrapperFilter =
    codes "[[profile.ci.scripts]]" ∷ codes "filter = 'test(db)'" ∷ codes "list-wrapper = 'db'" ∷ []
code_example variants.UnknownProfile = codes "rinqebo explain --profile cii api db_test" ∷ []
code_example variants.UnknownTest = codes "rinqebo explain --list list.json api db_tset" ∷ []
code_example variants.SeveralTests = codes "rinqebo explain --list list.json db_test" ∷ []

-- what to do
unfoldable pub code_advice : Code → List ℕ
code_advice variants.UnknownKey = codes "Write the key that is meant."
code_advice variants.ReservedProfile = codes "Choose another name."
code_advice variants.OldScriptTable = codes "Move them to `scripts.setup`."
code_advice variants.EmptyScriptRule = codes "Name a script, or remove the rule."
code_advice variants.JunitWithoutPath = codes "Set the path of the report."
code_advice variants.SecondToolFile = codes "Name one file of the tool."
code_advice variants.UnreadableFile = codes "Name a file that is there and that may be read."
code_advice variants.NotToml = codes "Write TOML."
code_advice variants.WrongKind = codes "Write a value of a kind that the key takes."
code_advice variants.MissingKey = codes "Add the key."
code_advice variants.InvalidValue = codes "Write one of the strings that the key takes."
code_advice variants.OutOfRange = codes "Write a value in the range that the key takes."
code_advice variants.MaxDelayBelowDelay = codes "Raise `max-delay`, or lower `delay`."
code_advice variants.RefusedKey = codes "Remove the key."
code_advice variants.ForeignGroup = codes "Choose a name of the file's own."
code_advice variants.ForeignScript = codes "Choose a name of the file's own."
code_advice variants.TwoScriptTables = codes "Move all scripts to `scripts.setup`."
code_advice variants.FeatureOff = codes "Switch it on, in the file or by `--experimental`."
code_advice variants.DuplicateScript = codes "Rename one of them."
code_advice variants.DefaultInherits = codes "Remove `inherits`."
code_advice variants.InheritsItself = codes "Name another profile, or remove `inherits`."
code_advice variants.UnknownParent = codes "Name a profile that is there."
code_advice variants.InheritanceCycle = codes "Remove one `inherits`."
code_advice variants.InvalidFilter = codes "Correct the part that is marked."
code_advice variants.InvalidPlatform = codes "Correct the part that is marked."
code_advice variants.RuleWithoutCondition = codes "Add `filter` or `platform`."
code_advice variants.TwoFilters = codes "Remove one of them."
code_advice variants.UnknownGroup = codes "Name a group that is defined, or define it."
code_advice variants.UnknownScript = codes "Name a script that is defined, or define it."
code_advice variants.WrongScriptKind = codes "Name the script at the key of its kind."
code_advice variants.ListWrapperFilter = codes "Use packages, binaries or kinds."
code_advice variants.UnknownProfile = codes "Name a profile that is there."
code_advice variants.UnknownTest = codes "Name a test that is in the list."
code_advice variants.SeveralTests = codes "Name the binary, too."

-- the lines of the example, corrected
unfoldable pub code_correction : Code → List (List ℕ)
code_correction variants.UnknownKey = codes "[profile.default]" ∷ codes "retries = 2" ∷ []
code_correction variants.ReservedProfile = codes "[profile.ci]" ∷ codes "retries = 2" ∷ []
code_correction variants.OldScriptTable =
    codes "[scripts.setup.db]" ∷ codes "command = 'make db'" ∷ []
code_correction variants.EmptyScriptRule =
    codes "[[profile.ci.scripts]]" ∷ codes "filter = 'test(db)'" ∷ codes "setup = 'db'" ∷ []
code_correction variants.JunitWithoutPath =
    codes "[profile.ci.junit]" ∷ codes "path = 'junit.xml'" ∷ codes "report-name = 'ci'" ∷ []
code_correction variants.SecondToolFile = codes "--tool-config-file lint:a.toml" ∷ []
code_correction variants.UnreadableFile = codes "--config-file nextest.toml" ∷ []
code_correction variants.NotToml = codes "retries = 2" ∷ []
code_correction variants.WrongKind = codes "[profile.ci]" ∷ codes "retries = 2" ∷ []
code_correction variants.MissingKey = codes "[test-groups.db]" ∷ codes "max-threads = 1" ∷ []
code_correction variants.InvalidValue = codes "[profile.ci]" ∷ codes "status-level = 'all'" ∷ []
code_correction variants.OutOfRange = codes "[profile.ci]" ∷ codes "retries = 1" ∷ []
code_correction variants.MaxDelayBelowDelay =
    codes "[profile.ci.retries]" ∷ codes "backoff = 'exponential'" ∷ codes "count = 2" ∷
    codes "delay = '1s'" ∷ codes "max-delay = '10s'" ∷ []
code_correction variants.RefusedKey =
    codes "[scripts.setup.db]" ∷ codes "command = { command-line = 'make db' }" ∷ []
code_correction variants.ForeignGroup = codes "[test-groups.db]" ∷ codes "max-threads = 1" ∷ []
code_correction variants.ForeignScript =
    codes "[scripts.setup.db]" ∷ codes "command = 'make db'" ∷ []
code_correction variants.TwoScriptTables =
    codes "[scripts.setup.db]" ∷ codes "command = 'make db'" ∷ codes "[scripts.setup.user]" ∷
    codes "command = 'make user'" ∷ []
code_correction variants.FeatureOff =
    codes "experimental = ['setup-scripts']" ∷ codes "[scripts.setup.db]" ∷
    codes "command = 'make db'" ∷ []
code_correction variants.DuplicateScript =
    codes "[scripts.setup.db]" ∷ codes "command = 'make db'" ∷ codes "[scripts.wrapper.with-db]" ∷
    codes "command = 'with-db'" ∷ []
code_correction variants.DefaultInherits = codes "[profile.default]" ∷ []
code_correction variants.InheritsItself = codes "[profile.ci]" ∷ codes "inherits = 'default'" ∷ []
code_correction variants.UnknownParent =
    codes "[profile.ci]" ∷ codes "inherits = 'base'" ∷ codes "[profile.base]" ∷ []
code_correction variants.InheritanceCycle =
    codes "[profile.a]" ∷ codes "inherits = 'b'" ∷ codes "[profile.b]" ∷ []
code_correction variants.InvalidFilter =
    codes "[profile.ci]" ∷ codes "default-filter = 'test(db)'" ∷ []
code_correction variants.InvalidPlatform =
    codes "[[profile.ci.overrides]]" ∷ codes "platform = 'cfg(unix)'" ∷ codes "retries = 1" ∷ []
code_correction variants.RuleWithoutCondition =
    codes "[[profile.ci.overrides]]" ∷ codes "filter = 'all()'" ∷ codes "retries = 1" ∷ []
code_correction variants.TwoFilters =
    codes "[[profile.ci.overrides]]" ∷ codes "platform = 'cfg(unix)'" ∷
    codes "default-filter = 'all()'" ∷ []
code_correction variants.UnknownGroup =
    codes "[test-groups.db]" ∷ codes "max-threads = 1" ∷ codes "[[profile.ci.overrides]]" ∷
    codes "filter = 'test(db)'" ∷ codes "test-group = 'db'" ∷ []
code_correction variants.UnknownScript =
    codes "[scripts.setup.db]" ∷ codes "command = 'make db'" ∷ codes "[[profile.ci.scripts]]" ∷
    codes "filter = 'test(db)'" ∷ codes "setup = 'db'" ∷ []
code_correction variants.WrongScriptKind =
    codes "[scripts.setup.db]" ∷ codes "command = 'make db'" ∷ codes "[[profile.ci.scripts]]" ∷
    codes "filter = 'test(db)'" ∷ codes "setup = 'db'" ∷ []
code_correction variants.ListWrapperFilter =
    codes "[[profile.ci.scripts]]" ∷ codes "filter = 'package(db)'" ∷ codes "list-wrapper = 'db'" ∷
    []
code_correction variants.UnknownProfile = codes "rinqebo explain --profile ci api db_test" ∷ []
code_correction variants.UnknownTest = codes "rinqebo explain --list list.json api db_test" ∷ []
code_correction variants.SeveralTests = codes "rinqebo explain --list list.json api db_test" ∷ []
