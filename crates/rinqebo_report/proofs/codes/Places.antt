-- The place of each code among all.
use Rattle.std.proofs.Common.{◌≡◌, ◌<◌, ℕ, Contains, Some, refl, rules}
use Rattle.std.specs.List.{slice_get}
use Rattle.rinqebo_report.specs.declared.codes.code.Code.{Code}
use Rattle.rinqebo_report.specs.declared.codes.code.Code.TheVariants as variants
use Rattle.rinqebo_report.specs.declared.codes.code.TheConstants.{CODES}

-- the place of a code among all
abbrev pub place : Code → ℕ
place variants.UnknownKey = 0
place variants.ReservedProfile = 1
place variants.OldScriptTable = 2
place variants.EmptyScriptRule = 3
place variants.JunitWithoutPath = 4
place variants.SecondToolFile = 5
place variants.UnreadableFile = 6
place variants.NotToml = 7
place variants.WrongKind = 8
place variants.MissingKey = 9
place variants.InvalidValue = 10
place variants.OutOfRange = 11
place variants.MaxDelayBelowDelay = 12
place variants.RefusedKey = 13
place variants.ForeignGroup = 14
place variants.ForeignScript = 15
place variants.TwoScriptTables = 16
place variants.FeatureOff = 17
place variants.DuplicateScript = 18
place variants.DefaultInherits = 19
place variants.InheritsItself = 20
place variants.UnknownParent = 21
place variants.InheritanceCycle = 22
place variants.InvalidFilter = 23
place variants.InvalidPlatform = 24
place variants.RuleWithoutCondition = 25
place variants.TwoFilters = 26
place variants.UnknownGroup = 27
place variants.UnknownScript = 28
place variants.WrongScriptKind = 29
place variants.ListWrapperFilter = 30
place variants.UnknownProfile = 31
place variants.UnknownTest = 32
place variants.SeveralTests = 33

pub within : (code : Code) → place code < 34
within variants.UnknownKey = search rules
within variants.ReservedProfile = search rules
within variants.OldScriptTable = search rules
within variants.EmptyScriptRule = search rules
within variants.JunitWithoutPath = search rules
within variants.SecondToolFile = search rules
within variants.UnreadableFile = search rules
within variants.NotToml = search rules
within variants.WrongKind = search rules
within variants.MissingKey = search rules
within variants.InvalidValue = search rules
within variants.OutOfRange = search rules
within variants.MaxDelayBelowDelay = search rules
within variants.RefusedKey = search rules
within variants.ForeignGroup = search rules
within variants.ForeignScript = search rules
within variants.TwoScriptTables = search rules
within variants.FeatureOff = search rules
within variants.DuplicateScript = search rules
within variants.DefaultInherits = search rules
within variants.InheritsItself = search rules
within variants.UnknownParent = search rules
within variants.InheritanceCycle = search rules
within variants.InvalidFilter = search rules
within variants.InvalidPlatform = search rules
within variants.RuleWithoutCondition = search rules
within variants.TwoFilters = search rules
within variants.UnknownGroup = search rules
within variants.UnknownScript = search rules
within variants.WrongScriptKind = search rules
within variants.ListWrapperFilter = search rules
within variants.UnknownProfile = search rules
within variants.UnknownTest = search rules
within variants.SeveralTests = search rules

pub at_place : (code : Code) → slice_get CODES (place code) ≡ Some code
at_place variants.UnknownKey = refl
at_place variants.ReservedProfile = refl
at_place variants.OldScriptTable = refl
at_place variants.EmptyScriptRule = refl
at_place variants.JunitWithoutPath = refl
at_place variants.SecondToolFile = refl
at_place variants.UnreadableFile = refl
at_place variants.NotToml = refl
at_place variants.WrongKind = refl
at_place variants.MissingKey = refl
at_place variants.InvalidValue = refl
at_place variants.OutOfRange = refl
at_place variants.MaxDelayBelowDelay = refl
at_place variants.RefusedKey = refl
at_place variants.ForeignGroup = refl
at_place variants.ForeignScript = refl
at_place variants.TwoScriptTables = refl
at_place variants.FeatureOff = refl
at_place variants.DuplicateScript = refl
at_place variants.DefaultInherits = refl
at_place variants.InheritsItself = refl
at_place variants.UnknownParent = refl
at_place variants.InheritanceCycle = refl
at_place variants.InvalidFilter = refl
at_place variants.InvalidPlatform = refl
at_place variants.RuleWithoutCondition = refl
at_place variants.TwoFilters = refl
at_place variants.UnknownGroup = refl
at_place variants.UnknownScript = refl
at_place variants.WrongScriptKind = refl
at_place variants.ListWrapperFilter = refl
at_place variants.UnknownProfile = refl
at_place variants.UnknownTest = refl
at_place variants.SeveralTests = refl

pub contained : (code : Code) → Contains CODES code
contained variants.UnknownKey = (0, search rules, refl)
contained variants.ReservedProfile = (1, search rules, refl)
contained variants.OldScriptTable = (2, search rules, refl)
contained variants.EmptyScriptRule = (3, search rules, refl)
contained variants.JunitWithoutPath = (4, search rules, refl)
contained variants.SecondToolFile = (5, search rules, refl)
contained variants.UnreadableFile = (6, search rules, refl)
contained variants.NotToml = (7, search rules, refl)
contained variants.WrongKind = (8, search rules, refl)
contained variants.MissingKey = (9, search rules, refl)
contained variants.InvalidValue = (10, search rules, refl)
contained variants.OutOfRange = (11, search rules, refl)
contained variants.MaxDelayBelowDelay = (12, search rules, refl)
contained variants.RefusedKey = (13, search rules, refl)
contained variants.ForeignGroup = (14, search rules, refl)
contained variants.ForeignScript = (15, search rules, refl)
contained variants.TwoScriptTables = (16, search rules, refl)
contained variants.FeatureOff = (17, search rules, refl)
contained variants.DuplicateScript = (18, search rules, refl)
contained variants.DefaultInherits = (19, search rules, refl)
contained variants.InheritsItself = (20, search rules, refl)
contained variants.UnknownParent = (21, search rules, refl)
contained variants.InheritanceCycle = (22, search rules, refl)
contained variants.InvalidFilter = (23, search rules, refl)
contained variants.InvalidPlatform = (24, search rules, refl)
contained variants.RuleWithoutCondition = (25, search rules, refl)
contained variants.TwoFilters = (26, search rules, refl)
contained variants.UnknownGroup = (27, search rules, refl)
contained variants.UnknownScript = (28, search rules, refl)
contained variants.WrongScriptKind = (29, search rules, refl)
contained variants.ListWrapperFilter = (30, search rules, refl)
contained variants.UnknownProfile = (31, search rules, refl)
contained variants.UnknownTest = (32, search rules, refl)
contained variants.SeveralTests = (33, search rules, refl)
