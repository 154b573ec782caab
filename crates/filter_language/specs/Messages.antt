-- The messages for faults.
use Rattle.std.specs.Prelude.{ℕ, List, ◌++◌, codes, decimal}
use Rattle.filter_language.specs.declared.fault.Ban.{Ban}
use Rattle.filter_language.specs.declared.fault.Ban.TheVariants.{DefaultInDefaultFilter, GroupInDefaultFilter, GroupInOverrideFilter}
use Rattle.filter_language.specs.declared.fault.FaultKind.{FaultKind}
use Rattle.filter_language.specs.declared.fault.FaultKind.TheVariants as kind
use Rattle.filter_language.specs.declared.fault.FiltersetFault.{FiltersetFault}

-- What is wrong with a set that may not be where it does, and why.
abbrev pub ban_summary : Ban → List ℕ
ban_summary DefaultInDefaultFilter = codes "predicate not allowed in `default-filter` expressions"
ban_summary GroupInDefaultFilter = codes "predicate not allowed in `default-filter` expressions"
ban_summary GroupInOverrideFilter = codes "predicate not allowed in `override-filter` expressions"

abbrev pub ban_label : Ban → List ℕ
ban_label DefaultInDefaultFilter = codes "default() causes infinite recursion"
ban_label GroupInDefaultFilter = codes "group() depends on overrides"
ban_label GroupInOverrideFilter = codes "group() depends on overrides"

-- The name of a fault.
abbrev pub name : FaultKind → List ℕ
name kind.ExpectedExpr = codes "ExpectedExpr"
name kind.TooDeeplyNested = codes "TooDeeplyNested"
name kind.ExpectedOpenParenthesis = codes "ExpectedOpenParenthesis"
name kind.ExpectedCloseParenthesis = codes "ExpectedCloseParenthesis"
name kind.UnexpectedArgument = codes "UnexpectedArgument"
name kind.UnexpectedComma = codes "UnexpectedComma"
name kind.InvalidString = codes "InvalidString"
name kind.InvalidEscapeCharacter = codes "InvalidEscapeCharacter"
name kind.InvalidGlob = codes "InvalidGlob"
name kind.InvalidRegex = codes "InvalidRegex"
name kind.TooLarge = codes "TooLarge"
name kind.ExpectedCloseRegex = codes "ExpectedCloseRegex"
name kind.InvalidPlatformArgument = codes "InvalidPlatformArgument"
name kind.InvalidOrOperator = codes "InvalidOrOperator"
name kind.InvalidAndOperator = codes "InvalidAndOperator"
name kind.ExpectedEndOfExpression = codes "ExpectedEndOfExpression"
name (kind.BannedPredicate ban) = codes "BannedPredicate"
name kind.NoTestGroups = codes "NoTestGroups"
name kind.NoPackageGraph = codes "NoPackageGraph"

-- What is wrong.
abbrev pub summary : FaultKind → List ℕ
summary kind.ExpectedExpr = codes "expected expression"
summary kind.TooDeeplyNested = codes "expression nests too deep"
summary kind.ExpectedOpenParenthesis = codes "expected open parenthesis"
summary kind.ExpectedCloseParenthesis = codes "expected close parenthesis"
summary kind.UnexpectedArgument = codes "unexpected argument"
summary kind.UnexpectedComma = codes "unexpected comma"
summary kind.InvalidString = codes "invalid string"
summary kind.InvalidEscapeCharacter = codes "invalid escape character"
summary kind.InvalidGlob = codes "invalid glob"
summary kind.InvalidRegex = codes "invalid regex"
summary kind.TooLarge = codes "pattern too large"
summary kind.ExpectedCloseRegex = codes "expected close regex"
summary kind.InvalidPlatformArgument = codes "invalid argument for platform"
summary kind.InvalidOrOperator = codes "invalid OR operator"
summary kind.InvalidAndOperator = codes "invalid AND operator"
summary kind.ExpectedEndOfExpression = codes "expected end of expression"
summary (kind.BannedPredicate ban) = ban_summary ban
summary kind.NoTestGroups = codes "test groups are not known"
summary kind.NoPackageGraph = codes "the package graph is not known"

-- What would be right.
abbrev pub label : FaultKind → List ℕ
label kind.ExpectedExpr = codes "missing expression"
label kind.TooDeeplyNested = codes "more than 128 levels"
label kind.ExpectedOpenParenthesis = codes "missing `(`"
label kind.ExpectedCloseParenthesis = codes "missing `)`"
label kind.UnexpectedArgument = codes "this set doesn't take an argument"
label kind.UnexpectedComma = codes "this set doesn't take multiple arguments"
label kind.InvalidString = codes "invalid string"
label kind.InvalidEscapeCharacter = codes "invalid escape character"
label kind.InvalidGlob = codes "invalid glob"
label kind.InvalidRegex = codes "invalid regex"
label kind.TooLarge = codes "its automaton may have too many states"
label kind.ExpectedCloseRegex = codes "missing `/`"
label kind.InvalidPlatformArgument = codes "expected \"target\" or \"host\""
label kind.InvalidOrOperator = codes "expected `|`, `+`, or `or`"
label kind.InvalidAndOperator = codes "expected `&` or `and`"
label kind.ExpectedEndOfExpression = codes "unparsed input"
label (kind.BannedPredicate ban) = ban_label ban
label kind.NoTestGroups = codes "group() needs the test groups"
label kind.NoPackageGraph = codes "this set needs the package graph"

-- The message for a fault.
abbrev pub message : FiltersetFault → List ℕ
message fault = summary fault.kind ++ codes ": " ++ label fault.kind
    ++ codes " (offset " ++ decimal fault.span.start ++ codes ", length "
    ++ decimal fault.span.length ++ codes ")"
