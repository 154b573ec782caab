-- The messages for faults.
use Rattle.std.specs.Prelude.{ℕ, List, ◌++◌, Option, Some, codes, decimal}
use Rattle.platform_language.specs.declared.fault.FaultKind.{FaultKind}
use Rattle.platform_language.specs.declared.fault.FaultKind.TheVariants as kind
use Rattle.platform_language.specs.declared.fault.Expected.{Expected}
use Rattle.platform_language.specs.declared.fault.Expected.TheVariants as wanted
use Rattle.platform_language.specs.declared.fault.TargetSpecFault.{TargetSpecFault}

-- what may be there, with blanks between
abbrev pub words : Expected → List ℕ
words wanted.Expression = codes "<key> all any not"
words wanted.Parenthesis = codes "("
words wanted.FirstPart = codes "<key> ) all any not"
words wanted.FurtherPart = codes ") <key>"
words wanted.BehindKey = codes "= , )"
words wanted.Value = codes "\""
words wanted.ValueAtEnd = codes "\"<value>\""
words wanted.BehindValue = codes ", )"
words wanted.BehindClose = codes ") ,"

-- the message if something else is there
abbrev pub expected_label : Expected → List ℕ
expected_label wanted.Expression = codes "expected one of `<key>`, `all`, `any`, `not` here"
expected_label wanted.Parenthesis = codes "expected a `(` here"
expected_label wanted.FirstPart = codes "expected one of `<key>`, `)`, `all`, `any`, `not` here"
expected_label wanted.FurtherPart = codes "expected one of `)`, `<key>` here"
expected_label wanted.BehindKey = codes "expected one of `=`, `,`, `)` here"
expected_label wanted.Value = codes "expected a `\"` here"
expected_label wanted.ValueAtEnd = codes "expected a `\"<value>\"` here"
expected_label wanted.BehindValue = codes "expected one of `,`, `)` here"
expected_label wanted.BehindClose = codes "expected one of `)`, `,` here"

-- the message for a kind of fault, if nothing else is expected
abbrev pub kind_label : FaultKind → List ℕ
kind_label kind.EmptyText = codes "expected a triple or `cfg(`"
kind_label kind.BadTripleCharacter = codes "expected a letter, a digit, `_`, `-` or `.`"
kind_label kind.ForeignCharacter = codes "foreign character"
kind_label kind.UnclosedQuotes = codes "unclosed quotes"
kind_label kind.Unexpected = codes "unexpected"
kind_label kind.UnopenedParens = codes "unopened parentheses"
kind_label kind.UnclosedParens = codes "unclosed parentheses"
kind_label (kind.NotTakesOne n) = codes "`not` takes one part"
kind_label kind.Empty = codes "expected an expression"
kind_label kind.SeveralRoots = codes "expected one expression, and not several"
kind_label kind.TooDeep = codes "functions nest more than 128 deep"
kind_label kind.ValueWanted = codes "expected `= \"<value>\"` behind this key"
kind_label kind.UnknownTargetKey = codes "unknown key"
kind_label kind.ValueNotAllowed = codes "this key takes no value"
kind_label kind.EmptyFeature = codes "expected a feature"
kind_label kind.BadEndian = codes "expected `big` or `little`"
kind_label kind.BadWidth = codes "expected a number to 255"
kind_label kind.BadAtomic = codes "expected `ptr` or a number to 65535"

-- of what kind of text a kind of fault is
abbrev pub subject : FaultKind → List ℕ
subject kind.EmptyText = codes "invalid triple"
subject kind.BadTripleCharacter = codes "invalid triple"
subject _ = codes "error parsing cfg() expression"

-- the message for a fault, without its place
abbrev pub label_of : FaultKind → Option Expected → List ℕ
label_of kind.Unexpected (Some expected) = expected_label expected
label_of kind _ = kind_label kind

-- the message for a fault
abbrev pub message : TargetSpecFault → List ℕ
message fault = subject fault.kind ++ codes ": " ++ label_of fault.kind fault.expected
    ++ codes " at bytes " ++ decimal fault.span.start ++ codes ".." ++ decimal fault.span.end
