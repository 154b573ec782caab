-- The message of a finding on one line, with its advice.
use Rattle.std.specs.Prelude.{ℕ, List, [], ◌++◌, Option, None, Some, String, codes, string_bytes}
use Rattle.std.specs.declared.alloc.Global.{Global}
use Rattle.rinqebo_report.specs.declared.finding.Finding.{Finding}

-- the advice in parentheses: what is expected, and the help behind it
abbrev pub advice_text : Option (String Global) → Option (String Global) → List ℕ
advice_text None None = []
advice_text (Some expected) None = codes " (expected " ++ (string_bytes expected ++ codes ")")
advice_text None (Some help) = codes " (" ++ (string_bytes help ++ codes ")")
advice_text (Some expected) (Some help) =
    codes " (expected " ++ (string_bytes expected
    ++ (codes "; " ++ (string_bytes help ++ codes ")")))

-- the message, and behind it the advice
abbrev pub message_with_advice : Finding → List ℕ
message_with_advice finding =
    string_bytes finding.message ++ advice_text finding.expected finding.help
