use Rattle.std.proofs.Common.{◌≡◌, flat_map, take, string_bytes}
use Rattle.rinqebo_report.specs.Codes.CodePages.{listed_text}
use Rattle.rinqebo_report.proofs.codes.page.list_of.Given as goal

abbrev pub invariant-loop-code : goal.invariant-loop-code
invariant-loop-code l = string_bytes l.text ≡ flat_map listed_text (take l.code-index l.all)
