use Rattle.std.proofs.Common.{◌≡◌, map, take}
use Rattle.rinqebo_report.specs.Codes.Codes.{code_word}
use Rattle.rinqebo_report.specs.declared.codes.code.TheConstants.{CODES}
use Rattle.rinqebo_request.proofs.check_words.code_words.Given as goal

-- the words so far are those of the codes so far
abbrev pub invariant-loop-code : goal.invariant-loop-code
invariant-loop-code l = map (λ word. word.now) l.words.items ≡ map code_word (take l.code-index CODES)
