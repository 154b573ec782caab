use Rattle.rinqebo_report.proofs.codes.Words.{NoneHas}
use Rattle.rinqebo_report.specs.Codes.Codes.{code_word}
use Rattle.rinqebo_report.specs.declared.codes.code.TheConstants.{CODES}
use Rattle.rinqebo_report.proofs.codes.code.find_code.Given as goal

-- no code so far has the word
abbrev pub invariant-loop-code : goal.invariant-loop-code
invariant-loop-code l = NoneHas code_word CODES l.word l.code-index
