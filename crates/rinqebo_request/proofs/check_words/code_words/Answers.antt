use Rattle.std.proofs.Common.{◌∙◌, ap, map}
use Rattle.std.proofs.lemmas.List.{take_all}
use Rattle.rinqebo_report.specs.Codes.Codes.{code_word}
use Rattle.rinqebo_report.specs.declared.codes.code.TheConstants.{CODES}
use Rattle.rinqebo_request.proofs.Hinting.{texts_more}
use Rattle.rinqebo_request.proofs.check_words.code_words.Goals as goal

pub loop-code-preserved : goal.loop-code-preserved
loop-code-preserved c =
    texts_more code_word CODES c.loop-code.code-index _ c.loop-code.words.items c.push.new.self.items c.word.result c.loop-code-test.true
    c.loop-code.invariant c.in_ok-push.ensures.items c.word.ensures

pub returns : goal.returns
returns c = c.loop-code.invariant ∙ ap (map code_word) (take_all c.loop-code.code-index CODES c.loop-code-test.false)
