use Rattle.std.proofs.Common.{◌≡◌, ◌<◌, true, refl, arith, rules}
use Rattle.rinqebo_report.proofs.codes.Places.{place, within, at_place}
use Rattle.rinqebo_report.proofs.codes.Words.{none_more}
use Rattle.rinqebo_report.specs.Codes.Codes.{code_word}
use Rattle.rinqebo_report.specs.declared.codes.code.TheConstants.{CODES}
use Rattle.rinqebo_report.proofs.codes.code.find_code.Goals as goal

pub loop-code-preserved : goal.loop-code-preserved
loop-code-preserved c =
    none_more code_word CODES c.args.word.now c.loop-code.code-index _ _
    c.loop-code-test.true refl c.loop-code.invariant
    (λ is. let has : c.has_word.result ≡ true = c.has_word.ensures.1 is in search rules)

pub returns : goal.returns
returns c =
    λ code.
    let here : place code < 34 = within code in
    let so_far : place code < c.loop-code.code-index = omega (arith, c.loop-code-test.false, here) in
    c.loop-code.invariant (place code) so_far code (at_place code)
