use Rattle.std.proofs.Common.{◌∙◌, ap, arith, rules, option_map}
use Rattle.nextest_explain.specs.Engines.FilterTexts.{term_in, more_nots}
use Rattle.nextest_explain.proofs.engines.FilterTexts.{no_more_nots, one_more_not, shorter, term_behind_not}
use Rattle.nextest_explain.proofs.engines.parse.read_term.Goals as goal

pub loop-behind-init : goal.loop-behind-init
loop-behind-init c = record { utf8 = c.utf8.piece; short = omega arith; means = no_more_nots _ }

pub loop-behind-preserved : goal.loop-behind-preserved
loop-behind-preserved c =
    let l = c.loop-behind in
    let rest = l.rest.now in
    let behind = c.in-Some.behind.now in
    let cut = shorter rest behind c.in-Some.ensures in
    record {
      utf8 = search rules;
      short = omega (arith, cut, l.invariant.short);
      means = l.invariant.means
          ∙ ap (option_map (more_nots l.negations)) (term_behind_not rest behind c.in-Some.ensures)
          ∙ one_more_not l.negations (term_in behind);
    }
