use Rattle.std.proofs.Common.{map}
use Rattle.std.proofs.lemmas.Result.{err_from_is_err_and}
use Rattle.nextest_settings.specs.Profiles.Meaning.{configured_meaning, profile_meaning}
use Rattle.nextest_config.specs.ConfigView.{configured_in}
use Rattle.nextest_config.specs.RowView.{row_view}
use Rattle.nextest_config.specs.RunView.{question_view}
use Rattle.nextest_config.proofs.Answers.{profile_refused, memory_refused, with_rows, asked_profile}
use Rattle.nextest_config.proofs.run.answer.rows_of.Goals as goal

pub returns-in_err-early : goal.returns-in_err-early
returns-in_err-early g c =
    let F = g.F.Filters in
    let S = g.S.Specs in
    let configured = configured_meaning F.meaning S.spec_meaning (configured_in c.args.config.now) in
    let question = question_view c.args.profile.now c.args.platforms.now c.args.mode c.args.tests.now in
    let p = err_from_is_err_and c.from_residual.result c.from_residual.ensures.1 in
    record {
      answers = profile_refused S.holds_on F.holds configured question c.from_residual.result p.0
          c.in_err-early.field-0.0 p.1 p.2 c.in_err-early.ensures.missing (g.F.Tally.Tally.numbers c.args.tally.now);
    }

pub returns-in_err-rows_in : goal.returns-in_err-rows_in
returns-in_err-rows_in g c =
    let F = g.F.Filters in
    let S = g.S.Specs in
    let numbers = g.F.Tally.Tally.numbers in
    let configured = configured_meaning F.meaning S.spec_meaning (configured_in c.args.config.now) in
    let question = question_view c.args.profile.now c.args.platforms.now c.args.mode c.args.tests.now in
    let answer = c.from_residual-in_err-rows_in in
    let p = err_from_is_err_and answer.result answer.ensures.1 in
    let made = c.in_err-rows_in.ensures in
    record {
      answers = memory_refused S.holds_on F.holds configured question answer.result p.0 p.1 p.2
          (numbers c.args.tally.now) (numbers c.rows_in.new.tally) made.0 made.1;
    }

pub returns : goal.returns
returns g c =
    let F = g.F.Filters in
    let S = g.S.Specs in
    let numbers = g.F.Tally.Tally.numbers in
    let configured = configured_meaning F.meaning S.spec_meaning (configured_in c.args.config.now) in
    let question = question_view c.args.profile.now c.args.platforms.now c.args.mode c.args.tests.now in
    let profile = profile_meaning F.meaning c.in-Ok.profile in
    let is = asked_profile F.meaning S.spec_meaning S.holds_on question (configured_in c.args.config.now)
    c.in_ok-early.early c.in-Ok.profile c.in_ok-early.ensures.found c.in-Ok.ensures.ok in
    let made = c.in_ok-rows_in.ensures in
    record {
      answers = with_rows S.holds_on F.holds configured question (numbers c.args.tally.now)
          (numbers c.rows_in.new.tally) made.0 (map row_view c.in_ok-rows_in.field-0.items) profile
          c.in_ok-early.ensures.known is made.1 made.2;
    }
