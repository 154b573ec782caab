use Rattle.std.proofs.Common.{inl, refl, ap}
use Rattle.rinqebo_faults.specs.Edits.{edits_view}
use Rattle.rinqebo_checks.specs.ReadAgain.{reading_view}
use Rattle.rinqebo_checks.proofs.LeftOutAfter.{listed_before, listed_file}
use Rattle.rinqebo_checks.proofs.search.Search.take_file.Goals as goal

pub returns-then-contains-clause-findings : goal.returns-then-contains-clause-findings
returns-then-contains-clause-findings c = inl (inl c.requires.whole, c.nothing.ensures)

pub returns-then-contains-clause-left_out : goal.returns-then-contains-clause-left_out
returns-then-contains-clause-left_out c =
    listed_before c.args.session.now.layers.items c.args.error.now c.args.place c.requires.at _ _ c.requires.whole refl

pub returns-clause-left_out : goal.returns-clause-left_out
returns-clause-left_out c =
    listed_file c.args.session.now.layers.items c.args.error.now c.args.place c.requires.at
    (reading_view c.args.self.now.reading) (reading_view c.leave_out_file.new.self.reading) c.requires.whole
    (ap edits_view c.in_ok-goes_on.ensures.edits) c.in_ok-goes_on.ensures.unread.0
