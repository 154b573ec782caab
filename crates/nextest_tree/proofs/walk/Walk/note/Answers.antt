use Rattle.std.proofs.Common.{ap, ◌∙◌, string_bytes}
use Rattle.nextest_tree.specs.Schema.{below}
use Rattle.nextest_tree.specs.Reads.{walk_view}
use Rattle.nextest_tree.proofs.Reading.{noting_one}
use Rattle.nextest_tree.proofs.walk.Walk.note.Goals as goal

pub returns-clause-ok : goal.returns-clause-ok
unfolding walk_view
returns-clause-ok c = noting_one c.args.self.now.unknown c.insert.new.self c.in-Ok.path _
    (string_bytes c.args.self.now.path)
    (c.in-Ok.ensures ∙ ap (λ p. below p c.args.key.now) c.as_str.ensures.value) c.in-Ok-insert.ensures.updates
