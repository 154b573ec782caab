use Rattle.nextest_places.proofs.spans.state.State.value.Goals as goal

pub returns-in_default-clause-closes : goal.returns-in_default-clause-closes
returns-in_default-clause-closes c =
    c.scalar.ensures c.args.self.now.nest.items
