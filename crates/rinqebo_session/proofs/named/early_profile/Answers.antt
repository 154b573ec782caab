use Rattle.rinqebo_session.proofs.named.early_profile.Goals as goal

pub returns : goal.returns
returns c = rw c.as_str-root.ensures.value at c.new.ensures
