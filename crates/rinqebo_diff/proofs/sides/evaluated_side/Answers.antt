use Rattle.rinqebo_diff.proofs.sides.evaluated_side.Goals as goal

pub profile_on-requires : goal.profile_on-requires
profile_on-requires c = c.requires

pub returns : goal.returns
returns c = record { is_profile = c.in_ok-profile.ensures; is_chain = c.in_ok-chain.ensures c.requires }
