use Rattle.std.proofs.Common.{ap, ◌∙◌}
use Rattle.nextest_load.specs.Merged.{profiles_of}
use Rattle.nextest_load.proofs.Parting.{parts_kept}
use Rattle.nextest_load.proofs.merged.keep.Goals as goal

pub returns : goal.returns
returns c =
    parts_kept c.args.table _ _ c.take_profiles-rest.ensures.rest c.take_profiles-rest.ensures.scripts
    (c.in_ok-profiles.ensures ∙ ap profiles_of c.take_profiles-rest.ensures.profiles)
