use Rattle.nextest_load.specs.ConfigView.{merged_profile_view}
use Rattle.nextest_settings.proofs.AtName.{got_at}
use Rattle.nextest_settings.proofs.gather.merged_profile_at.Goals as goal

pub returns : goal.returns
returns c = got_at merged_profile_view c.args.name.now c.args.profiles.now.entries c.get.result c.get.ensures.value
