use Rattle.std.proofs.Common.{ap, subst, sym}
use Rattle.nextest_inheritance.specs.Parents.{parents_in}
use Rattle.nextest_inheritance.specs.View.{borrowed_view}
use Rattle.nextest_load.specs.Config.{config_parents}
use Rattle.nextest_settings.specs.Profiles.Profiles.{IsChainAndDefault}
use Rattle.rinqebo_results.proofs.list_page.ListPage.write.Goals as goal

pub profile_on-requires : goal.profile_on-requires
profile_on-requires g c = c.requires

pub write_on-requires-clause-is_chain : goal.write_on-requires-clause-is_chain
write_on-requires-clause-is_chain g c =
    let self = c.args.self.now in
    subst (IsChainAndDefault (parents_in (config_parents self.config.now.config)) self.list.profile.now)
    (sym (ap borrowed_view c.deref.ensures.value)) (c.in_ok-chain.ensures c.requires)

pub write_on-requires-clause-is_profile : goal.write_on-requires-clause-is_profile
write_on-requires-clause-is_profile g c = c.in_ok-on.ensures
