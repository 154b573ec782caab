use Rattle.std.proofs.Common.{◌∙◌, ap, subst, IfOk}
use Rattle.nextest_inheritance.specs.Parents.{parents_in, HasOneChain, IsChain}
use Rattle.nextest_inheritance.specs.View.{borrowed_view}
use Rattle.nextest_load.specs.Config.{config_parents}
use Rattle.nextest_settings.proofs.EachRuleOf.{each_at}
use Rattle.nextest_settings.proofs.ParentsIn.{parents_written, parents_same, keys_same}
use Rattle.nextest_tables.specs.FileTexts.{names_in}
use Rattle.rinqebo_session.proofs.named.chain_in.Goals as goal

pub chain_of-requires : goal.chain_of-requires
chain_of-requires c =
    let config = c.args.config.now.config in
    let names = names_in config.profiles in
    let one = each_at (HasOneChain (parents_in (config_parents config)) names) names c.args.profile.now c.requires
    c.profiles.ensures.closed.chains in
    let written = parents_same c.profiles.result.now.entries ∙ ap parents_written c.profiles.ensures.profiles in
    rw (written, keys_same config.profiles) one

pub returns : goal.returns
returns c =
    let written = parents_same c.profiles.result.now.entries ∙ ap parents_written c.profiles.ensures.profiles in
    subst (λ ps. IfOk c.chain_of.result
    (λ chain. IsChain (parents_in ps) c.args.profile.now (borrowed_view chain.items)))
    written c.chain_of.ensures
