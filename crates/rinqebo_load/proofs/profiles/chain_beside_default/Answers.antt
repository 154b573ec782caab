use Rattle.std.proofs.Common.{◌≡◌, ◌∙◌, ap, subst, true, IfOk}
use Rattle.nextest_inheritance.specs.Parents.{parents_in, HasOneChain, IsChain}
use Rattle.nextest_inheritance.specs.View.{borrowed_view}
use Rattle.nextest_load.specs.Config.{config_parents}
use Rattle.nextest_settings.proofs.EachRuleOf.{each_at}
use Rattle.nextest_settings.proofs.ParentsIn.{parents_written, parents_same, keys_same}
use Rattle.nextest_tables.specs.FileTexts.{names_in}
use Rattle.nextest_tree.specs.Schema.{is_one_of}
use Rattle.rinqebo_load.proofs.profiles.chain_beside_default.Goals as goal

pub chain_of-requires : goal.chain_of-requires
chain_of-requires c =
    let config = c.args.config.now.config in
    let names = names_in config.profiles in
    let there : is_one_of names c.args.profile.now ≡ true = cc in
    let one = each_at (HasOneChain (parents_in (config_parents config)) names) names c.args.profile.now
    there c.profiles.ensures.closed.chains in
    let written = parents_same c.profiles.result.now.entries ∙ ap parents_written c.profiles.ensures.profiles in
    rw (written, keys_same config.profiles) one

pub returns-then-has_profile : goal.returns-then-has_profile
returns-then-has_profile c = λ there.
    let written = parents_same c.profiles.result.now.entries ∙ ap parents_written c.profiles.ensures.profiles in
    subst (λ ps. IfOk c.chain_of.result
    (λ chain. IsChain (parents_in ps) c.args.profile.now (borrowed_view chain.items)))
    written c.chain_of.ensures
