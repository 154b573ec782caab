use Rattle.std.proofs.lemmas.Result.{err_from_is_err_and}
use Rattle.nextest_engines.specs.Readings.{readings_view}
use Rattle.nextest_rules.specs.KnownView.{features_view}
use Rattle.nextest_rules.proofs.AcceptedDefinitions.{accepted_definitions}
use Rattle.nextest_rules.proofs.AcceptedRules.{accepted_rules}
use Rattle.nextest_sources.specs.Inputs.{inputs_view}
use Rattle.nextest_sources.proofs.Runs.{ran_exit}
use Rattle.nextest_load.specs.Meaning.{loaded_meaning}
use Rattle.nextest_load.proofs.Accepting.{DefinitionsLaw, RulesLaw}
use Rattle.nextest_load.proofs.Loads.{parts_closed, refused_is, loaded_is}
use Rattle.nextest_load.proofs.loaded_config.LoadedConfig.load_parsed.Goals as goal

pub returns-in_err-parts : goal.returns-in_err-parts
returns-in_err-parts g c =
    let engines = readings_view g.F.Filters g.S.Specs c.args.pcx.now in
    let files = inputs_view c.args.inputs.now in
    let features = features_view c.args.inputs.now.features.now in
    let definitions : DefinitionsLaw features = λ source file. accepted_definitions features source file in
    let rules : RulesLaw engines =
    λ lower known source file sorted. accepted_rules engines lower known source file sorted in
    let e = c.in_err-parts.field-0.0 in
    let p = err_from_is_err_and c.from_residual.result c.from_residual.ensures.1 in record {
      loads = refused_is engines features files definitions rules c.law_first_duplicate.ensures.none
          (loaded_meaning g.F.Filters.meaning g.S.Specs.spec_meaning) c.from_residual.result p.0 p.1
          (ran_exit _ _ _ _ e c.from_residual.ensures.1 c.in_err-parts.ensures.ran);
    }

pub new-requires : goal.new-requires
new-requires g c =
    let engines = readings_view g.F.Filters g.S.Specs c.args.pcx.now in
    let files = inputs_view c.args.inputs.now in
    let features = features_view c.args.inputs.now.features.now in
    let definitions : DefinitionsLaw features = λ source file. accepted_definitions features source file in
    let rules : RulesLaw engines =
    λ lower known source file sorted. accepted_rules engines lower known source file sorted in
    parts_closed g.F.Filters.meaning g.S.Specs.spec_meaning engines features files definitions rules
    c.law_first_duplicate.ensures.none c.in_ok-parts.parts c.all.result c.all.ensures
    (g.met.F.Filters.default_filters_answer c.args.pcx.now.filters.now) c.in_ok-parts.ensures.ran
    c.in_ok-parts.ensures.parts

pub returns : goal.returns
returns g c =
    let engines = readings_view g.F.Filters g.S.Specs c.args.pcx.now in
    let files = inputs_view c.args.inputs.now in
    let features = features_view c.args.inputs.now.features.now in
    let definitions : DefinitionsLaw features = λ source file. accepted_definitions features source file in
    let rules : RulesLaw engines =
    λ lower known source file sorted. accepted_rules engines lower known source file sorted in record {
      loads = loaded_is g.F.Filters.meaning g.S.Specs.spec_meaning engines features files definitions rules
          c.law_first_duplicate.ensures.none c.in_ok-parts.parts c.all.result c.new.result c.all.ensures
          (g.met.F.Filters.default_filters_answer c.args.pcx.now.filters.now) c.in_ok-parts.ensures.ran
          c.in_ok-parts.ensures.parts c.new.ensures;
    }
