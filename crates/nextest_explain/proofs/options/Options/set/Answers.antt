use Rattle.nextest_explain.proofs.Reading.{on_ok}
use Rattle.nextest_explain.proofs.Taken.{sets_config_file, sets_organisation_config_file, sets_host, sets_target}
use Rattle.nextest_explain.proofs.options.Options.set.Goals as goal

pub returns-in-ConfigFile : goal.returns-in-ConfigFile
returns-in-ConfigFile c =
    rw c.in-ConfigFile.is (on_ok c.set_once.result
    (sets_config_file c.args.self.now c.args.value.now c.set_once.new.option) c.set_once.ensures)

pub returns-in-OrganisationConfigFile : goal.returns-in-OrganisationConfigFile
returns-in-OrganisationConfigFile c =
    let set_once = c.set_once-in-OrganisationConfigFile in
    rw c.in-OrganisationConfigFile.is (on_ok set_once.result
    (sets_organisation_config_file c.args.self.now c.args.value.now set_once.new.option) set_once.ensures)

pub returns-in-Host : goal.returns-in-Host
returns-in-Host c =
    rw c.in-Host.is (on_ok c.set_once-in-Host.result
    (sets_host c.args.self.now c.args.value.now c.set_once-in-Host.new.option) c.set_once-in-Host.ensures)

pub returns-in-Target : goal.returns-in-Target
returns-in-Target c =
    rw c.in-Target.is (on_ok c.set_once-in-Target.result
    (sets_target c.args.self.now c.args.value.now c.set_once-in-Target.new.option) c.set_once-in-Target.ensures)
