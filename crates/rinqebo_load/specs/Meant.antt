-- What the files of a session mean.
use Rattle.filter_engine.specs.Engine.{Filter}
use Rattle.nextest_load.specs.Config.{ConfigModel, config_of}
use Rattle.nextest_sources.specs.Inputs.{sources_in}
use Rattle.platform_language.specs.Expressions.{Spec}
use Rattle.rinqebo_load.specs.Sessions.{files_view, readings}
use Rattle.rinqebo_load.specs.declared.session.Session.{Session}

-- what the files of a session mean
abbrev pub config_meant : Session → ConfigModel Filter Spec
config_meant session =
    config_of (readings session.engines.filters) (sources_in (files_view session.gathered.now))
