use Rattle.std.proofs.Common.{option_map, string_bytes}
use Rattle.rinqebo_forms.specs.Machines.{IsMetadataFault}
use Rattle.rinqebo_request.specs.declared.named.FileOption.TheVariants as options
use Rattle.rinqebo_load.specs.InputFaults.{IsAboutFile}
use Rattle.rinqebo_load.specs.ListPath.{path_of}
use Rattle.rinqebo_load.specs.declared.fault.Subject.TheVariants as subjects
use Rattle.rinqebo_load.proofs.Causes.{of_engine}
use Rattle.rinqebo_load.proofs.engines.filters_at.Goals as goal

pub returns-in_ok-file-in-Err-clause-err : goal.returns-in_ok-file-in-Err-clause-err
returns-in_ok-file-in-Err-clause-err c =
    let e = c.in_ok-file-in-Err.ensures in
    rw c.of_engine.ensures
    (of_engine (IsAboutFile (path_of c.args.path) options.Metadata)
    (IsMetadataFault (option_map string_bytes c.args.metadata.now)) (subjects.File c.in_ok-file-in-Err.file) c.in-Err.fault
    (e.path, e.option) c.in-Err.ensures.err)
