use Rattle.std.proofs.Common.{◌≡◌, ◌++◌, codes}
use Rattle.filter_language.specs.Values.{package_name}
use Rattle.rinqebo_load.specs.FoundTests.{a_library, a_test}
use Rattle.rinqebo_load.proofs.Ids.{read_kind}
use Rattle.rinqebo_load.proofs.found_test.read_id.Goals as goal

pub returns-in_default : goal.returns-in_default
returns-in_default c = a_library c.in_default.ensures

pub returns-in-Some-kind_and_name : goal.returns-in-Some-kind_and_name
returns-in-Some-kind_and_name c =
    let whole : c.args.id.now ≡ package_name c.args.id.now ++ (codes "::" ++ c.in-Some.target.now) = c.in-Some.ensures in
    let e = c.in-Some-kind_and_name.ensures in
    read_kind c.args.id.now _ _ c.in-Some.target.now whole e.0 e.1 e.2

pub returns-in-None : goal.returns-in-None
returns-in-None c =
    let whole : c.args.id.now ≡ package_name c.args.id.now ++ (codes "::" ++ c.in-Some.target.now) = c.in-Some.ensures in
    a_test c.in-Some.target.now whole c.in-None.ensures
