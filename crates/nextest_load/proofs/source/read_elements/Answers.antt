use Rattle.std.proofs.Common.{◌≡◌, Ok, refl}
use Rattle.nextest_sources.specs.Sources.{source_view}
use Rattle.nextest_tables.specs.Tables.{a_file}
use Rattle.nextest_tree.specs.Reads.{start, walk_view, reading, Fails}
use Rattle.nextest_tree.specs.View.{tree_view}
use Rattle.nextest_load.proofs.Elements.{no_cause, noted_are, refusal_told}
use Rattle.nextest_load.proofs.source.read_elements.Goals as goal

pub returns-in-Ok-clause-found : goal.returns-in-Ok-clause-found
returns-in-Ok-clause-found c =
    let read : reading a_file (tree_view c.args.tree.now) start ≡ Ok (walk_view c.read_file.new.walk) =
    rw c.new-walk.ensures at c.in-Ok.ensures.reads in
    rw (no_cause (tree_view c.args.tree.now) _ read) refl

pub returns-in-Ok-clause-unknown : goal.returns-in-Ok-clause-unknown
returns-in-Ok-clause-unknown c q =
    let read : reading a_file (tree_view c.args.tree.now) start ≡ Ok (walk_view c.read_file.new.walk) =
    rw c.new-walk.ensures at c.in-Ok.ensures.reads in
    noted_are a_file (tree_view c.args.tree.now) c.read_file.new.walk read q

pub returns-in-Err-clause-found : goal.returns-in-Err-clause-found
returns-in-Err-clause-found c =
    let read : Fails c.in-Err.fault (reading a_file (tree_view c.args.tree.now) start) =
    rw c.new-walk.ensures at c.in-Err.ensures.reads in
    refusal_told (source_view c.args.source.now) (tree_view c.args.tree.now) c.in-Err.fault c.element.result
    read c.element.ensures.memory c.element.ensures.fault
