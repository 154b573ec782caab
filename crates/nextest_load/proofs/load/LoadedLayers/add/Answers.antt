use Rattle.std.proofs.Common.{◌∷◌, ◌++◌, [], sym, subst}
use Rattle.nextest_places.specs.Standing.{ids_view}
use Rattle.nextest_load.specs.ScriptNames.{AreIdsOf}
use Rattle.nextest_load.specs.Scripts.{sections_at, setup_path, old_setup_path, wrapper_path}
use Rattle.nextest_load.proofs.Defining.{ids_with_last}
use Rattle.nextest_load.proofs.load.LoadedLayers.add.Goals as goal

pub returns-clause-names : goal.returns-clause-names
returns-clause-names g c ss s was setup old_setup wrapper =
    let old = c.args.self.now.names in
    let more = c.args.loaded.names in
    record {
      setup = subst (AreIdsOf (sections_at setup_path (ss ++ s ∷ []))) (sym c.in_ok-append.ensures.setup)
          (ids_with_last setup_path ss s (ids_view old.setup) (ids_view more.setup) was.setup setup);
      old_setup = subst (AreIdsOf (sections_at old_setup_path (ss ++ s ∷ [])))
          (sym c.in_ok-append.ensures.old_setup)
          (ids_with_last old_setup_path ss s (ids_view old.old_setup) (ids_view more.old_setup) was.old_setup
          old_setup);
      wrapper = subst (AreIdsOf (sections_at wrapper_path (ss ++ s ∷ [])))
          (sym c.in_ok-append.ensures.wrapper)
          (ids_with_last wrapper_path ss s (ids_view old.wrapper) (ids_view more.wrapper) was.wrapper wrapper);
    }
