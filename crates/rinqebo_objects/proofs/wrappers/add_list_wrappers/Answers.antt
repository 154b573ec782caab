use Rattle.std.proofs.Common.{◌≡◌, ◌∙◌, ◌++◌, Bor, Global, List, ℕ, Option, Vec, ap, map, refl}
use Rattle.std.proofs.lemmas.List.{take_all}
use Rattle.nextest_engines.specs.Engines.{Binary, binary_view}
use Rattle.nextest_scripts.specs.ScriptId.{script_text}
use Rattle.nextest_scripts.specs.declared.script_id.ScriptId.{ScriptId}
use Rattle.nextest_settings.specs.Profiles.Meaning.{profile_meaning}
use Rattle.nextest_settings.specs.Queries.{binary_query, evaluated_for_list, list_wrapper_of}
use Rattle.nextest_tables.specs.Written.{Name}
use Rattle.rinqebo_objects.specs.Used.{evaluated_for_lists, list_wrappers}
use Rattle.rinqebo_objects.proofs.Gathered.{added_more, picked_more, picked_none, picked_one}
use Rattle.rinqebo_objects.proofs.wrappers.add_list_wrappers.Goals as goal
use Rattle.rinqebo_objects.proofs.wrappers.add_list_wrappers.Goals.{in-Some+in_ok-push, in_default}

pub loop-binary-preserved : goal.loop-binary-preserved
loop-binary-preserved g c =
    let F = g.F.Filters in
    let profile = profile_meaning F.meaning c.args.profile.now in
    let default = profile.default_filter.filter in
    let wraps : Binary → Option Name = λ binary. list_wrapper_of (binary_query F.holds_binary default binary) profile in
    let evaluates : Binary → List ℕ = λ binary. evaluated_for_list (binary_query F.holds_binary default binary) profile in
    let text : Bor ScriptId → Name = λ id. script_text id.now in
    let items : Vec (Bor ScriptId) Global → List (Bor ScriptId) = λ ids. ids.items in
    let old = c.loop-binary.ids in
    let new = c.match-list_wrapper_of.ids in
    let binaries = c.args.binaries.now in
    let n = c.loop-binary.binary-index in
    let is = c.list_wrapper_of.ensures in
    record {
      wrappers = picked_more binaries n _ _ c.loop-binary-test.true refl wraps binary_view _ (map text old.items)
          (map text new.items) c.loop-binary.invariant.wrappers
          (elim c.match-list_wrapper_of.branch [
            | in-Some+in_ok-push w ↦ picked_one text old.items new.items _ _ is.wrapper w.in-Some.id w.in-Some.is
                (ap items w.ids-is ∙ w.in_ok-push.ensures.items)
            | in_default w ↦ picked_none text old.items new.items _ _ is.wrapper w.in_default.is (ap items w.ids-is)
          ]);
      tally = added_more binaries n _ _ c.loop-binary-test.true refl evaluates binary_view _ _ _
          c.loop-binary.invariant.tally is.tally;
    }

pub returns-clause-wrappers : goal.returns-clause-wrappers
returns-clause-wrappers g c =
    let F = g.F.Filters in
    let profile = profile_meaning F.meaning c.args.profile.now in
    c.loop-binary.invariant.wrappers
    ∙ ap (λ binaries. map (λ id. script_text id.now) c.args.ids.now.items
    ++ list_wrappers F.holds_binary profile (map binary_view binaries))
    (take_all c.loop-binary.binary-index c.args.binaries.now c.loop-binary-test.false)

pub returns-clause-tally : goal.returns-clause-tally
returns-clause-tally g c =
    let F = g.F.Filters in
    let profile = profile_meaning F.meaning c.args.profile.now in
    c.loop-binary.invariant.tally
    ∙ ap (λ binaries. g.F.Tally.Tally.numbers c.args.tally.now
    ++ evaluated_for_lists F.holds_binary profile (map binary_view binaries))
    (take_all c.loop-binary.binary-index c.args.binaries.now c.loop-binary-test.false)
