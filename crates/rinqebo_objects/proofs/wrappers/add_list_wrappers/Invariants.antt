use Rattle.std.proofs.Common.{◌≡◌, ◌++◌, map, take}
use Rattle.nextest_engines.specs.Engines.{binary_view}
use Rattle.nextest_settings.specs.Profiles.Meaning.{profile_meaning}
use Rattle.nextest_scripts.specs.ScriptId.{script_text}
use Rattle.rinqebo_objects.specs.Used.{evaluated_for_lists, list_wrappers}
use Rattle.rinqebo_objects.proofs.wrappers.add_list_wrappers.Given as goal

-- the ids before, with those of the binaries so far, and the rules that are evaluated for these
abbrev pub invariant-loop-binary : goal.invariant-loop-binary
invariant-loop-binary g l =
    let F = g.F.Filters in
    let numbers = g.F.Tally.Tally.numbers in
    let profile = profile_meaning F.meaning l.profile in
    let binaries = map binary_view (take l.binary-index l.binaries) in
    record {
      wrappers : map (λ id. script_text id.now) l.ids.items
          ≡ map (λ id. script_text id.now) l.initial.ids.items ++ list_wrappers F.holds_binary profile binaries;
      tally : numbers l.tally ≡ numbers l.fn.tally ++ evaluated_for_lists F.holds_binary profile binaries;
    }
