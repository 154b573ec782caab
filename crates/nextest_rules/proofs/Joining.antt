-- Faults of scripts, some after others.
use Rattle.std.proofs.Common.{◌≡◌, List, [], ◌++◌, refl, sym, ap, ◌∙◌, append_assoc, append-nil}
use Rattle.std.proofs.lemmas.List.Elements.{filter_map-append}
use Rattle.nextest_scripts.specs.declared.script_type.ProfileScriptType.{ProfileScriptType}
use Rattle.nextest_sources.specs.Causes.{ScriptFaults}
use Rattle.nextest_tables.specs.Written.{Name}
use Rattle.nextest_rules.specs.Known.{KnownSets}
use Rattle.nextest_rules.specs.RuleFaults.{AreMore, unknown_script, wrong_script, use_faults}

-- some faults and then others
abbrev pub joined : ScriptFaults → ScriptFaults → ScriptFaults
joined a b = record {
  unknown_scripts = a.unknown_scripts ++ b.unknown_scripts;
  wrong_scripts = a.wrong_scripts ++ b.wrong_scripts;
  list_filters = a.list_filters ++ b.list_filters;
}

-- no fault
abbrev pub no_faults : ScriptFaults
no_faults = record { unknown_scripts = []; wrong_scripts = []; list_filters = [] }

-- all faults are those that are there and those that follow
pub are_joined : (a b : ScriptFaults) → AreMore a b (joined a b)
are_joined a b = record { unknown = refl; wrong = refl; lists = refl }

regroup : {X : Type 0} (now one next rest both all : List X) → next ≡ now ++ one → both ≡ one ++ rest
    → all ≡ now ++ both → all ≡ next ++ rest
regroup now one next rest both all more split so_far =
    so_far ∙ ap (λ l. now ++ l) split ∙ sym (append_assoc now one rest) ∙ ap (λ l. l ++ rest) (sym more)

-- one part more is there
pub part_more : (now one next rest both all : ScriptFaults) → AreMore now one next → AreMore one rest both
    → AreMore now both all → AreMore next rest all
part_more now one next rest both all more split so_far = record {
  unknown = regroup _ one.unknown_scripts _ _ _ _ more.unknown split.unknown so_far.unknown;
  wrong = regroup _ one.wrong_scripts _ _ _ _ more.wrong split.wrong so_far.wrong;
  lists = regroup _ one.list_filters _ _ _ _ more.lists split.lists so_far.lists;
}

-- no part is left
pub all_there : (now old more : ScriptFaults) → AreMore now no_faults (joined old more) → AreMore old more now
all_there now old more h = record {
  unknown = sym (h.unknown ∙ append-nil now.unknown_scripts);
  wrong = sym (h.wrong ∙ append-nil now.wrong_scripts);
  lists = sym (h.lists ∙ append-nil now.list_filters);
}

joins : {X : Type 0} (old a mid b new both : List X) → mid ≡ old ++ a → new ≡ mid ++ b → both ≡ a ++ b
    → new ≡ old ++ both
joins old a mid b new both first second is =
    second ∙ ap (λ l. l ++ b) first ∙ append_assoc old a b ∙ ap (λ l. old ++ l) (sym is)

-- one part after another
pub part_then : (old a mid b new both : ScriptFaults) → AreMore old a mid → AreMore mid b new
    → AreMore a b both → AreMore old both new
part_then old a mid b new both first second is = record {
  unknown = joins _ a.unknown_scripts _ _ _ _ first.unknown second.unknown is.unknown;
  wrong = joins _ a.wrong_scripts _ _ _ _ first.wrong second.wrong is.wrong;
  lists = joins _ a.list_filters _ _ _ _ first.lists second.lists is.lists;
}

-- the faults of two lists of uses
pub uses_joined : (known : KnownSets) (profile : Name) (us vs : List (Name × ProfileScriptType))
    → AreMore (use_faults known profile us) (use_faults known profile vs) (use_faults known profile (us ++ vs))
uses_joined known profile us vs = record {
  unknown = filter_map-append (λ u. unknown_script known profile u.0) us vs;
  wrong = filter_map-append (wrong_script known profile) us vs;
  lists = refl;
}

-- the same faults, list by list
pub same_faults : (now all : ScriptFaults) → AreMore now no_faults (joined no_faults all) → now ≡ all
same_faults now all h = λ i. record {
  unknown_scripts = sym (h.unknown ∙ append-nil now.unknown_scripts) i;
  wrong_scripts = sym (h.wrong ∙ append-nil now.wrong_scripts) i;
  list_filters = sym (h.lists ∙ append-nil now.list_filters) i;
}
