use Rattle.std.proofs.Common.{◌≡◌, ◌∷◌, ◌++◌, [], List, map, String, Global, string_bytes, refl, sym, ap, ◌∙◌, subst, append_assoc, append-nil, if◌then◌else◌}
use Rattle.std.specs.List.Sorted.{IsStrictlySortedBy}
use Rattle.std.specs.Map.{keys_of}
use Rattle.std.specs.String.{string_cmp}
use Rattle.nextest_engines.specs.Readings.{readings_view}
use Rattle.nextest_inheritance.specs.Names.{is_default}
use Rattle.nextest_sources.specs.Causes.{CompileFault}
use Rattle.nextest_sources.specs.Errors.{compile_error_view}
use Rattle.nextest_sources.specs.Sources.{source_view}
use Rattle.nextest_tables.specs.FileTexts.{ProfileText}
use Rattle.nextest_tables.specs.View.{by_name, profile_view}
use Rattle.nextest_tables.specs.Written.{Name}
use Rattle.nextest_tables.specs.declared.profile_table.ProfileTable.{ProfileTable}
use Rattle.nextest_rules.specs.CompileFaults.{profile_faults}
use Rattle.nextest_rules.specs.Rules.{layer_of, layer_profile}
use Rattle.nextest_rules.specs.View.{profiles_view, profile_meaning_view}
use Rattle.nextest_rules.proofs.InsertEntry.{goes_last, names_more, seen_more}
use Rattle.nextest_rules.proofs.Ordering.{in_default, in_others, more_default, more_others, all_together}
use Rattle.nextest_rules.proofs.compile.compile_profiles.Goals as goal

pub loop-name-preserved : goal.loop-name-preserved
loop-name-preserved g c =
    let engines = readings_view g.F.Filters g.S.Specs c.args.pcx.now in
    let source = source_view c.args.source.now in
    let f : Name × ProfileText → List CompileFault = λ p. profile_faults engines p.0 p.1 in
    let made = λ (es : List (Name × ProfileText)). (layer_of engines source es).profiles in
    let entry : String Global × ProfileTable = (c.in-Some.name, c.in-Some.table) in
    let e : Name × ProfileText = (string_bytes entry.0, profile_view entry.1) in
    let rest = c.next.new.self in
    let left = by_name profile_view rest in
    let inv = c.loop-name.invariant in
    let done = inv.0.0 in
    let steps = c.in-Some.ensures.steps in
    let next : by_name profile_view c.loop-name.name-iterator ≡ e ∷ left = ap (by_name profile_view) steps in
    let before = c.loop-name.profiles.entries in
    let profile = c.in_ok-profile.profile in
    let found = c.compile_profile.new.errors.items in
    let was = c.loop-name.errors in
    let now = c.add.new.self in
    let all : c.args.tables.entries ≡ done ++ entry ∷ rest = inv.0.1 ∙ ap (λ es. done ++ es) steps in
    let sorted = subst (λ es. IsStrictlySortedBy string_cmp (keys_of es)) all
    c.into_iter-name-iterator.ensures.into_iter_gives.5 in
    let grown : c.insert.new.self.entries ≡ before ++ (entry.0, profile) ∷ [] =
    c.in_ok-insert.ensures.entries ∙ goes_last done entry rest before entry.0 profile sorted inv.0.2 refl in
    let names = names_more before done entry.0 entry.0 profile entry.1 inv.0.2 refl in
    let seen : map compile_error_view found ≡ f e =
    c.in_ok-profile.ensures.errors
    ∙ (λ i. map compile_error_view (c.new-found.ensures.items i)
    ++ profile_faults engines (c.as_str.ensures.value i) e.1) in
    let default : now.default.items ≡ was.default.items ++ (if is_default e.0 then found else []) =
    c.in_ok-add.ensures.default
    ∙ ap (λ name. was.default.items ++ (if is_default name then found else []))
    c.as_str-in-loop-name.ensures.value in
    let others : now.others.items ≡ was.others.items ++ (if is_default e.0 then [] else found) =
    c.in_ok-add.ensures.others
    ∙ ap (λ name. was.others.items ++ (if is_default name then [] else found))
    c.as_str-in-loop-name.ensures.value in
    let is : profile_meaning_view g.F.Filters.meaning g.S.Specs.spec_meaning profile
    ≡ layer_profile engines source e.0 e.1 =
    c.in_ok-profile.ensures.profile ∙ (λ i. layer_profile engines source (c.as_str.ensures.value i) e.1) in (
      (
        done ++ entry ∷ [],
        all ∙ sym (append_assoc done (entry ∷ []) rest),
        ap
            (λ es. map string_bytes (keys_of es)) grown ∙ names,
      ),
      more_default compile_error_view f was.default.items now.default.items found e left default seen
          ∙ ap (λ es. map compile_error_view was.default.items ++ in_default f es) (sym next) ∙ inv.1,
      more_others compile_error_view f was.others.items now.others.items found e left others seen
          ∙ ap (λ es. map compile_error_view was.others.items ++ in_others f es) (sym next) ∙ inv.2,
      ap (λ es. profiles_view g.F.Filters.meaning g.S.Specs.spec_meaning es ++ made left) grown
          ∙ seen_more (profile_meaning_view g.F.Filters.meaning g.S.Specs.spec_meaning) before entry.0 profile
          _ (made left) is
          ∙ ap (λ es. profiles_view g.F.Filters.meaning g.S.Specs.spec_meaning before ++ made es) (sym next) ∙ inv.3,
    )

pub returns-clause-profiles : goal.returns-clause-profiles
returns-clause-profiles g c = sym (append-nil _) ∙ (rw c.in-None.ensures.steps.0 at c.loop-name.invariant).3

pub returns-clause-faults : goal.returns-clause-faults
returns-clause-faults g c =
    let engines = readings_view g.F.Filters g.S.Specs c.args.pcx.now in
    let f : Name × ProfileText → List CompileFault = λ p. profile_faults engines p.0 p.1 in
    let inv = rw c.in-None.ensures.steps.0 at c.loop-name.invariant in
    all_together compile_error_view f (by_name profile_view c.args.tables.entries)
    c.loop-name.errors.default.items c.loop-name.errors.others.items c.in_ok-errors.errors.items
    c.in_ok-errors.ensures inv.1 inv.2
