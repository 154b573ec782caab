use Rattle.std.proofs.Common.{◌≡◌, ◌∷◌, ◌++◌, [], map, String, Global, string_bytes, refl, sym, ap, ◌∙◌, subst, append_assoc}
use Rattle.std.specs.List.Sorted.{IsStrictlySortedBy}
use Rattle.std.specs.Map.{keys_of}
use Rattle.std.specs.String.{string_cmp}
use Rattle.nextest_rules.proofs.InsertEntry.{goes_last, names_more, seen_more}
use Rattle.nextest_tables.specs.View.{by_name, profile_view}
use Rattle.nextest_tables.specs.declared.profile_table.ProfileTable.{ProfileTable}
use Rattle.nextest_load.specs.Config.{merged_profile}
use Rattle.nextest_load.specs.ConfigView.{merged_profile_view}
use Rattle.nextest_load.specs.Merged.{profiles_of}
use Rattle.nextest_load.proofs.merged.merged_profiles.Goals as goal

pub loop-name-preserved : goal.loop-name-preserved
loop-name-preserved c =
    let entry : String Global × ProfileTable = (c.in-Some.name, c.in-Some.table) in
    let rest = c.next.new.self in
    let written = c.merged_profile.result in
    let left = profiles_of (by_name profile_view rest) in
    let merged = c.loop-name.merged.entries in
    let inv = c.loop-name.invariant in
    let done = inv.0.0 in
    let steps = c.in-Some.ensures.steps in
    let all : c.args.profiles.entries ≡ done ++ entry ∷ rest = inv.0.1 ∙ ap (λ es. done ++ es) steps in
    let sorted = subst (λ es. IsStrictlySortedBy string_cmp (keys_of es)) all
    c.into_iter-name-iterator.ensures.into_iter_gives.5 in
    let grown : c.insert.new.self.entries ≡ merged ++ (entry.0, written) ∷ [] =
    c.in_ok-insert.ensures.entries ∙ goes_last done entry rest merged entry.0 written sorted inv.0.2 refl in
    let names = names_more merged done entry.0 entry.0 written entry.1 inv.0.2 refl in (
      (
        done ++ entry ∷ [],
        all ∙ sym (append_assoc done (entry ∷ []) rest),
        ap
            (λ es. map string_bytes (keys_of es)) grown ∙ names,
      ),
      ap (λ es. by_name merged_profile_view es ++ left) grown
          ∙ seen_more merged_profile_view merged entry.0 written (merged_profile (profile_view entry.1)) left
          c.merged_profile.ensures
          ∙ ap (λ es. by_name merged_profile_view merged ++ profiles_of (by_name profile_view es)) (sym steps) ∙ inv.1,
    )
