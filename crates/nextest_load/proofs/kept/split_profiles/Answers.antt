use Rattle.std.proofs.Common.{◌≡◌, ◌∷◌, ◌++◌, [], map, String, Global, string_bytes, refl, sym, ap, ◌∙◌, subst, append_assoc}
use Rattle.std.specs.List.Sorted.{IsStrictlySortedBy}
use Rattle.std.specs.Map.{keys_of}
use Rattle.std.specs.String.{string_cmp}
use Rattle.nextest_rules.proofs.InsertEntry.{goes_last, names_more, seen_more}
use Rattle.nextest_tables.specs.View.{by_name, profile_view}
use Rattle.nextest_tables.specs.declared.profile_table.ProfileTable.{ProfileTable}
use Rattle.nextest_load.specs.Config.{merged_profile}
use Rattle.nextest_load.specs.ConfigView.{merged_profile_view}
use Rattle.nextest_load.specs.Kept.{all_without_fields, without_fields}
use Rattle.nextest_load.specs.Merged.{profiles_of}
use Rattle.nextest_load.proofs.kept.split_profiles.Goals as goal

pub loop-name-preserved : goal.loop-name-preserved
loop-name-preserved c =
    let entry : String Global × ProfileTable = (c.in-Some.name, c.in-Some.profile) in
    let rest = c.next.new.self in
    let inv = c.loop-name.invariant in
    let done = inv.0.0 in
    let steps = c.in-Some.ensures.steps in
    let all : c.args.profiles.entries ≡ done ++ entry ∷ rest = inv.0.1 ∙ ap (λ es. done ++ es) steps in
    let sorted = subst (λ es. IsStrictlySortedBy string_cmp (keys_of es)) all
    c.into_iter-name-iterator.ensures.into_iter_gives.5 in
    let rules = c.loop-name.rules.entries in
    let ruled = c.in_ok-ruled.ruled in
    let key = c.in_ok-clone.field-0 in
    let same = c.in_ok-clone.ensures.cases in
    let rules_grown : c.insert.new.self.entries ≡ rules ++ (key, ruled) ∷ [] =
    c.in_ok-insert.ensures.entries ∙ goes_last done entry rest rules key ruled sorted inv.0.2 same in
    let kept = c.loop-name.kept.entries in
    let merged = c.in_ok-ruled.merged in
    let kept_grown : c.insert-in-loop-name.new.self.entries ≡ kept ++ (entry.0, merged) ∷ [] =
    c.in_ok-insert-2.ensures.entries ∙ goes_last done entry rest kept entry.0 merged sorted inv.0.3 refl in
    let rules_left = all_without_fields (by_name profile_view rest) in
    let kept_left = profiles_of (by_name profile_view rest) in (
      (
        done ++ entry ∷ [],
        all ∙ sym (append_assoc done (entry ∷ []) rest),
        ap (λ es. map string_bytes (keys_of es)) rules_grown
            ∙ names_more rules done key entry.0 ruled entry.1 inv.0.2 same,
        ap (λ es. map string_bytes (keys_of es)) kept_grown
            ∙ names_more kept done entry.0 entry.0 merged entry.1 inv.0.3 refl,
      ),
      ap (λ es. by_name profile_view es ++ rules_left) rules_grown
          ∙ seen_more profile_view rules key ruled (without_fields (profile_view entry.1)) rules_left
          c.in_ok-ruled.ensures.rules
          ∙ ap (λ name. by_name profile_view rules ++ (name, without_fields (profile_view entry.1)) ∷ rules_left) same
          ∙ ap (λ es. by_name profile_view rules ++ all_without_fields (by_name profile_view es)) (sym steps)
          ∙ inv.1,
      ap (λ es. by_name merged_profile_view es ++ kept_left) kept_grown
          ∙ seen_more merged_profile_view kept entry.0 merged (merged_profile (profile_view entry.1)) kept_left
          c.in_ok-ruled.ensures.kept
          ∙ ap (λ es. by_name merged_profile_view kept ++ profiles_of (by_name profile_view es)) (sym steps) ∙ inv.2,
    )
