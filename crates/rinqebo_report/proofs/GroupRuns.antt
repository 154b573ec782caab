-- What a page shows of groups, by their tests and by the first test of each.
use Rattle.std.proofs.Common.{List, [], ◌∷◌, ◌++◌, map, filter, flat_map, ◌≡◌, refl, sym, ap, ◌∙◌}
use Rattle.std.proofs.lemmas.Cmp.{nat_list_eq_equiv}
use Rattle.std.specs.List.{AllByRecursion}
use Rattle.std.specs.Str.{bytes_eq}
use Rattle.rinqebo_report.specs.Groups.{reported_text, reported_runs, has_reported, firsts, test_groups, grouped_test_runs, members_runs, group_runs, groups_runs}
use Rattle.rinqebo_report.specs.declared.report.TestRows.{TestRows}
use Rattle.rinqebo_report.proofs.TestGroups.{Begins, firsts_begin}

members_as_group : (tests : List TestRows) (f : TestRows)
    → Begins bytes_eq nat_list_eq_equiv reported_text f (filter (has_reported (reported_text f)) tests)
    → members_runs (filter (has_reported (reported_text f)) tests) ≡ group_runs tests f
members_as_group tests f h =
    ap members_runs h.1 ∙ ap (λ l. reported_runs f ++ flat_map grouped_test_runs l) (sym h.1)

members_as_groups : (tests fs : List TestRows)
    → AllByRecursion (λ f. Begins bytes_eq nat_list_eq_equiv reported_text f (filter (has_reported (reported_text f)) tests)) fs
    → flat_map members_runs (map (λ f. filter (has_reported (reported_text f)) tests) fs)
    ≡ flat_map (group_runs tests) fs
members_as_groups tests [] h = refl
members_as_groups tests (f ∷ fs) h =
    λ j. members_as_group tests f h.0 j ++ members_as_groups tests fs h.1 j

-- what a page shows of all groups
pub runs_by_members : (tests : List TestRows)
    → flat_map members_runs (test_groups tests) ≡ groups_runs tests
runs_by_members tests =
    members_as_groups tests (firsts tests)
    (firsts_begin bytes_eq nat_list_eq_equiv reported_text tests)
