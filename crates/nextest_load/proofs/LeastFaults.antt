-- What a sorted tree is refused for: its least fault, and its cycles.
use Rattle.std.proofs.Common.{◌≡◌, List, [], ◌∷◌, map, Some, option_map, refl, ◌∙◌}
use Rattle.nextest_inheritance.specs.Cycles.{cycles_in}
use Rattle.nextest_inheritance.specs.Faults.{is_known}
use Rattle.nextest_inheritance.specs.Parents.{parents_in}
use Rattle.nextest_inheritance.proofs.Listing.{are_cycles}
use Rattle.nextest_inheritance.proofs.Naming.{name_cycles, tell_stranded}
use Rattle.nextest_rules.specs.Steps.{written_parents}
use Rattle.nextest_sources.specs.Causes.{NameSet, bad_element}
use Rattle.nextest_tables.specs.FileTexts.{file_text}
use Rattle.nextest_tables.specs.Tables.{a_file}
use Rattle.nextest_tree.specs.Node.{Node, IsSorted}
use Rattle.nextest_tree.specs.Place.{SitedCause, Ascends, fault_at_place, sited_causes}
use Rattle.nextest_tree.specs.Schema.{Fault, first, faults}
use Rattle.nextest_tree.proofs.Places.{ordered_faults}
use Rattle.nextest_load.specs.Laws.{IsLeastFault, RefusesCycles, RefusesLeast}
use Rattle.nextest_load.proofs.SortedTrees.{parents_ascend}

-- the first of causes that ascend is the least
least_of : (n : Node) (fault : Fault) (xs : List SitedCause) (fs : List Fault) → sited_causes a_file n ≡ xs
    → fs ≡ map (fault_at_place []) xs → Ascends xs
    → option_map bad_element (first fs) ≡ Some (bad_element fault) → IsLeastFault n fault
least_of n fault [] [] all same ascend is = cc
least_of n fault [] (f ∷ fs) all same ascend is = cc
least_of n fault (x ∷ xs) [] all same ascend is = cc
least_of n fault (x ∷ xs) (f ∷ fs) all same ascend is =
    let told : fault ≡ f = cc in
    let here : f ≡ fault_at_place [] x = cc in
    record {
      before = [];
      least = x;
      after = xs;
      splits = all;
      is = told ∙ here;
      first_of_before =
          tt;
      first_of_after = ascend.0;
    }

pub refuses_least : (n : Node) → IsSorted n → RefusesLeast n
refuses_least n s fault is =
    let order = ordered_faults a_file [] n s in
    least_of n fault (sited_causes a_file n) (faults a_file [] n) refl order.at_places order.ascending is

-- the cycles of its parents
pub refuses_cycles : (lower : NameSet) (n : Node) → IsSorted n → RefusesCycles lower (file_text n)
refuses_cycles lower n s =
    let written = written_parents (file_text n).profiles in
    let ordered = parents_ascend n s in record {
      cycles = name_cycles (is_known lower written) written (parents_in written) (cycles_in written)
          (are_cycles written ordered);
      stranded = tell_stranded (is_known lower written) written (cycles_in written) (are_cycles written ordered);
    }
