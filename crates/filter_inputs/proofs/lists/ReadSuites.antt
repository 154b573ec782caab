-- Suites that are read one after another.
use Rattle.std.proofs.Common.{◌≡◌, ℕ, List, [], ◌∷◌, ◌++◌, String, Global, map, None, Some, refl, sym, ap, subst, ◌∙◌, append-nil, append_assoc}
use Rattle.std.proofs.lemmas.Grind.{flat_map-append}
use Rattle.std.proofs.lemmas.List.{map-append}
use Rattle.std.proofs.lemmas.Slice.Zip.{all_zipped_more}
use Rattle.std.specs.List.{AllZip, flat_map}
use Rattle.serde_json.specs.Data.{Data}
use Rattle.serde_json.specs.View.{members_view}
use Rattle.serde_json.specs.declared.value.Value.{Value}
use Rattle.filter_inputs.specs.Lists.Demands.{Fault, listed, suite_demands, first_fault}
use Rattle.filter_inputs.specs.Lists.Lists.{Listed, IsSuiteOf}
use Rattle.filter_inputs.proofs.lists.FirstFaults.{fault_behind, fault_before}

abbrev pub Entries : Type 0
Entries = List (String Global × Value)

abbrev pub suites_in : Entries → List (List ℕ × Data)
suites_in es = listed (members_view es)

-- of some suites the first are read, as these binaries, and the others are left
pub record AreReadTo (all left : Entries) (binaries : List Listed) : Type 0 where
  pub done : List (List ℕ × Data)
  pub splits : done ++ suites_in left ≡ suites_in all
  pub are : AllZip IsSuiteOf (map (λ s. s.1) done) binaries
  pub met : first_fault (flat_map suite_demands done) ≡ None

pub none_read : (all left : Entries) (binaries : List Listed) → left ≡ all → binaries ≡ [] → AreReadTo all left binaries
none_read all left binaries same none = record {
  done = [];
  splits = ap suites_in same;
  are = subst (AllZip IsSuiteOf []) (sym none) tt;
  met = refl;
}

demands_more : (done : List (List ℕ × Data)) (s : List ℕ × Data)
    → flat_map suite_demands (done ++ s ∷ []) ≡ flat_map suite_demands done ++ suite_demands s
demands_more done s =
    flat_map-append suite_demands done (s ∷ [])
    ∙ ap (λ more. flat_map suite_demands done ++ more) (append-nil (suite_demands s))

pub one_read : (all left rest : Entries) (binaries after : List Listed) (s : List ℕ × Data) (b : Listed)
    → AreReadTo all left binaries → suites_in left ≡ s ∷ suites_in rest → IsSuiteOf s.1 b
    → first_fault (suite_demands s) ≡ None → after ≡ binaries ++ b ∷ [] → AreReadTo all rest after
one_read all left rest binaries after s b so_far next is met pushed = record {
  done = so_far.done ++ s ∷ [];
  splits = append_assoc so_far.done (s ∷ []) (suites_in rest)
      ∙ ap (λ more. so_far.done ++ more) (sym next) ∙ so_far.splits;
  are = rw (pushed, map-append (λ (s : List ℕ × Data). s.1) so_far.done (s ∷ []))
      (all_zipped_more IsSuiteOf (map (λ s. s.1) so_far.done) binaries s.1 b so_far.are is);
  met = rw (demands_more so_far.done s)
      (fault_behind (flat_map suite_demands so_far.done) (suite_demands s) None so_far.met met);
}

pub one_unmet : (all left rest : Entries) (binaries : List Listed) (s : List ℕ × Data) (f : Fault)
    → AreReadTo all left binaries → suites_in left ≡ s ∷ suites_in rest → first_fault (suite_demands s) ≡ Some f
    → first_fault (flat_map suite_demands (suites_in all)) ≡ Some f
one_unmet all left rest binaries s f so_far next is =
    ap (λ ss. first_fault (flat_map suite_demands ss))
    (sym (ap (λ more. so_far.done ++ more) (sym next) ∙ so_far.splits))
    ∙ ap first_fault (flat_map-append suite_demands so_far.done (s ∷ suites_in rest))
    ∙ fault_behind (flat_map suite_demands so_far.done) (suite_demands s ++ flat_map suite_demands (suites_in rest))
    (Some f) so_far.met (fault_before (suite_demands s) (flat_map suite_demands (suites_in rest)) f is)

all_done : (all left : Entries) (binaries : List Listed) (so_far : AreReadTo all left binaries) → left ≡ []
    → so_far.done ≡ suites_in all
all_done all left binaries so_far none =
    sym (append-nil so_far.done) ∙ ap (λ es. so_far.done ++ suites_in es) (sym none) ∙ so_far.splits

pub all_are : (all left : Entries) (binaries : List Listed) → AreReadTo all left binaries → left ≡ []
    → AllZip IsSuiteOf (map (λ s. s.1) (suites_in all)) binaries
all_are all left binaries so_far none =
    subst (λ ss. AllZip IsSuiteOf (map (λ s. s.1) ss) binaries) (all_done all left binaries so_far none) so_far.are

pub all_met : (all left : Entries) (binaries : List Listed) → AreReadTo all left binaries → left ≡ []
    → first_fault (flat_map suite_demands (suites_in all)) ≡ None
all_met all left binaries so_far none =
    ap (λ ss. first_fault (flat_map suite_demands ss)) (sym (all_done all left binaries so_far none)) ∙ so_far.met
