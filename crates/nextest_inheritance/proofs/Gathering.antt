-- The faults of profiles, gathered one by one.
use Rattle.std.proofs.Common.{◌≡◌, List, [], ◌∷◌, ◌++◌, map, filter, not, Bool, true, false, Option, None, option_map, Less, String, Global, string_bytes, nat_cmp, refl, sym, ap, ◌∙◌, append-nil}
use Rattle.std.specs.Cmp.Lexicographic.{slice_cmp}
use Rattle.std.specs.List.{AllByRecursion, filter_map}
use Rattle.std.specs.List.Sorted.{IsStrictlySortedBy}
use Rattle.std.specs.Map.{keys_of}
use Rattle.std.specs.Option.{option_and_then}
use Rattle.std.specs.String.{string_cmp}
use Rattle.std.proofs.lemmas.List.{map-append}
use Rattle.std.proofs.lemmas.List.Elements.{filter_map-append}
use Rattle.nextest_inheritance.specs.Names.{Name, is_default}
use Rattle.nextest_inheritance.specs.Parents.{WrittenParents}
use Rattle.nextest_inheritance.specs.Faults.{ParentFault, parent_fault, parent_faults}
use Rattle.nextest_inheritance.specs.View.{parents_view, inherits_error_view}
use Rattle.nextest_inheritance.specs.declared.error.InheritsError.{InheritsError}

-- what is wrong with the parents of `default`, and of all others
abbrev pub of_default : (known : Name → Bool) → WrittenParents → List ParentFault
of_default known es = filter_map (λ p. option_and_then (parent_fault known p.0) p.1) (filter (λ p. is_default p.0) es)

abbrev pub of_others : (known : Name → Bool) → WrittenParents → List ParentFault
of_others known es = filter_map (λ p. option_and_then (parent_fault known p.0) p.1)
    (filter (λ p. not (is_default p.0)) es)

all_gathered : (known : Name → Bool) (es : WrittenParents)
    → parent_faults known es ≡ of_default known es ++ of_others known es
all_gathered known es = filter_map-append (λ p. option_and_then (parent_fault known p.0) p.1)
    (filter (λ p. is_default p.0) es) (filter (λ p. not (is_default p.0)) es)

above : {P : Type 0} (parent : P → Option Name) (key : String Global) (es : List (String Global × P))
    → AllByRecursion (λ other. string_cmp key other ≡ Less) (keys_of es)
    → AllByRecursion (λ other. slice_cmp nat_cmp (string_bytes key) other ≡ Less) (keys_of (parents_view parent es))
above parent key [] all = tt
above parent key (e ∷ es) all = (all.0, above parent key es all.1)

-- the names of profiles ascend
pub names_ascend : {P : Type 0} (parent : P → Option Name) (es : List (String Global × P))
    → IsStrictlySortedBy string_cmp (keys_of es)
    → IsStrictlySortedBy (slice_cmp nat_cmp) (keys_of (parents_view parent es))
unfolding IsStrictlySortedBy
names_ascend parent [] sorted = tt
names_ascend parent (e ∷ es) sorted = (above parent e.0 es sorted.0, names_ascend parent es sorted.1)

-- The faults of the profiles so far, those of `default` and all others.
pub record IsGathered (known : Name → Bool) (es rest : WrittenParents) (first others : List ParentFault) : Type 0 where
  pub is_first : first ++ of_default known rest ≡ of_default known es
  pub is_others : others ++ of_others known rest ≡ of_others known es

abbrev fault_of : (known : Name → Bool) → Name × Option Name → Option ParentFault
fault_of known e = option_and_then (parent_fault known e.0) e.1

past_nothing : (known : Name → Bool) (es rest : WrittenParents) (e : Name × Option Name)
    (first others : List ParentFault)
    → fault_of known e ≡ None → IsGathered known es (e ∷ rest) first others → IsGathered known es rest first others
past_nothing known es rest e first others none g = at (is_default e.0) refl
  where
    at : (b : Bool) → is_default e.0 ≡ b → IsGathered known es rest first others
    at true is = record { is_first = rw (is, none) at g.is_first; is_others = rw is at g.is_others }
    at false is = record { is_first = rw is at g.is_first; is_others = rw (is, none) at g.is_others }

-- a profile with which nothing is wrong
pub gather_nothing : (known : Name → Bool) (es rest : WrittenParents) (name text : Name)
    (parent : Option Name) (error : Option InheritsError) (first others : List ParentFault)
    → text ≡ name → option_map inherits_error_view error ≡ option_and_then (parent_fault known text) parent
    → error ≡ None
    → IsGathered known es ((name, parent) ∷ rest) first others → IsGathered known es rest first others
gather_nothing known es rest name text parent error first others same is none g =
    let fault : option_and_then (parent_fault known name) parent ≡ None =
    ap (λ n. option_and_then (parent_fault known n) parent) (sym same) ∙ sym is
    ∙ ap (option_map inherits_error_view) none in
    past_nothing known es rest (name, parent) first others fault g

gathered_all : (known : Name → Bool) (es : WrittenParents) (first others : List ParentFault)
    → IsGathered known es [] first others → first ++ others ≡ parent_faults known es
gathered_all known es first others g =
    let one : first ≡ of_default known es = sym (append-nil first) ∙ g.is_first in
    let other : others ≡ of_others known es = sym (append-nil others) ∙ g.is_others in
    ap (λ l. l ++ others) one ∙ ap (λ l. of_default known es ++ l) other ∙ sym (all_gathered known es)

-- all of them
pub errors_gathered : (known : Name → Bool) (es : WrittenParents) (errors first others : List InheritsError)
    → errors ≡ first ++ others
    → IsGathered known es [] (map inherits_error_view first) (map inherits_error_view others)
    → map inherits_error_view errors ≡ parent_faults known es
errors_gathered known es errors first others is g =
    ap (map inherits_error_view) is ∙ map-append inherits_error_view first others
    ∙ gathered_all known es (map inherits_error_view first) (map inherits_error_view others) g
