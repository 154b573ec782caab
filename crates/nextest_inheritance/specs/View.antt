-- What contracts see of profiles, names and refusals.
use Rattle.std.specs.Prelude.{List, map, Bool, Option, String, string_bytes, Vec}
use Rattle.std.specs.BTreeSet.{BTreeSet, contains_by}
use Rattle.std.specs.Cmp.Lexicographic.{slice_cmp}
use Rattle.std.specs.Ordering.{nat_cmp}
use Rattle.std.specs.declared.alloc.Global.{Global}
use denote.Ref.{Bor}
use Rattle.nextest_inheritance.specs.Names.{Name}
use Rattle.nextest_inheritance.specs.Parents.{WrittenParents}
use Rattle.nextest_inheritance.specs.Faults.{ParentFault, base_with_parent, own_parent, unknown_parent, cyclic}
use Rattle.nextest_inheritance.specs.declared.error.InheritsError.{InheritsError}
use Rattle.nextest_inheritance.specs.declared.error.InheritsError.TheVariants.{DefaultProfileInheritance, SelfReferentialInheritance, UnknownInheritance, InheritanceCycle}

-- the profiles of a map, each with the parent that it writes
abbrev pub parents_view : {P : Type 0} → (P → Option Name) → List (String Global × P)
    → WrittenParents
parents_view parent es = map (λ e. (string_bytes e.0, parent e.1)) es

-- names that are owned
abbrev pub names_view : Vec (String Global) Global → List Name
names_view names = map string_bytes names.items

-- names that are borrowed
abbrev pub borrowed_view : List (Bor Name) → List Name
borrowed_view names = map (λ name. name.now) names

-- whether a set of borrowed names has one
abbrev pub has_name : BTreeSet (Bor Name) → Name → Bool
has_name names name = contains_by (λ key. slice_cmp nat_cmp name key.now) names

-- what a refusal says
abbrev pub inherits_error_view : InheritsError → ParentFault
inherits_error_view (DefaultProfileInheritance profile) = base_with_parent (string_bytes profile)
inherits_error_view (SelfReferentialInheritance profile) = own_parent (string_bytes profile)
inherits_error_view (UnknownInheritance profile parent) =
    unknown_parent (string_bytes profile) (string_bytes parent)
inherits_error_view (InheritanceCycle cycles) = cyclic (map names_view cycles.items)
