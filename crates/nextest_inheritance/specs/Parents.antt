-- Which profile inherits from which, and the chain of a profile.
use Rattle.std.specs.Prelude.{◌≡◌, ◌≢◌, ◌++◌, List, [], ◌∷◌, Option, None, unwrap_or}
use Rattle.std.specs.BTreeMap.{is_at}
use Rattle.std.specs.Cmp.Lexicographic.{slice_cmp}
use Rattle.std.specs.List.{AllByRecursion, IsDistinct}
use Rattle.std.specs.Map.{lookup}
use Rattle.std.specs.Ordering.{nat_cmp}
use Rattle.std.specs.Str.{bytes_eq}
use Rattle.nextest_inheritance.specs.Names.{Name, default_name, IsIn}

-- profiles by name, each with the parent that it writes, if it writes one
abbrev pub WrittenParents : Type 0
WrittenParents = List (Name × Option Name)

-- the parent of each name, if it has one
abbrev pub Parents : Type 0
Parents = Name → Option Name

-- the parents that profiles write
abbrev pub parents_in : WrittenParents → Parents
parents_in written name = unwrap_or (lookup (is_at (slice_cmp nat_cmp name)) written) None

-- the parent of a profile, which is `default` where it writes none
abbrev pub parent_or_default : Parents → Name → Name
parent_or_default parents name = unwrap_or (parents name) default_name

-- Names lead from one to `default`: the first is that one, and each next is the parent of the one
-- before.
abbrev pub LeadToDefault : Parents → Name → List Name → Type 0
LeadToDefault parents name [] = name ≡ default_name
LeadToDefault parents name (first ∷ others) =
    (first ≡ name) × (name ≢ default_name)
    × LeadToDefault parents (parent_or_default parents name) others

-- A chain of a name: names that lead from it to `default`, none of them twice.
pub record IsChain (parents : Parents) (name : Name) (chain : List Name) : Type 0 where
  pub leads : LeadToDefault parents name chain
  pub distinct : IsDistinct bytes_eq chain

-- the profiles of a chain, and then `default`
abbrev pub with_default : List Name → List Name
with_default chain = chain ++ default_name ∷ []

-- exactly one has a fact
pub record ExactlyOne {X : Type 0} (P : X → Type 0) : Type 0 where
  pub one : X
  pub fact : P one
  pub only : (other : X) → P other → other ≡ one

-- A profile has one chain, and each name in it is a profile.
pub record HasOneChain (parents : Parents) (profiles : List Name) (name : Name) : Type 0 where
  pub chain : ExactlyOne (IsChain parents name)
  pub members : AllByRecursion (IsIn profiles) chain.one
