-- Which names a source may define.
use Rattle.std.proofs.Common.{◌≡◌, ◌↔◌, IsTrue, refl, ap}
use Rattle.std.proofs.lemmas.Slice.Eq.{bytes_eq-Decides}
use Rattle.nextest_elements.specs.Owner.{Owner, nobody, the_organisation, a_tool, is_same_owner, owner_of_name}
use Rattle.nextest_sources.specs.Sources.{SourceKind, owner_of_source}
use Rattle.nextest_tables.specs.Written.{Name}
use Rattle.nextest_rules.specs.Definitions.{MayDefine, may_define}

-- owners are the same where the test says so
same_owner : (a b : Owner) → IsTrue (is_same_owner a b) ↔ (a ≡ b)
same_owner nobody nobody = (λ h. refl, λ h. refl)
same_owner nobody the_organisation = (λ h. cc, λ h. cc)
same_owner nobody (a_tool t) = (λ h. cc, λ h. cc)
same_owner the_organisation nobody = (λ h. cc, λ h. cc)
same_owner the_organisation the_organisation = (λ h. refl, λ h. refl)
same_owner the_organisation (a_tool t) = (λ h. cc, λ h. cc)
same_owner (a_tool s) nobody = (λ h. cc, λ h. cc)
same_owner (a_tool s) the_organisation = (λ h. cc, λ h. cc)
same_owner (a_tool s) (a_tool t) = (
  λ h. ap a_tool ((bytes_eq-Decides s t).0 h),
  λ h. let same : s ≡ t = cc in (bytes_eq-Decides s t).1 same,
)

-- a source may define a name where the test says so
pub may_define_law : (kind : SourceKind) (name : Name) → IsTrue (may_define kind name) ↔ MayDefine kind name
may_define_law kind name = same_owner (owner_of_name name) (owner_of_source kind)
