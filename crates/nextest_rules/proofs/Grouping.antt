-- Groups that rules write, and those that are known.
use Rattle.std.proofs.Common.{◌≡◌, Bool, true, false, Option, Some, None, refl}
use Rattle.nextest_elements.specs.TestGroup.{custom_group_text}
use Rattle.nextest_elements.specs.declared.test_group.CustomTestGroup.{CustomTestGroup}
use Rattle.nextest_elements.specs.declared.test_group.TestGroup.{TestGroup}
use Rattle.nextest_elements.specs.declared.test_group.TestGroup.TheVariants as groups
use Rattle.nextest_tables.specs.Written.{Name}
use Rattle.nextest_rules.specs.RuleFaults.{group_fault}

-- a group that is known is not a fault, and any other custom one is
pub group_known : (is_known : Name → Bool) (profile : Name) (o : Option TestGroup) (g : CustomTestGroup)
    → o ≡ Some (groups.Custom g)
    → is_known (custom_group_text g) ≡ true → group_fault is_known profile o ≡ None
group_known is_known profile o g is known = rw (is, known) refl

pub group_unknown : (is_known : Name → Bool) (profile : Name) (o : Option TestGroup) (g : CustomTestGroup)
    → o ≡ Some (groups.Custom g)
    → is_known (custom_group_text g) ≡ false
    → group_fault is_known profile o ≡ Some (record { profile = profile; group = custom_group_text g })
group_unknown is_known profile o g is unknown = rw (is, unknown) refl
