-- What contracts see of the owner of a name.
use Rattle.nextest_elements.specs.Owner.{Owner, nobody, the_organisation, a_tool}
use Rattle.nextest_elements.specs.declared.identifier.owner.IdentifierOwner.{IdentifierOwner}
use Rattle.nextest_elements.specs.declared.identifier.owner.IdentifierOwner.TheVariants as owners

-- The owner of a name.
abbrev pub owner_view : IdentifierOwner → Owner
owner_view owners.Nobody = nobody
owner_view owners.Organisation = the_organisation
owner_view (owners.Tool tool) = a_tool tool.now
