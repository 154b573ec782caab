use Rattle.std.proofs.Common.{sym}
use Rattle.nextest_elements.proofs.Owners.{owner_of_parts, owned_by_organisation, owned_by_nobody}
use Rattle.nextest_elements.proofs.identifier.ConfigIdentifier.owner.Goals as goal

pub returns-then-is_organisation_identifier : goal.returns-then-is_organisation_identifier
returns-then-is_organisation_identifier c =
    sym ((owned_by_organisation c.args.self.now).1
    (c.is_organisation_identifier.ensures.verdict.0 c.if-is_organisation_identifier.true))

pub returns-in-Some : goal.returns-in-Some
returns-in-Some c = sym (owner_of_parts c.args.self.now c.in-Some.tool.now c.in-Some.field-0-1.now
    c.in-Some.ensures.parts)

pub returns-in-None : goal.returns-in-None
returns-in-None c =
    sym ((owned_by_nobody c.args.self.now).1 (
      c.in-None.ensures.none,
      λ found. let is = c.is_organisation_identifier.ensures.verdict.1 found in let no =
          c.if-is_organisation_identifier.false in cc,
    ))
