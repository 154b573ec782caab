use Rattle.std.proofs.Common.{map, take, string_bytes}
use Rattle.rinqebo_report.specs.declared.codes.code.Code.TheVariants.{ReservedProfile}
use Rattle.rinqebo_findings.specs.Each.{AreOfEach}
use Rattle.rinqebo_findings.specs.Warnings.{profile_steps, WarnsOf}
use Rattle.rinqebo_findings.proofs.load_warnings.reserved_profiles.Given as goal

-- the findings of the names so far
abbrev pub invariant-loop-name : goal.invariant-loop-name
invariant-loop-name l =
    AreOfEach (λ name. WarnsOf l.source.layers.now l.source.position ReservedProfile (profile_steps name))
    (map string_bytes (take l.name-index l.names)) l.findings.items
