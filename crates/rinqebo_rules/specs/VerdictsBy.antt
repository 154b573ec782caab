-- Verdicts by what is known of rules.
use Rattle.std.specs.Prelude.{List, [], ◌∷◌, Bool, true, false, ◌&&◌, ◌||◌}
use Rattle.rinqebo_rules.specs.declared.verdict.RuleFacts.{RuleFacts}
use Rattle.rinqebo_rules.specs.declared.verdict.RuleVerdict.{RuleVerdict}
use Rattle.rinqebo_rules.specs.declared.verdict.RuleVerdict.TheVariants.{PlatformNo, FilterNo, SetsNothing, DecidedBefore, Decides}

-- The verdict on a rule, by whether its platforms hold, it holds, it writes the setting, and one
-- before it decides: the first of these that is against it.
abbrev pub verdict_by : Bool → Bool → Bool → Bool → RuleVerdict
verdict_by false holds writes is_decided = PlatformNo
verdict_by true false writes is_decided = FilterNo
verdict_by true true false is_decided = SetsNothing
verdict_by true true true true = DecidedBefore
verdict_by true true true false = Decides

-- a rule holds and writes the setting
abbrev pub decides_by : RuleFacts → Bool
decides_by facts = facts.holds && facts.writes

-- the verdicts on rules, where one before them decides or none
abbrev pub verdicts_by : Bool → List RuleFacts → List RuleVerdict
verdicts_by is_decided [] = []
verdicts_by is_decided (facts ∷ rest) =
    verdict_by facts.is_on facts.holds facts.writes is_decided
    ∷ verdicts_by (is_decided || decides_by facts) rest
