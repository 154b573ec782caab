-- What contracts see of the refusals of a rule's texts.
use Rattle.std.specs.Prelude.{option_map}
use Rattle.nextest_engines.specs.Engines.{refusal_view}
use Rattle.nextest_rules.specs.CompileFaults.{TextRefusals}
use Rattle.nextest_rules.specs.declared.compile.texts.Refusals.{Refusals}

-- refusals
abbrev pub refusals_view : Refusals → TextRefusals
refusals_view r = record {
  host = option_map refusal_view r.host;
  target = option_map refusal_view r.target;
  filter = option_map refusal_view r.filter;
  default_filter = option_map refusal_view r.default_filter;
}
