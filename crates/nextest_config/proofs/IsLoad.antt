-- A load that ends because memory ran out before it begins.
use Rattle.std.proofs.Common.{◌≡◌, List, [], Err, refl, sym, subst, append-nil, inl, ◌∙◌}
use Rattle.nextest_engines.specs.Readings.{Readings}
use Rattle.nextest_load.specs.Load.{Loaded, IsLoad}
use Rattle.nextest_load.specs.Steps.{load_steps}
use Rattle.nextest_rules.specs.Definitions.{Features}
use Rattle.nextest_sources.specs.Endings.{no_memory, refused, error_view, WentThrough}
use Rattle.nextest_sources.specs.Inputs.{LoadInputs}
use Rattle.nextest_sources.specs.Steps.{warnings_before}
use Rattle.nextest_sources.specs.Warnings.{Warning}
use Rattle.nextest_sources.specs.declared.error.ConfigParseError.{ConfigParseError}

pub memory_load : {T M K P : Type 0} (loaded : T → Loaded M K) (engines : Readings M K P)
    (features : Features) (files : LoadInputs) (old : List Warning) (e : ConfigParseError)
    → error_view e ≡ no_memory → IsLoad loaded engines features files old old (Err e)
memory_load loaded engines features files old e is =
    record {
      verdict = inl is;
      ran = record {
        is = subst (WentThrough (load_steps engines features files) old old) (sym is)
            ([], (warnings_before (load_steps engines features files), refl), sym (append-nil old));
      };
      exact = λ fault told. let other : no_memory ≡ refused fault = sym is ∙ told in cc;
      means = tt;
      scripts = tt;
      closed = tt;
    }
