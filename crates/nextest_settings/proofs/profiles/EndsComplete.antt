-- The last profile that counts is `default`, which writes every field.
use Rattle.std.proofs.Common.{List, [], ◌∷◌, Option, None, Some, option_map}
use Rattle.std.specs.List.{cons_option}
use Rattle.nextest_inheritance.specs.Parents.{with_default}
use Rattle.nextest_load.specs.Closed.{HasDefaults}
use Rattle.nextest_load.specs.Config.{MergedProfile}
use Rattle.nextest_rules.specs.Rules.{at_name}
use Rattle.nextest_settings.specs.Chains.{fields_of}
use Rattle.nextest_settings.specs.ChainValues.{EndsComplete}
use Rattle.nextest_tables.specs.Written.{Name, WrittenFields}
use Rattle.nextest_settings.specs.Profiles.Profiles.{EndInDefault}

-- one more in front
complete_front : (f : Option WrittenFields) (fs : List WrittenFields) → EndsComplete fs
    → EndsComplete (cons_option f fs)
complete_front None fs ends = ends
complete_front (Some f) [] ends = absurd ends
complete_front (Some f) (g ∷ fs) ends = ends

-- what profiles write that end in `default`
default_last : (profiles : List (Name × MergedProfile)) → HasDefaults profiles → (front : List Name)
    → EndsComplete (fields_of profiles (with_default front))
default_last profiles has [] = rw has.there has.complete
default_last profiles has (name ∷ front) =
    complete_front (option_map (λ p. p.fields) (at_name name profiles))
    (fields_of profiles (with_default front)) (default_last profiles has front)

pub ends_complete : (profiles : List (Name × MergedProfile)) → HasDefaults profiles → (names : List Name)
    → EndInDefault names → EndsComplete (fields_of profiles names)
ends_complete profiles has names ends = rw ends.1 (default_last profiles has ends.0)
