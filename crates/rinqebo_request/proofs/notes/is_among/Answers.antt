use Rattle.std.proofs.Common.{Bor, List, rules, tests, ℕ}
use Rattle.std.proofs.lemmas.Iterator.{YieldsList-from_slice}
use Rattle.std.proofs.lemmas.Iterator.Search.{any_from_yields_List}
use Rattle.std.specs.Str.{bytes_eq}
use Rattle.nextest_elements.specs.Settings.{setting_name}
use Rattle.rinqebo_request.proofs.notes.is_among.Goals as goal

pub returns : goal.returns
returns c =
    any_from_yields_List (λ (key : Bor (List ℕ)). bytes_eq key.now (setting_name c.args.setting)) _ _ _ c.any.ensures.ran
    (YieldsList-from_slice c.args.keys.now cc) (λ x b q k. search (rules, tests))
