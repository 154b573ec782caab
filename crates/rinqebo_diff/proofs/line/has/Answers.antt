use Rattle.std.proofs.Common.{◌≡◌, ◌∙◌, None, Option, Some, ap, is_some, option_map, refl}
use Rattle.clap.specs.Matches.{found_of, matched_of, raw_values}
use Rattle.clap.proofs.WalkLemmas.{raw_values-rows}
use Rattle.rinqebo_diff.proofs.line.has.Goals as goal

kept : {A B : Type 0} (f : A → B) (o : Option A) → is_some o ≡ is_some (option_map f o)
kept f None = refl
kept f (Some x) = refl

pub returns : goal.returns
returns c =
    let found = found_of c.args.matches.now in
    c.contains_id.ensures ∙ kept raw_values (matched_of found c.args.id.now)
    ∙ ap is_some (raw_values-rows found c.args.id.now)
