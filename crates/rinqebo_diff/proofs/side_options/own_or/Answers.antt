use Rattle.std.proofs.Common.{◌≡◌, ◌∙◌, Bor, List, None, Option, Some, ap, option_map, refl, ℕ}
use Rattle.std.specs.Option.{option_or}
use Rattle.rinqebo_diff.proofs.side_options.own_or.Goals as goal

-- the text of the first of two that there is
either : (own left : Option (Bor (List ℕ)))
    → option_map (λ text. text.now) (option_or own left) ≡ option_or (option_map (λ text. text.now) own) (option_map (λ text. text.now) left)
either None left = refl
either (Some text) left = refl

pub returns : goal.returns
returns c =
    ap (option_map (λ text. text.now)) c.or.ensures ∙ either c.value.result c.args.left
    ∙ ap (λ own. option_or own (option_map (λ text. text.now) c.args.left)) c.value.ensures
