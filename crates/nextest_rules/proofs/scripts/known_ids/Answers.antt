use Rattle.std.proofs.Common.{◌||◌, ap, ◌∙◌}
use Rattle.std.specs.BTreeSet.{contains_text}
use Rattle.nextest_rules.proofs.Naming.{is_text_of}
use Rattle.nextest_rules.proofs.scripts.known_ids.Goals as goal

pub returns : goal.returns
returns c q =
    let known = c.args.known.now in
    c.in_ok-copy_names-2.ensures q
    ∙ ap (λ b. b || contains_text known.wrapper_scripts q)
    (c.in_ok-copy_names.ensures q
    ∙ ap (λ keys. is_text_of keys q || contains_text known.setup_scripts q) c.new-ids.ensures.empty)
