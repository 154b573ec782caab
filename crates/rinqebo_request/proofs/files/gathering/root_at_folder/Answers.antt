use Rattle.std.proofs.Common.{◌∙◌, subst, sym}
use Rattle.std.proofs.lemmas.Result.{IfErr-weaker}
use Rattle.rinqebo_request.specs.Files.Gathering.{IsNotFound}
use Rattle.rinqebo_request.proofs.files.gathering.root_at_folder.Goals as goal

pub returns-then-not-is_discovered : goal.returns-then-not-is_discovered
returns-then-not-is_discovered c =
    IfErr-weaker c.root_at.result _ _ (λ fault same. subst (IsNotFound c.args.config_file) (sym same) tt) c.root_at.ensures

pub returns : goal.returns
returns c = sym c.is_discovered.ensures ∙ c.if-not-is_discovered.false
