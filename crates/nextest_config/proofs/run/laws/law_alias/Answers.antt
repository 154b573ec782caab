use Rattle.nextest_config.proofs.Aliasing.{alias_chain, alias_gives, fields_more}
use Rattle.nextest_config.proofs.run.laws.law_alias.Goals as goal

pub returns : goal.returns
returns g c = λ engines platforms a name parent chain only has is. (
  alias_chain engines platforms a name parent chain only has is,
  alias_gives engines platforms a name
      parent chain only has is,
  fields_more engines platforms a name parent chain only has is,
)
