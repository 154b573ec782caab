use Rattle.rinqebo_laws.proofs.GithubLines.{github_feeds, github_is_one_line, properties_no_colon, value_parts}
use Rattle.rinqebo_laws.proofs.whole_lines.law_github_lines.Goals as goal

pub returns : goal.returns
returns c = record {
  one = github_is_one_line;
  all = github_feeds;
  properties = properties_no_colon;
  values = value_parts;
}
