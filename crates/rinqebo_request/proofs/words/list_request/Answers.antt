use Rattle.std.proofs.Common.{rules}
use Rattle.rinqebo_request.proofs.NamedTools.{with_config}
use Rattle.rinqebo_request.proofs.words.list_request.Goals as goal

pub returns : goal.returns
returns c =
    record {
      question = c.in_ok-list_question.ensures;
      words = c.in_ok-command_words.ensures;
      source = c.profile_source.ensures;
      line_is = record {
        files = with_config _ _ _ _ c.named_file.ensures c.in_ok-files.ensures;
        features = c.in_ok-features.ensures.ok;
        paper = c.paper.ensures;
      };
      engines = c.engines.ensures;
      format = c.list_format.ensures;
      progress = search rules;
    }
