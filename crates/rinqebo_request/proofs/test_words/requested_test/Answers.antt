use Rattle.rinqebo_request.proofs.NamedTests.{found_in, not_for_host}
use Rattle.rinqebo_request.proofs.test_words.requested_test.Goals as goal

pub returns : goal.returns
returns c =
    let list = c.named_list-list.result in
    record {
      named = c.in_ok-words.ensures;
      list = c.named_list-list.ensures;
      found = found_in _ list c.in_ok-words.words.binary c.lacks_binary.result c.named_list-list.ensures c.lacks_binary.ensures
          c.if-lacks_binary.false;
      platform = (
        c.is_on-is_host.result,
        c.is_on-is_host.ensures,
        c.platform.ensures,
        not_for_host _ list c.is_listed_for_host.result c.is_on-is_host.result c.named_list-list.ensures c.is_listed_for_host.ensures
            c.if-is_listed_for_host.false,
      );
      mode = c.mode.ensures;
    }
