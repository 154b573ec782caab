use Rattle.std.proofs.Common.{◌∙◌, sym}
use Rattle.rinqebo_request.proofs.files.Reading.{own_read, own_unread}
use Rattle.rinqebo_request.proofs.files.gathering.shared_file.Goals as goal

pub returns-then-is_discovered : goal.returns-then-is_discovered
returns-then-is_discovered g c =
    own_read (g.R.FileReader.MayGive c.args.files.now) c.args.root.now c.as_str-own.result.now c.args.config_file
    c.read_at.result (sym c.is_discovered.ensures ∙ c.if-is_discovered.true)
    (c.as_str-own.ensures.value ∙ c.in_ok-path.ensures) c.read_at.ensures

pub returns : goal.returns
returns g c =
    own_unread (g.R.FileReader.MayGive c.args.files.now) c.args.root.now c.as_str-own.result.now c.args.config_file
    c.unread.result (sym c.is_discovered.ensures ∙ c.if-is_discovered.false)
    (c.as_str-own.ensures.value ∙ c.in_ok-path.ensures) c.unread.ensures
