use Rattle.std.proofs.Common.{string_bytes}
use Rattle.rinqebo_run.proofs.CheckNotes.{no_files}
use Rattle.rinqebo_run.proofs.read_files.add_read_files.Goals as goal

pub returns-then-notes_files : goal.returns-then-notes_files
returns-then-notes_files c = rw (c.notes_files.ensures c.if-notes_files.true) c.add_files.ensures

pub returns : goal.returns
returns c = no_files c.args.request.now.format (string_bytes c.args.notes.now)
