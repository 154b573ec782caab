use Rattle.rinqebo_request.proofs.check_words.file_unnamed.Goals as goal

pub returns-in-None : goal.returns-in-None
returns-in-None c = rw c.in-None.is c.named_file.ensures
