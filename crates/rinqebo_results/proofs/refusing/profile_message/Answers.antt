use Rattle.rinqebo_results.proofs.refusing.profile_message.Goals as goal

pub returns : goal.returns
returns c = cc (c.in_ok-message.ensures, c.variable.ensures, c.in_ok-push_profile_note.ensures)
