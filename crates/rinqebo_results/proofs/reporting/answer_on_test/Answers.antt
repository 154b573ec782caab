use Rattle.rinqebo_results.proofs.reporting.answer_on_test.Goals as goal

pub id_note-requires : goal.id_note-requires
id_note-requires c = c.requires
