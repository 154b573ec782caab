use Rattle.rinqebo_rules.proofs.lister.Lister.rows_of.Goals as goal

pub returns-clause-told : goal.returns-clause-told
returns-clause-told g c = c.rows_by.ensures.told c.settings_with_source_for-settings.ensures.settings
