use Rattle.rinqebo_laws.proofs.schema.law_loaded_file_is_valid.Goals as goal

pub returns : goal.returns
returns c =
    λ matches matched file readable known.
    c.law_schema_validates.ensures.accepted matches matched file (c.law_schema.ensures file readable known)
