use Rattle.rinqebo_session.proofs.named.missing_profile.Goals as goal

pub returns : goal.returns
returns c = record {
  same = c.in_ok-from_str.ensures.ok;
  absent = c.requires;
  all = c.in_ok-profile_names.ensures.all;
  ascending = c.in_ok-profile_names.ensures.ascending;
}
