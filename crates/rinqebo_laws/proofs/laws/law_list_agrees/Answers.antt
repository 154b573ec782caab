use Rattle.rinqebo_laws.proofs.Agreement.{found_in_list, found_twice, list_agrees, list_same}
use Rattle.rinqebo_laws.proofs.laws.law_list_agrees.Goals as goal

pub returns : goal.returns
returns c = record { agrees = list_agrees; same = list_same; found = found_in_list; one = found_twice }
