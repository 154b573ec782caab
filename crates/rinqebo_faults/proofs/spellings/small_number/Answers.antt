use Rattle.rinqebo_faults.proofs.Numbers.{number_is, number_there, small}
use Rattle.rinqebo_faults.specs.Words.{is_number}
use Rattle.std.proofs.Common.{◌≡◌, arith}
use Rattle.std.specs.Str.Parse.{digits_value}
use Rattle.rinqebo_faults.proofs.spellings.small_number.Goals as goal

pub returns-in-Ok-clause-number : goal.returns-in-Ok-clause-number
unfolding is_number
returns-in-Ok-clause-number c test short =
    number_is c.args.digits.now c.in-Ok.number test short c.in-Ok.ensures.value.0

pub returns-in-Ok-clause-small : goal.returns-in-Ok-clause-small
unfolding is_number
returns-in-Ok-clause-small c test short =
    let is : c.in-Ok.number ≡ digits_value 10 c.args.digits.now =
    number_is c.args.digits.now c.in-Ok.number test short c.in-Ok.ensures.value.0 in
    let low = small c.args.digits.now test short in
    omega (arith, is, low)

pub returns-in-Err-clause-number : goal.returns-in-Err-clause-number
unfolding is_number
returns-in-Err-clause-number c test short =
    absurd (number_there c.args.digits.now test short c.in-Err.ensures.value.0)

pub returns-in-Err-clause-small : goal.returns-in-Err-clause-small
returns-in-Err-clause-small c test short = omega arith
