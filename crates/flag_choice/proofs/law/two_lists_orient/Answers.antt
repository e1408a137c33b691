use Rattle.flag_choice.proofs.Two.{suit_orients, two_lists, own_chosen}
use Rattle.flag_choice.proofs.law.two_lists_orient.Goals as goal

pub returns-clause-orient : goal.returns-clause-orient
returns-clause-orient c = suit_orients

pub returns-clause-two : goal.returns-clause-two
returns-clause-two c = two_lists

pub returns-clause-own : goal.returns-clause-own
returns-clause-own c = own_chosen
