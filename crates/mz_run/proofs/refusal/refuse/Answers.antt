use Rattle.mz_run.proofs.EndingLemmas.{refuses_words, refuses_input, refuses_fault, refuses_absent}
use Rattle.mz_run.proofs.refusal.refuse.Goals as goal

pub returns-in-Words : goal.returns-in-Words
returns-in-Words g c = refuses_words _ c.in-Words.is c.say_refusal.ensures

pub returns-in-Input : goal.returns-in-Input
returns-in-Input g c = refuses_input _ _ c.in-Input.is c.say_refusal-in-Input.ensures

pub returns-in-ShelfFault : goal.returns-in-ShelfFault
returns-in-ShelfFault g c = refuses_fault _ _ c.in-ShelfFault.is c.say_refusal-in-ShelfFault.ensures

pub returns-in-Absent : goal.returns-in-Absent
returns-in-Absent g c = refuses_absent _ _ c.in-Absent.is c.say_refusal-in-Absent.ensures
