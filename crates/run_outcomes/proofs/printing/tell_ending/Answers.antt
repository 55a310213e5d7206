use Rattle.run_outcomes.specs.Lines.{line_of_ending}
use Rattle.run_outcomes.proofs.printing.tell_ending.Goals as goal

pub returns-in-Done : goal.returns-in-Done
unfolding line_of_ending
returns-in-Done g c = rw c.in-Done.is c.print_line.ensures

pub returns-in-Left : goal.returns-in-Left
unfolding line_of_ending
returns-in-Left g c = rw c.in-Left.is c.print_line-in-Left.ensures

pub returns-in-BadClient : goal.returns-in-BadClient
unfolding line_of_ending
returns-in-BadClient g c = rw c.in-BadClient.is (c.print_made.ensures _ c.client_fault_line.ensures)

pub returns-in-BadTarget : goal.returns-in-BadTarget
unfolding line_of_ending
returns-in-BadTarget g c = rw c.in-BadTarget.is (c.print_made-in-BadTarget.ensures _ c.target_fault_line.ensures)

pub returns-in-ClientLink : goal.returns-in-ClientLink
unfolding line_of_ending
returns-in-ClientLink g c = rw c.in-ClientLink.is c.print_line-in-ClientLink.ensures

pub returns-in-TargetLink : goal.returns-in-TargetLink
unfolding line_of_ending
returns-in-TargetLink g c = rw c.in-TargetLink.is c.print_line-in-TargetLink.ensures

pub returns-in-TargetRefused : goal.returns-in-TargetRefused
unfolding line_of_ending
returns-in-TargetRefused g c = rw c.in-TargetRefused.is (c.print_made-in-TargetRefused.ensures _ c.refused_line.ensures)

pub returns-in-Idle : goal.returns-in-Idle
unfolding line_of_ending
returns-in-Idle g c = rw c.in-Idle.is c.print_line-in-Idle.ensures

pub returns-in-Spent : goal.returns-in-Spent
unfolding line_of_ending
returns-in-Spent g c = rw c.in-Spent.is c.print_line-in-Spent.ensures

pub returns-in-Flood : goal.returns-in-Flood
unfolding line_of_ending
returns-in-Flood g c = rw c.in-Flood.is c.print_line-in-Flood.ensures

pub returns-in-NoMemory : goal.returns-in-NoMemory
unfolding line_of_ending
returns-in-NoMemory g c = rw c.in-NoMemory.is c.print_line-in-NoMemory.ensures
