use Rattle.run_outcomes.specs.Lines.{text_of}
use Rattle.run_outcomes.proofs.printing.tell.Goals as goal

pub returns-in-Misused : goal.returns-in-Misused
unfolding text_of
returns-in-Misused g c = rw c.in-Misused.is (rw c.usage.ensures at c.print_line.ensures)

pub returns-in-NotOpened : goal.returns-in-NotOpened
unfolding text_of
returns-in-NotOpened g c = rw c.in-NotOpened.is c.print_line-in-NotOpened.ensures

pub returns-in-NotUsed : goal.returns-in-NotUsed
unfolding text_of
returns-in-NotUsed g c = rw c.in-NotUsed.is c.print_line-in-NotUsed.ensures

pub returns-in-TooLong : goal.returns-in-TooLong
unfolding text_of
returns-in-TooLong g c = rw c.in-TooLong.is c.print_line-in-TooLong.ensures

pub returns-in-BadLine : goal.returns-in-BadLine
unfolding text_of
returns-in-BadLine g c = rw c.in-BadLine.is (c.print_made.ensures _ c.faulty_line.ensures)

pub returns-in-Logged : goal.returns-in-Logged
unfolding text_of
returns-in-Logged g c = rw c.in-Logged.is (rw c.as_slice.ensures at c.print.ensures)

pub returns-in-Summed : goal.returns-in-Summed
unfolding text_of
returns-in-Summed g c = rw c.in-Summed.is (rw c.as_str.ensures at c.print_line-in-Summed.ensures)

pub returns-in-Dumped : goal.returns-in-Dumped
unfolding text_of
returns-in-Dumped g c = rw c.in-Dumped.is (rw c.as_slice-in-Dumped.ensures at c.print-in-Dumped.ensures)

pub returns-in-TargetGone : goal.returns-in-TargetGone
unfolding text_of
returns-in-TargetGone g c = rw c.in-TargetGone.is c.print_line-in-TargetGone.ensures

pub returns-in-Ended : goal.returns-in-Ended
unfolding text_of
returns-in-Ended g c = rw c.in-Ended.is c.tell_ending.ensures
