use Rattle.ask_texts.proofs.AgainLaws.{text_again}
use Rattle.ask_texts.proofs.laws.asks_are_read_as_they_are_printed.Goals as goal

pub returns : goal.returns
returns c = text_again
