use Rattle.span.proofs.Back.{reading_back}
use Rattle.span.proofs.laws.written_reads_back.Goals as goal

pub returns : goal.returns
returns c = reading_back
