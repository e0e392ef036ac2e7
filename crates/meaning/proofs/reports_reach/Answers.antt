use Rattle.meaning.proofs.Reports.{reports_reach}
use Rattle.meaning.proofs.reports_reach.Goals as goal

pub returns : goal.returns
returns c = reports_reach
