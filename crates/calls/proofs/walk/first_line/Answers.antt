-- A line ends at byte 10 or with the input.
use Rattle.std.proofs.Common.{refl}
use Rattle.calls.proofs.LinesOf.{first_cut}
use Rattle.calls.proofs.walk.first_line.Goals as goal

pub returns-clause-value : goal.returns-clause-value
returns-clause-value c = first_cut c.args.bytes.now c.cut_at.result _ c.unwrap_or.result c.cut_at.ensures refl refl c.unwrap_or.ensures
